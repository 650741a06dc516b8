use Rattle.std.proofs.Common.{◌≡◌, List, ℕ, [], ◌∷◌, sym, ap, subst, ◌∙◌, refl, rules}
use Rattle.std.specs.Str.{chars}
use Rattle.std.proofs.lemmas.Str.{chars-nil}
use Rattle.ignore_glob.specs.declared.piece.Piece.TheVariants as pieces
use Rattle.ignore_glob.specs.Matching.{is_run, FitsChar, Matches, MatchesSuffix}
use Rattle.ignore_glob.proofs.Matching.{run_on, run_back, suffix_on, suffix_back, suffix_none, suffix_whole, along_longer}
use Rattle.ignore_glob.proofs.part_match.find_stretch.Goals as goal

pub returns-in-Whole : goal.returns-in-Whole
returns-in-Whole c = c.loop-rest.invariant.1.1 (suffix_whole is_run FitsChar (chars c.loop-rest.text.now) c.args.pieces.now c.in-Whole.ensures)

pub returns-in-Run : goal.returns-in-Run
returns-in-Run c = (
  (
    λ m. run_on is_run FitsChar (chars c.loop-rest.text.now) c.args.pieces.now (chars c.in-Run.rest.now) pieces.Run c.in-Run.behind.now c.in-Run.ensures.0 refl (c.loop-rest.invariant.1.0 m),
    λ m. c.loop-rest.invariant.1.1 (run_back is_run FitsChar (chars c.loop-rest.text.now) c.args.pieces.now (chars c.in-Run.rest.now) pieces.Run c.in-Run.behind.now c.in-Run.ensures.0 refl m),
  ),
  c.in-Run.ensures.1,
  along_longer is_run FitsChar (chars c.loop-rest.text.now) c.args.pieces.now (chars c.in-Run.rest.now) pieces.Run c.in-Run.behind.now c.in-Run.ensures.0,
)

pub returns-in-None : goal.returns-in-None
returns-in-None c =
    let none : chars c.loop-rest.text.now ≡ [] = ap chars c.in-None.ensures.cut ∙ chars-nil in
    λ m. suffix_none is_run FitsChar c.args.pieces.now
    (λ w. c.in-Fails.ensures (subst (λ (l : List ℕ). Matches is_run FitsChar l c.args.pieces.now) (sym none) w))
    (subst (λ (l : List ℕ). MatchesSuffix is_run FitsChar l c.args.pieces.now) none (c.loop-rest.invariant.1.0 m))

pub loop-rest-preserved : goal.loop-rest-preserved
loop-rest-preserved c =
    let first = c.in-Some.field-0-0 in
    let rest = chars c.in-Some.behind.now in
    let cut : chars c.loop-rest.text.now ≡ first ∷ rest = c.in-Some.ensures.cut in
    let at = λ (l : List ℕ). MatchesSuffix is_run FitsChar l c.args.pieces.now in (
      search rules,
      (
        λ m. suffix_on is_run FitsChar first rest c.args.pieces.now
            (λ w. c.in-Fails.ensures (subst (λ (l : List ℕ). Matches is_run FitsChar l c.args.pieces.now) (sym cut) w))
            (subst at cut (c.loop-rest.invariant.1.0 m)),
        λ m. c.loop-rest.invariant.1.1 (subst at (sym cut) (suffix_back is_run FitsChar first rest c.args.pieces.now m)),
      ),
    )

use Rattle.std.proofs.Common.{◌≡◌, ◌-◌, ◌≤◌, List, ℕ, length, drop, sym, ap, subst, ◌∙◌, refl, arith}
use Rattle.std.specs.Str.{chars}
use Rattle.std.proofs.lemmas.Bool.{false≢true}
use Rattle.ignore_glob.specs.Matching.{is_run, FitsChar, Matches}
use Rattle.ignore_glob.proofs.Matching.{end_on, end_back}
use Rattle.ignore_glob.proofs.part_match.matches_end.Goals as goal
use Rattle.ignore_glob.proofs.part_match.matches_end.Goals.{After-skip_chars}

pub returns-then-count-pieces : goal.returns-then-count-pieces
returns-then-count-pieces c = (
  λ no. absurd (false≢true no),
  λ m.
      let few : length c.args.pieces.now ≤ length (chars c.args.text.now) = (end_on is_run FitsChar (chars c.args.text.now) c.args.pieces.now c.requires m).0 in
      absurd (omega (arith, few, c.count_chars-count.ensures, c.if-count-pieces.true)),
)

-- what is left behind the characters that are skipped
end_is : (c : After-skip_chars) → chars c.skip_chars.result.now ≡ drop (length (chars c.args.text.now) - length c.args.pieces.now) (chars c.args.text.now)
end_is c = c.skip_chars.ensures ∙ ap (λ n. drop (n - length c.args.pieces.now) (chars c.args.text.now)) c.count_chars-count.ensures

pub returns-in-Whole : goal.returns-in-Whole
returns-in-Whole c =
    let is = end_is (goal.at.returns-in-Whole c).After-skip_chars in (
      λ yes. end_back is_run FitsChar (length (chars c.args.text.now) - length c.args.pieces.now) (chars c.args.text.now) c.args.pieces.now
          (subst (λ (l : List ℕ). Matches is_run FitsChar l c.args.pieces.now) is c.in-Whole.ensures),
      λ m. refl,
    )

pub returns-in-Fails : goal.returns-in-Fails
returns-in-Fails c =
    let is = end_is (goal.at.returns-in-Fails c).After-skip_chars in (
      λ no. absurd (false≢true no),
      λ m. absurd (c.in-Fails.ensures (subst (λ (l : List ℕ). Matches is_run FitsChar l c.args.pieces.now) (sym is)
          (end_on is_run FitsChar (chars c.args.text.now) c.args.pieces.now c.requires m).1)),
    )

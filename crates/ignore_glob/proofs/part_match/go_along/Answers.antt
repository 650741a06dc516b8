use Rattle.std.proofs.Common.{◌≡◌, List, ℕ, [], ◌∷◌, sym, ap, subst, ◌∙◌, refl, rules}
use Rattle.std.specs.Str.{chars}
use Rattle.std.proofs.lemmas.Str.{chars-nil}
use Rattle.std.proofs.lemmas.List.{nil_from_length}
use Rattle.ignore_glob.specs.declared.piece.Piece.{Piece}
use Rattle.ignore_glob.specs.Matching.{is_run, FitsChar}
use Rattle.ignore_glob.specs.Stretch.{Along}
use Rattle.ignore_glob.proofs.Matching.{along_short, along_one}
use Rattle.ignore_glob.proofs.part_match.go_along.Goals as goal

-- the stretch at what the two texts begin with
at : (text rest : List ℕ) (ps left : List Piece) (xs : List ℕ) (qs : List Piece) → chars rest ≡ xs → left ≡ qs → Along is_run FitsChar text ps (chars rest) left → Along is_run FitsChar text ps xs qs
at text rest ps left xs qs e f a = subst (λ (l : List Piece). Along is_run FitsChar text ps xs l) f (subst (λ (l : List ℕ). Along is_run FitsChar text ps l left) e a)

pub returns-in-None : goal.returns-in-None
returns-in-None c =
    let a = at (chars c.args.text.now) c.loop-piece.rest.now c.args.pieces.now c.loop-piece.left.now [] (c.in-Some.piece.now ∷ c.in-Some.behind.now) (ap chars c.in-None.ensures.cut ∙ chars-nil) c.in-Some.ensures.cases.0 c.loop-piece.invariant.1 in
    along_short is_run FitsChar (chars c.args.text.now) c.args.pieces.now c.in-Some.piece.now c.in-Some.behind.now a (sym c.is_run.ensures ∙ c.if-is_run.false)

pub loop-piece-preserved : goal.loop-piece-preserved
loop-piece-preserved c =
    let a = at (chars c.args.text.now) c.loop-piece.rest.now c.args.pieces.now c.loop-piece.left.now (c.in-Some-split_char.c ∷ chars c.in-Some-split_char.after.now) (c.in-Some.piece.now ∷ c.in-Some.behind.now) c.in-Some-split_char.ensures.cut c.in-Some.ensures.cases.0 c.loop-piece.invariant.1 in
    (search rules, along_one is_run FitsChar (chars c.args.text.now) c.args.pieces.now c.in-Some-split_char.c (chars c.in-Some-split_char.after.now) c.in-Some.piece.now c.in-Some.behind.now a (sym c.is_run.ensures ∙ c.if-is_run.false) (search rules))

pub returns-in-None-split_char : goal.returns-in-None-split_char
returns-in-None-split_char c =
    let a = at (chars c.args.text.now) c.loop-piece.rest.now c.args.pieces.now c.loop-piece.left.now [] [] (ap chars c.in-None-split_char.ensures.cut ∙ chars-nil) (nil_from_length c.loop-piece.left.now c.in_default.ensures.cases) c.loop-piece.invariant.1 in
    a.back refl

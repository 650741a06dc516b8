use Rattle.std.proofs.Common.{ℕ, List, [], ◌∷◌, arith, inl, inr, refl, ap, ◌∙◌}
use Rattle.std.proofs.lemmas.Str.{chars-nil}
use Rattle.std.specs.Str.{chars}
use Rattle.ignore_glob.proofs.Pieces.{plain_from_other}
use Rattle.ignore_glob.proofs.read_part.take_piece.Goals as goal

pub returns-in-Some : goal.returns-in-Some
returns-in-Some c = (c.args.c ∷ c.in-Some.escaped ∷ [], ap (λ (l : List ℕ). c.args.c ∷ l) c.in-Some.ensures.cut, inr (ap (λ (n : ℕ). n ∷ c.in-Some.escaped ∷ []) c.in-92.is))

pub returns-in-None : goal.returns-in-None
returns-in-None c = inr (c.in-92.is, ap chars c.in-None.ensures.cut ∙ chars-nil)

pub returns-in_default : goal.returns-in_default
returns-in_default c = (c.args.c ∷ [], refl, inl (refl, plain_from_other c.args.c (omega arith) (omega arith) (omega arith) (omega arith) (omega arith)))

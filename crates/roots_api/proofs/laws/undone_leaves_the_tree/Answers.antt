use Rattle.std.proofs.Common.{◌≡◌, List, ℕ, refl, sym, subst}
use Rattle.roots_api.specs.Steps.{after}
use Rattle.roots_api.specs.declared.answer.Answer.{Answer}
use Rattle.roots_api.proofs.Expecting.{undone, others_leave}
use Rattle.roots_api.proofs.laws.undone_leaves_the_tree.Goals as goal

pub returns-clause-undone : goal.returns-clause-undone
returns-clause-undone c = undone

pub returns-clause-others : goal.returns-clause-others
returns-clause-others c = others_leave

pub returns-clause-failed : goal.returns-clause-failed
returns-clause-failed c s id op answer h = let P : Answer (List ℕ) → Type 0 = λ a. after s id op a ≡ s in subst P (sym h) refl

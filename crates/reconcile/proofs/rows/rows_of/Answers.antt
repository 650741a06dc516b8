use Rattle.std.proofs.Common.{◌≡◌, List, [], IfOk, ap, subst, ◌∙◌}
use Rattle.std.specs.FinMap as trees
use Rattle.mode_rules.specs.Trees.{Trees}
use Rattle.reconcile.specs.declared.part.Part.TheVariants as parts
use Rattle.reconcile.specs.Rows.{PathThree, joined}
use Rattle.reconcile.proofs.Joining.{joined_rows}
use Rattle.reconcile.proofs.rows.rows_of.Goals as goal

pub returns : goal.returns
returns c =
    let t : Trees = record { ancestor = c.args.ancestor.now; alpha = c.args.alpha.now; beta = c.args.beta.now } in
    let first : c.as_slice-2.result.now ≡ joined parts.Ancestor [] (trees.entries t.ancestor) =
    c.as_slice-2.ensures.value ∙ c.in_ok-first.ensures ∙ ap (λ (rows : List PathThree). joined parts.Ancestor rows (trees.entries t.ancestor)) (c.as_slice.ensures.value ∙ c.new-none.ensures.items) in
    let second : c.as_slice-3.result.now ≡ joined parts.Alpha (joined parts.Ancestor [] (trees.entries t.ancestor)) (trees.entries t.alpha) =
    c.as_slice-3.ensures.value ∙ c.in_ok-second.ensures ∙ ap (λ (rows : List PathThree). joined parts.Alpha rows (trees.entries t.alpha)) first in
    subst (λ (rows : List PathThree). IfOk c.joined-3.result (λ all. all.items ≡ rows))
    (ap (λ (rows : List PathThree). joined parts.Beta rows (trees.entries t.beta)) second ∙ joined_rows t)
    c.joined-3.ensures

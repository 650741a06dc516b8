use Rattle.std.proofs.Common.{◌∙◌, sym, ap, Some}
use Rattle.sync_path.specs.Buffer.{names_in}
use Rattle.sync_path.specs.Path.{parent_of}
use Rattle.sync_path.proofs.Ends.{parent_from_split}
use Rattle.sync_path.proofs.path.Path.parent.Goals as goal

pub invariant_of-result : goal.invariant_of-result
invariant_of-result c = rw c.in-Ok.ensures.ok ((parent_from_split _ _ c.in-Some.field-0-1.now c.self.invariant (rw c.as_str.ensures.value at c.in-Some.ensures)).0)

pub returns-in-Ok : goal.returns-in-Ok
returns-in-Ok c = record {
  value =
      ap (λ bs. Some (names_in bs)) c.in-Ok.ensures.ok
      ∙ sym (parent_from_split _ _ c.in-Some.field-0-1.now c.self.invariant (rw c.as_str.ensures.value at c.in-Some.ensures)).1 ∙ ap parent_of c.self.view_is;
}

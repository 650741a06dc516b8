use Rattle.std.proofs.Common.{◌∙◌, sym, ap}
use Rattle.sync_path.specs.Path.{last_name}
use Rattle.sync_path.proofs.Ends.{last_from_split, name_from_split}
use Rattle.sync_path.proofs.path.Path.last_name.Goals as goal

pub returns-clause-value : goal.returns-clause-value
returns-clause-value c =
    sym (last_from_split _ c.in_ok-name.field-0-0.now _ (rw c.as_str.ensures.value at c.in_ok-name.ensures)) ∙ ap last_name c.self.view_is

pub returns-clause-name : goal.returns-clause-name
returns-clause-name c = name_from_split _ c.in_ok-name.field-0-0.now _ c.self.invariant (rw c.as_str.ensures.value at c.in_ok-name.ensures)

use Rattle.std.proofs.Common.{◌≡◌, ◌∙◌, ◌+◌, true, false, length, sym, rules}
use Rattle.std.proofs.lemmas.Result.{IfOk-weaker}
use Rattle.sync_path.specs.Path.{is_under}
use Rattle.entry_tree.proofs.Children.{name_is_last, no_name_by_depth, no_name_aside}
use Rattle.entry_tree.proofs.names.child_name.Goals as goal

pub returns-then-depth : goal.returns-then-depth
returns-then-depth c = sym (no_name_by_depth c.args.below.now c.args.path.now (λ e. search rules))

pub returns-then-not-is_under : goal.returns-then-not-is_under
returns-then-not-is_under c = let aside : is_under c.args.below.now c.args.path.now ≡ false = search rules in sym (no_name_aside c.args.below.now c.args.path.now aside)

pub returns : goal.returns
returns c =
    let lies : is_under c.args.below.now c.args.path.now ≡ true = search rules in
    let deep : length c.args.below.now ≡ length c.args.path.now + 1 = search rules in
    IfOk-weaker c.copy_last_name.result _ _ (λ name is. is ∙ sym (name_is_last c.args.below.now c.args.path.now lies deep)) c.copy_last_name.ensures.value

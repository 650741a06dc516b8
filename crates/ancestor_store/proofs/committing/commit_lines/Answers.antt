use Rattle.std.proofs.Common.{◌≡◌, Some, subst, sym, ◌∙◌, ap}
use Rattle.mode_rules.specs.AncestorFold.{with_lines}
use Rattle.mode_rules.proofs.Folding.{fold_closed}
use Rattle.ancestor_store.specs.Settling.{IsFront, IsUptake}
use Rattle.ancestor_store.proofs.Settled.{back_settles, rest_settles, went}
use Rattle.ancestor_store.proofs.committing.commit_lines.Goals as goal

pub returns-then-is_err-clause-refused : goal.returns-then-is_err-clause-refused
returns-then-is_err-clause-refused g c = λ to folds.
    let is : IsUptake c.args.tree.now to c.in-Ok.uptake = c.in-Ok.ensures.steps to folds in
    let front : IsFront c.in-Ok.uptake.adds c.add.ensures.front.0 c.args.tree.now c.add.new.tree =
    subst (λ lines. IsFront lines c.add.ensures.front.0 c.args.tree.now c.add.new.tree) c.as_slice.ensures c.add.ensures.front.1 in
    c.settle.ensures c.args.tree.now c.of.ensures.closed
    (back_settles c.args.tree.now to c.add.new.tree c.in-Ok.uptake c.of.ensures.closed (fold_closed c.args.tree.now to c.args.lines.now folds c.of.ensures.closed) is c.add.ensures.front.0 front)

pub returns-in-Ok-append-clause-taken : goal.returns-in-Ok-append-clause-taken
returns-in-Ok-append-clause-taken g c = λ to folds.
    let is : IsUptake c.args.tree.now to c.in-Ok.uptake = c.in-Ok.ensures.steps to folds in
    let closed = fold_closed c.args.tree.now to c.args.lines.now folds c.of.ensures.closed in
    let all : with_lines c.args.tree.now c.as_slice.result.now ≡ Some c.add.new.tree = went c.add.result (sym c.is_err.ensures.value ∙ c.if-is_err.false) c.add.ensures.all in
    c.settle-in-Ok-append.ensures to closed
    (rest_settles c.args.tree.now to c.add.new.tree c.in-Ok.uptake c.of.ensures.closed closed is (ap (with_lines c.args.tree.now) (sym c.as_slice.ensures) ∙ all))

pub returns-clause-refused : goal.returns-clause-refused
returns-clause-refused g c = λ to folds.
    let is : IsUptake c.args.tree.now to c.in-Ok.uptake = c.in-Ok.ensures.steps to folds in
    let front : IsFront c.in-Ok.uptake.adds c.add.ensures.front.0 c.args.tree.now c.add.new.tree =
    subst (λ lines. IsFront lines c.add.ensures.front.0 c.args.tree.now c.add.new.tree) c.as_slice.ensures c.add.ensures.front.1 in
    c.settle-in-Err.ensures c.args.tree.now c.of.ensures.closed
    (back_settles c.args.tree.now to c.add.new.tree c.in-Ok.uptake c.of.ensures.closed (fold_closed c.args.tree.now to c.args.lines.now folds c.of.ensures.closed) is c.add.ensures.front.0 front)

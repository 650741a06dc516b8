use Rattle.std.proofs.Common.{rules, ◌≡◌}
use Rattle.frame_text.specs.Folds.{Folded}
use Rattle.ancestor_store.proofs.Committed.{agree_taken}
use Rattle.ancestor_store.proofs.fold.Fold.commit.Goals as goal

pub returns-in-Agree-clause-taken : goal.returns-in-Agree-clause-taken
returns-in-Agree-clause-taken g c =
    let old : Folded = record { tree = c.self.inside.tree; served = c.self.inside.served } in
    let same : c.args.self.now ≡ old = search rules in
    agree_taken c.args.self.now old c.args.frame.now c.in-Agree.run' c.in-Agree.cycle c.in-Agree.lines c.as_slice.result.now c.commit_lines.new.tree c.commit_lines.result same c.in-Agree.is
    c.as_slice.ensures.lines c.requires c.commit_lines.ensures.taken

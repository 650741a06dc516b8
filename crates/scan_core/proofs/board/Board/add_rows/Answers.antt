use Rattle.std.proofs.Common.{ap, ◌∙◌}
use Rattle.scan_core.specs.Board.{with_row}
use Rattle.scan_core.proofs.Seeing.{one_row_more}
use Rattle.scan_core.proofs.board.Board.add_rows.Goals as goal

pub loop-name-preserved : goal.loop-name-preserved
loop-name-preserved c =
    one_row_more c.args.rules.now c.args.cache.now c.args.folder.now c.args.self.now c.args.rows.now c.loop-name.name-index c.loop-name-item.result c.loop-name.self c.add_row.new.self c.loop-name-test.true c.loop-name.invariant
    (c.in_ok-add_row.ensures ∙ ap (with_row c.args.rules.now c.args.cache.now c.args.folder.now c.loop-name.self) c.loop-name-item.is)

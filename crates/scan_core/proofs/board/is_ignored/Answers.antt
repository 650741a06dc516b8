use Rattle.scan_core.proofs.Ignoring.{decided}
use Rattle.scan_core.proofs.board.is_ignored.Goals as goal

pub returns : goal.returns
returns c = decided c.args.path.now c.args.is_dir c.args.rules.now c.decide.result c.decide.ensures

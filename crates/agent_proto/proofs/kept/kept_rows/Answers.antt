use Rattle.agent_proto.proofs.KeptRows.{rows_few}
use Rattle.agent_proto.proofs.kept.kept_rows.Goals as goal

pub returns-clause-few : goal.returns-clause-few
returns-clause-few c = rows_few c.args.rows.now c.requires

use Rattle.ignore_glob.proofs.Parts.{fault_within}
use Rattle.ignore_glob.proofs.read_part.read_part.Goals as goal

pub returns-in-Err : goal.returns-in-Err
returns-in-Err c = fault_within c.args.text.now c.in-Err.fault c.utf8.text c.in-Err.ensures

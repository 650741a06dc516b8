use Rattle.command_words.proofs.Values.{kept_none}
use Rattle.command_words.specs.RootName.{has_root_name_form}
use Rattle.command_words.proofs.root_name.RootName.read.Goals as goal

pub returns-in-Err : goal.returns-in-Err
returns-in-Err c = kept_none c.args.word.now (has_root_name_form c.args.word.now) c.in-Err.ensures.cases.0

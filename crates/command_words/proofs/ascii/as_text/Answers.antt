use Rattle.command_words.proofs.Classes.{labels_are_text}
use Rattle.command_words.proofs.ascii.as_text.Goals as goal

pub unreachable-requires : goal.unreachable-requires
unreachable-requires c = c.in-Err.ensures.cases.0 (labels_are_text c.args.word.now c.requires)

use Rattle.std.proofs.Common.{lit<}
use Rattle.std.proofs.lemmas.Str.Pattern.{split_parts}
use Rattle.sync_path.proofs.BufferParts.{first_from_split}
use Rattle.sync_path.proofs.names.first_name.Goals as goal

pub returns : goal.returns
returns c = first_from_split c.args.buffer.now c.split_once.result c.requires (split_parts 0 c.args.buffer.now c.split_once.result c.split_once.ensures.cases (lit< tt))

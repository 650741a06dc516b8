use Rattle.std.proofs.Common.{lit<}
use Rattle.std.proofs.lemmas.Option.{MatchOption-at_some, MatchOption-at_none}
use Rattle.std.proofs.lemmas.Str.Pattern.{strip_suffix_char}
use Rattle.sync_path.proofs.BufferParts.{empty_from_end}
use Rattle.sync_path.proofs.path.split_last.Goals as goal

pub returns-in-Some : goal.returns-in-Some
returns-in-Some c =
    c.split_behind_last.ensures c.args.buffer.now
    (MatchOption-at_some _ _ c.in-Some.all c.in-Some.is (strip_suffix_char 0 c.args.buffer.now c.strip_suffix.result c.strip_suffix.ensures.cases (lit< tt)))

pub returns-in-None : goal.returns-in-None
returns-in-None c =
    empty_from_end c.args.buffer.now c.requires.whole
    (MatchOption-at_none _ _ c.in-None.is (strip_suffix_char 0 c.args.buffer.now c.strip_suffix.result c.strip_suffix.ensures.cases (lit< tt)))

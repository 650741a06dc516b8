use Rattle.std.proofs.Common.{string_bytes}
use Rattle.frame_text.specs.Heads.{words_of_head}
use Rattle.frame_text.specs.declared.head.Head.TheVariants.{Whole}
use Rattle.frame_text.proofs.Written.{all_written}
use Rattle.frame_text.proofs.write.whole_text.Goals as goal

pub returns : goal.returns
returns c = all_written (words_of_head (Whole c.args.run c.args.cycle c.args.served)) c.args.lines.now (string_bytes c.in_ok-text.text) (string_bytes c.write_lines.new.text) c.in_ok-text.ensures c.in_ok-write_lines.ensures

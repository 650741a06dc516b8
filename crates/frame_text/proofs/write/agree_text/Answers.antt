use Rattle.std.proofs.Common.{string_bytes}
use Rattle.frame_text.specs.Heads.{words_of_head}
use Rattle.frame_text.specs.declared.head.Head.TheVariants.{Agree}
use Rattle.frame_text.proofs.Written.{all_written}
use Rattle.frame_text.proofs.write.agree_text.Goals as goal

pub returns : goal.returns
returns c = all_written (words_of_head (Agree c.args.version c.args.run c.args.cycle)) c.args.lines.now (string_bytes c.in_ok-text.text) (string_bytes c.write_lines.new.text) c.in_ok-text.ensures c.in_ok-write_lines.ensures

use Rattle.std.proofs.Common.{sym}
use Rattle.frame_text.proofs.Parts.{cuts_at_newline, cuts_at_end}
use Rattle.frame_text.proofs.cutting.cut.Goals as goal

pub returns-in-Some : goal.returns-in-Some
returns-in-Some c = cuts_at_newline c.args.text.now c.args.at _ _ c.in-Some.len c.requires c.split_at.ensures.back c.split_at-in-Some.ensures.front (sym c.in-Some.ensures)

pub returns-in-None : goal.returns-in-None
returns-in-None c = cuts_at_end c.args.text.now c.args.at _ c.requires c.split_at.ensures.back (sym c.in-None.ensures)

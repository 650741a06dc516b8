use Rattle.reply_text.proofs.report_rows.write_cause.Goals as goal

pub returns-in-DigestDiffers : goal.returns-in-DigestDiffers
returns-in-DigestDiffers c = rw c.in-DigestDiffers.is c.write_pieces-in-DigestDiffers.ensures

pub returns-in-NotStaged : goal.returns-in-NotStaged
returns-in-NotStaged c = rw c.in-NotStaged.is c.write_pieces-in-NotStaged.ensures

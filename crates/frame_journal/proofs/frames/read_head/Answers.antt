use Rattle.std.proofs.Common.{drop, arith}
use Rattle.std.proofs.lemmas.List.{length-drop}
use Rattle.frame_journal.proofs.Told.{told_from_two}
use Rattle.frame_journal.proofs.Found.{read_front}
use Rattle.frame_journal.proofs.frames.read_head.Goals as goal

pub returns-clause-head : goal.returns-clause-head
returns-clause-head g c =
    told_from_two (g.D.Disk.history c.args.disk.now) _ _ _ (λ now inside reads.
    c.head_of.ensures (drop c.args.place now.bytes) (omega (arith, inside, length-drop c.args.place now.bytes)) (read_front now.bytes c.args.place _ c.in_ok-got.got _ reads))
    c.requires c.in_ok-got.ensures.bytes

use Rattle.std.proofs.Common.{◌≡◌, ◌+◌, ◌≤◌, ◌<◌, length, take, drop, IsSomeAnd, subst, arith}
use Rattle.std.proofs.lemmas.List.{length-drop}
use Rattle.disk_model.specs.Content.{Content}
use Rattle.disk_model.specs.Disk.{OnTold}
use Rattle.frame_journal.specs.Reading.{IsHeadOf}
use Rattle.frame_journal.proofs.Told.{told_from_two, told_from_three}
use Rattle.frame_journal.proofs.Found.{long_bad, whole_frame}
use Rattle.frame_journal.proofs.frames.read_frame.Goals as goal
use Rattle.frame_journal.proofs.frames.read_frame.Goals.{then-left-via-then-left, then-left-via-else-left+then-count-left}

pub returns-then-left-clause-found : goal.returns-then-left-clause-found
returns-then-left-clause-found g c =
    let long : c.args.end ≤ c.args.place + (9 + c.in-Length.count) = elim c.then-left.branch [ then-left-via-then-left w ↦ omega arith | then-left-via-else-left+then-count-left w ↦ omega arith ] in
    told_from_two (g.D.Disk.history c.args.disk.now) (λ now. IsHeadOf c.in_ok-read_head.field-0 (drop c.args.place now.bytes)) (λ now. length now.bytes ≡ c.args.end) _
    (λ now head is.
    long_bad (drop c.args.place now.bytes) c.in-Length.count (subst (λ h. IsHeadOf h (drop c.args.place now.bytes)) c.in-Length.is head) (omega (arith, long, is, length-drop c.args.place now.bytes)))
    c.in_ok-read_head.ensures.head c.requires.told

pub returns-in-Some-clause-found : goal.returns-in-Some-clause-found
returns-in-Some-clause-found g c =
    let history = g.D.Disk.history c.args.disk.now in
    let place = c.args.place in
    let count = c.in-Length.count in
    let Bytes : Content → Type 0 = λ now. place + 9 + count ≤ length now.bytes → IsSomeAnd c.in_ok-payload.field-0 (λ payload. payload.items ≡ take count (drop (place + 9) now.bytes)) in
    let bytes : OnTold history Bytes = subst (λ l. OnTold l Bytes) c.in_ok-read_head.ensures.same c.in_ok-payload.ensures.bytes in
    told_from_three history (λ now. IsHeadOf c.in_ok-read_head.field-0 (drop place now.bytes)) (λ now. length now.bytes ≡ c.args.end) Bytes _
    (λ now head is reads.
    let within : place + 9 + count ≤ length now.bytes = omega (arith, is) in
    let more : count + 9 + place < length now.bytes = omega (arith, is) in
    whole_frame now.bytes place count c.in-Some.payload.items (subst (λ h. IsHeadOf h (drop place now.bytes)) c.in-Length.is head) more
    (subst (λ o. IsSomeAnd o (λ payload. payload.items ≡ take count (drop (place + 9) now.bytes))) c.in-Some.is (reads within)))
    c.in_ok-read_head.ensures.head c.requires.told bytes

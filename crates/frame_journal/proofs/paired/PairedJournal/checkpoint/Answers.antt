use Rattle.std.proofs.Common.{◌≡◌, ◌+◌, ◌-◌, ◌^◌, ◌<◌, ℕ, not, is_some, ◌||◌, Option, Some, List, drop, refl, sym, ap, subst, ◌∙◌, arith}
use Rattle.frame_journal.specs.Generation.{generation_of, without_generation}
use Rattle.frame_journal.specs.Reading.{payloads_of}
use Rattle.frame_journal.specs.PairState.{PairState}
use Rattle.frame_journal.specs.PairCalls.{Checkpointed, CheckpointFailed, IsPairStep}
use Rattle.frame_journal.specs.Older.{behind_first}
use Rattle.frame_journal.specs.SpareState.{IsPairSound, refused_frames, refused_at_step, pending_with, pair_of}
use Rattle.frame_journal.specs.JournalState.{JournalState}
use Rattle.frame_journal.specs.declared.spare.Spare.{Spare}
use Rattle.frame_journal.proofs.Tellings.{checkpoint_generation, checkpoint_without}
use Rattle.frame_journal.proofs.PairStepping.{pair_refused}
use Rattle.frame_journal.proofs.Checkpointed.{idle_is, moved, refused_is, refused_sound, refused_step, done_sound, done_step}
use Rattle.frame_journal.proofs.paired.PairedJournal.checkpoint.Goals as goal

pub returns-then-is_refused-clause-step : goal.returns-then-is_refused-clause-step
returns-then-is_refused-clause-step g c =
    let j = c.self.inside in
    rw (← c.self.view_is) (pair_refused g.D.Disk.history j.journal j.spare j.on_second j.standing c.self.invariant)

pub returns-then-is_closed-clause-step : goal.returns-then-is_closed-clause-step
returns-then-is_closed-clause-step g c =
    let j = c.self.inside in
    rw (← c.self.view_is) (pair_refused g.D.Disk.history j.journal j.spare j.on_second j.standing c.self.invariant)

pub returns-in-Err-clause-step : goal.returns-in-Err-clause-step
returns-in-Err-clause-step g c =
    let j = c.self.inside in
    rw (← c.self.view_is) (pair_refused g.D.Disk.history j.journal j.spare j.on_second j.standing c.self.invariant)

pub invariant_of-self : goal.invariant_of-self
invariant_of-self g c =
    let h = g.D.Disk.history in
    let j = c.self.inside in
    let b = j.on_second in
    let next = c.write_checkpoint.new.disk in
    let qs = payloads_of c.args.payloads.now in
    let n = c.generation_of-generation.result in
    let v = c.in-Ok.entry.frames in
    let idle = idle_is j.standing (sym c.is_refused.ensures ∙ c.if-is_refused.false) in
    let none = c.is_closed.ensures.alone c.if-is_closed.false in
    let sound = subst (λ (s : Spare). IsPairSound h j.journal j.spare b s) idle c.self.invariant in
    let number : n ≡ generation_of j.journal.payloads = c.generation_of-generation.ensures ∙ ap generation_of c.frames.ensures in
    let bound : generation_of j.journal.payloads < 2 ^ 64 - 1 = subst (λ (p : PairState g.row.D.Denot). p.generation < 2 ^ 64 - 1) (sym c.self.view_is) c.requires in
    let spelt : c.behind_gate.result.now ≡ behind_first (payloads_of v.items) = c.behind_gate.ensures ∙ ap (drop 1) (c.deref.ensures.value ∙ c.in-Ok.ensures.bytes) in
    let done = done_sound h j.journal j.spare next b c.write_checkpoint.result v c.behind_gate.result.now n qs sound c.write_checkpoint.ensures.tells none c.in-Ok.ensures.frames number bound c.in-Ok.ensures.fit spelt c.write_checkpoint.ensures.leaves c.write_checkpoint.ensures.moments (c.is_closed.ensures.rests c.if-is_closed.false) c.in-Ok-write_checkpoint.ensures.rests in
    let standing_as = subst (λ (s : Spare). IsPairSound h (moved next (payloads_of v.items)) j.journal.disk (not b) s) (sym idle) done in
    let spare_as = subst (λ (d : g.row.D.Denot). IsPairSound h (moved next (payloads_of v.items)) d (not b) j.standing) (sym c.move_to.ensures.there) standing_as in
    subst (λ (k : JournalState g.row.D.Denot). IsPairSound h k c.move_to.new.disk (not b) j.standing) (sym c.move_to.ensures.here) spare_as

pub returns-in-Ok-write_checkpoint-clause-step : goal.returns-in-Ok-write_checkpoint-clause-step
returns-in-Ok-write_checkpoint-clause-step g c =
    let h = g.D.Disk.history in
    let j = c.self.inside in
    let b = j.on_second in
    let next = c.write_checkpoint.new.disk in
    let qs = payloads_of c.args.payloads.now in
    let n = c.generation_of-generation.result in
    let v = c.in-Ok.entry.frames in
    let idle = idle_is j.standing (sym c.is_refused.ensures ∙ c.if-is_refused.false) in
    let none = c.is_closed.ensures.alone c.if-is_closed.false in
    let sound = subst (λ (s : Spare). IsPairSound h j.journal j.spare b s) idle c.self.invariant in
    let number : n ≡ generation_of j.journal.payloads = c.generation_of-generation.ensures ∙ ap generation_of c.frames.ensures in
    let bound : generation_of j.journal.payloads < 2 ^ 64 - 1 = subst (λ (p : PairState g.row.D.Denot). p.generation < 2 ^ 64 - 1) (sym c.self.view_is) c.requires in
    let spelt : c.behind_gate.result.now ≡ behind_first (payloads_of v.items) = c.behind_gate.ensures ∙ ap (drop 1) (c.deref.ensures.value ∙ c.in-Ok.ensures.bytes) in
    let done = done_step h j.journal j.spare next b c.write_checkpoint.result v c.behind_gate.result.now n qs sound c.write_checkpoint.ensures.tells none c.in-Ok.ensures.frames number bound c.in-Ok.ensures.fit spelt c.write_checkpoint.ensures.leaves c.write_checkpoint.ensures.moments (c.is_closed.ensures.rests c.if-is_closed.false) c.in-Ok-write_checkpoint.ensures.rests in
    let standing_as = subst (λ (s : Spare). IsPairStep h (pair_of j.journal j.spare b s) (Checkpointed qs) (pair_of (moved next (payloads_of v.items)) j.journal.disk (not b) s)) (sym idle) done in
    let spare_as = subst (λ (d : g.row.D.Denot). IsPairStep h (pair_of j.journal j.spare b j.standing) (Checkpointed qs) (pair_of (moved next (payloads_of v.items)) d (not b) j.standing)) (sym c.move_to.ensures.there) standing_as in
    rw (← c.self.view_is)
    (subst (λ (k : JournalState g.row.D.Denot). IsPairStep h (pair_of j.journal j.spare b j.standing) (Checkpointed qs) (pair_of k c.move_to.new.disk (not b) j.standing)) (sym c.move_to.ensures.here) spare_as)

pub returns-in-Ok-write_checkpoint-clause-ok : goal.returns-in-Ok-write_checkpoint-clause-ok
returns-in-Ok-write_checkpoint-clause-ok g c =
    ap (λ (k : JournalState g.row.D.Denot). without_generation k.payloads) c.move_to.ensures.here ∙ ap without_generation c.in-Ok.ensures.frames
    ∙ checkpoint_without (c.generation_of-generation.result + 1) (payloads_of c.args.payloads.now)

pub returns-in-Ok-write_checkpoint-clause-raised : goal.returns-in-Ok-write_checkpoint-clause-raised
returns-in-Ok-write_checkpoint-clause-raised g c =
    let n = c.generation_of-generation.result in
    let number : n ≡ generation_of c.self.inside.journal.payloads = c.generation_of-generation.ensures ∙ ap generation_of c.frames.ensures in
    let bound : generation_of c.self.inside.journal.payloads < 2 ^ 64 - 1 = subst (λ (p : PairState g.row.D.Denot). p.generation < 2 ^ 64 - 1) (sym c.self.view_is) c.requires in
    let small : n + 1 < 2 ^ 64 = omega (arith, number, bound) in
    ap (λ (k : JournalState g.row.D.Denot). generation_of k.payloads) c.move_to.ensures.here ∙ ap generation_of c.in-Ok.ensures.frames
    ∙ checkpoint_generation (n + 1) (payloads_of c.args.payloads.now) small ∙ ap (λ k. k + 1) number ∙ ap (λ (p : PairState g.row.D.Denot). p.generation + 1) c.self.view_is

pub invariant_of-self-in-Err-write_checkpoint : goal.invariant_of-self-in-Err-write_checkpoint
invariant_of-self-in-Err-write_checkpoint g c =
    let h = g.D.Disk.history in
    let j = c.self.inside in
    let b = j.on_second in
    let next = c.write_checkpoint.new.disk in
    let qs = payloads_of c.args.payloads.now in
    let n = c.generation_of-generation.result in
    let v = c.in-Ok.entry.frames in
    let idle = idle_is j.standing (sym c.is_refused.ensures ∙ c.if-is_refused.false) in
    let none = c.is_closed.ensures.alone c.if-is_closed.false in
    let sound = subst (λ (s : Spare). IsPairSound h j.journal j.spare b s) idle c.self.invariant in
    let number : n ≡ generation_of j.journal.payloads = c.generation_of-generation.ensures ∙ ap generation_of c.frames.ensures in
    let bound : generation_of j.journal.payloads < 2 ^ 64 - 1 = subst (λ (p : PairState g.row.D.Denot). p.generation < 2 ^ 64 - 1) (sym c.self.view_is) c.requires in
    let spelt : c.behind_gate.result.now ≡ behind_first (payloads_of v.items) = c.behind_gate.ensures ∙ ap (drop 1) (c.deref.ensures.value ∙ c.in-Ok.ensures.bytes) in
    subst (λ (s : Spare). IsPairSound h j.journal next b s) (sym c.refused.ensures) (refused_sound h j.journal j.spare next b _ v c.behind_gate.result.now n qs sound c.write_checkpoint.ensures.tells none c.in-Ok.ensures.frames number bound c.in-Ok.ensures.fit spelt c.in-Err-write_checkpoint.ensures.leaves c.in-Err-write_checkpoint.ensures.moments c.in-Err-write_checkpoint.fault refl)

pub returns-clause-step : goal.returns-clause-step
returns-clause-step g c =
    let h = g.D.Disk.history in
    let j = c.self.inside in
    let b = j.on_second in
    let next = c.write_checkpoint.new.disk in
    let qs = payloads_of c.args.payloads.now in
    let n = c.generation_of-generation.result in
    let v = c.in-Ok.entry.frames in
    let idle = idle_is j.standing (sym c.is_refused.ensures ∙ c.if-is_refused.false) in
    let none = c.is_closed.ensures.alone c.if-is_closed.false in
    let sound = subst (λ (s : Spare). IsPairSound h j.journal j.spare b s) idle c.self.invariant in
    let number : n ≡ generation_of j.journal.payloads = c.generation_of-generation.ensures ∙ ap generation_of c.frames.ensures in
    let bound : generation_of j.journal.payloads < 2 ^ 64 - 1 = subst (λ (p : PairState g.row.D.Denot). p.generation < 2 ^ 64 - 1) (sym c.self.view_is) c.requires in
    let spelt : c.behind_gate.result.now ≡ behind_first (payloads_of v.items) = c.behind_gate.ensures ∙ ap (drop 1) (c.deref.ensures.value ∙ c.in-Ok.ensures.bytes) in
    let done = refused_step h j.journal j.spare next b _ v c.behind_gate.result.now n qs sound c.write_checkpoint.ensures.tells none c.in-Ok.ensures.frames number bound c.in-Ok.ensures.fit spelt c.in-Err-write_checkpoint.ensures.leaves c.in-Err-write_checkpoint.ensures.moments c.in-Err-write_checkpoint.fault refl in
    let standing_as = subst (λ (s : Spare). IsPairStep h (pair_of j.journal j.spare b s) (CheckpointFailed qs) (pair_of j.journal next b (refused_at_step c.in-Err-write_checkpoint.fault v))) (sym idle) done in
    rw (← c.self.view_is) (subst (λ (s : Spare). IsPairStep h (pair_of j.journal j.spare b j.standing) (CheckpointFailed qs) (pair_of j.journal next b s)) (sym c.refused.ensures) standing_as)

pub returns-clause-fault_closes : goal.returns-clause-fault_closes
returns-clause-fault_closes g c = λ _.
    let v = c.in-Ok.entry.frames in
    let qs = payloads_of c.args.payloads.now in
    let closed = c.self.inside.journal.closed in
    let pending = c.self.inside.journal.pending in
    let frames_are : refused_frames c.refused.result ≡ Some (payloads_of v.items) = ap refused_frames c.refused.ensures ∙ refused_is c.in-Err-write_checkpoint.fault v in
    let without : without_generation (payloads_of v.items) ≡ qs = ap without_generation c.in-Ok.ensures.frames ∙ checkpoint_without (c.generation_of-generation.result + 1) qs in
    (ap (λ (o : Option (List (List ℕ))). is_some o || closed) frames_are, ap (λ (o : Option (List (List ℕ))). pending_with o pending) frames_are ∙ ap (λ l. Some l) without)

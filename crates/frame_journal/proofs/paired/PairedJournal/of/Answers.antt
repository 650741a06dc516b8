use Rattle.std.proofs.Common.{true, false, sym, ap, subst, ◌∙◌, arith}
use Rattle.frame_journal.specs.Generation.{generation_of}
use Rattle.frame_journal.specs.PairState.{LosesTo}
use Rattle.frame_journal.specs.SpareState.{IsPairSound}
use Rattle.frame_journal.specs.declared.spare.Spare.TheVariants as standing
use Rattle.frame_journal.proofs.Pairing.{pair_leaves}
use Rattle.frame_journal.proofs.Checkpointed.{opened_sound}
use Rattle.frame_journal.proofs.paired.PairedJournal.of.Goals as goal

pub invariant_of-t-12 : goal.invariant_of-t-12
invariant_of-t-12 g c =
    let h = g.D.Disk.history in
    let one = c.generation_of.ensures ∙ ap generation_of c.frames.ensures in
    let two = c.generation_of-2.ensures ∙ ap generation_of c.frames-2.ensures in
    let less : LosesTo true (generation_of c.args.second.payloads) (generation_of c.args.first.payloads) = omega (arith, one, two, c.if-generation_of.true) in
    subst (λ (d : g.row.D.Denot). IsPairSound h c.args.second d true standing.Idle) (sym c.into_disk.ensures) (opened_sound h c.args.second c.args.first true c.requires.alone.1 c.requires.second c.requires.first less)

pub invariant_of-result : goal.invariant_of-result
invariant_of-result g c =
    let h = g.D.Disk.history in
    let one = c.generation_of.ensures ∙ ap generation_of c.frames.ensures in
    let two = c.generation_of-2.ensures ∙ ap generation_of c.frames-2.ensures in
    let less : LosesTo false (generation_of c.args.first.payloads) (generation_of c.args.second.payloads) = omega (arith, one, two, c.if-generation_of.false) in
    subst (λ (d : g.row.D.Denot). IsPairSound h c.args.first d false standing.Idle) (sym c.into_disk-else-generation_of.ensures) (opened_sound h c.args.first c.args.second false c.requires.alone.0 c.requires.first c.requires.second less)

pub returns-then-generation_of-clause-durable : goal.returns-then-generation_of-clause-durable
returns-then-generation_of-clause-durable g c =
    let h = g.D.Disk.history in
    let one = c.generation_of.ensures ∙ ap generation_of c.frames.ensures in
    let two = c.generation_of-2.ensures ∙ ap generation_of c.frames-2.ensures in
    let less : LosesTo true (generation_of c.args.second.payloads) (generation_of c.args.first.payloads) = omega (arith, one, two, c.if-generation_of.true) in
    pair_leaves h c.args.second c.into_disk.result true standing.Idle
    (subst (λ (d : g.row.D.Denot). IsPairSound h c.args.second d true standing.Idle) (sym c.into_disk.ensures) (opened_sound h c.args.second c.args.first true c.requires.alone.1 c.requires.second c.requires.first less))

pub returns-else-generation_of-clause-durable : goal.returns-else-generation_of-clause-durable
returns-else-generation_of-clause-durable g c =
    let h = g.D.Disk.history in
    let one = c.generation_of.ensures ∙ ap generation_of c.frames.ensures in
    let two = c.generation_of-2.ensures ∙ ap generation_of c.frames-2.ensures in
    let less : LosesTo false (generation_of c.args.first.payloads) (generation_of c.args.second.payloads) = omega (arith, one, two, c.if-generation_of.false) in
    pair_leaves h c.args.first c.into_disk-else-generation_of.result false standing.Idle
    (subst (λ (d : g.row.D.Denot). IsPairSound h c.args.first d false standing.Idle) (sym c.into_disk-else-generation_of.ensures) (opened_sound h c.args.first c.args.second false c.requires.alone.0 c.requires.first c.requires.second less))

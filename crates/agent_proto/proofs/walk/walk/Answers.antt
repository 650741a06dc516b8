use Rattle.std.proofs.Common.{◌≡◌, ℕ, ◌+◌, ◌-◌, ◌<◌, length, get_or, refl, sym, ◌∙◌, arith}
use Rattle.agent_proto.specs.Places.{step}
use Rattle.agent_proto.specs.declared.place.Step.TheVariants.{Bad, Whole, On}
use Rattle.agent_proto.proofs.Walking.{leads, walks_on, walks_whole, walks_bad}
use Rattle.agent_proto.proofs.Passing.{walks_past}
use Rattle.agent_proto.proofs.Codecs.{AreBytes-from}
use Rattle.agent_proto.proofs.walk.walk.Goals as goal

pub returns-in-Bad : goal.returns-in-Bad
returns-in-Bad c =
    let is : step c.loop-index.at (get_or c.args.bytes.now c.loop-index.index 0) ≡ Bad = sym c.with.ensures ∙ c.in-Bad.is in
    walks_bad c.args.place c.loop-index.at c.args.bytes.now c.loop-index.index c.loop-index.invariant c.loop-index-test.true is

pub returns-in-Whole : goal.returns-in-Whole
returns-in-Whole c =
    let is : step c.loop-index.at (get_or c.args.bytes.now c.loop-index.index 0) ≡ Whole = sym c.with.ensures ∙ c.in-Whole.is in
    let fits = c.type_inv.bytes c.loop-index.index in
    let small : get_or c.args.bytes.now c.loop-index.index 0 < 256 = omega arith in
    walks_whole c.args.place c.loop-index.at c.args.bytes.now c.loop-index.index c.loop-index.invariant c.loop-index-test.true small is

pub pass-behind-requires : goal.pass-behind-requires
pass-behind-requires c =
    let is : step c.loop-index.at (get_or c.args.bytes.now c.loop-index.index 0) ≡ On c.in-On.next = sym c.with.ensures ∙ c.in-On.is in
    leads c.loop-index.at c.in-On.next (get_or c.args.bytes.now c.loop-index.index 0) c.loop-index.invariant.reached is

pub loop-index-preserved : goal.loop-index-preserved
loop-index-preserved c =
    let bytes = c.args.bytes.now in
    let is : step c.loop-index.at (get_or bytes c.loop-index.index 0) ≡ On c.in-On.next = sym c.with.ensures ∙ c.in-On.is in
    let each : (i : ℕ) → get_or bytes i 0 < 256 = λ i. let fits = c.type_inv.bytes i in omega arith in
    let next = walks_on c.args.place c.loop-index.at c.in-On.next bytes c.loop-index.index c.loop-index.invariant c.loop-index-test.true (each c.loop-index.index) is in
    walks_past c.args.place c.in-On.next c.pass-behind.result.0 bytes (c.loop-index.index + 1) (length bytes - (c.loop-index.index + 1)) c.pass-behind.result.1 next (AreBytes-from bytes each) refl c.pass-behind.ensures

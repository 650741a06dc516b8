use Rattle.std.proofs.Common.{rules, ◌≡◌, ◌∷◌, [], Some, None}
use Rattle.request_text.specs.States.{LineGoes, LineSteps}
use Rattle.request_text.proofs.ReadLines.{finished, read_more, read_start, stopped, unspelt}
use Rattle.request_text.proofs.read.read_words.Goals as goal

pub loop-word-init : goal.loop-word-init
loop-word-init c = read_start c.args.words.now

pub returns-in-Ok-None-step : goal.returns-in-Ok-None-step
returns-in-Ok-None-step c =
    let e : c.loop-word.words ≡ record { place = c.in-Ok-Some.word.place; word = Some c.bytes.result.now } ∷ c.next.new.self = search rules in
    let step : LineSteps (LineGoes c.loop-word.state c.bytes.result.now) None = rw c.in-Ok-None-step.field-0-is at c.in-Ok-None-step.ensures in
    rw c.bad.ensures (rw c.place.ensures (stopped c.args.words.now c.loop-word.state c.loop-word.words c.next.new.self c.in-Ok-Some.word.place c.args.end c.bytes.result.now c.loop-word.invariant e step))

pub loop-word-preserved-in-Ok-Some-step : goal.loop-word-preserved-in-Ok-Some-step
loop-word-preserved-in-Ok-Some-step c =
    let e : c.loop-word.words ≡ record { place = c.in-Ok-Some.word.place; word = Some c.bytes.result.now } ∷ c.next.new.self = search rules in
    let step : LineSteps (LineGoes c.loop-word.state c.bytes.result.now) (Some c.in-Ok-Some-step.next) = rw c.in-Ok-Some-step.field-0-is at c.in-Ok-Some-step.ensures in
    read_more c.args.words.now c.loop-word.state c.in-Ok-Some-step.next c.loop-word.words c.next.new.self c.in-Ok-Some.word.place c.bytes.result.now c.loop-word.invariant e step

pub loop-word-preserved : goal.loop-word-preserved
loop-word-preserved c =
    let e : c.loop-word.words ≡ record { place = c.in-Ok-Some.word.place; word = Some c.bytes.result.now } ∷ c.next.new.self = search rules in
    let step : LineSteps (LineGoes c.loop-word.state c.bytes.result.now) (Some c.in-Ok-Some-step.next) = rw c.in-Ok-Some-step.field-0-is at c.in-Ok-Some-step.ensures in
    read_more c.args.words.now c.loop-word.state c.in-Ok-Some-step.next c.loop-word.words c.next.new.self c.in-Ok-Some.word.place c.bytes.result.now c.loop-word.invariant e step

pub returns-in-Ok-None : goal.returns-in-Ok-None
returns-in-Ok-None c =
    let e : c.loop-word.words ≡ [] = search rules in
    finished c.args.words.now c.loop-word.state c.loop-word.words c.args.end c.finish.result c.loop-word.invariant e c.finish.ensures

pub returns-in-Err-Bad : goal.returns-in-Err-Bad
returns-in-Err-Bad c = rw c.refused.ensures (unspelt c.args.words.now c.loop-word.state c.loop-word.words c.next.new.self _ c.args.end c.loop-word.invariant (search rules))

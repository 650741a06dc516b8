use Rattle.std.proofs.Common.{rules, ◌≡◌, ◌∷◌, [], List, ℕ, Some, None, refl, sym, subst, arith, ◌<◌, ◌^◌}
use Rattle.frame_text.proofs.NumberWords.{Counted, counted_end, counted_failed, counted_step, counted_stopped}
use Rattle.frame_text.proofs.numbers.read_numbers.Goals as goal

pub returns-in-None : goal.returns-in-None
returns-in-None c =
    let e : c.loop-word.words ≡ record { place = c.in-Ok-Some.word.place; word = Some c.bytes.result.now } ∷ c.next.new.self = search rules in
    counted_stopped c.args.words.now c.loop-word.numbers c.loop-word.words c.next.new.self c.in-Ok-Some.word.place c.bytes.result.now c.loop-word.invariant e c.in-None.ensures

pub loop-word-preserved-in_ok-push-in-Some : goal.loop-word-preserved-in_ok-push-in-Some
loop-word-preserved-in_ok-push-in-Some c =
    let e : c.loop-word.words ≡ record { place = c.in-Ok-Some.word.place; word = Some c.bytes.result.now } ∷ c.next.new.self = search rules in
    let told = (c.in-Some.ensures c.in-Some.number).0 refl in
    let small : c.in-Some.number < 2 ^ 64 = omega (arith, told.0) in
    subst (λ (ns : List ℕ). Counted c.args.words.now ns c.next.new.self) (sym c.in_ok-push-in-Some.ensures.ok)
    (counted_step c.args.words.now c.loop-word.numbers c.loop-word.words c.next.new.self c.in-Ok-Some.word.place c.bytes.result.now c.in-Some.number c.loop-word.invariant e small told.1)

pub loop-word-preserved : goal.loop-word-preserved
loop-word-preserved c =
    let e : c.loop-word.words ≡ record { place = c.in-Ok-Some.word.place; word = Some c.bytes.result.now } ∷ c.next.new.self = search rules in
    let told = (c.in-Some.ensures c.in-Some.number).0 refl in
    let small : c.in-Some.number < 2 ^ 64 = omega (arith, told.0) in
    subst (λ (ns : List ℕ). Counted c.args.words.now ns c.next.new.self) (sym c.in_ok-push-in-Some.ensures.ok)
    (counted_step c.args.words.now c.loop-word.numbers c.loop-word.words c.next.new.self c.in-Ok-Some.word.place c.bytes.result.now c.in-Some.number c.loop-word.invariant e small told.1)

pub returns-in-Ok-None : goal.returns-in-Ok-None
returns-in-Ok-None c =
    let e : c.loop-word.words ≡ [] = search rules in
    counted_end c.args.words.now c.loop-word.numbers c.loop-word.words c.loop-word.invariant e

pub returns-in-Err-Bad : goal.returns-in-Err-Bad
returns-in-Err-Bad c =
    let e : c.loop-word.words ≡ record { place = c.in-Err-Bad.field-0-0.place; word = None } ∷ c.next.new.self = search rules in
    counted_failed c.args.words.now c.loop-word.numbers c.loop-word.words c.next.new.self c.in-Err-Bad.field-0-0.place c.loop-word.invariant e

use Rattle.std.proofs.Common.{◌≡◌, ◌+◌, ◌∷◌, ◌++◌, [], ℕ, List, map, take, drop, sym, ap, subst, arith}
use Rattle.std.proofs.lemmas.List.{take_all}
use Rattle.std.specs.Prelude.{string_bytes}
use Rattle.ignore_glob.specs.declared.pattern_error.BadPattern.{BadPattern}
use Rattle.ignore_glob.specs.Grammar.{IsPattern}
use Rattle.ignore_glob.specs.Faults.{IsFault}
use Rattle.ignore_rules.specs.Rules.{AreRules}
use Rattle.ignore_rules.proofs.ReadingRules.{RulesSoFar, rules_more, rules_whole, fault_at}
use Rattle.ignore_rules.proofs.Texts.{map_around, map_one_more, length_in_front}
use Rattle.ignore_rules.proofs.rules.read_rules.Goals as goal

pub returns-in-Err-Bad : goal.returns-in-Err-Bad
returns-in-Err-Bad c =
    let texts = c.args.texts.now in
    let index = c.loop-index.index in
    let text = c.index-texts-index.result in
    let refusal = rw c.in-Err-Bad.field-0-is at c.in-Err-Bad.ensures.reads in
    let fault : IsFault (string_bytes text) refusal.0 = subst (λ (l : List ℕ). IsFault l refusal.0) c.as_str.ensures.value refusal.1 in
    rw c.in-Err-Bad.field-0-is (
      refusal.0,
      fault_at (map string_bytes texts) (map string_bytes (take index texts)) (map string_bytes (drop (index + 1) texts)) (string_bytes text) c.loop-index.invariant.back index refusal.0 c.loop-index.invariant.text_rules
          (map_around string_bytes texts index text (omega arith) c.index-texts-index.is) (sym (length_in_front string_bytes texts index (omega arith))) fault,
      ap (λ (b : BadPattern). b.place) refusal.2,
    )

pub loop-index-preserved : goal.loop-index-preserved
loop-index-preserved c =
    let texts = c.args.texts.now in
    let index = c.loop-index.index in
    let text = c.index-texts-index.result in
    let is : IsPattern (string_bytes text) c.in-Ok.pattern = subst (λ (l : List ℕ). IsPattern l c.in-Ok.pattern) c.as_str.ensures.value c.in-Ok.ensures.reads in
    let more = rules_more c.args.vcs (map string_bytes (take index texts)) c.loop-index.patterns.items (string_bytes text) c.in-Ok.pattern c.loop-index.invariant is in
    rw c.in_ok-push-in-Ok.ensures.items (subst (λ (l : List (List ℕ)). RulesSoFar c.args.vcs l (c.loop-index.patterns.items ++ c.in-Ok.pattern ∷ [])) (sym (map_one_more string_bytes texts index text (omega arith) c.index-texts-index.is)) more)

pub returns : goal.returns
returns c =
    let texts = c.args.texts.now in
    let all : take c.loop-index.index texts ≡ texts = take_all c.loop-index.index texts (omega arith) in
    subst (λ l. AreRules c.args.vcs (map string_bytes l) c.loop-index.patterns.items) all (rules_whole c.args.vcs (map string_bytes (take c.loop-index.index texts)) c.loop-index.patterns.items c.loop-index.invariant)

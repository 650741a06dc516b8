use Rattle.std.proofs.Common.{subst, sym}
use Rattle.std.specs.Prelude.{IsTrue}
use Rattle.std.specs.Str.{is_utf8}
use Rattle.command_words.proofs.Values.{kept_text, utf8_true}
use Rattle.command_words.proofs.pattern.PatternText.of_text.Goals as goal

pub invariant_of-result : goal.invariant_of-result
invariant_of-result c = subst (λ bs. IsTrue (is_utf8 bs)) (sym c.in_ok-from_str.ensures.ok) (utf8_true c.args.text.now c.utf8.text)

pub returns : goal.returns
returns c = kept_text c.args.text.now c.in_ok-from_str.field-0.bytes.items c.utf8.text c.in_ok-from_str.ensures.ok

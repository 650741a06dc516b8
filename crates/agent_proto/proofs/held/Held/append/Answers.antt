use Rattle.std.proofs.Common.{rules, ◌≡◌, ◌++◌, length, vec_len, sym, ap, ◌∙◌, arith, append_assoc, inl, inr}
use Rattle.std.proofs.lemmas.Bool.Decides.{nat_tests}
use Rattle.std.proofs.lemmas.List.{append-nil}
use Rattle.agent_proto.proofs.held.Held.append.Goals as goal

pub returns-then-not-is_empty-clause-ok : goal.returns-then-not-is_empty-clause-ok
returns-then-not-is_empty-clause-ok c =
    let old = c.args.self.now in
    let size : length old.content.items ≡ vec_len old.content = search rules in
    let items : c.extend_from_slice.new.self.items ≡ old.content.items ++ c.args.bytes.now = c.in_ok-extend_from_slice.ensures.items in
    record {
      cut = 0;
      front = sym (append-nil old.front.items);
      content = items;
      all = ap (λ xs. old.front.items ++ xs) items ∙ sym (append_assoc old.front.items old.content.items c.args.bytes.now);
      held = elim c.requires [
        | inl h ↦ absurd (let none : vec_len old.content ≡ 0 = sym size ∙ ap length h in grind (arith, nat_tests, none, c.is_empty.ensures, c.if-not-is_empty.true))
        | inr p ↦ inr p
      ];
    }

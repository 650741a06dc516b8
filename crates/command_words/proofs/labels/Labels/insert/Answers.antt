use Rattle.std.proofs.Common.{ap, subst, sym, ◌∙◌, ◌≡◌, ◌≤◌, not, length}
use Rattle.std.proofs.lemmas.List.Sums.{prefix_len-le-length}
use Rattle.std.specs.List.{insert}
use Rattle.command_words.specs.Labels.{AreLabels, can_take, is_before, place_in, with_label}
use Rattle.command_words.specs.declared.label.Label.{Label}
use Rattle.command_words.proofs.LabelOrder.{inserted, still_labels}
use Rattle.command_words.proofs.labels.Labels.insert.Goals as goal

-- where the label comes to stand
placed : (c : goal.In_ok-insert) → with_label c.args.label c.self.inside.labels.items ≡ c.insert.new.self.items
placed c =
    inserted c.args.label c.self.inside.labels.items
    ∙ ap (λ n. insert c.self.inside.labels.items n c.args.label) (sym (c.place_in-at.ensures ∙ ap (place_in c.args.label.key) c.as_slice-2.ensures.value))
    ∙ sym c.in_ok-insert.ensures.items

pub invariant_of-self-2 : goal.invariant_of-self-2
invariant_of-self-2 c =
    subst AreLabels (placed c)
    (still_labels c.args.label c.self.inside.labels.items c.self.invariant
    (ap (can_take c.args.label) (sym c.as_slice.ensures.value) ∙ sym c.can_take.ensures ∙ c.if-not-can_take.false))

pub returns-clause-labels : goal.returns-clause-labels
returns-clause-labels c = sym (placed c) ∙ ap (with_label c.args.label) c.self.view_is

pub insert-requires : goal.insert-requires
insert-requires c =
    subst (λ n. c.place_in-at.result ≤ n) c.as_slice-2.ensures.len
    (subst (λ n. n ≤ length c.as_slice-2.result.now) (sym c.place_in-at.ensures)
    (prefix_len-le-length (λ (l : Label). not (is_before c.args.label.key l.key)) c.as_slice-2.result.now))

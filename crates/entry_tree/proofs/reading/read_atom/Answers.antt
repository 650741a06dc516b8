use Rattle.std.proofs.Common.{◌∙◌, ap, subst}
use Rattle.entry_tree.specs.AtomText.{words_of}
use Rattle.std.proofs.lemmas.Result.{IfOk-weaker}
use Rattle.line_words.specs.Lines.{HasWords, line_items}
use Rattle.line_words.specs.declared.reading.Reading.TheVariants.{Canonical}
use Rattle.line_words.proofs.ReadBack.{read_words}
use Rattle.entry_tree.proofs.reading.read_atom.Goals as goal

pub returns-clause-value : goal.returns-clause-value
returns-clause-value c =
    IfOk-weaker c.read_atom_words.result _ _ (λ atom h. (h.0, (read_words _ (words_of atom) (subst (λ is. HasWords is (words_of atom)) (c.new-words.ensures ∙ ap (line_items Canonical) c.as_bytes.ensures.value) h.1)).0)) c.read_atom_words.ensures.value

pub returns-clause-memory : goal.returns-clause-memory
returns-clause-memory c = λ e.
    let h = c.read_atom_words.ensures.memory e in
    (h.0, h.1, (read_words _ (words_of h.0) (subst (λ is. HasWords is (words_of h.0)) (c.new-words.ensures ∙ ap (line_items Canonical) c.as_bytes.ensures.value) h.2)).0)

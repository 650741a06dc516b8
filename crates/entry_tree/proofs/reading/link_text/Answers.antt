use Rattle.std.proofs.Common.{rules, ◌≡◌, ◌∙◌, ◌∷◌, false, ap, subst, arith}
use Rattle.std.specs.Prelude.{◌&&◌}
use Rattle.std.specs.Str.{is_utf8}
use Rattle.std.proofs.lemmas.Bool.{false_from_ne_true}
use Rattle.std.proofs.lemmas.Str.{IsUtf8-from_is_utf8}
use Rattle.hex.specs.Hex.{IsBytes}
use Rattle.line_words.specs.Lines.{AreBytes}
use Rattle.entry_tree.specs.Text.{IsText, is_text, has_text_len}
use Rattle.entry_tree.specs.AtomText.{is_link_text}
use Rattle.entry_tree.proofs.Atoms.{are_bytes}
use Rattle.entry_tree.proofs.reading.link_text.Goals as goal
use Rattle.entry_tree.proofs.reading.link_text.Goals.{in_default-via-in-Ok+else-is_text, in_default-via-in_default}

pub returns-in-Ok : goal.returns-in-Ok
returns-in-Ok c =
    let e : c.args.word.now ≡ 61 ∷ c.in-Ok.text.now = search rules in
    let text : IsText c.in-Ok.text.now = search rules in
    let bytes : IsBytes c.args.word.now = λ i. let fits = c.type_inv.word i in omega arith in
    (e, (text, (subst AreBytes e (are_bytes c.args.word.now bytes)).1))

pub returns-in_default : goal.returns-in_default
returns-in_default c =
    let text = c.in_ok-text.text.now in
    let e : c.args.word.now ≡ 61 ∷ text = search rules in
    let none : is_text text ≡ false = elim c.in_default.branch [
      | in_default-via-in-Ok+else-is_text w ↦ search rules
      | in_default-via-in_default w ↦ ap (λ b. b && has_text_len text) (false_from_ne_true (is_utf8 text) (λ u. w.in_default.ensures.cases.0 (IsUtf8-from_is_utf8 text u)))
    ] in
    ap is_link_text e ∙ none

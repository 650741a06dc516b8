use Rattle.std.proofs.Common.{◌≡◌, ◌<◌, ◌≢◌, ℕ, eqb, List, [], ◌∷◌, length, get_or, lit<, refl, sym, ap, ◌∙◌}
use Rattle.std.specs.Prelude.{None, Some}
use Rattle.std.specs.List.{after_first}
use Rattle.std.proofs.lemmas.Bool.{ne_eqb}
use Rattle.std.proofs.lemmas.List.{get_or_default}
use Rattle.std.proofs.lemmas.List.Splits.{slice_split_first, slice_split_none}
use Rattle.std.proofs.lemmas.Str.Pattern.{split_parts, split_once_first}
use Rattle.ignore_glob.specs.Grammar.{slash, cut}
use Rattle.ignore_glob.proofs.text.cut_first.Goals as goal

pub returns-in-Some : goal.returns-in-Some
returns-in-Some c =
    let text = c.args.text.now in
    let at = split_once_first slash text (Some (c.in-Some.first, c.in-Some.behind)) c.in-Some.ensures.cases (lit< tt) in
    let parts = split_parts slash text (Some (c.in-Some.first, c.in-Some.behind)) c.in-Some.ensures.cases (lit< tt) in (
      slice_split_first (λ b. eqb b slash) text 0 at.0
          ∙ ap (λ (l : List ℕ). l ∷ cut (after_first (λ b. eqb b slash) text)) (sym at.1)
          ∙ ap (λ (l : List ℕ). c.in-Some.first.now ∷ cut l) (sym at.2),
      parts.0,
    )

-- no byte is a slash
none_split : (text : List ℕ) → ((i : ℕ) → i < length text → get_or text i 0 ≢ slash) → cut text ≡ text ∷ []
none_split text none = slice_split_none (λ b. eqb b slash) text (λ k d less. ap (λ (n : ℕ). eqb n slash) (get_or_default text k d 0 less) ∙ ne_eqb (get_or text k 0) slash (none k less))

pub returns-in-None : goal.returns-in-None
returns-in-None c = (none_split c.args.text.now (split_parts slash c.args.text.now None c.in-None.ensures.cases (lit< tt)), refl)

-- Labels as words.
use Rattle.std.proofs.Common.{◌≡◌, ℕ, ◌↔◌, Bool, true, false, not, cond, ◌&&◌, List, [], ◌∷◌, ◌++◌, length, refl, sym, ap, ap₂, subst, ◌∙◌, Some, None, Option, arith}
use Rattle.std.specs.Prelude.{◌==◌, nat_le}
use Rattle.std.specs.List.{list_all}
use Rattle.std.proofs.lemmas.Bool.Decides.{nat_tests}
use Rattle.command_words.specs.Ascii.{is_label_byte}
use Rattle.command_words.specs.Cuts.{has_no, IsCut}
use Rattle.command_words.specs.Kept.{kept}
use Rattle.command_words.specs.Label.{IsLabel, label_word}
use Rattle.command_words.specs.LabelText.{is_label_text, IsLabelText}
use Rattle.command_words.specs.declared.label.Label.{Label}
use Rattle.command_words.specs.declared.label_text.TheConstants.{MAX_LABEL_TEXT_LEN}
use Rattle.command_words.proofs.Classes.{both}
use Rattle.command_words.proofs.Cutting.{one_cut, stands_in}

no_equals : (c : ℕ) → is_label_byte c ≡ true → not (c == 61) ≡ true
no_equals c h = grind (arith, nat_tests)

have_no_equals : (bs : List ℕ) → list_all is_label_byte bs ≡ true → has_no 61 bs ≡ true
have_no_equals [] h = refl
have_no_equals (b ∷ bs) h =
    let parts = both (is_label_byte b) (list_all is_label_byte bs) h in
    ap₂ (λ x y. x && y) (no_equals b parts.0) (have_no_equals bs parts.1)

pub label_bytes : (text : List ℕ) → IsLabelText text → list_all is_label_byte text ≡ true
label_bytes text h = (both (nat_le (length text) MAX_LABEL_TEXT_LEN) (list_all is_label_byte text) (both (nat_le 1 (length text)) (nat_le (length text) MAX_LABEL_TEXT_LEN && list_all is_label_byte text) h).1).1

pub kept_some : (test : List ℕ → Bool) (word value : List ℕ) → Some value ≡ kept test word → (value ≡ word) × (test word ≡ true)
kept_some test word value h = by (test word) refl h
  where
    by : (t : Bool) → test word ≡ t → Some value ≡ cond t (Some word) None → (value ≡ word) × (test word ≡ true)
    by true e k = (cc, e)
    by false e k = absurd (cc)

pub kept_not : (test : List ℕ → Bool) (word : List ℕ) → kept test word ≡ None → test word ≡ true → ⊥
kept_not test word h e = let k : Some word ≡ None = sym (ap (λ t. cond t (Some word) None) e) ∙ h in absurd (cc)

-- the label that a word spells is cut where the word is
label_cut : (word key value : List ℕ) (label : Label) → IsCut 61 word key value → IsLabel label → word ≡ label_word label → (key ≡ label.key) × (value ≡ label.value)
label_cut word key value label cut is e =
    one_cut 61 key value label.key label.value (sym cut.all ∙ e) cut.first (have_no_equals label.key (label_bytes label.key is.0))

pub no_cut : (word : List ℕ) → has_no 61 word ≡ true → (label : Label) → (◌≡◌ {A = Option Label} None (Some label)) ↔ (IsLabel label × (word ≡ label_word label))
no_cut word none label = (λ e. absurd (cc), λ h. absurd (stands_in 61 label.key label.value (subst (λ w. has_no 61 w ≡ true) h.1 none)))

pub no_key : (word key value : List ℕ) → IsCut 61 word key value → kept is_label_text key ≡ None
    → (label : Label) → (◌≡◌ {A = Option Label} None (Some label)) ↔ (IsLabel label × (word ≡ label_word label))
no_key word key value cut none label = (
  λ e. absurd (cc),
  λ h. absurd (kept_not is_label_text key none (ap is_label_text (label_cut word key value label cut h.0 h.1).0 ∙ h.0.0)),
)

pub no_value : (word key value : List ℕ) → IsCut 61 word key value → kept is_label_text value ≡ None
    → (label : Label) → (◌≡◌ {A = Option Label} None (Some label)) ↔ (IsLabel label × (word ≡ label_word label))
no_value word key value cut none label = (
  λ e. absurd (cc),
  λ h. absurd (kept_not is_label_text value none (ap is_label_text (label_cut word key value label cut h.0 h.1).1 ∙ h.0.1)),
)

pub label_read : (word key value own_key own_value : List ℕ) → IsCut 61 word key value → Some own_key ≡ kept is_label_text key → Some own_value ≡ kept is_label_text value
    → (label : Label) → (Some (let l : Label = record { key = own_key; value = own_value } in l) ≡ Some label) ↔ (IsLabel label × (word ≡ label_word label))
label_read word key value own_key own_value cut k v label =
    let first = kept_some is_label_text key own_key k in
    let second = kept_some is_label_text value own_value v in (
      λ e.
          let same : record { key = own_key; value = own_value } ≡ label = cc in
          let is : IsLabel (record { key = own_key; value = own_value }) = (ap is_label_text first.0 ∙ first.1, ap is_label_text second.0 ∙ second.1) in
          subst (λ (l : Label). IsLabel l × (word ≡ label_word l)) same (is, cut.all ∙ ap₂ (λ x y. x ++ 61 ∷ y) (sym first.0) (sym second.0)),
      λ h.
          let parts = label_cut word key value label cut h.0 h.1 in
          ap₂ (λ x y. Some (let l : Label = record { key = x; value = y } in l)) (first.0 ∙ parts.0) (second.0 ∙ parts.1),
    )

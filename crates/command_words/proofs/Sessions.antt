-- The words that name sessions.
use Rattle.std.proofs.Common.{◌≡◌, ℕ, ◌↔◌, true, not, ◌&&◌, List, ◌++◌, refl, sym, ap, subst, ◌∙◌, Some, None, Option}
use Rattle.std.specs.Prelude.{nat_le, length}
use Rattle.std.specs.List.{list_all}
use Rattle.command_words.specs.Ascii.{is_name_byte}
use Rattle.command_words.specs.GivenName.{begins_with_letter, has_kept_prefix, is_given_name, IsGivenName}
use Rattle.command_words.specs.Identifier.{identifier_word, IsIdentifier, kind_prefix, uuid_text}
use Rattle.command_words.specs.Kept.{kept}
use Rattle.command_words.specs.Session.{IsSession, session_word}
use Rattle.command_words.specs.declared.given_name.TheConstants.{MAX_GIVEN_NAME_LEN}
use Rattle.command_words.specs.declared.identifier.Identifier.{Identifier}
use Rattle.command_words.specs.declared.session.SessionWord.{SessionWord}
use Rattle.command_words.specs.declared.session.SessionWord.TheVariants.{Identified, Named}
use Rattle.command_words.specs.declared.session_kind.SessionKind.{SessionKind}
use Rattle.command_words.specs.declared.session_kind.SessionKind.TheVariants.{Sync, Forward}
use Rattle.command_words.proofs.Classes.{both}
use Rattle.command_words.proofs.LabelWords.{kept_not, kept_some}

kept_prefix : (kind : SessionKind) (text : List ℕ) → has_kept_prefix (kind_prefix kind ++ text) ≡ true
kept_prefix Sync text = refl
kept_prefix Forward text = refl

-- an identifier is no name
no_name : (i : Identifier) → IsGivenName (identifier_word i) → ⊥
no_name i h =
    let word = identifier_word i in
    let rest = (both (begins_with_letter word) (list_all is_name_byte word && (nat_le (length word) MAX_GIVEN_NAME_LEN && not (has_kept_prefix word))) h).1 in
    let more = (both (list_all is_name_byte word) (nat_le (length word) MAX_GIVEN_NAME_LEN && not (has_kept_prefix word)) rest).1 in
    let last = (both (nat_le (length word) MAX_GIVEN_NAME_LEN) (not (has_kept_prefix word)) more).1 in
    let k : not true ≡ true = ap not (sym (kept_prefix i.kind (uuid_text i.id))) ∙ last in absurd (cc)

pub identified : (word : List ℕ) (i : Identifier) → ((j : Identifier) → (Some i ≡ Some j) ↔ (IsIdentifier j × (word ≡ identifier_word j)))
    → (s : SessionWord) → (Some (Identified i) ≡ Some s) ↔ (IsSession s × (word ≡ session_word s))
identified word i read (Identified j) = (
  λ e. let same : i ≡ j = cc in (read j).0 (ap Some same),
  λ h. let same : Some i ≡ Some j = (read j).1 h in let k : i ≡ j = cc in ap (λ x. Some (Identified x)) k,
)
identified word i read (Named name) = (
  λ e. absurd (cc),
  λ h. absurd (no_name i (subst IsGivenName (sym h.1 ∙ ((read i).0 refl).1) h.0)),
)

pub named : (word name : List ℕ) → Some name ≡ kept is_given_name word → (s : SessionWord) → (Some (Named name) ≡ Some s) ↔ (IsSession s × (word ≡ session_word s))
named word name k (Identified j) =
    let own = kept_some is_given_name word name k in (
      λ e. absurd (cc),
      λ h. absurd (no_name j (subst IsGivenName h.1 own.1)),
    )
named word name k (Named other) =
    let own = kept_some is_given_name word name k in (
      λ e. let same : name ≡ other = cc in (subst IsGivenName (sym own.0 ∙ same) own.1, sym own.0 ∙ same),
      λ h. ap (λ x. Some (Named x)) (own.0 ∙ h.1),
    )

pub unnamed : (word : List ℕ) → ((j : Identifier) → (◌≡◌ {A = Option Identifier} None (Some j)) ↔ (IsIdentifier j × (word ≡ identifier_word j))) → kept is_given_name word ≡ None
    → (s : SessionWord) → (◌≡◌ {A = Option SessionWord} None (Some s)) ↔ (IsSession s × (word ≡ session_word s))
unnamed word read k (Identified j) = (λ e. absurd (cc), λ h. let none = (read j).1 h in absurd (cc))
unnamed word read k (Named name) = (λ e. absurd (cc), λ h. absurd (kept_not is_given_name word k (subst IsGivenName (sym h.1) h.0)))

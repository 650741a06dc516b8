-- Names as texts and as their bytes.
use Rattle.std.proofs.Common.{◌≡◌, ◌∙◌, ℕ, Bool, cond, ◌++◌, List, [], ◌∷◌, Some, None, bytes_eq, string_bytes, true, false, refl, sym, ap}
use Rattle.std.proofs.lemmas.Slice.Eq.{bytes_eq-Decides}
use Rattle.std.specs.Map.{lookup, KeepsOthers}
use Rattle.std.specs.String.{string_eq}
use Rattle.std.specs.declared.string.String.{String}
use Rattle.session_table.specs.States.{named_entries}

-- a look-up by bytes among the texts is one among their bytes
pub lookup_named : {A : Type 0} (q : List ℕ) (es : List (String A × ℕ)) → lookup (λ k. bytes_eq q (string_bytes k)) es ≡ lookup (bytes_eq q) (named_entries es)
lookup_named q [] = refl
lookup_named q (e ∷ es) = ap (λ o. cond (bytes_eq q (string_bytes e.0)) (Some e.1) o) (lookup_named q es)

-- a last text is a last entry
pub named_push : {A : Type 0} (es : List (String A × ℕ)) (name : String A) (id : ℕ) → named_entries (es ++ (name, id) ∷ []) ≡ named_entries es ++ (string_bytes name, id) ∷ []
named_push [] name id = refl
named_push (e ∷ es) name id = ap (λ xs. (string_bytes e.0, e.1) ∷ xs) (named_push es name id)

-- a name that was taken away is not found, and every other is as before
pub removed_names : {A : Type 0} (q name : List ℕ) (old new : List (String A × ℕ)) → lookup (λ k. bytes_eq name (string_bytes k)) new ≡ None
    → KeepsOthers string_eq (λ k. bytes_eq name (string_bytes k)) old new → lookup (bytes_eq q) (named_entries new) ≡ cond (bytes_eq q name) None (lookup (bytes_eq q) (named_entries old))
unfolding KeepsOthers
removed_names {A} q name old new gone others = by (bytes_eq q name) refl
  where
    is_key : (x y : String A) → bytes_eq q (string_bytes x) ≡ true → bytes_eq q (string_bytes y) ≡ bytes_eq (string_bytes x) (string_bytes y)
    is_key x y e = ap (λ n. bytes_eq n (string_bytes y)) ((bytes_eq-Decides q (string_bytes x)).0 e)

    apart : bytes_eq q name ≡ false → (k : String A) → bytes_eq name (string_bytes k) ≡ true → bytes_eq q (string_bytes k) ≡ false
    apart e k t = ap (bytes_eq q) (sym ((bytes_eq-Decides name (string_bytes k)).0 t)) ∙ e

    by : (b : Bool) → bytes_eq q name ≡ b → lookup (bytes_eq q) (named_entries new) ≡ cond b None (lookup (bytes_eq q) (named_entries old))
    by true e = sym (lookup_named q new) ∙ ap (λ n. lookup (λ k. bytes_eq n (string_bytes k)) new) ((bytes_eq-Decides q name).0 e) ∙ gone
    by false e = sym (lookup_named q new) ∙ others (λ k. bytes_eq q (string_bytes k)) is_key (apart e) ∙ lookup_named q old

-- The last name of a path, and its parent.
use Rattle.std.proofs.Common.{◌≡◌, ℕ, ◌≤◌, true, Some, List, [], ◌∷◌, ◌++◌, length, refl, sym, ap, ap₂, subst, ◌⊎◌, inl, inr, ◌∙◌, arith, append_assoc, None}
use Rattle.std.proofs.lemmas.Bool.{and_parts}
use Rattle.std.specs.List.{list_all}
use Rattle.std.specs.Option.{option_map}
use Rattle.sync_path.specs.Buffer.{names_in, KeepsPath, SplitsLast}
use Rattle.sync_path.specs.Name.{is_name, IsName}
use Rattle.sync_path.specs.Path.{IsPath, place_behind, may_follow, parent_of, last_name}
use Rattle.sync_path.proofs.BufferParts.{kept_from_path, buffer_of-append}
use Rattle.sync_path.proofs.Lengths.{list_all-append, path_from_front, path_with, place_behind-le, length-buffer_of}

pub last_name-push : (path : List (List ℕ)) (name : List ℕ) → last_name (path ++ name ∷ []) ≡ Some name
last_name-push [] name = refl
last_name-push (x ∷ []) name = refl
last_name-push (x ∷ y ∷ path) name = last_name-push (y ∷ path) name

pub parent_of-push : (path : List (List ℕ)) (name : List ℕ) → parent_of (path ++ name ∷ []) ≡ Some path
parent_of-push [] name = refl
parent_of-push (x ∷ []) name = refl
parent_of-push (x ∷ y ∷ path) name = ap (option_map (λ above. x ∷ above)) (parent_of-push (y ∷ path) name)

none_not_some : {X : Type 0} (x : X) → None ≡ Some x → ⊥
none_not_some x e = cc

some_same : {X : Type 0} (x y : X) → Some x ≡ Some y → x ≡ y
some_same x y e = cc

-- each path but the root has a last name
cut_last : (path : List (List ℕ)) → (path ≡ []) ⊎ ((above : List (List ℕ)) × (name : List ℕ) × (path ≡ above ++ name ∷ []))
cut_last [] = inl refl
cut_last (x ∷ path) =
    elim (cut_last path) [ inl none ↦ inr ([], x, ap (λ xs. x ∷ xs) none) | inr cut ↦ inr (x ∷ cut.0, cut.1, ap (λ xs. x ∷ xs) cut.2) ]

-- of the buffer of a path, cut before its last name
pub last_from_split : (buffer front name : List ℕ) → SplitsLast buffer front name → last_name (names_in buffer) ≡ Some name
last_from_split buffer front name s = ap last_name s.all ∙ last_name-push s.names name

pub parent_from_split : (buffer front name : List ℕ) → KeepsPath buffer → SplitsLast buffer front name → KeepsPath front × (parent_of (names_in buffer) ≡ Some (names_in front))
parent_from_split buffer front name k s =
    let path : IsPath (s.names ++ name ∷ []) = subst IsPath s.all k.path in
    let kept = kept_from_path front s.names s.front_is (path_from_front s.names (name ∷ []) path) in
    (kept.0, ap parent_of s.all ∙ parent_of-push s.names name ∙ ap (λ ns. Some ns) (sym kept.1))

pub name_from_split : (buffer front name : List ℕ) → KeepsPath buffer → SplitsLast buffer front name → IsName name
name_from_split buffer front name k s =
    let path : IsPath (s.names ++ name ∷ []) = subst IsPath s.all k.path in
    let names = and_parts (list_all is_name s.names) (list_all is_name (name ∷ [])) (sym (list_all-append s.names (name ∷ [])) ∙ path.each_name) in
    (and_parts (is_name name) true names.1).0

-- how long the buffer of a path is
pub length-kept : (buffer : List ℕ) → KeepsPath buffer → length buffer ≡ place_behind (names_in buffer)
length-kept buffer k = ap length (sym k.whole) ∙ length-buffer_of (names_in buffer)

pub length-kept-le : (buffer : List ℕ) → KeepsPath buffer → length buffer ≤ 4097
length-kept-le buffer k = omega (arith, length-kept buffer k, place_behind-le (names_in buffer) k.path.len)

-- the buffer with a further name
pub child_from_parts : (buffer name bytes : List ℕ) → KeepsPath buffer → may_follow (names_in buffer) name ≡ true → bytes ≡ buffer ++ name ++ 0 ∷ []
    → KeepsPath bytes × (names_in bytes ≡ names_in buffer ++ name ∷ [])
child_from_parts buffer name bytes k f e =
    kept_from_path bytes (names_in buffer ++ name ∷ [])
    (e ∙ append_assoc buffer name (0 ∷ []) ∙ ap (λ bs. bs ++ (name ++ 0 ∷ [])) (sym k.whole) ∙ sym (buffer_of-append (names_in buffer) (name ∷ [])))
    (path_with (names_in buffer) name k.path f)

-- ---- laws

pub child_from_ends : (path above : List (List ℕ)) (name : List ℕ) → parent_of path ≡ Some above → last_name path ≡ Some name → path ≡ above ++ name ∷ []
child_from_ends path above name p n =
    elim (cut_last path) [
      | inl none ↦ absurd (none_not_some above (sym (ap parent_of none) ∙ p))
      | inr cut ↦
          cut.2 ∙ ap₂ (λ xs x. xs ++ x ∷ []) (some_same cut.0 above (sym (ap parent_of cut.2 ∙ parent_of-push cut.0 cut.1) ∙ p)) (some_same cut.1 name (sym (ap last_name cut.2 ∙ last_name-push cut.0 cut.1) ∙ n))
    ]

pub root_from_none : (path : List (List ℕ)) → parent_of path ≡ None → path ≡ []
root_from_none path p = elim (cut_last path) [ inl none ↦ none | inr cut ↦ absurd (none_not_some cut.0 (sym p ∙ ap parent_of cut.2 ∙ parent_of-push cut.0 cut.1)) ]

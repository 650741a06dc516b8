-- Sessions of which no two have one identifier, or one kind and one name.
use Rattle.std.proofs.Common.{◌≡◌, ◌∙◌, ℕ, Bool, true, false, cond, ◌&&◌, List, [], ◌∷◌, ◌++◌, Option, Some, None, nat_eq, refl, sym, ap, true≢false}
use Rattle.std.proofs.lemmas.Bool.{eqb-true, eq-eqb}
use Rattle.std.specs.Map.{lookup, remove_entry}
use Rattle.std.specs.Option.{unwrap_or}
use Rattle.command_words.specs.declared.session_kind.SessionKind.{SessionKind}
use Rattle.session_table.specs.Creates.{kind_of, name_of}
use Rattle.session_table.specs.Finding.{has_name, id_named, is_named, same_kind}
use Rattle.session_table.specs.Distinct.{AreDistinct, IsNamedAlone}
use Rattle.session_table.specs.Machine.{changed}
use Rattle.session_table.specs.declared.session.Row.{Row}
use Rattle.session_table.specs.declared.session.Session.{Session}
use Rattle.session_table.proofs.Lookups.{some_is_not_none, none_beside, turned, lookup_past, lookup_removed_none, lookup_changed_none}

-- what a list has no first of whose first is taken off
pub rest_none : {X : Type 0} (b : Bool) (x : X) (rest : Option X) → cond b (Some x) rest ≡ None → rest ≡ None
rest_none true x rest h = absurd (some_is_not_none h)
rest_none false x rest h = h

pub first_fails : {X : Type 0} (b : Bool) (x : X) (rest : Option X) → cond b (Some x) rest ≡ None → b ≡ false
first_fails true x rest h = absurd (some_is_not_none h)
first_fails false x rest h = refl

module _ (f : Session → Session) (keeps : (s : Session) → (f s).row ≡ s.row) where
  -- a session whose row stays has the same name
  same_name : (kind : SessionKind) (name : List ℕ) (s : Session) → is_named kind name (f s) ≡ is_named kind name s
  same_name kind name s = ap (λ (r : Row). same_kind kind (kind_of r.create) && has_name name (name_of r.create)) (keeps s)

  pub named_changed : (id : ℕ) (kind : SessionKind) (name : List ℕ) (es : List (ℕ × Session)) → id_named kind name (changed id f es) ≡ id_named kind name es
  named_changed id kind name [] = refl
  named_changed id kind name (e ∷ es) = by (nat_eq id e.0) (named_changed id kind name es)
    where
      by : (g : Bool) → id_named kind name (changed id f es) ≡ id_named kind name es
          → id_named kind name (cond g ((e.0, f e.1) ∷ es) (e ∷ changed id f es)) ≡ cond (is_named kind name e.1) (Some e.0) (id_named kind name es)
      by true rest = ap (λ b. cond b (Some e.0) (id_named kind name es)) (same_name kind name e.1)
      by false rest = ap (λ o. cond (is_named kind name e.1) (Some e.0) o) rest

  pub distinct_changed : (id : ℕ) (es : List (ℕ × Session)) → AreDistinct es → AreDistinct (changed id f es)
  distinct_changed id [] h = h
  distinct_changed id (e ∷ es) h = by (nat_eq id e.0) (distinct_changed id es h.2)
    where
      by : (g : Bool) → AreDistinct (changed id f es) → AreDistinct (cond g ((e.0, f e.1) ∷ es) (e ∷ changed id f es))
      by true rest = (h.0, (λ kind name t. h.1 kind name (sym (same_name kind name e.1) ∙ t)), h.2)
      by false rest = (lookup_changed_none (nat_eq e.0) id f es h.0, (λ kind name t. named_changed id kind name es ∙ h.1 kind name t), rest)

pub named_removed_none : (gone : ℕ → Bool) (kind : SessionKind) (name : List ℕ) (es : List (ℕ × Session)) → id_named kind name es ≡ None → id_named kind name (remove_entry gone es) ≡ None
named_removed_none gone kind name [] h = refl
named_removed_none gone kind name (e ∷ es) h = by (gone e.0) h (named_removed_none gone kind name es)
  where
    by : (g : Bool) → cond (is_named kind name e.1) (Some e.0) (id_named kind name es) ≡ None
        → (id_named kind name es ≡ None → id_named kind name (remove_entry gone es) ≡ None)
        → id_named kind name (cond g es (e ∷ remove_entry gone es)) ≡ None
    by true h rest = rest_none (is_named kind name e.1) e.0 (id_named kind name es) h
    by false h rest = none_beside (is_named kind name e.1) e.0 e.0 (id_named kind name es) (id_named kind name (remove_entry gone es)) h rest

pub distinct_removed : (gone : ℕ → Bool) (es : List (ℕ × Session)) → AreDistinct es → AreDistinct (remove_entry gone es)
distinct_removed gone [] h = h
distinct_removed gone (e ∷ es) h = by (gone e.0) (distinct_removed gone es h.2)
  where
    by : (g : Bool) → AreDistinct (remove_entry gone es) → AreDistinct (cond g es (e ∷ remove_entry gone es))
    by true rest = h.2
    by false rest = (lookup_removed_none (nat_eq e.0) gone es h.0, (λ kind name t. named_removed_none gone kind name es (h.1 kind name t)), rest)

pub named_push : (kind : SessionKind) (name : List ℕ) (es : List (ℕ × Session)) (e : ℕ × Session) → id_named kind name es ≡ None → is_named kind name e.1 ≡ false → id_named kind name (es ++ e ∷ []) ≡ None
named_push kind name [] e h other = ap (λ b. cond b (Some e.0) None) other
named_push kind name (d ∷ es) e h other =
    none_beside (is_named kind name d.1) d.0 d.0 (id_named kind name es) (id_named kind name (es ++ e ∷ [])) h (λ none. named_push kind name es e none other)

pub distinct_push : (es : List (ℕ × Session)) (e : ℕ × Session) → AreDistinct es → lookup (nat_eq e.0) es ≡ None → IsNamedAlone e.1 es → AreDistinct (es ++ e ∷ [])
distinct_push [] e h fresh alone = (refl, (λ kind name t. refl), tt)
distinct_push (d ∷ es) e h fresh alone =
    let apart = turned e.0 d.0 (first_fails (nat_eq e.0 d.0) d.1 (lookup (nat_eq e.0) es) fresh) in
    let later = rest_none (nat_eq e.0 d.0) d.1 (lookup (nat_eq e.0) es) fresh in (
      lookup_past (nat_eq d.0) es e apart ∙ h.0,
      (λ kind name t. named_push kind name es e (h.1 kind name t) (other kind name t (is_named kind name e.1) refl)),
      distinct_push es e h.2 later (λ kind name t. rest_none (is_named kind name d.1) d.0 (id_named kind name es) (alone kind name t)),
    )
  where
    other : (kind : SessionKind) (name : List ℕ) → is_named kind name d.1 ≡ true → (b : Bool) → is_named kind name e.1 ≡ b → b ≡ false
    other kind name t true s = absurd (true≢false (sym t ∙ first_fails (is_named kind name d.1) d.0 (id_named kind name es) (alone kind name s)))
    other kind name t false s = refl

-- a live session is found by its name
pub found_by_name : (es : List (ℕ × Session)) (id : ℕ) (s : Session) (kind : SessionKind) (name : List ℕ) → AreDistinct es → lookup (nat_eq id) es ≡ Some s → is_named kind name s ≡ true → id_named kind name es ≡ Some id
found_by_name [] id s kind name h found named = absurd (some_is_not_none (sym found))
found_by_name (e ∷ es) id s kind name h found named = by (nat_eq id e.0) refl found (found_by_name es id s kind name h.2)
  where
    later : (b : Bool) → is_named kind name e.1 ≡ b → id_named kind name es ≡ Some id → cond b (Some e.0) (id_named kind name es) ≡ Some id
    later true t rest = absurd (some_is_not_none (sym rest ∙ h.1 kind name t))
    later false t rest = rest

    by : (b : Bool) → nat_eq id e.0 ≡ b → cond b (Some e.1) (lookup (nat_eq id) es) ≡ Some s
        → (lookup (nat_eq id) es ≡ Some s → is_named kind name s ≡ true → id_named kind name es ≡ Some id)
        → cond (is_named kind name e.1) (Some e.0) (id_named kind name es) ≡ Some id
    by true q found rest =
        ap (λ b. cond b (Some e.0) (id_named kind name es)) (ap (λ (o : Option Session). is_named kind name (unwrap_or o s)) found ∙ named) ∙ ap Some (sym (eqb-true id e.0 q))
    by false q found rest = later (is_named kind name e.1) refl (rest found named)

-- a session that is found by a name is live, and has the name
pub has_its_name : (es : List (ℕ × Session)) (id : ℕ) (kind : SessionKind) (name : List ℕ) → AreDistinct es → id_named kind name es ≡ Some id
    → (s : Session) × (lookup (nat_eq id) es ≡ Some s) × (is_named kind name s ≡ true)
has_its_name [] id kind name h found = absurd (some_is_not_none (sym found))
has_its_name (e ∷ es) id kind name h found = by (is_named kind name e.1) refl found (has_its_name es id kind name h.2)
  where
    later : (b : Bool) → nat_eq id e.0 ≡ b → (s : Session) × (lookup (nat_eq id) es ≡ Some s) × (is_named kind name s ≡ true)
        → (s : Session) × (cond b (Some e.1) (lookup (nat_eq id) es) ≡ Some s) × (is_named kind name s ≡ true)
    later true q rest = absurd (some_is_not_none (sym rest.1 ∙ ap (λ n. lookup (nat_eq n) es) (eqb-true id e.0 q) ∙ h.0))
    later false q rest = rest

    by : (b : Bool) → is_named kind name e.1 ≡ b → cond b (Some e.0) (id_named kind name es) ≡ Some id
        → (id_named kind name es ≡ Some id → (s : Session) × (lookup (nat_eq id) es ≡ Some s) × (is_named kind name s ≡ true))
        → (s : Session) × (cond (nat_eq id e.0) (Some e.1) (lookup (nat_eq id) es) ≡ Some s) × (is_named kind name s ≡ true)
    by true t found rest =
        let same : e.0 ≡ id = ap (λ o. unwrap_or o id) found in
        (e.1, ap (λ b. cond b (Some e.1) (lookup (nat_eq id) es)) (eq-eqb id e.0 (sym same)), t)
    by false t found rest = later (nat_eq id e.0) refl (rest found)

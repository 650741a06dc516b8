-- Look-ups after one session was changed, added or taken away.
use Rattle.std.proofs.Common.{◌≡◌, ◌∙◌, ℕ, Bool, true, false, cond, List, [], ◌∷◌, ◌++◌, Option, Some, None, is_some, nat_eq, refl, sym, ap, true≢false}
use Rattle.std.proofs.lemmas.Bool.{eqb-true, eq-eqb}
use Rattle.std.specs.Map.{lookup, remove_entry}
use Rattle.session_table.specs.Machine.{changed}
use Rattle.session_table.specs.declared.session.Session.{Session}

pub some_is_not_none : {X : Type 0} {x : X} → Some x ≡ None → ⊥
some_is_not_none h = true≢false (ap is_some h)

-- two numbers that differ from each other aren't both a third
pub apart : (a b c : ℕ) → nat_eq a b ≡ false → nat_eq a c ≡ true → nat_eq b c ≡ false
apart a b c ab ac = by (nat_eq b c) refl
  where
    by : (t : Bool) → nat_eq b c ≡ t → t ≡ false
    by true e = absurd (true≢false (sym (eq-eqb a b (eqb-true a c ac ∙ sym (eqb-true b c e))) ∙ ab))
    by false e = refl

-- a number that isn't another differs from it the other way round too
pub turned : (a b : ℕ) → nat_eq a b ≡ false → nat_eq b a ≡ false
turned a b ab = by (nat_eq b a) refl
  where
    by : (t : Bool) → nat_eq b a ≡ t → t ≡ false
    by true e = absurd (true≢false (sym (eq-eqb a b (sym (eqb-true b a e))) ∙ ab))
    by false e = refl

-- where a look-up finds nothing, neither does one with another value there
pub none_beside : {X Y : Type 0} (b : Bool) (x : X) (y : Y) (was : Option X) (now : Option Y) → cond b (Some x) was ≡ None → (was ≡ None → now ≡ None) → cond b (Some y) now ≡ None
none_beside true x y was now h next = absurd (some_is_not_none h)
none_beside false x y was now h next = next h

module _ {X : Type 0} where
  module _ {K : Type 0} (test : K → Bool) where
    -- behind a new last entry
    pub lookup_push : (es : List (K × X)) (e : K × X) → lookup test es ≡ None → lookup test (es ++ e ∷ []) ≡ cond (test e.0) (Some e.1) None
    lookup_push [] e h = refl
    lookup_push (d ∷ es) e h = by (test d.0) h (lookup_push es e)
      where
        by : (b : Bool) → cond b (Some d.1) (lookup test es) ≡ None → (lookup test es ≡ None → lookup test (es ++ e ∷ []) ≡ cond (test e.0) (Some e.1) None)
            → cond b (Some d.1) (lookup test (es ++ e ∷ [])) ≡ cond (test e.0) (Some e.1) None
        by true h rest = absurd (some_is_not_none h)
        by false h rest = rest h

    -- a new last entry that doesn't pass is not found
    pub lookup_past : (es : List (K × X)) (e : K × X) → test e.0 ≡ false → lookup test (es ++ e ∷ []) ≡ lookup test es
    lookup_past [] e h = ap (λ b. cond b (Some e.1) None) h
    lookup_past (d ∷ es) e h = ap (λ o. cond (test d.0) (Some d.1) o) (lookup_past es e h)

    -- what was found is found behind a new last entry too
    pub lookup_stays : (es : List (K × X)) (e : K × X) (x : X) → lookup test es ≡ Some x → lookup test (es ++ e ∷ []) ≡ Some x
    lookup_stays [] e x h = absurd (some_is_not_none (sym h))
    lookup_stays (d ∷ es) e x h = by (test d.0) h (lookup_stays es e x)
      where
        by : (b : Bool) → cond b (Some d.1) (lookup test es) ≡ Some x → (lookup test es ≡ Some x → lookup test (es ++ e ∷ []) ≡ Some x) → cond b (Some d.1) (lookup test (es ++ e ∷ [])) ≡ Some x
        by true h rest = h
        by false h rest = rest h

    -- nothing is found where an entry was taken away, if nothing was
    pub lookup_removed_none : (gone : K → Bool) (es : List (K × X)) → lookup test es ≡ None → lookup test (remove_entry gone es) ≡ None
    lookup_removed_none gone [] h = refl
    lookup_removed_none gone (d ∷ es) h = by (gone d.0) (test d.0) h (lookup_removed_none gone es)
      where
        kept : (t : Bool) → cond t (Some d.1) (lookup test es) ≡ None → lookup test es ≡ None
        kept true h = absurd (some_is_not_none h)
        kept false h = h

        by : (g t : Bool) → cond (test d.0) (Some d.1) (lookup test es) ≡ None → (lookup test es ≡ None → lookup test (remove_entry gone es) ≡ None)
            → lookup test (cond g es (d ∷ remove_entry gone es)) ≡ None
        by true t h rest = kept (test d.0) h
        by false t h rest = none_beside (test d.0) d.1 d.1 (lookup test es) (lookup test (remove_entry gone es)) h rest

  -- a look-up for another identifier finds the same where an entry was taken away
  pub lookup_removed : (id q : ℕ) (es : List (ℕ × X)) → nat_eq id q ≡ false → lookup (nat_eq q) (remove_entry (nat_eq id) es) ≡ lookup (nat_eq q) es
  lookup_removed id q [] h = refl
  lookup_removed id q (d ∷ es) h = by (nat_eq id d.0) refl (lookup_removed id q es h)
    where
      by : (g : Bool) → nat_eq id d.0 ≡ g → lookup (nat_eq q) (remove_entry (nat_eq id) es) ≡ lookup (nat_eq q) es
          → lookup (nat_eq q) (cond g es (d ∷ remove_entry (nat_eq id) es)) ≡ cond (nat_eq q d.0) (Some d.1) (lookup (nat_eq q) es)
      by true e rest = ap (λ b. cond b (Some d.1) (lookup (nat_eq q) es)) (sym (apart id q d.0 h e))
      by false e rest = ap (λ o. cond (nat_eq q d.0) (Some d.1) o) rest

-- a look-up for another identifier finds the same where a session was changed
pub lookup_changed : (id q : ℕ) (f : Session → Session) (es : List (ℕ × Session)) → nat_eq id q ≡ false → lookup (nat_eq q) (changed id f es) ≡ lookup (nat_eq q) es
lookup_changed id q f [] h = refl
lookup_changed id q f (d ∷ es) h = by (nat_eq id d.0) refl (lookup_changed id q f es h)
  where
    by : (g : Bool) → nat_eq id d.0 ≡ g → lookup (nat_eq q) (changed id f es) ≡ lookup (nat_eq q) es
        → lookup (nat_eq q) (cond g ((d.0, f d.1) ∷ es) (d ∷ changed id f es)) ≡ cond (nat_eq q d.0) (Some d.1) (lookup (nat_eq q) es)
    by true e rest = ap (λ b. cond b (Some (f d.1)) (lookup (nat_eq q) es)) (apart id q d.0 h e) ∙ ap (λ b. cond b (Some d.1) (lookup (nat_eq q) es)) (sym (apart id q d.0 h e))
    by false e rest = ap (λ o. cond (nat_eq q d.0) (Some d.1) o) rest

-- nothing is found where a session was changed, if nothing was
pub lookup_changed_none : (test : ℕ → Bool) (id : ℕ) (f : Session → Session) (es : List (ℕ × Session)) → lookup test es ≡ None → lookup test (changed id f es) ≡ None
lookup_changed_none test id f [] h = refl
lookup_changed_none test id f (d ∷ es) h = by (nat_eq id d.0) h (lookup_changed_none test id f es)
  where
    by : (g : Bool) → cond (test d.0) (Some d.1) (lookup test es) ≡ None → (lookup test es ≡ None → lookup test (changed id f es) ≡ None)
        → lookup test (cond g ((d.0, f d.1) ∷ es) (d ∷ changed id f es)) ≡ None
    by true h rest = none_beside (test d.0) d.1 (f d.1) (lookup test es) (lookup test es) h (λ none. none)
    by false h rest = none_beside (test d.0) d.1 d.1 (lookup test es) (lookup test (changed id f es)) h rest

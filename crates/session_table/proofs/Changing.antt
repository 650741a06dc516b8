-- Writes at one session.
use Rattle.std.proofs.Common.{◌≡◌, ℕ, Bool, true, false, cond, List, [], ◌∷◌, Option, Some, None, is_some, nat_eq, refl, sym, ap, true≢false}
use Rattle.std.specs.Map.{lookup, set_value}
use Rattle.std.specs.Option.{unwrap_or}
use Rattle.session_table.specs.Machine.{changed}
use Rattle.session_table.specs.declared.session.Session.{Session}

-- a write at the session that is found changes it
pub changed_here : (id : ℕ) (f : Session → Session) (es : List (ℕ × Session)) (s : Session) → lookup (nat_eq id) es ≡ Some s → set_value (nat_eq id) es (f s) ≡ changed id f es
changed_here id f [] s h = refl
changed_here id f (e ∷ es) s h = by (nat_eq id e.0) h (changed_here id f es s)
  where
    by : (b : Bool) → cond b (Some e.1) (lookup (nat_eq id) es) ≡ Some s → (lookup (nat_eq id) es ≡ Some s → set_value (nat_eq id) es (f s) ≡ changed id f es)
        → cond b ((e.0, f s) ∷ es) (e ∷ set_value (nat_eq id) es (f s)) ≡ cond b ((e.0, f e.1) ∷ es) (e ∷ changed id f es)
    by true h rest = ap (λ (o : Option Session). (e.0, f (unwrap_or o s)) ∷ es) (sym h)
    by false h rest = ap (λ xs. e ∷ xs) (rest h)

-- where no session is found, nothing changes
pub changed_nowhere : (id : ℕ) (f : Session → Session) (es : List (ℕ × Session)) → lookup (nat_eq id) es ≡ None → es ≡ changed id f es
changed_nowhere id f [] h = refl
changed_nowhere id f (e ∷ es) h = by (nat_eq id e.0) h (changed_nowhere id f es)
  where
    by : (b : Bool) → cond b (Some e.1) (lookup (nat_eq id) es) ≡ None → (lookup (nat_eq id) es ≡ None → es ≡ changed id f es)
        → e ∷ es ≡ cond b ((e.0, f e.1) ∷ es) (e ∷ changed id f es)
    by true h rest = absurd (true≢false (ap is_some h))
    by false h rest = ap (λ xs. e ∷ xs) (rest h)

-- The names of the live sessions, kept beside them.
use Rattle.std.proofs.Common.{◌≡◌, ◌∙◌, ℕ, Bool, true, false, cond, ◌&&◌, List, [], ◌∷◌, ◌++◌, Option, Some, None, bytes_eq, nat_eq, refl, sym, ap, subst}
use Rattle.std.specs.Map.{lookup, remove_entry}
use Rattle.std.specs.Option.{unwrap_or}
use Rattle.command_words.specs.declared.identifier.Identifier.{Identifier}
use Rattle.command_words.specs.declared.session_kind.SessionKind.{SessionKind}
use Rattle.command_words.specs.declared.session_kind.SessionKind.TheVariants as kinds
use Rattle.session_table.specs.Answers.{holder_of, IsNew}
use Rattle.session_table.specs.Creates.{kind_of, name_of}
use Rattle.session_table.specs.Distinct.{AreDistinct, AreKept, IsIndexed, IsNewName, with_name}
use Rattle.session_table.specs.Finding.{has_name, id_named, is_named, same_kind}
use Rattle.session_table.specs.Machine.{changed}
use Rattle.session_table.specs.Standings.{new_session}
use Rattle.session_table.specs.declared.create.Create.{Create}
use Rattle.session_table.specs.declared.session.Session.{Session}
use Rattle.session_table.proofs.Distinct.{distinct_changed, distinct_push, distinct_removed, found_by_name, named_changed}
use Rattle.session_table.proofs.Lookups.{some_is_not_none, lookup_changed_none, lookup_push, lookup_removed_none, lookup_stays}
use Rattle.session_table.proofs.Sound.{covered_push, new_name, same_kind_itself}

module _ (kind : SessionKind) (q : List ℕ) where
  named_at_end : (es : List (ℕ × Session)) (e : ℕ × Session) → id_named kind q es ≡ None → id_named kind q (es ++ e ∷ []) ≡ cond (is_named kind q e.1) (Some e.0) None
  named_at_end [] e h = refl
  named_at_end (d ∷ es) e h = by (is_named kind q d.1) h (named_at_end es e)
    where
      by : (b : Bool) → cond b (Some d.0) (id_named kind q es) ≡ None → (id_named kind q es ≡ None → id_named kind q (es ++ e ∷ []) ≡ cond (is_named kind q e.1) (Some e.0) None)
          → cond b (Some d.0) (id_named kind q (es ++ e ∷ [])) ≡ cond (is_named kind q e.1) (Some e.0) None
      by true h rest = absurd (some_is_not_none h)
      by false h rest = rest h

  named_past : (es : List (ℕ × Session)) (e : ℕ × Session) → is_named kind q e.1 ≡ false → id_named kind q (es ++ e ∷ []) ≡ id_named kind q es
  named_past [] e h = ap (λ b. cond b (Some e.0) None) h
  named_past (d ∷ es) e h = ap (λ o. cond (is_named kind q d.1) (Some d.0) o) (named_past es e h)

  named_stays : (es : List (ℕ × Session)) (e : ℕ × Session) (x : ℕ) → id_named kind q es ≡ Some x → id_named kind q (es ++ e ∷ []) ≡ Some x
  named_stays [] e x h = absurd (some_is_not_none (sym h))
  named_stays (d ∷ es) e x h = by (is_named kind q d.1) h (named_stays es e x)
    where
      by : (b : Bool) → cond b (Some d.0) (id_named kind q es) ≡ Some x → (id_named kind q es ≡ Some x → id_named kind q (es ++ e ∷ []) ≡ Some x) → cond b (Some d.0) (id_named kind q (es ++ e ∷ [])) ≡ Some x
      by true h rest = h
      by false h rest = rest h

  -- a name is free once its session was taken away, and no other name is
  named_removed : (id : ℕ) (es : List (ℕ × Session)) (s : Session) → AreDistinct es → lookup (nat_eq id) es ≡ Some s
      → id_named kind q (remove_entry (nat_eq id) es) ≡ cond (is_named kind q s) None (id_named kind q es)
  named_removed id [] s h found = absurd (some_is_not_none (sym found))
  named_removed id (e ∷ es) s h found = by (nat_eq id e.0) found (named_removed id es s h.2)
    where
      here : (b : Bool) → is_named kind q e.1 ≡ b → id_named kind q es ≡ cond b None (cond b (Some e.0) (id_named kind q es))
      here true t = h.1 kind q t
      here false t = refl

      alone : (b : Bool) → is_named kind q s ≡ b → lookup (nat_eq id) es ≡ Some s → is_named kind q e.1 ≡ true → Some e.0 ≡ cond b None (Some e.0)
      alone true t found u = absurd (some_is_not_none (sym (found_by_name es id s kind q h.2 found t) ∙ h.1 kind q u))
      alone false t found u = refl

      later : (b : Bool) → is_named kind q e.1 ≡ b → lookup (nat_eq id) es ≡ Some s
          → id_named kind q (remove_entry (nat_eq id) es) ≡ cond (is_named kind q s) None (id_named kind q es)
          → cond b (Some e.0) (id_named kind q (remove_entry (nat_eq id) es)) ≡ cond (is_named kind q s) None (cond b (Some e.0) (id_named kind q es))
      later true u found rest = alone (is_named kind q s) refl found u
      later false u found rest = rest

      by : (b : Bool) → cond b (Some e.1) (lookup (nat_eq id) es) ≡ Some s
          → (lookup (nat_eq id) es ≡ Some s → id_named kind q (remove_entry (nat_eq id) es) ≡ cond (is_named kind q s) None (id_named kind q es))
          → id_named kind q (cond b es (e ∷ remove_entry (nat_eq id) es)) ≡ cond (is_named kind q s) None (cond (is_named kind q e.1) (Some e.0) (id_named kind q es))
      by true found rest =
          here (is_named kind q e.1) refl
          ∙ ap (λ (o : Option Session). cond (is_named kind q (unwrap_or o s)) None (cond (is_named kind q e.1) (Some e.0) (id_named kind q es))) found
      by false found rest = later (is_named kind q e.1) refl found (rest found)

-- the names of a kind with a new session of it
index_push : (kind : SessionKind) (names : List (List ℕ × ℕ)) (live : List (ℕ × Session)) (c : Create) (id : ℕ) → IsIndexed kind names live → kind ≡ kind_of c
    → IsIndexed kind (with_name names (name_of c) id) (live ++ (id, new_session id c) ∷ [])
index_push kind names live c id indexed same q = by (id_named kind q live) refl (name_of c) refl
  where
    alike : same_kind kind (kind_of c) ≡ true
    alike = ap (λ k. same_kind k (kind_of c)) same ∙ same_kind_itself (kind_of c)

    at_end : (o : Option (List ℕ)) → name_of c ≡ o → id_named kind q live ≡ None → id_named kind q (live ++ (id, new_session id c) ∷ []) ≡ cond (has_name q o) (Some id) None
    at_end o n none =
        named_at_end kind q live (id, new_session id c) none
        ∙ ap (λ b. cond (b && has_name q (name_of c)) (Some id) None) alike
        ∙ ap (λ x. cond (has_name q x) (Some id) None) n

    by : (found : Option ℕ) → id_named kind q live ≡ found → (o : Option (List ℕ)) → name_of c ≡ o → lookup (bytes_eq q) (with_name names o id) ≡ id_named kind q (live ++ (id, new_session id c) ∷ [])
    by (Some x) f None n = indexed q ∙ f ∙ sym (named_stays kind q live (id, new_session id c) x f)
    by (Some x) f (Some name) n = lookup_stays (bytes_eq q) names (name, id) x (indexed q ∙ f) ∙ sym (named_stays kind q live (id, new_session id c) x f)
    by None f None n = indexed q ∙ f ∙ sym (at_end None n f)
    by None f (Some name) n = lookup_push (bytes_eq q) names (name, id) (indexed q ∙ f) ∙ sym (at_end (Some name) n f)

-- the names of the other kind
index_past : (kind : SessionKind) (names : List (List ℕ × ℕ)) (live : List (ℕ × Session)) (c : Create) (id : ℕ) → IsIndexed kind names live → same_kind kind (kind_of c) ≡ false
    → IsIndexed kind names (live ++ (id, new_session id c) ∷ [])
index_past kind names live c id indexed other q = indexed q ∙ sym (named_past kind q live (id, new_session id c) (ap (λ b. b && has_name q (name_of c)) other))

module _ (given : List (ℕ × SessionKind)) (live : List (ℕ × Session)) (sync forward : List (List ℕ × ℕ)) (kept : AreKept given live sync forward) where
  module _ (c : Create) (i : Identifier) (new : IsNew c i given live) where
    kept_distinct : AreDistinct (live ++ (i.id, new_session i.id c) ∷ [])
    kept_distinct = distinct_push live (i.id, new_session i.id c) kept.1 (kept.0 i.id new.0) (new_name c live i.id new.1)

    pub kept_sync : kinds.Sync ≡ kind_of c → AreKept (given ++ (i.id, i.kind) ∷ []) (live ++ (i.id, new_session i.id c) ∷ []) (with_name sync (name_of c) i.id) forward
    kept_sync same = (
      covered_push given live i.id i.kind (new_session i.id c) kept.0,
      kept_distinct,
      index_push kinds.Sync sync live c i.id kept.2 same,
      index_past kinds.Forward forward live c i.id kept.3 (ap (same_kind kinds.Forward) (sym same)),
    )

    pub kept_forward : kinds.Forward ≡ kind_of c → AreKept (given ++ (i.id, i.kind) ∷ []) (live ++ (i.id, new_session i.id c) ∷ []) sync (with_name forward (name_of c) i.id)
    kept_forward same = (
      covered_push given live i.id i.kind (new_session i.id c) kept.0,
      kept_distinct,
      index_past kinds.Sync sync live c i.id kept.2 (ap (same_kind kinds.Sync) (sym same)),
      index_push kinds.Forward forward live c i.id kept.3 same,
    )

    -- the name of a new session is new among the names of its kind
    pub new_among : (kind : SessionKind) (names : List (List ℕ × ℕ)) → IsIndexed kind names live → kind ≡ kind_of c → IsNewName (name_of c) names
    new_among kind names indexed same = by (name_of c) refl
      where
        by : (o : Option (List ℕ)) → name_of c ≡ o → IsNewName o names
        by None n = tt
        by (Some name) n = indexed name ∙ ap (λ k. id_named k name live) same ∙ ap (λ x. holder_of (kind_of c) x live) (sym n) ∙ new.1

  pub kept_changed : (id : ℕ) (f : Session → Session) → ((s : Session) → (f s).row ≡ s.row) → AreKept given (changed id f live) sync forward
  kept_changed id f keeps = (
    (λ q none. lookup_changed_none (nat_eq q) id f live (kept.0 q none)),
    distinct_changed f keeps id live kept.1,
    (λ q. kept.2 q ∙ sym (named_changed f keeps id kinds.Sync q live)),
    (λ q. kept.3 q ∙ sym (named_changed f keeps id kinds.Forward q live)),
  )

  module _ (id : ℕ) (s : Session) (found : lookup (nat_eq id) live ≡ Some s) where
    -- the names of a kind without a session of it
    index_less : (kind : SessionKind) (names less : List (List ℕ × ℕ)) → IsIndexed kind names live → kind ≡ kind_of s.row.create
        → ((q : List ℕ) → lookup (bytes_eq q) less ≡ cond (has_name q (name_of s.row.create)) None (lookup (bytes_eq q) names)) → IsIndexed kind less (remove_entry (nat_eq id) live)
    index_less kind names less indexed same h q =
        h q
        ∙ ap (λ o. cond (has_name q (name_of s.row.create)) None o) (indexed q)
        ∙ ap (λ b. cond (b && has_name q (name_of s.row.create)) None (id_named kind q live)) (sym (ap (λ k. same_kind k (kind_of s.row.create)) same ∙ same_kind_itself (kind_of s.row.create)))
        ∙ sym (named_removed kind q id live s kept.1 found)

    -- the names of the other kind
    index_more : (kind : SessionKind) (names : List (List ℕ × ℕ)) → IsIndexed kind names live → same_kind kind (kind_of s.row.create) ≡ false → IsIndexed kind names (remove_entry (nat_eq id) live)
    index_more kind names indexed other q =
        indexed q ∙ sym (named_removed kind q id live s kept.1 found ∙ ap (λ b. cond (b && has_name q (name_of s.row.create)) None (id_named kind q live)) other)

    kept_less : (q : ℕ) → lookup (nat_eq q) given ≡ None → lookup (nat_eq q) (remove_entry (nat_eq id) live) ≡ None
    kept_less q none = lookup_removed_none (nat_eq q) (nat_eq id) live (kept.0 q none)

    pub less_sync : (less : List (List ℕ × ℕ)) → kinds.Sync ≡ kind_of s.row.create
        → ((q : List ℕ) → lookup (bytes_eq q) less ≡ cond (has_name q (name_of s.row.create)) None (lookup (bytes_eq q) sync)) → AreKept given (remove_entry (nat_eq id) live) less forward
    less_sync less same h = (
      kept_less,
      distinct_removed (nat_eq id) live kept.1,
      index_less kinds.Sync sync less kept.2 same h,
      index_more kinds.Forward forward kept.3 (ap (same_kind kinds.Forward) (sym same)),
    )

    pub less_forward : (less : List (List ℕ × ℕ)) → kinds.Forward ≡ kind_of s.row.create
        → ((q : List ℕ) → lookup (bytes_eq q) less ≡ cond (has_name q (name_of s.row.create)) None (lookup (bytes_eq q) forward)) → AreKept given (remove_entry (nat_eq id) live) sync less
    less_forward less same h = (
      kept_less,
      distinct_removed (nat_eq id) live kept.1,
      index_more kinds.Sync sync kept.2 (ap (same_kind kinds.Sync) (sym same)),
      index_less kinds.Forward forward less kept.3 same h,
    )

-- what is kept by lists is kept by equal ones
pub kept_as : (given given' : List (ℕ × SessionKind)) (live live' : List (ℕ × Session)) (sync sync' forward forward' : List (List ℕ × ℕ))
    → given' ≡ given → live' ≡ live → sync' ≡ sync → forward' ≡ forward → AreKept given live sync forward → AreKept given' live' sync' forward'
kept_as given given' live live' sync sync' forward forward' g l s f kept =
    subst (λ x. AreKept given' live' sync' x) (sym f)
    (subst (λ x. AreKept given' live' x forward) (sym s) (subst (λ x. AreKept given' x sync forward) (sym l) (subst (λ x. AreKept x live sync forward) (sym g) kept)))

-- What a flush does at one name, case by case, and what each flush of a run keeps to.
use Rattle.std.proofs.Common.{◌≡◌, ◌≢◌, ◌⊎◌, inl, inr, ℕ, Bool, true, false, List, [], ◌∷◌, Option, None, Some, refl, sym, ap, subst, ◌∙◌, if◌then◌else◌, Decides, MatchBool}
use Rattle.std.specs.FinMap as map
use Rattle.std.specs.Cmp.Lexicographic.{nat_list_cmp_total}
use Rattle.std.proofs.lemmas.Bool.{MatchBool-at_true}
use Rattle.std.proofs.lemmas.Map.Lookups.{exact_bytes}
use Rattle.std.proofs.lemmas.Option.{MatchOption-at_some}
use Rattle.std.proofs.lemmas.Slice.Eq.{bytes_eq-Decides}
use Rattle.script_engine.specs.declared.flat_roots.FlatRoots.{FlatRoots}
use Rattle.script_engine.specs.declared.flat_roots.RootName.{RootName}
use Rattle.script_engine.specs.declared.flat_roots.RootName.TheVariants.{A, B}
use Rattle.script_engine.specs.declared.flush.Settlement.{Settlement}
use Rattle.script_engine.specs.declared.flush.Settlement.TheVariants.{Agreed, ToAlpha, ToBeta, Conflict}
use Rattle.script_engine.specs.declared.session.Session.{Session}
use Rattle.script_engine.specs.World.{World, other_root, files_of}
use Rattle.script_engine.specs.Flush.{is_same, settle, digest_of, alpha_after, beta_after, ancestor_after}
use Rattle.script_engine.specs.Script.{Answers, AnswersRequest, Refuses, Cycles, Runs, is_called}
use Rattle.script_engine.specs.Replies.{no_session_reply, not_yet_reply}
use Rattle.script_engine.specs.Laws.{file_at, root_digest, IsFlushOf, EachFlush, EveryFlush, KeepsOrTakes, TakesOnlyTheOthers, IsConflict, AgreesElsewhere, LeavesConflicts, IsLasting}

-- ---- the rule, case by case

is_same-Decides : (x y : Option (List ℕ)) → Decides (is_same x y) (x ≡ y)
is_same-Decides None None = (λ e. refl, λ e. refl)
is_same-Decides None (Some y) = (λ e. absurd (cc), λ e. absurd (cc))
is_same-Decides (Some x) None = (λ e. absurd (cc), λ e. absurd (cc))
is_same-Decides (Some x) (Some y) =
    let d = bytes_eq-Decides x y in
    (λ e. ap Some (d.0 e), λ e. (let same : x ≡ y = cc in d.1 same))

denies : (X : Type 0) → Decides false X → ¬ X
denies X d x = absurd (let e = d.1 x in cc)

-- how a name is decided, and what of the ancestor's and the sides' digests decided it so
abbrev pub Cases : Settlement → Option (List ℕ) → Option (List ℕ) → Option (List ℕ) → Type 0
Cases s a x y = ((s ≡ Agreed) × (x ≡ y))
    ⊎ (((s ≡ ToAlpha) × (x ≢ y) × (x ≡ a))
    ⊎ (((s ≡ ToBeta) × (x ≢ y) × (y ≡ a))
    ⊎ ((s ≡ Conflict) × (x ≢ y) × (x ≢ a) × (y ≢ a))))

cases_by : (a x y : Option (List ℕ)) (p q r : Bool) → Decides p (x ≡ y) → Decides q (x ≡ a) → Decides r (y ≡ a)
    → Cases (if p then Agreed else (if q then ToAlpha else (if r then ToBeta else Conflict))) a x y
cases_by a x y true q r d e f = inl (refl, d.0 refl)
cases_by a x y false true r d e f = inr (inl (refl, denies (x ≡ y) d, e.0 refl))
cases_by a x y false false true d e f = inr (inr (inl (refl, denies (x ≡ y) d, f.0 refl)))
cases_by a x y false false false d e f = inr (inr (inr (refl, denies (x ≡ y) d, denies (x ≡ a) e, denies (y ≡ a) f)))

settle_cases : (a x y : Option (List ℕ)) → Cases (settle a x y) a x y
settle_cases a x y = cases_by a x y (is_same x y) (is_same x a) (is_same y a) (is_same-Decides x y) (is_same-Decides x a) (is_same-Decides y a)

-- ---- one name

module _ (s : Settlement) (a l r a' l' r' : Option (List ℕ)) (at_alpha : l' ≡ alpha_after s l r) (at_beta : r' ≡ beta_after s l r) (at_ancestor : a' ≡ ancestor_after s a (digest_of l) (digest_of r)) where
  alpha_is : (t : Settlement) → s ≡ t → l' ≡ alpha_after t l r
  alpha_is t e = at_alpha ∙ ap (λ s. alpha_after s l r) e

  beta_is : (t : Settlement) → s ≡ t → r' ≡ beta_after t l r
  beta_is t e = at_beta ∙ ap (λ s. beta_after s l r) e

  ancestor_is : (t : Settlement) → s ≡ t → a' ≡ ancestor_after t a (digest_of l) (digest_of r)
  ancestor_is t e = at_ancestor ∙ ap (λ s. ancestor_after s a (digest_of l) (digest_of r)) e

  alpha_takes : Cases s a (digest_of l) (digest_of r) → KeepsOrTakes a l r l'
  alpha_takes (inl h) = inl (alpha_is Agreed h.0)
  alpha_takes (inr (inl h)) = inr (alpha_is ToAlpha h.0, h.2)
  alpha_takes (inr (inr (inl h))) = inl (alpha_is ToBeta h.0)
  alpha_takes (inr (inr (inr h))) = inl (alpha_is Conflict h.0)

  beta_takes : Cases s a (digest_of l) (digest_of r) → KeepsOrTakes a r l r'
  beta_takes (inl h) = inl (beta_is Agreed h.0)
  beta_takes (inr (inl h)) = inl (beta_is ToAlpha h.0)
  beta_takes (inr (inr (inl h))) = inr (beta_is ToBeta h.0, h.2)
  beta_takes (inr (inr (inr h))) = inl (beta_is Conflict h.0)

  agree : Cases s a (digest_of l) (digest_of r) → ¬ ((digest_of l ≢ digest_of r) × (digest_of l ≢ a) × (digest_of r ≢ a))
      → (digest_of l' ≡ a') × (digest_of r' ≡ a')
  agree (inl h) free = (
    ap digest_of (alpha_is Agreed h.0) ∙ sym (ancestor_is Agreed h.0),
    ap digest_of (beta_is Agreed h.0) ∙ sym h.1 ∙ sym (ancestor_is Agreed h.0),
  )
  agree (inr (inl h)) free = (
    ap digest_of (alpha_is ToAlpha h.0) ∙ sym (ancestor_is ToAlpha h.0),
    ap digest_of (beta_is ToAlpha h.0) ∙ sym (ancestor_is ToAlpha h.0),
  )
  agree (inr (inr (inl h))) free = (
    ap digest_of (alpha_is ToBeta h.0) ∙ sym (ancestor_is ToBeta h.0),
    ap digest_of (beta_is ToBeta h.0) ∙ sym (ancestor_is ToBeta h.0),
  )
  agree (inr (inr (inr h))) free = absurd (free (h.1, h.2, h.3))

  leave : Cases s a (digest_of l) (digest_of r) → digest_of l ≢ digest_of r → digest_of l ≢ a → digest_of r ≢ a
      → (l' ≡ l) × (r' ≡ r) × (a' ≡ a)
  leave (inl h) differ left right = absurd (differ h.1)
  leave (inr (inl h)) differ left right = absurd (left h.2)
  leave (inr (inr (inl h))) differ left right = absurd (right h.2)
  leave (inr (inr (inr h))) differ left right = (alpha_is Conflict h.0, beta_is Conflict h.0, ancestor_is Conflict h.0)

  -- where the sides agree once one of them is as the ancestor has it, nothing is copied
  stay : Cases s a (digest_of l) (digest_of r) → (digest_of l ≡ a → digest_of r ≡ a) → (digest_of r ≡ a → digest_of l ≡ a)
      → (l' ≡ l) × (r' ≡ r)
  stay (inl h) forth back = (alpha_is Agreed h.0, beta_is Agreed h.0)
  stay (inr (inl h)) forth back = absurd (h.1 (h.2 ∙ sym (forth h.2)))
  stay (inr (inr (inl h))) forth back = absurd (h.1 (back h.2 ∙ sym h.2))
  stay (inr (inr (inr h))) forth back = (alpha_is Conflict h.0, beta_is Conflict h.0)

-- ---- both roots

other_other : (root : RootName) → other_root (other_root root) ≡ root
other_other A = refl
other_other B = refl

-- what holds of a root and of the other one holds of each
on_both : (P : RootName → Type 0) (alpha : RootName) → P alpha → P (other_root alpha) → (root : RootName) → P root
on_both P A p q A = p
on_both P A p q B = q
on_both P B p q A = q
on_both P B p q B = p

same_roots : (r s : FlatRoots) → ((root : RootName) (name : List ℕ) → map.get (files_of r root) name ≡ map.get (files_of s root) name) → r ≡ s
same_roots r s same =
    let a : r.a ≡ s.a = map.same_map nat_list_cmp_total exact_bytes r.a s.a (same A) in
    let b : r.b ≡ s.b = map.same_map nat_list_cmp_total exact_bytes r.b s.b (same B) in
    λ i. record { a = a i; b = b i }

module _ (old : World) (session : Session) (reply : List ℕ) (new : World) (c : Cycles old session reply new) where
  abbrev decided : (name : List ℕ) → Settlement
  decided name = settle (map.get session.ancestor name) (root_digest old session.alpha name) (root_digest old (other_root session.alpha) name)

  cases_at : (name : List ℕ) → Cases (decided name) (map.get session.ancestor name) (root_digest old session.alpha name) (root_digest old (other_root session.alpha) name)
  cases_at name = settle_cases _ _ _

  pub cycle_takes : TakesOnlyTheOthers old session new c.after
  cycle_takes name root =
      let ancestor = map.get session.ancestor name in
      let beta = other_root session.alpha in
      on_both (λ root. KeepsOrTakes ancestor (file_at old root name) (file_at old (other_root root) name) (file_at new root name)) session.alpha
      (alpha_takes (decided name) ancestor (file_at old session.alpha name) (file_at old beta name) (map.get c.after.ancestor name) (file_at new session.alpha name) (file_at new beta name)
      (c.settled.at_alpha name) (c.settled.at_beta name) (c.settled.at_ancestor name) (cases_at name))
      (subst (λ other. KeepsOrTakes ancestor (file_at old beta name) (file_at old other name) (file_at new beta name)) (sym (other_other session.alpha))
      (beta_takes (decided name) ancestor (file_at old session.alpha name) (file_at old beta name) (map.get c.after.ancestor name) (file_at new session.alpha name) (file_at new beta name)
      (c.settled.at_alpha name) (c.settled.at_beta name) (c.settled.at_ancestor name) (cases_at name)))
      root

  pub cycle_agrees : AgreesElsewhere old session new c.after
  cycle_agrees name free root =
      let ancestor = map.get session.ancestor name in
      let beta = other_root session.alpha in
      let both = agree (decided name) ancestor (file_at old session.alpha name) (file_at old beta name) (map.get c.after.ancestor name) (file_at new session.alpha name) (file_at new beta name)
      (c.settled.at_alpha name) (c.settled.at_beta name) (c.settled.at_ancestor name) (cases_at name)
      (λ h. free (h.0, on_both (λ root. root_digest old root name ≢ ancestor) session.alpha h.1 h.2)) in
      on_both (λ root. root_digest new root name ≡ map.get c.after.ancestor name) session.alpha both.0 both.1 root

  pub cycle_leaves : LeavesConflicts old session new c.after
  cycle_leaves name conflict =
      let ancestor = map.get session.ancestor name in
      let beta = other_root session.alpha in
      let all = leave (decided name) ancestor (file_at old session.alpha name) (file_at old beta name) (map.get c.after.ancestor name) (file_at new session.alpha name) (file_at new beta name)
      (c.settled.at_alpha name) (c.settled.at_beta name) (c.settled.at_ancestor name) (cases_at name)
      conflict.0 (conflict.1 session.alpha) (conflict.1 beta) in
      (on_both (λ root. file_at new root name ≡ file_at old root name) session.alpha all.0 all.1, all.2)

  is_conflict_or : (name : List ℕ) → Cases (decided name) (map.get session.ancestor name) (root_digest old session.alpha name) (root_digest old (other_root session.alpha) name)
      → IsConflict old session name ⊎ (¬ IsConflict old session name)
  is_conflict_or name (inl h) = inr (λ k. k.0 h.1)
  is_conflict_or name (inr (inl h)) = inr (λ k. k.1 session.alpha h.2)
  is_conflict_or name (inr (inr (inl h))) = inr (λ k. k.1 (other_root session.alpha) h.2)
  is_conflict_or name (inr (inr (inr h))) = inl (h.1, on_both (λ root. root_digest old root name ≢ map.get session.ancestor name) session.alpha h.2 h.3)

  -- behind a flush both sides are as the ancestor has it where one of them is
  agrees_by : (name : List ℕ) → IsConflict old session name ⊎ (¬ IsConflict old session name) → (one other : RootName)
      → root_digest new one name ≡ map.get c.after.ancestor name → root_digest new other name ≡ map.get c.after.ancestor name
  agrees_by name (inr free) one other e = cycle_agrees name free other
  agrees_by name (inl conflict) one other e =
      let kept = cycle_leaves name conflict in
      absurd (conflict.1 one (sym (ap digest_of (kept.0 one)) ∙ e ∙ kept.1))

  pub agrees_if : (name : List ℕ) (one other : RootName) → root_digest new one name ≡ map.get c.after.ancestor name → root_digest new other name ≡ map.get c.after.ancestor name
  agrees_if name one other e = agrees_by name (is_conflict_or name (cases_at name)) one other e

-- a cycle behind a cycle changes no root
second_changes_none : (old : World) (session : Session) (reply : List ℕ) (mid : World) (c : Cycles old session reply mid) (again : List ℕ) (new : World)
    → Cycles mid c.after again new → new.roots ≡ mid.roots
second_changes_none old session reply mid c again new d =
    let alpha = c.after.alpha in
    let beta = other_root alpha in
    same_roots new.roots mid.roots (λ root name.
    (let both = stay (settle (map.get c.after.ancestor name) (root_digest mid alpha name) (root_digest mid beta name))
    (map.get c.after.ancestor name) (file_at mid alpha name) (file_at mid beta name) (map.get d.after.ancestor name) (file_at new alpha name) (file_at new beta name)
    (d.settled.at_alpha name) (d.settled.at_beta name) (d.settled.at_ancestor name) (settle_cases _ _ _)
    (agrees_if old session reply mid c name alpha beta) (agrees_if old session reply mid c name beta alpha) in
    on_both (λ root. file_at new root name ≡ file_at mid root name) alpha both.0 both.1 root))

-- ---- the flushes of a run

-- a flush that names the session is a cycle of it
flush_cycles : (old : World) (session : Session) (line reply : List ℕ) (new : World) → old.session ≡ Some session → IsFlushOf line session
    → Answers old line reply new → Cycles old session reply new
flush_cycles old session [] reply new is flush h = absurd (let e = flush.1 in cc)
flush_cycles old session (byte ∷ bytes) reply new is flush h =
    let request = MatchOption-at_some (Refuses old not_yet_reply reply new) (λ request. AnswersRequest old request reply new) _ flush.1 h in
    let called = MatchOption-at_some (Refuses old no_session_reply reply new)
    (λ session. MatchBool (is_called session flush.0) (Cycles old session reply new) (Refuses old no_session_reply reply new)) session is request in
    MatchBool-at_true (Cycles old session reply new) (Refuses old no_session_reply reply new) flush.2 called

module _ (Law : World → Session → World → Session → Type 0) (keeps : (old : World) (session : Session) (reply : List ℕ) (new : World) (c : Cycles old session reply new) → Law old session new c.after) where
  every_flush : (old : World) (lines : List (List ℕ)) (text : List ℕ) (new : World) (ran : Runs old lines text new) → EachFlush Law old lines text new ran
  every_flush old [] text new ran = tt
  every_flush old (line ∷ lines) text new (reply, mid, rest, answered, written, ran) = (
    λ session is flush.
        (let c = flush_cycles old session line reply mid is flush answered in
        (c.after, c.session_is, keeps old session reply mid c)),
    every_flush mid lines rest new ran,
  )

pub every_takes : EveryFlush TakesOnlyTheOthers
every_takes = every_flush TakesOnlyTheOthers cycle_takes

pub every_agrees : EveryFlush AgreesElsewhere
every_agrees = every_flush AgreesElsewhere cycle_agrees

pub every_leaves : EveryFlush LeavesConflicts
every_leaves = every_flush LeavesConflicts cycle_leaves

pub every_lasts : EveryFlush IsLasting
every_lasts = every_flush IsLasting (λ old session reply mid c line again new flush h.
    second_changes_none old session reply mid c again new (flush_cycles mid c.after line again new c.session_is flush h))

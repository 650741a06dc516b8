-- How far a flush has come: which names it has gone over, and what they hold.
use Rattle.std.proofs.Common.{◌≡◌, ℕ, Ordering, Bool, true, false, ◌||◌, cond, List, Option, Some, None, refl, sym, ap, subst, ◌∙◌}
use Rattle.std.specs.FinMap as map
use Rattle.std.specs.Cmp.{Equal-is}
use Rattle.std.specs.Cmp.Lexicographic.{slice_cmp, nat_list_cmp_total}
use Rattle.std.specs.Option.{is_some}
use Rattle.std.specs.Ordering.{nat_cmp, eq_by_cmp}
use Rattle.std.proofs.lemmas.Map.Lookups.{exact_bytes}
use Rattle.std.proofs.Math.Bool.{or-false, or-true, or_assoc}
use Rattle.script_engine.specs.declared.flush.Flushed.{Flushed}
use Rattle.script_engine.specs.declared.flush.Settlement.{Settlement}
use Rattle.script_engine.specs.declared.flush.Settlement.TheVariants.{Agreed, ToAlpha, ToBeta, Conflict}
use Rattle.script_engine.specs.Names.{ByName}
use Rattle.script_engine.specs.World.{Files}
use Rattle.script_engine.specs.Flush.{Flushes, settlement_at, digest_at, alpha_after, beta_after, ancestor_after, is_conflict}
use Rattle.script_engine.specs.Flushed.{noted, conflict_mark, SettlesName}

-- the names gone over are settled, and the others hold nothing yet
pub record HasSettled (gone : List ℕ → Bool) (ancestor : ByName (List ℕ)) (alpha beta : Files) (f : Flushed) : Type 0 where
  pub at_alpha : (q : List ℕ) → map.get f.alpha q
      ≡ cond (gone q) (alpha_after (settlement_at ancestor alpha beta q) (map.get alpha q) (map.get beta q)) None
  pub at_beta : (q : List ℕ) → map.get f.beta q
      ≡ cond (gone q) (beta_after (settlement_at ancestor alpha beta q) (map.get alpha q) (map.get beta q)) None
  pub at_ancestor : (q : List ℕ) → map.get f.ancestor q
      ≡ cond (gone q) (ancestor_after (settlement_at ancestor alpha beta q) (map.get ancestor q) (digest_at alpha q) (digest_at beta q)) None
  pub at_conflicts : (q : List ℕ) → map.get f.conflicts q ≡ cond (gone q) (conflict_mark (settlement_at ancestor alpha beta q)) None

abbrev pub name_cmp : List ℕ → List ℕ → Ordering
name_cmp = slice_cmp nat_cmp

same_name : (q k : List ℕ) → eq_by_cmp name_cmp q k ≡ true → q ≡ k
same_name q k e = exact_bytes q k ((Equal-is (name_cmp q k)).0 e)

-- ---- one name more

get-noted : {X : Type 0} (m : ByName X) (k : List ℕ) (o : Option X) → map.get m k ≡ None → (q : List ℕ)
    → map.get (noted m k o) q ≡ cond (eq_by_cmp name_cmp q k) o (map.get m q)
get-noted m k None none q =
    elim (eq_by_cmp name_cmp q k) as (λ b. eq_by_cmp name_cmp q k ≡ b → map.get m q ≡ cond b None (map.get m q)) [
      | true ↦ λ e. ap (map.get m) (same_name q k e) ∙ none
      | false ↦ λ e. refl
    ] refl
get-noted m k (Some v) none q = map.get-insert nat_list_cmp_total m k v q

noted_more : {X : Type 0} (gone gone' : List ℕ → Bool) (k : List ℕ) → gone k ≡ false → ((q : List ℕ) → gone' q ≡ (gone q || eq_by_cmp name_cmp q k))
    → (after : List ℕ → Option X) (m m' : ByName X) → ((q : List ℕ) → map.get m q ≡ cond (gone q) (after q) None) → m' ≡ noted m k (after k)
    → (q : List ℕ) → map.get m' q ≡ cond (gone' q) (after q) None
noted_more gone gone' k new more after m m' so_far is q =
    ap (λ n. map.get n q) is
    ∙ get-noted m k (after k) (so_far k ∙ ap (λ b. cond b (after k) None) new) q
    ∙ ap (cond (eq_by_cmp name_cmp q k) (after k)) (so_far q)
    ∙ elim (eq_by_cmp name_cmp q k) as (λ b. eq_by_cmp name_cmp q k ≡ b → cond b (after k) (cond (gone q) (after q) None) ≡ cond (gone q || b) (after q) None) [
      | true ↦ λ e. ap after (sym (same_name q k e)) ∙ ap (λ b. cond b (after q) None) (sym (or-true (gone q)))
      | false ↦ λ e. ap (λ b. cond b (after q) None) (sym (or-false (gone q)))
    ] refl
    ∙ ap (λ b. cond b (after q) None) (sym (more q))

none_yet : {X : Type 0} (g : Bool) (x after : Option X) → x ≡ None → g ≡ false → x ≡ cond g after None
none_yet g x after e h = e ∙ ap (λ b. cond b after None) (sym h)

as_before : {X : Type 0} (g g' : Bool) (x after : Option X) → x ≡ cond g after None → g' ≡ g → x ≡ cond g' after None
as_before g g' x after e h = e ∙ ap (λ b. cond b after None) (sym h)

module _ {ancestor : ByName (List ℕ)} {alpha beta : Files} where
  pub settled_none : (gone : List ℕ → Bool) (f : Flushed) → ((q : List ℕ) → gone q ≡ false)
      → f.alpha ≡ map.empty → f.beta ≡ map.empty → f.ancestor ≡ map.empty → f.conflicts ≡ map.empty → HasSettled gone ancestor alpha beta f
  settled_none gone f none a b c d = record {
    at_alpha = λ q. none_yet _ _ _ (ap (λ m. map.get m q) a ∙ map.get-empty name_cmp q) (none q);
    at_beta = λ q. none_yet _ _ _ (ap (λ m. map.get m q) b ∙ map.get-empty name_cmp q) (none q);
    at_ancestor = λ q. none_yet _ _ _ (ap (λ m. map.get m q) c ∙ map.get-empty name_cmp q) (none q);
    at_conflicts = λ q. none_yet _ _ _ (ap (λ m. map.get m q) d ∙ map.get-empty name_cmp q) (none q);
  }

  pub settled_same : (gone gone' : List ℕ → Bool) (f : Flushed) → ((q : List ℕ) → gone' q ≡ gone q) → HasSettled gone ancestor alpha beta f → HasSettled gone' ancestor alpha beta f
  settled_same gone gone' f same p = record {
    at_alpha = λ q. as_before _ _ _ _ (p.at_alpha q) (same q);
    at_beta = λ q. as_before _ _ _ _ (p.at_beta q) (same q);
    at_ancestor = λ q. as_before _ _ _ _ (p.at_ancestor q) (same q);
    at_conflicts = λ q. as_before _ _ _ _ (p.at_conflicts q) (same q);
  }

  pub settled_more : (gone gone' : List ℕ → Bool) (f f' : Flushed) (k : List ℕ) → gone k ≡ false → ((q : List ℕ) → gone' q ≡ (gone q || eq_by_cmp name_cmp q k))
      → HasSettled gone ancestor alpha beta f → SettlesName k (map.get ancestor k) (map.get alpha k) (map.get beta k) f f' → HasSettled gone' ancestor alpha beta f'
  settled_more gone gone' f f' k new more p s = record {
    at_alpha = noted_more gone gone' k new more (λ q. alpha_after (settlement_at ancestor alpha beta q) (map.get alpha q) (map.get beta q)) f.alpha f'.alpha p.at_alpha s.alpha_noted;
    at_beta = noted_more gone gone' k new more (λ q. beta_after (settlement_at ancestor alpha beta q) (map.get alpha q) (map.get beta q)) f.beta f'.beta p.at_beta s.beta_noted;
    at_ancestor = noted_more gone gone' k new more (λ q. ancestor_after (settlement_at ancestor alpha beta q) (map.get ancestor q) (digest_at alpha q) (digest_at beta q)) f.ancestor f'.ancestor p.at_ancestor s.ancestor_noted;
    at_conflicts = noted_more gone gone' k new more (λ q. conflict_mark (settlement_at ancestor alpha beta q)) f.conflicts f'.conflicts p.at_conflicts s.conflicts_noted;
  }

-- ---- a name of beta's, where alpha's are gone over

covered : (a b c : Bool) → (c ≡ true → a ≡ true) → (a || (b || c)) ≡ (a || b)
covered true b c h = refl
covered false b true h = absurd (let e = h refl in cc)
covered false b false h = or-false b

-- it is one of alpha's
pub gone_already : (p g g' : List ℕ → Bool) (k : List ℕ) → p k ≡ true → ((q : List ℕ) → g' q ≡ (g q || eq_by_cmp name_cmp q k))
    → (q : List ℕ) → (p q || g' q) ≡ (p q || g q)
gone_already p g g' k e more q =
    ap (λ b. p q || b) (more q) ∙ covered (p q) (g q) (eq_by_cmp name_cmp q k) (λ h. ap p (same_name q k h) ∙ e)

-- it is new
pub gone_more : (p g g' : List ℕ → Bool) (k : List ℕ) → ((q : List ℕ) → g' q ≡ (g q || eq_by_cmp name_cmp q k))
    → (q : List ℕ) → (p q || g' q) ≡ ((p q || g q) || eq_by_cmp name_cmp q k)
gone_more p g g' k more q = ap (λ b. p q || b) (more q) ∙ sym (or_assoc (p q) (g q) (eq_by_cmp name_cmp q k))

-- ---- every name

nothing : (x y : Option (List ℕ)) → (is_some x || is_some y) ≡ false → (x ≡ None) × (y ≡ None)
nothing None None e = (refl, refl)
nothing None (Some y) e = absurd (cc)
nothing (Some x) y e = absurd (cc)

settled_at : {X : Type 0} (g : Bool) (x after : Option X) → x ≡ cond g after None → (g ≡ false → after ≡ None) → x ≡ after
settled_at true x after e h = e
settled_at false x after e h = e ∙ sym (h refl)

marked : (s : Settlement) → is_some (conflict_mark s) ≡ is_conflict s
marked Agreed = refl
marked ToAlpha = refl
marked ToBeta = refl
marked Conflict = refl

module _ {ancestor : ByName (List ℕ)} {alpha beta : Files} where
  pub settled_all : (gone : List ℕ → Bool) (f : Flushed) → ((q : List ℕ) → gone q ≡ (map.contains_key alpha q || map.contains_key beta q))
      → HasSettled gone ancestor alpha beta f → Flushes ancestor alpha beta f.ancestor f.alpha f.beta f.conflicts
  settled_all gone f all p =
      let neither : (q : List ℕ) → gone q ≡ false → (map.get alpha q ≡ None) × (map.get beta q ≡ None)
      = λ q e. nothing (map.get alpha q) (map.get beta q) (sym (all q) ∙ e) in
      let agreed : (q : List ℕ) → gone q ≡ false → settlement_at ancestor alpha beta q ≡ Agreed
      = λ q e. rw ((neither q e).0, (neither q e).1) in
      record {
        at_alpha = λ q. settled_at (gone q) _ _ (p.at_alpha q) (λ e. rw ((neither q e).0, (neither q e).1));
        at_beta = λ q. settled_at (gone q) _ _ (p.at_beta q) (λ e. rw ((neither q e).0, (neither q e).1));
        at_ancestor = λ q. settled_at (gone q) _ _ (p.at_ancestor q) (λ e. rw ((neither q e).0, (neither q e).1));
        at_conflicts = λ q. ap is_some (settled_at (gone q) _ _ (p.at_conflicts q) (λ e. ap conflict_mark (agreed q e))) ∙ marked (settlement_at ancestor alpha beta q);
      }

-- ---- what `settle_into` says, at the maps' values

module _ {a a' x x' y y' : Option (List ℕ)} (ea : a ≡ a') (ex : x ≡ x') (ey : y ≡ y') where
  pub settles_at : {k : List ℕ} {f f' : Flushed} → SettlesName k a x y f f' → SettlesName k a' x' y' f f'
  settles_at {k = k} {f = f} {f' = f'} h = subst (λ v. SettlesName k v x' y' f f') ea (subst (λ v. SettlesName k a v y' f f') ex (subst (λ v. SettlesName k a x v f f') ey h))

-- The finite map of the rows follows the tree, and the tasks that are put away stay in their rows.
use Rattle.std.proofs.Common.{Bool, ◌≡◌, ℕ, ◌<◌, true, false, cond, List, [], ◌∷◌, refl, sym, ap, ◌∙◌, subst, true≢false}
use Rattle.std.specs.Prelude.{Option, None, Some, is_some, unwrap_or, ◌↔◌}
use Rattle.std.specs.declared.cmp.Ordering.{Ordering}
use Rattle.std.specs.declared.cmp.Ordering.TheVariants.{Less, Equal, Greater}
use Rattle.std.specs.Ordering.{nat_cmp, is_eq, eq_by_cmp}
use Rattle.std.specs.Cmp.{nat_cmp_total, eq_by_cmp_equiv}
use Rattle.std.specs.FinMap as map
use Rattle.std.specs.FinMap.{get-from_entries, get-insert, get-remove, get-empty, same_map, nat_cmp-IsAntisymmetric, find}
use Rattle.std.specs.Map.{lookup}
use Rattle.std.specs.BTreeMap as tree
use Rattle.std.specs.BTreeMap.{BTreeMap, is_at, Updates, IsUnchanged}
use Rattle.worker_pool.specs.declared.row.Away.{Away}
use Rattle.worker_pool.specs.declared.row.Row.{Row}
use Rattle.std.specs.BTreeMap.{WritesThrough}
use Rattle.std.specs.Option.{IsSome, IsNone, IfSome, IfNone}
use Rattle.worker_pool.specs.declared.row.TheConstants.{LAST_COUNT}
use Rattle.worker_pool.specs.IdleRow.{row_of, away_of, new_row, called, task_in, MayPut}
use Rattle.worker_pool.specs.IdleMap.{Rows, rows_in, task_at, entered, call_in, called_at, CanPut, put_at, IsPutAway, ArePutAway}

find-lookup : {X : Type 0} → (q : ℕ) (es : List (ℕ × X)) → find nat_cmp q es ≡ lookup (is_at (nat_cmp q)) es
find-lookup q [] = refl
find-lookup q (e ∷ es) = ap (cond (is_eq (nat_cmp q e.0)) (Some e.1)) (find-lookup q es)

pub some_same : {X : Type 0} (x y : X) → Some x ≡ Some y → x ≡ y
some_same x y e = ap (λ o. unwrap_or o x) e

pub none_some : {X : Type 0} (x : X) → None ≡ Some x → ⊥
none_some x e = true≢false (ap is_some (sym e))

tied : (o : Ordering) → is_eq o ≡ true → o ≡ Equal
tied Less e = absurd (true≢false (sym e))
tied Equal e = refl
tied Greater e = absurd (true≢false (sym e))

turned : (k q : ℕ) → eq_by_cmp nat_cmp q k ≡ eq_by_cmp nat_cmp k q
turned k q = (eq_by_cmp_equiv nat_cmp_total).symm q k

module _ {T : Type 0} where
  -- the map answers as the tree does
  pub get-rows_in : (m : BTreeMap ℕ (Row T)) (q : ℕ) → map.get (rows_in m) q ≡ tree.get nat_cmp m q
  get-rows_in m q = get-from_entries nat_cmp_total m.entries q ∙ find-lookup q m.entries

  pub rows_in-insert : (m n : BTreeMap ℕ (Row T)) (k : ℕ) (r : Row T) → Updates nat_cmp m n k (Some r) → rows_in n ≡ map.insert (rows_in m) k r
  rows_in-insert m n k r u = same_map nat_cmp_total nat_cmp-IsAntisymmetric (rows_in n) (map.insert (rows_in m) k r)
      (λ q. get-rows_in n q ∙ u.0 q ∙ ap (λ b. cond b (Some r) (tree.get nat_cmp m q)) (sym (turned k q)) ∙ ap (λ o. cond (eq_by_cmp nat_cmp q k) (Some r) o) (sym (get-rows_in m q))
      ∙ sym (get-insert nat_cmp_total (rows_in m) k r q))

  pub rows_in-remove : (m n : BTreeMap ℕ (Row T)) (k : ℕ) → Updates nat_cmp m n k None → rows_in n ≡ map.remove (rows_in m) k
  rows_in-remove m n k u = same_map nat_cmp_total nat_cmp-IsAntisymmetric (rows_in n) (map.remove (rows_in m) k)
      (λ q. get-rows_in n q ∙ u.0 q ∙ ap (λ b. cond b None (tree.get nat_cmp m q)) (sym (turned k q)) ∙ ap (λ o. cond (eq_by_cmp nat_cmp q k) None o) (sym (get-rows_in m q))
      ∙ sym (get-remove nat_cmp_total (rows_in m) k q))

  pub rows_in-same : (m n : BTreeMap ℕ (Row T)) → IsUnchanged m n → rows_in n ≡ rows_in m
  rows_in-same m n same = ap map.from_entries same

  -- the facts of all rows after one row is set
  pub put_away-insert : (identity : T → ℕ) (rows : Rows T) (k : ℕ) (r : Row T) → ArePutAway identity rows
      → ((a : Away T) → r.away ≡ Some a → IsPutAway identity k r a) → ArePutAway identity (map.insert rows k r)
  put_away-insert identity rows k r h new q s a at away =
      elim (eq_by_cmp nat_cmp q k) as (λ b. eq_by_cmp nat_cmp q k ≡ b → cond b (Some r) (map.get rows q) ≡ Some s → IsPutAway identity q s a) [
        | true ↦ λ same is.
            let key : q ≡ k = nat_cmp-IsAntisymmetric q k (tied (nat_cmp q k) same) in
            let row : r ≡ s = some_same r s is in
            subst (λ (p : ℕ × Row T). p.1.away ≡ Some a → IsPutAway identity p.0 p.1 a) (λ i. (sym key i, row i)) (new a) away
        | false ↦ λ _ is. h q s a is away
      ] refl (sym (get-insert nat_cmp_total rows k r q) ∙ at)

  pub put_away-remove : (identity : T → ℕ) (rows : Rows T) (k : ℕ) → ArePutAway identity rows → ArePutAway identity (map.remove rows k)
  put_away-remove identity rows k h q s a at away =
      elim (eq_by_cmp nat_cmp q k) as (λ b. cond b None (map.get rows q) ≡ Some s → IsPutAway identity q s a) [
        | true ↦ λ is. absurd (none_some s is)
        | false ↦ λ is. h q s a is away
      ] (sym (get-remove nat_cmp_total rows k q) ∙ at)

  pub put_away-empty : (identity : T → ℕ) → ArePutAway identity map.empty
  put_away-empty identity q s a at away = absurd (none_some s (sym (get-empty nat_cmp q) ∙ at))

  -- what the tree has at a key is what the map has there
  pub row_seen : (m : BTreeMap ℕ (Row T)) (rows : Rows T) (k : ℕ) (o : Option (Row T)) → rows_in m ≡ rows → o ≡ tree.get nat_cmp m k → map.get rows k ≡ o
  row_seen m rows k o is seen = ap (λ x. map.get x k) (sym is) ∙ get-rows_in m k ∙ sym seen

  -- the map has a key where the tree has it
  pub key_seen : (m : BTreeMap ℕ (Row T)) (rows : Rows T) (k : ℕ) (b : Bool) → rows_in m ≡ rows → b ≡ is_some (tree.get nat_cmp m k) → map.contains_key rows k ≡ b
  key_seen m rows k b is seen = ap is_some (row_seen m rows k (tree.get nat_cmp m k) is refl) ∙ sym seen

  -- what is written through a row that was lent
  pub row_written : (m n : BTreeMap ℕ (Row T)) (rows : Rows T) (k : ℕ) (r w : Row T) → rows_in m ≡ rows → Some r ≡ tree.get nat_cmp m k → WritesThrough nat_cmp (nat_cmp k) m w n
      → rows_in n ≡ map.insert rows k w
  row_written m n rows k r w is seen writes = rows_in-insert m n k w (writes.3 (subst IsSome seen refl)) ∙ ap (λ x. map.insert x k w) is

  -- to set a row to what it is changes nothing
  pub insert_same : (rows : Rows T) (k : ℕ) (r : Row T) → map.get rows k ≡ Some r → map.insert rows k r ≡ rows
  insert_same rows k r at = same_map nat_cmp_total nat_cmp-IsAntisymmetric (map.insert rows k r) rows
      (λ q. get-insert nat_cmp_total rows k r q
      ∙ elim (eq_by_cmp nat_cmp q k) as (λ b. eq_by_cmp nat_cmp q k ≡ b → cond b (Some r) (map.get rows q) ≡ map.get rows q) [
        | true ↦ λ same. sym (ap (map.get rows) (nat_cmp-IsAntisymmetric q k (tied (nat_cmp q k) same)) ∙ at)
        | false ↦ λ _. refl
      ] refl)

  pub entered-old : (rows : Rows T) (k : ℕ) → map.contains_key rows k ≡ true → entered rows k ≡ rows
  entered-old rows k has = ap (λ b. cond b rows (map.insert rows k new_row)) has

  pub entered-new : (rows : Rows T) (k : ℕ) → map.contains_key rows k ≡ false → entered rows k ≡ map.insert rows k new_row
  entered-new rows k has = ap (λ b. cond b rows (map.insert rows k new_row)) has

  pub called_at-some : (rows : Rows T) (k : ℕ) (r : Row T) → map.get rows k ≡ Some r → called_at rows k ≡ map.insert rows k (called r)
  called_at-some rows k r at = ap (call_in rows k) at

  pub called_at-none : (rows : Rows T) (k : ℕ) → map.get rows k ≡ None → called_at rows k ≡ rows
  called_at-none rows k at = ap (call_in rows k) at

  -- a task that is put away under an identifier is its own
  pub own_task : (identity : T → ℕ) (rows : Rows T) (k : ℕ) → ArePutAway identity rows → IfSome (task_at (map.get rows k)) (λ t. identity t ≡ k)
  own_task identity rows k h =
      elim (map.get rows k) as (λ o. map.get rows k ≡ o → IfSome (task_at o) (λ t. identity t ≡ k)) [
        | None ↦ λ _. tt
        | Some r ↦ λ at.
            elim (r.away) as (λ w. r.away ≡ w → IfSome (task_in w) (λ t. identity t ≡ k)) [
              | None ↦ λ _. tt
              | Some a ↦ λ away. (h k r a at away).0
            ] refl
      ] refl

  -- the row of a task that was put away, or came back, keeps what rows keep
  pub put_row_kept : (identity : T → ℕ) (rows : Rows T) (k : ℕ) (r new : Row T) (task : T) (looked : ℕ) (back : Option T) → ArePutAway identity rows → map.get rows k ≡ Some r → identity task ≡ k
      → (IsNone back → looked < LAST_COUNT) → IfNone back (new ≡ row_of looked (Some (away_of task looked))) → IfSome back (λ t. (t ≡ task) × (new ≡ r))
      → (a : Away T) → new.away ≡ Some a → IsPutAway identity k new a
  put_row_kept identity rows k r new task looked None h at own last put came a away =
      let Kept : Row T → Type 0 = λ n. n.away ≡ Some a → IsPutAway identity k n a in
      subst Kept (sym put) (λ e.
      let Own : Away T → Type 0 = λ x. IsPutAway identity k (row_of looked (Some (away_of task looked))) x in
      subst Own (some_same (away_of task looked) a e) (own, refl, last refl)) away
  put_row_kept identity rows k r new task looked (Some t) h at own last put came a away =
      let Kept : Row T → Type 0 = λ n. n.away ≡ Some a → IsPutAway identity k n a in
      subst Kept (sym came.1) (λ e. h k r a at e) away

pub IfNone_map : {X : Type 0} (o : Option X) (P Q : Type 0) → (P → Q) → IfNone o P → IfNone o Q
IfNone_map None P Q f p = f p
IfNone_map (Some x) P Q f p = tt

pub IfSome_map : {X : Type 0} (o : Option X) (P Q : X → Type 0) → ((x : X) → P x → Q x) → IfSome o P → IfSome o Q
IfSome_map None P Q f p = tt
IfSome_map (Some x) P Q f p = f x p

module _ {T : Type 0} (identity : T → ℕ) (rows : Rows T) (task : T) (looked : ℕ) where
  -- what a putting away of the task gives, and which rows it leaves
  pub record PutsAway (back : Option T) (after : Rows T) : Type 0 where
    pub put_away : ArePutAway identity after
    pub put : IsNone back ↔ CanPut rows (identity task) looked
    pub away : IfNone back (after ≡ put_at rows (identity task) task looked)
    pub back_is : IfSome back (λ t. (t ≡ task) × (after ≡ rows))

  pub puts_in_row : (r new : Row T) (back : Option T) (after : Rows T) → ArePutAway identity rows → map.get rows (identity task) ≡ Some r → after ≡ map.insert rows (identity task) new
      → (IsNone back ↔ MayPut r looked) → IfNone back (new ≡ row_of looked (Some (away_of task looked))) → IfSome back (λ t. (t ≡ task) × (new ≡ r)) → PutsAway back after
  puts_in_row r new back after kept at is put away came =
      let Kept : Rows T → Type 0 = λ x. ArePutAway identity x in record {
        put_away = subst Kept (sym is)
            (put_away-insert identity rows (identity task) new kept
            (put_row_kept identity rows (identity task) r new task looked back kept at refl (λ none. (put.0 none).1) away came));
        put = ((λ none. (at ∙ ap Some (put.0 none).0, (put.0 none).1)), λ can. put.1 (some_same r (row_of looked None) (sym at ∙ can.0), can.1));
        away = IfNone_map back _ _ (λ e. is ∙ ap (map.insert rows (identity task)) e) away;
        back_is = IfSome_map back _ _ (λ t e. (e.0, is ∙ ap (map.insert rows (identity task)) e.1 ∙ insert_same rows (identity task) r at)) came;
      }

  pub puts_nowhere : (after : Rows T) → ArePutAway identity rows → map.get rows (identity task) ≡ None → after ≡ rows → PutsAway (Some task) after
  puts_nowhere after kept at is =
      let Kept : Rows T → Type 0 = λ x. ArePutAway identity x in record {
        put_away = subst Kept (sym is) kept;
        put = ((λ some. absurd (true≢false some)), λ can. absurd (none_some (row_of looked None) (sym at ∙ can.0)));
        away = tt;
        back_is = (refl, is);
      }

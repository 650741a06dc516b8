-- The finite map of the live streams follows the tree.
use Rattle.std.proofs.Common.{Bool, ◌≡◌, ℕ, ◌<◌, true, false, cond, List, [], ◌∷◌, refl, sym, ap, ◌∙◌, subst, true≢false, arith, zero, suc, ◌++◌}
use Rattle.std.specs.Prelude.{Option, None, Some, Result, Ok, Err, is_some}
use Rattle.std.specs.declared.cmp.Ordering.{Ordering}
use Rattle.std.specs.declared.cmp.Ordering.TheVariants.{Less, Equal, Greater}
use Rattle.std.specs.Ordering.{nat_cmp, is_eq, eq_by_cmp}
use Rattle.std.specs.Cmp.{nat_cmp_total, eq_by_cmp_equiv}
use Rattle.std.specs.FinMap as map
use Rattle.std.specs.FinMap.{get-from_entries, get-insert, get-remove, same_map, nat_cmp-IsAntisymmetric, find}
use Rattle.std.specs.Map.{lookup}
use Rattle.std.specs.BTreeMap as tree
use Rattle.std.specs.BTreeMap.{BTreeMap, is_at, Updates, WritesThrough}
use Rattle.std.specs.Option.{IsSome, IfSome, option_copied}
use Rattle.std.proofs.Common.{Bor}
use Rattle.mux_core.specs.declared.stream.Stream.{Stream}
use Rattle.std.specs.Result.{OnOk, OnErr}
use Rattle.std.specs.declared.alloc.AllocError.{AllocError}
use Rattle.mux_core.specs.Streams.{Streams, streams_in, HasNoZero, with_buffer, changed, changed_at}

find-lookup : (q : ℕ) (es : List (ℕ × Stream)) → find nat_cmp q es ≡ lookup (is_at (nat_cmp q)) es
find-lookup q [] = refl
find-lookup q (e ∷ es) = ap (cond (is_eq (nat_cmp q e.0)) (Some e.1)) (find-lookup q es)

tied : (o : Ordering) → is_eq o ≡ true → o ≡ Equal
tied Less e = absurd (true≢false (sym e))
tied Equal e = refl
tied Greater e = absurd (true≢false (sym e))

turned : (k q : ℕ) → eq_by_cmp nat_cmp q k ≡ eq_by_cmp nat_cmp k q
turned k q = (eq_by_cmp_equiv nat_cmp_total).symm q k

pub get-streams_in : (m : BTreeMap ℕ Stream) (q : ℕ) → map.get (streams_in m) q ≡ tree.get nat_cmp m q
get-streams_in m q = get-from_entries nat_cmp_total m.entries q ∙ find-lookup q m.entries

pub inserted : (m n : BTreeMap ℕ Stream) (streams : Streams) (k : ℕ) (s : Stream) → streams_in m ≡ streams → Updates nat_cmp m n k (Some s) → streams_in n ≡ map.insert streams k s
inserted m n streams k s is u = same_map nat_cmp_total nat_cmp-IsAntisymmetric (streams_in n) (map.insert (streams_in m) k s)
    (λ q. get-streams_in n q ∙ u.0 q ∙ ap (λ b. cond b (Some s) (tree.get nat_cmp m q)) (sym (turned k q)) ∙ ap (λ o. cond (eq_by_cmp nat_cmp q k) (Some s) o) (sym (get-streams_in m q))
    ∙ sym (get-insert nat_cmp_total (streams_in m) k s q)) ∙ ap (λ x. map.insert x k s) is

pub removed : (m n : BTreeMap ℕ Stream) (streams : Streams) (k : ℕ) → streams_in m ≡ streams → Updates nat_cmp m n k None → streams_in n ≡ map.remove streams k
removed m n streams k is u = same_map nat_cmp_total nat_cmp-IsAntisymmetric (streams_in n) (map.remove (streams_in m) k)
    (λ q. get-streams_in n q ∙ u.0 q ∙ ap (λ b. cond b None (tree.get nat_cmp m q)) (sym (turned k q)) ∙ ap (λ o. cond (eq_by_cmp nat_cmp q k) None o) (sym (get-streams_in m q))
    ∙ sym (get-remove nat_cmp_total (streams_in m) k q)) ∙ ap (λ x. map.remove x k) is

-- what the tree has at a number is what the map has there
pub seen : (m : BTreeMap ℕ Stream) (streams : Streams) (k : ℕ) (o : Option Stream) → streams_in m ≡ streams → o ≡ tree.get nat_cmp m k → map.get streams k ≡ o
seen m streams k o is here = ap (λ x. map.get x k) (sym is) ∙ get-streams_in m k ∙ sym here

-- what is written through a stream that was lent
pub written : (m n : BTreeMap ℕ Stream) (streams : Streams) (k : ℕ) (s w : Stream) → streams_in m ≡ streams → Some s ≡ tree.get nat_cmp m k → WritesThrough nat_cmp (nat_cmp k) m w n → streams_in n ≡ map.insert streams k w
written m n streams k s w is here writes = inserted m n streams k w is (writes.3 (subst IsSome here refl))

-- to set a stream to what it is changes nothing
pub insert_same : (streams : Streams) (k : ℕ) (s : Stream) → map.get streams k ≡ Some s → map.insert streams k s ≡ streams
insert_same streams k s at = same_map nat_cmp_total nat_cmp-IsAntisymmetric (map.insert streams k s) streams
    (λ q. get-insert nat_cmp_total streams k s q
    ∙ elim (eq_by_cmp nat_cmp q k) as (λ b. eq_by_cmp nat_cmp q k ≡ b → cond b (Some s) (map.get streams q) ≡ map.get streams q) [
      | true ↦ λ same. sym (ap (map.get streams) (nat_cmp-IsAntisymmetric q k (tied (nat_cmp q k) same)) ∙ at)
      | false ↦ λ _. refl
    ] refl)

pub changed-some : (streams : Streams) (k : ℕ) (change : Stream → Stream) (s : Stream) → map.get streams k ≡ Some s → changed streams k change ≡ map.insert streams k (change s)
changed-some streams k change s at = ap (changed_at streams k change) at

pub changed-none : (streams : Streams) (k : ℕ) (change : Stream → Stream) → map.get streams k ≡ None → changed streams k change ≡ streams
changed-none streams k change at = ap (changed_at streams k change) at

none_some : (s : Stream) → None ≡ Some s → ⊥
none_some s e = true≢false (ap is_some (sym e))

-- a number that is live isn't 0, where 0 isn't live
pub positive : (streams : Streams) (k : ℕ) (s : Stream) → map.get streams 0 ≡ None → map.get streams k ≡ Some s → 0 < k
positive streams zero s none at = absurd (none_some s (sym none ∙ at))
positive streams (suc k) s none at = omega arith

apart : (k : ℕ) → 0 < k → eq_by_cmp nat_cmp 0 k ≡ false
apart k some =
    elim (eq_by_cmp nat_cmp 0 k) as (λ b. eq_by_cmp nat_cmp 0 k ≡ b → b ≡ false) [
      | true ↦ λ same. absurd (let e : 0 ≡ k = nat_cmp-IsAntisymmetric 0 k (tied (nat_cmp 0 k) same) in omega arith)
      | false ↦ λ _. refl
    ] refl

-- 0 stays free
pub zero-inserted : (streams : Streams) (k : ℕ) (s : Stream) → map.get streams 0 ≡ None → 0 < k → map.get (map.insert streams k s) 0 ≡ None
zero-inserted streams k s none some = get-insert nat_cmp_total streams k s 0 ∙ ap (λ b. cond b (Some s) (map.get streams 0)) (apart k some) ∙ none

either : (b : Bool) (o : Option Stream) → cond b o o ≡ o
either true o = refl
either false o = refl

pub zero-removed : (streams : Streams) (k : ℕ) → HasNoZero streams → HasNoZero (map.remove streams k)
zero-removed streams k none = get-remove nat_cmp_total streams k 0 ∙ ap (λ (o : Option Stream). cond (eq_by_cmp nat_cmp 0 k) None o) none ∙ either (eq_by_cmp nat_cmp 0 k) None

pub zero-changed : (streams : Streams) (k : ℕ) (change : Stream → Stream) → HasNoZero streams → HasNoZero (changed streams k change)
zero-changed streams k change none =
    elim (map.get streams k) as (λ o. map.get streams k ≡ o → HasNoZero (changed_at streams k change o)) [
      | None ↦ λ _. none
      | Some s ↦ λ at. zero-inserted streams k (change s) none (positive streams k s none at)
    ] refl

-- what a push to a stream's buffer made of the streams
pub record Pushed (streams : Streams) (k : ℕ) (piece : List ℕ) (result : Result Unit AllocError) (new : Streams) : Type 0 where
  pub zero : HasNoZero new
  pub ok : OnOk result (new ≡ changed streams k (λ s. with_buffer (s.buffer ++ piece) s))
  pub err : OnErr result (new ≡ streams)

pub pushed : (streams new : Streams) (k : ℕ) (s : Stream) (buffer piece : List ℕ) (result : Result Unit AllocError) → HasNoZero streams → map.get streams k ≡ Some s → new ≡ map.insert streams k (with_buffer buffer s)
    → OnOk result (buffer ≡ s.buffer ++ piece) → OnErr result (buffer ≡ s.buffer) → Pushed streams k piece result new
pushed streams new k s buffer piece (Ok x) none at is ok err = record {
  zero = subst HasNoZero (sym is) (zero-inserted streams k (with_buffer buffer s) none (positive streams k s none at));
  ok = is ∙ ap (λ (b : List ℕ). map.insert streams k (with_buffer b s)) ok ∙ sym (changed-some streams k (λ t. with_buffer (t.buffer ++ piece) t) s at);
  err = tt;
}
pushed streams new k s buffer piece (Err e) none at is ok err = record {
  zero = subst HasNoZero (sym is) (zero-inserted streams k (with_buffer buffer s) none (positive streams k s none at));
  ok = tt;
  err = is ∙ ap (λ (b : List ℕ). map.insert streams k (with_buffer b s)) err ∙ insert_same streams k s at;
}

pub not_pushed : (streams new : Streams) (k : ℕ) (piece : List ℕ) → HasNoZero streams → map.get streams k ≡ None → new ≡ streams → Pushed streams k piece (Ok tt) new
not_pushed streams new k piece none at is = record {
  zero = subst HasNoZero (sym is) none;
  ok = is ∙ sym (changed-none streams k (λ t. with_buffer (t.buffer ++ piece) t) at);
  err = tt;
}

-- a number at which a stream was found isn't 0
pub live_positive : (streams : Streams) (k : ℕ) (found : Option (Bor Stream)) → HasNoZero streams → map.get streams k ≡ option_copied found → IfSome found (λ _. 0 < k)
live_positive streams k None none at = tt
live_positive streams k (Some s) none at = positive streams k s.now none at

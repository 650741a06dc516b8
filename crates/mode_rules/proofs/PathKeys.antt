-- Keys of maps.
use Rattle.std.proofs.Common.{◌≡◌, Bool, true, false, cond, ◌||◌, refl, ap, ◌∙◌, Option, Some, Ordering}
use Rattle.std.specs.Cmp.{IsTotalOrder}
use Rattle.std.specs.FinMap as map
use Rattle.std.specs.FinMap.{FinMap}
use Rattle.std.specs.Option.{is_some}
use Rattle.std.specs.Ordering.{eq_by_cmp}

some_or : {X : Type 0} (b : Bool) (v : X) (x : Option X) → is_some (cond b (Some v) x) ≡ (b || is_some x)
some_or true v x = refl
some_or false v x = refl

-- a map has a key that was put, and those that it had
pub contains_key-insert : {K X : Type 0} {R : K → K → Ordering} → IsTotalOrder R → (m : FinMap R X) (k : K) (v : X) (q : K)
    → map.contains_key (map.insert m k v) q ≡ (eq_by_cmp R q k || map.contains_key m q)
contains_key-insert {R = R} o m k v q = ap is_some (map.get-insert o m k v q) ∙ some_or (eq_by_cmp R q k) v (map.get m q)

pub or_turn : (a b c : Bool) → (a || (b || c)) ≡ (b || (c || a))
or_turn true true c = refl
or_turn true false true = refl
or_turn true false false = refl
or_turn false true c = refl
or_turn false false true = refl
or_turn false false false = refl

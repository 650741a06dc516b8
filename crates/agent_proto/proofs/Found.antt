-- What a test or a table that has answered says of what it was asked.
use Rattle.std.proofs.Common.{◌≡◌, Bool, true, false, cond, refl, ◌⊎◌, inl, inr, Some, None}
use Rattle.std.specs.Prelude.{Option}
use Rattle.std.specs.Option.{option_map}

pub some_is : {X : Type 0} (x y : X) → Some x ≡ Some y → x ≡ y
some_is x y e = cc

pub cond_found : {X : Type 0} (test : Bool) (x y : X) → cond test (Some x) None ≡ Some y → (test ≡ true) × (x ≡ y)
cond_found true x y e = (refl, some_is x y e)
cond_found false x y e = absurd cc

pub cond_either : {X : Type 0} (test : Bool) (x y : X) {z : X} → cond test x y ≡ z → ((test ≡ true) × (x ≡ z)) ⊎ ((test ≡ false) × (y ≡ z))
cond_either true x y e = inl (refl, e)
cond_either false x y e = inr (refl, e)

pub and_then_found : {X : Type 0} (test : Bool) (found : Option X) (x : X) → cond test found None ≡ Some x → (test ≡ true) × (found ≡ Some x)
and_then_found true found x e = (refl, e)
and_then_found false found x e = absurd cc

pub map_found : {X Y : Type 0} (f : X → Y) (found : Option X) (y : Y) → option_map f found ≡ Some y → (x : X) × (found ≡ Some x) × (f x ≡ y)
map_found f None y e = absurd cc
map_found f (Some x) y e = (x, refl, some_is (f x) y e)

pub none_found : {X : Type 0} (x : X) → None ≡ Some x → ⊥
none_found x e = absurd cc

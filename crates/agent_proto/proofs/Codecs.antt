-- A field's bytes and its reader: what was written is read, and what was read was written.
use Rattle.std.proofs.Common.{◌≡◌, ℕ, suc, ◌<◌, ◌≤◌, ◌^◌, List, [], ◌∷◌, ◌++◌, length, get_or, take, drop, Bool, true, false, refl, sym, ap, subst, ◌∙◌, arith, append_assoc, length-append, Some, None}
use Rattle.std.specs.Prelude.{Option, cond, nat_le}
use Rattle.std.specs.Option.{option_map, option_and_then}
use Rattle.std.proofs.lemmas.Bool.{leb-true, le-leb}
use Rattle.std.proofs.lemmas.List.{take-append-drop, take_at, drop_at, length-take-le}
use Rattle.mux_frames.specs.Numbers.{value, AreBytes}
use Rattle.agent_proto.specs.Fields.{number_field}
use Rattle.agent_proto.specs.Reading.{mapped, made, both, front_in, number_in, sized_in}
use Rattle.agent_proto.proofs.Numbers.{length_of, value_of, field_of, below_of}

-- ---- inversions

pub some_is : {X : Type 0} (x y : X) → Some x ≡ Some y → x ≡ y
some_is x y e = cc

pub and_then_some : {T U : Type 0} (f : T → Option U) (o : Option T) (u : U) → option_and_then f o ≡ Some u → (t : T) × (o ≡ Some t) × (f t ≡ Some u)
and_then_some f None u e = absurd cc
and_then_some f (Some t) u e = (t, refl, e)

pub map_some : {T U : Type 0} (f : T → U) (o : Option T) (u : U) → option_map f o ≡ Some u → (t : T) × (o ≡ Some t) × (f t ≡ u)
map_some f None u e = absurd cc
map_some f (Some t) u e = (t, refl, some_is (f t) u e)

pub cond_some : {X : Type 0} (b : Bool) (x y : X) → cond b (Some x) None ≡ Some y → (b ≡ true) × (x ≡ y)
cond_some true x y e = (refl, some_is x y e)
cond_some false x y e = absurd cc

pub bytes_back : (xs ys : List ℕ) → AreBytes (xs ++ ys) → AreBytes xs × AreBytes ys
bytes_back [] ys each = (tt, each)
bytes_back (x ∷ xs) ys each = let rest = bytes_back xs ys each.1 in ((each.0, rest.0), rest.1)

pub AreBytes-from : (bytes : List ℕ) → ((i : ℕ) → get_or bytes i 0 < 256) → AreBytes bytes
AreBytes-from [] each = tt
AreBytes-from (b ∷ bytes) each = (each 0, AreBytes-from bytes (λ i. each (suc i)))

-- ---- the law of a field

pub record Codec {V : Type 0} (Is : V → Type 0) (write : V → List ℕ) (read : List ℕ → Option (V × List ℕ)) : Type 0 where
  pub there : (v : V) (rest : List ℕ) → Is v → read (write v ++ rest) ≡ Some (v, rest)
  pub back : (bytes : List ℕ) (v : V) (rest : List ℕ) → AreBytes bytes → read bytes ≡ Some (v, rest) → Is v × (bytes ≡ write v ++ rest)

-- a value read and made into another
pub mapped_back : {V W : Type 0} (f : V → W) (read : Option (V × List ℕ)) (P : W → List ℕ → Type 0) → ((v : V) (rest : List ℕ) → read ≡ Some (v, rest) → P (f v) rest)
    → (w : W) (rest : List ℕ) → mapped f read ≡ Some (w, rest) → P w rest
mapped_back f read P each w rest e =
    let found = map_some (λ p. (f p.0, p.1)) read (w, rest) e in
    let here = each found.0.0 found.0.1 found.1 in
    subst (λ p. P p.0 p.1) found.2 here

-- a value read and made into another, where that is one
pub made_back : {V W : Type 0} (f : V → Option W) (read : Option (V × List ℕ)) (P : W → List ℕ → Type 0) → ((v : V) (rest : List ℕ) (w : W) → read ≡ Some (v, rest) → f v ≡ Some w → P w rest)
    → (w : W) (rest : List ℕ) → made f read ≡ Some (w, rest) → P w rest
made_back f read P each w rest e =
    let found = and_then_some (λ p. option_map (λ u. (u, p.1)) (f p.0)) read (w, rest) e in
    let inner = map_some (λ u. (u, found.0.1)) (f found.0.0) (w, rest) found.2 in
    let here = each found.0.0 found.0.1 inner.0 found.1 inner.1 in
    subst (λ p. P p.0 p.1) inner.2 here

-- one field behind another
pub both_law : {V W : Type 0} (A : V → Type 0) (B : W → Type 0) (f : V → List ℕ) (g : W → List ℕ) (a : List ℕ → Option (V × List ℕ)) (b : List ℕ → Option (W × List ℕ))
    → Codec A f a → Codec B g b → Codec (λ p. A p.0 × B p.1) (λ p. f p.0 ++ g p.1) (both a b)
both_law {V} {W} A B f g a b first second = record {
  there = λ p rest ok.
      let one : a ((f p.0 ++ g p.1) ++ rest) ≡ Some (p.0, g p.1 ++ rest) = ap a (append_assoc (f p.0) (g p.1) rest) ∙ first.there p.0 (g p.1 ++ rest) ok.0 in
      let two : b (g p.1 ++ rest) ≡ Some (p.1, rest) = second.there p.1 rest ok.1 in
      ap (option_and_then (λ q. option_map (λ r. ((q.0, r.0), r.1)) (b q.1))) one ∙ ap (option_map (λ r. ((p.0, r.0), r.1))) two;
  back = λ bytes p rest each e.
      let outer = and_then_some (λ q. option_map (λ r. ((q.0, r.0), r.1)) (b q.1)) (a bytes) (p, rest) e in
      let inner = map_some (λ r. ((outer.0.0, r.0), r.1)) (b outer.0.1) (p, rest) outer.2 in
      let one = first.back bytes outer.0.0 outer.0.1 each outer.1 in
      let behind : AreBytes outer.0.1 = (bytes_back (f outer.0.0) outer.0.1 (subst AreBytes one.1 each)).1 in
      let two = second.back outer.0.1 inner.0.0 inner.0.1 behind inner.1 in
      let all : bytes ≡ (f outer.0.0 ++ g inner.0.0) ++ inner.0.1 =
      one.1 ∙ ap (λ xs. f outer.0.0 ++ xs) two.1 ∙ sym (append_assoc (f outer.0.0) (g inner.0.0) inner.0.1) in
      subst (λ r. (A r.0.0 × B r.0.1) × (bytes ≡ (f r.0.0 ++ g r.0.1) ++ r.1)) inner.2 ((one.0, two.0), all);
}

-- a field whose value is made of another's
pub made_law : {V W : Type 0} (A : V → Type 0) (B : W → Type 0) (write : V → List ℕ) (read : List ℕ → Option (V × List ℕ)) (f : V → Option W) (g : W → V)
    → Codec A write read → ((w : W) → B w → A (g w) × (f (g w) ≡ Some w)) → ((v : V) (w : W) → A v → f v ≡ Some w → B w × (v ≡ g w))
    → Codec B (λ w. write (g w)) (λ bytes. made f (read bytes))
made_law {V} {W} A B write read f g codec to from = record {
  there = λ w rest ok.
      let one : read (write (g w) ++ rest) ≡ Some (g w, rest) = codec.there (g w) rest (to w ok).0 in
      ap (made f) one ∙ ap (option_map (λ u. (u, rest))) (to w ok).1;
  back = λ bytes w rest each e.
      made_back f (read bytes) (λ u behind. B u × (bytes ≡ write (g u) ++ behind)) (λ v behind u r made_of.
      let one = codec.back bytes v behind each r in
      let two = from v u one.0 made_of in
      (two.0, one.1 ∙ ap (λ x. write x ++ behind) two.1)) w rest e;
}

-- ---- bytes and numbers

abbrev pub IsSized : ℕ → List ℕ → Type 0
IsSized size bytes = length bytes ≡ size

pub front_law : (size : ℕ) → Codec (IsSized size) (λ bytes. bytes) (front_in size)
front_law size = record {
  there = λ v rest len.
      let within : size ≤ length (v ++ rest) = omega (arith, length-append v rest, len) in
      let test : nat_le size (length (v ++ rest)) ≡ true = le-leb size (length (v ++ rest)) within in
      ap (λ t. cond t (Some (take size (v ++ rest), drop size (v ++ rest))) None) test
      ∙ ap (λ t. Some (t, drop size (v ++ rest))) (take_at v rest size len) ∙ ap (λ d. Some (v, d)) (drop_at v rest size len);
  back = λ bytes v rest each e.
      let found = cond_some (nat_le size (length bytes)) (take size bytes, drop size bytes) (v, rest) e in
      let within : size ≤ length bytes = leb-true size (length bytes) found.0 in
      subst (λ p. IsSized size p.0 × (bytes ≡ p.0 ++ p.1)) found.1 (length-take-le size bytes within, sym (take-append-drop size bytes));
}

abbrev pub FitsIn : ℕ → ℕ → Type 0
FitsIn width n = n < 256 ^ width

pub number_law : (width : ℕ) → Codec (FitsIn width) (number_field width) (number_in width)
number_law width = record {
  there = λ n rest fits.
      let len : length (number_field width n) ≡ width = length_of width n in
      let value_is : value (number_field width n) ≡ n = value_of width n fits in
      ap (mapped value) ((front_law width).there (number_field width n) rest len) ∙ ap (λ m. Some (m, rest)) value_is;
  back = λ bytes n rest each e.
      mapped_back value (front_in width bytes) (λ m behind. FitsIn width m × (bytes ≡ number_field width m ++ behind)) (λ digits behind r.
      let one = (front_law width).back bytes digits behind each r in
      let are : AreBytes digits = (bytes_back digits behind (subst AreBytes one.1 each)).0 in
      let spelled : number_field width (value digits) ≡ digits = field_of width digits one.0 are in
      (below_of width digits one.0 are, one.1 ∙ ap (λ xs. xs ++ behind) (sym spelled))) n rest e;
}

-- as many bytes as the number before them says
abbrev pub FewFor : ℕ → List ℕ → Type 0
FewFor width bytes = length bytes < 256 ^ width

pub sized_law : (width : ℕ) → Codec (FewFor width) (λ bytes. number_field width (length bytes) ++ bytes) (sized_in width)
sized_law width = record {
  there = λ v rest few.
      let n = number_field width (length v) in
      let one : number_in width ((n ++ v) ++ rest) ≡ Some (length v, v ++ rest) = ap (number_in width) (append_assoc n v rest) ∙ (number_law width).there (length v) (v ++ rest) few in
      ap (option_and_then (λ p. front_in p.0 p.1)) one ∙ (front_law (length v)).there v rest refl;
  back = λ bytes v rest each e.
      let outer = and_then_some (λ p. front_in p.0 p.1) (number_in width bytes) (v, rest) e in
      let one = (number_law width).back bytes outer.0.0 outer.0.1 each outer.1 in
      let behind : AreBytes outer.0.1 = (bytes_back (number_field width outer.0.0) outer.0.1 (subst AreBytes one.1 each)).1 in
      let two = (front_law outer.0.0).back outer.0.1 v rest behind outer.2 in
      let few : FewFor width v = subst (λ n. n < 256 ^ width) (sym two.0) one.0 in
      let size_is : number_field width outer.0.0 ≡ number_field width (length v) = ap (number_field width) (sym two.0) in
      (few, one.1 ∙ ap (λ xs. number_field width outer.0.0 ++ xs) two.1 ∙ ap (λ xs. xs ++ (v ++ rest)) size_is ∙ sym (append_assoc (number_field width (length v)) v rest));
}

-- ---- two readers, one behind the other

pub both_is : {V W : Type 0} (a : List ℕ → Option (V × List ℕ)) (b : List ℕ → Option (W × List ℕ)) (bytes mid rest : List ℕ) (v : V) (w : W)
    → a bytes ≡ Some (v, mid) → b mid ≡ Some (w, rest) → both a b bytes ≡ Some ((v, w), rest)
both_is a b bytes mid rest v w one two = ap (option_and_then (λ q. option_map (λ r. ((q.0, r.0), r.1)) (b q.1))) one ∙ ap (option_map (λ r. ((v, r.0), r.1))) two

pub both_parts : {V W : Type 0} (a : List ℕ → Option (V × List ℕ)) (b : List ℕ → Option (W × List ℕ)) (bytes : List ℕ) (p : V × W) (rest : List ℕ)
    → both a b bytes ≡ Some (p, rest) → (mid : List ℕ) × (a bytes ≡ Some (p.0, mid)) × (b mid ≡ Some (p.1, rest))
both_parts a b bytes p rest e =
    let outer = and_then_some (λ q. option_map (λ r. ((q.0, r.0), r.1)) (b q.1)) (a bytes) (p, rest) e in
    let inner = map_some (λ r. ((outer.0.0, r.0), r.1)) (b outer.0.1) (p, rest) outer.2 in
    subst (λ r. (mid : List ℕ) × (a bytes ≡ Some (r.0.0, mid)) × (b mid ≡ Some (r.0.1, r.1))) inner.2 (outer.0.1, outer.1, inner.1)

-- the same field, its values said otherwise
pub along : {V : Type 0} (A B : V → Type 0) (write : V → List ℕ) (read : List ℕ → Option (V × List ℕ)) → Codec A write read → ((v : V) → B v → A v) → ((v : V) → A v → B v) → Codec B write read
along A B write read codec to from = record {
  there = λ v rest ok. codec.there v rest (to v ok);
  back = λ bytes v rest each e. let h = codec.back bytes v rest each e in (from v h.0, h.1);
}

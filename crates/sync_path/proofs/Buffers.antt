-- The buffers of two paths compare as the paths do.
use Rattle.std.proofs.Common.{◌≡◌, ℕ, ◌<◌, ◌≤◌, Bool, true, false, ◌&&◌, not, eqb, leb, cond, List, [], ◌∷◌, ◌++◌, length, take, refl, sym, ap, ap₂, ◌∙◌, arith}
use Rattle.std.proofs.lemmas.Bool.{and_parts, leb-true, ne_eqb, lt-ltb, le-ltb}
use Rattle.std.specs.declared.cmp.Ordering.{Ordering}
use Rattle.std.specs.declared.cmp.Ordering.TheVariants.{Less, Equal, Greater}
use Rattle.std.specs.Cmp.Lexicographic.{slice_cmp, lists_ties, texts_ties}
use Rattle.std.specs.List.{list_all, starts_with}
use Rattle.std.specs.Ordering.{nat_cmp, ordering_then, is_eq}
use lib.Pointwise.{pointwise}
use Rattle.sync_path.specs.Buffer.{buffer_of, names_in, KeepsPath}
use Rattle.std.specs.Str.{is_utf8}
use Rattle.sync_path.specs.Name.{is_name, has_name_form, has_name_len, is_dots, is_name_byte}
use Rattle.sync_path.specs.Path.{is_under, path_cmp}

-- each byte may stand in a name
abbrev pub IsPlain : List ℕ → Type 0
IsPlain bs = list_all is_name_byte bs ≡ true

pub positive_from_plain : (b : ℕ) (bs : List ℕ) → IsPlain (b ∷ bs) → 0 < b
positive_from_plain b bs h =
    let e : 32 ≤ b = leb-true 32 b (and_parts (leb 32 b) (not (eqb b 47)) (and_parts (is_name_byte b) (list_all is_name_byte bs) h).0).0 in
    omega arith

pub rest_from_plain : (b : ℕ) (bs : List ℕ) → IsPlain (b ∷ bs) → IsPlain bs
rest_from_plain b bs h = (and_parts (is_name_byte b) (list_all is_name_byte bs) h).1

pub plain_from_name : (bs : List ℕ) → is_name bs ≡ true → IsPlain bs
plain_from_name bs h = (and_parts (has_name_len bs && not (is_dots bs)) (list_all is_name_byte bs) (and_parts (is_utf8 bs) (has_name_form bs) h).1).1

then_assoc : (a b c : Ordering) → ordering_then a (ordering_then b c) ≡ ordering_then (ordering_then a b) c
then_assoc Less b c = refl
then_assoc Equal b c = refl
then_assoc Greater b c = refl

zero_is_less : (b : ℕ) → 0 < b → nat_cmp 0 b ≡ Less
zero_is_less b h = ap (λ t. cond t Less (cond (eqb 0 b) Equal Greater)) (lt-ltb 0 b h)

zero_is_least : (b : ℕ) → 0 < b → nat_cmp b 0 ≡ Greater
zero_is_least b h =
    ap (λ t. cond t Less (cond (eqb b 0) Equal Greater)) (le-ltb b 0 (omega arith))
    ∙ ap (λ t. cond t Equal Greater) (ne_eqb b 0 (λ e. omega arith))

-- behind each name comes a byte that is below all of its bytes, so the names decide before what follows does
cmp-ended : (n m s t : List ℕ) → IsPlain n → IsPlain m → slice_cmp nat_cmp (n ++ 0 ∷ s) (m ++ 0 ∷ t) ≡ ordering_then (slice_cmp nat_cmp n m) (slice_cmp nat_cmp s t)
cmp-ended [] [] s t p q = refl
cmp-ended [] (b ∷ m) s t p q = ap (λ o. ordering_then o (slice_cmp nat_cmp s (m ++ 0 ∷ t))) (zero_is_less b (positive_from_plain b m q))
cmp-ended (a ∷ n) [] s t p q = ap (λ o. ordering_then o (slice_cmp nat_cmp (n ++ 0 ∷ s) t)) (zero_is_least a (positive_from_plain a n p))
cmp-ended (a ∷ n) (b ∷ m) s t p q =
    ap (ordering_then (nat_cmp a b)) (cmp-ended n m s t (rest_from_plain a n p) (rest_from_plain b m q))
    ∙ then_assoc (nat_cmp a b) (slice_cmp nat_cmp n m) (slice_cmp nat_cmp s t)

starts-ended : (n m s t : List ℕ) → IsPlain n → IsPlain m → starts_with eqb (n ++ 0 ∷ s) (m ++ 0 ∷ t) ≡ pointwise eqb m n && starts_with eqb s t
starts-ended [] [] s t p q = refl
starts-ended [] (b ∷ m) s t p q = ap (λ o. o && pointwise eqb (m ++ 0 ∷ t) (take (length (m ++ 0 ∷ t)) s)) (ne_eqb b 0 (λ e. let h = positive_from_plain b m q in omega arith))
starts-ended (a ∷ n) [] s t p q = ap (λ o. o && pointwise eqb t (take (length t) (n ++ 0 ∷ s))) (ne_eqb 0 a (λ e. let h = positive_from_plain a n p in omega arith))
starts-ended (a ∷ n) (b ∷ m) s t p q =
    ap (λ o. eqb b a && o) (starts-ended n m s t (rest_from_plain a n p) (rest_from_plain b m q))
    ∙ and_assoc (eqb b a) (pointwise eqb m n) (starts_with eqb s t)
  where
    and_assoc : (x y z : Bool) → x && (y && z) ≡ (x && y) && z
    and_assoc true y z = refl
    and_assoc false y z = refl

nil-before : (m s : List ℕ) → slice_cmp nat_cmp [] (m ++ 0 ∷ s) ≡ Less
nil-before [] s = refl
nil-before (b ∷ m) s = refl

nil-behind : (m s : List ℕ) → slice_cmp nat_cmp (m ++ 0 ∷ s) [] ≡ Greater
nil-behind [] s = refl
nil-behind (b ∷ m) s = refl

nil-starts : (m s : List ℕ) → starts_with eqb [] (m ++ 0 ∷ s) ≡ false
nil-starts [] s = refl
nil-starts (b ∷ m) s = refl

-- names that may stand in a path
abbrev pub AreNames : List (List ℕ) → Type 0
AreNames names = list_all is_name names ≡ true

pub first_plain : (n : List ℕ) (ns : List (List ℕ)) → AreNames (n ∷ ns) → IsPlain n
first_plain n ns h = plain_from_name n (and_parts (is_name n) (list_all is_name ns) h).0

pub rest_names : (n : List ℕ) (ns : List (List ℕ)) → AreNames (n ∷ ns) → AreNames ns
rest_names n ns h = (and_parts (is_name n) (list_all is_name ns) h).1

cmp-buffers : (ns ms : List (List ℕ)) → AreNames ns → AreNames ms → slice_cmp nat_cmp (buffer_of ns) (buffer_of ms) ≡ path_cmp ns ms
cmp-buffers [] [] p q = refl
cmp-buffers [] (m ∷ ms) p q = nil-before m (buffer_of ms)
cmp-buffers (n ∷ ns) [] p q = nil-behind n (buffer_of ns)
cmp-buffers (n ∷ ns) (m ∷ ms) p q =
    cmp-ended n m (buffer_of ns) (buffer_of ms) (first_plain n ns p) (first_plain m ms q)
    ∙ ap (ordering_then (slice_cmp nat_cmp n m)) (cmp-buffers ns ms (rest_names n ns p) (rest_names m ms q))

starts-buffers : (ns ms : List (List ℕ)) → AreNames ns → AreNames ms → starts_with eqb (buffer_of ns) (buffer_of ms) ≡ is_under ns ms
starts-buffers [] [] p q = refl
starts-buffers (n ∷ ns) [] p q = refl
starts-buffers [] (m ∷ ms) p q = nil-starts m (buffer_of ms)
starts-buffers (n ∷ ns) (m ∷ ms) p q =
    starts-ended n m (buffer_of ns) (buffer_of ms) (first_plain n ns p) (first_plain m ms q)
    ∙ ap (λ o. pointwise eqb m n && o) (starts-buffers ns ms (rest_names n ns p) (rest_names m ms q))

-- the same of the buffers that two paths keep
pub cmp-kept : (x y : List ℕ) → KeepsPath x → KeepsPath y → slice_cmp nat_cmp x y ≡ path_cmp (names_in x) (names_in y)
cmp-kept x y k l = ap₂ (slice_cmp nat_cmp) (sym k.whole) (sym l.whole) ∙ cmp-buffers (names_in x) (names_in y) k.path.each_name l.path.each_name

pub starts-kept : (x y : List ℕ) → KeepsPath x → KeepsPath y → starts_with eqb x y ≡ is_under (names_in x) (names_in y)
starts-kept x y k l = ap₂ (starts_with eqb) (sym k.whole) (sym l.whole) ∙ starts-buffers (names_in x) (names_in y) k.path.each_name l.path.each_name

pub eq-kept : (x y : List ℕ) → KeepsPath x → KeepsPath y → pointwise eqb x y ≡ pointwise (pointwise eqb) (names_in x) (names_in y)
eq-kept x y k l = texts_ties x y ∙ ap is_eq (cmp-kept x y k l) ∙ sym (lists_ties (slice_cmp nat_cmp) texts_ties (names_in x) (names_in y))

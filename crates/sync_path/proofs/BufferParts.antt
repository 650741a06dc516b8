-- The names in a buffer: of a buffer made of names, the first one, and the last one.
use Rattle.std.proofs.Common.{◌≡◌, ◌≢◌, ℕ, ◌+◌, ◌<◌, Bool, true, false, eqb, cond, Option, Some, None, List, [], ◌∷◌, ◌++◌, length, get_or, refl, sym, ap, ap₂, subst, ◌∙◌, arith, append_assoc, length-append, suc, drop, take}
use Rattle.std.proofs.lemmas.Bool.{ne_eqb, eqb-true, cond-false}
use Rattle.std.proofs.lemmas.List.{append_cancel_left, get_or-drop, length-drop, take_more, take-append-drop}
use Rattle.std.specs.List.{onto_first}
use Rattle.std.specs.Option.{MatchOption}
use denote.Ref.{Bor}
use Rattle.sync_path.specs.Buffer.{buffer_of, names_in, KeepsPath, SplitsFirst, SplitsLast}
use Rattle.sync_path.specs.Path.{IsPath}
use Rattle.sync_path.proofs.Buffers.{IsPlain, AreNames, positive_from_plain, rest_from_plain, first_plain, rest_names}

-- no byte 0x00, by cases and by index
abbrev pub LacksZero : List ℕ → Type 0
LacksZero [] = Unit {0}
LacksZero (b ∷ bs) = (b ≢ 0) × LacksZero bs

pub lacks_from_plain : (bs : List ℕ) → IsPlain bs → LacksZero bs
lacks_from_plain [] h = tt
lacks_from_plain (b ∷ bs) h = (λ e. let p = positive_from_plain b bs h in omega arith, lacks_from_plain bs (rest_from_plain b bs h))

pub lacks_from_index : (bs : List ℕ) → ((i : ℕ) → i < length bs → get_or bs i 0 ≢ 0) → LacksZero bs
lacks_from_index [] h = tt
lacks_from_index (b ∷ bs) h = (h 0 (omega arith), lacks_from_index bs (λ i l. h (suc i) (omega arith)))

-- the names in a buffer that begins with a whole name
pub names_in-ended : (n : List ℕ) (rest : List ℕ) → LacksZero n → names_in (n ++ 0 ∷ rest) ≡ n ∷ names_in rest
names_in-ended [] rest h = refl
names_in-ended (b ∷ n) rest h =
    cond-false (eqb b 0) ([] ∷ names_in (n ++ 0 ∷ rest)) (onto_first b (names_in (n ++ 0 ∷ rest))) (ne_eqb b 0 h.0)
    ∙ ap (onto_first b) (names_in-ended n rest h.1)

-- the names in a buffer without the byte 0x00
names_in-open : (b : ℕ) (n : List ℕ) → LacksZero (b ∷ n) → names_in (b ∷ n) ≡ (b ∷ n) ∷ []
names_in-open b [] h = cond-false (eqb b 0) ([] ∷ []) ((b ∷ []) ∷ []) (ne_eqb b 0 h.0)
names_in-open b (a ∷ n) h =
    cond-false (eqb b 0) ([] ∷ names_in (a ∷ n)) (onto_first b (names_in (a ∷ n))) (ne_eqb b 0 h.0)
    ∙ ap (onto_first b) (names_in-open a n h.1)

-- a buffer of whole names without the byte 0x00 is empty
pub empty_from_lacks : (bs : List ℕ) → buffer_of (names_in bs) ≡ bs → LacksZero bs → bs ≡ []
empty_from_lacks [] e h = refl
empty_from_lacks (b ∷ bs) e h =
    let l = ap length (sym (ap buffer_of (names_in-open b bs h)) ∙ e) in
    absurd (omega (arith, l, length-append (b ∷ bs) (0 ∷ [])))

-- a buffer made of names has these names
pub names_in-buffer_of : (ns : List (List ℕ)) → AreNames ns → names_in (buffer_of ns) ≡ ns
names_in-buffer_of [] h = refl
names_in-buffer_of (n ∷ ns) h = names_in-ended n (buffer_of ns) (lacks_from_plain n (first_plain n ns h)) ∙ ap (λ xs. n ∷ xs) (names_in-buffer_of ns (rest_names n ns h))

pub buffer_of-append : (xs ys : List (List ℕ)) → buffer_of (xs ++ ys) ≡ buffer_of xs ++ buffer_of ys
buffer_of-append [] ys = refl
buffer_of-append (x ∷ xs) ys = ap (λ bs. x ++ 0 ∷ bs) (buffer_of-append xs ys) ∙ sym (append_assoc x (0 ∷ buffer_of xs) (buffer_of ys))

-- a buffer made of a path's names keeps it
pub kept_from_path : (bs : List ℕ) (ns : List (List ℕ)) → bs ≡ buffer_of ns → IsPath ns → KeepsPath bs × (names_in bs ≡ ns)
kept_from_path bs ns e h =
    let same : names_in bs ≡ ns = ap names_in e ∙ names_in-buffer_of ns h.each_name in (
      record { whole = ap buffer_of same ∙ sym e; path = subst IsPath (sym same) h },
      same,
    )

tail_is : (x y : ℕ) (xs ys : List ℕ) → x ∷ xs ≡ y ∷ ys → xs ≡ ys
tail_is x y xs ys e = cc

-- what `split_once` at the byte 0x00 gives of a buffer of whole names
pub first_from_split : (bs : List ℕ) (r : Option (Bor (List ℕ) × Bor (List ℕ))) → buffer_of (names_in bs) ≡ bs
    → MatchOption r ((i : ℕ) → i < length bs → get_or bs i 0 ≢ 0) (λ x. (bs ≡ x.0.now ++ (0 ∷ x.1.now)) × ((i : ℕ) → i < length x.0.now → get_or x.0.now i 0 ≢ 0))
    → MatchOption r (names_in bs ≡ []) (λ x. SplitsFirst bs x.0.now x.1.now)
first_from_split bs None e h = ap names_in (empty_from_lacks bs e (lacks_from_index bs h))
first_from_split bs (Some x) e h =
    let all : names_in bs ≡ x.0.now ∷ names_in x.1.now = ap names_in h.0 ∙ names_in-ended x.0.now x.1.now (lacks_from_index x.0.now h.1) in
    let both : x.0.now ++ (0 ∷ buffer_of (names_in x.1.now)) ≡ x.0.now ++ (0 ∷ x.1.now) = sym (ap buffer_of all) ∙ e ∙ h.0 in
    record { all = all; whole = tail_is 0 0 _ _ (append_cancel_left x.0.now _ _ both) }

-- ---- a buffer cut behind a byte 0x00

names_in-some : (xs : List ℕ) → (n : List ℕ) × (ns : List (List ℕ)) × (names_in (xs ++ 0 ∷ []) ≡ n ∷ ns)
names_in-some [] = ([], [], refl)
names_in-some (b ∷ xs) = by (eqb b 0) (names_in-some xs)
  where
    by : (t : Bool) → (n : List ℕ) × (ns : List (List ℕ)) × (names_in (xs ++ 0 ∷ []) ≡ n ∷ ns)
        → (n : List ℕ) × (ns : List (List ℕ)) × (cond t ([] ∷ names_in (xs ++ 0 ∷ [])) (onto_first b (names_in (xs ++ 0 ∷ []))) ≡ n ∷ ns)
    by true some = ([], names_in (xs ++ 0 ∷ []), refl)
    by false some = (b ∷ some.0, some.1, ap (onto_first b) some.2)

-- the names before the cut come first
names_in-cut : (xs ys : List ℕ) → names_in (xs ++ 0 ∷ ys) ≡ names_in (xs ++ 0 ∷ []) ++ names_in ys
names_in-cut [] ys = refl
names_in-cut (b ∷ xs) ys = by (eqb b 0) (names_in-some xs) (names_in-cut xs ys)
  where
    by : (t : Bool) → (n : List ℕ) × (ns : List (List ℕ)) × (names_in (xs ++ 0 ∷ []) ≡ n ∷ ns) → names_in (xs ++ 0 ∷ ys) ≡ names_in (xs ++ 0 ∷ []) ++ names_in ys
        → cond t ([] ∷ names_in (xs ++ 0 ∷ ys)) (onto_first b (names_in (xs ++ 0 ∷ ys))) ≡ cond t ([] ∷ names_in (xs ++ 0 ∷ [])) (onto_first b (names_in (xs ++ 0 ∷ []))) ++ names_in ys
    by true some cut = ap (λ ns. [] ∷ ns) cut
    by false some cut = ap (onto_first b) (cut ∙ ap (λ ns. ns ++ names_in ys) some.2) ∙ sym (ap (λ ns. onto_first b ns ++ names_in ys) some.2)

-- what ends at such a byte is a buffer of whole names
whole-ended : (xs : List ℕ) → buffer_of (names_in (xs ++ 0 ∷ [])) ≡ xs ++ 0 ∷ []
whole-ended [] = refl
whole-ended (b ∷ xs) = by (eqb b 0) refl (names_in-some xs) (whole-ended xs)
  where
    by : (t : Bool) → eqb b 0 ≡ t → (n : List ℕ) × (ns : List (List ℕ)) × (names_in (xs ++ 0 ∷ []) ≡ n ∷ ns) → buffer_of (names_in (xs ++ 0 ∷ [])) ≡ xs ++ 0 ∷ []
        → buffer_of (cond t ([] ∷ names_in (xs ++ 0 ∷ [])) (onto_first b (names_in (xs ++ 0 ∷ [])))) ≡ b ∷ (xs ++ 0 ∷ [])
    by true e some whole = ap₂ (λ c bs. c ∷ bs) (sym (eqb-true b 0 e)) whole
    by false e some whole = ap (λ ns. buffer_of (onto_first b ns)) some.2 ∙ ap (λ bs. b ∷ bs) (sym (ap buffer_of some.2) ∙ whole)

-- the last name, where the buffer is cut behind the last such byte but one
pub last_from_cut : (bs all front name : List ℕ) (k : ℕ) → bs ≡ all ++ (0 ∷ []) → k < length all → get_or all k 0 ≡ 0
    → ((i : ℕ) → k < i → i < length all → get_or all i 0 ≢ 0) → front ≡ take (k + 1) all → name ≡ drop (k + 1) all → SplitsLast bs front name
last_from_cut bs all front name k e l z lacks f n =
    let front_ends : front ≡ take k all ++ 0 ∷ [] = f ∙ take_more all k 0 l ∙ ap (λ b. take k all ++ b ∷ []) z in
    let lacks_name : LacksZero name = lacks_from_index name (λ i j. rw n (rw get_or-drop (lacks (k + 1 + i) (omega arith) (omega (arith, ap length n, length-drop (k + 1) all))))) in
    let cut : bs ≡ (take k all ++ 0 ∷ []) ++ (name ++ 0 ∷ []) =
    e ∙ ap (λ xs. xs ++ 0 ∷ []) (sym (take-append-drop (k + 1) all) ∙ ap₂ (λ xs ys. xs ++ ys) (sym f ∙ front_ends) (sym n)) ∙ append_assoc (take k all ++ 0 ∷ []) name (0 ∷ []) in
    record {
      names = names_in (take k all ++ 0 ∷ []);
      all =
          ap names_in (cut ∙ append_assoc (take k all) (0 ∷ []) (name ++ 0 ∷ [])) ∙ names_in-cut (take k all) (name ++ 0 ∷ [])
          ∙ ap (λ ns. names_in (take k all ++ 0 ∷ []) ++ ns) (names_in-ended name [] lacks_name);
      front_is = front_ends ∙ sym (whole-ended (take k all));
    }

-- the last name, where it's the only one
pub last_alone : (bs all : List ℕ) → bs ≡ all ++ (0 ∷ []) → ((i : ℕ) → i < length all → get_or all i 0 ≢ 0) → SplitsLast bs [] all
last_alone bs all e lacks = record { names = []; all = ap names_in e ∙ names_in-ended all [] (lacks_from_index all lacks); front_is = refl }

buffer_ends : (n : List ℕ) (ns : List (List ℕ)) → (front : List ℕ) × (buffer_of (n ∷ ns) ≡ front ++ 0 ∷ [])
buffer_ends n [] = (n, refl)
buffer_ends n (m ∷ ns) = let more = buffer_ends m ns in (n ++ 0 ∷ more.0, ap (λ bs. n ++ 0 ∷ bs) more.1 ∙ sym (append_assoc n (0 ∷ more.0) (0 ∷ [])))

-- a buffer of whole names that doesn't end in the byte 0x00 is empty
pub empty_from_end : (bs : List ℕ) → buffer_of (names_in bs) ≡ bs → ((front : List ℕ) → bs ≢ front ++ (0 ∷ [])) → bs ≡ []
empty_from_end bs whole none = by (names_in bs) whole
  where
    by : (ns : List (List ℕ)) → buffer_of ns ≡ bs → bs ≡ []
    by [] e = sym e
    by (n ∷ ns) e = let more = buffer_ends n ns in absurd (none more.0 (sym e ∙ more.1))

-- How many bytes can go on from a place in the text of a path to its end.
use Rattle.std.proofs.Common.{◌≡◌, ℕ, zero, suc, ◌+◌, ◌-◌, ◌*◌, ◌<◌, ◌≤◌, Bool, true, false, cond, not, ◌&&◌, ◌||◌, List, [], ◌∷◌, length, refl, sym, ◌∙◌, ap, subst, arith, ◌⊎◌, inl, inr, Some, None}
use Rattle.std.specs.Prelude.{Option, nat_lt, nat_le, ◌==◌}
use Rattle.std.specs.Option.{option_map}
use Rattle.std.proofs.lemmas.Bool.{and_parts}
use Rattle.std.proofs.lemmas.Bool.Decides.{nat_tests, leb_tells, eqb_tells}
use Rattle.mux_frames.specs.Numbers.{AreBytes}
use Rattle.agent_proto.specs.declared.character.Begun.{Begun}
use Rattle.agent_proto.specs.declared.character.Begun.TheVariants.{Whole, One, Two, Three, AfterE0, AfterEd, AfterF0, AfterF4}
use Rattle.agent_proto.specs.declared.path_place.PathPlace.{PathPlace}
use Rattle.agent_proto.specs.Characters.{char_step, is_whole, bytes_due}
use Rattle.agent_proto.specs.PathPlaces.{name_start, is_good_name, is_name_end, behind_byte, path_step, ends_path, has_room}
use Rattle.agent_proto.proofs.Found.{cond_found, cond_either, map_found, and_then_found}

-- ---- characters

-- a byte that goes on with a character that isn't whole leaves one byte less to come
pub step_due : (s t : Begun) (b : ℕ) → char_step s b ≡ Some t → (s ≡ Whole) ⊎ (bytes_due s ≡ suc (bytes_due t))
step_due Whole t b e = inl refl
step_due One t b e = inr (ap (λ x. suc (bytes_due x)) (cond_found _ Whole t e).1)
step_due Two t b e = inr (ap (λ x. suc (bytes_due x)) (cond_found _ One t e).1)
step_due Three t b e = inr (ap (λ x. suc (bytes_due x)) (cond_found _ Two t e).1)
step_due AfterE0 t b e = inr (ap (λ x. suc (bytes_due x)) (cond_found _ One t e).1)
step_due AfterEd t b e = inr (ap (λ x. suc (bytes_due x)) (cond_found _ One t e).1)
step_due AfterF0 t b e = inr (ap (λ x. suc (bytes_due x)) (cond_found _ Two t e).1)
step_due AfterF4 t b e = inr (ap (λ x. suc (bytes_due x)) (cond_found _ Two t e).1)

-- a byte that goes on with a character that isn't whole
pub record Onward (s : Begun) : Type 0 where
  pub byte : ℕ
  pub then : Begun
  pub high : 128 ≤ byte
  pub small : byte < 256
  pub is : char_step s byte ≡ Some then
  pub due : bytes_due s ≡ suc (bytes_due then)

pub onward : (s : Begun) → (s ≡ Whole) ⊎ Onward s
onward Whole = inl refl
onward One = inr (record { byte = 128; then = Whole; high = omega arith; small = omega arith; is = refl; due = refl })
onward Two = inr (record { byte = 128; then = One; high = omega arith; small = omega arith; is = refl; due = refl })
onward Three = inr (record { byte = 128; then = Two; high = omega arith; small = omega arith; is = refl; due = refl })
onward AfterE0 = inr (record { byte = 160; then = One; high = omega arith; small = omega arith; is = refl; due = refl })
onward AfterEd = inr (record { byte = 128; then = One; high = omega arith; small = omega arith; is = refl; due = refl })
onward AfterF0 = inr (record { byte = 144; then = Two; high = omega arith; small = omega arith; is = refl; due = refl })
onward AfterF4 = inr (record { byte = 128; then = Two; high = omega arith; small = omega arith; is = refl; due = refl })

pub no_due : (s : Begun) → bytes_due s ≡ 0 → s ≡ Whole
no_due Whole e = refl
no_due One e = absurd (omega (arith, e))
no_due Two e = absurd (omega (arith, e))
no_due Three e = absurd (omega (arith, e))
no_due AfterE0 e = absurd (omega (arith, e))
no_due AfterEd e = absurd (omega (arith, e))
no_due AfterF0 e = absurd (omega (arith, e))
no_due AfterF4 e = absurd (omega (arith, e))

pub whole_is : (s : Begun) → is_whole s ≡ true → s ≡ Whole
whole_is Whole e = refl
whole_is One e = absurd cc
whole_is Two e = absurd cc
whole_is Three e = absurd cc
whole_is AfterE0 e = absurd cc
whole_is AfterEd e = absurd cc
whole_is AfterF0 e = absurd cc
whole_is AfterF4 e = absurd cc

-- ---- what the test of room means

pub record Room (due len left names : ℕ) (good : Bool) : Type 0 where
  pub due_in : due ≤ left
  pub len_in : len + due ≤ 255
  pub total : len + left ≤ 255 + 256 * names
  pub last : left ≡ due → due ≡ 0 → good ≡ true
  pub next : due < left → len + due ≡ 255 → due + 1 < left

or_good : (due : ℕ) (good : Bool) → (nat_lt 0 due || good) ≡ true → due ≡ 0 → good ≡ true
or_good zero good e z = e
or_good (suc n) good e z = absurd (omega (arith, z))

good_or : (due : ℕ) (good : Bool) → (due ≡ 0 → good ≡ true) → (nat_lt 0 due || good) ≡ true
good_or zero good h = h refl
good_or (suc n) good h = grind (arith, nat_tests)

pub room_of : (due len left names : ℕ) (good : Bool) → has_room due len left names good ≡ true → Room due len left names good
room_of due len left names good e =
    let p1 = and_parts (nat_le due left) _ e in
    let p2 = and_parts (nat_le (len + due) 255) _ p1.1 in
    let p3 = and_parts (nat_le (len + left) (255 + 256 * names)) _ p2.1 in
    let h1 : due ≤ left = grind (arith, nat_tests, p1.0) in
    let h2 : len + due ≤ 255 = grind (arith, nat_tests, p2.0) in
    let h3 : len + left ≤ 255 + 256 * names = grind (arith, nat_tests, p3.0) in
    elim (cond_either (left == due) _ _ p3.1) [
      | inl at ↦
          let same : left ≡ due = grind (arith, nat_tests, at.0) in
          record { due_in = h1; len_in = h2; total = h3; last = λ _ z. or_good due good at.1 z; next = λ l _. absurd (omega (arith, same, l)) }
      | inr at ↦
          let differ : left ≡ due → ⊥ = λ q. grind (arith, nat_tests, at.0, q) in
          let more : len + due ≡ 255 → due + 1 < left = λ q. grind (arith, nat_tests, at.1, q) in
          record { due_in = h1; len_in = h2; total = h3; last = λ q _. absurd (differ q); next = λ _ q. more q }
    ]

pub has_room_of : (due len left names : ℕ) (good : Bool) → Room due len left names good → has_room due len left names good ≡ true
has_room_of due len left names good r =
    let t1 : nat_le due left ≡ true = grind (arith, nat_tests, r.due_in) in
    let t2 : nat_le (len + due) 255 ≡ true = grind (arith, nat_tests, r.len_in) in
    let t3 : nat_le (len + left) (255 + 256 * names) ≡ true = grind (arith, nat_tests, r.total) in
    let t4 : cond (left == due) (nat_lt 0 due || good) (nat_lt (len + due) 255 || nat_lt (due + 1) left) ≡ true = elim (eqb_tells left due) [
      | inl p ↦ ap (λ t. cond t (nat_lt 0 due || good) (nat_lt (len + due) 255 || nat_lt (due + 1) left)) p.0 ∙ good_or due good (r.last p.1)
      | inr p ↦
          let lt : due < left = omega (arith, p.1, r.due_in) in
          ap (λ t. cond t (nat_lt 0 due || good) (nat_lt (len + due) 255 || nat_lt (due + 1) left)) p.0 ∙ (elim (leb_tells 255 (len + due)) [
            | inl q ↦ let more = r.next lt (omega (arith, q.1, r.len_in)) in grind (arith, nat_tests)
            | inr q ↦ grind (arith, nat_tests)
          ])
    ] in
    rw (t1, t2, t3) t4

-- ---- one byte

slash_back : (len left names : ℕ) (good : Bool) → len ≤ 255 → 0 < names → Room 0 0 left (names - 1) false → Room 0 len (suc left) names good
slash_back len left names good short some r =
    let used : 0 < left = elim (eqb_tells left 0) [ inl p ↦ absurd (let e = r.last p.1 refl in cc) | inr p ↦ omega arith ] in
    record {
      due_in = omega arith;
      len_in = omega arith;
      total = omega (arith, r.total, some, short);
      last = λ e z. absurd (omega (arith, e));
      next = λ l e. omega (arith, used);
    }

letter_back : (due len left names : ℕ) (good after : Bool) → len < 255 → Room due (len + 1) left names after → Room 0 len (suc left) names good
letter_back due len left names good after short r = record {
  due_in = omega arith;
  len_in = omega (arith, short);
  total = omega (arith, r.total);
  last = λ e z. absurd (omega (arith, e));
  next = λ l e. absurd (omega (arith, e, short));
}

continue_back : (due len left names : ℕ) (good after : Bool) → Room due (len + 1) left names after → Room (suc due) len (suc left) names good
continue_back due len left names good after r = record {
  due_in = omega (arith, r.due_in);
  len_in = omega (arith, r.len_in);
  total = omega (arith, r.total);
  last = λ e z. absurd (omega (arith, z));
  next = λ l e. let h = r.next (omega (arith, l)) (omega (arith, e)) in omega (arith, h);
}

continue_on : (due len left names : ℕ) (good after : Bool) → after ≡ true → Room (suc due) len (suc left) names good → Room due (len + 1) left names after
continue_on due len left names good after fine r = record {
  due_in = omega (arith, r.due_in);
  len_in = omega (arith, r.len_in);
  total = omega (arith, r.total);
  last = λ e z. fine;
  next = λ l e. let h = r.next (omega (arith, l)) (omega (arith, e)) in omega (arith, h);
}

letter_on : (len left names : ℕ) (good after : Bool) → after ≡ true → len < 255 → (len ≡ 254 → left ≡ 1 → ⊥) → Room 0 len (suc left) names good → Room 0 (len + 1) left names after
letter_on len left names good after fine short other r = record {
  due_in = omega arith;
  len_in = omega (arith, short);
  total = omega (arith, r.total);
  last = λ e z. fine;
  next = λ l e. elim (eqb_tells left 1) [ inl p ↦ absurd (other (omega (arith, e)) p.1) | inr p ↦ omega (arith, l, p.1) ];
}

slash_on : (len left names : ℕ) (good : Bool) → 254 ≤ len → (len ≡ 254 → left ≡ 1) → Room 0 len (suc left) names good → (0 < names) × Room 0 0 left (names - 1) false
slash_on len left names good long one r =
    let most : len ≤ 255 = omega (arith, r.len_in) in
    let used : 0 < left = elim (eqb_tells len 254) [ inl p ↦ let h = one p.1 in omega (arith, h) | inr p ↦ let h = r.next (omega arith) (omega (arith, p.1, long, most)) in omega (arith, h) ] in
    let some : 0 < names = omega (arith, r.total, used, long) in
    let fits : left ≤ 255 + 256 * (names - 1) = elim (eqb_tells len 254) [ inl p ↦ let h = one p.1 in omega (arith, h) | inr p ↦ omega (arith, r.total, some, p.1, long, most) ] in (
      some,
      record {
        due_in = omega arith;
        len_in = omega arith;
        total = omega (arith, fits);
        last = λ e z. absurd (omega (arith, e, used));
        next = λ l e. absurd (omega (arith, e));
      },
    )

-- ---- places

abbrev pub CanEnd : PathPlace → ℕ → Type 0
CanEnd p left = Room (bytes_due p.begun) p.len left p.names (is_good_name p)

-- what a step made
record Slashed (p q : PathPlace) : Type 0 where
  whole : p.begun ≡ Whole
  some : 0 < p.names
  then : name_start (p.names - 1) ≡ q

record Lettered (p q : PathPlace) (b : ℕ) : Type 0 where
  begun : Begun
  short : p.len < 255
  is : char_step p.begun b ≡ Some begun
  then : behind_byte p b begun ≡ q

step_is : (p q : PathPlace) (b : ℕ) → path_step p b ≡ Some q → Slashed p q ⊎ Lettered p q b
step_is p q b e = elim (cond_either (b == 47) _ _ e) [
  | inl at ↦
      let found = cond_found (is_name_end p && nat_lt 0 p.names) (name_start (p.names - 1)) q at.1 in
      let parts = and_parts (is_name_end p) (nat_lt 0 p.names) found.0 in
      let inner = and_parts (is_whole p.begun) (is_good_name p) parts.0 in
      inl (record { whole = whole_is p.begun inner.0; some = grind (arith, nat_tests, parts.1); then = found.1 })
  | inr at ↦
      let found = and_then_found (nat_le 32 b && nat_lt p.len 255) _ q at.1 in
      let parts = and_parts (nat_le 32 b) (nat_lt p.len 255) found.0 in
      let inner = map_found (behind_byte p b) (char_step p.begun b) q found.1 in
      inr (record { begun = inner.0; short = grind (arith, nat_tests, parts.1); is = inner.1; then = inner.2 })
]

pub step_len : (p q : PathPlace) (b : ℕ) → path_step p b ≡ Some q → q.len ≤ 255
step_len p q b e = elim (step_is p q b e) [
  | inl s ↦ subst (λ r. r.len ≤ 255) s.then (omega arith)
  | inr l ↦ subst (λ r. r.len ≤ 255) l.then (omega (arith, l.short))
]

-- where behind a byte so many bytes can end a path, before it one more can
pub comes_from : (p q : PathPlace) (b left : ℕ) → p.len ≤ 255 → path_step p b ≡ Some q → CanEnd q left → CanEnd p (suc left)
comes_from p q b left short e room = elim (step_is p q b e) [
  | inl s ↦
      let before : CanEnd (name_start (p.names - 1)) left = subst (λ r. CanEnd r left) (sym s.then) room in
      subst (λ t. Room (bytes_due t) p.len (suc left) p.names (is_good_name p)) (sym s.whole) (slash_back p.len left p.names (is_good_name p) short s.some before)
  | inr l ↦
      let then_ : PathPlace = behind_byte p b l.begun in
      let before : CanEnd then_ left = subst (λ r. CanEnd r left) (sym l.then) room in
      elim (step_due p.begun l.begun b l.is) [
        | inl w ↦ subst (λ t. Room (bytes_due t) p.len (suc left) p.names (is_good_name p)) (sym w) (letter_back (bytes_due l.begun) p.len left p.names (is_good_name p) (is_good_name then_) l.short before)
        | inr d ↦ subst (λ (n : ℕ). Room n p.len (suc left) p.names (is_good_name p)) (sym d) (continue_back (bytes_due l.begun) p.len left p.names (is_good_name p) (is_good_name then_) before)
      ]
]

-- a byte behind which one byte less can end a path
pub record Goes (p : PathPlace) (left : ℕ) : Type 0 where
  pub byte : ℕ
  pub then : PathPlace
  pub small : byte < 256
  pub is : path_step p byte ≡ Some then
  pub can : CanEnd then left

letter_step : (p : PathPlace) (b : ℕ) (begun : Begun) → 47 < b → p.len < 255 → char_step p.begun b ≡ Some begun → path_step p b ≡ Some (behind_byte p b begun)
letter_step p b begun high short is =
    let no_slash : (b == 47) ≡ false = grind (arith, nat_tests) in
    let fits : (nat_le 32 b && nat_lt p.len 255) ≡ true = grind (arith, nat_tests) in
    rw (no_slash, fits) (ap (option_map (behind_byte p b)) is)

good_letter : (p : PathPlace) (b : ℕ) (begun : Begun) → 46 < b → is_good_name (behind_byte p b begun) ≡ true
good_letter p b begun high =
    let no_dot : (b == 46) ≡ false = grind (arith, nat_tests) in
    let some : nat_lt 0 (p.len + 1) ≡ true = grind (arith, nat_tests) in
    no_dots p.dots (b == 46) (nat_lt 0 (p.len + 1)) (nat_le (p.len + 1) 2) no_dot some
  where
    no_dots : (d x s n : Bool) → x ≡ false → s ≡ true → (s && not ((d && x) && n)) ≡ true
    no_dots true x s n ex es = rw (ex, es) refl
    no_dots false x s n ex es = rw es refl

good_long : (p : PathPlace) → 2 < p.len → is_good_name p ≡ true
good_long p long =
    let some : nat_lt 0 p.len ≡ true = grind (arith, nat_tests) in
    let more : nat_le p.len 2 ≡ false = grind (arith, nat_tests) in
    many p.dots (nat_lt 0 p.len) (nat_le p.len 2) some more
  where
    many : (d s n : Bool) → s ≡ true → n ≡ false → (s && not (d && n)) ≡ true
    many true s n es en = rw (es, en) refl
    many false s n es en = rw es refl

by_letter : (p : PathPlace) (left : ℕ) → p.begun ≡ Whole → p.len < 255 → (p.len ≡ 254 → left ≡ 1 → ⊥) → CanEnd p (suc left) → Goes p left
by_letter p left whole short other room =
    let step : char_step p.begun 97 ≡ Some Whole = ap (λ t. char_step t 97) whole in
    let here : Room 0 p.len (suc left) p.names (is_good_name p) = subst (λ t. Room (bytes_due t) p.len (suc left) p.names (is_good_name p)) whole room in
    record {
      byte = 97;
      then = behind_byte p 97 Whole;
      small = omega arith;
      is = letter_step p 97 Whole (omega arith) short step;
      can = letter_on p.len left p.names (is_good_name p) (is_good_name (behind_byte p 97 Whole)) (good_letter p 97 Whole (omega arith)) short other here;
    }

by_slash : (p : PathPlace) (left : ℕ) → p.begun ≡ Whole → 254 ≤ p.len → (p.len ≡ 254 → left ≡ 1) → CanEnd p (suc left) → Goes p left
by_slash p left whole long one room =
    let here : Room 0 p.len (suc left) p.names (is_good_name p) = subst (λ t. Room (bytes_due t) p.len (suc left) p.names (is_good_name p)) whole room in
    let found = slash_on p.len left p.names (is_good_name p) long one here in
    let ends : is_whole p.begun ≡ true = ap is_whole whole in
    let good : is_good_name p ≡ true = good_long p (omega (arith, long)) in
    let some : nat_lt 0 p.names ≡ true = let h = found.0 in grind (arith, nat_tests, h) in
    record {
      byte = 47;
      then = name_start (p.names - 1);
      small = omega arith;
      is = rw (ends, good, some) refl;
      can = found.1;
    }

by_whole : (p : PathPlace) (left : ℕ) → p.begun ≡ Whole → p.len ≤ 255 → CanEnd p (suc left) → Goes p left
by_whole p left whole short room = elim (leb_tells 254 p.len) [
  | inr a ↦ by_letter p left whole (omega (arith, a.1)) (λ e o. omega (arith, a.1, e)) room
  | inl a ↦ elim (leb_tells 255 p.len) [
    | inl b ↦ by_slash p left whole a.1 (λ e. absurd (omega (arith, b.1, e))) room
    | inr b ↦ elim (eqb_tells left 1) [
      | inl c ↦ by_slash p left whole a.1 (λ e. c.1) room
      | inr c ↦ by_letter p left whole (omega (arith, b.1)) (λ e o. absurd (c.1 o)) room
    ]
  ]
]

pub goes_on : (p : PathPlace) (left : ℕ) → p.len ≤ 255 → CanEnd p (suc left) → Goes p left
goes_on p left short room = elim (onward p.begun) [
  | inl whole ↦ by_whole p left whole short room
  | inr o ↦
      let here : Room (suc (bytes_due o.then)) p.len (suc left) p.names (is_good_name p) = subst (λ (n : ℕ). Room n p.len (suc left) p.names (is_good_name p)) o.due room in
      record {
        byte = o.byte;
        then = behind_byte p o.byte o.then;
        small = o.small;
        is = letter_step p o.byte o.then (omega (arith, o.high)) (omega (arith, here.len_in)) o.is;
        can = continue_on (bytes_due o.then) p.len left p.names (is_good_name p) (is_good_name (behind_byte p o.byte o.then)) (good_letter p o.byte o.then (omega (arith, o.high))) here;
      }
]

-- ---- whole texts

-- bytes that go on to the end of a path
pub record Reaches (p : PathPlace) (left : ℕ) : Type 0 where
  pub bytes : List ℕ
  pub len : length bytes ≡ left
  pub each : AreBytes bytes
  pub ends : ends_path (Some p) bytes ≡ true

pub reaches : (left : ℕ) (p : PathPlace) → p.len ≤ 255 → CanEnd p left → Reaches p left
reaches zero p short room =
    let none : bytes_due p.begun ≡ 0 = omega (arith, room.due_in) in
    let ends : is_whole p.begun ≡ true = ap is_whole (no_due p.begun none) in
    let good : is_good_name p ≡ true = room.last (sym none) none in
    record { bytes = []; len = refl; each = tt; ends = rw (ends, good) refl }
reaches (suc left) p short room =
    let step = goes_on p left short room in
    let rest = reaches left step.then (step_len p step.then step.byte step.is) step.can in
    record { bytes = step.byte ∷ rest.bytes; len = ap suc rest.len; each = (step.small, rest.each); ends = ap (λ o. ends_path o rest.bytes) step.is ∙ rest.ends }

-- and no others do
pub within : (bytes : List ℕ) (p : PathPlace) → p.len ≤ 255 → ends_path (Some p) bytes ≡ true → CanEnd p (length bytes)
within [] p short e =
    let parts = and_parts (is_whole p.begun) (is_good_name p) e in
    subst (λ t. Room (bytes_due t) p.len 0 p.names (is_good_name p)) (sym (whole_is p.begun parts.0))
    (record { due_in = omega arith; len_in = omega (arith, short); total = omega (arith, short); last = λ _ _. parts.1; next = λ l _. absurd (omega (arith, l)) })
within (b ∷ bytes) p short e = by_step (path_step p b) refl e (within bytes)
  where
    by_step : (found : Option PathPlace) → path_step p b ≡ found → ends_path found bytes ≡ true → ((q : PathPlace) → q.len ≤ 255 → ends_path (Some q) bytes ≡ true → CanEnd q (length bytes)) → CanEnd p (suc (length bytes))
    by_step None is e' later = absurd cc
    by_step (Some q) is e' later = comes_from p q b (length bytes) short is (later q (step_len p q b is) e')

-- Bytes that go on to the end of a path are the text of one, and no others are.
use Rattle.std.proofs.Common.{◌≡◌, ℕ, zero, suc, ◌+◌, ◌-◌, ◌<◌, ◌≤◌, Bool, true, false, cond, not, ◌&&◌, ◌||◌, List, [], ◌∷◌, ◌++◌, length, refl, sym, ◌∙◌, ap, arith, inl, inr, Some, None, append_assoc, length-append}
use Rattle.std.specs.Prelude.{Option, nat_lt, nat_le, ◌==◌}
use Rattle.std.specs.Option.{option_map}
use Rattle.std.specs.List.{list_all, slice_split, onto_first}
use Rattle.std.specs.Str.{is_utf8}
use Rattle.std.proofs.lemmas.Bool.Decides.{nat_tests, leb_tells}
use Rattle.std.proofs.lemmas.List.{append-nil}
use Rattle.std.proofs.lemmas.List.Folds.{list_all-append}
use Rattle.sync_path.specs.Name.{is_name, has_name_form, has_name_len, is_dots, is_name_byte}
use Rattle.agent_proto.specs.declared.character.Begun.{Begun}
use Rattle.agent_proto.specs.declared.path_place.PathPlace.{PathPlace}
use Rattle.agent_proto.specs.Characters.{char_step, is_whole, ends_whole}
use Rattle.agent_proto.specs.PathPlaces.{name_start, is_name_end, behind_slash, behind_byte, behind_letter, ends_path}
use Rattle.agent_proto.proofs.Characters.{utf8_is}
use Rattle.agent_proto.proofs.Comparisons.{le_suc, le_none, le_zero, zero_lt}

abbrev pub is_slash : ℕ → Bool
is_slash b = b == 47

-- ---- tests

pub and_false : (a : Bool) → a && false ≡ false
and_false true = refl
and_false false = refl

and_false_all : (a b : Bool) → b ≡ false → a && b ≡ false
and_false_all true b e = e
and_false_all false b e = refl

-- ---- the name so far

-- the bytes of the name lead to this place
record Tracks (p : PathPlace) (front : List ℕ) : Type 0 where
  chars : (bytes : List ℕ) → is_utf8 (front ++ bytes) ≡ ends_whole (Some p.begun) bytes
  len_is : length front ≡ p.len
  dots_is : list_all (λ b. b == 46) front ≡ p.dots
  each : list_all is_name_byte front ≡ true
  short : p.len ≤ 255

tracks_start : (names : ℕ) → Tracks (name_start names) []
tracks_start names = record { chars = utf8_is; len_is = refl; dots_is = refl; each = refl; short = omega arith }

-- which names are dots
dots_short : (a : Bool) → (a && true || (a && false)) ≡ (a && true) && true
dots_short true = refl
dots_short false = refl

dots_two : (a b : Bool) → (a && false || (a && (b && true))) ≡ (a && (b && true)) && true
dots_two true true = refl
dots_two true false = refl
dots_two false b = refl

dots_long : (a b c : Bool) → (a && false || (a && (b && false))) ≡ (a && (b && c)) && false
dots_long true true true = refl
dots_long true true false = refl
dots_long true false c = refl
dots_long false b c = refl

dots_are : (front : List ℕ) → 0 < length front → is_dots front ≡ (list_all (λ b. b == 46) front && nat_le (length front) 2)
dots_are [] some = absurd (omega arith)
dots_are (a ∷ []) some = dots_short (a == 46)
dots_are (a ∷ b ∷ []) some = dots_two (a == 46) (b == 46)
dots_are (a ∷ b ∷ c ∷ rest) some =
    let long : nat_le (length (a ∷ b ∷ c ∷ rest)) 2 ≡ false = grind (arith, nat_tests) in
    dots_long (a == 46) (b == 46) ((c == 46) && list_all (λ b. b == 46) rest) ∙ ap (λ t. (list_all (λ b. b == 46) (a ∷ b ∷ c ∷ rest)) && t) (sym long)

named : (p : PathPlace) (front : List ℕ) → Tracks p front → is_name front ≡ is_name_end p
named p front t = joined (is_utf8 front) (is_whole p.begun) (nat_le 1 (length front)) (nat_le (length front) 255) (is_dots front) (list_all is_name_byte front) (nat_lt 0 p.len) p.dots (nat_le p.len 2)
    (ap is_utf8 (sym (append-nil front)) ∙ t.chars []) t.each
    (ap (λ n. nat_le 1 n) t.len_is)
    (let s = t.short in let l = t.len_is in grind (arith, nat_tests))
    (λ some. dots_are front (let h : nat_le 1 (length front) ≡ true = some in grind (arith, nat_tests)) ∙ ap (λ d. d && nat_le (length front) 2) t.dots_is ∙ ap (λ n. p.dots && nat_le n 2) t.len_is)
  where
    joined : (u w l1 l2 d e s dots n : Bool) → u ≡ w → e ≡ true → l1 ≡ s → l2 ≡ true → (l1 ≡ true → d ≡ (dots && n)) → u && ((l1 && l2) && not d && e) ≡ w && (s && not (dots && n))
    joined u w true l2 d e s dots n hu he hs h2 hd = rw (hu, he, ← hs, h2, hd refl) (and_right w (not (dots && n)))
      where
        and_right : (w d : Bool) → w && (d && true) ≡ w && d
        and_right true true = refl
        and_right true false = refl
        and_right false d = refl
    joined u w false l2 d e s dots n hu he hs h2 hd = rw (hu, ← hs) refl

-- ---- one byte of a name

and_true_right : (a : Bool) → a && true ≡ a
and_true_right true = refl
and_true_right false = refl

tracks_on : (p : PathPlace) (front : List ℕ) (b : ℕ) (begun : Begun) → Tracks p front → 32 ≤ b → (b == 47) ≡ false → p.len < 255 → char_step p.begun b ≡ Some begun → Tracks (behind_byte p b begun) (front ++ b ∷ [])
tracks_on p front b begun t high no_slash short is = record {
  chars = λ bytes. ap is_utf8 (append_assoc front (b ∷ []) bytes) ∙ t.chars (b ∷ bytes) ∙ ap (λ o. ends_whole o bytes) is;
  len_is = length-append front (b ∷ []) ∙ ap (λ n. n + 1) t.len_is;
  dots_is = list_all-append (λ b. b == 46) front (b ∷ []) ∙ ap (λ d. d && ((b == 46) && true)) t.dots_is ∙ ap (λ x. p.dots && x) (and_true_right (b == 46));
  each = list_all-append is_name_byte front (b ∷ []) ∙ ap (λ d. d && (is_name_byte b && true)) t.each ∙ plain;
  short = omega (arith, short);
}
  where
    plain : (true && (is_name_byte b && true)) ≡ true
    plain = let h : nat_le 32 b ≡ true = grind (arith, nat_tests) in rw (h, no_slash) refl

-- bytes behind which no name ends
abbrev NoName : List ℕ → ℕ → Type 0
NoName front b = (part : List ℕ) → is_name (front ++ b ∷ part) ≡ false

from_form : (front : List ℕ) → has_name_form front ≡ false → is_name front ≡ false
from_form front e = and_false_all (is_utf8 front) (has_name_form front) e

no_low : (front : List ℕ) (b : ℕ) → b < 32 → NoName front b
no_low front b low = λ part.
    let h : nat_le 32 b ≡ false = grind (arith, nat_tests) in
    let tail : list_all is_name_byte (b ∷ part) ≡ false = rw h refl in
    let bad : list_all is_name_byte (front ++ b ∷ part) ≡ false = list_all-append is_name_byte front (b ∷ part) ∙ and_false_all (list_all is_name_byte front) (list_all is_name_byte (b ∷ part)) tail in
    from_form (front ++ b ∷ part) (and_false_all (has_name_len (front ++ b ∷ part) && not (is_dots (front ++ b ∷ part))) (list_all is_name_byte (front ++ b ∷ part)) bad)

no_long : (front : List ℕ) (b : ℕ) → 255 ≤ length front → NoName front b
no_long front b long = λ part.
    let size : length (front ++ b ∷ part) ≡ length front + suc (length part) = length-append front (b ∷ part) in
    let bad : nat_le (length (front ++ b ∷ part)) 255 ≡ false = grind (arith, nat_tests, size) in
    let bad_len : has_name_len (front ++ b ∷ part) ≡ false = and_false_all (nat_le 1 (length (front ++ b ∷ part))) (nat_le (length (front ++ b ∷ part)) 255) bad in
    from_form (front ++ b ∷ part) (ap (λ x. (x && not (is_dots (front ++ b ∷ part))) && list_all is_name_byte (front ++ b ∷ part)) bad_len)

no_char : (p : PathPlace) (front : List ℕ) (b : ℕ) → Tracks p front → char_step p.begun b ≡ None → NoName front b
no_char p front b t is = λ part.
    let bad : is_utf8 (front ++ b ∷ part) ≡ false = t.chars (b ∷ part) ∙ ap (λ o. ends_whole o part) is in
    ap (λ x. x && has_name_form (front ++ b ∷ part)) bad

-- ---- the names behind

-- the first of the parts goes on with a name's bytes, and behind it stand names, at most so many
abbrev pub follows : List ℕ → ℕ → List (List ℕ) → Bool
follows front names [] = false
follows front names (part ∷ parts) = is_name (front ++ part) && (list_all is_name parts && nat_le (length parts) names)

-- parts of a text are some
abbrev IsSome : List (List ℕ) → Type 0
IsSome [] = ⊥
IsSome (part ∷ parts) = Unit {0}

split_some : (bytes : List ℕ) → IsSome (slice_split is_slash bytes)
split_some [] = tt
split_some (b ∷ bytes) = by_test (b == 47) (slice_split is_slash bytes)
  where
    by_test : (test : Bool) (parts : List (List ℕ)) → IsSome (cond test ([] ∷ parts) (onto_first b parts))
    by_test true parts = tt
    by_test false [] = tt
    by_test false (part ∷ parts) = tt

-- behind a `/`
slash_parts : (p : PathPlace) (front : List ℕ) (parts : List (List ℕ)) (rest : List ℕ) → Tracks p front → IsSome parts
    → ((names : ℕ) → ends_path (Some (name_start names)) rest ≡ follows [] names parts)
    → ends_path (behind_slash p) rest ≡ follows front p.names ([] ∷ parts)
slash_parts p front [] rest t some later = absurd some
slash_parts p front (part ∷ parts) rest t some later =
    let name : is_name (front ++ []) ≡ is_name_end p = ap is_name (append-nil front) ∙ named p front t in
    by_cases (is_name_end p) p.names ∙ ap (λ x. x && (list_all is_name (part ∷ parts) && nat_le (length (part ∷ parts)) p.names)) (sym name)
  where
    assoc : (a b c : Bool) → a && (b && c) ≡ (a && b) && c
    assoc true b c = refl
    assoc false b c = refl

    by_cases : (end : Bool) (names : ℕ) → ends_path (cond (end && nat_lt 0 names) (Some (name_start (names - 1))) None) rest ≡ end && (list_all is_name (part ∷ parts) && nat_le (suc (length parts)) names)
    by_cases false names = refl
    by_cases true zero = sym (ap (λ t. list_all is_name (part ∷ parts) && t) (le_none (length parts)) ∙ and_false (list_all is_name (part ∷ parts)))
    by_cases true (suc names) =
        let one_less : suc names - 1 ≡ names = omega arith in
        ap (λ t. ends_path (cond t (Some (name_start (suc names - 1))) None) rest) (zero_lt names)
        ∙ ap (λ (n : ℕ). ends_path (Some (name_start n)) rest) one_less ∙ later names ∙ assoc (is_name part) (list_all is_name parts) (nat_le (length parts) names)
        ∙ ap (λ t. (is_name part && list_all is_name parts) && t) (sym (le_suc (length parts) names))

-- behind a byte of a name
letter_parts : (p : PathPlace) (front : List ℕ) (b : ℕ) (parts : List (List ℕ)) (rest : List ℕ) → Tracks p front → IsSome parts → (b == 47) ≡ false
    → ((q : PathPlace) (longer : List ℕ) → Tracks q longer → ends_path (Some q) rest ≡ follows longer q.names parts)
    → ends_path (behind_letter p b) rest ≡ follows front p.names (onto_first b parts)
letter_parts p front b [] rest t some no_slash later = absurd some
letter_parts p front b (part ∷ parts) rest t some no_slash later = elim (leb_tells 32 b) [
  | inr low ↦
      let test : (nat_le 32 b && nat_lt p.len 255) ≡ false = ap (λ x. x && nat_lt p.len 255) low.0 in
      none test (no_low front b low.1 part)
  | inl high ↦ elim (leb_tells 255 p.len) [
    | inl long ↦
        let full : nat_lt p.len 255 ≡ false = let h = long.1 in grind (arith, nat_tests, h) in
        let test : (nat_le 32 b && nat_lt p.len 255) ≡ false = and_false_all (nat_le 32 b) (nat_lt p.len 255) full in
        none test (no_long front b (omega (arith, long.1, t.len_is)) part)
    | inr short ↦
        let room : nat_lt p.len 255 ≡ true = let h = short.1 in grind (arith, nat_tests, h) in
        let test : (nat_le 32 b && nat_lt p.len 255) ≡ true = rw (high.0, room) refl in
        ap (λ x. ends_path (cond x (option_map (behind_byte p b) (char_step p.begun b)) None) rest) test ∙ by_char high.1 short.1 (char_step p.begun b) refl
  ]
]
  where
    none : (nat_le 32 b && nat_lt p.len 255) ≡ false → is_name (front ++ b ∷ part) ≡ false → ends_path (behind_letter p b) rest ≡ follows front p.names (onto_first b (part ∷ parts))
    none test no_name =
        ap (λ x. ends_path (cond x (option_map (behind_byte p b) (char_step p.begun b)) None) rest) test
        ∙ sym (ap (λ x. x && (list_all is_name parts && nat_le (length parts) p.names)) no_name)

    by_char : 32 ≤ b → p.len < 255 → (found : Option Begun) → char_step p.begun b ≡ found → ends_path (option_map (behind_byte p b) found) rest ≡ follows front p.names (onto_first b (part ∷ parts))
    by_char high short None is = sym (ap (λ x. x && (list_all is_name parts && nat_le (length parts) p.names)) (no_char p front b t is part))
    by_char high short (Some begun) is =
        later (behind_byte p b begun) (front ++ b ∷ []) (tracks_on p front b begun t high no_slash short is)
        ∙ ap (λ xs. is_name xs && (list_all is_name parts && nat_le (length parts) p.names)) (append_assoc front (b ∷ []) part)

-- the bytes that go on to the end of a path are those whose parts are names
walk_is : (bytes : List ℕ) (p : PathPlace) (front : List ℕ) → Tracks p front → ends_path (Some p) bytes ≡ follows front p.names (slice_split is_slash bytes)
walk_is [] p front t =
    sym (named p front t) ∙ sym (ap is_name (append-nil front)) ∙ sym (and_true_right (is_name (front ++ []))) ∙ ap (λ t. is_name (front ++ []) && t) (sym (le_zero p.names))
walk_is (b ∷ bytes) p front t = by_test (b == 47) refl (walk_is bytes)
  where
    by_test : (test : Bool) → (b == 47) ≡ test → ((q : PathPlace) (longer : List ℕ) → Tracks q longer → ends_path (Some q) bytes ≡ follows longer q.names (slice_split is_slash bytes))
        → ends_path (cond test (behind_slash p) (behind_letter p b)) bytes ≡ follows front p.names (cond test ([] ∷ slice_split is_slash bytes) (onto_first b (slice_split is_slash bytes)))
    by_test true is later = slash_parts p front (slice_split is_slash bytes) bytes t (split_some bytes) (λ names. later (name_start names) [] (tracks_start names))
    by_test false is later = letter_parts p front b (slice_split is_slash bytes) bytes t (split_some bytes) is later

-- the names of a text that are at most so many behind the first
pub path_is : (names : ℕ) (bytes : List ℕ) → ends_path (Some (name_start names)) bytes ≡ follows [] names (slice_split is_slash bytes)
path_is names bytes = walk_is bytes (name_start names) [] (tracks_start names)

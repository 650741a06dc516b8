-- What a writer spells is read as it was, and the canonical reading takes nothing else.
use Rattle.std.proofs.Common.{◌≡◌, ℕ, ◌+◌, ◌*◌, ◌/◌, ◌%◌, ◌<◌, Bool, true, false, cond, Option, Some, None, List, [], ◌∷◌, ◌++◌, refl, sym, ap, ap₂, subst, ◌∙◌, arith, append_assoc, eqb-true}
use Rattle.std.specs.Prelude.{◌==◌}
use Rattle.std.proofs.lemmas.Bool.Decides.{nat_tests}
use Rattle.std.proofs.lemmas.List.{append-nil}
use Rattle.line_words.specs.declared.reading.Reading.{Reading}
use Rattle.line_words.specs.declared.reading.Reading.TheVariants.{Free, Canonical}
use Rattle.line_words.specs.Lines.{AreBytes}
use Rattle.line_words.specs.Spelling.{stands, onto, unescaped, escape_value, percent, is_plain, spelled, escaped, upper_digit, upper_value, digit_value, pair_value, unless_plain}
use Rattle.line_words.proofs.Unescaping.{stands_first, escape_first, behind_of}

-- ---- digits

upper_back : (d : ℕ) → d < 16 → upper_value (upper_digit d) ≡ Some d
upper_back d h = grind (arith, nat_tests)

digit_back : (d : ℕ) → d < 16 → digit_value (upper_digit d) ≡ Some d
digit_back d h = grind (arith, nat_tests)

upper_is : (c d : ℕ) → upper_value c ≡ Some d → (c ≡ upper_digit d) × (d < 16)
upper_is c d h = grind (arith, nat_tests)

plain_is_free : (b : ℕ) → is_plain b ≡ true → stands Free b ≡ true
plain_is_free b h = grind (arith, nat_tests)

plain_fits : (b : ℕ) → is_plain b ≡ true → b < 256
plain_fits b h = grind (arith, nat_tests)

plain_stands : (reading : Reading) (b : ℕ) → is_plain b ≡ true → stands reading b ≡ true
plain_stands Free b h = plain_is_free b h
plain_stands Canonical b h = h

-- ---- what is written is read

pair_back : (b : ℕ) → b < 256 → pair_value (Some (b / 16)) (Some (b % 16)) ≡ Some b
pair_back b h = let e : 16 * (b / 16) + b % 16 ≡ b = omega arith in ap Some e

escape_back : (reading : Reading) (b : ℕ) → b < 256 → is_plain b ≡ false → escape_value reading (upper_digit (b / 16)) (upper_digit (b % 16)) ≡ Some b
escape_back Free b h p =
    ap₂ pair_value (digit_back (b / 16) (omega arith)) (digit_back (b % 16) (omega arith)) ∙ pair_back b h
escape_back Canonical b h p =
    ap unless_plain (ap₂ pair_value (upper_back (b / 16) (omega arith)) (upper_back (b % 16) (omega arith)) ∙ pair_back b h)
    ∙ ap (λ t. cond t None (Some b)) p

pub read_spelled : (reading : Reading) (b : ℕ) (more : List ℕ) → b < 256 → unescaped reading (spelled b ++ more) ≡ onto (Some b) (unescaped reading more)
read_spelled reading b more h = by (is_plain b) refl
  where
    by : (t : Bool) → is_plain b ≡ t → unescaped reading (spelled b ++ more) ≡ onto (Some b) (unescaped reading more)
    by true e =
        ap (λ t. unescaped reading (cond t (b ∷ []) (percent ∷ upper_digit (b / 16) ∷ upper_digit (b % 16) ∷ []) ++ more)) e
        ∙ stands_first reading b more (plain_stands reading b e)
    by false e =
        ap (λ t. unescaped reading (cond t (b ∷ []) (percent ∷ upper_digit (b / 16) ∷ upper_digit (b % 16) ∷ []) ++ more)) e
        ∙ escape_first reading (upper_digit (b / 16)) (upper_digit (b % 16)) more
        ∙ ap (λ v. onto v (unescaped reading more)) (escape_back reading b h e)

onto_behind : (b : ℕ) (bs : List ℕ) (word : Option (List ℕ)) → onto (Some b) (behind_of bs word) ≡ behind_of (b ∷ bs) word
onto_behind b bs None = refl
onto_behind b bs (Some rest) = refl

behind_none : (word : Option (List ℕ)) → word ≡ behind_of [] word
behind_none None = refl
behind_none (Some rest) = refl

pub read_escaped : (reading : Reading) (word more : List ℕ) → AreBytes word → unescaped reading (escaped word ++ more) ≡ behind_of word (unescaped reading more)
read_escaped reading [] more h = behind_none (unescaped reading more)
read_escaped reading (b ∷ bs) more h =
    ap (unescaped reading) (append_assoc (spelled b) (escaped bs) more)
    ∙ read_spelled reading b (escaped bs ++ more) h.0
    ∙ ap (onto (Some b)) (read_escaped reading bs more h.1)
    ∙ onto_behind b bs (unescaped reading more)

pub read_back : (reading : Reading) (word : List ℕ) → AreBytes word → unescaped reading (escaped word) ≡ Some word
read_back reading word h =
    ap (unescaped reading) (sym (append-nil (escaped word))) ∙ read_escaped reading word [] h ∙ ap Some (append-nil word)

-- ---- the canonical reading takes nothing else

escape_is : (c d v : ℕ) → escape_value Canonical c d ≡ Some v → (percent ∷ c ∷ d ∷ [] ≡ spelled v) × (v < 256)
escape_is c d v h = by (upper_value c) (upper_value d) refl refl h
  where
    last : (high low : ℕ) (t : Bool) → c ≡ upper_digit high → d ≡ upper_digit low → high < 16 → low < 16
        → is_plain (16 * high + low) ≡ t → cond t None (Some (16 * high + low)) ≡ Some v → (percent ∷ c ∷ d ∷ [] ≡ spelled v) × (v < 256)
    last high low true p q i j e s = absurd (cc)
    last high low false p q i j e s =
        let is : 16 * high + low ≡ v = cc in
        let first : v / 16 ≡ high = omega arith in
        let second : v % 16 ≡ low = omega arith in
        let plain : is_plain v ≡ false = ap is_plain (sym is) ∙ e in (
          ap₂ (λ x y. percent ∷ x ∷ y ∷ []) (p ∙ ap upper_digit (sym first)) (q ∙ ap upper_digit (sym second))
              ∙ ap (λ t. cond t (v ∷ []) (percent ∷ upper_digit (v / 16) ∷ upper_digit (v % 16) ∷ [])) (sym plain),
          omega arith,
        )

    by : (x y : Option ℕ) → upper_value c ≡ x → upper_value d ≡ y → unless_plain (pair_value x y) ≡ Some v → (percent ∷ c ∷ d ∷ [] ≡ spelled v) × (v < 256)
    by None y p q s = absurd (cc)
    by (Some high) None p q s = absurd (cc)
    by (Some high) (Some low) p q s =
        let one = upper_is c high p in
        let two = upper_is d low q in
        last high low (is_plain (16 * high + low)) one.0 two.0 one.1 two.1 refl s

-- the bytes are a word as a writer spells it
abbrev pub Spells : List ℕ → List ℕ → Type 0
Spells text word = (text ≡ escaped word) × AreBytes word

step : (b : ℕ) (word : Option (List ℕ)) (front more w : List ℕ) → onto (Some b) word ≡ Some w → ((v : List ℕ) → word ≡ Some v → Spells more v)
    → front ≡ spelled b → b < 256 → Spells (front ++ more) w
step b None front more w h rest s f = absurd (cc)
step b (Some v) front more w h rest s f =
    let is : b ∷ v ≡ w = cc in
    let told = rest v refl in
    subst (Spells (front ++ more)) is (ap₂ (λ x y. x ++ y) s told.0, (f, told.1))

plain_is : (b : ℕ) → is_plain b ≡ true → b ∷ [] ≡ spelled b
plain_is b e = ap (λ t. cond t (b ∷ []) (percent ∷ upper_digit (b / 16) ∷ upper_digit (b % 16) ∷ [])) (sym e)

pub only_escaped : (text word : List ℕ) → unescaped Canonical text ≡ Some word → Spells text word
only_escaped [] word h = let is : [] ≡ word = cc in subst (Spells []) is (refl, tt)
only_escaped (b ∷ []) word h = by (is_plain b) refl h
  where
    by : (t : Bool) → is_plain b ≡ t → cond t (Some (b ∷ [])) None ≡ Some word → Spells (b ∷ []) word
    by true e s = step b (Some []) (b ∷ []) [] word s (λ v i. let is : [] ≡ v = cc in subst (Spells []) is (refl, tt)) (plain_is b e) (plain_fits b e)
    by false e s = absurd (cc)
only_escaped (b ∷ c ∷ []) word h = by (is_plain b) refl (only_escaped (c ∷ [])) h
  where
    by : (t : Bool) → is_plain b ≡ t → ((v : List ℕ) → unescaped Canonical (c ∷ []) ≡ Some v → Spells (c ∷ []) v)
        → cond t (onto (Some b) (unescaped Canonical (c ∷ []))) None ≡ Some word → Spells (b ∷ c ∷ []) word
    by true e rest s = step b (unescaped Canonical (c ∷ [])) (b ∷ []) (c ∷ []) word s rest (plain_is b e) (plain_fits b e)
    by false e rest s = absurd (cc)
only_escaped (b ∷ c ∷ d ∷ more) word h = by (is_plain b) (b == percent) refl refl (only_escaped (c ∷ d ∷ more)) (only_escaped more) h
  where
    escape : (v : Option ℕ) → escape_value Canonical c d ≡ v → b ≡ percent → ((w : List ℕ) → unescaped Canonical more ≡ Some w → Spells more w)
        → onto v (unescaped Canonical more) ≡ Some word → Spells (b ∷ c ∷ d ∷ more) word
    escape None e p rest s = absurd (cc)
    escape (Some v) e p rest s =
        let is = escape_is c d v e in
        step v (unescaped Canonical more) (b ∷ c ∷ d ∷ []) more word s rest (ap (λ x. x ∷ c ∷ d ∷ []) p ∙ is.0) is.1

    by : (t u : Bool) → is_plain b ≡ t → (b == percent) ≡ u → ((v : List ℕ) → unescaped Canonical (c ∷ d ∷ more) ≡ Some v → Spells (c ∷ d ∷ more) v)
        → ((w : List ℕ) → unescaped Canonical more ≡ Some w → Spells more w)
        → cond t (onto (Some b) (unescaped Canonical (c ∷ d ∷ more))) (cond u (onto (escape_value Canonical c d) (unescaped Canonical more)) None) ≡ Some word
        → Spells (b ∷ c ∷ d ∷ more) word
    by true u e p rest others s = step b (unescaped Canonical (c ∷ d ∷ more)) (b ∷ []) (c ∷ d ∷ more) word s rest (plain_is b e) (plain_fits b e)
    by false true e p rest others s = escape (escape_value Canonical c d) refl (eqb-true b percent p) others s
    by false false e p rest others s = absurd (cc)

-- What a spelling stands for, byte by byte.
use Rattle.std.proofs.Common.{◌≡◌, ℕ, ◌<◌, Bool, true, false, cond, ◌&&◌, Option, Some, None, List, [], ◌∷◌, ◌++◌, length, refl, sym, ap, ◌∙◌, arith, append_assoc}
use Rattle.std.specs.Prelude.{◌==◌}
use Rattle.std.specs.List.{list_all}
use Rattle.std.specs.Option.{option_map}
use Rattle.line_words.specs.declared.reading.Reading.{Reading}
use Rattle.line_words.specs.declared.reading.Reading.TheVariants.{Free, Canonical}
use Rattle.std.proofs.lemmas.List.{length-append}
use Rattle.line_words.specs.Spelling.{stands, onto, unescaped, escape_value, percent, word_of}
use Rattle.line_words.specs.Steps.{IsTooLong}

-- a byte that stands for itself is read first
pub stands_first : (reading : Reading) (b : ℕ) (bs : List ℕ) → stands reading b ≡ true → unescaped reading (b ∷ bs) ≡ onto (Some b) (unescaped reading bs)
stands_first reading b [] e = ap (λ t. cond t (Some (b ∷ [])) None) e
stands_first reading b (c ∷ []) e = ap (λ t. cond t (onto (Some b) (unescaped reading (c ∷ []))) None) e
stands_first reading b (c ∷ d ∷ rest) e =
    ap (λ t. cond t (onto (Some b) (unescaped reading (c ∷ d ∷ rest))) (cond (b == percent) (onto (escape_value reading c d) (unescaped reading rest)) None)) e

percent_stands : (reading : Reading) → stands reading percent ≡ false
percent_stands Free = refl
percent_stands Canonical = refl

-- an escape is read first
pub escape_first : (reading : Reading) (high low : ℕ) (rest : List ℕ) → unescaped reading (percent ∷ high ∷ low ∷ rest) ≡ onto (escape_value reading high low) (unescaped reading rest)
escape_first reading high low rest =
    ap (λ t. cond t (onto (Some percent) (unescaped reading (high ∷ low ∷ rest))) (onto (escape_value reading high low) (unescaped reading rest))) (percent_stands reading)

-- another byte is none that a spelling begins with
pub none_first : (reading : Reading) (b : ℕ) (bs : List ℕ) → stands reading b ≡ false → (b == percent) ≡ false → unescaped reading (b ∷ bs) ≡ None
none_first reading b [] e f = ap (λ t. cond t (Some (b ∷ [])) None) e
none_first reading b (c ∷ []) e f = ap (λ t. cond t (onto (Some b) (unescaped reading (c ∷ []))) None) e
none_first reading b (c ∷ d ∷ rest) e f =
    ap (λ t. cond t (onto (Some b) (unescaped reading (c ∷ d ∷ rest))) (cond (b == percent) (onto (escape_value reading c d) (unescaped reading rest)) None)) e
    ∙ ap (λ t. cond t (onto (escape_value reading c d) (unescaped reading rest)) None) f

-- an escape without two digits
pub none_short : (reading : Reading) (b : ℕ) (bs : List ℕ) → stands reading b ≡ false → length bs < 2 → unescaped reading (b ∷ bs) ≡ None
none_short reading b [] e l = ap (λ t. cond t (Some (b ∷ [])) None) e
none_short reading b (c ∷ []) e l = ap (λ t. cond t (onto (Some b) (unescaped reading (c ∷ []))) None) e
none_short reading b (c ∷ d ∷ rest) e l = absurd (omega arith)

-- the bytes read so far before the others
abbrev pub behind_of : List ℕ → Option (List ℕ) → Option (List ℕ)
behind_of bytes word = option_map (λ bs. bytes ++ bs) word

pub behind_of-push : (bytes : List ℕ) (b : ℕ) (word : Option (List ℕ)) → behind_of bytes (onto (Some b) word) ≡ behind_of (bytes ++ b ∷ []) word
behind_of-push bytes b None = refl
behind_of-push bytes b (Some bs) = ap Some (sym (append_assoc bytes (b ∷ []) bs))

pub behind_of-nothing : (word : Option (List ℕ)) → word ≡ behind_of [] word
behind_of-nothing None = refl
behind_of-nothing (Some bs) = refl

-- a byte more than a full buffer has
pub one_more : (most : ℕ) (bytes : List ℕ) (b : ℕ) (word : Option (List ℕ)) → length bytes ≡ most → IsTooLong most (behind_of bytes (onto (Some b) word))
one_more most bytes b None full = tt
one_more most bytes b (Some bs) full = let count = length-append bytes (b ∷ bs) in omega arith

both : (a b : Bool) → (a && b) ≡ true → (a ≡ true) × (b ≡ true)
both true b h = (refl, h)
both false b h = absurd (cc)

-- where each byte stands for itself, the word is the spelling
pub all_stand : (reading : Reading) (bs : List ℕ) → list_all (stands reading) bs ≡ true → unescaped reading bs ≡ Some bs
all_stand reading [] h = refl
all_stand reading (b ∷ bs) h =
    let parts = both (stands reading b) (list_all (stands reading) bs) h in
    stands_first reading b bs parts.0 ∙ ap (onto (Some b)) (all_stand reading bs parts.1)

pub all_stand_word : (reading : Reading) (bs : List ℕ) → (length bs == 0) ≡ false → list_all (stands reading) bs ≡ true → word_of reading bs ≡ Some bs
all_stand_word reading [] l h = absurd (cc)
all_stand_word reading (b ∷ bs) l h = all_stand reading (b ∷ bs) h

-- The pieces of a part's text: how they grow, and that a text has one reading.
use Rattle.std.proofs.Common.{◌≡◌, ◌≢◌, ℕ, ◌+◌, ◌≤◌, Bool, true, false, cond, not, ◌&&◌, eqb, List, [], ◌∷◌, ◌++◌, length, Option, Some, None, refl, sym, ap, subst, ◌∙◌, append_assoc, arith, length-append, inl, inr, IsTrue, true≢false}
use Rattle.std.proofs.lemmas.List.{append-nil, append_cancel_right}
use Rattle.std.proofs.lemmas.Bool.{false≢true, ne_eqb}
use Rattle.std.specs.Prelude.{unwrap_or}
use Rattle.std.proofs.lemmas.Str.{encodes-append, encodes-chars}
use Rattle.std.specs.Str.{chars, IsUtf8, encode_utf8_all}
use Rattle.ignore_glob.specs.declared.piece.Piece.{Piece}
use Rattle.ignore_glob.specs.declared.piece.Piece.TheVariants as pieces
use Rattle.ignore_glob.specs.Grammar.{is_plain, is_bracket, IsPiece, ArePieces, star, question_mark, backslash}
use Rattle.ignore_glob.specs.Faults.{Offends}

pub plain_from_other : (c : ℕ) → c ≢ 42 → c ≢ 63 → c ≢ 92 → c ≢ 123 → c ≢ 91 → IsTrue (is_plain c)
plain_from_other c a b d e f = rw (ne_eqb c 42 a, ne_eqb c 63 b, ne_eqb c 92 d, ne_eqb c 123 e, ne_eqb c 91 f) refl

-- one piece more
pub pieces-more : (before : List ℕ) (ps : List Piece) (front : List ℕ) (p : Piece) → ArePieces before ps → IsPiece front p → ArePieces (before ++ front) (ps ++ p ∷ [])
pieces-more before [] front p h one = (front, [], ap (λ (l : List ℕ). l ++ front) h ∙ sym (append-nil front), one, refl)
pieces-more before (q ∷ ps) front p h one =
    (h.0, h.1 ++ front, ap (λ (l : List ℕ). l ++ front) h.2 ∙ append_assoc h.0 h.1 front, h.3, pieces-more h.1 ps front p h.4 one)

-- how many bytes the characters in front of the rest have
pub bytes_before : (text rest before : List ℕ) → IsUtf8 text → IsUtf8 rest → chars text ≡ before ++ chars rest → length text ≡ length (encode_utf8_all before) + length rest
bytes_before text rest before whole end is =
    let same : text ≡ encode_utf8_all before ++ rest =
    sym (encodes-chars text whole) ∙ ap encode_utf8_all is ∙ encodes-append before (chars rest) ∙ ap (λ (l : List ℕ). encode_utf8_all before ++ l) (encodes-chars rest end) in
    ap length same ∙ length-append (encode_utf8_all before) rest

pub bytes_of_front : (text front back : List ℕ) → IsUtf8 text → chars text ≡ front ++ back → length (encode_utf8_all front) ≤ length text
bytes_of_front text front back whole is =
    let same : text ≡ encode_utf8_all front ++ encode_utf8_all back = sym (encodes-chars text whole) ∙ ap encode_utf8_all is ∙ encodes-append front back in
    omega (arith, ap length same, length-append (encode_utf8_all front) (encode_utf8_all back))

-- ---- what stands at the front decides the piece

-- a character that isn't a `\`
abbrev bare : ℕ → List ℕ → Option (Piece × List ℕ)
bare c rest = cond (is_bracket c) None (Some (cond (eqb c star) pieces.Run (cond (eqb c question_mark) pieces.One (pieces.Same c)), rest))

-- the piece at the front and what is behind it, if a piece stands there
abbrev next : List ℕ → Option (Piece × List ℕ)
next [] = None
next (c ∷ []) = cond (eqb c backslash) None (bare c [])
next (c ∷ d ∷ rest) = cond (eqb c backslash) (Some (pieces.Same d, rest)) (bare c (d ∷ rest))

next-bare : (c : ℕ) (back : List ℕ) → eqb c backslash ≡ false → next (c ∷ back) ≡ bare c back
next-bare c [] e = ap (λ b. cond b None (bare c [])) e
next-bare c (d ∷ rest) e = ap (λ b. cond b (Some (pieces.Same d, rest)) (bare c (d ∷ rest))) e

all_false : (a b c d : Bool) → (not a && not b && not c && not d) ≡ true → (a ≡ false) × (b ≡ false) × (c ≡ false) × (d ≡ false)
all_false true b c d h = absurd (false≢true h)
all_false false true c d h = absurd (false≢true h)
all_false false false true d h = absurd (false≢true h)
all_false false false false true h = absurd (false≢true h)
all_false false false false false h = (refl, refl, refl, refl)

next-plain : (c : ℕ) (back : List ℕ) → is_plain c ≡ true → next (c ∷ back) ≡ Some (pieces.Same c, back)
next-plain c back plain =
    let no = all_false (eqb c star) (eqb c question_mark) (eqb c backslash) (is_bracket c) plain in
    next-bare c back no.2 ∙ ap (λ b. cond b None (Some (cond (eqb c star) pieces.Run (cond (eqb c question_mark) pieces.One (pieces.Same c)), back))) no.3
    ∙ ap (λ b. Some (cond b pieces.Run (cond (eqb c question_mark) pieces.One (pieces.Same c)), back)) no.0
    ∙ ap (λ b. Some (cond b pieces.One (pieces.Same c), back)) no.1

next-piece : (front back : List ℕ) (p : Piece) → IsPiece front p → next (front ++ back) ≡ Some (p, back)
next-piece front back pieces.Run h = ap (λ (l : List ℕ). next (l ++ back)) h ∙ next-bare star back refl
next-piece front back pieces.One h = ap (λ (l : List ℕ). next (l ++ back)) h ∙ next-bare question_mark back refl
next-piece front back (pieces.Same c) (inl h) = ap (λ (l : List ℕ). next (l ++ back)) h.0 ∙ next-plain c back h.1
next-piece front back (pieces.Same c) (inr h) = ap (λ (l : List ℕ). next (l ++ back)) h

next-offence : (back : List ℕ) → Offends back → next back ≡ None
next-offence [] h = absurd h
next-offence (c ∷ rest) (inl h) =
    let other : eqb c backslash ≡ false = ne_eqb c backslash (λ e. true≢false (sym h ∙ ap is_bracket e)) in
    next-bare c rest other ∙ ap (λ b. cond b None (Some (cond (eqb c star) pieces.Run (cond (eqb c question_mark) pieces.One (pieces.Same c)), rest))) h
next-offence (c ∷ rest) (inr h) = ap (λ (l : List ℕ). next (c ∷ l)) h.1 ∙ ap (λ (n : ℕ). next (n ∷ [])) h.0

some_none : {X : Type 0} (x : X) → Some x ≡ None → ⊥
some_none x e = cc

pairs_same : (p q : Piece) (xs ys : List ℕ) → ◌≡◌ {A = Option (Piece × List ℕ)} (Some (p, xs)) (Some (q, ys)) → (p ≡ q) × (xs ≡ ys)
pairs_same p q xs ys e =
    (ap (λ (o : Option (Piece × List ℕ)). (unwrap_or o (p, xs)).0) e, ap (λ (o : Option (Piece × List ℕ)). (unwrap_or o (p, xs)).1) e)

-- Pieces at the front of one text, with no piece behind either: they are the same, and so is what is behind them.
same_pieces : (ps qs : List Piece) (xs ys a b : List ℕ) → ArePieces xs ps → ArePieces ys qs → xs ++ a ≡ ys ++ b → next a ≡ None → next b ≡ None → (ps ≡ qs) × (a ≡ b)
same_pieces [] [] xs ys a b h k e na nb = (refl, ap (λ (l : List ℕ). l ++ a) (sym h) ∙ e ∙ ap (λ (l : List ℕ). l ++ b) k)
same_pieces [] (q ∷ qs) xs ys a b h k e na nb =
    let is : a ≡ k.0 ++ (k.1 ++ b) = ap (λ (l : List ℕ). l ++ a) (sym h) ∙ e ∙ ap (λ (l : List ℕ). l ++ b) k.2 ∙ append_assoc k.0 k.1 b in
    absurd (some_none (q, k.1 ++ b) (sym (next-piece k.0 (k.1 ++ b) q k.3) ∙ ap next (sym is) ∙ na))
same_pieces (p ∷ ps) [] xs ys a b h k e na nb =
    let is : b ≡ h.0 ++ (h.1 ++ a) = ap (λ (l : List ℕ). l ++ b) (sym k) ∙ sym e ∙ ap (λ (l : List ℕ). l ++ a) h.2 ∙ append_assoc h.0 h.1 a in
    absurd (some_none (p, h.1 ++ a) (sym (next-piece h.0 (h.1 ++ a) p h.3) ∙ ap next (sym is) ∙ nb))
same_pieces (p ∷ ps) (q ∷ qs) xs ys a b h k e na nb =
    let is : h.0 ++ (h.1 ++ a) ≡ k.0 ++ (k.1 ++ b) =
    sym (append_assoc h.0 h.1 a) ∙ ap (λ (l : List ℕ). l ++ a) (sym h.2) ∙ e ∙ ap (λ (l : List ℕ). l ++ b) k.2 ∙ append_assoc k.0 k.1 b in
    let first = pairs_same p q (h.1 ++ a) (k.1 ++ b) (sym (next-piece h.0 (h.1 ++ a) p h.3) ∙ ap next is ∙ next-piece k.0 (k.1 ++ b) q k.3) in
    let rest = same_pieces ps qs h.1 k.1 a b h.4 k.4 first.1 na nb in
    (ap (λ (x : Piece). x ∷ ps) first.0 ∙ ap (λ (l : List Piece). q ∷ l) rest.0, rest.1)

-- a text has one list of pieces
pub one_list : (text : List ℕ) (ps qs : List Piece) → ArePieces text ps → ArePieces text qs → ps ≡ qs
one_list text ps qs h k = (same_pieces ps qs text text [] [] h k refl refl refl).0

-- what is all pieces has no offence behind some
pub no_offence : (text front back : List ℕ) (ps qs : List Piece) → ArePieces text ps → text ≡ front ++ back → ArePieces front qs → Offends back → ⊥
no_offence text front back ps qs h e k offence =
    let same = same_pieces ps qs text front [] back h k (append-nil text ∙ e) refl (next-offence back offence) in
    subst Offends (sym same.1) offence

-- of two offences behind whole pieces both are one
pub one_offence : (text front back front' back' : List ℕ) (ps qs : List Piece) → text ≡ front ++ back → ArePieces front ps → Offends back → text ≡ front' ++ back' → ArePieces front' qs → Offends back' → front ≡ front'
one_offence text front back front' back' ps qs e h o e' k o' =
    let both : front ++ back ≡ front' ++ back' = sym e ∙ e' in
    let same = same_pieces ps qs front front' back back' h k both (next-offence back o) (next-offence back' o') in
    append_cancel_right front front' back (both ∙ ap (λ (l : List ℕ). front' ++ l) (sym same.1))

-- The parts of a text: how they grow, that a text has one reading, and that its fault is the first.
use Rattle.std.proofs.Common.{◌≡◌, ℕ, ◌+◌, ◌<◌, ◌≤◌, List, [], ◌∷◌, ◌++◌, length, refl, sym, ap, subst, ◌∙◌, append_assoc, arith, length-append, inl, inr}
use Rattle.std.proofs.lemmas.List.Concat.{flat_map-append}
use denote.Ref.{Bor}
use Rattle.std.specs.Prelude.{Option, Some, None}
use Rattle.std.specs.Str.{chars, encode_utf8_all, IsUtf8}
use Rattle.ignore_glob.specs.declared.fault.Fault.{Fault}
use Rattle.ignore_glob.specs.declared.fault.Fault.TheVariants as faults
use Rattle.ignore_glob.specs.Reading.{IsFaultOf, PartsSoFar, CutsFirst}
use Rattle.ignore_glob.specs.declared.piece.Piece.TheVariants as pieces
use Rattle.ignore_glob.specs.declared.piece.Part.{Part}
use Rattle.ignore_glob.specs.declared.piece.Part.TheVariants as parts
use Rattle.ignore_glob.specs.declared.limits.TheConstants.{MAX_PARTS}
use Rattle.ignore_glob.specs.Grammar.{slash, star, two_stars, IsPart, AreParts, ArePieces, cut}
use Rattle.ignore_glob.specs.Faults.{IsPieceFault, IsTextFault, IsPartFault, IsMiddleFault, slashed}
use Rattle.ignore_glob.proofs.Matching.{tails_same, nil_or_cons}
use Rattle.ignore_glob.proofs.Pieces.{bytes_of_front, one_list, no_offence, one_offence}

-- one part more
pub parts-more : (before : List (List ℕ)) (ps : List Part) (text : List ℕ) (p : Part) → AreParts before ps → IsPart text p → AreParts (before ++ text ∷ []) (ps ++ p ∷ [])
parts-more [] [] text p h one = (one, tt)
parts-more [] (q ∷ ps) text p h one = absurd h
parts-more (t ∷ before) [] text p h one = absurd h
parts-more (t ∷ before) (q ∷ ps) text p h one = (h.0, parts-more before ps text p h.1 one)

pub length-parts : (texts : List (List ℕ)) (ps : List Part) → AreParts texts ps → length ps ≡ length texts
length-parts [] [] h = refl
length-parts [] (q ∷ ps) h = absurd h
length-parts (t ∷ texts) [] h = absurd h
length-parts (t ∷ texts) (q ∷ ps) h = let rest = length-parts texts ps h.1 in omega (arith, rest)

pub slashed-more : (before : List (List ℕ)) (text : List ℕ) → length (slashed (before ++ text ∷ [])) ≡ length (slashed before) + (length text + 1)
slashed-more before text =
    let all : slashed (before ++ text ∷ []) ≡ slashed before ++ ((text ++ slash ∷ []) ++ []) = flat_map-append (λ (t : List ℕ). t ++ slash ∷ []) before (text ∷ []) in
    omega (arith, ap length all, length-append (slashed before) ((text ++ slash ∷ []) ++ []), length-append (text ++ slash ∷ []) [], length-append text (slash ∷ []))

-- the texts in front have the parts in front
parts_front : (before rest : List (List ℕ)) (ps : List Part) → AreParts (before ++ rest) ps → (qs : List Part) × (rs : List Part) × (ps ≡ qs ++ rs) × AreParts before qs × AreParts rest rs
parts_front [] rest ps h = ([], ps, refl, tt, h)
parts_front (t ∷ before) rest [] h = absurd h
parts_front (t ∷ before) rest (q ∷ ps) h =
    let more = parts_front before rest ps h.1 in
    (q ∷ more.0, more.1, ap (λ (l : List Part). q ∷ l) more.2, (h.0, more.3), more.4)

one_part : (text : List ℕ) (p q : Part) → IsPart text p → IsPart text q → p ≡ q
one_part text parts.Span parts.Span h k = refl
one_part text parts.Span (parts.Glob qs) h k = absurd (k.0 h)
one_part text (parts.Glob ps) parts.Span h k = absurd (h.0 k)
one_part text (parts.Glob ps) (parts.Glob qs) h k = ap parts.Glob (one_list (chars text) ps qs h.2 k.2)

-- texts have one list of parts
pub same_parts : (texts : List (List ℕ)) (ps qs : List Part) → AreParts texts ps → AreParts texts qs → ps ≡ qs
same_parts [] [] [] h k = refl
same_parts [] [] (q ∷ qs) h k = absurd k
same_parts [] (p ∷ ps) qs h k = absurd h
same_parts (t ∷ texts) [] qs h k = absurd h
same_parts (t ∷ texts) (p ∷ ps) [] h k = absurd k
same_parts (t ∷ texts) (p ∷ ps) (q ∷ qs) h k =
    ap (λ (x : Part). x ∷ ps) (one_part t p q h.0 k.0) ∙ ap (λ (l : List Part). q ∷ l) (same_parts texts ps qs h.1 k.1)

stars_are_pieces : ArePieces (chars two_stars) (pieces.Run ∷ pieces.Run ∷ [])
unfolding chars
stars_are_pieces = (star ∷ [], star ∷ [], refl, refl, (star ∷ [], [], refl, refl, refl))

no_chars : chars [] ≡ []
unfolding chars
no_chars = refl

-- a text with a fault is no part
fault_is_no_part : (text : List ℕ) (place : ℕ) (p : Part) → IsTextFault text place → IsPart text p → ⊥
fault_is_no_part text place parts.Span (inl e) h = nil_or_cons star (star ∷ []) (sym e.0 ∙ h)
fault_is_no_part text place (parts.Glob ps) (inl e) h = h.1 e.0
fault_is_no_part text place parts.Span (inr f) h =
    no_offence (chars two_stars) f.front f.back (pieces.Run ∷ pieces.Run ∷ []) f.pieces stars_are_pieces (ap chars (sym h) ∙ f.text_is) f.whole f.offence
fault_is_no_part text place (parts.Glob ps) (inr f) h = no_offence (chars text) f.front f.back ps f.pieces h.2 f.text_is f.whole f.offence

empty_has_no_offence : (text : List ℕ) (place : ℕ) → text ≡ [] → IsPieceFault text place → ⊥
empty_has_no_offence text place e f = no_offence [] f.front f.back [] f.pieces refl (sym no_chars ∙ ap chars (sym e) ∙ f.text_is) f.whole f.offence

-- a text has one fault
same_text_fault : (text : List ℕ) (i j : ℕ) → IsTextFault text i → IsTextFault text j → i ≡ j
same_text_fault text i j (inl e) (inl f) = e.1 ∙ sym f.1
same_text_fault text i j (inl e) (inr f) = absurd (empty_has_no_offence text j e.0 f)
same_text_fault text i j (inr e) (inl f) = absurd (empty_has_no_offence text i f.0 e)
same_text_fault text i j (inr e) (inr f) =
    let front = one_offence (chars text) e.front e.back f.front f.back e.pieces f.pieces e.text_is e.whole e.offence f.text_is f.whole f.offence in
    e.place_is ∙ ap (λ (l : List ℕ). length (encode_utf8_all l)) front ∙ sym f.place_is

same_part_fault : (number : ℕ) (text : List ℕ) (i j : ℕ) → IsPartFault number text i → IsPartFault number text j → i ≡ j
same_part_fault number text i j (inl e) (inl f) = e.1 ∙ sym f.1
same_part_fault number text i j (inl e) (inr f) = absurd (omega (arith, e.0, f.0))
same_part_fault number text i j (inr e) (inl f) = absurd (omega (arith, e.0, f.0))
same_part_fault number text i j (inr e) (inr f) = same_text_fault text i j e.1 f.1

-- a part before another can't be at fault
earlier_fault : (number later : ℕ) (text next : List ℕ) (i j : ℕ) (p : Part) → number < later → IsPartFault number text i → IsPartFault later next j → IsPart text p → ⊥
earlier_fault number later text next i j p less (inl e) (inl f) h = omega (arith, e.0, f.0, less)
earlier_fault number later text next i j p less (inl e) (inr f) h = omega (arith, e.0, f.0, less)
earlier_fault number later text next i j p less (inr e) f h = fault_is_no_part text i p e.1 h

-- of two faults behind whole parts both are one
same_faults : (number m n : ℕ) (xs ys : List (List ℕ)) (ps qs : List Part) (x y : List ℕ) (as' bs : List (List ℕ)) (i j : ℕ) → m ≡ number + length xs → n ≡ number + length ys
    → xs ++ x ∷ as' ≡ ys ++ y ∷ bs → AreParts xs ps → AreParts ys qs → IsPartFault m x i → IsPartFault n y j → (xs ≡ ys) × (i ≡ j)
same_faults number m n [] [] ps qs x y as' bs i j em en e h k f g =
    let same : m ≡ n = omega (arith, em, en) in
    let text : x ≡ y = (tails_same x y as' bs e).0 in
    (refl, same_part_fault n y i j (subst (λ (t : List ℕ). IsPartFault n t i) text (subst (λ (c : ℕ). IsPartFault c x i) same f)) g)
same_faults number m n [] (t ∷ ys) ps [] x y as' bs i j em en e h k f g = absurd k
same_faults number m n [] (t ∷ ys) ps (q ∷ qs) x y as' bs i j em en e h k f g =
    let text : x ≡ t = (tails_same x t as' (ys ++ y ∷ bs) e).0 in
    absurd (earlier_fault m n t y i j q (omega (arith, em, en)) (subst (λ (l : List ℕ). IsPartFault m l i) text f) g k.0)
same_faults number m n (t ∷ xs) [] [] qs x y as' bs i j em en e h k f g = absurd h
same_faults number m n (t ∷ xs) [] (p ∷ ps) qs x y as' bs i j em en e h k f g =
    let text : t ≡ y = (tails_same t y (xs ++ x ∷ as') bs e).0 in
    absurd (earlier_fault n m t x j i p (omega (arith, em, en)) (subst (λ (l : List ℕ). IsPartFault n l j) (sym text) g) f h.0)
same_faults number m n (t ∷ xs) (u ∷ ys) [] qs x y as' bs i j em en e h k f g = absurd h
same_faults number m n (t ∷ xs) (u ∷ ys) (p ∷ ps) [] x y as' bs i j em en e h k f g = absurd k
same_faults number m n (t ∷ xs) (u ∷ ys) (p ∷ ps) (q ∷ qs) x y as' bs i j em en e h k f g =
    let both = tails_same t u (xs ++ x ∷ as') (ys ++ y ∷ bs) e in
    let rest = same_faults (number + 1) m n xs ys ps qs x y as' bs i j (omega (arith, em)) (omega (arith, en)) both.1 h.1 k.1 f g in
    (ap (λ (l : List ℕ). l ∷ xs) both.0 ∙ ap (λ (l : List (List ℕ)). u ∷ l) rest.0, rest.1)

pub same_middle_fault : (text : List ℕ) (i j : ℕ) → IsMiddleFault text i → IsMiddleFault text j → i ≡ j
same_middle_fault text i j e f =
    let same = same_faults 0 (length e.before) (length f.before) e.before f.before e.parts f.parts e.wrong f.wrong e.after f.after e.offset f.offset (omega arith) (omega arith) (sym e.cut_is ∙ f.cut_is) e.whole f.whole e.fault f.fault in
    e.place_is ∙ ap (λ (l : List (List ℕ)). length (slashed l) + e.offset) same.0 ∙ ap (λ (n : ℕ). length (slashed f.before) + n) same.1 ∙ sym f.place_is

part_fault_is_no_part : (number : ℕ) (text : List ℕ) (place : ℕ) (p : Part) (after : ℕ) → IsPartFault number text place → IsPart text p → number + (1 + after) ≤ MAX_PARTS → ⊥
part_fault_is_no_part number text place p after (inl e) h le = omega (arith, e.0, le)
part_fault_is_no_part number text place p after (inr e) h le = fault_is_no_part text place p e.1 h

some_rest : (number : ℕ) (wrong : List ℕ) (after : List (List ℕ)) (rs : List Part) (place : ℕ) → IsPartFault number wrong place → AreParts (wrong ∷ after) rs → number + length rs ≤ MAX_PARTS → ⊥
some_rest number wrong after [] place f h le = absurd h
some_rest number wrong after (r ∷ rs) place f h le = part_fault_is_no_part number wrong place r (length rs) f h.0 (omega arith)

-- what is all parts has no fault
pub no_middle_fault : (text : List ℕ) (ps : List Part) (place : ℕ) → AreParts (cut text) ps → length ps ≤ MAX_PARTS → IsMiddleFault text place → ⊥
no_middle_fault text ps place h le f =
    let split = parts_front f.before (f.wrong ∷ f.after) ps (subst (λ (l : List (List ℕ)). AreParts l ps) f.cut_is h) in
    some_rest (length f.before) f.wrong f.after split.1 f.offset f.fault split.4
    (omega (arith, length-parts f.before split.0 split.3, ap length split.2, length-append split.0 split.1, le))

-- there is always a first text
pub first_text : (text first : List ℕ) (more : Option (Bor (List ℕ))) → CutsFirst text first more → (after : List (List ℕ)) × (cut text ≡ first ∷ after)
first_text text first None h = ([], h.0)
first_text text first (Some behind) h = (cut behind.now, h.0)

-- a fault of pieces is one of the text, and lies within it
pub fault_within : (text : List ℕ) (fault : Fault) → IsUtf8 text → IsFaultOf (IsPieceFault text) fault → IsFaultOf (λ place. IsTextFault text place × (place ≤ length text)) fault
fault_within text (faults.At place) whole f = let le = bytes_of_front text f.front f.back whole f.text_is in (inr f, omega (arith, le, f.place_is))
fault_within text faults.Memory whole f = tt

-- the text is too long, or the next text is no part
pub one_too_many : (text left : List ℕ) (ps : List Part) (first : List ℕ) (after : List (List ℕ)) (place : ℕ) → PartsSoFar text left ps → cut left ≡ first ∷ after → length ps ≡ MAX_PARTS → place + length left ≡ length text → IsMiddleFault text place
one_too_many text left ps first after place so cuts full at = record {
  before = so.before;
  wrong = first;
  after = after;
  cut_is = so.cut_is ∙ ap (λ (l : List (List ℕ)). so.before ++ l) cuts;
  parts = ps;
  whole = so.whole;
  offset = 0;
  fault = inl (sym (length-parts so.before ps so.whole) ∙ full, refl);
  place_is = omega (arith, so.bytes, at);
}

pub next_is_wrong : (text left : List ℕ) (ps : List Part) (first : List ℕ) (after : List (List ℕ)) (place offset : ℕ) → PartsSoFar text left ps → cut left ≡ first ∷ after → length ps < MAX_PARTS → place + length left ≡ length text → IsTextFault first offset → IsMiddleFault text (place + offset)
next_is_wrong text left ps first after place offset so cuts room at fault = record {
  before = so.before;
  wrong = first;
  after = after;
  cut_is = so.cut_is ∙ ap (λ (l : List (List ℕ)). so.before ++ l) cuts;
  parts = ps;
  whole = so.whole;
  offset = offset;
  fault = inr (omega (arith, length-parts so.before ps so.whole, room), fault);
  place_is = omega (arith, so.bytes, at);
}

pub next_is_part : (text left : List ℕ) (ps : List Part) (first behind : List ℕ) (p : Part) → PartsSoFar text left ps → cut left ≡ first ∷ cut behind → left ≡ first ++ slash ∷ behind → length ps < MAX_PARTS → IsPart first p → PartsSoFar text behind (ps ++ p ∷ [])
next_is_part text left ps first behind p so cuts is room part = record {
  before = so.before ++ first ∷ [];
  cut_is = so.cut_is ∙ ap (λ (l : List (List ℕ)). so.before ++ l) cuts ∙ sym (append_assoc so.before (first ∷ []) (cut behind));
  whole = parts-more so.before ps first p so.whole part;
  bytes = omega (arith, so.bytes, slashed-more so.before first, ap length is, length-append first (slash ∷ behind));
  few = omega (arith, length-append ps (p ∷ []), room);
}

pub last_is_part : (text left : List ℕ) (ps : List Part) (first : List ℕ) (p : Part) → PartsSoFar text left ps → cut left ≡ first ∷ [] → length ps < MAX_PARTS → IsPart first p → AreParts (cut text) (ps ++ p ∷ []) × (length (ps ++ p ∷ []) ≤ MAX_PARTS)
last_is_part text left ps first p so cuts room part = (
  subst (λ (l : List (List ℕ)). AreParts l (ps ++ p ∷ [])) (sym (so.cut_is ∙ ap (λ (l : List (List ℕ)). so.before ++ l) cuts)) (parts-more so.before ps first p so.whole part),
  omega (arith, length-append ps (p ∷ []), room),
)

pub first_within : (text first : List ℕ) (more : Option (Bor (List ℕ))) → CutsFirst text first more → length first ≤ length text
first_within text first None h = omega (arith, ap length h.1)
first_within text first (Some behind) h = omega (arith, ap length h.1, length-append first (slash ∷ behind.now))

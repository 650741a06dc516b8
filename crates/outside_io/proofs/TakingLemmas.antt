-- What becomes of what is still to be read. Here `a` is all of it as it was, told or not; of it `held` is held, and `b` is
-- what the source had left; later the source has `c` left.
use Rattle.std.proofs.Common.{◌≡◌, ◌≢◌, ℕ, ◌+◌, ◌<◌, List, [], ◌∷◌, ◌++◌, Option, Some, None, MatchOption, IfSome, length, take, drop, get_or, inl, inr, refl, ap, sym, subst, ◌∙◌, append_assoc, arith}
use Rattle.std.proofs.lemmas.List.{append-nil, length-append, drop_at}
use Rattle.std.proofs.lemmas.List.Elements.{All-append, All-drop}
use Rattle.std.specs.Io.KnownBytes.{Consumes, Keeps, IsAtEnd, prepend_known}
use Rattle.std.specs.Str.Lines.{lines, strip_carriage_return}
use Rattle.outside_io.specs.declared.line.Line.{Line}
use Rattle.outside_io.specs.declared.line.Line.TheVariants.{TooLong}
use Rattle.outside_io.specs.Lines.{HasNoNewline, IsLine, TakesFirst, TakesNoLine}
use Rattle.outside_io.specs.Taking.{CountsTaken, SkipsLine}
use Rattle.finite_maps.specs.Told.{WhereTold}
use Rattle.outside_io.proofs.LinesLemmas.{lines-newline, lines-last, at_newline, length-strip_carriage_return}
use Rattle.outside_io.specs.declared.limits.TheConstants.{MOST_KEPT}

-- what was taken behind what was held
pub Consumes-held : (a b c : Option (List ℕ)) (held part : List ℕ) → Keeps a (prepend_known held b) → Consumes b c part → Consumes a c (held ++ part)
Consumes-held None b c held part k h = tt
Consumes-held (Some x) None c held part k h = absurd k
Consumes-held (Some x) (Some y) None held part k h = absurd h
Consumes-held (Some x) (Some y) (Some z) held part k h = sym k ∙ ap (λ l. held ++ l) h ∙ sym (append_assoc held part z)

pub TakesNoLine-held : (a b c : Option (List ℕ)) (held : List ℕ) → Keeps a (prepend_known held b) → HasNoNewline held → TakesNoLine b c → TakesNoLine a c
TakesNoLine-held a b c held k none more =
    (held ++ more.0, All-append (λ (b : ℕ). b ≢ 10) held more.0 none more.1, Consumes-held a b c held more.0 k more.2)

-- a line that a newline ended
ended_line : (Met : Type 0) (old raw rest : List ℕ) (answer : Line) → old ≡ raw ++ 10 ∷ rest → HasNoNewline raw → IsLine (strip_carriage_return raw) answer → TakesFirst Met old rest answer
ended_line Met old raw rest answer is none ok = record {
  bytes = strip_carriage_return raw;
  first = ap lines is ∙ lines-newline raw rest none;
  answered = ok;
  taken = raw ++ 10 ∷ [];
  cut = is ∙ sym (append_assoc raw (10 ∷ []) rest);
  ended = inl (raw, refl);
}

-- a last line
last_line : {Met : Type 0} (old rest : List ℕ) (answer : Line) → HasNoNewline old → 0 < length old → rest ≡ [] → IsLine old answer → Met → TakesFirst Met old rest answer
last_line old rest answer none some end ok met = record {
  bytes = old;
  first = lines-last old none some ∙ ap (λ l. old ∷ lines l) (sym end);
  answered = ok;
  taken = old;
  cut = sym (ap (λ l. old ++ l) end ∙ append-nil old);
  ended = inr (end, met);
}

-- the line that ends at a newline that is held
pub TakesFirst-newline : (Met : Type 0) (a b : Option (List ℕ)) (line held now : List ℕ) (place : ℕ) (answer : Line) → HasNoNewline line → place < length held → HasNoNewline (take place held) → get_or held place 0 ≡ 10
    → IsLine (strip_carriage_return (line ++ take place held)) answer → now ≡ drop (place + 1) held → Keeps a (prepend_known (line ++ held) b) → WhereTold a (prepend_known now b) (λ old new. TakesFirst Met old new answer)
TakesFirst-newline Met None b line held now place answer begun within none is ok e k = tt
TakesFirst-newline Met (Some x) None line held now place answer begun within none is ok e k = absurd k
TakesFirst-newline Met (Some x) (Some y) line held now place answer begun within none is ok e k =
    let front = take place held in
    let rest = drop (place + 1) held in
    let shape : (line ++ (front ++ 10 ∷ rest)) ++ y ≡ (line ++ front) ++ 10 ∷ (rest ++ y) = simp append_assoc in
    let split : x ≡ (line ++ front) ++ 10 ∷ (rest ++ y) = sym k ∙ ap (λ l. (line ++ l) ++ y) (at_newline held place within is) ∙ shape in
    ended_line Met x (line ++ front) (now ++ y) answer (split ∙ ap (λ l. (line ++ front) ++ 10 ∷ (l ++ y)) (sym e)) (All-append (λ (b : ℕ). b ≢ 10) line front begun none) ok

skipped : (Met : Type 0) (x y z held now : List ℕ) → HasNoNewline held → MOST_KEPT < length held → held ++ y ≡ x → SkipsLine Met (Some y) now (Some z) → TakesFirst Met x (now ++ z) TooLong
skipped Met x y z held now none long k (front, clear, inl e) =
    let raw = held ++ front in
    let shape : held ++ ((front ++ 10 ∷ []) ++ (now ++ z)) ≡ (held ++ front) ++ 10 ∷ (now ++ z) = simp append_assoc in
    ended_line Met x raw (now ++ z) TooLong (sym k ∙ ap (λ l. held ++ l) e ∙ shape) (All-append (λ (b : ℕ). b ≢ 10) held front none clear) (omega (arith, length-append held front, length-strip_carriage_return raw))
skipped Met x y z held now none long k (front, clear, inr (e, end, nothing, met)) =
    let is : x ≡ held ++ front = sym k ∙ ap (λ l. held ++ l) (e ∙ ap (λ l. front ++ l) end ∙ append-nil front) in
    let unbroken : HasNoNewline x = subst HasNoNewline (sym is) (All-append (λ (b : ℕ). b ≢ 10) held front none clear) in
    let len = ap length is in
    last_line x (now ++ z) TooLong unbroken (omega (arith, length-append held front, len)) (ap (λ l. l ++ z) nothing ∙ end) (omega (arith, length-append held front, len)) met

-- a line of which more was held than a line may have
pub TakesFirst-skipped : (Met : Type 0) (a b c : Option (List ℕ)) (held after now : List ℕ) → HasNoNewline held → MOST_KEPT < length held → Keeps a (prepend_known held b) → SkipsLine Met b after c → now ≡ after
    → WhereTold a (prepend_known now c) (λ old new. TakesFirst Met old new TooLong)
TakesFirst-skipped Met None b c held after now none long k skip e = tt
TakesFirst-skipped Met (Some x) None c held after now none long k skip e = absurd k
TakesFirst-skipped Met (Some x) (Some y) None held after now none long k (front, clear, inl h) e = absurd h
TakesFirst-skipped Met (Some x) (Some y) None held after now none long k (front, clear, inr h) e = absurd h.0
TakesFirst-skipped Met (Some x) (Some y) (Some z) held after now none long k skip e =
    subst (λ (l : List ℕ). TakesFirst Met x (l ++ z) TooLong) (sym e) (skipped Met x y z held after none long k skip)

-- the last line, at the end
pub TakesFirst-last : (Met : Type 0) (a b c : Option (List ℕ)) (held given now : List ℕ) (answer : Line) → HasNoNewline held → 0 < length held → IsLine held answer → Keeps a (prepend_known held b) → Consumes b c given → given ≡ [] → IsAtEnd c → now ≡ [] → Met
    → WhereTold a (prepend_known now c) (λ old new. TakesFirst Met old new answer)
TakesFirst-last Met None b c held given now answer none some ok k h nothing end e met = tt
TakesFirst-last Met (Some x) None c held given now answer none some ok k h nothing end e met = absurd k
TakesFirst-last Met (Some x) (Some y) None held given now answer none some ok k h nothing end e met = absurd h
TakesFirst-last Met (Some x) (Some y) (Some z) held given now answer none some ok k h nothing end e met =
    let is : x ≡ held = sym k ∙ ap (λ l. held ++ l) (h ∙ ap (λ l. l ++ z) nothing ∙ end) ∙ append-nil held in
    subst (λ (old : List ℕ). TakesFirst Met old (now ++ z) answer) (sym is) (last_line held (now ++ z) answer none some (ap (λ l. l ++ z) e ∙ end) ok met)

-- what follows from what is known of the value in a `Some`
pub IfSome-from_match : {X : Type 0} (P : Type 0) (Q R : X → Type 0) (r : Option X) → MatchOption r P Q → ((x : X) → Q x → R x) → IfSome r R
IfSome-from_match P Q R None h f = tt
IfSome-from_match P Q R (Some x) h f = f x h

-- what was counted in two steps is counted in one
pub CountsTaken-trans : (a b c : Option (List ℕ)) (first mid last : ℕ) → CountsTaken a first b mid → CountsTaken b mid c last → CountsTaken a first c last
CountsTaken-trans None b c first mid last h k = tt
CountsTaken-trans (Some x) None c first mid last h k = absurd h
CountsTaken-trans (Some x) (Some y) None first mid last h k = absurd k
CountsTaken-trans (Some x) (Some y) (Some z) first mid last h k = h ∙ k

-- what is held is taken off before what the source has left
pub Consumes-prepended : (held : List ℕ) (b : Option (List ℕ)) → Consumes (prepend_known held b) b held
Consumes-prepended held None = tt
Consumes-prepended held (Some y) = refl

-- where there is no newline, there is none in the part behind
pub HasNoNewline-behind : (line held : List ℕ) → HasNoNewline (line ++ held) → HasNoNewline held
HasNoNewline-behind line held none = subst HasNoNewline (drop_at line held (length line) refl) (All-drop (λ (b : ℕ). b ≢ 10) (length line) (line ++ held) none)

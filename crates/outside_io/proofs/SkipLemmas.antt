-- How a line is passed over.
use Rattle.std.proofs.Common.{◌≡◌, ◌≢◌, ℕ, ◌+◌, ◌<◌, List, [], ◌∷◌, ◌++◌, Option, Some, None, length, take, drop, get_or, inl, inr, ap, sym, subst, ◌∙◌, append_assoc}
use Rattle.std.proofs.lemmas.List.{append-nil}
use Rattle.std.proofs.lemmas.List.Elements.{All-append, All-nil}
use Rattle.std.specs.Io.KnownBytes.{Consumes, Keeps, IsAtEnd, prepend_known}
use Rattle.std.proofs.KnownBytes.{Consumes-nil, Consumes-trans, Consumes-kept}
use Rattle.outside_io.specs.Lines.{HasNoNewline, TakesNoLine}
use Rattle.outside_io.specs.Taking.{SkipsLine}
use Rattle.outside_io.proofs.LinesLemmas.{at_newline}

-- of what a source gave, only a front was used
pub Consumes-front : (a b : Option (List ℕ)) (front rest all : List ℕ) → all ≡ front ++ rest → Consumes a b all → Consumes a (prepend_known rest b) front
Consumes-front None b front rest all e h = tt
Consumes-front (Some x) None front rest all e h = absurd h
Consumes-front (Some x) (Some y) front rest all e h = h ∙ ap (λ l. l ++ y) e ∙ append_assoc front rest y

-- nothing was taken yet
pub TakesNoLine-none : (a : Option (List ℕ)) → TakesNoLine a a
TakesNoLine-none a = ([], All-nil (λ (b : ℕ). b ≢ 10), Consumes-nil a)

-- bytes without a newline went by, and then others
pub TakesNoLine-more : (a b c : Option (List ℕ)) (bytes : List ℕ) → TakesNoLine a b → HasNoNewline bytes → Consumes b c bytes → TakesNoLine a c
TakesNoLine-more a b c bytes before none h = (before.0 ++ bytes, All-append (λ (b : ℕ). b ≢ 10) before.0 bytes before.1 none, Consumes-trans a b c before.0 bytes before.2 h)

pub TakesNoLine-kept : (a b c : Option (List ℕ)) → TakesNoLine a b → Keeps b c → TakesNoLine a c
TakesNoLine-kept a b c before k = (before.0, before.1, Consumes-kept a b c before.0 before.2 k)

-- the end came
pub SkipsLine-end : {Met : Type 0} (a b c : Option (List ℕ)) (bytes : List ℕ) → TakesNoLine a b → Consumes b c bytes → IsAtEnd c → bytes ≡ [] → Met → SkipsLine Met a bytes c
SkipsLine-end a b c bytes before h end none met =
    (before.0, before.1, inr (subst (Consumes a c) (ap (λ l. before.0 ++ l) none ∙ append-nil before.0) (Consumes-trans a b c before.0 bytes before.2 h), end, none, met))

-- a newline came
pub SkipsLine-newline : (Met : Type 0) (a b c : Option (List ℕ)) (bytes : List ℕ) (place : ℕ) → TakesNoLine a b → Consumes b c bytes → place < length bytes → HasNoNewline (take place bytes) → get_or bytes place 0 ≡ 10
    → SkipsLine Met a (drop (place + 1) bytes) c
SkipsLine-newline Met a b c bytes place before h within none is =
    let front = take place bytes ++ 10 ∷ [] in
    let rest = drop (place + 1) bytes in
    let split : bytes ≡ front ++ rest = at_newline bytes place within is ∙ sym (append_assoc (take place bytes) (10 ∷ []) rest) in (
      before.0 ++ take place bytes,
      All-append (λ (b : ℕ). b ≢ 10) before.0 (take place bytes) before.1 none,
      inl (subst (Consumes a (prepend_known rest c)) (sym (append_assoc before.0 (take place bytes) (10 ∷ []))) (Consumes-trans a b (prepend_known rest c) before.0 front before.2 (Consumes-front b c front rest bytes split h))),
    )

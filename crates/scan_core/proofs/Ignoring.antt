-- The test of what rules ignore is right.
use Rattle.std.proofs.Common.{◌≡◌, ◌≢◌, ◌⊎◌, inl, inr, ℕ, Bool, true, false, not, cond, ◌&&◌, ◌||◌, List, [], ◌∷◌, ◌++◌, IsTrue, refl, sym, ap, ◌∙◌, Option, Some, None, arith}
use Rattle.std.specs.Prelude.{◌↔◌, IsSomeAnd}
use Rattle.std.specs.Bool.{MatchBool}
use Rattle.std.specs.List.{AllByRecursion}
use Rattle.std.specs.Str.{chars}
use Rattle.sync_path.specs.Path.{last_name}
use Rattle.ignore_glob.specs.Grammar.{Meaning}
use Rattle.ignore_glob.specs.Matching.{Matches, MatchesParts, MatchesPieces, FitsChar, FitsName, Covers, IsMatch, is_run, is_span}
use Rattle.ignore_glob.specs.declared.piece.Piece.{Piece}
use Rattle.ignore_glob.specs.declared.piece.Piece.TheVariants as pieces
use Rattle.ignore_glob.specs.declared.piece.Part.{Part}
use Rattle.ignore_glob.specs.declared.piece.Part.TheVariants as parts
use Rattle.ignore_rules.specs.Rules.{Ignores, IsLastMatch}
use Rattle.scan_core.specs.Ignoring.{is_nil, some_end, first_fits, matches, fits_char, fits_name, matches_parts, matches_name, covers, is_match, or_else, verdict, says_so, ignores}

both : (a b : Bool) → (a && b) ≡ true → (a ≡ true) × (b ≡ true)
both true b h = (refl, h)
both false b h = absurd (cc)

either : (a b : Bool) → (a || b) ≡ true → (a ≡ true) ⊎ (b ≡ true)
either true b h = inl refl
either false b h = inr h

left_true : (a b : Bool) → a ≡ true → (a || b) ≡ true
left_true true b h = refl
left_true false b h = absurd (cc)

right_true : (a b : Bool) → b ≡ true → (a || b) ≡ true
right_true true b h = refl
right_true false b h = h

and_true : (a b : Bool) → a ≡ true → b ≡ true → (a && b) ≡ true
and_true true b h k = k
and_true false b h k = absurd (cc)

-- an end of a list, and what is before it
record Ends {X : Type 0} (test : List X → Bool) (xs : List X) : Type 0 where
  pub front : List X
  pub back : List X
  pub is : xs ≡ front ++ back
  pub passes : test back ≡ true

-- a first item that fits, and what is behind it
record Begins {X : Type 0} (fits : X → Bool) (test : List X → Bool) (xs : List X) : Type 0 where
  pub first : X
  pub rest : List X
  pub is : xs ≡ first ∷ rest
  pub fit : fits first ≡ true
  pub passes : test rest ≡ true

module _ {X : Type 0} where
  pub nil_is : (xs : List X) → is_nil xs ≡ true → xs ≡ []
  nil_is [] h = refl
  nil_is (x ∷ xs) h = absurd (cc)

  pub is_nil-nil : (xs : List X) → xs ≡ [] → is_nil xs ≡ true
  is_nil-nil xs e = ap is_nil e

  end_sound : (test : List X → Bool) (xs : List X) → some_end test xs ≡ true → Ends test xs
  end_sound test [] h = record { front = []; back = []; is = refl; passes = h }
  end_sound test (x ∷ xs) h = elim (either (test (x ∷ xs)) (some_end test xs) h) [
    | inl here ↦ record { front = []; back = x ∷ xs; is = refl; passes = here }
    | inr later ↦ let e = end_sound test xs later in record { front = x ∷ e.front; back = e.back; is = ap (λ (l : List X). x ∷ l) e.is; passes = e.passes }
  ]

  end_there : (test : List X → Bool) (front back : List X) → test back ≡ true → some_end test (front ++ back) ≡ true
  end_there test [] [] h = h
  end_there test [] (x ∷ xs) h = left_true (test (x ∷ xs)) (some_end test xs) h
  end_there test (x ∷ front) back h = right_true (test (x ∷ (front ++ back))) (some_end test (front ++ back)) (end_there test front back h)

  first_sound : (fits : X → Bool) (test : List X → Bool) (xs : List X) → first_fits fits test xs ≡ true → Begins fits test xs
  first_sound fits test [] h = absurd (cc)
  first_sound fits test (x ∷ xs) h = let parts = both (fits x) (test xs) h in record { first = x; rest = xs; is = refl; fit = parts.0; passes = parts.1 }

module _ {X P : Type 0} (run : P → Bool) (fits : P → X → Bool) (Fits : P → X → Type 0) (sound : (p : P) (x : X) → fits p x ≡ true → Fits p x) (complete : (p : P) (x : X) → Fits p x → fits p x ≡ true) where
  pub matches_sound : (ps : List P) (xs : List X) → matches run fits ps xs ≡ true → Matches run Fits xs ps
  matches_sound [] xs h = nil_is xs h
  matches_sound (p ∷ ps) xs h =
      let smaller = matches_sound ps in
      elim (run p) as (λ b. cond b (some_end (matches run fits ps) xs) (first_fits (fits p) (matches run fits ps) xs) ≡ true
      → MatchBool b ((front : List X) × (back : List X) × (xs ≡ front ++ back) × Matches run Fits back ps) ((first : X) × (rest : List X) × (xs ≡ first ∷ rest) × Fits p first × Matches run Fits rest ps)) [
        | true ↦ λ e. let f = end_sound (matches run fits ps) xs e in (f.front, f.back, f.is, smaller f.back f.passes)
        | false ↦ λ e. let f = first_sound (fits p) (matches run fits ps) xs e in (f.first, f.rest, f.is, sound p f.first f.fit, smaller f.rest f.passes)
      ] h

  pub matches_complete : (ps : List P) (xs : List X) → Matches run Fits xs ps → matches run fits ps xs ≡ true
  matches_complete [] xs h = is_nil-nil xs h
  matches_complete (p ∷ ps) xs h =
      let smaller = matches_complete ps in
      elim (run p) as (λ b. MatchBool b ((front : List X) × (back : List X) × (xs ≡ front ++ back) × Matches run Fits back ps) ((first : X) × (rest : List X) × (xs ≡ first ∷ rest) × Fits p first × Matches run Fits rest ps)
      → cond b (some_end (matches run fits ps) xs) (first_fits (fits p) (matches run fits ps) xs) ≡ true) [
        | true ↦ λ e. ap (some_end (matches run fits ps)) e.2 ∙ end_there (matches run fits ps) e.0 e.1 (smaller e.1 e.3)
        | false ↦ λ e. ap (first_fits (fits p) (matches run fits ps)) e.2 ∙ and_true (fits p e.0) (matches run fits ps e.1) (complete p e.0 e.3) (smaller e.1 e.4)
      ] h

char_sound : (p : Piece) (c : ℕ) → fits_char p c ≡ true → FitsChar p c
char_sound pieces.Run c h = absurd (cc)
char_sound pieces.One c h = tt
char_sound (pieces.Same wanted) c h = grind arith

char_complete : (p : Piece) (c : ℕ) → FitsChar p c → fits_char p c ≡ true
char_complete pieces.Run c h = absurd h
char_complete pieces.One c h = refl
char_complete (pieces.Same wanted) c h = grind arith

pieces_sound : (glob : List Piece) (cs : List ℕ) → matches is_run fits_char glob cs ≡ true → MatchesPieces cs glob
pieces_sound = matches_sound is_run fits_char FitsChar char_sound char_complete

pieces_complete : (glob : List Piece) (cs : List ℕ) → MatchesPieces cs glob → matches is_run fits_char glob cs ≡ true
pieces_complete = matches_complete is_run fits_char FitsChar char_sound char_complete

name_sound : (p : Part) (name : List ℕ) → fits_name p name ≡ true → FitsName p name
name_sound parts.Span name h = absurd (cc)
name_sound (parts.Glob glob) name h = pieces_sound glob (chars name) h

name_complete : (p : Part) (name : List ℕ) → FitsName p name → fits_name p name ≡ true
name_complete parts.Span name h = absurd h
name_complete (parts.Glob glob) name h = pieces_complete glob (chars name) h

parts_sound : (ps : List Part) (names : List (List ℕ)) → matches_parts ps names ≡ true → MatchesParts names ps
parts_sound = matches_sound is_span fits_name FitsName name_sound name_complete

parts_complete : (ps : List Part) (names : List (List ℕ)) → MatchesParts names ps → matches_parts ps names ≡ true
parts_complete = matches_complete is_span fits_name FitsName name_sound name_complete

last_sound : (glob : List Piece) (last : Option (List ℕ)) → matches_name glob last ≡ true → IsSomeAnd last (λ name. MatchesPieces (chars name) glob)
last_sound glob None h = absurd (cc)
last_sound glob (Some name) h = pieces_sound glob (chars name) h

last_complete : (glob : List Piece) (last : Option (List ℕ)) → IsSomeAnd last (λ name. MatchesPieces (chars name) glob) → matches_name glob last ≡ true
last_complete glob None h = absurd h
last_complete glob (Some name) h = pieces_complete glob (chars name) h

covers_sound : (anchored : Bool) (ps : List Part) (names : List (List ℕ)) → covers anchored ps names ≡ true → Covers anchored ps names
covers_sound true ps names h = parts_sound ps names h
covers_sound false [] names h = parts_sound [] names h
covers_sound false (parts.Span ∷ []) names h = tt
covers_sound false (parts.Glob glob ∷ []) names h = last_sound glob (last_name names) h
covers_sound false (p ∷ q ∷ ps) names h = parts_sound (p ∷ q ∷ ps) names h

covers_complete : (anchored : Bool) (ps : List Part) (names : List (List ℕ)) → Covers anchored ps names → covers anchored ps names ≡ true
covers_complete true ps names h = parts_complete ps names h
covers_complete false [] names h = parts_complete [] names h
covers_complete false (parts.Span ∷ []) names h = refl
covers_complete false (parts.Glob glob ∷ []) names h = last_complete glob (last_name names) h
covers_complete false (p ∷ q ∷ ps) names h = parts_complete (p ∷ q ∷ ps) names h

not_nil : (names : List (List ℕ)) → not (is_nil names) ≡ true → names ≢ []
not_nil [] h = absurd (cc)
not_nil (n ∷ names) h = λ e. absurd (let f : false ≡ true = ap is_nil e in cc)

is_not_nil : (names : List (List ℕ)) → names ≢ [] → not (is_nil names) ≡ true
is_not_nil [] h = absurd (h refl)
is_not_nil (n ∷ names) h = refl

kind_sound : (directories is_dir : Bool) → (not directories || is_dir) ≡ true → directories ≡ true → is_dir ≡ true
kind_sound true is_dir h e = h
kind_sound false is_dir h e = absurd (cc)

kind_complete : (directories is_dir : Bool) → (directories ≡ true → is_dir ≡ true) → (not directories || is_dir) ≡ true
kind_complete true is_dir h = h refl
kind_complete false is_dir h = refl

module _ (names : List (List ℕ)) (is_dir : Bool) where
  match_sound : (p : Meaning) → is_match p names is_dir ≡ true → IsMatch p names is_dir
  match_sound p h =
      let parts = both (not (is_nil names)) _ h in
      let rest = both (not p.directories || is_dir) _ parts.1 in
      record { below = not_nil names parts.0; kind = kind_sound p.directories is_dir rest.0; covers = covers_sound p.anchored p.parts names rest.1 }

  match_complete : (p : Meaning) → IsMatch p names is_dir → is_match p names is_dir ≡ true
  match_complete p m =
      and_true (not (is_nil names)) _ (is_not_nil names m.below)
      (and_true (not p.directories || is_dir) _ (kind_complete p.directories is_dir m.kind) (covers_complete p.anchored p.parts names m.covers))

  -- what is said where none of the rules matches
  none_said : (ps : List Meaning) → AllByRecursion (λ p. IsMatch p names is_dir → ⊥) ps → verdict ps names is_dir ≡ None
  none_said [] all = refl
  none_said (p ∷ ps) all =
      ap (λ v. or_else v (cond (is_match p names is_dir) (Some (not p.negated)) None)) (none_said ps all.1)
      ∙ elim (is_match p names is_dir) as (λ b. is_match p names is_dir ≡ b → cond b (Some (not p.negated)) None ≡ None) [
        | true ↦ λ e. absurd (all.0 (match_sound p e))
        | false ↦ λ e. refl
      ] refl

  nothing_matched : (ps : List Meaning) → verdict ps names is_dir ≡ None → AllByRecursion (λ p. IsMatch p names is_dir → ⊥) ps
  nothing_matched [] h = tt
  nothing_matched (p ∷ ps) h =
      elim (verdict ps names is_dir) as (λ v. verdict ps names is_dir ≡ v → or_else v (cond (is_match p names is_dir) (Some (not p.negated)) None) ≡ None → AllByRecursion (λ q. IsMatch q names is_dir → ⊥) (p ∷ ps)) [
        | Some said ↦ λ e g. absurd (cc)
        | None ↦ λ e g. (λ m. absurd (let f : cond (is_match p names is_dir) (Some (not p.negated)) None ≡ Some (not p.negated) = ap (λ b. cond b (Some (not p.negated)) None) (match_complete p m) in let k : None ≡ Some (not p.negated) = sym g ∙ f in cc), nothing_matched ps e)
      ] refl h

  last_said : (before after : List Meaning) (last : Meaning) → IsMatch last names is_dir → AllByRecursion (λ p. IsMatch p names is_dir → ⊥) after
      → verdict (before ++ last ∷ after) names is_dir ≡ Some (not last.negated)
  last_said [] after last m none =
      ap (λ v. or_else v (cond (is_match last names is_dir) (Some (not last.negated)) None)) (none_said after none)
      ∙ ap (λ b. cond b (Some (not last.negated)) None) (match_complete last m)
  last_said (p ∷ before) after last m none =
      ap (λ v. or_else v (cond (is_match p names is_dir) (Some (not p.negated)) None)) (last_said before after last m none)

  pub record Said (rules : List Meaning) (said : Bool) : Type 0 where
    pub last : Meaning
    pub is_last : IsLastMatch rules names is_dir last
    pub is : not last.negated ≡ said

  last_of : (ps : List Meaning) (said : Bool) → verdict ps names is_dir ≡ Some said → Said ps said
  last_of [] said h = absurd (cc)
  last_of (p ∷ ps) said h =
      let smaller = last_of ps said in
      elim (verdict ps names is_dir) as (λ v. verdict ps names is_dir ≡ v → or_else v (cond (is_match p names is_dir) (Some (not p.negated)) None) ≡ Some said → Said (p ∷ ps) said) [
        | Some other ↦ λ e g.
            let s = smaller (e ∙ g) in
            let m = s.is_last in
            record { last = s.last; is_last = record { before = p ∷ m.before; after = m.after; rules_are = ap (λ (l : List Meaning). p ∷ l) m.rules_are; matched = m.matched; later = m.later }; is = s.is }
        | None ↦ λ e. elim (is_match p names is_dir) as (λ b. is_match p names is_dir ≡ b → cond b (Some (not p.negated)) None ≡ Some said → Said (p ∷ ps) said) [
          | true ↦ λ y g. record { last = p; is_last = record { before = []; after = ps; rules_are = refl; matched = match_sound p y; later = nothing_matched ps e }; is = cc }
          | false ↦ λ y g. absurd (cc)
        ] refl
      ] refl h

  negated_not : (b : Bool) → not b ≡ true → b ≡ false
  negated_not true h = absurd (cc)
  negated_not false h = refl

  -- the test says what the rules do
  pub ignores_sound : (rules : List Meaning) → ignores rules names is_dir ≡ true → Ignores rules names is_dir
  ignores_sound rules h =
      elim (verdict rules names is_dir) as (λ v. verdict rules names is_dir ≡ v → says_so v ≡ true → Ignores rules names is_dir) [
        | None ↦ λ e g. absurd (cc)
        | Some said ↦ λ e g. let s = last_of rules said e in (s.last, s.is_last, negated_not s.last.negated (s.is ∙ g))
      ] refl h

  pub ignores_complete : (rules : List Meaning) → Ignores rules names is_dir → ignores rules names is_dir ≡ true
  ignores_complete rules i =
      let m = i.1 in
      ap says_so (ap (λ (ps : List Meaning). verdict ps names is_dir) m.rules_are ∙ last_said m.before m.after i.0 m.matched m.later) ∙ ap not i.2

  -- a test that is right about the rules is this one
  pub decided : (rules : List Meaning) (result : Bool) → (IsTrue result ↔ Ignores rules names is_dir) → result ≡ ignores rules names is_dir
  decided rules result h =
      elim result as (λ b. (IsTrue b ↔ Ignores rules names is_dir) → b ≡ ignores rules names is_dir) [
        | true ↦ λ g. sym (ignores_complete rules (g.0 refl))
        | false ↦ λ g. elim (ignores rules names is_dir) as (λ b. ignores rules names is_dir ≡ b → false ≡ b) [
          | true ↦ λ e. absurd (let f : false ≡ true = g.1 (ignores_sound rules e) in cc)
          | false ↦ λ e. refl
        ] refl
      ] h

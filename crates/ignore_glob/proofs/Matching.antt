-- Laws of matching, for any items and any wildcards.
use Rattle.std.proofs.Common.{◌≡◌, ℕ, ◌+◌, ◌-◌, ◌<◌, ◌≤◌, Bool, true, false, cond, ◌||◌, List, [], ◌∷◌, ◌++◌, length, refl, sym, ap, ap₂, subst, take, drop, ◌∙◌, append_assoc, arith, length-append, true≢false}
use Rattle.std.specs.Bool.{MatchBool}
use Rattle.std.specs.List.{list_any}
use Rattle.std.proofs.Math.Seq.{drop-append_seam}
use Rattle.std.proofs.lemmas.Bool.{or_parts}
use Rattle.std.proofs.lemmas.Bool.Decides.{when_true, when_false}
use Rattle.std.proofs.lemmas.List.{take-append-drop}
use Rattle.std.proofs.lemmas.List.Folds.{list_any-append}
use Rattle.ignore_glob.specs.Matching.{Matches, MatchesSuffix}
use Rattle.ignore_glob.specs.Stretch.{width, Along}

to_true : (b : Bool) (P Q : Type 0) → b ≡ true → P → MatchBool b P Q
to_true true P Q e h = h
to_true false P Q e h = absurd (true≢false (sym e))

to_false : (b : Bool) (P Q : Type 0) → b ≡ false → Q → MatchBool b P Q
to_false true P Q e h = absurd (true≢false e)
to_false false P Q e h = h

pub tails_same : {X : Type 0} (x y : X) (xs ys : List X) → x ∷ xs ≡ y ∷ ys → (x ≡ y) × (xs ≡ ys)
tails_same x y xs ys e = (cc, cc)

pub nil_or_cons : {X : Type 0} (x : X) (xs : List X) → [] ≡ x ∷ xs → ⊥
nil_or_cons x xs e = cc

-- where two cuts of one list meet: the longer front leaves an end of what the shorter leaves
longer_front : {X : Type 0} (short rest long back : List X) → short ++ rest ≡ long ++ back → length short ≤ length long → (mid : List X) × (rest ≡ mid ++ back)
longer_front [] rest long back e le = (long, e)
longer_front (s ∷ short) rest [] back e le = absurd (omega arith)
longer_front (s ∷ short) rest (x ∷ long) back e le = longer_front short rest long back (tails_same s x (short ++ rest) (long ++ back) e).1 (omega arith)

module _ {X P : Type 0} (is_run : P → Bool) (Fits : P → X → Type 0) where
  -- the cases of a pattern that begins with a run, and of one that begins with another wildcard
  pub from_run : (p : P) (ps : List P) (items : List X) → is_run p ≡ true → Matches is_run Fits items (p ∷ ps) → MatchesSuffix is_run Fits items ps
  from_run p ps items e h = when_true _ _ e h

  pub to_run : (p : P) (ps : List P) (items : List X) → is_run p ≡ true → MatchesSuffix is_run Fits items ps → Matches is_run Fits items (p ∷ ps)
  to_run p ps items e h = to_true (is_run p) _ _ e h

  pub from_one : (p : P) (ps : List P) (items : List X) → is_run p ≡ false → Matches is_run Fits items (p ∷ ps) → (first : X) × (rest : List X) × (items ≡ first ∷ rest) × Fits p first × Matches is_run Fits rest ps
  from_one p ps items e h = when_false _ _ e h

  pub to_one : (p : P) (ps : List P) (first : X) (rest : List X) → is_run p ≡ false → Fits p first → Matches is_run Fits rest ps → Matches is_run Fits (first ∷ rest) (p ∷ ps)
  to_one p ps first rest e fits h = to_false (is_run p) _ _ e (first, rest, refl, fits, h)

  width-append : (used bs : List P) → width is_run Fits (used ++ bs) ≡ width is_run Fits used + width is_run Fits bs
  width-append [] bs = omega arith
  width-append (a ∷ used) bs =
      let rest = width-append used bs in
      elim (is_run a) as (λ b. cond b (width is_run Fits (used ++ bs)) (1 + width is_run Fits (used ++ bs)) ≡ cond b (width is_run Fits used) (1 + width is_run Fits used) + width is_run Fits bs) [
        | true ↦ rest
        | false ↦ omega (arith, rest)
      ]

  -- the front of a pattern stands for at least as many items as it has single wildcards
  wide : (used bs : List P) (items : List X) → Matches is_run Fits items (used ++ bs)
      → (front : List X) × (back : List X) × (items ≡ front ++ back) × (width is_run Fits used ≤ length front) × Matches is_run Fits back bs
  wide [] bs items h = ([], items, refl, omega arith, h)
  wide (a ∷ used) bs items h =
      elim (is_run a) as (λ b. is_run a ≡ b → (front : List X) × (back : List X) × (items ≡ front ++ back) × (width is_run Fits (a ∷ used) ≤ length front) × Matches is_run Fits back bs) [
        | true ↦ λ e.
            let m = from_run a (used ++ bs) items e h in
            let r = wide used bs m.1 m.3 in
            let w : width is_run Fits (a ∷ used) ≡ width is_run Fits used = ap (λ b. cond b (width is_run Fits used) (1 + width is_run Fits used)) e in
            (m.0 ++ r.0, r.1, m.2 ∙ ap (λ (l : List X). m.0 ++ l) r.2 ∙ sym (append_assoc m.0 r.0 r.1), omega (arith, w, r.3, length-append m.0 r.0), r.4)
        | false ↦ λ e.
            let m = from_one a (used ++ bs) items e h in
            let r = wide used bs m.1 m.4 in
            let w : width is_run Fits (a ∷ used) ≡ 1 + width is_run Fits used = ap (λ b. cond b (width is_run Fits used) (1 + width is_run Fits used)) e in
            (m.0 ∷ r.0, r.1, m.2 ∙ ap (λ (l : List X). m.0 ∷ l) r.2, omega (arith, w, r.3), r.4)
      ] refl

  -- at the start a pattern is along with all items
  pub along_start : (items : List X) (ps : List P) → Along is_run Fits items ps items ps
  along_start items ps = record { taken = []; used = []; items_are = refl; pattern_is = refl; as_many = refl; on = λ h. h; back = λ h. h }

  -- a wildcard that isn't a run fits the next item
  pub along_one : (items : List X) (ps : List P) (first : X) (rest : List X) (p : P) (left : List P) → Along is_run Fits items ps (first ∷ rest) (p ∷ left) → is_run p ≡ false → Fits p first → Along is_run Fits items ps rest left
  along_one items ps first rest p left a e fits =
      let w : width is_run Fits (p ∷ []) ≡ 1 = ap (λ b. cond b 0 1) e in
      record {
        taken = a.taken ++ first ∷ [];
        used = a.used ++ p ∷ [];
        items_are = a.items_are ∙ sym (append_assoc a.taken (first ∷ []) rest);
        pattern_is = a.pattern_is ∙ sym (append_assoc a.used (p ∷ []) left);
        as_many = omega (arith, width-append a.used (p ∷ []), length-append a.taken (first ∷ []), a.as_many, w);
        on = λ h. let m = from_one p left (first ∷ rest) e (a.on h) in subst (λ (l : List X). Matches is_run Fits l left) (sym (tails_same first m.0 rest m.1 m.2).1) m.4;
        back = λ h. a.back (to_one p left first rest e fits h);
      }

  -- the next wildcard isn't a run, and no item is left, or one that it doesn't fit
  pub along_short : (items : List X) (ps : List P) (p : P) (left : List P) → Along is_run Fits items ps [] (p ∷ left) → is_run p ≡ false → Matches is_run Fits items ps → ⊥
  along_short items ps p left a e h = let m = from_one p left [] e (a.on h) in nil_or_cons m.0 m.1 m.2

  pub along_unfit : (items : List X) (ps : List P) (first : X) (rest : List X) (p : P) (left : List P) → Along is_run Fits items ps (first ∷ rest) (p ∷ left) → is_run p ≡ false → (Fits p first → ⊥) → Matches is_run Fits items ps → ⊥
  along_unfit items ps first rest p left a e unfit h =
      let m = from_one p left (first ∷ rest) e (a.on h) in
      unfit (subst (Fits p) (sym (tails_same first m.0 rest m.1 m.2).0) m.3)

  -- the pattern has ended: no item may be left
  pub along_long : (items : List X) (ps : List P) (first : X) (rest : List X) → Along is_run Fits items ps (first ∷ rest) [] → Matches is_run Fits items ps → ⊥
  along_long items ps first rest a h = nil_or_cons first rest (sym (a.on h))

  -- Behind a run that the pattern reached, only the rest is open: if some end of the items matches, some end of these does.
  pub run_on : (items : List X) (ps : List P) (rest : List X) (p : P) (left : List P) → Along is_run Fits items ps rest (p ∷ left) → is_run p ≡ true → MatchesSuffix is_run Fits items ps → MatchesSuffix is_run Fits rest left
  run_on items ps rest p left a e s =
      let m = subst (λ (l : List P). Matches is_run Fits s.1 l) a.pattern_is s.3 in
      let w = wide a.used (p ∷ left) s.1 m in
      let r = from_run p left w.1 e w.4 in
      let same : a.taken ++ rest ≡ (s.0 ++ w.0) ++ w.1 = sym a.items_are ∙ s.2 ∙ ap (λ (l : List X). s.0 ++ l) w.2 ∙ sym (append_assoc s.0 w.0 w.1) in
      let cut = longer_front a.taken rest (s.0 ++ w.0) w.1 same (omega (arith, a.as_many, w.3, length-append s.0 w.0)) in
      (cut.0 ++ r.0, r.1, cut.1 ∙ ap (λ (l : List X). cut.0 ++ l) r.2 ∙ sym (append_assoc cut.0 r.0 r.1), r.3)

  pub run_back : (items : List X) (ps : List P) (rest : List X) (p : P) (left : List P) → Along is_run Fits items ps rest (p ∷ left) → is_run p ≡ true → MatchesSuffix is_run Fits rest left → MatchesSuffix is_run Fits items ps
  run_back items ps rest p left a e s = ([], items, refl, a.back (to_run p left rest e s))

  -- where the whole doesn't match, an end of it that matches is an end of what is behind the first item
  suffix_at : (front back : List X) (first : X) (rest : List X) (ps : List P) → (Matches is_run Fits (first ∷ rest) ps → ⊥) → first ∷ rest ≡ front ++ back → Matches is_run Fits back ps → MatchesSuffix is_run Fits rest ps
  suffix_at [] back first rest ps none e m = absurd (none (subst (λ (l : List X). Matches is_run Fits l ps) (sym e) m))
  suffix_at (x ∷ front) back first rest ps none e m = (front, back, (tails_same first x rest (front ++ back) e).1, m)

  pub suffix_on : (first : X) (rest : List X) (ps : List P) → (Matches is_run Fits (first ∷ rest) ps → ⊥) → MatchesSuffix is_run Fits (first ∷ rest) ps → MatchesSuffix is_run Fits rest ps
  suffix_on first rest ps none s = suffix_at s.0 s.1 first rest ps none s.2 s.3

  pub suffix_back : (first : X) (rest : List X) (ps : List P) → MatchesSuffix is_run Fits rest ps → MatchesSuffix is_run Fits (first ∷ rest) ps
  suffix_back first rest ps s = (first ∷ s.0, s.1, ap (λ (l : List X). first ∷ l) s.2, s.3)

  suffix_none_at : (front back : List X) (ps : List P) → (Matches is_run Fits [] ps → ⊥) → [] ≡ front ++ back → Matches is_run Fits back ps → ⊥
  suffix_none_at [] back ps none e m = none (subst (λ (l : List X). Matches is_run Fits l ps) (sym e) m)
  suffix_none_at (x ∷ front) back ps none e m = nil_or_cons x (front ++ back) e

  pub suffix_none : (ps : List P) → (Matches is_run Fits [] ps → ⊥) → MatchesSuffix is_run Fits [] ps → ⊥
  suffix_none ps none s = suffix_none_at s.0 s.1 ps none s.2 s.3

  pub suffix_whole : (items : List X) (ps : List P) → Matches is_run Fits items ps → MatchesSuffix is_run Fits items ps
  suffix_whole items ps m = ([], items, refl, m)

  -- ---- a pattern without a run

  -- it stands for as many items as it has wildcards
  single_length : (ps : List P) (items : List X) → list_any is_run ps ≡ false → Matches is_run Fits items ps → length items ≡ length ps
  single_length [] items h m = ap length m
  single_length (p ∷ ps) items h m =
      let parts = or_parts (is_run p) (list_any is_run ps) h in
      let one = from_one p ps items parts.0 m in
      omega (arith, single_length ps one.1 parts.1 one.4, ap length one.2)

  -- so it matches an end of the items just where it matches the end that has so many of them
  pub end_on : (items : List X) (ps : List P) → list_any is_run ps ≡ false → MatchesSuffix is_run Fits items ps
      → (length ps ≤ length items) × Matches is_run Fits (drop (length items - length ps) items) ps
  end_on items ps h s =
      let len : length s.1 ≡ length ps = single_length ps s.1 h s.3 in
      let all : length items ≡ length s.0 + length s.1 = ap length s.2 ∙ length-append s.0 s.1 in
      let at : length items - length ps ≡ length s.0 = omega arith in
      let is : drop (length items - length ps) items ≡ s.1 = ap₂ drop at s.2 ∙ drop-append_seam s.0 s.1 in
      (omega arith, subst (λ (l : List X). Matches is_run Fits l ps) (sym is) s.3)

  pub end_back : (k : ℕ) (items : List X) (ps : List P) → Matches is_run Fits (drop k items) ps → MatchesSuffix is_run Fits items ps
  end_back k items ps m = (take k items, drop k items, sym (take-append-drop k items), m)

  or_second : (a b : Bool) → b ≡ true → (a || b) ≡ true
  or_second true b e = refl
  or_second false b e = e

  -- a pattern that reaches a run has one, and is longer than what is behind it
  pub along_run : (items : List X) (ps : List P) (rest : List X) (p : P) (left : List P) → Along is_run Fits items ps rest (p ∷ left) → is_run p ≡ true → list_any is_run ps ≡ true
  along_run items ps rest p left a e =
      ap (list_any is_run) a.pattern_is ∙ list_any-append is_run a.used (p ∷ left)
      ∙ or_second (list_any is_run a.used) (list_any is_run (p ∷ left)) (ap (λ b. b || list_any is_run left) e)

  pub along_longer : (items : List X) (ps : List P) (rest : List X) (p : P) (left : List P) → Along is_run Fits items ps rest (p ∷ left) → length left < length ps
  along_longer items ps rest p left a = omega (arith, ap length a.pattern_is, length-append a.used (p ∷ left))

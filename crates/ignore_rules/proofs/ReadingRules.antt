-- A list of texts has one reading.
use Rattle.std.proofs.Common.{◌≡◌, ℕ, Bool, cond, List, [], ◌∷◌, ◌++◌, length, refl, sym, ap, subst, ◌∙◌, append_assoc, arith, inl, inr, ◌⊎◌, MatchResult}
use Rattle.std.specs.Prelude.{Result, Ok, Err}
use Rattle.ignore_glob.specs.Grammar.{Meaning, IsPattern}
use Rattle.ignore_glob.specs.Faults.{IsFault, counted}
use Rattle.ignore_glob.proofs.Readings.{one_meaning, one_fault, pattern_has_no_fault}
use Rattle.ignore_rules.specs.declared.rule_error.RuleError.{RuleError}
use Rattle.ignore_rules.specs.declared.rule_error.RuleError.TheVariants.{Bad, Memory}
use Rattle.ignore_rules.specs.Vcs.{vcs_texts}
use Rattle.ignore_rules.specs.Rules.{ArePatterns, AreRules, IsRuleFault}
use Rattle.ignore_rules.specs.Refusals.{IsRefusal}

-- what is read so far: the patterns of version control, if they stand in front, and those of the texts so far
pub record RulesSoFar (vcs : Bool) (texts : List (List ℕ)) (rules : List Meaning) : Type 0 where
  pub front : List Meaning
  pub back : List Meaning
  pub rules_are : rules ≡ front ++ back
  pub vcs_rules : ArePatterns (cond vcs vcs_texts []) front
  pub text_rules : ArePatterns texts back

pub patterns-append : (xs ys : List (List ℕ)) (ps qs : List Meaning) → ArePatterns xs ps → ArePatterns ys qs → ArePatterns (xs ++ ys) (ps ++ qs)
patterns-append [] ys [] qs h k = k
patterns-append [] ys (p ∷ ps) qs h k = absurd h
patterns-append (x ∷ xs) ys [] qs h k = absurd h
patterns-append (x ∷ xs) ys (p ∷ ps) qs h k = (h.0, patterns-append xs ys ps qs h.1 k)

pub rules_more : (vcs : Bool) (texts : List (List ℕ)) (rules : List Meaning) (text : List ℕ) (p : Meaning) → RulesSoFar vcs texts rules → IsPattern text p → RulesSoFar vcs (texts ++ text ∷ []) (rules ++ p ∷ [])
rules_more vcs texts rules text p so is = record {
  front = so.front;
  back = so.back ++ p ∷ [];
  rules_are = ap (λ (l : List Meaning). l ++ p ∷ []) so.rules_are ∙ append_assoc so.front so.back (p ∷ []);
  vcs_rules = so.vcs_rules;
  text_rules = patterns-append texts (text ∷ []) so.back (p ∷ []) so.text_rules (is, tt);
}

pub rules_whole : (vcs : Bool) (texts : List (List ℕ)) (rules : List Meaning) → RulesSoFar vcs texts rules → AreRules vcs texts rules
rules_whole vcs texts rules so =
    subst (ArePatterns (cond vcs vcs_texts [] ++ texts)) (sym so.rules_are) (patterns-append (cond vcs vcs_texts []) texts so.front so.back so.vcs_rules so.text_rules)

pub same_rules : (texts : List (List ℕ)) (ps qs : List Meaning) → ArePatterns texts ps → ArePatterns texts qs → ps ≡ qs
same_rules [] [] [] h k = refl
same_rules [] [] (q ∷ qs) h k = absurd k
same_rules [] (p ∷ ps) qs h k = absurd h
same_rules (t ∷ texts) [] qs h k = absurd h
same_rules (t ∷ texts) (p ∷ ps) [] h k = absurd k
same_rules (t ∷ texts) (p ∷ ps) (q ∷ qs) h k =
    ap (λ (x : Meaning). x ∷ ps) (one_meaning t p q h.0 k.0) ∙ ap (λ (l : List Meaning). q ∷ l) (same_rules texts ps qs h.1 k.1)

-- what is all patterns has no fault
no_fault_in : (before after : List (List ℕ)) (wrong : List ℕ) (ps : List Meaning) (place : ℕ) → ArePatterns (before ++ wrong ∷ after) ps → IsFault wrong place → ⊥
no_fault_in [] after wrong [] place h f = absurd h
no_fault_in [] after wrong (p ∷ ps) place h f = pattern_has_no_fault wrong p place h.0 f
no_fault_in (t ∷ before) after wrong [] place h f = absurd h
no_fault_in (t ∷ before) after wrong (p ∷ ps) place h f = no_fault_in before after wrong ps place h.1 f

-- texts in front of others are patterns where all are
behind_vcs : (xs ys : List (List ℕ)) (ps : List Meaning) → ArePatterns (xs ++ ys) ps → (qs : List Meaning) × ArePatterns ys qs
behind_vcs [] ys ps h = (ps, h)
behind_vcs (x ∷ xs) ys [] h = absurd h
behind_vcs (x ∷ xs) ys (p ∷ ps) h = behind_vcs xs ys ps h.1

rules_have_no_fault : (vcs : Bool) (texts : List (List ℕ)) (rules : List Meaning) (index place : ℕ) → AreRules vcs texts rules → IsRuleFault texts index place → ⊥
rules_have_no_fault vcs texts rules index place h f =
    let own = behind_vcs (cond vcs vcs_texts []) texts rules h in
    no_fault_in f.before f.after f.wrong own.0 place (subst (λ (l : List (List ℕ)). ArePatterns l own.0) f.texts_are own.1) f.fault

tails : {X : Type 0} (x y : X) (xs ys : List X) → x ∷ xs ≡ y ∷ ys → (x ≡ y) × (xs ≡ ys)
tails x y xs ys e = (cc, cc)

-- of two first faults both are one
same_faults : (xs ys as' bs : List (List ℕ)) (x y : List ℕ) (ps qs : List Meaning) (i j : ℕ) → xs ++ x ∷ as' ≡ ys ++ y ∷ bs → ArePatterns xs ps → ArePatterns ys qs → IsFault x i → IsFault y j → (length xs ≡ length ys) × (i ≡ j)
same_faults [] [] as' bs x y ps qs i j e h k f g = (refl, one_fault y i j (subst (λ (l : List ℕ). IsFault l i) (tails x y as' bs e).0 f) g)
same_faults [] (t ∷ ys) as' bs x y ps [] i j e h k f g = absurd k
same_faults [] (t ∷ ys) as' bs x y ps (q ∷ qs) i j e h k f g =
    absurd (pattern_has_no_fault t q i k.0 (subst (λ (l : List ℕ). IsFault l i) (tails x t as' (ys ++ y ∷ bs) e).0 f))
same_faults (t ∷ xs) [] as' bs x y [] qs i j e h k f g = absurd h
same_faults (t ∷ xs) [] as' bs x y (p ∷ ps) qs i j e h k f g =
    absurd (pattern_has_no_fault t p j h.0 (subst (λ (l : List ℕ). IsFault l j) (sym (tails t y (xs ++ x ∷ as') bs e).0) g))
same_faults (t ∷ xs) (u ∷ ys) as' bs x y [] qs i j e h k f g = absurd h
same_faults (t ∷ xs) (u ∷ ys) as' bs x y (p ∷ ps) [] i j e h k f g = absurd k
same_faults (t ∷ xs) (u ∷ ys) as' bs x y (p ∷ ps) (q ∷ qs) i j e h k f g =
    let rest = same_faults xs ys as' bs x y ps qs i j (tails t u (xs ++ x ∷ as') (ys ++ y ∷ bs) e).1 h.1 k.1 f g in
    (omega (arith, rest.0), rest.1)

one_rule_fault : (texts : List (List ℕ)) (m n i j : ℕ) → IsRuleFault texts m i → IsRuleFault texts n j → (m ≡ n) × (i ≡ j)
one_rule_fault texts m n i j e f =
    let same = same_faults e.before f.before e.after f.after e.wrong f.wrong e.rules f.rules i j (sym e.texts_are ∙ f.texts_are) e.patterns f.patterns e.fault f.fault in
    (e.index_is ∙ same.0 ∙ sym f.index_is, same.1)

pub accepts : (vcs : Bool) (texts : List (List ℕ)) (result : Result (List Meaning) RuleError) (rules : List Meaning) → MatchResult result (AreRules vcs texts) (IsRefusal texts) → AreRules vcs texts rules → MatchResult result (λ read. read ≡ rules) (λ e. e ≡ Memory)
accepts vcs texts (Ok read) rules h is = same_rules (cond vcs vcs_texts [] ++ texts) read rules h is
accepts vcs texts (Err Memory) rules h is = refl
accepts vcs texts (Err (Bad bad)) rules h is = absurd (rules_have_no_fault vcs texts rules bad.index h.0 is h.1)

pub refuses : (vcs : Bool) (texts : List (List ℕ)) (result : Result (List Meaning) RuleError) (index place : ℕ) → MatchResult result (AreRules vcs texts) (IsRefusal texts) → IsRuleFault texts index place → MatchResult result (λ _. ⊥) (λ e. (e ≡ Bad (record { index = index; place = counted place })) ⊎ (e ≡ Memory))
refuses vcs texts (Ok read) index place h is = rules_have_no_fault vcs texts read index place h is
refuses vcs texts (Err Memory) index place h is = inr refl
refuses vcs texts (Err (Bad bad)) index place h is =
    let same = one_rule_fault texts bad.index index h.0 place h.1 is in
    inl (ap (λ (n : ℕ). Bad (record { index = n; place = bad.place })) same.0 ∙ ap (λ (n : ℕ). Bad (record { index = index; place = n })) (h.2 ∙ ap counted same.1))

-- a text that isn't a pattern, behind texts that are
pub fault_at : (texts before after : List (List ℕ)) (wrong : List ℕ) (rules : List Meaning) (index place : ℕ) → ArePatterns before rules → texts ≡ before ++ wrong ∷ after → index ≡ length before → IsFault wrong place → IsRuleFault texts index place
fault_at texts before after wrong rules index place h e is f = record { before = before; wrong = wrong; after = after; texts_are = e; index_is = is; rules = rules; patterns = h; fault = f }

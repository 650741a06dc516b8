-- The steps of the reader of a line.
use Rattle.std.proofs.Common.{◌≡◌, ◌↔◌, ℕ, ◌≤◌, ◌-◌, ◌^◌, Bool, false, List, ◌∷◌, sym, ap, subst, ◌∙◌, Some, None, Option, inl, inr}
use Rattle.std.specs.Prelude.{decimal}
use Rattle.command_words.specs.GivenName.{is_given_name, IsGivenName}
use Rattle.command_words.specs.Kept.{kept}
use Rattle.command_words.proofs.LabelWords.{kept_not, kept_some}
use Rattle.request_text.specs.Places.{Ends, Goes, Steps}
use Rattle.request_text.specs.States.{GoesOn, LineGoes, LineSteps, NumbersLine, whole_of}
use Rattle.request_text.specs.declared.place.First.{First}
use Rattle.request_text.specs.declared.place.Place.{Place}
use Rattle.request_text.specs.declared.place.Place.TheVariants as at
use Rattle.request_text.specs.declared.request.Request.{Request}
use Rattle.request_text.specs.declared.request.Request.TheVariants as requests
use Rattle.request_text.specs.declared.state.State.{State}
use Rattle.request_text.specs.declared.state.State.TheVariants.{Start, Named, Behind}

pub goes_on : (n : Bool) (place : Place) (word : List ℕ) (to : Place → State) (found : Option Place) (x : Place) → Steps (Goes n place word) found → found ≡ Some x → LineSteps (GoesOn n place word to) (Some (to x))
goes_on n place word to found x h e state = (
  λ k. let same : to x ≡ state = cc in record { next = x; goes = (h x).0 e; leads = sym same },
  λ g. let same : Some x ≡ Some g.next = sym e ∙ (h g.next).1 g.goes in let one : x ≡ g.next = cc in ap Some (ap to one ∙ sym g.leads),
)

pub goes_nowhere : (n : Bool) (place : Place) (word : List ℕ) (to : Place → State) (found : Option Place) → Steps (Goes n place word) found → found ≡ None → LineSteps (GoesOn n place word to) None
goes_nowhere n place word to found h e state = (
  λ k. absurd (cc),
  λ g. let none : None ≡ Some g.next = sym e ∙ (h g.next).1 g.goes in absurd (cc),
)

-- no request begins with `@`
no_first : (name : List ℕ) (state : State) → GoesOn false at.Begin (64 ∷ name) (Behind None) state → ⊥
no_first name state g = let k : ◌≡◌ {A = Option First} None (Some g.goes.value) = g.goes.is in absurd (cc)

pub client_named : (name own : List ℕ) → Some own ≡ kept is_given_name name → LineSteps (LineGoes Start (64 ∷ name)) (Some (Named own))
client_named name own k state =
    let kept = kept_some is_given_name name own k in (
      λ e. let same : Named own ≡ state = cc in inl (record { name = own; is = subst IsGivenName (sym kept.0) kept.1; spelt = ap (λ n. 64 ∷ n) (sym kept.0); leads = sym same }),
      λ g. by g kept.0,
    )
  where
    by : LineGoes Start (64 ∷ name) state → own ≡ name → Some (Named own) ≡ Some state
    by (inl g) e = let same : name ≡ g.name = cc in ap Some (ap Named (e ∙ same) ∙ sym g.leads)
    by (inr g) e = absurd (no_first name state g)

pub client_unnamed : (name : List ℕ) → kept is_given_name name ≡ None → LineSteps (LineGoes Start (64 ∷ name)) None
client_unnamed name k state = (λ e. absurd (cc), λ g. by g)
  where
    by : LineGoes Start (64 ∷ name) state → ◌≡◌ {A = Option State} None (Some state)
    by (inl g) = let same : name ≡ g.name = cc in absurd (kept_not is_given_name name k (subst IsGivenName (sym same) g.is))
    by (inr g) = absurd (no_first name state g)

pub no_client : (word : List ℕ) (found : Option State) → ((name : List ℕ) → word ≡ 64 ∷ name → ⊥) → LineSteps (GoesOn false at.Begin word (Behind None)) found → LineSteps (LineGoes Start word) found
no_client word found none h state = (λ e. inr ((h state).0 e), λ g. by g)
  where
    by : LineGoes Start word state → found ≡ Some state
    by (inl g) = absurd (none g.name g.spelt)
    by (inr g) = (h state).1 g

pub line_numbered : (name word : List ℕ) (found : Option ℕ) (x : ℕ) → ((n : ℕ) → (found ≡ Some n) ↔ ((1 ≤ n) × (n ≤ 2 ^ 64 - 1) × (word ≡ decimal n))) → found ≡ Some x
    → LineSteps (NumbersLine name word) (Some (Behind (Some (record { name = name; number = x })) at.Begin))
line_numbered name word found x h e state = (
  λ k. let told = (h x).0 e in let same : Behind (Some (record { name = name; number = x })) at.Begin ≡ state = cc in record { number = x; least = told.0; most = told.1; spelt = told.2; leads = sym same },
  λ g. let told : Some x ≡ Some g.number = sym e ∙ (h g.number).1 (g.least, g.most, g.spelt) in let one : x ≡ g.number = cc in
      ap Some (ap (λ n. Behind (Some (record { name = name; number = n })) at.Begin) one ∙ sym g.leads),
)

pub not_numbered : (name word : List ℕ) (found : Option ℕ) → ((n : ℕ) → (found ≡ Some n) ↔ ((1 ≤ n) × (n ≤ 2 ^ 64 - 1) × (word ≡ decimal n))) → found ≡ None → LineSteps (NumbersLine name word) None
not_numbered name word found h e state = (
  λ k. absurd (cc),
  λ g. let told : None ≡ Some g.number = sym e ∙ (h g.number).1 (g.least, g.most, g.spelt) in absurd (cc),
)

-- ---- where a line ends

pub ends_whole : (place : Place) (r : Request) → whole_of place ≡ Some r → Ends place r
ends_whole (at.Done request) r e = let same : request ≡ r = cc in sym same
ends_whole at.SyncList r e = let same : requests.SyncList None ≡ r = cc in sym same
ends_whole place r e = absurd (cc)

pub ends_not : (place : Place) (r : Request) → whole_of place ≡ None → Ends place r → ⊥
ends_not (at.Done request) r e h = absurd (cc)
ends_not at.SyncList r e h = absurd (cc)
ends_not place r e h = h

-- Where the words that were found lead.
use Rattle.std.proofs.Common.{◌≡◌, ◌↔◌, sym, ap, ◌∙◌, Some, None, Option}
use Rattle.request_text.specs.Places.{Gives, Steps, Via}
use Rattle.request_text.specs.declared.place.Place.{Place}

-- a table or a test gives what it gives
pub given : {V : Type 0} (found table : Option V) → found ≡ table → (v : V) → (found ≡ Some v) ↔ Gives table v
given found table e v = (λ h. sym e ∙ h, λ h. e ∙ h)

pub found_at : {V : Type 0} (found : Option V) (Is : V → Type 0) (to : V → Place) (x : V) → ((v : V) → (found ≡ Some v) ↔ Is v) → found ≡ Some x → Steps (Via Is to) (Some (to x))
found_at found Is to x h e place = (
  λ k. let same : to x ≡ place = cc in record { value = x; is = (h x).0 e; leads = sym same },
  λ r. let same : Some x ≡ Some r.value = sym e ∙ (h r.value).1 r.is in let one : x ≡ r.value = cc in ap Some (ap to one ∙ sym r.leads),
)

pub not_found : {V : Type 0} (found : Option V) (Is : V → Type 0) (to : V → Place) → ((v : V) → (found ≡ Some v) ↔ Is v) → found ≡ None → Steps (Via Is to) None
not_found found Is to h e place = (
  λ k. absurd (cc),
  λ r. let none : None ≡ Some r.value = sym e ∙ (h r.value).1 r.is in absurd (cc),
)

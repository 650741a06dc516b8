-- Numbers that words write.
use Rattle.std.proofs.Common.{◌≡◌, ℕ, ◌≤◌, ◌↔◌, Bool, List, refl, sym, ap, ◌∙◌, Some, None, Option}
use Rattle.std.specs.Prelude.{IsTrue, decimal}
use Rattle.std.specs.Option.{is_some}
use Rattle.command_words.specs.Endpoint.{IsOctet, IsPort}

pub within : (least most number : ℕ) (word : List ℕ) (found : Option ℕ)
    → ((n : ℕ) → (Some number ≡ Some n) ↔ ((n ≤ most) × (word ≡ decimal n)))
    → ((n : ℕ) → (found ≡ Some n) ↔ ((n ≡ number) × (least ≤ n) × (n ≤ most)))
    → (n : ℕ) → (found ≡ Some n) ↔ ((least ≤ n) × (n ≤ most) × (word ≡ decimal n))
within least most number word found read of n = (
  λ e. let o = (of n).0 e in (o.1, o.2, ((read number).0 refl).1 ∙ ap decimal (sym o.0)),
  λ h. let same : Some number ≡ Some n = (read n).1 (h.1, h.2) in let k : n ≡ number = cc in (of n).1 (k, h.0, h.1),
)

pub octet : (word : List ℕ) (found : Option ℕ) (b : Bool) → b ≡ is_some found
    → ((n : ℕ) → (found ≡ Some n) ↔ ((n ≤ 255) × (word ≡ decimal n))) → IsTrue b ↔ IsOctet word
octet word (Some n) b e h = (λ t. let p = (h n).0 refl in (n, p.0, p.1), λ o. e)
octet word None b e h = (λ t. absurd (cc), λ o. let k = (h o.0).1 (o.1, o.2) in absurd (cc))

pub port : (word : List ℕ) (found : Option ℕ) (b : Bool) → b ≡ is_some found
    → ((n : ℕ) → (found ≡ Some n) ↔ ((1 ≤ n) × (n ≤ 65535) × (word ≡ decimal n))) → IsTrue b ↔ IsPort word
port word (Some n) b e h = (λ t. let p = (h n).0 refl in (n, p.0, p.1, p.2), λ o. e)
port word None b e h = (λ t. absurd (cc), λ o. let k = (h o.0).1 (o.1, o.2, o.3) in absurd (cc))

-- What `strip_prefix` of two texts answers, in the words `starts_with` and `drop`.
use Rattle.std.proofs.Common.{◌≡◌, ◌==◌, ℕ, true, false, List, Option, None, Some, Bor, length, drop, sym, ap, subst, ◌∙◌}
use Rattle.std.specs.List.{starts_with}
use Rattle.std.specs.Option.{MatchOption}
use Rattle.std.specs.Str.Pattern.{FindsTextPrefix, StripsPrefix}
use Rattle.std.proofs.lemmas.Str.Pattern.{starts_text}

pub behind_is : (prefix text : List ℕ) (r : Option (Bor (List ℕ)))
    → MatchOption r (FindsTextPrefix prefix text None) (λ x. StripsPrefix (FindsTextPrefix prefix) text x.now)
    → MatchOption r (starts_with ◌==◌ text prefix ≡ false) (λ x. (starts_with ◌==◌ text prefix ≡ true) × (x.now ≡ drop (length prefix) text))
behind_is prefix text None h = sym (starts_text false prefix text h)
behind_is prefix text (Some x) h = (
  sym (starts_text true prefix text (length prefix, subst (λ k. FindsTextPrefix prefix text (Some k)) h.1.0 h.1, h.1.2)),
  h.2 ∙ ap (λ k. drop k text) h.1.0,
)

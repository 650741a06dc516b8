-- Parts of finite maps made from lists of entries.
use Rattle.std.proofs.Common.{◌≡◌, Bool, cond, List, sym, ap, ◌∙◌, None, Ordering}
use Rattle.std.specs.FinMap as map
use Rattle.std.specs.FinMap.{IsAntisymmetric}
use Rattle.std.specs.FinMap.Entries.{find-where_key}
use Rattle.std.specs.Cmp.{IsTotalOrder}
use Rattle.std.specs.List.{filter}
use Rattle.std.specs.declared.cmp.Ordering.TheVariants.{Equal}

-- a test answers alike at keys that tie
pub alike : {K : Type 0} {R : K → K → Ordering} → IsAntisymmetric R → (keep : K → Bool) (q x : K) → R q x ≡ Equal → keep x ≡ keep q
alike same keep q x tie = ap keep (sym (same q x tie))

-- the map of the entries whose keys pass a test
pub retain-from_filter : {K X : Type 0} {R : K → K → Ordering} (o : IsTotalOrder R) (same : IsAntisymmetric R) (keep : K → Bool) (es : List (K × X))
    → map.from_entries {R = R} (filter (λ e. keep e.0) es) ≡ map.retain_keys (map.from_entries {R = R} es) keep
retain-from_filter {R = R} o same keep es =
    map.same_map o same (map.from_entries (filter (λ e. keep e.0) es)) (map.retain_keys (map.from_entries es) keep)
    (λ q. map.get-from_entries o (filter (λ e. keep e.0) es) q
    ∙ find-where_key R keep q (alike same keep q) es
    ∙ ap (λ x. cond (keep q) x None) (sym (map.get-from_entries o es q))
    ∙ sym (map.get-retain_keys (map.from_entries es) keep q (alike same keep q)))

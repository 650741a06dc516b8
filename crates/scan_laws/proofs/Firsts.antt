-- How many folders are still to be listed.
use Rattle.std.proofs.Common.{◌≡◌, ℕ, ◌+◌, ◌≤◌, Bool, true, false, cond, ◌&&◌, T, List, [], ◌∷◌, refl, sym, ap, subst, ◌∙◌, Option, Some, None, Ordering, arith}
use Rattle.std.specs.FinMap as map
use Rattle.std.specs.FinMap.Entries.{below_all, by_order}
use Rattle.std.specs.Ordering.{is_eq, is_lt, eq_by_cmp}
use Rattle.std.specs.declared.cmp.Ordering.TheVariants.{Less, Equal, Greater}
use Rattle.std.proofs.lemmas.List.{nil_from_length}
use Rattle.sync_path.specs.Path.{path_cmp}
use Rattle.sync_path.specs.PathOrder.{path_cmp_total}
use Rattle.entry_tree.specs.Tree.{Names, ByPath}
use Rattle.entry_tree.proofs.Paths.{path_same}
use Rattle.scan_core.specs.Board.{first_in, without_in, advanced}
use Rattle.scan_core.specs.declared.board.Board.{Board}
use Rattle.scan_core.specs.declared.wanted.Next.{Next}
use Rattle.scan_core.specs.declared.wanted.Wanted.{Wanted}
use Rattle.scan_core.specs.declared.wanted.Wanted.TheVariants.{Names as WantedNames, Content}

abbrev pub one : Wanted → ℕ
one WantedNames = 1
one (Content stamp exec) = 0

abbrev pub one_next : Option Next → ℕ
one_next None = 0
one_next (Some next) = one next.wanted

abbrev pub names_in : List (Names × Wanted) → ℕ
names_in [] = 0
names_in (e ∷ es) = one e.1 + names_in es

-- how many folders are to be listed later
abbrev pub to_list : Board → ℕ
to_list b = names_in (map.entries b.later)

-- and the one that is listed next
abbrev pub pending : Board → ℕ
pending b = one_next b.next + to_list b

first : (a b : Bool) → T (a && b) → T a
first true b p = tt
first false b p = p

second : (a b : Bool) → T (a && b) → T b
second true b p = p
second false b p = absurd p

names_put : (k : Names) (w : Wanted) (es : List (Names × Wanted)) → names_in (map.put path_cmp k w es) ≤ one w + names_in es
names_put k w [] = omega arith
names_put k w (e ∷ es) =
    let rest : names_in (map.put path_cmp k w es) ≤ one w + names_in es = names_put k w es in
    elim (path_cmp k e.0) as (λ r. names_in (by_order r ((k, w) ∷ e ∷ es) ((e.0, w) ∷ es) (e ∷ map.put path_cmp k w es)) ≤ one w + (one e.1 + names_in es)) [
      | Less ↦ omega arith
      | Equal ↦ omega arith
      | Greater ↦ omega arith
    ]

pub names_insert : (later : ByPath Wanted) (k : Names) (w : Wanted) → names_in (map.entries (map.insert later k w)) ≤ one w + names_in (map.entries later)
names_insert later k w = subst (λ es. names_in es ≤ one w + names_in (map.entries later)) (sym (map.entries-insert path_cmp_total later k w)) (names_put k w (map.entries later))

is_not_eq : (r : Ordering) → T (is_lt r) → is_eq r ≡ false
is_not_eq Less p = refl
is_not_eq Equal p = absurd p
is_not_eq Greater p = absurd p

find_below : (k : Names) (es : List (Names × Wanted)) → T (below_all path_cmp k es) → map.find path_cmp k es ≡ None
find_below k [] h = refl
find_below k (e ∷ es) h =
    ap (λ b. cond b (Some e.1) (map.find path_cmp k es)) (is_not_eq (path_cmp k e.0) (first _ _ h)) ∙ find_below k es (second (is_lt (path_cmp k e.0)) _ h)

-- what is left once the first was taken off
pub rest_entries : (later : ByPath Wanted) (e : Names × Wanted) (es : List (Names × Wanted)) → map.entries later ≡ e ∷ es → map.entries (map.remove later e.0) ≡ es
rest_entries later e es is =
    let sorted : T (map.is_sorted path_cmp (e ∷ es)) = subst (λ l. T (map.is_sorted path_cmp l)) is (map.entries_sorted later) in
    let below = first (below_all path_cmp e.0 es) _ sorted in
    let rest = second (below_all path_cmp e.0 es) _ sorted in
    ap map.entries (map.same_map path_cmp_total path_same (map.remove later e.0) (map.from_sorted es)
    (λ q. map.get-remove path_cmp_total later e.0 q
    ∙ ap (cond (eq_by_cmp path_cmp q e.0) None) (map.get-entries later q ∙ ap (map.find path_cmp q) is)
    ∙ elim (eq_by_cmp path_cmp q e.0) as (λ b. eq_by_cmp path_cmp q e.0 ≡ b → cond b None (cond b (Some e.1) (map.find path_cmp q es)) ≡ map.find path_cmp q es) [
      | true ↦ λ same. sym (ap (λ x. map.find path_cmp x es) (path_same q e.0 (tied (path_cmp q e.0) same)) ∙ find_below e.0 es below)
      | false ↦ λ same. refl
    ] refl
    ∙ sym (map.get-from_sorted path_cmp es q rest)))
    ∙ map.entries-from_sorted path_cmp es rest
  where
    tied : (r : Ordering) → is_eq r ≡ true → r ≡ Equal
    tied Less h = absurd (cc)
    tied Equal h = refl
    tied Greater h = absurd (cc)

advanced_by : (b : Board) (es : List (Names × Wanted)) → map.entries b.later ≡ es → one_next (first_in es) + names_in (map.entries (without_in b.later es)) ≡ names_in es
advanced_by b [] is = let none : names_in (map.entries b.later) ≡ 0 = ap names_in is in omega arith
advanced_by b (e ∷ es) is = ap (λ l. one e.1 + names_in l) (rest_entries b.later e es is)

-- what comes next was to come
pub advanced_pending : (b : Board) → pending (advanced b) ≡ to_list b
advanced_pending b = advanced_by b (map.entries b.later) refl

pub nothing_later : names_in (map.entries (map.empty {X = Wanted} {R = path_cmp})) ≡ 0
nothing_later =
    ap names_in (nil_from_length (map.entries (map.empty {X = Wanted} {R = path_cmp})) (sym (map.len-entries (map.empty {X = Wanted} {R = path_cmp})) ∙ map.len-empty path_cmp Wanted))

-- Path order is a total order, whose ties are equal paths.
use Rattle.std.proofs.Common.{refl, subst, Some, eqb}
use Rattle.std.specs.Cmp.{IsPartialOrder, IsTotalOrder, Agrees}
use Rattle.std.specs.Cmp.Lexicographic.{slice_cmp, slice_partial_cmp, lists_po, lists_agrees, lists_total, nat_list_cmp_total, texts_po}
use Rattle.std.specs.Ordering.{nat_cmp}
use lib.Pointwise.{pointwise}
use Rattle.sync_path.specs.Path.{path_cmp}

pub path_cmp_total : IsTotalOrder path_cmp
path_cmp_total = lists_total nat_list_cmp_total

pub paths_po : IsPartialOrder (pointwise (pointwise eqb)) (λ xs ys. Some (path_cmp xs ys))
paths_po =
    let agrees : Agrees (slice_partial_cmp (λ x y. Some (slice_cmp nat_cmp x y))) path_cmp = lists_agrees (λ x y. refl) in
    subst (IsPartialOrder (pointwise (pointwise eqb))) (λ i xs ys. agrees xs ys i) (lists_po texts_po)

use Rattle.std.proofs.Common.{ℕ, List, sym, subst}
use Rattle.std.specs.Ordering.{nat_cmp}
use Rattle.std.specs.FinMap.{from_entries, get-empty}
use Rattle.mux_core.specs.declared.stream.Stream.{Stream}
use Rattle.mux_core.specs.Streams.{HasNoZero}
use Rattle.mux_core.proofs.stream_map.StreamMap.new.Goals as goal

pub invariant_of-result : goal.invariant_of-result
invariant_of-result c = let P : List (ℕ × Stream) → Type 0 = λ es. HasNoZero (from_entries es) in subst P (sym c.new.ensures.empty) (get-empty nat_cmp 0)

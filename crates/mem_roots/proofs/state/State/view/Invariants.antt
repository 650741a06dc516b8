use Rattle.std.proofs.Common.{◌≡◌, cond, None}
use Rattle.std.proofs.Common.{map as list_map}
use Rattle.std.specs.FinMap as finite
use Rattle.std.specs.Map.Iter.{deref_pair}
use Rattle.std.specs.Option.{option_map}
use Rattle.sync_path.specs.Path.{path_cmp}
use Rattle.entry_tree.specs.Tree.{Names}
use Rattle.finite_maps.proofs.MapLoops.{is_among}
use Rattle.roots_api.specs.Views.{atom_of}
use Rattle.mem_roots.proofs.state.State.view.Given as goal

-- what was yielded is there, as atoms, and nothing else
abbrev pub invariant-loop-path : goal.invariant-loop-path
invariant-loop-path l =
    (q : Names) → finite.get l.view q ≡ cond (is_among path_cmp (list_map deref_pair l.yielded) q) (option_map (atom_of l.self.ledger) (finite.get l.self.tree q)) None

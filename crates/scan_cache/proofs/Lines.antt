-- A cache's lines, in the words of the tree that keeps them.
use Rattle.std.proofs.Common.{◌≡◌, true, false, IsTrue, List, ℕ, sym, ap, ◌∙◌, Option, Some, None}
use Rattle.std.specs.FinMap as map
use Rattle.std.specs.BTreeMap as tree
use Rattle.std.specs.BTreeMap.{BTreeMap, Updates}
use Rattle.std.specs.Option.{is_some, option_and_then}
use Rattle.sync_path.specs.Path.{path_cmp}
use Rattle.sync_path.specs.PathOrder.{path_cmp_total}
use Rattle.entry_tree.specs.Tree.{Names, ByPath}
use Rattle.entry_tree.specs.declared.entry.Stamp.{Stamp}
use Rattle.finite_maps.proofs.TreeMaps.{get-from_tree, insert-from_tree}
use Rattle.entry_tree.proofs.Paths.{path_same}
use Rattle.scan_cache.specs.Cache.{digest_for, line_of, with_line}
use Rattle.scan_cache.specs.declared.line.Line.{Line}

module _ (lines : BTreeMap Names Line) (cache : ByPath Line) (view : map.from_entries {R = path_cmp} lines.entries ≡ cache) (path : Names) where
  -- what a search in the tree comes to
  pub found : (stamp : Stamp) (at : Option Line) → at ≡ tree.get path_cmp lines path → option_and_then (line_of stamp) at ≡ digest_for cache path stamp
  found stamp at is =
      ap (option_and_then (line_of stamp)) (is ∙ sym (get-from_tree path_cmp_total lines path))
      ∙ ap (λ (m : ByPath Line). digest_for m path stamp) view

  -- the cache of a tree in which a line was put
  pub put_line : (before after : BTreeMap Names Line) (line : Line) (stamp : Stamp) (digest : List ℕ)
      → before.entries ≡ lines.entries → line ≡ record { stamp = stamp; digest = digest } → Updates path_cmp before after path (Some line)
      → map.from_entries {R = path_cmp} after.entries ≡ with_line cache path stamp digest
  put_line before after line stamp digest same is put =
      insert-from_tree path_cmp_total path_same before after path line put
      ∙ (λ i. map.insert (map.from_entries {R = path_cmp} (same i)) path (is i))
      ∙ ap (λ (m : ByPath Line). with_line m path stamp digest) view

  -- a path that the tree doesn't have, the cache doesn't have
  pub not_there : tree.get path_cmp lines path ≡ None → IsTrue (map.contains_key cache path) → ⊥
  not_there none held =
      let at : map.get cache path ≡ None = sym (ap (λ (m : ByPath Line). map.get m path) view) ∙ get-from_tree path_cmp_total lines path ∙ none in
      let e : true ≡ false = sym held ∙ ap is_some at in
      cc

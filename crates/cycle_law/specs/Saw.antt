-- What a cycle saw of a side.
use Rattle.std.specs.Prelude.{ℕ, Bool, List, Option, Some, None}
use Rattle.std.specs.FinMap as map
use Rattle.std.specs.List.{filter_map}
use Rattle.std.specs.Option.{option_map}
use Rattle.sync_path.specs.Path.{path_cmp}
use Rattle.entry_tree.specs.Tree.{Names, ByPath}
use Rattle.entry_tree.specs.declared.atom.Atom.{Atom}
use Rattle.entry_tree.specs.declared.atom.Atom.TheVariants.{File}
use Rattle.entry_tree.specs.declared.entry.Entry.{Entry}
use Rattle.entry_tree.specs.declared.entry.Entry.TheVariants as entry
use Rattle.entry_tree.specs.declared.entry.Stamp.{Stamp}
use Rattle.entry_tree.specs.declared.side.Side.{Side}
use Rattle.roots_api.specs.declared.event.Span.{Span}
use Rattle.scan_laws.specs.ScanLists.{is_whole_scan}
use Rattle.scan_laws.specs.Seen.{held, paths_in, seen_at}
use Rattle.cycle_law.specs.Cycles.{Session, Cycle, Ground, log_of, scanned_on}

-- how many bytes a piece has
abbrev pub span_length : Span → ℕ
span_length span = span.length

-- the entries that some points give, as a map from paths
abbrev pub by_points : {X : Type 0} → List Names → (Names → Option X) → ByPath X
by_points paths point = map.from_entries {R = path_cmp} (filter_map (λ p. option_map (λ x. (p, x)) (point p)) paths)

-- the stamp of a file that is seen at a path
abbrev pub stamp_seen : Option Atom → Option Entry → Option Stamp
stamp_seen (Some (File digest exec)) (Some (entry.File stamp bit)) = Some stamp
stamp_seen atom found = None

module _ (session : Session) (g : Ground) (c : Cycle) (side : Side) where
  -- what a cycle saw of a side at a path: the digest of a file is that of its stamp's content
  abbrev pub saw_at : Names → Option Atom
  saw_at p = seen_at span_length session.rules session.size (scanned_on g c side) (λ path stamp. (log_of g side).digest stamp) p

  -- WHAT A CYCLE SAW of a side
  abbrev pub saw : ByPath Atom
  saw = by_points (paths_in (scanned_on g c side)) saw_at

  -- the stamps of the files that it saw there
  abbrev pub stamps_seen : ByPath Stamp
  stamps_seen = by_points (paths_in (scanned_on g c side)) (λ p. stamp_seen (saw_at p) (held span_length session.rules session.size (scanned_on g c side) p))

  -- whether its scan of the side was whole
  abbrev pub is_whole_on : Bool
  is_whole_on = is_whole_scan span_length session.entries session.rules session.size (scanned_on g c side)

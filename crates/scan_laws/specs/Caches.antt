-- What the cache of a side knows once a scan has seen it.
use Rattle.std.specs.Prelude.{◌≡◌, ℕ, Bool, true, List, [], ◌∷◌, Some, is_some}
use Rattle.std.specs.FinMap as map
use Rattle.entry_tree.specs.Tree.{Names, ByPath}
use Rattle.entry_tree.specs.declared.atom.Atom.TheVariants.{File}
use Rattle.entry_tree.specs.declared.entry.Stamp.{Stamp}
use Rattle.scan_cache.specs.Cache.{digest_for}
use Rattle.scan_cache.specs.declared.line.Line.{Line}
use Rattle.scan_core.specs.Scan.{ScanState, ScanTold, new_state, state_of, after_told, learns, IsTaken}
use Rattle.scan_core.specs.Told.{Told}

-- all takes were given one cache, which nothing else changed between them: it began as the first, and came to the last
abbrev pub IsOneCache : ℕ → ScanState → ByPath Line → List Told → ByPath Line → Type 0
IsOneCache size s cache [] after = after ≡ cache
IsOneCache size s cache (t ∷ ts) after = (t.cache ≡ cache) × IsOneCache size (after_told size s t) (learns size s t) ts after

-- Each file that was seen has the digest that the cache's line for its path and stamp has.
abbrev pub FilesAreKnown : Type 0
FilesAreKnown =
    (m : ScanTold) (before after : ByPath Line) → IsTaken m → IsOneCache m.size new_state before m.told after
    → (q : Names) (digest : List ℕ) (exec : Bool) (stamp : Stamp)
    → map.get (state_of m).board.seen q ≡ Some (File digest exec) → map.get (state_of m).board.stamps q ≡ Some stamp → digest_for after q stamp ≡ Some digest

-- No path loses its line: at most another one takes its place.
abbrev pub LinesStay : Type 0
LinesStay =
    (m : ScanTold) (before after : ByPath Line) → IsOneCache m.size new_state before m.told after
    → (q : Names) → is_some (map.get before q) ≡ true → is_some (map.get after q) ≡ true

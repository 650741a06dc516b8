-- A scan asks and sees what the points say.
use Rattle.std.specs.Prelude.{◌≡◌, ℕ, true, List, [], ◌∷◌, length, unwrap_or, None, is_some, ⊤, Bool, not}
use Rattle.std.specs.FinMap as map
use Rattle.entry_tree.specs.Tree.{Names, ByPath}
use Rattle.entry_tree.specs.declared.entry.Stamp.{Stamp}
use Rattle.ignore_glob.specs.Grammar.{Meaning}
use Rattle.scan_cache.specs.Cache.{digest_for}
use Rattle.scan_cache.specs.declared.line.Line.{Line}
use Rattle.scan_core.specs.Scan.{ScanTold, new_state, state_of, asked, IsTaken}
use Rattle.scan_core.specs.Told.{Told}
use Rattle.scan_laws.specs.Bounds.{heard_by}
use Rattle.scan_laws.specs.Caches.{IsOneCache}
use Rattle.scan_laws.specs.ScanLists.{is_scan_list, is_whole_list, is_whole_scan}
use Rattle.scan_laws.specs.Seen.{asked_next, seen_at, seen_so_far}

-- all takes were given these rules
abbrev pub HaveRules : List Meaning → List Told → Type 0
HaveRules rules [] = ⊤
HaveRules rules (t ∷ ts) = (t.rules ≡ rules) × HaveRules rules ts

-- A scan that was told this: all its takes were given the same rules, and one cache, which began as one and came to another.
pub record IsScanned (m : ScanTold) (rules : List Meaning) (before after : ByPath Line) : Type 0 where
  pub taken : IsTaken m
  pub one_rules : HaveRules rules m.told
  pub one_cache : IsOneCache m.size new_state before m.told after

-- whether a cache spares the Fetch of a file: it has a line for its path and stamp
abbrev pub spared_by : ByPath Line → Names → Stamp → Bool
spared_by cache path stamp = is_some (digest_for cache path stamp)

-- the digest that a cache has for a path and a stamp
abbrev pub digest_in : ByPath Line → Names → Stamp → List ℕ
digest_in cache path stamp = unwrap_or (digest_for cache path stamp) []

-- A scan asks next what the points say, where those files are spared that the cache knew as the scan began.
abbrev pub AsksWhatPointsSay : Type 0
AsksWhatPointsSay =
    (m : ScanTold) (rules : List Meaning) (before after : ByPath Line) → IsScanned m rules before after
    → asked (state_of m) ≡ asked_next length rules m.size (heard_by m) (spared_by before)

-- What it has seen is what is settled of the seen tree, with the digests that the cache has in the end.
abbrev pub SeesWhatPointsSay : Type 0
SeesWhatPointsSay =
    (m : ScanTold) (rules : List Meaning) (before after : ByPath Line) → IsScanned m rules before after → (q : Names)
    → map.get (state_of m).board.seen q ≡ seen_so_far length rules m.size (heard_by m) (spared_by before) (digest_in after) q

-- A whole scan has seen the seen tree.
abbrev pub WholeSeesSeenTree : Type 0
WholeSeesSeenTree =
    (m : ScanTold) (rules : List Meaning) (before after : ByPath Line) → IsScanned m rules before after → asked (state_of m) ≡ None → (q : Names)
    → map.get (state_of m).board.seen q ≡ seen_at length rules m.size (heard_by m) (digest_in after) q

-- What it asked and was answered is a scan's list.
abbrev pub AsksAScansList : Type 0
AsksAScansList =
    (m : ScanTold) (rules : List Meaning) (before after : ByPath Line) → IsScanned m rules before after
    → is_scan_list length m.entries rules m.size (spared_by before) (heard_by m) ≡ true

-- It is a whole list exactly where nothing is asked next.
abbrev pub WholeHasNoNext : Type 0
WholeHasNoNext =
    (m : ScanTold) (rules : List Meaning) (before after : ByPath Line) → IsScanned m rules before after
    → is_whole_list length m.entries rules m.size (spared_by before) (heard_by m) ≡ not (is_some (asked (state_of m)))

-- Then it is a whole scan, by the list alone.
abbrev pub WholeIsWholeScan : Type 0
WholeIsWholeScan =
    (m : ScanTold) (rules : List Meaning) (before after : ByPath Line) → IsScanned m rules before after → asked (state_of m) ≡ None
    → is_whole_scan length m.entries rules m.size (heard_by m) ≡ true

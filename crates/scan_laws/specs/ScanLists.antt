-- Which lists of operations and answers a scan asks, and which are whole.
use Rattle.std.specs.Prelude.{ℕ, ◌+◌, ◌==◌, Bool, true, false, not, ◌&&◌, cond, List, [], ◌∷◌, ◌++◌, length, nat_lt, Option, Some, is_some}
use Rattle.entry_tree.specs.Tree.{Names}
use Rattle.entry_tree.specs.declared.entry.Stamp.{Stamp}
use Rattle.ignore_glob.specs.Grammar.{Meaning}
use Rattle.roots_api.specs.Answers.{is_failed, is_full}
use Rattle.roots_api.specs.Logs.{rows_in}
use Rattle.roots_api.specs.declared.op.Op.{Op}
use Rattle.roots_api.specs.declared.op.Op.TheVariants.{List as OpList, Fetch}
use Rattle.scan_laws.specs.Seen.{Heard, same_path, fetched, asked_next}

-- whether this is asked next
abbrev pub is_next : Option Op → Op → Bool
is_next (Some (OpList p)) (OpList q) = same_path p q
is_next (Some (Fetch p s n)) (Fetch q t m) = same_path p q && ((s.0 == t.0) && (n == m))
is_next next op = false

-- whether an operation is a List
abbrev pub is_list : Op → Bool
is_list (OpList path) = true
is_list op = false

-- how many rows were listed
abbrev pub rows_heard : {B : Type 0} → List (Heard B) → ℕ
rows_heard [] = 0
rows_heard (h ∷ hs) = rows_in h.answer + rows_heard hs

module _ {B : Type 0} (len : B → ℕ) (entries : ℕ) (rules : List Meaning) (size : ℕ) where
  -- whether an answer ends a scan: the root is full, the List of a folder failed, or more rows were listed than a side may have
  abbrev pub is_end : List (Heard B) → Heard B → Bool
  is_end before h = cond (is_full h.answer) true (cond (is_list h.op && is_failed h.answer) true (nat_lt entries (rows_heard before + rows_in h.answer)))

  module _ (spares : Names → Stamp → Bool) where
    -- whether, behind what was heard before, each of these is what is asked next, and its answer ends nothing
    abbrev pub goes_on : List (Heard B) → List (Heard B) → Bool
    goes_on before [] = true
    goes_on before (h ∷ hs) = is_next (asked_next len rules size before spares) h.op && (not (is_end before h) && goes_on (before ++ h ∷ []) hs)

    -- IS A SCAN'S LIST, where these files are spared
    abbrev pub is_scan_list : List (Heard B) → Bool
    is_scan_list hs = goes_on [] hs

    -- and nothing is left to ask
    abbrev pub is_whole_list : List (Heard B) → Bool
    is_whole_list hs = is_scan_list hs && not (is_some (asked_next len rules size hs spares))

  -- no Fetch of a path stands in a list
  abbrev pub is_unfetched : List (Heard B) → Names → Stamp → Bool
  is_unfetched hs p stamp = nat_lt (length (fetched len rules size hs p)) 1

  -- A WHOLE SCAN: a scan with a cache that spares each file without a Fetch in the list asks just this, and has nothing left to ask
  abbrev pub is_whole_scan : List (Heard B) → Bool
  is_whole_scan hs = is_whole_list (is_unfetched hs) hs

-- A session, its cycles, and what its two roots and its keeper have of them.
use Rattle.std.specs.Prelude.{ℕ, ◌-◌, ◌==◌, Bool, false, ◌&&◌, List, [], ◌∷◌, nat_lt, Option, Some, None, if◌then◌else◌, ◌||◌}
use Rattle.std.specs.List.{filter_map}
use Rattle.entry_tree.specs.Tree.{ByPath}
use Rattle.entry_tree.specs.declared.atom.Atom.{Atom}
use Rattle.entry_tree.specs.declared.entry.Stamp.{Stamp}
use Rattle.entry_tree.specs.declared.side.Side.{Side}
use Rattle.entry_tree.specs.declared.side.Side.TheVariants.{Alpha, Beta}
use Rattle.frame_text.specs.declared.payload.Payload.{Payload}
use Rattle.ignore_glob.specs.Grammar.{Meaning}
use Rattle.mode_rules.specs.declared.mode.Mode.{Mode}
use Rattle.roots_api.specs.declared.answer.Answer.{Answer}
use Rattle.roots_api.specs.declared.event.Deed.{Deed}
use Rattle.roots_api.specs.declared.event.Deed.TheVariants.{Asked, Edited}
use Rattle.roots_api.specs.declared.event.Event.{Event}
use Rattle.roots_api.specs.declared.event.Span.{Span}
use Rattle.roots_api.specs.declared.who.Who.{Who}
use Rattle.roots_api.specs.declared.who.Who.TheVariants.{Editor, Session as OfSession}
use Rattle.scan_laws.specs.Bounds.{is_fetch}
use Rattle.scan_laws.specs.ScanLists.{is_list}
use Rattle.scan_laws.specs.Seen.{Heard}

-- A session's mode and rules, how many rows a side may have, and how many bytes a file.
pub record Session : Type 0 where
  pub mode : Mode
  pub rules : List Meaning
  pub entries : ℕ
  pub size : ℕ

-- One cycle of a session: its run and its number; its base, the number of frames that had been acknowledged when its scans began; and how many of
-- its Fetches on each side are of its scans. All later ones are of its staging.
pub record Cycle : Type 0 where
  pub run : ℕ
  pub number : ℕ
  pub base : ℕ
  pub alpha_scans : ℕ
  pub beta_scans : ℕ

-- What a root has of a session: its events, the oldest first, and the digest of the content that each stamp names.
pub record SideLog : Type 0 where
  pub events : List Event
  pub digest : Stamp → List ℕ

-- What there is of a session: the logs of its two roots, and its frames, the oldest first.
pub record Traces : Type 0 where
  pub alpha : SideLog
  pub beta : SideLog
  pub frames : List Payload

-- What a cycle stood on: the logs of its two roots, and its ancestor.
pub record Ground : Type 0 where
  pub alpha : SideLog
  pub beta : SideLog
  pub ancestor : ByPath Atom

-- the log of a side
abbrev pub log_of : Ground → Side → SideLog
log_of g Alpha = g.alpha
log_of g Beta = g.beta

-- how many of a cycle's Fetches on a side are of its scan
abbrev pub scans_of : Cycle → Side → ℕ
scans_of c Alpha = c.alpha_scans
scans_of c Beta = c.beta_scans

-- whether a cycle made an event
abbrev pub is_of_cycle : Cycle → Who → Bool
is_of_cycle c Editor = false
is_of_cycle c (OfSession id run cycle) = (run == c.run) && (cycle == c.number)

-- what was asked and answered, if a deed is an operation
abbrev pub heard_of : Deed → Answer Span → Option (Heard Span)
heard_of (Asked op) answer = Some (record { op = op; answer = answer })
heard_of (Edited edit) answer = None

abbrev pub asked_by : Cycle → Event → Option (Heard Span)
asked_by c e = if is_of_cycle c e.who then heard_of e.deed e.answer else None

-- all that a cycle asked on a side, with the answers, in order
abbrev pub heard_on : Cycle → SideLog → List (Heard Span)
heard_on c log = filter_map (asked_by c) log.events

-- The part of it that is a scan's: its Lists, and so many of its first Fetches.
abbrev pub scan_part : ℕ → List (Heard Span) → List (Heard Span)
scan_part n [] = []
scan_part n (h ∷ hs) =
    if is_list h.op then h ∷ scan_part n hs
    else (if is_fetch h.op && nat_lt 0 n then h ∷ scan_part (n - 1) hs
    else (if is_fetch h.op then scan_part 0 hs else scan_part n hs))

-- what a cycle's scan asked on a side
abbrev pub scanned_on : Ground → Cycle → Side → List (Heard Span)
scanned_on g c side = scan_part (scans_of c side) (heard_on c (log_of g side))

-- whether a cycle comes before another: in an earlier run, or in the same one with a lower number
abbrev pub is_earlier : ℕ → ℕ → ℕ → ℕ → Bool
is_earlier run number other_run other_number = nat_lt run other_run || ((run == other_run) && nat_lt number other_number)

-- What conserves: the law of a session over its cycles.
use Rattle.std.specs.Prelude.{ℕ, ◌+◌, Bool, true, false, not, ◌&&◌, ◌==◌, List, [], ◌∷◌, nat_le, if◌then◌else◌, ◌||◌}
use Rattle.std.specs.List.{list_all, list_any}
use Rattle.entry_tree.specs.declared.side.Side.{Side}
use Rattle.entry_tree.specs.declared.side.Side.TheVariants.{Alpha, Beta}
use Rattle.frame_text.specs.declared.payload.Payload.{Payload}
use Rattle.frame_text.specs.declared.payload.Payload.TheVariants.{Agree, Reset, Whole}
use Rattle.roots_api.specs.declared.event.Span.{Span}
use Rattle.scan_laws.specs.Bounds.{is_fetch}
use Rattle.scan_laws.specs.ScanLists.{is_list}
use Rattle.scan_laws.specs.Seen.{Heard}
use Rattle.cycle_law.specs.Cycles.{Session, Cycle, Ground, SideLog, Traces, heard_on, is_earlier}
use Rattle.cycle_law.specs.Frames.{frames_of, frames_are_sound}
use Rattle.cycle_law.specs.Licences.{are_licensed, wants_licence, is_left}
use Rattle.cycle_law.specs.Ordering.{changing_on, changes_in_order, changes_at_rest, places_as_seen}
use Rattle.cycle_law.specs.Plans.{ground_of, may_act}

abbrev pub is_nil : {A : Type 0} → List A → Bool
is_nil [] = true
is_nil (x ∷ xs) = false

-- ---- one cycle

module _ (session : Session) (g : Ground) (c : Cycle) where
  -- on a side all that was changed was in order, at rest and as seen; and what was taken away was licensed, where the mode says so
  abbrev pub side_conserves : Side → Bool
  side_conserves side =
      if is_left session.mode side then is_nil (changing_on g c side)
      else (changes_in_order session g c side && (changes_at_rest session g c side && (places_as_seen session g c side
      && (not (wants_licence session.mode side) || are_licensed session g c side))))

  -- a cycle that may not act changed nothing, and has no frame
  abbrev pub is_idle : List Payload → Bool
  is_idle frames = is_nil (changing_on g c Alpha) && (is_nil (changing_on g c Beta) && is_nil (frames_of frames c))

  -- A CYCLE CONSERVES, in a session with these frames
  abbrev pub cycle_conserves : List Payload → Bool
  cycle_conserves frames =
      if may_act session g c then side_conserves Alpha && (side_conserves Beta && frames_are_sound session g c frames) else is_idle frames

-- ---- bases, and numbers of scan Fetches

-- the frames from the first agree frame on of this cycle or a later one
abbrev pub is_before : Cycle → Payload → Bool
is_before c (Agree version run cycle lines) = is_earlier run cycle c.run c.number
is_before c (Reset number) = true
is_before c (Whole run cycle served lines) = true

-- how many frames stand before the first agree frame of this cycle or a later one
abbrev pub most_base : Cycle → List Payload → ℕ
most_base c [] = 0
most_base c (payload ∷ payloads) = if is_before c payload then 1 + most_base c payloads else 0

-- the number of the last agree frame of an earlier cycle, counted from 0, or else of the first frame that may be counted: a whole frame lies below every base
abbrev pub least_from : Cycle → ℕ → ℕ → List Payload → ℕ
least_from c place least [] = least
least_from c place least (Agree version run cycle lines ∷ payloads) = least_from c (1 + place) (if is_earlier run cycle c.run c.number then place else least) payloads
least_from c place least (Reset number ∷ payloads) = least_from c (1 + place) least payloads
least_from c place least (Whole run cycle served lines ∷ payloads) = least_from c (1 + place) (1 + place) payloads

abbrev pub least_base : Cycle → List Payload → ℕ
least_base c payloads = least_from c 0 0 payloads

-- whether a base is allowed
abbrev pub has_allowed_base : List Payload → Cycle → Bool
has_allowed_base frames c = nat_le (least_base c frames) c.base && nat_le c.base (most_base c frames)

-- how many Fetches stand before the last List
abbrev pub fetches_before_last : ℕ → ℕ → List (Heard Span) → ℕ
fetches_before_last fetches found [] = found
fetches_before_last fetches found (h ∷ hs) =
    if is_list h.op then fetches_before_last fetches fetches hs
    else fetches_before_last (if is_fetch h.op then 1 + fetches else fetches) found hs

-- whether the Fetches of a cycle's scan on a side reach up to its last List there
abbrev pub has_allowed_scans : SideLog → Cycle → ℕ → Bool
has_allowed_scans log c scans = nat_le (fetches_before_last 0 0 (heard_on c log)) scans

-- whether cycles stand in order, and their bases don't fall
abbrev pub are_in_turn : List Cycle → Bool
are_in_turn [] = true
are_in_turn (c ∷ []) = true
are_in_turn (c ∷ next ∷ cycles) = is_earlier c.run c.number next.run next.number && (nat_le c.base next.base && are_in_turn (next ∷ cycles))

-- ---- a session

-- a whole frame's run and cycle, if the first frame is one
abbrev pub is_spoken_of : List Payload → Cycle → Bool
is_spoken_of [] c = true
is_spoken_of (Agree version run cycle lines ∷ payloads) c = true
is_spoken_of (Reset number ∷ payloads) c = true
is_spoken_of (Whole run cycle served lines ∷ payloads) c = is_earlier run cycle c.run c.number

-- whether a frame is of one of these cycles, or has none
abbrev pub is_of_one : List Cycle → Payload → Bool
is_of_one cycles (Agree version run cycle lines) = list_any (λ (c : Cycle). (run == c.run) && (cycle == c.number)) cycles
is_of_one cycles (Reset number) = true
is_of_one cycles (Whole run cycle served lines) = true

-- whether a cycle that is spoken of has an allowed base and allowed numbers of scan Fetches, and conserves
abbrev pub is_lawful : Session → Traces → Cycle → Bool
is_lawful session t c =
    not (is_spoken_of t.frames c)
    || (has_allowed_base t.frames c && (has_allowed_scans t.alpha c c.alpha_scans && (has_allowed_scans t.beta c c.beta_scans && cycle_conserves session (ground_of t c) c t.frames)))

-- WHAT CONSERVES: a session with these cycles, in order
abbrev pub conserves : Session → List Cycle → Traces → Bool
conserves session cycles t = are_in_turn cycles && (list_all (is_of_one cycles) t.frames && list_all (is_lawful session t) cycles)

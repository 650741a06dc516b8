-- What a disk in memory holds, from what it held at first and what happened since.
use Rattle.std.specs.Prelude.{◌≡◌, ℕ, List, [], ◌∷◌, take}
use Rattle.disk_model.specs.Content.{Content, MayTearTo, written_over, settled, changed, write_change, cut_change}
use Rattle.disk_model.specs.declared.event.Event.{Event}
use Rattle.disk_model.specs.declared.event.Event.TheVariants.{Wrote, CutTo, Synced}

-- a content after an event
abbrev pub after : Content → Event → Content
after now (Wrote place count made) = changed now (write_change place count now) (written_over now.bytes place (take count made.items))
after now (CutTo n) = changed now (cut_change n now) (take n now.bytes)
after now Synced = settled now.bytes

-- the content after these events
abbrev pub content_after : Content → List Event → Content
content_after now [] = now
content_after now (event ∷ events) = content_after (after now event) events

-- the contents before it, the newest first
abbrev pub past_after : List Content → Content → List Event → List Content
past_after past now [] = past
past_after past now (event ∷ events) = past_after (now ∷ past) (after now event) events

-- all its contents, the newest first
abbrev pub history_of : List ℕ → List Event → List Content
history_of first events = content_after (settled first) events ∷ past_after [] (settled first) events

-- An event happens to the bytes that reads give, and is torn in an image.
abbrev pub TearsEvent : Event → List ℕ → List ℕ → List ℕ → List ℕ → Type 0
TearsEvent event bytes image bytes' image' =
    (now : Content) → now.bytes ≡ bytes → MayTearTo now image → ((after now event).bytes ≡ bytes') × MayTearTo (after now event) image'

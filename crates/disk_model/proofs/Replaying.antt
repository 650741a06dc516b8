-- One more event.
use Rattle.std.proofs.Common.{◌≡◌, inl, inr, ℕ, ◌≤◌, cond, List, [], ◌∷◌, ◌++◌, length, take, Vec, Result, Ok, Err, OnOk, OnErr, IsOk, is_ok, refl, ap, sym, ◌∙◌}
use Rattle.std.proofs.lemmas.List.{take_all}
use Rattle.std.specs.declared.alloc.Global.{Global}
use Rattle.disk_model.specs.Content.{Content, settled, changed, write_change, written_over}
use Rattle.disk_model.specs.Disk.{WritesPart, FailsInPart}
use Rattle.disk_model.specs.Replay.{after, content_after, past_after, history_of}
use Rattle.disk_model.proofs.Overwriting.{written_tears}
use Rattle.disk_model.specs.declared.event.Event.{Event}
use Rattle.disk_model.specs.declared.event.Event.TheVariants.{Wrote, Synced}

content_after-push : (now : Content) (events : List Event) (event : Event) → content_after now (events ++ event ∷ []) ≡ after (content_after now events) event
content_after-push now [] event = refl
content_after-push now (e ∷ events) event = content_after-push (after now e) events event

past_after-push : (past : List Content) (now : Content) (events : List Event) (event : Event) → past_after past now (events ++ event ∷ []) ≡ content_after now events ∷ past_after past now events
past_after-push past now [] event = refl
past_after-push past now (e ∷ events) event = past_after-push (now ∷ past) (after now e) events event

-- the newest content after one more event
pub content_after-more : (first : List ℕ) (events more : List Event) (event : Event) → more ≡ events ++ event ∷ [] → content_after (settled first) more ≡ after (content_after (settled first) events) event
content_after-more first events more event is = ap (content_after (settled first)) is ∙ content_after-push (settled first) events event

-- all of them
pub history_of-more : (first : List ℕ) (events more : List Event) (event : Event) → more ≡ events ++ event ∷ [] → history_of first more ≡ after (content_after (settled first) events) event ∷ history_of first events
history_of-more first events more event is =
    ap (history_of first) is ∙ ap (λ now. now ∷ past_after [] (settled first) (events ++ event ∷ [])) (content_after-push (settled first) events event)
    ∙ ap (λ past. after (content_after (settled first) events) event ∷ past) (past_after-push [] (settled first) events event)

-- A write that was made in part, or for which there was no memory, is one that failed.
pub part_fails : {T E : Type 0} (r : Result T E) (place count : ℕ) (made : List ℕ) (now : Content) (past new : List Content) → length made ≤ count
    → OnOk r (WritesPart place count made (now ∷ past) new) → OnErr r (new ≡ now ∷ past) → FailsInPart (write_change place count) (now ∷ past) new
part_fails (Ok x) place count made now past new within ok err = inr (_, written_tears now.bytes place count made within, ok)
part_fails (Err e) place count made now past new within ok err = inl err

-- what a push that succeeded has made of a list
pub pushed_if_ok : {X T E : Type 0} (r : Result T E) (new more old : List X) → IsOk r → new ≡ cond (is_ok r) more old → new ≡ more
pushed_if_ok (Ok x) new more old ok is = is
pushed_if_ok (Err e) new more old ok is = absurd cc

-- reads give the same after a sync, noted or not
pub bytes_when_settled : {T E : Type 0} (r : Result T E) (first bytes : List ℕ) (events more : List Event) → more ≡ cond (is_ok r) (events ++ Synced ∷ []) events
    → bytes ≡ (content_after (settled first) events).bytes → bytes ≡ (content_after (settled first) more).bytes
bytes_when_settled (Ok x) first bytes events more is bytes-are = bytes-are ∙ ap (λ (now : Content). now.bytes) (sym (content_after-more first events more Synced is))
bytes_when_settled (Err e) first bytes events more is bytes-are = bytes-are ∙ ap (λ l. (content_after (settled first) l).bytes) (sym is)

-- a write that was made whole or in part, as it is noted
pub written_is : (now : Content) (place count : ℕ) (kept : Vec ℕ Global) (made : List ℕ) → kept.items ≡ made → length made ≤ count
    → after now (Wrote place count kept) ≡ changed now (write_change place count now) (written_over now.bytes place made)
written_is now place count kept made is within =
    let part : take count kept.items ≡ made = ap (take count) is ∙ take_all count made within in
    ap (λ l. changed now (write_change place count now) (written_over now.bytes place l)) part

-- What a crash makes of an image, event by event.
use Rattle.std.proofs.Common.{◌≡◌, ℕ, ◌+◌, ◌≤◌, ◌<◌, min, List, [], ◌∷◌, ◌++◌, length, take, get_or, Vec, ap, sym, subst, ◌∙◌, arith}
use Rattle.std.proofs.lemmas.List.{take-take, take_min, take_more}
use Rattle.std.specs.declared.alloc.Global.{Global}
use Rattle.disk_model.specs.Content.{Content, MayTearTo, TornWrite, settled, written_over}
use Rattle.disk_model.proofs.Overwriting.{written_tears}
use Rattle.disk_model.specs.Replay.{after, content_after, TearsEvent}
use Rattle.disk_model.specs.declared.event.Event.{Event}
use Rattle.disk_model.specs.declared.event.Event.TheVariants.{Wrote}
use Rattle.disk_model.proofs.Replaying.{content_after-more}

-- a write within the bytes that are there
pub tears_at : (old new : List ℕ) (place count : ℕ) (bytes : List ℕ) → place ≤ length old → length bytes ≤ count → new ≡ written_over old place bytes → TornWrite place (place + count) old new
tears_at old new place count bytes inside within is =
    let at : min place (length old) ≡ place = omega arith in
    subst (λ l. TornWrite place (place + count) old l) (sym is) (subst (λ n. TornWrite n (place + count) old (written_over old place bytes)) at (written_tears old place count bytes within))

-- a torn write may have reached from further on
tears_from : (old new : List ℕ) (from place upto : ℕ) → from ≤ place → TornWrite place upto old new → TornWrite from upto old new
tears_from old new from place upto le torn = record {
  before = sym (take-take from place new le) ∙ ap (take from) torn.before ∙ take-take from place old le;
  behind = torn.behind;
  no_shorter = torn.no_shorter;
  no_longer = torn.no_longer;
}

pub write_tears : (event : Event) (place count n : ℕ) (made : Vec ℕ Global) (bytes image bytes' image' : List ℕ) → event ≡ Wrote place count made → n ≡ min (length made.items) count
    → bytes' ≡ written_over bytes place (take n made.items) → TornWrite place (place + count) image image' → TearsEvent event bytes image bytes' image'
write_tears event place count n made bytes image bytes' image' event-is n-is is torn now reads may_leave =
    let swap : n ≡ min count (length made.items) = omega (arith, n-is) in
    let part : take count made.items ≡ take n made.items = sym (ap (λ k. take k made.items) swap ∙ take_min count made.items) in
    subst (λ e. ((after now e).bytes ≡ bytes') × MayTearTo (after now e) image') (sym event-is) (
      ap (λ l. written_over l place (take count made.items)) reads ∙ ap (λ l. written_over bytes place l) part ∙ sym is,
      (image, may_leave, tears_from image image' (min place (length now.bytes)) place (place + count) (omega arith) torn),
    )

-- one more event of a list
pub torn_more : (first : List ℕ) (events : List Event) (i : ℕ) (event : Event) (bytes image bytes' image' : List ℕ) → i < length events → event ≡ get_or events i event
    → (content_after (settled first) (take i events)).bytes ≡ bytes → MayTearTo (content_after (settled first) (take i events)) image → TearsEvent event bytes image bytes' image'
    → ((content_after (settled first) (take (i + 1) events)).bytes ≡ bytes') × MayTearTo (content_after (settled first) (take (i + 1) events)) image'
torn_more first events i event bytes image bytes' image' lt is reads may_leave tears =
    let more = content_after-more first (take i events) (take (i + 1) events) event (take_more events i event lt ∙ ap (λ e. take i events ++ e ∷ []) (sym is)) in
    subst (λ (now : Content). (now.bytes ≡ bytes') × MayTearTo now image') (sym more) (tears (content_after (settled first) (take i events)) reads may_leave)

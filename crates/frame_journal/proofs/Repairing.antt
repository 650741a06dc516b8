-- What a cut behind a gate, and a first gate, leave of a file.
use Rattle.std.proofs.Common.{◌≡◌, inl, inr, ℕ, zero, suc, ◌+◌, ◌-◌, ◌≤◌, min, List, [], ◌∷◌, ◌++◌, length, take, refl, ap, sym, ◌∙◌, arith}
use Rattle.std.proofs.lemmas.List.{length-append, take_all}
use Rattle.disk_model.specs.Content.{TornWrite, TornCut, written_over}
use Rattle.disk_model.proofs.Overwriting.{take-append}
use Rattle.frame_journal.specs.Layout.{frames, OpensWith, IsAtRest}
use Rattle.frame_journal.specs.Reading.{EndsAt}

-- the front of a file up to its shut gate, and some of what stands behind
past_gate : (payloads : List (List ℕ)) (place gate n : ℕ) (rest : List ℕ) → place ≡ length (frames payloads) → place + 1 ≤ n → take n (frames payloads ++ gate ∷ rest) ≡ frames payloads ++ gate ∷ take (n - (place + 1)) rest
past_gate payloads place gate n rest at long =
    let more : n - length (frames payloads) ≡ suc (n - (place + 1)) = omega (arith, at, long) in
    take-append n (frames payloads) (gate ∷ rest) ∙ ap (λ l. l ++ take (n - length (frames payloads)) (gate ∷ rest)) (take_all n (frames payloads) (omega (arith, at, long)))
    ∙ ap (λ k. frames payloads ++ take k (gate ∷ rest)) more

-- a cut behind the gate, torn anyhow
pub cut_opens : (payloads : List (List ℕ)) (place : ℕ) (file image : List ℕ) → EndsAt payloads place file → TornCut (place + 1) file image → OpensWith payloads image
cut_opens payloads place file image ends torn =
    let e = ends.ends in
    let size : place + 1 ≤ length file = omega (arith, ap length e.split, length-append (frames payloads) (e.gate ∷ e.rest), ends.at) in
    let long : place + 1 ≤ length image = omega (arith, torn.no_shorter, size) in
    inr (record {
      gate = e.gate;
      rest = take (length image - (place + 1)) e.rest;
      split = sym torn.front ∙ ap (take (length image)) e.split ∙ past_gate payloads place e.gate (length image) e.rest ends.at long;
      shut = e.shut;
      fit = e.fit;
    })

-- the same cut, made
pub cut_rests : (payloads : List (List ℕ)) (place : ℕ) (file : List ℕ) → EndsAt payloads place file → IsAtRest payloads place (take (place + 1) file)
cut_rests payloads place file ends =
    let e = ends.ends in
    let none : place + 1 - (place + 1) ≡ zero = omega arith in
    record {
      gate = e.gate;
      split = ap (take (place + 1)) e.split ∙ past_gate payloads place e.gate (place + 1) e.rest ends.at (omega arith) ∙ ap (λ k. frames payloads ++ e.gate ∷ take k e.rest) none;
      shut = e.shut;
      fit = e.fit;
      at = ends.at;
    }

-- a first gate, torn anyhow
pub first_opens : (file image : List ℕ) → length file ≤ 1 → TornWrite (min 0 (length file)) (0 + 1) file image → OpensWith [] image
first_opens file image short torn = inl (refl, omega (arith, torn.no_longer, short))

-- the same gate, made
pub first_rests : (file : List ℕ) → length file ≤ 1 → IsAtRest [] 0 (written_over file 0 (0 ∷ []))
first_rests [] short = record { gate = 0; split = refl; shut = omega arith; fit = tt; at = refl }
first_rests (a ∷ []) short = record { gate = 0; split = refl; shut = omega arith; fit = tt; at = refl }
first_rests (a ∷ b ∷ file) short = absurd (omega arith)

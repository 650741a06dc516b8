-- One byte of a file, between what stands before and behind it.
use Rattle.std.proofs.Common.{◌≡◌, ℕ, zero, ◌+◌, ◌-◌, ◌≤◌, ◌<◌, min, List, [], ◌∷◌, ◌++◌, length, take, drop, get_or, replicate, ap, sym, subst, ◌∙◌, append_assoc, arith}
use Rattle.std.proofs.lemmas.List.{length-append, append-nil, take-append-drop, take_at, drop_at, drop_more}
use Rattle.disk_model.specs.Content.{TornWrite, written_over}
use Rattle.disk_model.proofs.Overwriting.{written_some}
use Rattle.frame_journal.specs.Older.{StandsBehind}

-- a write within the bytes leaves no gap
pub no_gap : (old : List ℕ) (place : ℕ) (bytes : List ℕ) → 0 < length bytes → place ≤ length old → written_over old place bytes ≡ take place old ++ bytes ++ drop (place + length bytes) old
no_gap old place bytes some inside =
    let none : place - length old ≡ zero = omega arith in
    written_some old place bytes some ∙ ap (λ k. take place old ++ replicate k 0 ++ bytes ++ drop (place + length bytes) old) none
    ∙ ap (λ l. l ++ bytes ++ drop (place + length bytes) old) (append-nil (take place old))

module _ (front behind : List ℕ) (place : ℕ) (here : place ≡ length front) where
  byte_front : (file : List ℕ) → StandsBehind front behind file → take place file ≡ front
  byte_front file stands = ap (take place) stands.split ∙ take_at front (stands.gate ∷ behind) place (sym here)

  byte_behind : (file : List ℕ) → StandsBehind front behind file → drop (place + 1) file ≡ behind
  byte_behind file stands =
      let long : length (front ++ stands.gate ∷ []) ≡ place + 1 = omega (arith, length-append front (stands.gate ∷ []), here) in
      ap (drop (place + 1)) (stands.split ∙ sym (append_assoc front (stands.gate ∷ []) behind)) ∙ drop_at (front ++ stands.gate ∷ []) behind (place + 1) long

  pub byte_inside : (file : List ℕ) → StandsBehind front behind file → place < length file
  byte_inside file stands = omega (arith, ap length stands.split, length-append front (stands.gate ∷ behind), here)

  -- the byte, torn anyhow
  pub byte_torn : (file image : List ℕ) → StandsBehind front behind file → TornWrite (min place (length file)) (place + 1) file image → StandsBehind front behind image
  byte_torn file image stands torn =
      let inside = byte_inside file stands in
      let all : min place (length file) ≡ place = omega (arith, inside) in
      let before : take place image ≡ front = subst (λ k. take k image ≡ take k file) all torn.before ∙ byte_front file stands in
      let gate = get_or image place 0 in
      let rest : drop place image ≡ gate ∷ behind =
      drop_more image place 0 (omega (arith, torn.no_shorter, inside)) ∙ ap (λ l. gate ∷ l) (torn.behind ∙ byte_behind file stands) in
      record {
        gate = gate;
        split = sym (take-append-drop place image) ∙ ap (λ l. l ++ drop place image) before ∙ ap (λ l. front ++ l) rest;
      }

  -- the same byte, written
  pub byte_written : (file : List ℕ) (byte : ℕ) → StandsBehind front behind file → written_over file place (byte ∷ []) ≡ front ++ byte ∷ behind
  byte_written file byte stands =
      let inside = byte_inside file stands in
      no_gap file place (byte ∷ []) (omega arith) (omega (arith, inside))
      ∙ ap (λ l. l ++ (byte ∷ []) ++ drop (place + 1) file) (byte_front file stands)
      ∙ ap (λ l. front ++ (byte ∷ []) ++ l) (byte_behind file stands)
      ∙ append_assoc front (byte ∷ []) behind

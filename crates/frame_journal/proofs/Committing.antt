-- What the two steps of an append leave of a file.
use Rattle.std.proofs.Common.{◌≡◌, inl, inr, ℕ, ◌+◌, ◌<◌, min, List, [], ◌∷◌, ◌++◌, length, take, drop, ap, sym, ◌∙◌, append_assoc, arith}
use Rattle.std.proofs.lemmas.Bool.{cases_eq}
use Rattle.std.proofs.lemmas.List.{length-append, take_all, drop_all, append-nil, take-append-drop}
use Rattle.disk_model.specs.Content.{TornWrite, written_over}
use Rattle.frame_journal.specs.Layout.{block, frame, frames, IsPayload, OpensWith, OpensWithOneMore, IsAtRest, IsStaged}
use Rattle.frame_journal.proofs.Spelling.{length-frame}
use Rattle.frame_journal.specs.Older.{StandsBehind}
use Rattle.frame_journal.proofs.Gates.{no_gap, byte_inside, byte_torn, byte_written}
use Rattle.frame_journal.proofs.Found.{frames-push, fit-push}

module _ (ps : List (List ℕ)) (place : ℕ) where
  length-rest : (file : List ℕ) → IsAtRest ps place file → length file ≡ place + 1
  length-rest file rest = omega (arith, ap length rest.split, length-append (frames ps) (rest.gate ∷ []), rest.at)

  -- what is at rest opens with its frames
  pub rest_opens : (file : List ℕ) → IsAtRest ps place file → OpensWith ps file
  rest_opens file rest = inr (record { gate = rest.gate; rest = []; split = rest.split; shut = rest.shut; fit = rest.fit })

  -- a block behind the gate, torn anyhow
  pub behind_opens : (file image : List ℕ) (upto : ℕ) → IsAtRest ps place file → TornWrite (min (place + 1) (length file)) upto file image → OpensWith ps image
  behind_opens file image upto rest torn =
      let size = length-rest file rest in
      let all : min (place + 1) (length file) ≡ length file = omega (arith, size) in
      let front : take (length file) image ≡ file = ap (λ k. take k image) (sym all) ∙ torn.before ∙ take_all (min (place + 1) (length file)) file (omega (arith, size)) in
      inr (record {
        gate = rest.gate;
        rest = drop (length file) image;
        split = sym (take-append-drop (length file) image) ∙ ap (λ l. l ++ drop (length file) image) (front ∙ rest.split) ∙ append_assoc (frames ps) (rest.gate ∷ []) (drop (length file) image);
        shut = rest.shut;
        fit = rest.fit;
      })

  -- the same block, made
  pub behind_staged : (file q : List ℕ) → IsAtRest ps place file → IsPayload q → IsStaged ps q place (written_over file (place + 1) (block q ++ 0 ∷ []))
  behind_staged file q rest fits =
      let bytes = block q ++ 0 ∷ [] in
      let size = length-rest file rest in
      let some : 0 < length bytes = omega (arith, length-append (block q) (0 ∷ [])) in
      record {
        gate = rest.gate;
        split = no_gap file (place + 1) bytes some (omega (arith, size))
            ∙ ap (λ l. l ++ bytes ++ drop (place + 1 + length bytes) file) (take_all (place + 1) file (omega (arith, size)) ∙ rest.split)
            ∙ ap (λ l. frames ps ++ (rest.gate ∷ []) ++ bytes ++ l) (drop_all (place + 1 + length bytes) file (omega (arith, size)))
            ∙ append-nil (frames ps ++ (rest.gate ∷ []) ++ bytes)
            ∙ append_assoc (frames ps) (rest.gate ∷ []) bytes;
        fit = rest.fit;
        fits = fits;
        at = rest.at;
      }

  module _ (q : List ℕ) where
    abbrev end : List ℕ
    end = block q ++ 0 ∷ []

    -- the gate, with the frame behind it
    gated : (file : List ℕ) → IsStaged ps q place file → StandsBehind (frames ps) end file
    gated file staged = record { gate = staged.gate; split = staged.split }

    pub gate_inside : (file : List ℕ) → IsStaged ps q place file → place < length file
    gate_inside file staged = byte_inside (frames ps) end place staged.at file (gated file staged)

    -- the gate, torn anyhow
    pub gate_staged : (file image : List ℕ) → IsStaged ps q place file → TornWrite (min place (length file)) (place + 1) file image → IsStaged ps q place image
    gate_staged file image staged torn =
        let torn_gate = byte_torn (frames ps) end place staged.at file image (gated file staged) torn in
        record { gate = torn_gate.gate; split = torn_gate.split; fit = staged.fit; fits = staged.fits; at = staged.at }

    gate_written : (file : List ℕ) (byte : ℕ) → IsStaged ps q place file → written_over file place (byte ∷ []) ≡ frames ps ++ byte ∷ end
    gate_written file byte staged = byte_written (frames ps) end place staged.at file byte (gated file staged)

    one_more : frames ps ++ 1 ∷ end ≡ frames (ps ++ q ∷ []) ++ 0 ∷ []
    one_more = sym (append_assoc (frames ps) (frame q) (0 ∷ [])) ∙ ap (λ l. l ++ 0 ∷ []) (sym (frames-push ps q))

    -- the frame counts or it doesn't
    pub staged_opens : (file : List ℕ) → IsStaged ps q place file → OpensWithOneMore ps q file
    staged_opens file staged = elim (cases_eq staged.gate 1) [
      | inl open_gate ↦ inr (inr (record {
        gate = 0;
        rest = [];
        split = staged.split ∙ ap (λ k. frames ps ++ k ∷ end) open_gate ∙ one_more;
        shut = omega arith;
        fit = fit-push ps q staged.fit staged.fits;
      }))
      | inr shut ↦ inl (inr (record { gate = staged.gate; rest = end; split = staged.split; shut = shut; fit = staged.fit }))
    ]

    -- the gate, opened
    pub gate_rests : (file : List ℕ) → IsStaged ps q place file → IsAtRest (ps ++ q ∷ []) (place + (9 + length q)) (written_over file place (1 ∷ []))
    gate_rests file staged = record {
      gate = 0;
      split = gate_written file 1 staged ∙ one_more;
      shut = omega arith;
      fit = fit-push ps q staged.fit staged.fits;
      at = omega (arith, staged.at, ap length (frames-push ps q), length-append (frames ps) (frame q), length-frame q);
    }

    -- the gate, shut again
    pub gate_shut : (file : List ℕ) → IsStaged ps q place file → OpensWith ps (written_over file place (0 ∷ []))
    gate_shut file staged = inr (record { gate = 0; rest = end; split = gate_written file 0 staged; shut = omega arith; fit = staged.fit })

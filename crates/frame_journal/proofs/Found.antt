-- What a reader finds at a place.
use Rattle.std.proofs.Common.{◌≡◌, ℕ, ◌+◌, ◌^◌, ◌<◌, ◌≤◌, min, List, [], ◌∷◌, ◌++◌, length, take, drop, refl, sym, ap, ◌∙◌, subst, append_assoc, arith}
use Rattle.std.proofs.lemmas.List.{length-append, length-take, length-drop, take-append-drop, drop-drop, append-nil, take_min, take-append-le, drop_all, take-take}
use Rattle.std.specs.Int.{w64, to_be_bytes}
use Rattle.disk_model.specs.Disk.{ReadsAt}
use Rattle.frame_journal.specs.Layout.{block, frame, frames, IsPayload, ArePayloads, BreaksBehind}
use Rattle.frame_journal.specs.Reading.{EndsAt, ReadUpTo, BeginsShut, BeginsBad, BeginsShort, BeginsWithLength, IsFrameAt}
use Rattle.frame_journal.proofs.Spelling.{length-frame, length-block, block_length}

-- what a read gives of a file, as the first bytes from a place on
pub read_front : (file : List ℕ) (place : ℕ) (old : List ℕ) (n : ℕ) (new : List ℕ) → ReadsAt file place old n new → take n new ≡ take (length old) (drop place file)
read_front file place old n new reads =
    let len : length (take n (drop place file)) ≡ n = omega (arith, length-take n (drop place file), length-drop place file, reads.count) in
    let count : n ≡ min (length old) (length (drop place file)) = omega (arith, reads.count, length-drop place file) in
    ap (take n) reads.filled ∙ take-append-le n (take n (drop place file)) (drop n old) (omega (arith, len))
    ∙ take-take n n (drop place file) (omega arith) ∙ ap (λ k. take k (drop place file)) count ∙ take_min (length old) (drop place file)

-- a read that fills all that it was given
pub read_all : (file : List ℕ) (place : ℕ) (old : List ℕ) (n : ℕ) (new : List ℕ) → ReadsAt file place old n new → length old ≤ n → new ≡ take (length old) (drop place file)
read_all file place old n new reads all =
    let count : n ≡ length old = omega (arith, reads.count) in
    reads.filled ∙ ap (λ l. take n (drop place file) ++ l) (drop_all n old (omega arith)) ∙ append-nil (take n (drop place file)) ∙ ap (λ k. take k (drop place file)) count

-- fewer than eight bytes are no frame
pub short_bad : (file : List ℕ) → BeginsShort file → BeginsBad file
short_bad file short = record {
  rest = short.rest;
  split = short.split;
  not_whole = λ payload next more fits is. omega (arith, short.short, ap length is, length-append (block payload) (next ∷ more), length-block payload);
}

-- a length that reaches to the end or past it is no frame with one more byte behind it
pub long_bad : (file : List ℕ) (n : ℕ) → BeginsWithLength n file → length file ≤ 9 + n → BeginsBad file
long_bad file n begins long = record {
  rest = to_be_bytes w64 n ++ drop 9 file;
  split = begins.split;
  not_whole = λ payload next more fits is.
      let both = block_length payload n (next ∷ more) (drop 9 file) fits begins.fits (sym is) in
      omega (arith, both.0, long, length-drop 9 file, ap length both.1, length-append payload (next ∷ more));
}

-- a length, and as many bytes behind it as it says
pub whole_frame : (file : List ℕ) (place n : ℕ) (payload : List ℕ) → BeginsWithLength n (drop place file) → n + 9 + place < length file → payload ≡ take n (drop (place + 9) file) → IsFrameAt payload place file
whole_frame file place n payload begins more is =
    let behind : drop 9 (drop place file) ≡ drop (place + 9) file = drop-drop 9 place file in
    let len : length payload ≡ n = omega (arith, ap length is, length-take n (drop (place + 9) file), length-drop (place + 9) file) in
    let rest : drop (place + 9) file ≡ payload ++ drop (place + 9 + length payload) file =
    sym (take-append-drop n (drop (place + 9) file))
    ∙ ap (λ l. l ++ drop n (drop (place + 9) file)) (sym is)
    ∙ ap (λ l. payload ++ l) (drop-drop n (place + 9) file ∙ ap (λ k. drop (place + 9 + k) file) (sym len)) in
    record {
      split = begins.split ∙ ap (λ l. 1 ∷ to_be_bytes w64 n ++ l) (behind ∙ rest)
          ∙ ap (λ k. 1 ∷ to_be_bytes w64 k ++ (payload ++ drop (place + 9 + length payload) file)) (sym len)
          ∙ ap (λ l. 1 ∷ l) (sym (append_assoc (to_be_bytes w64 (length payload)) payload (drop (place + 9 + length payload) file)));
      fits = subst (λ k. k < 2 ^ 64) (sym len) begins.fits;
      more = omega (arith, more, len);
    }

pub frames-push : (ps : List (List ℕ)) (p : List ℕ) → frames (ps ++ p ∷ []) ≡ frames ps ++ frame p
frames-push [] p = append-nil (frame p)
frames-push (q ∷ ps) p = ap (λ l. frame q ++ l) (frames-push ps p) ∙ sym (append_assoc (frame q) (frames ps) (frame p))

pub fit-push : (ps : List (List ℕ)) (p : List ℕ) → ArePayloads ps → IsPayload p → ArePayloads (ps ++ p ∷ [])
fit-push [] p fit fits = (fits, tt)
fit-push (q ∷ ps) p fit fits = (fit.0, fit-push ps p fit.1 fits)

-- nothing is read yet
pub read_none : (file : List ℕ) → ReadUpTo [] 0 file
read_none file = record { split = refl; at = refl; fit = tt }

-- one frame more is read
pub read_more : (ps : List (List ℕ)) (p file : List ℕ) (place : ℕ) → ReadUpTo ps place file → IsFrameAt p place file → ReadUpTo (ps ++ p ∷ []) (place + (9 + length p)) file
read_more ps p file place read found =
    let next : place + 9 + length p ≡ place + (9 + length p) = omega arith in
    record {
      split = read.split ∙ ap (λ l. frames ps ++ l) (found.split ∙ ap (λ k. frame p ++ drop k file) next)
          ∙ sym (append_assoc (frames ps) (frame p) (drop (place + (9 + length p)) file))
          ∙ ap (λ l. l ++ drop (place + (9 + length p)) file) (sym (frames-push ps p));
      at = omega (arith, read.at, ap length (frames-push ps p), length-append (frames ps) (frame p), length-frame p);
      fit = fit-push ps p read.fit found.fits;
    }

shut_ends : (ps : List (List ℕ)) (place : ℕ) (file rest : List ℕ) → ReadUpTo ps place file → drop place file ≡ rest → BeginsShut rest → EndsAt ps place file
shut_ends ps place file [] read is shut = absurd shut
shut_ends ps place file (gate ∷ rest) read is shut = record {
  ends = record { gate = gate; rest = rest; split = read.split ∙ ap (λ l. frames ps ++ l) is; shut = shut; fit = read.fit };
  at = read.at;
}

-- a shut gate ends them
pub read_ends : (ps : List (List ℕ)) (place : ℕ) (file : List ℕ) → ReadUpTo ps place file → BeginsShut (drop place file) → EndsAt ps place file
read_ends ps place file read shut = shut_ends ps place file (drop place file) read refl shut

-- a bad frame is the one behind those that were read
pub read_bad : (ps : List (List ℕ)) (place : ℕ) (file : List ℕ) → 1 < length file → ReadUpTo ps place file → BeginsBad (drop place file) → BreaksBehind ps file
read_bad ps place file long read bad = record {
  fit = read.fit;
  rest = bad.rest;
  split = read.split ∙ ap (λ l. frames ps ++ l) bad.split;
  long = long;
  not_whole = bad.not_whole;
}

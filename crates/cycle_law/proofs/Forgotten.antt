-- A session without its last frame.
use Rattle.std.proofs.Common.{◌≡◌, ◌⊎◌, inl, inr, ℕ, ◌+◌, ◌≤◌, Bool, true, false, ◌&&◌, not, List, [], ◌∷◌, ◌++◌, length, suc, refl, sym, ap, subst, ◌∙◌, nat_le, arith, ◌||◌}
use Rattle.std.specs.Prelude.{if◌then◌else◌}
use Rattle.std.specs.List.{filter_map, list_all}
use Rattle.std.proofs.lemmas.Bool.{and_parts, and_from, leb-true, le-leb}
use Rattle.std.proofs.lemmas.List.{take-append-le}
use Rattle.std.proofs.lemmas.List.Folds.{list_all-append}
use Rattle.entry_tree.specs.declared.side.Side.TheVariants.{Alpha, Beta}
use Rattle.frame_text.specs.Folds.{fold_of}
use Rattle.frame_text.specs.declared.payload.Payload.{Payload}
use Rattle.frame_text.specs.declared.payload.Payload.TheVariants.{Agree, Reset, Whole}
use Rattle.mode_rules.proofs.Agreeing.{answers-append}
use Rattle.cycle_law.specs.Conserving.{are_in_turn, cycle_conserves, has_allowed_base, has_allowed_scans, is_before, is_idle, is_lawful, is_nil, is_of_one, is_spoken_of, least_base, least_from, most_base, side_conserves}
use Rattle.cycle_law.specs.Cycles.{Session, Cycle, Ground, Traces, is_earlier}
use Rattle.cycle_law.specs.Frames.{frames_of, frames_are_sound, is_sound, lines_of_cycle}
use Rattle.cycle_law.specs.Laws.{ForgetsItsLast, have_bases_in, is_whole, with_frames}
use Rattle.cycle_law.specs.Ordering.{changing_on}
use Rattle.cycle_law.specs.Plans.{ground_of, may_act, tree_of}

module _ (c : Cycle) where
  -- how many frames may be counted at most: with one frame more it is the same, or all that stood before may be
  most_more : (ps : List Payload) (q : Payload) → (most_base c (ps ++ q ∷ []) ≡ most_base c ps) ⊎ (length ps ≤ most_base c ps)
  most_more [] q = inr (omega arith)
  most_more (p ∷ ps) q = by (is_before c p) (most_more ps q)
    where
      by : (b : Bool) → (most_base c (ps ++ q ∷ []) ≡ most_base c ps) ⊎ (length ps ≤ most_base c ps)
          → ((if b then 1 + most_base c (ps ++ q ∷ []) else 0) ≡ (if b then 1 + most_base c ps else 0)) ⊎ (suc (length ps) ≤ (if b then 1 + most_base c ps else 0))
      by true (inl same) = inl (ap (λ n. 1 + n) same)
      by true (inr all) = inr (omega arith)
      by false known = inl refl

  most_less : (n : ℕ) (ps : List Payload) (q : Payload) → n ≤ length ps → nat_le n (most_base c (ps ++ q ∷ [])) ≡ true → nat_le n (most_base c ps) ≡ true
  most_less n ps q short is = by (most_more ps q)
    where
      by : (most_base c (ps ++ q ∷ []) ≡ most_base c ps) ⊎ (length ps ≤ most_base c ps) → nat_le n (most_base c ps) ≡ true
      by (inl same) = sym (ap (nat_le n) same) ∙ is
      by (inr all) = le-leb n (most_base c ps) (omega arith)

  -- one frame more doesn't lower the least base
  least_more : (place least : ℕ) (ps : List Payload) (q : Payload) → least ≤ place → is_whole q ≡ false → least_from c place least ps ≤ least_from c place least (ps ++ q ∷ [])
  least_more place least [] (Agree version run cycle lines) low one = by (is_earlier run cycle c.run c.number)
    where
      by : (b : Bool) → least ≤ (if b then place else least)
      by true = low
      by false = omega arith
  least_more place least [] (Reset number) low one = omega arith
  least_more place least [] (Whole run cycle served lines) low one = absurd (cc)
  least_more place least (Agree version run cycle lines ∷ ps) q low one =
      by (is_earlier run cycle c.run c.number) (least_more (1 + place) place ps q (omega arith) one) (least_more (1 + place) least ps q (omega arith) one)
    where
      by : (b : Bool) → least_from c (1 + place) place ps ≤ least_from c (1 + place) place (ps ++ q ∷ []) → least_from c (1 + place) least ps ≤ least_from c (1 + place) least (ps ++ q ∷ [])
          → least_from c (1 + place) (if b then place else least) ps ≤ least_from c (1 + place) (if b then place else least) (ps ++ q ∷ [])
      by true now before = now
      by false now before = before
  least_more place least (Reset number ∷ ps) q low one = least_more (1 + place) least ps q (omega arith) one
  least_more place least (Whole run cycle served lines ∷ ps) q low one = least_more (1 + place) (1 + place) ps q (omega arith) one

nil_front : {X : Type 0} (xs ys : List X) → is_nil (xs ++ ys) ≡ true → is_nil xs ≡ true
nil_front [] ys h = refl
nil_front (x ∷ xs) ys h = absurd (cc)

module _ (session : Session) (c : Cycle) (frames : List Payload) (last : Payload) where
  -- a cycle of a session with one frame more conserves
  sound_less : (g : Ground) → frames_are_sound session g c (frames ++ last ∷ []) ≡ true → frames_are_sound session g c frames ≡ true
  sound_less g h =
      let fewer = filter_map (lines_of_cycle c) frames in
      let more = filter_map (lines_of_cycle c) (last ∷ []) in
      (and_parts (list_all (is_sound session g c) fewer) (list_all (is_sound session g c) more)
      (sym (list_all-append (is_sound session g c) fewer more) ∙ ap (list_all (is_sound session g c)) (sym (answers-append (lines_of_cycle c) frames (last ∷ []))) ∙ h)).0

  idle_less : (g : Ground) → is_idle session g c (frames ++ last ∷ []) ≡ true → is_idle session g c frames ≡ true
  idle_less g h =
      let one = and_parts (is_nil (changing_on g c Alpha)) _ h in
      let two = and_parts (is_nil (changing_on g c Beta)) (is_nil (frames_of (frames ++ last ∷ []) c)) one.1 in
      let none = nil_front (filter_map (lines_of_cycle c) frames) (filter_map (lines_of_cycle c) (last ∷ []))
      (ap is_nil (sym (answers-append (lines_of_cycle c) frames (last ∷ []))) ∙ two.1) in
      and_from (is_nil (changing_on g c Alpha)) _ one.0 (and_from (is_nil (changing_on g c Beta)) (is_nil (frames_of frames c)) two.0 none)

  cycle_less : (g : Ground) → cycle_conserves session g c (frames ++ last ∷ []) ≡ true → cycle_conserves session g c frames ≡ true
  cycle_less g = by (may_act session g c)
    where
      by : (b : Bool)
          → (if b then side_conserves session g c Alpha && (side_conserves session g c Beta && frames_are_sound session g c (frames ++ last ∷ [])) else is_idle session g c (frames ++ last ∷ [])) ≡ true
          → (if b then side_conserves session g c Alpha && (side_conserves session g c Beta && frames_are_sound session g c frames) else is_idle session g c frames) ≡ true
      by true h =
          let one = and_parts (side_conserves session g c Alpha) _ h in
          let two = and_parts (side_conserves session g c Beta) (frames_are_sound session g c (frames ++ last ∷ [])) one.1 in
          and_from (side_conserves session g c Alpha) _ one.0 (and_from (side_conserves session g c Beta) (frames_are_sound session g c frames) two.0 (sound_less g two.1))
      by false h = idle_less g h

  -- a cycle is spoken of as before
  pub spoken_same : is_whole last ≡ false → is_spoken_of (frames ++ last ∷ []) c ≡ is_spoken_of frames c
  spoken_same one = by frames
    where
      alone : (q : Payload) → is_whole q ≡ false → is_spoken_of (q ∷ []) c ≡ true
      alone (Agree version run cycle lines) one = refl
      alone (Reset number) one = refl
      alone (Whole run cycle served lines) one = absurd (cc)

      first : (p : Payload) (rest other : List Payload) → is_spoken_of (p ∷ rest) c ≡ is_spoken_of (p ∷ other) c
      first (Agree version run cycle lines) rest other = refl
      first (Reset number) rest other = refl
      first (Whole run cycle served lines) rest other = refl

      by : (ps : List Payload) → is_spoken_of (ps ++ last ∷ []) c ≡ is_spoken_of ps c
      by [] = alone last one
      by (p ∷ ps) = first p (ps ++ last ∷ []) ps

  -- its base is allowed as before
  base_less : is_whole last ≡ false → nat_le c.base (length frames) ≡ true → has_allowed_base (frames ++ last ∷ []) c ≡ true → has_allowed_base frames c ≡ true
  base_less one short h =
      let both = and_parts (nat_le (least_base c (frames ++ last ∷ [])) c.base) (nat_le c.base (most_base c (frames ++ last ∷ []))) h in
      let least : least_base c (frames ++ last ∷ []) ≤ c.base = leb-true (least_base c (frames ++ last ∷ [])) c.base both.0 in
      let fewer : least_base c frames ≤ least_base c (frames ++ last ∷ []) = least_more c 0 0 frames last (omega arith) one in
      and_from (nat_le (least_base c frames) c.base) (nat_le c.base (most_base c frames)) (le-leb (least_base c frames) c.base (omega arith))
      (most_less c c.base frames last (leb-true c.base (length frames) short) both.1)

module _ (session : Session) (t : Traces) (last : Payload) (one_more : is_whole last ≡ false) where
  abbrev longer : Traces
  longer = with_frames t (t.frames ++ last ∷ [])

  pub ground_same : (c : Cycle) → nat_le c.base (length t.frames) ≡ true → ground_of longer c ≡ ground_of t c
  ground_same c short = λ i. record { alpha = t.alpha; beta = t.beta; ancestor = tree_of (fold_of (take-append-le c.base t.frames (last ∷ []) (leb-true c.base (length t.frames) short) i)) }

  lawful_less : (c : Cycle) → nat_le c.base (length t.frames) ≡ true → is_lawful session longer c ≡ true → is_lawful session t c ≡ true
  lawful_less c short h = by (is_spoken_of t.frames c) refl
    where
      by : (b : Bool) → is_spoken_of t.frames c ≡ b
          → (not b || (has_allowed_base t.frames c && (has_allowed_scans t.alpha c c.alpha_scans && (has_allowed_scans t.beta c c.beta_scans && cycle_conserves session (ground_of t c) c t.frames)))) ≡ true
      by false e = refl
      by true e =
          let more = t.frames ++ last ∷ [] in
          let all : (has_allowed_base more c && (has_allowed_scans t.alpha c c.alpha_scans && (has_allowed_scans t.beta c c.beta_scans && cycle_conserves session (ground_of longer c) c more))) ≡ true =
          ap (λ b. not b || (has_allowed_base more c && (has_allowed_scans t.alpha c c.alpha_scans && (has_allowed_scans t.beta c c.beta_scans && cycle_conserves session (ground_of longer c) c more)))) (sym (spoken_same session c t.frames last one_more ∙ e)) ∙ h in
          let one = and_parts (has_allowed_base more c) _ all in
          let two = and_parts (has_allowed_scans t.alpha c c.alpha_scans) _ one.1 in
          let three = and_parts (has_allowed_scans t.beta c c.beta_scans) (cycle_conserves session (ground_of longer c) c more) two.1 in
          let kept : cycle_conserves session (ground_of t c) c more ≡ true = subst (λ g. cycle_conserves session g c more ≡ true) (ground_same c short) three.1 in
          and_from (has_allowed_base t.frames c) _ (base_less session c t.frames last one_more short one.0)
          (and_from (has_allowed_scans t.alpha c c.alpha_scans) _ two.0
          (and_from (has_allowed_scans t.beta c c.beta_scans) (cycle_conserves session (ground_of t c) c t.frames) three.0 (cycle_less session c t.frames last (ground_of t c) kept)))

  all_lawful : (cycles : List Cycle) → have_bases_in t.frames cycles ≡ true → list_all (is_lawful session longer) cycles ≡ true → list_all (is_lawful session t) cycles ≡ true
  all_lawful [] short h = refl
  all_lawful (c ∷ cycles) short h =
      let here = and_parts (nat_le c.base (length t.frames)) (have_bases_in t.frames cycles) short in
      let one = and_parts (is_lawful session longer c) (list_all (is_lawful session longer) cycles) h in
      and_from (is_lawful session t c) (list_all (is_lawful session t) cycles) (lawful_less c here.0 one.0) (all_lawful cycles here.1 one.1)

pub forgets_its_last : ForgetsItsLast
forgets_its_last session cycles t last one_more short h =
    let one = and_parts (are_in_turn cycles) _ h in
    let two = and_parts (list_all (is_of_one cycles) (t.frames ++ last ∷ [])) (list_all (is_lawful session (with_frames t (t.frames ++ last ∷ []))) cycles) one.1 in
    let fewer = and_parts (list_all (is_of_one cycles) t.frames) (list_all (is_of_one cycles) (last ∷ [])) (sym (list_all-append (is_of_one cycles) t.frames (last ∷ [])) ∙ two.0) in
    and_from (are_in_turn cycles) _ one.0 (and_from (list_all (is_of_one cycles) t.frames) (list_all (is_lawful session t) cycles) fewer.0 (all_lawful session t last one_more cycles short two.1))

-- A session with one frame more, which a cycle offered.
use Rattle.std.proofs.Common.{◌≡◌, ◌⊎◌, inl, inr, ℕ, ◌+◌, ◌≤◌, Bool, true, false, ◌&&◌, ◌||◌, ◌==◌, not, List, [], ◌∷◌, ◌++◌, length, refl, sym, ap, subst, ◌∙◌, Some, None, nat_le, arith}
use Rattle.std.specs.Prelude.{if◌then◌else◌}
use Rattle.std.specs.List.{AllByRecursion, filter_map, list_all, list_any, cons_option}
use Rattle.std.proofs.lemmas.Bool.{and_parts, and_from, leb-true, le-leb, eq-eqb, or_left, or_right}
use Rattle.std.proofs.lemmas.List.Folds.{list_all-append}
use Rattle.entry_tree.specs.Atom.{same_atom}
use Rattle.entry_tree.specs.declared.side.Side.TheVariants.{Alpha, Beta}
use Rattle.frame_text.specs.declared.payload.Payload.{Payload}
use Rattle.frame_text.specs.declared.payload.Payload.TheVariants.{Agree, Reset, Whole}
use Rattle.frame_text.specs.declared.version.Version.{Version}
use Rattle.mode_rules.proofs.Agreeing.{answers-append}
use Rattle.mode_rules.proofs.Cases.{same_itself}
use Rattle.mode_rules.specs.declared.ancestor_line.AncestorLine.{AncestorLine}
use Rattle.mode_rules.specs.declared.ancestor_line.AncestorLine.TheVariants.{Set, Drop}
use Rattle.std.proofs.lemmas.Cmp.{tied_itself}
use Rattle.std.specs.Ordering.{is_eq}
use Rattle.sync_path.specs.PathOrder.{path_cmp_total}
use Rattle.entry_tree.specs.Tree.{Names}
use Rattle.scan_laws.specs.Seen.{same_path}
use Rattle.cycle_law.specs.Conserving.{are_in_turn, cycle_conserves, has_allowed_base, has_allowed_scans, is_before, is_idle, is_lawful, is_nil, is_of_one, is_spoken_of, least_base, least_from, most_base, side_conserves}
use Rattle.cycle_law.specs.Cycles.{Session, Cycle, Ground, Traces, is_earlier}
use Rattle.cycle_law.specs.Frames.{frames_of, frames_are_sound, has_lines, is_sound, lines_of_cycle, offered}
use Rattle.cycle_law.specs.Laws.{MayFindOneMore, frame_of, have_bases_behind, have_bases_in, with_frames}
use Rattle.cycle_law.specs.Ordering.{changing_on}
use Rattle.cycle_law.specs.Plans.{ground_of, may_act}
use Rattle.cycle_law.specs.Sameness.{same_line, same_lines}
use Rattle.cycle_law.proofs.Lists.{all_joined, all_weaker}
use Rattle.cycle_law.proofs.Forgotten.{ground_same, spoken_same}
use Rattle.cycle_law.proofs.Turns.{Earlier, behind_turn, earlier_all, later_all, never_before, numbers_differ}

path_itself : (p : Names) → same_path p p ≡ true
path_itself p = ap is_eq (tied_itself path_cmp_total p)

line_itself : (l : AncestorLine) → same_line l l ≡ true
line_itself (Set p a) = and_from (same_path p p) (same_atom a a) (path_itself p) (same_itself (Some a))
line_itself (Drop p) = path_itself p

lines_themselves : (ls : List AncestorLine) → same_lines ls ls ≡ true
lines_themselves [] = refl
lines_themselves (l ∷ ls) = and_from (same_line l l) (same_lines ls ls) (line_itself l) (lines_themselves ls)

module _ (d : Cycle) (version : Version) (run cycle : ℕ) (lines : List AncestorLine) where
  abbrev frame : Payload
  frame = Agree version run cycle lines

  -- as many frames may be counted as before
  most_grows : (ps : List Payload) → most_base d ps ≤ most_base d (ps ++ frame ∷ [])
  most_grows [] = omega arith
  most_grows (p ∷ ps) = by (is_before d p) (most_grows ps)
    where
      by : (b : Bool) → most_base d ps ≤ most_base d (ps ++ frame ∷ []) → (if b then 1 + most_base d ps else 0) ≤ (if b then 1 + most_base d (ps ++ frame ∷ []) else 0)
      by true h = omega arith
      by false h = omega arith

  -- the least base is behind all frames for a later cycle, and as before for others
  least_last : (place least : ℕ) (ps : List Payload)
      → least_from d place least (ps ++ frame ∷ []) ≡ (if is_earlier run cycle d.run d.number then place + length ps else least_from d place least ps)
  least_last place least [] = ap (λ n. if is_earlier run cycle d.run d.number then n else least) (omega arith)
  least_last place least (Agree v r n ls ∷ ps) =
      least_last (1 + place) (if is_earlier r n d.run d.number then place else least) ps
      ∙ ap (λ k. if is_earlier run cycle d.run d.number then k else least_from d (1 + place) (if is_earlier r n d.run d.number then place else least) ps) (omega arith)
  least_last place least (Reset number ∷ ps) =
      least_last (1 + place) least ps ∙ ap (λ k. if is_earlier run cycle d.run d.number then k else least_from d (1 + place) least ps) (omega arith)
  least_last place least (Whole r n served ls ∷ ps) =
      least_last (1 + place) (1 + place) ps ∙ ap (λ k. if is_earlier run cycle d.run d.number then k else least_from d (1 + place) (1 + place) ps) (omega arith)

  -- a base is allowed as before, if a later cycle's counts all frames
  base_more : (frames : List Payload) → (is_earlier run cycle d.run d.number ≡ true → length frames ≤ d.base) → has_allowed_base frames d ≡ true → has_allowed_base (frames ++ frame ∷ []) d ≡ true
  base_more frames later h =
      let both = and_parts (nat_le (least_base d frames) d.base) (nat_le d.base (most_base d frames)) h in
      let least : least_base d frames ≤ d.base = leb-true (least_base d frames) d.base both.0 in
      let most : d.base ≤ most_base d frames = leb-true d.base (most_base d frames) both.1 in
      let grows : most_base d frames ≤ most_base d (frames ++ frame ∷ []) = most_grows frames in
      let low : least_base d (frames ++ frame ∷ []) ≤ d.base = by (is_earlier run cycle d.run d.number) refl least in
      and_from (nat_le (least_base d (frames ++ frame ∷ [])) d.base) (nat_le d.base (most_base d (frames ++ frame ∷ []))) (le-leb (least_base d (frames ++ frame ∷ [])) d.base low)
      (le-leb d.base (most_base d (frames ++ frame ∷ [])) (omega arith))
    where
      chosen : (b : Bool) → is_earlier run cycle d.run d.number ≡ b → least_base d frames ≤ d.base → (if b then 0 + length frames else least_base d frames) ≤ d.base
      chosen true e least = let long : length frames ≤ d.base = later e in omega arith
      chosen false e least = least

      by : (b : Bool) → is_earlier run cycle d.run d.number ≡ b → least_base d frames ≤ d.base → least_base d (frames ++ frame ∷ []) ≤ d.base
      by b e least =
          subst (λ n. n ≤ d.base) (sym (least_last 0 0 frames ∙ ap (λ t. if t then 0 + length frames else least_base d frames) e)) (chosen b e least)

module _ (session : Session) (d : Cycle) (g : Ground) (frames : List Payload) (last : Payload) where
  -- a cycle conserves with a frame more that isn't its own, or is sound
  cycle_more : (lines_of_cycle d last ≡ None) ⊎ ((may_act session g d ≡ true) × ((lines : List AncestorLine) × (lines_of_cycle d last ≡ Some lines) × (is_sound session g d lines ≡ true)))
      → cycle_conserves session g d frames ≡ true → cycle_conserves session g d (frames ++ last ∷ []) ≡ true
  cycle_more (inl none) h = subst (λ (fs : List (List AncestorLine)). with_these fs ≡ true) (sym same) h
    where
      with_these : List (List AncestorLine) → Bool
      with_these fs =
          if may_act session g d then side_conserves session g d Alpha && (side_conserves session g d Beta && list_all (is_sound session g d) fs)
          else is_nil (changing_on g d Alpha) && (is_nil (changing_on g d Beta) && is_nil fs)

      nothing_more : {X : Type 0} (xs : List X) → xs ++ [] ≡ xs
      nothing_more [] = refl
      nothing_more (x ∷ xs) = ap (λ ys. x ∷ ys) (nothing_more xs)

      same : frames_of (frames ++ last ∷ []) d ≡ frames_of frames d
      same = answers-append (lines_of_cycle d) frames (last ∷ []) ∙ ap (λ o. filter_map (lines_of_cycle d) frames ++ cons_option o []) none ∙ nothing_more (filter_map (lines_of_cycle d) frames)
  cycle_more (inr own) h = by (may_act session g d) own.0 h
    where
      sound_more : frames_are_sound session g d frames ≡ true → frames_are_sound session g d (frames ++ last ∷ []) ≡ true
      sound_more sound =
          let fewer = filter_map (lines_of_cycle d) frames in
          ap (list_all (is_sound session g d)) (answers-append (lines_of_cycle d) frames (last ∷ []) ∙ ap (λ o. fewer ++ cons_option o []) own.1.1)
          ∙ list_all-append (is_sound session g d) fewer (own.1.0 ∷ [])
          ∙ and_from (list_all (is_sound session g d) fewer) (is_sound session g d own.1.0 && true) sound (and_from (is_sound session g d own.1.0) true own.1.2 refl)

      by : (b : Bool) → b ≡ true
          → (if b then side_conserves session g d Alpha && (side_conserves session g d Beta && frames_are_sound session g d frames) else is_idle session g d frames) ≡ true
          → (if b then side_conserves session g d Alpha && (side_conserves session g d Beta && frames_are_sound session g d (frames ++ last ∷ [])) else is_idle session g d (frames ++ last ∷ [])) ≡ true
      by true e h =
          let one = and_parts (side_conserves session g d Alpha) _ h in
          let two = and_parts (side_conserves session g d Beta) (frames_are_sound session g d frames) one.1 in
          and_from (side_conserves session g d Alpha) _ one.0 (and_from (side_conserves session g d Beta) (frames_are_sound session g d (frames ++ last ∷ [])) two.0 (sound_more two.1))
      by false e h = absurd (cc)

module _ (session : Session) (t : Traces) (version : Version) (c : Cycle) (may : may_act session (ground_of t c) c ≡ true) (some : has_lines (offered session (ground_of t c) c) ≡ true) where
  abbrev last : Payload
  last = frame_of session t version c

  abbrev more : Traces
  more = with_frames t (t.frames ++ last ∷ [])

  abbrev Own : Cycle → Type 0
  Own d = (lines_of_cycle d last ≡ None) ⊎ ((may_act session (ground_of t d) d ≡ true) × ((lines : List AncestorLine) × (lines_of_cycle d last ≡ Some lines) × (is_sound session (ground_of t d) d lines ≡ true)))

  own_itself : Own c
  own_itself =
      let lines = offered session (ground_of t c) c in
      let same : ((c.run == c.run) && (c.number == c.number)) ≡ true = and_from (c.run == c.run) (c.number == c.number) (eq-eqb c.run c.run refl) (eq-eqb c.number c.number refl) in
      inr (may, (lines, ap (λ b. if b then Some lines else None) same, and_from (has_lines lines) (same_lines lines lines) some (lines_themselves lines)))

  own_other : (d : Cycle) → (Earlier c d ⊎ Earlier d c) → Own d
  own_other d way = inl (ap (λ b. if b then Some (offered session (ground_of t c) c) else None) (numbers_differ c d way))

  lawful_more : (d : Cycle) → nat_le d.base (length t.frames) ≡ true → (is_earlier c.run c.number d.run d.number ≡ true → length t.frames ≤ d.base) → Own d → is_lawful session t d ≡ true → is_lawful session more d ≡ true
  lawful_more d short later own h = by (is_spoken_of t.frames d) refl h
    where
      by : (b : Bool) → is_spoken_of t.frames d ≡ b
          → (not b || (has_allowed_base t.frames d && (has_allowed_scans t.alpha d d.alpha_scans && (has_allowed_scans t.beta d d.beta_scans && cycle_conserves session (ground_of t d) d t.frames)))) ≡ true
          → is_lawful session more d ≡ true
      by b e known =
          subst (λ s. (not s || (has_allowed_base more.frames d && (has_allowed_scans t.alpha d d.alpha_scans && (has_allowed_scans t.beta d d.beta_scans && cycle_conserves session (ground_of more d) d more.frames)))) ≡ true)
          (sym (spoken_same session d t.frames last refl ∙ e)) (shown b known)
        where
          shown : (b : Bool)
              → (not b || (has_allowed_base t.frames d && (has_allowed_scans t.alpha d d.alpha_scans && (has_allowed_scans t.beta d d.beta_scans && cycle_conserves session (ground_of t d) d t.frames)))) ≡ true
              → (not b || (has_allowed_base more.frames d && (has_allowed_scans t.alpha d d.alpha_scans && (has_allowed_scans t.beta d d.beta_scans && cycle_conserves session (ground_of more d) d more.frames)))) ≡ true
          shown false known = refl
          shown true known =
              let one = and_parts (has_allowed_base t.frames d) _ known in
              let two = and_parts (has_allowed_scans t.alpha d d.alpha_scans) _ one.1 in
              let three = and_parts (has_allowed_scans t.beta d d.beta_scans) (cycle_conserves session (ground_of t d) d t.frames) two.1 in
              let kept : cycle_conserves session (ground_of t d) d more.frames ≡ true = cycle_more session d (ground_of t d) t.frames last own three.1 in
              and_from (has_allowed_base more.frames d) _ (base_more d version c.run c.number (offered session (ground_of t c) c) t.frames later one.0)
              (and_from (has_allowed_scans t.alpha d d.alpha_scans) _ two.0
              (and_from (has_allowed_scans t.beta d d.beta_scans) (cycle_conserves session (ground_of more d) d more.frames) three.0
              (subst (λ g. cycle_conserves session g d more.frames ≡ true) (sym (ground_same session t last refl d short)) kept)))

  -- each cycle of a list is lawful with one frame more
  abbrev Fits : Cycle → Type 0
  Fits d = (is_earlier c.run c.number d.run d.number ≡ true → length t.frames ≤ d.base) × Own d

  all_more : (cycles : List Cycle) → AllByRecursion Fits cycles → have_bases_in t.frames cycles ≡ true → list_all (is_lawful session t) cycles ≡ true → list_all (is_lawful session more) cycles ≡ true
  all_more [] fits short h = refl
  all_more (d ∷ cycles) fits short h =
      let here = and_parts (nat_le d.base (length t.frames)) (have_bases_in t.frames cycles) short in
      let one = and_parts (is_lawful session t d) (list_all (is_lawful session t) cycles) h in
      and_from (is_lawful session more d) (list_all (is_lawful session more) cycles) (lawful_more d here.0 fits.0.0 fits.0.1 one.0) (all_more cycles fits.1 here.1 one.1)

  fits_before : (d : Cycle) → Earlier d c → Fits d
  fits_before d earlier = (λ h. absurd (never_before c d (inl earlier) h), own_other d (inr earlier))

  fits_itself : Fits c
  fits_itself = (λ h. absurd (never_before c c (inr refl) h), own_itself)

  fits_after : (after : List Cycle) → AllByRecursion (Earlier c) after → have_bases_behind t.frames after ≡ true → AllByRecursion Fits after
  fits_after [] later behind = tt
  fits_after (d ∷ after) later behind =
      let one = and_parts (nat_le (length t.frames) d.base) (have_bases_behind t.frames after) behind in
      ((λ h. leb-true (length t.frames) d.base one.0, own_other d (inl later.0)), fits_after after later.1 one.1)

one_of_them : (before after : List Cycle) (c : Cycle) → list_any (λ (d : Cycle). (c.run == d.run) && (c.number == d.number)) (before ++ c ∷ after) ≡ true
one_of_them [] after c =
    or_left ((c.run == c.run) && (c.number == c.number)) _ (and_from (c.run == c.run) (c.number == c.number) (eq-eqb c.run c.run refl) (eq-eqb c.number c.number refl))
one_of_them (b ∷ before) after c = or_right ((c.run == b.run) && (c.number == b.number)) _ (one_of_them before after c)

pub may_find_one_more : MayFindOneMore
may_find_one_more session before after c t version may some short behind h =
    let cycles = before ++ c ∷ after in
    let one = and_parts (are_in_turn cycles) _ h in
    let two = and_parts (list_all (is_of_one cycles) t.frames) (list_all (is_lawful session t) cycles) one.1 in
    let last = frame_of session t version c in
    let fits = all_joined (Fits session t version c may some) before (c ∷ after)
    (all_weaker (λ d. Earlier d c) (Fits session t version c may some) (fits_before session t version c may some) before (earlier_all before c after one.0))
    (fits_itself session t version c may some, fits_after session t version c may some after (later_all c after (behind_turn before c after one.0)) behind) in
    let frames : list_all (is_of_one cycles) (t.frames ++ last ∷ []) ≡ true =
    list_all-append (is_of_one cycles) t.frames (last ∷ [])
    ∙ and_from (list_all (is_of_one cycles) t.frames) (is_of_one cycles last && true) two.0 (and_from (is_of_one cycles last) true (one_of_them before after c) refl) in
    and_from (are_in_turn cycles) _ one.0
    (and_from (list_all (is_of_one cycles) (t.frames ++ last ∷ [])) (list_all (is_lawful session (with_frames t (t.frames ++ last ∷ []))) cycles) frames
    (all_more session t version c may some cycles fits short two.1))

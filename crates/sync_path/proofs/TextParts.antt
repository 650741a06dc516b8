-- The parts of a text, and the one place at which it is bad.
use Rattle.std.proofs.Common.{◌≡◌, ℕ, ◌+◌, ◌≤◌, ◌<◌, true, false, ◌&&◌, eqb, Option, Some, None, List, [], ◌∷◌, ◌++◌, length, refl, sym, ap, ap₂, subst, ◌∙◌, arith, append_assoc, length-append}
use Rattle.std.proofs.lemmas.Iterator.{YieldsList}
use Rattle.std.proofs.lemmas.List.{append-nil}
use Rattle.std.specs.List.{flat_map, slice_split}
use Rattle.sync_path.specs.Buffer.{buffer_of}
use Rattle.sync_path.specs.Name.{is_name}
use Rattle.sync_path.specs.Path.{IsPath, path_text, place_behind, has_room, may_follow}
use Rattle.sync_path.specs.PathText.{parts_of, IsBadPlace}
use Rattle.sync_path.proofs.Lengths.{path_with, path_of_root, place_behind-append, place_behind-le}

-- each further name behind a `/`
abbrev pub slashed : List (List ℕ) → List ℕ
slashed names = flat_map (λ name. 47 ∷ name) names

pub path_text-cons : (n : List ℕ) (ns : List (List ℕ)) → path_text (n ∷ ns) ≡ n ++ slashed ns
path_text-cons n [] = sym (append-nil n)
path_text-cons n (m ∷ ns) = ap (λ bs. n ++ (47 ∷ bs)) (path_text-cons m ns)

pub parts_of-some : (text : List ℕ) → 0 < length text → parts_of text ≡ slice_split (λ b. eqb b 47) text
parts_of-some [] h = absurd (omega arith)
parts_of-some (b ∷ bs) h = refl

-- ---- a walk over the parts of a text, which an iterator gives

module _ {S A : Type 0} (steps : S → Option A → S → Type 0) (v : A → List ℕ) where
  -- the parts before are a path of so many names, and the next one begins at this place
  pub record Progress (s : S) (text : List ℕ) (depth place : ℕ) : Type 0 where
    pub before : List (List ℕ)
    pub left : List (List ℕ)
    pub parts : parts_of text ≡ before ++ left
    pub sound : IsPath before
    pub depth_is : depth ≡ length before
    pub place_is : place ≡ place_behind before
    pub yields : YieldsList steps v s left

  pub progress_start : (s : S) (text : List ℕ) → YieldsList steps v s (parts_of text) → Progress s text 0 0
  progress_start s text y = record { before = []; left = parts_of text; parts = refl; sound = path_of_root; depth_is = refl; place_is = refl; yields = y }

  -- the part that comes next
  next_part : (left : List (List ℕ)) (s t : S) (x : A) → YieldsList steps v s left → steps s (Some x) t → (rest : List (List ℕ)) × (left ≡ v x ∷ rest) × YieldsList steps v t rest
  next_part [] s t x y k = absurd (y.runs x t k)
  next_part (part ∷ rest) s t x y k = let told = y.runs.1 x t k in (rest, ap (λ p. p ∷ rest) (sym told.0), record { runs = told.1 })

  pub progress_step : (s t : S) (text : List ℕ) (depth place : ℕ) (x : A) → Progress s text depth place → steps s (Some x) t
      → (is_name (v x) && has_room depth place (length (v x))) ≡ true → Progress t text (depth + 1) (place + (length (v x) + 1))
  progress_step s t text depth place x p k f =
      let next = next_part p.left s t x p.yields k in
      let follows : may_follow p.before (v x) ≡ true = ap₂ (λ d q. is_name (v x) && has_room d q (length (v x))) (sym p.depth_is) (sym p.place_is) ∙ f in
      record {
        before = p.before ++ v x ∷ [];
        left = next.0;
        parts = p.parts ∙ ap (λ ps. p.before ++ ps) next.1 ∙ sym (append_assoc p.before (v x ∷ []) next.0);
        sound = path_with p.before (v x) p.sound follows;
        depth_is = omega (arith, p.depth_is, length-append p.before (v x ∷ []));
        place_is = omega (arith, p.place_is, place_behind-append p.before (v x ∷ []));
        yields = next.2;
      }

  pub progress_bad : (s t : S) (text : List ℕ) (depth place : ℕ) (x : A) → Progress s text depth place → steps s (Some x) t
      → (is_name (v x) && has_room depth place (length (v x))) ≡ false → IsBadPlace text place
  progress_bad s t text depth place x p k f =
      let next = next_part p.left s t x p.yields k in
      record {
        before = p.before;
        part = v x;
        behind = next.0;
        parts = p.parts ∙ ap (λ ps. p.before ++ ps) next.1;
        sound = p.sound;
        bad = ap₂ (λ d q. is_name (v x) && has_room d q (length (v x))) (sym p.depth_is) (sym p.place_is) ∙ f;
        begins = p.place_is;
      }

  no_part : (left : List (List ℕ)) (s t : S) → YieldsList steps v s left → steps s None t → left ≡ []
  no_part [] s t y k = refl
  no_part (part ∷ rest) s t y k = absurd (y.runs.0 t k)

  pub progress_end : (s t : S) (text : List ℕ) (depth place : ℕ) → Progress s text depth place → steps s None t → IsPath (parts_of text)
  progress_end s t text depth place p k =
      subst IsPath (sym (p.parts ∙ ap (λ ps. p.before ++ ps) (no_part p.left s t p.yields k) ∙ append-nil p.before)) p.sound

  pub progress_bounds : (s : S) (text : List ℕ) (depth place : ℕ) → Progress s text depth place → (depth ≤ 64) × (place ≤ 4097)
  progress_bounds s text depth place p =
      let most : place_behind p.before ≤ 4097 = place_behind-le p.before p.sound.len in
      (omega (arith, p.depth_is, p.sound.depth), omega (arith, p.place_is, most))

  -- the buffer has the parts before
  pub record Filling (s : S) (text buffer : List ℕ) : Type 0 where
    pub left : List (List ℕ)
    pub filled : buffer ++ buffer_of left ≡ buffer_of (parts_of text)
    pub yields : YieldsList steps v s left

  pub filling_start : (s : S) (text : List ℕ) → YieldsList steps v s (parts_of text) → Filling s text []
  filling_start s text y = record { left = parts_of text; filled = refl; yields = y }

  pub filling_step : (s t : S) (text buffer more : List ℕ) (x : A) → Filling s text buffer → steps s (Some x) t → more ≡ buffer ++ v x ++ 0 ∷ [] → Filling t text more
  filling_step s t text buffer more x p k e =
      let next = next_part p.left s t x p.yields k in
      record {
        left = next.0;
        filled =
            ap (λ bs. bs ++ buffer_of next.0) e ∙ append_assoc (buffer ++ v x) (0 ∷ []) (buffer_of next.0) ∙ append_assoc buffer (v x) (0 ∷ buffer_of next.0)
            ∙ ap (λ ps. buffer ++ buffer_of ps) (sym next.1) ∙ p.filled;
        yields = next.2;
      }

  pub filling_end : (s t : S) (text buffer : List ℕ) → Filling s text buffer → steps s None t → buffer ≡ buffer_of (parts_of text)
  filling_end s t text buffer p k = sym (append-nil buffer) ∙ ap (λ ps. buffer ++ buffer_of ps) (sym (no_part p.left s t p.yields k)) ∙ p.filled

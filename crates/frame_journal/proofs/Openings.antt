-- A file opens with one list of payloads, or it has one bad frame.
use Rattle.std.proofs.Common.{◌≡◌, ◌≢◌, inl, inr, ℕ, suc, ◌≤◌, List, [], ◌∷◌, ◌++◌, length, refl, sym, ap, ◌∙◌, append_assoc, arith}
use Rattle.std.proofs.lemmas.List.{length-append}
use Rattle.frame_journal.specs.Layout.{block, frame, frames, IsPayload, ArePayloads, EndsShut, OpensWith, BreaksBehind, IsBadFrame}
use Rattle.frame_journal.proofs.Spelling.{length-block, same_block}

heads : (x y : ℕ) (xs ys : List ℕ) → x ∷ xs ≡ y ∷ ys → x ≡ y
heads x y xs ys e = cc

tails : (x y : ℕ) (xs ys : List ℕ) → x ∷ xs ≡ y ∷ ys → xs ≡ ys
tails x y xs ys e = cc

-- frames and what stands behind them, the first one taken apart
frames_first : (p : List ℕ) (ps : List (List ℕ)) (x : List ℕ) → frames (p ∷ ps) ++ x ≡ 1 ∷ (block p ++ (frames ps ++ x))
frames_first p ps x = append_assoc (frame p) (frames ps) x

-- no frame with one more byte behind it stands there
abbrev pub NotWhole : List ℕ → Type 0
NotWhole rest = (payload : List ℕ) (next : ℕ) (more : List ℕ) → IsPayload payload → rest ≡ block payload ++ next ∷ more → ⊥

-- frames with a byte behind them are some byte with others behind it
begins : (ps : List (List ℕ)) (x : ℕ) (xs : List ℕ) → (next : ℕ) × (more : List ℕ) × (frames ps ++ x ∷ xs ≡ next ∷ more)
begins [] x xs = (x, xs, refl)
begins (p ∷ ps) x xs = (1, block p ++ (frames ps ++ x ∷ xs), frames_first p ps (x ∷ xs))

-- a whole frame isn't one that isn't whole
whole_or_not : (p : List ℕ) (ps : List (List ℕ)) (x : ℕ) (xs rest : List ℕ) → IsPayload p → NotWhole rest → frames (p ∷ ps) ++ x ∷ xs ≡ 1 ∷ rest → ⊥
whole_or_not p ps x xs rest fits not_whole e =
    let b = begins ps x xs in
    not_whole p b.0 b.1 fits (tails 1 1 rest (block p ++ (frames ps ++ x ∷ xs)) (sym e ∙ frames_first p ps (x ∷ xs)) ∙ ap (λ l. block p ++ l) b.2)

-- the first frames of two spellings
first_frames : (p q : List ℕ) (ps qs : List (List ℕ)) (x y : List ℕ) → IsPayload p → IsPayload q → frames (p ∷ ps) ++ x ≡ frames (q ∷ qs) ++ y → (p ≡ q) × (frames ps ++ x ≡ frames qs ++ y)
first_frames p q ps qs x y p-fits q-fits e =
    same_block p q (frames ps ++ x) (frames qs ++ y) p-fits q-fits (tails 1 1 _ _ (sym (frames_first p ps x) ∙ e ∙ frames_first q qs y))

one_list : (ps qs : List (List ℕ)) (g h : ℕ) (x y : List ℕ) → ArePayloads ps → ArePayloads qs → g ≢ 1 → h ≢ 1 → frames ps ++ g ∷ x ≡ frames qs ++ h ∷ y → ps ≡ qs
one_list [] [] g h x y ps-fit qs-fit g-shut h-shut e = refl
one_list [] (q ∷ qs) g h x y ps-fit qs-fit g-shut h-shut e = absurd (g-shut (heads g 1 _ _ (e ∙ frames_first q qs (h ∷ y))))
one_list (p ∷ ps) [] g h x y ps-fit qs-fit g-shut h-shut e = absurd (h-shut (heads h 1 _ _ (sym e ∙ frames_first p ps (g ∷ x))))
one_list (p ∷ ps) (q ∷ qs) g h x y ps-fit qs-fit g-shut h-shut e =
    let both = first_frames p q ps qs (g ∷ x) (h ∷ y) ps-fit.0 qs-fit.0 e in
    let same = one_list ps qs g h x y ps-fit.1 qs-fit.1 g-shut h-shut both.1 in
    (λ i. both.0 i ∷ same i)

shut_or_bad : (ps bs : List (List ℕ)) (g : ℕ) (x rest : List ℕ) → ArePayloads ps → ArePayloads bs → g ≢ 1 → NotWhole rest → frames ps ++ g ∷ x ≡ frames bs ++ 1 ∷ rest → ⊥
shut_or_bad [] [] g x rest ps-fit bs-fit shut not_whole e = shut (heads g 1 _ _ e)
shut_or_bad [] (b ∷ bs) g x rest ps-fit bs-fit shut not_whole e = shut (heads g 1 _ _ (e ∙ frames_first b bs (1 ∷ rest)))
shut_or_bad (p ∷ ps) [] g x rest ps-fit bs-fit shut not_whole e = whole_or_not p ps g x rest ps-fit.0 not_whole e
shut_or_bad (p ∷ ps) (b ∷ bs) g x rest ps-fit bs-fit shut not_whole e =
    shut_or_bad ps bs g x rest ps-fit.1 bs-fit.1 shut not_whole (first_frames p b ps bs (g ∷ x) (1 ∷ rest) ps-fit.0 bs-fit.0 e).1

one_bad : (cs bs : List (List ℕ)) (x y : List ℕ) → ArePayloads cs → ArePayloads bs → NotWhole x → NotWhole y → frames cs ++ 1 ∷ x ≡ frames bs ++ 1 ∷ y → length cs ≡ length bs
one_bad [] [] x y cs-fit bs-fit x-bad y-bad e = refl
one_bad [] (b ∷ bs) x y cs-fit bs-fit x-bad y-bad e = absurd (whole_or_not b bs 1 y x bs-fit.0 x-bad (sym e))
one_bad (a ∷ cs) [] x y cs-fit bs-fit x-bad y-bad e = absurd (whole_or_not a cs 1 x y cs-fit.0 y-bad e)
one_bad (a ∷ cs) (b ∷ bs) x y cs-fit bs-fit x-bad y-bad e =
    ap suc (one_bad cs bs x y cs-fit.1 bs-fit.1 x-bad y-bad (first_frames a b cs bs (1 ∷ x) (1 ∷ y) cs-fit.0 bs-fit.0 e).1)

-- a file that ends shut and has at most one byte has no frame
short_none : (payloads : List (List ℕ)) (file : List ℕ) → length file ≤ 1 → EndsShut payloads file → payloads ≡ []
short_none [] file short ends = refl
short_none (p ∷ ps) file short ends =
    absurd (omega (arith, ap length (ends.split ∙ frames_first p ps (ends.gate ∷ ends.rest)), length-append (block p) (frames ps ++ ends.gate ∷ ends.rest), length-block p))

-- two lists that a file opens with are one
pub one_opening : (ps qs : List (List ℕ)) (file : List ℕ) → OpensWith ps file → OpensWith qs file → ps ≡ qs
one_opening ps qs file (inl p) (inl q) = p.0 ∙ sym q.0
one_opening ps qs file (inl p) (inr q) = p.0 ∙ sym (short_none qs file p.1 q)
one_opening ps qs file (inr p) (inl q) = short_none ps file q.1 p ∙ sym q.0
one_opening ps qs file (inr p) (inr q) = one_list ps qs p.gate q.gate p.rest q.rest p.fit q.fit p.shut q.shut (sym p.split ∙ q.split)

-- a file that opens with payloads has no bad frame
pub opens_or_breaks : (ps bs : List (List ℕ)) (file : List ℕ) → OpensWith ps file → BreaksBehind bs file → ⊥
opens_or_breaks ps bs file (inl p) bad = absurd (omega (arith, p.1, bad.long))
opens_or_breaks ps bs file (inr p) bad = shut_or_bad ps bs p.gate p.rest bad.rest p.fit bad.fit p.shut bad.not_whole (sym p.split ∙ bad.split)

pub opens_or_bad : (ps : List (List ℕ)) (n : ℕ) (file : List ℕ) → OpensWith ps file → IsBadFrame n file → ⊥
opens_or_bad ps n file opens bad = opens_or_breaks ps bad.0 file opens bad.2

-- it has at most one
pub one_bad_frame : (m n : ℕ) (file : List ℕ) → IsBadFrame m file → IsBadFrame n file → m ≡ n
one_bad_frame m n file a b =
    sym a.1 ∙ one_bad a.0 b.0 a.2.rest b.2.rest a.2.fit b.2.fit a.2.not_whole b.2.not_whole (sym a.2.split ∙ b.2.split) ∙ b.1

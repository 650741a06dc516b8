-- The text of a path has its names as its parts, and a text that is none has one place at which it is bad.
use Rattle.std.proofs.Common.{◌≡◌, ℕ, ◌≤◌, ◌<◌, ◌⊎◌, inl, inr, true, false, ◌&&◌, eqb, not, leb, List, [], ◌∷◌, ◌++◌, length, refl, sym, ap, ap₂, subst, ◌∙◌, arith, length-append, append_assoc}
use Rattle.std.proofs.lemmas.Bool.{and_parts, not-true, leb-true, true≢false, cases_Bool}
use Rattle.std.proofs.lemmas.List.{append-nil}
use Rattle.std.proofs.lemmas.List.Elements.{All-nil, All-cons}
use Rattle.std.proofs.lemmas.List.Splits.{slice_split_none, slice_split_at, join_with_byte-slice_split}
use Rattle.std.specs.List.{All, list_all, slice_split}
use Rattle.std.specs.Str.{is_utf8}
use Rattle.sync_path.specs.Name.{has_name_form, is_name, has_name_len, is_dots, is_name_byte}
use Rattle.sync_path.specs.Path.{IsPath, path_text, place_behind, may_follow}
use Rattle.sync_path.specs.PathText.{IsPathText, parts_of, IsBadPlace}
use Rattle.sync_path.proofs.Buffers.{IsPlain, AreNames, rest_from_plain, first_plain, rest_names}
use Rattle.sync_path.proofs.Lengths.{path_with, path_of_root, follows_in_path}
use Rattle.sync_path.proofs.TextParts.{parts_of-some}

pub path_text-parts_of : (text : List ℕ) → path_text (parts_of text) ≡ text
path_text-parts_of [] = refl
path_text-parts_of (b ∷ bs) = join_with_byte-slice_split 47 (b ∷ bs)

lacks_slash : (bs : List ℕ) → IsPlain bs → All (λ b. eqb b 47 ≡ false) bs
lacks_slash [] h = All-nil (λ b. eqb b 47 ≡ false)
lacks_slash (b ∷ bs) h =
    let first = and_parts (leb 32 b) (not (eqb b 47)) (and_parts (is_name_byte b) (list_all is_name_byte bs) h).0 in
    All-cons (λ c. eqb c 47 ≡ false) b bs (not-true (eqb b 47) first.1) (lacks_slash bs (rest_from_plain b bs h))

split_text : (n : List ℕ) (ns : List (List ℕ)) → AreNames (n ∷ ns) → slice_split (λ b. eqb b 47) (path_text (n ∷ ns)) ≡ n ∷ ns
split_text n [] h = slice_split_none (λ b. eqb b 47) n (lacks_slash n (first_plain n [] h))
split_text n (m ∷ ns) h =
    slice_split_at (λ b. eqb b 47) n 47 (path_text (m ∷ ns)) (lacks_slash n (first_plain n (m ∷ ns) h)) refl
    ∙ ap (λ ps. n ∷ ps) (split_text m ns (rest_names n (m ∷ ns) h))

some_byte : (n : List ℕ) → is_name n ≡ true → 0 < length n
some_byte n h =
    let len = and_parts (leb 1 (length n)) (leb (length n) 255) (and_parts (has_name_len n) (not (is_dots n)) (and_parts (has_name_len n && not (is_dots n)) (list_all is_name_byte n) (and_parts (is_utf8 n) (has_name_form n) h).1).0).0 in
    let most : 1 ≤ length n = leb-true 1 (length n) len.0 in
    omega arith

some_text : (n : List ℕ) (ns : List (List ℕ)) → AreNames (n ∷ ns) → 0 < length (path_text (n ∷ ns))
some_text n [] h = some_byte n (and_parts (is_name n) true h).0
some_text n (m ∷ ns) h = omega (arith, length-append n (47 ∷ path_text (m ∷ ns)))

-- the parts of a path's text are its names
pub parts_of-path_text : (names : List (List ℕ)) → AreNames names → parts_of (path_text names) ≡ names
parts_of-path_text [] h = refl
parts_of-path_text (n ∷ ns) h = parts_of-some (path_text (n ∷ ns)) (some_text n ns h) ∙ split_text n ns h

pub path_from_text : (text : List ℕ) → IsPathText text → IsPath (parts_of text)
path_from_text text t = subst IsPath (sym (ap parts_of t.2 ∙ parts_of-path_text t.0 t.1.each_name)) t.1

pub text_from_path : (text : List ℕ) → IsPath (parts_of text) → IsPathText text
text_from_path text h = (parts_of text, h, sym (path_text-parts_of text))

heads : {X : Type 0} (x y : X) (xs ys : List X) → x ∷ xs ≡ y ∷ ys → x ≡ y
heads x y xs ys e = cc

tails : {X : Type 0} (x y : X) (xs ys : List X) → x ∷ xs ≡ y ∷ ys → xs ≡ ys
tails x y xs ys e = cc

-- of two beginnings of a list one goes on with the other's next part, where they differ
two_fronts : {X : Type 0} (b c : List X) (x y : X) (us vs : List X) → b ++ x ∷ us ≡ c ++ y ∷ vs
    → (b ≡ c) ⊎ (((r : List X) × (c ≡ b ++ x ∷ r)) ⊎ ((r : List X) × (b ≡ c ++ y ∷ r)))
two_fronts [] [] x y us vs e = inl refl
two_fronts [] (z ∷ c) x y us vs e = inr (inl (c, ap (λ h. h ∷ c) (heads z x (c ++ y ∷ vs) us (sym e))))
two_fronts (z ∷ b) [] x y us vs e = inr (inr (b, ap (λ h. h ∷ b) (heads z y (b ++ x ∷ us) vs e)))
two_fronts (w ∷ b) (z ∷ c) x y us vs e =
    let first : w ≡ z = heads w z (b ++ x ∷ us) (c ++ y ∷ vs) e in
    elim (two_fronts b c x y us vs (tails w z (b ++ x ∷ us) (c ++ y ∷ vs) e)) [
      | inl same ↦ inl (ap₂ (λ h l. h ∷ l) first same)
      | inr more ↦ elim more [
        | inl r ↦ inr (inl (r.0, ap₂ (λ h l. h ∷ l) (sym first) r.1))
        | inr r ↦ inr (inr (r.0, ap₂ (λ h l. h ∷ l) first r.1))
      ]
    ]

-- the next part of a front of a path may stand there
goes_on : (before rest : List (List ℕ)) (part : List ℕ) → IsPath (before ++ part ∷ rest) → may_follow before part ≡ false → ⊥
goes_on before rest part h f = true≢false (sym (follows_in_path before part rest h) ∙ f)

pub path_has_no_bad : (text : List ℕ) (place : ℕ) → IsPath (parts_of text) → IsBadPlace text place → ⊥
path_has_no_bad text place h b = goes_on b.before b.behind b.part (subst IsPath b.parts h) b.bad

pub one_bad_place : (text : List ℕ) (p q : ℕ) → IsBadPlace text p → IsBadPlace text q → p ≡ q
one_bad_place text p q a b =
    elim (two_fronts a.before b.before a.part b.part a.behind b.behind (sym a.parts ∙ b.parts)) [
      | inl e ↦ a.begins ∙ ap place_behind e ∙ sym b.begins
      | inr more ↦ elim more [
        | inl r ↦ absurd (goes_on a.before r.0 a.part (subst IsPath r.1 b.sound) a.bad)
        | inr r ↦ absurd (goes_on b.before r.0 b.part (subst IsPath r.1 a.sound) b.bad)
      ]
    ]

-- the first part that may not stand where it does, if there is one
first_bad : (before left : List (List ℕ)) → IsPath before
    → IsPath (before ++ left) ⊎ ((b : List (List ℕ)) × (p : List ℕ) × (a : List (List ℕ)) × (before ++ left ≡ b ++ p ∷ a) × IsPath b × (may_follow b p ≡ false))
first_bad before [] h = inl (subst IsPath (sym (append-nil before)) h)
first_bad before (part ∷ left) h =
    let same : (before ++ part ∷ []) ++ left ≡ before ++ part ∷ left = append_assoc before (part ∷ []) left in
    elim (cases_Bool (may_follow before part)) [
      | inl follows ↦ elim (first_bad (before ++ part ∷ []) left (path_with before part h follows)) [
        | inl path ↦ inl (subst IsPath same path)
        | inr bad ↦ inr (bad.0, bad.1, bad.2, sym same ∙ bad.3, bad.4, bad.5)
      ]
      | inr breaks ↦ inr (before, part, left, refl, h, breaks)
    ]

pub path_or_bad : (text : List ℕ) → IsPathText text ⊎ ((place : ℕ) × IsBadPlace text place)
path_or_bad text =
    elim (first_bad [] (parts_of text) path_of_root) [
      | inl path ↦ inl (text_from_path text path)
      | inr bad ↦ inr (place_behind bad.0, record { before = bad.0; part = bad.1; behind = bad.2; parts = bad.3; sound = bad.4; bad = bad.5; begins = refl })
    ]

pub same_from_texts : (path other : List (List ℕ)) → IsPath path → IsPath other → path_text path ≡ path_text other → path ≡ other
same_from_texts path other h k e = sym (parts_of-path_text path h.each_name) ∙ ap parts_of e ∙ parts_of-path_text other k.each_name

-- Which of two disks goes on.
use Rattle.std.proofs.Common.{lt-ltb, le-ltb, ◌≡◌, ℕ, ◌^◌, ◌<◌, ◌≤◌, Bool, true, false, cond, nat_lt, List, [], ◌∷◌, ◌++◌, refl, sym, ap, ◌∙◌, arith}
use Rattle.std.proofs.lemmas.Nat.{from_be_bytes-to_be_bytes_8}
use Rattle.frame_journal.specs.Layout.{OpensWith}
use Rattle.frame_journal.specs.Generation.{is_generation, number_in, generation_payload, generation_of, without_generation, checkpoint_of}
use Rattle.frame_journal.specs.Older.{OpensLesser}
use Rattle.frame_journal.specs.PairState.{OpensPairWith, LosesTo}

-- the payload of a generation is one
pub is_its_generation : (n : ℕ) → is_generation (generation_payload n) ≡ true
unfolding is_generation generation_payload
is_its_generation n = refl

-- of that number
pub its_number : (n : ℕ) → n < 2 ^ 64 → number_in (generation_payload n) ≡ n
unfolding number_in generation_payload
its_number n fits = from_be_bytes-to_be_bytes_8 n fits

-- a checkpoint has its generation
pub checkpoint_generation : (n : ℕ) (ps : List (List ℕ)) → n < 2 ^ 64 → generation_of (checkpoint_of n ps) ≡ n
checkpoint_generation n ps fits = ap (λ b. cond b (number_in (generation_payload n)) 0) (is_its_generation n) ∙ its_number n fits

pub checkpoint_without : (n : ℕ) (ps : List (List ℕ)) → without_generation (checkpoint_of n ps) ≡ ps
checkpoint_without n ps = ap (λ b. cond b ps (generation_payload n ∷ ps)) (is_its_generation n)

-- one more payload leaves the generation, where it isn't the first and tells one
pub generation_push : (ps : List (List ℕ)) (q : List ℕ) → (ps ≡ [] → is_generation q ≡ false) → generation_of (ps ++ q ∷ []) ≡ generation_of ps
generation_push [] q not_one = ap (λ b. cond b (number_in q) 0) (not_one refl)
generation_push (p ∷ ps) q not_one = refl

pub without_push : (ps : List (List ℕ)) (q : List ℕ) → (ps ≡ [] → is_generation q ≡ false) → without_generation (ps ++ q ∷ []) ≡ without_generation ps ++ q ∷ []
without_push [] q not_one = ap (λ b. cond b [] (q ∷ [])) (not_one refl)
without_push (p ∷ ps) q not_one = same (is_generation p) where
  same : (b : Bool) → cond b (ps ++ q ∷ []) ((p ∷ ps) ++ q ∷ []) ≡ cond b ps (p ∷ ps) ++ q ∷ []
  same true = refl
  same false = refl

-- a journal with no payloads and no generation has no frames, or one of generation 0
pub none_without : (ps : List (List ℕ)) → ps ≡ [] → (without_generation ps ≡ []) × (generation_of ps ≡ 0)
none_without [] is = (refl, refl)
none_without (p ∷ ps) is = absurd cc

test_lt : (m n : ℕ) → m < n → nat_lt m n ≡ true
test_lt m n less = lt-ltb m n less

test_ge : (m n : ℕ) → n ≤ m → nat_lt m n ≡ false
test_ge m n le = le-ltb m n le

-- the disk gone on with beside one of a lesser generation
pub opens_by : (b : Bool) (ps : List (List ℕ)) (image spare_image : List ℕ) → OpensWith ps image → OpensLesser (LosesTo b (generation_of ps)) spare_image
    → OpensPairWith (without_generation ps) (cond b spare_image image) (cond b image spare_image)
opens_by false ps image spare_image opens lesser = record {
  in_first = ps;
  in_second = lesser.0;
  opens_first = opens;
  opens_second = lesser.1;
  goes_on = ap (λ t. without_generation (cond t lesser.0 ps)) (sym (test_ge (generation_of ps) (generation_of lesser.0) lesser.2));
}
opens_by true ps image spare_image opens lesser = record {
  in_first = lesser.0;
  in_second = ps;
  opens_first = lesser.1;
  opens_second = opens;
  goes_on = ap (λ t. without_generation (cond t ps lesser.0)) (sym (test_lt (generation_of lesser.0) (generation_of ps) lesser.2));
}

-- and beside one of a greater generation
pub opens_greater : (b : Bool) (ps fs : List (List ℕ)) (image spare_image : List ℕ) → OpensWith ps image → OpensWith fs spare_image → generation_of ps < generation_of fs
    → OpensPairWith (without_generation fs) (cond b spare_image image) (cond b image spare_image)
opens_greater false ps fs image spare_image opens greater more = record {
  in_first = ps;
  in_second = fs;
  opens_first = opens;
  opens_second = greater;
  goes_on = ap (λ t. without_generation (cond t fs ps)) (sym (test_lt (generation_of ps) (generation_of fs) more));
}
opens_greater true ps fs image spare_image opens greater more = record {
  in_first = fs;
  in_second = ps;
  opens_first = greater;
  opens_second = opens;
  goes_on = ap (λ t. without_generation (cond t ps fs)) (sym (test_ge (generation_of fs) (generation_of ps) (omega (arith, more))));
}

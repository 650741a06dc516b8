-- What a journal on two disks reads when it is opened.
use Rattle.std.proofs.Common.{◌≡◌, ℕ, Bool, nat_lt, List, [], ◌∷◌, sym, ap, ◌∙◌}
use Rattle.disk_model.specs.Content.{Content}
use Rattle.disk_model.specs.Disk.{OnTold}
use Rattle.frame_journal.specs.Layout.{OpensWith}
use Rattle.frame_journal.specs.Generation.{generation_of, without_generation}
use Rattle.frame_journal.specs.PairState.{OpensPairWith, chosen}
use Rattle.frame_journal.proofs.Openings.{one_opening}

-- what was read is what the files open with
pub goes_on_with : (h k : List Content) (ps qs : List (List ℕ)) (on_second : Bool) (generation : ℕ)
    → on_second ≡ nat_lt (generation_of ps) (generation_of qs) → generation ≡ generation_of (chosen ps qs)
    → OnTold h (λ now. OpensWith ps now.bytes) → OnTold k (λ now. OpensWith qs now.bytes) → (ps' qs' : List (List ℕ))
    → OnTold h (λ now. OnTold k (λ now'. OpensWith ps' now.bytes → OpensWith qs' now'.bytes
    → (on_second ≡ nat_lt (generation_of ps') (generation_of qs')) × (generation ≡ generation_of (chosen ps' qs'))))
goes_on_with [] k ps qs on_second generation on number first second ps' qs' = tt
goes_on_with (now ∷ past) [] ps qs on_second generation on number first second ps' qs' = tt
goes_on_with (now ∷ past) (now' ∷ past') ps qs on_second generation on number first second ps' qs' = λ opens opens'.
    let one = one_opening ps ps' now.bytes first opens in
    let two = one_opening qs qs' now'.bytes second opens' in (
      on ∙ ap (λ l. nat_lt (generation_of l) (generation_of qs)) one ∙ ap (λ l. nat_lt (generation_of ps') (generation_of l)) two,
      number ∙ ap (λ l. generation_of (chosen l qs)) one ∙ ap (λ l. generation_of (chosen ps' l)) two,
    )

-- two files open with one list of payloads
pub one_pair : (ps qs : List (List ℕ)) (first second : List ℕ) → OpensPairWith ps first second → OpensPairWith qs first second → ps ≡ qs
one_pair ps qs first second p q =
    let one = one_opening p.in_first q.in_first first p.opens_first q.opens_first in
    let two = one_opening p.in_second q.in_second second p.opens_second q.opens_second in
    p.goes_on ∙ ap (λ l. without_generation (chosen l p.in_second)) one ∙ ap (λ l. without_generation (chosen q.in_first l)) two ∙ sym q.goes_on

-- The two sides of a link, as the world of `mux_core`.
use Rattle.std.specs.Prelude.{ℕ, List, Option, refl}
use Rattle.std.specs.Coded.{Coded, code_by, coded×, coded_ℕ, coded_list, coded_option}
use Rattle.mux_frames.specs.Readers.{Reading}
use Rattle.mux_core.specs.Ends.{End, end_code}
use Rattle.mux_core.specs.Worlds.{Post, World, Side, Near, Far, Event, Reply}
use Rattle.mux_core.specs.JoinedLaws.{Reaches}
use Rattle.mux_link.specs.declared.post.Post as sides
use Rattle.mux_link.specs.declared.side.Side2.{Side2}
use Rattle.mux_link.specs.declared.side.Side2.TheVariants as names

abbrev pub side_of : Side2 → Side
side_of names.Near = Near
side_of names.Far = Far

-- a side as the world sees it
abbrev pub seen : sides.Post → Post
seen p = record { end = p.end; reader = p.reader }

abbrev pub joined : sides.Post → sides.Post → World
joined near far = record { near = seen near; far = seen far }

-- two ends that were joined came to this world
abbrev pub IsReached : World → Type 0
IsReached w = (steps : List (Event × Reply)) × Reaches steps w

-- worlds are told apart by their fields
abbrev pub reading_code : Coded Reading
reading_code =
    code_by (ℕ × (List ℕ × Option ℕ)) (coded× coded_ℕ (coded× (coded_list coded_ℕ) (coded_option coded_ℕ))) (λ r. (r.taken, (r.held, r.bad))) (λ p. record { taken = p.0; held = p.1.0; bad = p.1.1 }) (λ _. refl)

abbrev pub post_code : Coded Post
post_code = code_by (End × Reading) (coded× end_code reading_code) (λ p. (p.end, p.reader)) (λ p. record { end = p.0; reader = p.1 }) (λ _. refl)

abbrev pub world_code : Coded World
world_code = code_by (Post × Post) (coded× post_code post_code) (λ w. (w.near, w.far)) (λ p. record { near = p.0; far = p.1 }) (λ _. refl)

use Rattle.std.proofs.Common.{◌≡◌, ℕ, ◌+◌, ◌<◌, ◌++◌, List, length, take, drop, ap, ◌∙◌, rules}
use Rattle.std.proofs.lemmas.List.{take_at}
use Rattle.disk_model.proofs.Growing.{grown_over}
use Rattle.disk_model.proofs.event.overwrite.Goals as goal

pub returns-clause-ok : goal.returns-clause-ok
returns-clause-ok c =
    let made = c.args.made.now in
    let grown = c.grow.new.bytes.items in
    let whole : length c.put.new.bytes ≡ c.grow.new.bytes.len = search rules in
    let is : c.put.new.bytes ≡ take c.args.place grown ++ made ++ drop (c.args.place + length made) grown =
    c.put.ensures ∙ ap (λ (l : List ℕ). take c.args.place l ++ made ++ drop (c.args.place + length made) l) c.deref_mut.ensures.value in
    let some : 0 < length made = search rules in
    take_at c.put.new.bytes (drop (length c.put.new.bytes) grown) c.grow.new.bytes.len whole ∙ is
    ∙ grown_over c.args.bytes.now.items grown c.args.place made some c.in_ok-grow.ensures.ok

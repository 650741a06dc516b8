use Rattle.std.proofs.Common.{◌≡◌, ℕ, List, ◌∙◌, length, take, min, ap, rules}
use Rattle.disk_model.specs.Content.{written_over}
use Rattle.disk_model.proofs.Tearing.{write_tears}
use Rattle.disk_model.proofs.tear.tear_event.Goals as goal

pub returns-in_ok-tear_write-in-Wrote : goal.returns-in_ok-tear_write-in-Wrote
returns-in_ok-tear_write-in-Wrote c =
    let made = c.in-Wrote.made in
    let n-is : c.min.result ≡ min (length made.items) c.in-Wrote.count = search rules in
    let is : c.overwrite.new.bytes.items ≡ written_over c.args.bytes.now.items c.in-Wrote.place (take c.min.result made.items) =
    c.in_ok-overwrite-in-Wrote.ensures.ok ∙ ap (λ (l : List ℕ). written_over c.args.bytes.now.items c.in-Wrote.place (take c.min.result l)) c.deref.ensures.value in
    write_tears _ c.in-Wrote.place c.in-Wrote.count c.min.result made _ _ _ _ c.in-Wrote.is n-is is c.in_ok-tear_write-in-Wrote.ensures

use Rattle.std.proofs.Common.{◌≡◌, ℕ, List, [], ◌∷◌, ◌++◌, IsOk, ap, sym, ◌∙◌, rules}
use Rattle.disk_model.proofs.Replaying.{pushed_if_ok, written_is, content_after-more, history_of-more}
use Rattle.disk_model.specs.Content.{Content, settled, written_over}
use Rattle.disk_model.specs.Replay.{content_after, history_of}
use Rattle.disk_model.specs.declared.event.Event.{Event}
use Rattle.disk_model.specs.declared.event.Event.TheVariants.{Wrote}
use Rattle.disk_model.proofs.mem_disk.MemDisk.write_part.Goals as goal

pub invariant_of-self-2 : goal.invariant_of-self-2
invariant_of-self-2 c =
    let events = c.args.self.now.events.items in
    let first = c.args.self.now.first.items in
    let made : IsOk c.push.result = c.push.ensures.succeeds (search rules) in
    let more : c.push.new.self.items ≡ events ++ Wrote c.args.place c.args.count c.in_ok-kept.kept ∷ [] =
    pushed_if_ok c.push.result _ _ _ made c.push.ensures.items ∙ ap (λ (l : List Event). l ++ Wrote c.args.place c.args.count c.in_ok-kept.kept ∷ []) c.reserve.ensures.items in
    let now = content_after (settled first) events in
    let is = content_after-more first events _ _ more ∙ written_is now c.args.place c.args.count c.in_ok-kept.kept c.args.made.now c.in_ok-kept.ensures.items c.requires in
    record {
      current = c.in_ok-overwrite.ensures.ok ∙ ap (λ (l : List ℕ). written_over l c.args.place c.args.made.now) c.args.self.now.current
          ∙ ap (λ (n : Content). n.bytes) (sym is);
    }

pub returns-clause-ok : goal.returns-clause-ok
returns-clause-ok c =
    let events = c.args.self.now.events.items in
    let first = c.args.self.now.first.items in
    let made : IsOk c.push.result = search rules in
    let more : c.push.new.self.items ≡ events ++ Wrote c.args.place c.args.count c.in_ok-kept.kept ∷ [] =
    pushed_if_ok c.push.result _ _ _ made c.push.ensures.items ∙ ap (λ (l : List Event). l ++ Wrote c.args.place c.args.count c.in_ok-kept.kept ∷ []) c.reserve.ensures.items in
    history_of-more first events _ _ more
    ∙ ap (λ (n : Content). n ∷ history_of first events) (written_is (content_after (settled first) events) c.args.place c.args.count c.in_ok-kept.kept c.args.made.now c.in_ok-kept.ensures.items c.requires)

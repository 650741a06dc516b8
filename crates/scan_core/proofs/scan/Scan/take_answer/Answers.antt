use Rattle.std.proofs.Common.{◌≡◌, sym, subst, None}
use Rattle.scan_core.specs.Scan.{ScanTold, asked, state_of, ends_asked, IsAnswered}
use Rattle.scan_core.specs.declared.board.Board.{Board}
use Rattle.scan_core.proofs.States.{told_more}
use Rattle.scan_core.proofs.Taking.{state, read_so_far, work_after}
use Rattle.scan_core.specs.Told.{Told}
use Rattle.scan_core.proofs.scan.Scan.take_answer.Goals as goal

pub invariant_of-self-in-Ok-take : goal.invariant_of-self-in-Ok-take
invariant_of-self-in-Ok-take c =
    let entries = c.self.inside.entries in
    let size = c.self.inside.size in
    let work = c.self.inside.work in
    let told = c.self.inside.takes in
    let t : Told = record { answer = c.args.answer.now; rules = c.args.rules.now; cache = c.args.cache.now } in
    told_more entries size work c.take.new.self told c.push.new.self t c.self.invariant c.in-Ok.ensures
    (subst (λ (m : ScanTold). IsAnswered (asked (state_of m)) c.args.answer.now) (sym c.self.view_is) c.requires)
    (subst (λ (b : Board). ends_asked entries b.rows c.args.answer.now b.next ≡ None) c.self.invariant.work_is.board c.in-Ok-take.ensures.goes_on)
    (work_after entries size work told c.self.invariant t c.take.new.self
    (c.in-Ok-take.ensures.ok (state entries size work told c.self.invariant).begun (read_so_far entries size work told c.self.invariant)))

use Rattle.std.proofs.Common.{refl}
use Rattle.std.proofs.lemmas.Result.{on_ok_weaker}
use Rattle.scan_cache.proofs.Lines.{put_line, not_there}
use Rattle.scan_cache.proofs.cache.Cache.learn.Goals as goal

pub returns-in-Ok-clause-ok : goal.returns-in-Ok-clause-ok
returns-in-Ok-clause-ok c =
    put_line c.self.inside.lines c.args.self.now c.self.view_is c.args.path.now c.self.inside.lines c.replace.new.lines (record { stamp = c.args.stamp; digest = c.args.digest }) c.args.stamp c.args.digest refl refl c.in-Ok.ensures.replaced

pub returns-in-Err-clause-ok : goal.returns-in-Err-clause-ok
returns-in-Err-clause-ok c =
    on_ok_weaker c.insert.result
    (put_line c.self.inside.lines c.args.self.now c.self.view_is c.args.path.now c.replace.new.lines c.insert.new.lines c.in-Err.line c.args.stamp c.args.digest c.in-Err.ensures.same c.in-Err.ensures.back)
    c.insert.ensures.ok

pub returns-in-Err-clause-in_place : goal.returns-in-Err-clause-in_place
returns-in-Err-clause-in_place c = λ held.
    absurd (not_there c.self.inside.lines c.args.self.now c.self.view_is c.args.path.now c.in-Err.ensures.absent held)

use Rattle.std.proofs.Common.{◌∙◌, Some, None}
use Rattle.scan_cache.proofs.Lines.{found}
use Rattle.scan_cache.proofs.cache.Cache.lookup.Goals as goal

pub returns-in-Some : goal.returns-in-Some
returns-in-Some c =
    c.line_digest.ensures
    ∙ found c.self.inside.lines c.args.self.now c.self.view_is c.args.path.now c.args.stamp (Some c.in-Some.line.now) c.in-Some.ensures.value

pub returns-in-None : goal.returns-in-None
returns-in-None c = found c.self.inside.lines c.args.self.now c.self.view_is c.args.path.now c.args.stamp None c.in-None.ensures.value

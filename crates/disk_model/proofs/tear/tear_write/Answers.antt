use Rattle.std.proofs.Common.{◌≤◌, length, take, arith}
use Rattle.std.proofs.lemmas.Result.{on_ok_weaker}
use Rattle.std.proofs.lemmas.List.{length-take}
use Rattle.disk_model.proofs.Tearing.{tears_at}
use Rattle.disk_model.proofs.tear.tear_write.Goals as goal

pub returns-in-Half : goal.returns-in-Half
returns-in-Half c =
    let half = take c.div_ceil.result c.args.made.now in
    let within : length half ≤ c.args.count = omega (arith, c.requires.within, length-take c.div_ceil.result c.args.made.now) in
    on_ok_weaker c.overwrite-in-Half.result (λ is. tears_at c.args.image.now.items c.overwrite-in-Half.new.bytes.items c.args.place c.args.count half c.requires.place within is) c.overwrite-in-Half.ensures.ok

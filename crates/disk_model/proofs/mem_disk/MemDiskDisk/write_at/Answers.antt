use Rattle.std.proofs.Common.{length, take, ◌≤◌, arith}
use Rattle.std.proofs.lemmas.List.{length-take}
use Rattle.disk_model.proofs.Replaying.{part_fails}
use Rattle.disk_model.proofs.mem_disk.MemDiskDisk.write_at.Goals as goal

pub returns-then-eq-2-clause-torn : goal.returns-then-eq-2-clause-torn
returns-then-eq-2-clause-torn c =
    let made = take c.div_ceil-half.result c.args.bytes.now in
    let within : length made ≤ length c.args.bytes.now = omega (arith, length-take c.div_ceil-half.result c.args.bytes.now) in
    part_fails c.write_part.result c.args.place (length c.args.bytes.now) _ _ _ _ within c.write_part.ensures.ok c.write_part.ensures.err

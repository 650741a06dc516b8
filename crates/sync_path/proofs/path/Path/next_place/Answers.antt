use Rattle.std.proofs.Common.{◌≡◌, ◌≤◌, ◌∙◌, ap, length, string_bytes, arith}
use Rattle.sync_path.specs.Path.{place_behind}
use Rattle.sync_path.proofs.Ends.{length-kept, length-kept-le}
use Rattle.sync_path.proofs.path.Path.next_place.Goals as goal

pub overflow_cast-result : goal.overflow_cast-result
overflow_cast-result c =
    let few : length (string_bytes c.self.inside.buffer) ≤ 4097 = length-kept-le _ c.self.invariant in
    grind arith

pub returns : goal.returns
returns c =
    let same : length (string_bytes c.self.inside.buffer) ≡ place_behind c.args.self.now = length-kept _ c.self.invariant ∙ ap place_behind c.self.view_is in
    grind arith

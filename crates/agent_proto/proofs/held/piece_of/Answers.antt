use Rattle.std.proofs.Common.{rules, ◌≡◌, length, vec_len, ◌∙◌}
use Rattle.std.proofs.lemmas.List.{nil_from_length}
use Rattle.agent_proto.proofs.Contents.{piece_some, piece_spelt}
use Rattle.agent_proto.proofs.held.piece_of.Goals as goal

pub unreachable-requires : goal.unreachable-requires
unreachable-requires c =
    let size : length c.args.content.items ≡ vec_len c.args.content = search rules in
    piece_some c.args.front.now c.args.content.items c.requires.front c.requires.spelled (nil_from_length c.args.content.items (size ∙ c.in-None.ensures.cases.0))

pub returns : goal.returns
returns c = rw c.from_vec-bytes.ensures (piece_spelt c.args.front.now c.args.content.items c.pop.new.self.items c.in-Some.bit c.requires.front c.requires.spelled c.in-Some.ensures.items)

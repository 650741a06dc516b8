use Rattle.std.proofs.Common.{◌≡◌, ◌++◌, List, ℕ, subst}
use Rattle.std.specs.Prelude.{OnOk}
use Rattle.agent_proto.proofs.Numbers.{low_four}
use Rattle.agent_proto.proofs.write_fields.push_count.Goals as goal

pub returns : goal.returns
returns c = subst (λ (xs : List ℕ). OnOk c.push_u32.result (c.push_u32.new.out.items ≡ c.args.out.now.items ++ xs)) (low_four c.args.count) c.push_u32.ensures

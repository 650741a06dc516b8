use Rattle.request_text.proofs.WordKinds.{both_ok, path_read}
use Rattle.request_text.proofs.kinds.next_path.Goals as goal

pub returns : goal.returns
returns c = both_ok c.read_path.result _ _ _ c.read_path.ensures.path c.read_path.ensures.none (λ found some none. path_read c.args.word.now found some none)

use Rattle.std.proofs.Common.{lit<}
use Rattle.std.proofs.lemmas.Option.{MatchOption-at_some, MatchOption-at_none}
use Rattle.std.proofs.lemmas.Str.Pattern.{rfind_char}
use Rattle.sync_path.proofs.BufferParts.{last_from_cut, last_alone}
use Rattle.sync_path.proofs.path.split_behind_last.Goals as goal

pub returns-in-Some : goal.returns-in-Some
returns-in-Some c = λ bytes e.
    let found = MatchOption-at_some _ _ c.in-Some.at c.in-Some.is (rfind_char 0 c.args.all.now c.rfind.result c.rfind.ensures.cases (lit< tt)) in
    last_from_cut bytes c.args.all.now _ _ c.in-Some.at e found.0 found.1 found.2 c.split_at.ensures.front c.split_at.ensures.back

pub returns-in-None : goal.returns-in-None
returns-in-None c = λ bytes e.
    last_alone bytes c.args.all.now e (MatchOption-at_none _ _ c.in-None.is (rfind_char 0 c.args.all.now c.rfind.result c.rfind.ensures.cases (lit< tt)))

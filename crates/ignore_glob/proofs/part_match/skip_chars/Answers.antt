use Rattle.std.proofs.Common.{◌≡◌, ◌+◌, ◌≤◌, ℕ, List, [], ◌∷◌, length, drop, sym, ap, ◌∙◌, arith, rules}
use Rattle.std.proofs.lemmas.List.{drop-drop, length-drop, nil_from_length}
use Rattle.std.proofs.lemmas.Str.{chars-nil}
use Rattle.std.specs.Str.{chars}
use Rattle.ignore_glob.proofs.part_match.skip_chars.Goals as goal

-- one more is dropped
drop_one : (i x : ℕ) (rest xs : List ℕ) → x ∷ rest ≡ drop i xs → rest ≡ drop (i + 1) xs
drop_one i x rest xs e = ap (drop 1) e ∙ drop-drop 1 i xs

-- where nothing is left, nothing is left further on
drop_none : (i n : ℕ) (xs : List ℕ) → i ≤ n → [] ≡ drop i xs → drop n xs ≡ []
drop_none i n xs le e = nil_from_length (drop n xs) (omega (arith, length-drop n xs, length-drop i xs, ap length e))

pub loop-preserved : goal.loop-preserved
loop-preserved c = (search rules, drop_one c.loop.counter c.in-Some.field-0-0 (chars c.in-Some.behind.now) (chars c.args.text.now) (sym c.in-Some.ensures.cut ∙ c.loop.invariant.1))

pub returns-in-None : goal.returns-in-None
returns-in-None c =
    let none : chars c.loop.rest.now ≡ [] = ap chars c.in-None.ensures.cut ∙ chars-nil in
    none ∙ sym (drop_none c.loop.counter c.args.count (chars c.args.text.now) (omega arith) (sym none ∙ c.loop.invariant.1))

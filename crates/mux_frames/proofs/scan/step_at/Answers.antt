use Rattle.std.proofs.Common.{◌≡◌, ◌+◌, None, List, ℕ, [], ◌∷◌, get_or, drop, subst, sym, ap, ◌∙◌, arith}
use Rattle.std.proofs.lemmas.List.{nil_from_length}
use Rattle.mux_frames.specs.Prefix.{Continues, IsFault}
use Rattle.mux_frames.specs.Frames.{IsSpelling}
use Rattle.mux_frames.specs.Kinds.{code, kind_of}
use Rattle.mux_frames.specs.Bytes.{bytes_of}
use Rattle.mux_frames.proofs.Spellings.{nothing_continues, kind_fault, body_fault, code-kind_of, first_and_rest}
use Rattle.mux_frames.proofs.scan.step_at.Goals as goal

pub returns-then-len-eq0 : goal.returns-then-len-eq0
returns-then-len-eq0 c =
    let none : bytes_of c.args.rest.now ≡ [] = nil_from_length (bytes_of c.args.rest.now) (omega arith) in
    subst (Continues IsSpelling) (sym none) nothing_continues

pub returns-in_default : goal.returns-in_default
returns-in_default c =
    let bytes = bytes_of c.args.rest.now in
    let split : bytes ≡ get_or bytes 0 0 ∷ drop 1 bytes = first_and_rest bytes (omega arith) in
    let unknown : kind_of (get_or bytes 0 0) ≡ None = ap kind_of (sym c.byte.ensures) ∙ sym c.of.ensures ∙ c.in_default.is in
    subst (λ (xs : List ℕ). IsFault IsSpelling xs 0) (sym split) (kind_fault (get_or bytes 0 0) (drop 1 bytes) unknown)

pub returns-in-Bad : goal.returns-in-Bad
returns-in-Bad c =
    let bytes = bytes_of c.args.rest.now in
    let split : bytes ≡ get_or bytes 0 0 ∷ drop 1 bytes = first_and_rest bytes (omega arith) in
    let first_is : get_or bytes 0 0 ≡ code c.in-Some.kind = code-kind_of (get_or bytes 0 0) c.in-Some.kind (ap kind_of (sym c.byte.ensures) ∙ sym c.of.ensures ∙ c.in-Some.is) in
    let whole : code c.in-Some.kind ∷ bytes_of c.skip-behind.result ≡ bytes = ap (λ (xs : List ℕ). code c.in-Some.kind ∷ xs) c.skip-behind.ensures ∙ ap (λ (b : ℕ). b ∷ drop 1 bytes) (sym first_is) ∙ sym split in
    subst (λ (xs : List ℕ). IsFault IsSpelling xs (c.in-Bad.place + 1)) whole (body_fault c.in-Some.kind (bytes_of c.skip-behind.result) c.in-Bad.place c.in-Bad.ensures)

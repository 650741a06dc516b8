-- Passing over files whose digest is kept, one at a time.
use Rattle.std.proofs.Common.{◌≡◌, ℕ, suc, ◌+◌, ◌≤◌, Bool, true, List, [], ◌∷◌, drop, length, arith, sym, ap, ◌∙◌}
use Rattle.std.specs.Prelude.{if◌then◌else◌}
use Rattle.stage_core.specs.Staging.{Digests, is_first_kept, pending}
use Rattle.stage_core.specs.declared.need.Need.{Need}

-- The same files are pending from here on as from the start, and each turn takes one off.
pub record Passes (kept : Digests) (left0 left : List Need) (turn end : ℕ) : Type 0 where
  pub same : pending kept left0 ≡ pending kept left
  pub counted : length left + turn ≡ end
  pub fewer : length left ≤ length left0

-- one turn
pub turned : (kept : Digests) (left0 left left' : List Need) (turn end : ℕ) → Passes kept left0 left turn end
    → is_first_kept kept left ≡ true → left' ≡ drop 1 left → Passes kept left0 left' (turn + 1) end
turned kept left0 [] left' turn end so h gone = absurd (cc)
turned kept left0 (need ∷ behind) left' turn end so h gone =
    let went : left' ≡ behind = gone in
    let fewer : length left' ≡ length behind = ap length went in
    let counted : suc (length behind) + turn ≡ end = so.counted in
    let before : suc (length behind) ≤ length left0 = so.fewer in
    record {
      same = so.same ∙ (ap (λ (b : Bool). if b then pending kept behind else need ∷ behind) h ∙ ap (pending kept) (sym went));
      counted = omega (arith, fewer, counted);
      fewer = omega (arith, fewer, before);
    }

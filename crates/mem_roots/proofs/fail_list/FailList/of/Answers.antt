use Rattle.std.proofs.Common.{◌≡◌, ℕ, Bool, true, false, cond, ◌||◌, List, ◌∷◌, [], get_or, take, refl, sym, ap, ◌∙◌}
use Rattle.std.specs.Prelude.{◌==◌}
use Rattle.std.specs.BTreeMap.{is_at}
use Rattle.std.specs.Cmp.{unsigned_tied, nat_cmp_total, eq_by_cmp_equiv}
use Rattle.std.specs.List.{list_any}
use Rattle.std.specs.Ordering.{nat_cmp}
use Rattle.std.proofs.lemmas.List.{take_more}
use Rattle.std.proofs.lemmas.List.Folds.{list_any-append}
use Rattle.mem_roots.proofs.fail_list.FailList.of.Goals as goal

-- whether a number is among keys
by_order : (n : ℕ) (ks : List ℕ) → list_any (λ m. n == m) ks ≡ list_any (is_at (nat_cmp n)) ks
by_order n ks = λ i. list_any (λ m. sym (unsigned_tied n m) i) ks

one_more : (b a : Bool) → cond b true a ≡ (a || (b || false))
one_more true true = refl
one_more true false = refl
one_more false true = refl
one_more false false = refl

pub loop-call-preserved : goal.loop-call-preserved
loop-call-preserved c n =
    let calls = c.args.calls.now in
    let at = c.loop-call.call-index in
    let call = get_or calls at 0 in
    by_order n c.insert.new.self.keys
    ∙ c.in_ok-insert.ensures.updates.0 n
    ∙ ap (λ b. cond b true (list_any (is_at (nat_cmp n)) c.loop-call.numbers.keys)) ((eq_by_cmp_equiv nat_cmp_total).symm call n ∙ unsigned_tied n call)
    ∙ ap (cond (n == call) true) (sym (by_order n c.loop-call.numbers.keys) ∙ c.loop-call.invariant n)
    ∙ one_more (n == call) (list_any (λ m. n == m) (take at calls))
    ∙ sym (ap (list_any (λ m. n == m)) (take_more calls at 0 c.loop-call-test.true) ∙ list_any-append (λ m. n == m) (take at calls) (call ∷ []))

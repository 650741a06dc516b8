use Rattle.std.proofs.Common.{◌≡◌, ◌+◌, false, [], ◌∷◌, ◌++◌, Some, length, sym, ap, subst, ◌∙◌, arith}
use Rattle.std.proofs.lemmas.List.{length-append}
use Rattle.disk_model.specs.Disk.{OnTold}
use Rattle.frame_journal.specs.Layout.{block}
use Rattle.frame_journal.specs.Reading.{payloads_of}
use Rattle.frame_journal.specs.Standing.{Stands, is_closed, pending_of}
use Rattle.frame_journal.specs.declared.standing.Standing.{Standing}
use Rattle.frame_journal.proofs.Spelling.{length-block}
use Rattle.frame_journal.proofs.Told.{told}
use Rattle.frame_journal.proofs.Appending.{pushed_payloads, open_rests, rests_open, stands_leaves}
use Rattle.frame_journal.proofs.Stepping.{same_kept, open_pending, refused_step, rests_anywhere, fault_stands_so, fault_pending}
use Rattle.frame_journal.proofs.journal.Journal.append.Goals as goal

pub returns-then-is_closed-clause-step : goal.returns-then-is_closed-clause-step
returns-then-is_closed-clause-step g c = rw (← c.self.view_is) (refused_step g.D.Disk.history _ (stands_leaves c.self.inside.standing _ _ c.self.inside.gate c.self.invariant.disk))

pub invariant_of-self-in-Ok : goal.invariant_of-self-in-Ok
invariant_of-self-in-Ok g c =
    let q = c.args.head.now ++ c.args.body.now in
    let ps = payloads_of c.self.inside.payloads.items in
    let gate = c.self.inside.gate in
    let s = c.self.inside.standing in
    let old = g.D.Disk.history c.self.inside.disk in
    let new = g.D.Disk.history c.commit.new.disk in
    let is_open : is_closed s ≡ false = sym c.is_closed.ensures ∙ c.if-is_closed.false in
    let rests = open_rests s old ps gate is_open c.self.invariant.disk in
    let bytes : c.deref.result.now ≡ block q ++ 0 ∷ [] = c.deref.ensures.value ∙ c.in_ok-entry.ensures.block in
    let more : payloads_of c.push.new.self.items ≡ ps ++ q ∷ [] =
    pushed_payloads c.push.result c.unwrap.result _ _ _ c.in_ok-entry.entry.payload q c.unwrap.ensures c.push.ensures.items c.reserve.ensures.items c.in_ok-entry.ensures.payload in
    let made = c.in-Ok.ensures.leaves ps q c.in_ok-entry.ensures.fits bytes rests in
    let next = subst (λ l. OnTold new (λ now. Stands s l (gate + (9 + length q)) now)) (sym more) (rests_open s new (ps ++ q ∷ []) (gate + (9 + length q)) is_open made) in
    let count : c.len.result ≡ 9 + length q = omega (arith, c.len.ensures, ap length bytes, c.deref.ensures.len, length-append (block q) (0 ∷ []), length-block q) in
    record {
      within = omega (arith, c.in-Ok.ensures.room, count, ap length bytes, length-append (block q) (0 ∷ []), length-block q);
      disk = subst (λ k. OnTold new (λ now. Stands s (payloads_of c.push.new.self.items) (gate + k) now)) (sym count) next;
    }

pub returns-in-Ok-clause-step : goal.returns-in-Ok-clause-step
returns-in-Ok-clause-step g c =
    let q = c.args.head.now ++ c.args.body.now in
    let ps = payloads_of c.self.inside.payloads.items in
    let gate = c.self.inside.gate in
    let s = c.self.inside.standing in
    let old = g.D.Disk.history c.self.inside.disk in
    let new = g.D.Disk.history c.commit.new.disk in
    let is_open : is_closed s ≡ false = sym c.is_closed.ensures ∙ c.if-is_closed.false in
    let rests = open_rests s old ps gate is_open c.self.invariant.disk in
    let bytes : c.deref.result.now ≡ block q ++ 0 ∷ [] = c.deref.ensures.value ∙ c.in_ok-entry.ensures.block in
    let more : payloads_of c.push.new.self.items ≡ ps ++ q ∷ [] =
    pushed_payloads c.push.result c.unwrap.result _ _ _ c.in_ok-entry.entry.payload q c.unwrap.ensures c.push.ensures.items c.reserve.ensures.items c.in_ok-entry.ensures.payload in
    let made = c.in-Ok.ensures.leaves ps q c.in_ok-entry.ensures.fits bytes rests in
    let next = subst (λ l. OnTold new (λ now. Stands s l (gate + (9 + length q)) now)) (sym more) (rests_open s new (ps ++ q ∷ []) (gate + (9 + length q)) is_open made) in
    rw (← c.self.view_is) (record {
      kept = told old _ (λ _. same_kept _ _ _ _ more (open_pending s (payloads_of c.push.new.self.items) is_open));
      moments = c.in-Ok.ensures.moments ps q c.in_ok-entry.ensures.fits bytes rests;
      durable = stands_leaves s new (payloads_of c.push.new.self.items) (gate + (9 + length q)) next;
    })

pub returns-in-Ok-clause-rests : goal.returns-in-Ok-clause-rests
returns-in-Ok-clause-rests g c =
    let q = c.args.head.now ++ c.args.body.now in
    let ps = payloads_of c.self.inside.payloads.items in
    let gate = c.self.inside.gate in
    let s = c.self.inside.standing in
    let old = g.D.Disk.history c.self.inside.disk in
    let new = g.D.Disk.history c.commit.new.disk in
    let is_open : is_closed s ≡ false = sym c.is_closed.ensures ∙ c.if-is_closed.false in
    let rests = open_rests s old ps gate is_open c.self.invariant.disk in
    let bytes : c.deref.result.now ≡ block q ++ 0 ∷ [] = c.deref.ensures.value ∙ c.in_ok-entry.ensures.block in
    let more : payloads_of c.push.new.self.items ≡ ps ++ q ∷ [] =
    pushed_payloads c.push.result c.unwrap.result _ _ _ c.in_ok-entry.entry.payload q c.unwrap.ensures c.push.ensures.items c.reserve.ensures.items c.in_ok-entry.ensures.payload in
    let made = c.in-Ok.ensures.leaves ps q c.in_ok-entry.ensures.fits bytes rests in
    let next = subst (λ l. OnTold new (λ now. Stands s l (gate + (9 + length q)) now)) (sym more) (rests_open s new (ps ++ q ∷ []) (gate + (9 + length q)) is_open made) in
    rests_anywhere new (payloads_of c.push.new.self.items) (ps ++ q ∷ []) (gate + (9 + length q)) made (sym more)

pub invariant_of-self-in-Err : goal.invariant_of-self-in-Err
invariant_of-self-in-Err g c =
    let q = c.args.head.now ++ c.args.body.now in
    let ps = payloads_of c.self.inside.payloads.items in
    let gate = c.self.inside.gate in
    let s = c.self.inside.standing in
    let old = g.D.Disk.history c.self.inside.disk in
    let new = g.D.Disk.history c.commit.new.disk in
    let is_open : is_closed s ≡ false = sym c.is_closed.ensures ∙ c.if-is_closed.false in
    let rests = open_rests s old ps gate is_open c.self.invariant.disk in
    let bytes : c.deref.result.now ≡ block q ++ 0 ∷ [] = c.deref.ensures.value ∙ c.in_ok-entry.ensures.block in
    let same : payloads_of c.reserve.new.self.items ≡ ps = ap payloads_of c.reserve.ensures.items in
    let failed = c.in-Err.ensures.leaves ps q c.in_ok-entry.ensures.fits bytes rests in
    let stands = subst (λ (k : Standing). OnTold new (λ now. Stands k ps gate now)) (sym c.refused.ensures) (fault_stands_so c.in-Err.fault new ps gate q c.in_ok-entry.entry.payload c.in_ok-entry.ensures.payload failed) in
    let next = subst (λ l. OnTold new (λ now. Stands c.refused.result l gate now)) (sym same) stands in
    record { within = c.self.invariant.within; disk = next }

pub returns-clause-step : goal.returns-clause-step
returns-clause-step g c =
    let q = c.args.head.now ++ c.args.body.now in
    let ps = payloads_of c.self.inside.payloads.items in
    let gate = c.self.inside.gate in
    let s = c.self.inside.standing in
    let old = g.D.Disk.history c.self.inside.disk in
    let new = g.D.Disk.history c.commit.new.disk in
    let is_open : is_closed s ≡ false = sym c.is_closed.ensures ∙ c.if-is_closed.false in
    let rests = open_rests s old ps gate is_open c.self.invariant.disk in
    let bytes : c.deref.result.now ≡ block q ++ 0 ∷ [] = c.deref.ensures.value ∙ c.in_ok-entry.ensures.block in
    let same : payloads_of c.reserve.new.self.items ≡ ps = ap payloads_of c.reserve.ensures.items in
    let failed = c.in-Err.ensures.leaves ps q c.in_ok-entry.ensures.fits bytes rests in
    let stands = subst (λ (k : Standing). OnTold new (λ now. Stands k ps gate now)) (sym c.refused.ensures) (fault_stands_so c.in-Err.fault new ps gate q c.in_ok-entry.entry.payload c.in_ok-entry.ensures.payload failed) in
    let next = subst (λ l. OnTold new (λ now. Stands c.refused.result l gate now)) (sym same) stands in
    rw (← c.self.view_is) (record {
      kept = told old _ (λ _. same_kept _ _ _ _ same (
          ap (λ (k : Standing). pending_of k (payloads_of c.reserve.new.self.items)) c.refused.ensures
          ∙ fault_pending c.in-Err.fault (payloads_of c.reserve.new.self.items) q c.in_ok-entry.entry.payload c.in_ok-entry.ensures.payload
          ∙ ap (λ l. Some (l ++ q ∷ [])) same
          ));
      moments = c.in-Err.ensures.moments ps q c.in_ok-entry.ensures.fits bytes rests;
      durable = stands_leaves c.refused.result new (payloads_of c.reserve.new.self.items) gate next;
    })

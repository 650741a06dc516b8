use Rattle.std.proofs.Common.{◌≡◌, ℕ, List, ◌++◌, length, refl, sym, ap, subst, ◌∙◌, arith}
use Rattle.std.specs.Prelude.{Result, Err}
use Rattle.mux_frames.specs.declared.next.Next.{Next}
use Rattle.mux_frames.specs.declared.reader.FeedError.{FeedError}
use Rattle.mux_frames.specs.declared.reader.FeedError.TheVariants.{BadFrame}
use Rattle.mux_frames.specs.Readers.{FaultsAfter}
use Rattle.mux_frames.specs.Frames.{IsSpelling}
use Rattle.mux_frames.specs.Prefix.{Continues}
use Rattle.mux_core.specs.Ends.{End}
use Rattle.mux_link.specs.Posts.{seen}
use Rattle.mux_link.proofs.Reaching.{sound, not_bad}
use Rattle.mux_link.proofs.Handing.{within_piece, next_allowed, no_fault, went_frame, went_part}
use Rattle.mux_link.proofs.carrying.carry_part.Goals as goal

pub next_frame-requires : goal.next_frame-requires
next_frame-requires c = (sound (seen c.args.from.now) (seen c.args.to.now) c.requires.joined).partial

pub take_frame-requires-clause-allowed : goal.take_frame-requires-clause-allowed
take_frame-requires-clause-allowed c =
    let found = rw c.in-Ok-Frame.field-0-is at c.in-Ok-Frame.ensures.ok in
    let piece = within_piece c.next_piece-piece.result.now c.args.from.now.end.waiting c.in-Ok-Frame.used c.next_piece-piece.ensures.front found.1 in
    next_allowed (seen c.args.from.now) (seen c.args.to.now) c.in-Ok-Frame.used c.in-Ok-Frame.frame c.requires.joined c.requires.linked c.requires.linked_there piece.1 found.2
    (ap (λ (xs : List ℕ). c.args.to.now.reader.held ++ xs) (sym piece.0) ∙ found.3)

pub unreachable-requires : goal.unreachable-requires
unreachable-requires c =
    let from = seen c.args.from.now in
    let to = seen c.args.to.now in
    let place = c.in-Err-BadFrame.field-0-0 in
    let bad : ◌≡◌ {A = Result Next FeedError} (Err c.in-Err-BadFrame.field-0) (Err (BadFrame place)) = ap Err c.in-Err-BadFrame.field-0-is in
    let fault = c.in-Err-BadFrame.ensures.bad place bad in
    no_fault from to (length c.next_piece-piece.result.now) place c.requires.joined c.requires.linked (subst (λ (xs : List ℕ). FaultsAfter to.reader xs place) c.next_piece-piece.ensures.front fault)

pub returns-in_ok-take_frame-in-Ok-Frame-clause-ok : goal.returns-in_ok-take_frame-in-Ok-Frame-clause-ok
returns-in_ok-take_frame-in-Ok-Frame-clause-ok c =
    let found = rw c.in-Ok-Frame.field-0-is at c.in-Ok-Frame.ensures.ok in
    let from = seen c.args.from.now in
    let to = seen c.args.to.now in
    let piece = within_piece c.next_piece-piece.result.now c.args.from.now.end.waiting c.in-Ok-Frame.used c.next_piece-piece.ensures.front found.1 in
    let spelled = ap (λ (xs : List ℕ). c.args.to.now.reader.held ++ xs) (sym piece.0) ∙ found.3 in (
      found.0,
      omega (arith, found.1, c.next_piece-piece.ensures.most),
      went_frame from to (record { end = c.advance.new.self; reader = c.args.from.now.reader }) (record { end = c.take_frame.new.self; reader = c.pass.new.self }) c.in-Ok-Frame.used c.in-Ok-Frame.frame
          (not_bad from to c.requires.joined) piece.1 found.2 spelled
          (next_allowed from to c.in-Ok-Frame.used c.in-Ok-Frame.frame c.requires.joined c.requires.linked c.requires.linked_there piece.1 found.2 spelled)
          c.in_ok-take_frame-in-Ok-Frame.ensures.ok c.pass.ensures (ap (λ (e : End). record { end = e; reader = c.args.from.now.reader }) c.advance.ensures),
    )

pub returns-in_ok-hold-in-Ok-Partial-clause-ok : goal.returns-in_ok-hold-in-Ok-Partial-clause-ok
returns-in_ok-hold-in-Ok-Partial-clause-ok c =
    let from = seen c.args.from.now in
    let to = seen c.args.to.now in
    let p = c.next_piece-piece.result.now in
    let count = length p in
    let piece = within_piece p c.args.from.now.end.waiting count c.next_piece-piece.ensures.front (omega arith) in
    let front = c.next_piece-piece.ensures.front in
    let known = sound from to c.requires.joined in (
      c.next_piece-piece.ensures.some c.requires.some (omega (arith, c.requires.some, c.requires.within)),
      c.next_piece-piece.ensures.most,
      went_part from to (record { end = c.advance-in-Ok-Partial.new.self; reader = c.args.from.now.reader }) (record { end = c.args.to.now.end; reader = c.hold.new.self }) count
          (not_bad from to c.requires.joined) known.small piece.1 (subst (λ (xs : List ℕ). Continues IsSpelling (to.reader.held ++ xs)) front (rw c.in-Ok-Partial.field-0-is at c.in-Ok-Partial.ensures.ok))
          refl (c.in_ok-hold-in-Ok-Partial.ensures.ok ∙ ap (λ (xs : List ℕ). record to.reader { held = to.reader.held ++ xs }) front) (ap (λ (e : End). record { end = e; reader = c.args.from.now.reader }) c.advance-in-Ok-Partial.ensures),
    )

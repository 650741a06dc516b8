use Rattle.std.proofs.Common.{sym, subst}
use Rattle.request_text.specs.Places.{Goes, Steps}
use Rattle.request_text.proofs.advance.advance.Goals as goal

pub returns-in-Begin : goal.returns-in-Begin
returns-in-Begin c = subst (λ p. Steps (Goes c.args.numbered p c.args.word.now) c.begin.result) (sym c.in-Begin.is) c.begin.ensures

pub returns-in-EditRoot : goal.returns-in-EditRoot
returns-in-EditRoot c = subst (λ p. Steps (Goes c.args.numbered p c.args.word.now) c.edit_verb.result) (sym c.in-EditRoot.is) c.edit_verb.ensures

pub returns-in-Fill : goal.returns-in-Fill
returns-in-Fill c = subst (λ p. Steps (Goes c.args.numbered p c.args.word.now) c.fill_len.result) (sym c.in-Fill.is) c.fill_len.ensures

pub returns-in-FillLen : goal.returns-in-FillLen
returns-in-FillLen c = subst (λ p. Steps (Goes c.args.numbered p c.args.word.now) c.fill_byte.result) (sym c.in-FillLen.is) c.fill_byte.ensures

pub returns-in-Exec : goal.returns-in-Exec
returns-in-Exec c = subst (λ p. Steps (Goes c.args.numbered p c.args.word.now) c.exec_switch.result) (sym c.in-Exec.is) c.exec_switch.ensures

pub returns-in-Step : goal.returns-in-Step
returns-in-Step c = subst (λ p. Steps (Goes c.args.numbered p c.args.word.now) c.step_count.result) (sym c.in-Step.is) c.step_count.ensures

pub returns-in-Until : goal.returns-in-Until
returns-in-Until c = subst (λ p. Steps (Goes c.args.numbered p c.args.word.now) c.until_phase.result) (sym c.in-Until.is) c.until_phase.ensures

pub returns-in-Conn : goal.returns-in-Conn
returns-in-Conn c = subst (λ p. Steps (Goes c.args.numbered p c.args.word.now) c.conn_verb.result) (sym c.in-Conn.is) c.conn_verb.ensures

pub returns-in-Stream : goal.returns-in-Stream
returns-in-Stream c = subst (λ p. Steps (Goes c.args.numbered p c.args.word.now) c.stream_number.result) (sym c.in-Stream.is) c.stream_number.ensures

pub returns-in-StreamNumber : goal.returns-in-StreamNumber
returns-in-StreamNumber c = subst (λ p. Steps (Goes c.args.numbered p c.args.word.now) c.stream_side.result) (sym c.in-StreamNumber.is) c.stream_side.ensures

pub returns-in-StreamFill : goal.returns-in-StreamFill
returns-in-StreamFill c = subst (λ p. Steps (Goes c.args.numbered p c.args.word.now) c.stream_fill_len.result) (sym c.in-StreamFill.is) c.stream_fill_len.ensures

pub returns-in-StreamFillLen : goal.returns-in-StreamFillLen
returns-in-StreamFillLen c = subst (λ p. Steps (Goes c.args.numbered p c.args.word.now) c.stream_fill_byte.result) (sym c.in-StreamFillLen.is) c.stream_fill_byte.ensures

pub returns-in-Read : goal.returns-in-Read
returns-in-Read c = subst (λ p. Steps (Goes c.args.numbered p c.args.word.now) c.read_most.result) (sym c.in-Read.is) c.read_most.ensures

pub returns-in-Move : goal.returns-in-Move
returns-in-Move c = subst (λ p. Steps (Goes c.args.numbered p c.args.word.now) c.move_side.result) (sym c.in-Move.is) c.move_side.ensures

pub returns-in-MoveSide : goal.returns-in-MoveSide
returns-in-MoveSide c = subst (λ p. Steps (Goes c.args.numbered p c.args.word.now) c.move_count.result) (sym c.in-MoveSide.is) c.move_count.ensures

pub returns-in-Done : goal.returns-in-Done
returns-in-Done c = subst (λ p. Steps (Goes c.args.numbered p c.args.word.now) c.nothing_behind.result) (sym c.in-Done.is) c.nothing_behind.ensures

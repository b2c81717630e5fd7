use Rattle.std.proofs.Common.{◌≡◌, ℕ, ◌<◌, ◌≤◌, length, Err, Result, sym, refl, ap, ◌∙◌, subst, arith}
use Rattle.std.proofs.lemmas.Result.{err_from_is_err_and}
use Rattle.order.specs.History.{count}
use Rattle.order.specs.Calls.{ShowAnswers, show, shown, refused}
use Rattle.saturation.specs.Recorded.{history_in}
use Rattle.saturation.proofs.Records.{record_count}
use Rattle.referee.specs.Meaning.{meaning, pairs_of, reply, turn, TurnOn}
use Rattle.referee.specs.Preferring.{as_preference}
use Rattle.referee.specs.declared.refusal.Refusal.{Refusal}
use Rattle.referee.proofs.Shown.{not_serial_turn, serial_turn, shows_placed}
use Rattle.referee.proofs.case.Case.show.Goals as goal

pub returns-in_err-check_serial-clause-law : goal.returns-in_err-check_serial-clause-law
returns-in_err-check_serial-clause-law g c =
    let o = c.args.self.now in
    let f = as_preference g.P.Preference.prefers g.P.Preference.lawful c.args.preference.now in
    let b = g.B.Buffer.numbers c.args.buffer.now in
    let p = err_from_is_err_and c.from_residual.result c.from_residual.ensures.1 in
    let e : c.from_residual.result ≡ Err c.in_err-check_serial.field-0.0 = p.1 ∙ ap Err p.2 in
    let n = c.in_err-check_serial.ensures.not_serial in
    subst (λ (r : Result ℕ Refusal). TurnOn (turn (show f b) (reply shown r) b) (meaning o) (meaning o)) (sym e)
    (not_serial_turn (history_in o.recorded) (pairs_of o) f b o.state c.in_err-check_serial.field-0.0 n.0 n.1)

pub returns-then-len-count-clause-law : goal.returns-then-len-count-clause-law
returns-then-len-count-clause-law g c =
    let o = c.args.self.now in
    let f = as_preference g.P.Preference.prefers g.P.Preference.lawful c.args.preference.now in
    let b = g.B.Buffer.numbers c.args.buffer.now in
    let l : length b < count (history_in o.recorded) = omega (arith, c.len.ensures, c.count-count.ensures, record_count o.recorded, c.if-len-count.true) in
    serial_turn (history_in o.recorded) (pairs_of o) f b o.state (refused 29) b c.in_ok-check_serial.ensures.serial (λ m. refl) (λ P p. ShowAnswers.too_short p l)

pub returns-clause-law : goal.returns-clause-law
returns-clause-law g c =
    let o = c.args.self.now in
    let f = as_preference g.P.Preference.prefers g.P.Preference.lawful c.args.preference.now in
    let b = g.B.Buffer.numbers c.args.buffer.now in
    let room : c.count-count.result ≤ length b = omega (arith, c.len.ensures, c.if-len-count.false) in
    shows_placed o f c.place-order.result.items b _ c.count-count.result c.in_ok-check_serial.ensures.serial
    (λ h Q σ e. c.place-order.ensures.placed h Q σ (e ∙ sym c.events.ensures)) c.count-count.ensures room (rw c.as_slice.ensures.value at c.put_front.ensures)

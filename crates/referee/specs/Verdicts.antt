-- What the states and verdicts of a case mean.
use Rattle.std.specs.Prelude.{Bool, true, false}
use Rattle.order.specs.Calls as order
use Rattle.referee.specs.declared.state.Verdict.{Verdict}
use Rattle.referee.specs.declared.state.Verdict.TheVariants.{Serial, None, Spent}
use Rattle.referee.specs.declared.state.State.{State}
use Rattle.referee.specs.declared.state.State.TheVariants.{Closed, Unjudged, Judged}

abbrev pub verdict_of : Verdict → order.Verdict
verdict_of Serial = order.serial
verdict_of None = order.none
verdict_of Spent = order.spent

-- The verdict is serial.
abbrev pub says_serial : Verdict → Bool
says_serial Serial = true
says_serial None = false
says_serial Spent = false

-- The case is judged, and its verdict is serial.
abbrev pub is_serial : State → Bool
is_serial Closed = false
is_serial Unjudged = false
is_serial (Judged j) = says_serial j.verdict

-- The case is not closed.
abbrev pub is_open : State → Bool
is_open Closed = false
is_open Unjudged = true
is_open (Judged j) = true

use Rattle.std.proofs.Common.{◌≡◌, ◌++◌, take, drop}
use Rattle.referee.proofs.showing.put_front.Given as goal

abbrev pub invariant-loop-i : goal.invariant-loop-i
invariant-loop-i g l = g.B.Buffer.numbers l.buffer ≡ take l.i l.order ++ drop l.i (g.B.Buffer.numbers l.initial.buffer)

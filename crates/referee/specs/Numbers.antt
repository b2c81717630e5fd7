-- The number of each refusal.
use Rattle.std.specs.Prelude.{ℕ}
use Rattle.referee.specs.declared.refusal.Refusal.{Refusal}
use Rattle.referee.specs.declared.refusal.Refusal.TheVariants.{Closed, NoEvent, NoWrite, OtherStar, SameWrite, Full, NoneStands, NoBudget, NotSerial, ShortBuffer}

abbrev pub refusal_number : Refusal → ℕ
refusal_number Closed = 20
refusal_number NoEvent = 21
refusal_number NoWrite = 22
refusal_number OtherStar = 23
refusal_number SameWrite = 24
refusal_number Full = 25
refusal_number NoneStands = 26
refusal_number NoBudget = 27
refusal_number NotSerial = 28
refusal_number ShortBuffer = 29

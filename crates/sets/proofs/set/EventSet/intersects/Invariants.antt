use Rattle.std.proofs.Common.{◌≡◌, ℕ, ◌<◌, length, get_or}
use lib.Bits.{bit_and}
use Rattle.sets.proofs.set.EventSet.intersects.Given as goal

abbrev pub invariant-loop-a : goal.invariant-loop-a
invariant-loop-a g l = (k : ℕ) → k < length l.yielded → bit_and (get_or l.self.words k 0) (get_or l.other.words k 0) ≡ 0

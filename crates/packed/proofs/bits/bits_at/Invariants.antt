use Rattle.std.proofs.Common.{◌≡◌}
use Rattle.packed.specs.Bits.{bit_in, field}
use Rattle.packed.proofs.bits.bits_at.Given as goal

abbrev pub invariant-loop-k : goal.invariant-loop-k
invariant-loop-k l = l.value ≡ field (bit_in 8 l.bytes) l.bit l.k

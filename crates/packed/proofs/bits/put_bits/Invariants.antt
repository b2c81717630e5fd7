use Rattle.std.proofs.Common.{◌≡◌, ℕ, ◌+◌, ◌*◌, ◌<◌, ◌≤◌, get_or}
use Rattle.packed.specs.Bits.{bit_in, bit_of}
use Rattle.packed.proofs.bits.put_bits.Given as goal

abbrev pub invariant-loop-k : goal.invariant-loop-k
invariant-loop-k l =
    ((k : ℕ) → k < l.k → bit_in 8 l.bytes (l.bit + k) ≡ bit_of l.width l.value k)
    × ((k : ℕ) → k < l.bit → bit_in 8 l.bytes k ≡ bit_in 8 l.initial.bytes k)
    × ((k : ℕ) → l.bit + l.k ≤ k → bit_in 8 l.bytes k ≡ bit_in 8 l.initial.bytes k)
    × ((j : ℕ) → l.bit + l.k ≤ 8 * j → get_or l.bytes j 0 ≡ get_or l.initial.bytes j 0)

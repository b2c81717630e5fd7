use Rattle.std.proofs.Common.{◌-◌, ◌/◌, ◌%◌, ◌<◌, length, get_or, set, ap, ◌∙◌, arith, get_or-set_other}
use lib.Bits.{bit_xor}
use Rattle.std.proofs.lemmas.Nat.{one_shl}
use Rattle.packed.specs.Bits.{bit_in}
use Rattle.packed.proofs.Flips.{flipped_there, flipped_other}
use Rattle.packed.proofs.bits.put_bit.Goals as goal

pub returns-then-bit_at-b : goal.returns-then-bit_at-b
returns-then-bit_at-b c =
    let bs = c.args.bytes.now in
    let i = c.args.i in
    let lt : i / 8 < length bs = omega arith in
    let one = one_shl (7 - i % 8) 8 (omega arith) in
    let e = ap (λ n. set bs (i / 8) (bit_xor (get_or bs (i / 8) 0) n)) one in
    record {
      there = ap (λ l. bit_in 8 l i) e ∙ flipped_there bs i c.args.b lt c.requires.small (λ h. c.if-bit_at-b.true (c.bit_at.ensures ∙ h));
      others = λ k ne. ap (λ l. bit_in 8 l k) e ∙ flipped_other bs i k lt ne;
      rest = λ j h. get_or-set_other bs (i / 8) j _ 0 (λ s. omega arith);
    }

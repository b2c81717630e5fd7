use Rattle.std.proofs.Common.{refl, rules}
use lib.Bits.{bit_and, bit_xor}
use Rattle.sets.proofs.Words.{word_by_word, minus_bit}
use Rattle.sets.proofs.set.EventSet.difference.Goals as goal

pub returns : goal.returns
returns g c =
    minus_bit c.args.self.now.words c.args.other.now.words c.combined.result.words
    (word_by_word (λ a b. bit_xor a (bit_and a b)) g.row.W c.args.self.now.words c.args.other.now.words c.combined.result.words refl c.args.self.now.sized c.args.other.now.sized c.combined.result.sized
    (λ i l. let h = c.combined.ensures i l in search rules))

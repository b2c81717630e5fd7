use Rattle.std.proofs.Common.{◌/◌, ◌%◌, get_or}
use Rattle.sets.specs.Bits.{bit_of}
use Rattle.sets.proofs.Words.{bit_test}
use Rattle.sets.proofs.set.EventSet.contains.Goals as goal

pub returns : goal.returns
unfolding bit_of
returns g c = bit_test (get_or c.args.self.now.words (c.args.k / 64) 0) (c.args.k % 64)

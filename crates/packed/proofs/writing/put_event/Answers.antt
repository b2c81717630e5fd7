use Rattle.std.proofs.Common.{arith}
use Rattle.packed.proofs.Puts.{put_join}
use Rattle.packed.proofs.Returns.{fits}
use Rattle.packed.proofs.writing.put_event.Goals as goal

pub returns : goal.returns
returns c =
    let f = fits c.args.e c.requires.fits in
    put_join
    (put_join (put_join c.put_bits.ensures c.put_bits-2.ensures (omega arith)) c.put_bits-3.ensures (omega arith))
    c.put_bits-4.ensures (omega arith)

use Rattle.std.proofs.Common.{rules}
use Rattle.packed.proofs.Meant.{there}
use Rattle.packed.proofs.reading.event_at.Goals as goal

pub bits_at-requires : goal.bits_at-requires
bits_at-requires c = let t = there c.args.bytes.now c.args.number c.requires.above c.requires.within in search rules

pub bits_at-requires-2 : goal.bits_at-requires-2
bits_at-requires-2 c = let t = there c.args.bytes.now c.args.number c.requires.above c.requires.within in search rules

pub bits_at-requires-3 : goal.bits_at-requires-3
bits_at-requires-3 c = let t = there c.args.bytes.now c.args.number c.requires.above c.requires.within in search rules

pub bits_at-requires-4 : goal.bits_at-requires-4
bits_at-requires-4 c = let t = there c.args.bytes.now c.args.number c.requires.above c.requires.within in search rules

pub returns : goal.returns
returns c = rw (there c.args.bytes.now c.args.number c.requires.above c.requires.within).is (search rules)

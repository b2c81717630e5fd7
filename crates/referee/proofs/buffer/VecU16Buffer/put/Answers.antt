use Rattle.std.proofs.Common.{sym, arith}
use Rattle.std.proofs.lemmas.List.{set_past}
use Rattle.referee.proofs.buffer.VecU16Buffer.put.Goals as goal

pub returns-else-at-len : goal.returns-else-at-len
returns-else-at-len c = sym (set_past c.args.self.now.items c.args.at c.args.number (omega (arith, c.len.ensures)))

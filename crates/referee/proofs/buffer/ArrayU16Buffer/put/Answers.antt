use Rattle.std.proofs.Common.{◌≤◌, length, sym, rules}
use Rattle.std.proofs.lemmas.List.{set_past}
use Rattle.referee.proofs.buffer.ArrayU16Buffer.put.Goals as goal

pub returns-else-at-self : goal.returns-else-at-self
returns-else-at-self g c =
    let past : length c.args.self.now ≤ c.args.at = search rules in
    sym (set_past c.args.self.now c.args.at c.args.number past)

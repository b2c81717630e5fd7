use Rattle.std.proofs.Common.{◌≡◌, ◌&&◌, ltb}
use Rattle.order.specs.History.{count}
use Rattle.saturation.specs.Noting.{Noted}
use Rattle.saturation.specs.Recorded.{history_in}
use Rattle.saturation.proofs.saturate.Facts.of.Given as goal

abbrev pub invariant-loop-x : goal.invariant-loop-x
invariant-loop-x g l = (l.facts.count ≡ count (history_in l.case)) × Noted (history_in l.case) (λ w q. ltb w l.x && ltb q (count (history_in l.case))) l.facts

use Rattle.std.proofs.Common.{◌≤◌, length}
use Rattle.order.specs.Calls.{Preference}
use Rattle.placing.proofs.Following.{AllSoFar}
use Rattle.placing.proofs.place.Given as goal

-- the preference that is passed
abbrev pub passed : (g : goal.Over) → g.row.P.Denot → Preference
passed g p = record { prefers = g.P.Preference.prefers p; lawful = g.P.Preference.lawful p }

abbrev pub invariant-loop : goal.invariant-loop
invariant-loop g l = record {
  few : length l.order.items ≤ l.counter;
  so_far : AllSoFar (passed g l.preference) l.events l.rows l.counter l.order.items l.placed;
}

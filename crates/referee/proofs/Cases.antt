-- What holds of the stipulations of a case and of the numbers of its events.
use Rattle.std.proofs.Common.{◌≡◌, ℕ, ◌≤◌, true, leb, sym, arith}
use Rattle.std.proofs.lemmas.Bool.{and_parts, leb-true}
use Rattle.order.specs.History.{count, PairsOfEvents}
use Rattle.order.specs.Calls.{is_number}
use Rattle.saturation.specs.Recorded.{history_in}
use Rattle.saturation.proofs.Records.{record_count}
use Rattle.referee.specs.Meaning.{pairs_of}
use Rattle.referee.specs.declared.case.Case.{Case}

module _ (c : Case) where
  -- the stipulations that stand are pairs of events
  pub inside_events : PairsOfEvents (history_in c.recorded) (pairs_of c)
  inside_events a b m =
      let p = c.inside a b m in
      let e = record_count c.recorded in
      (record { low = p.0; high = omega (arith, p.1) }, record { low = p.2; high = omega (arith, p.3) })

  -- the number of an event goes from 1 to the count
  pub number_bounds : (a : ℕ) → true ≡ is_number (history_in c.recorded) a → (1 ≤ a) × (a ≤ count (history_in c.recorded))
  number_bounds a k =
      let p = and_parts (leb 1 a) (leb a (count (history_in c.recorded))) (sym k) in
      let m = leb-true a (count (history_in c.recorded)) p.1 in
      let e = record_count c.recorded in
      (leb-true 1 a p.0, omega (arith, m, e))

-- What forced and clash say of a case that is not closed.
use Rattle.std.proofs.Common.{◌≡◌, ℕ, suc, ◌<◌, Bool, true, ◌&&◌, ◌↔◌, List, Some, None, Ok, sym, true≢false, arith}
use Rattle.order.specs.History.{History}
use Rattle.order.specs.Before.{Before, Clash}
use Rattle.order.specs.Calls.{is_number}
use Rattle.order.proofs.Saturated.{before_numbers}
use Rattle.saturation.specs.Recorded.{history_in}
use Rattle.saturation.proofs.Records.{record_count, record_well}
use Rattle.closure.specs.Closures.{FirstClash}
use Rattle.referee.specs.Verdicts.{is_open}
use Rattle.referee.specs.Meaning.{meaning_by, pairs_of}
use Rattle.referee.specs.Looking.{ForcedIs, ClashIs}
use Rattle.referee.proofs.Cases.{inside_events}
use Rattle.referee.specs.declared.state.State.{State}
use Rattle.referee.specs.declared.state.State.TheVariants.{Closed, Unjudged, Judged}
use Rattle.referee.specs.declared.case.Case.{Case}

module _ (h : History) (S : List (ℕ × ℕ)) where
  pub forced_is : (s : State) → is_open s ≡ true → (a b : ℕ) (r : Bool) → (is_number h a && is_number h b) ≡ true → (r ≡ true) ↔ Before h S a b → ForcedIs (meaning_by h S s) a b (Ok r)
  forced_is Closed n a b r k e = absurd (true≢false (sym n))
  forced_is Unjudged n a b r k e = (k, e)
  forced_is (Judged j) n a b r k e = (k, e)

  pub clash_is : (s : State) → is_open s ≡ true → (a : ℕ) → FirstClash h S a → ClashIs (meaning_by h S s) (Ok (Some a))
  clash_is Closed n a f = absurd (true≢false (sym n))
  clash_is Unjudged n a f = f
  clash_is (Judged j) n a f = f

  pub clash_is_none : (s : State) → is_open s ≡ true → ¬ Clash h S → ClashIs (meaning_by h S s) (Ok None)
  clash_is_none Closed n f = absurd (true≢false (sym n))
  clash_is_none Unjudged n f = f
  clash_is_none (Judged j) n f = f

-- An event that clashes is one of the 256.
pub clash_below : (c : Case) (x : ℕ) → FirstClash (history_in c.recorded) (pairs_of c) (suc x) → x < 256
clash_below c x f =
    let n = (before_numbers (history_in c.recorded) (pairs_of c) (record_well c.recorded) (inside_events c) f.clash).0.high in
    let e = record_count c.recorded in
    let t = c.recorded.fits in
    omega (arith, n, e, t)

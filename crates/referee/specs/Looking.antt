-- What forced and clash answer. Neither changes anything.
use Rattle.std.specs.Prelude.{◌≡◌, ℕ, Bool, true, false, ◌&&◌, ◌↔◌, Some, None, Ok, Err, Option, Result}
use Rattle.order.specs.Before.{Before, Clash}
use Rattle.order.specs.Calls.{is_number}
use Rattle.closure.specs.Closures.{FirstClash}
use Rattle.referee.specs.Numbers.{refusal_number}
use Rattle.referee.specs.Meaning.{Meaning, closed, holds}
use Rattle.referee.specs.declared.refusal.Refusal.{Refusal}

-- A closed case refuses with 20, and any other with 21 if one of the numbers is not that of an event; otherwise the answer
-- says whether the first event is before the second.
abbrev pub ForcedIs : Meaning → ℕ → ℕ → Result Bool Refusal → Type 0
ForcedIs closed a b (Ok r) = ⊥
ForcedIs closed a b (Err e) = refusal_number e ≡ 20
ForcedIs (holds h m) a b (Ok r) = (is_number h a && is_number h b ≡ true) × ((r ≡ true) ↔ Before h m.pairs a b)
ForcedIs (holds h m) a b (Err e) = (is_number h a && is_number h b ≡ false) × (refusal_number e ≡ 21)

-- A closed case refuses with 20; otherwise the answer is the lowest number of an event before itself, or that there is none.
abbrev pub ClashIs : Meaning → Result (Option ℕ) Refusal → Type 0
ClashIs closed (Ok o) = ⊥
ClashIs closed (Err e) = refusal_number e ≡ 20
ClashIs (holds h m) (Ok None) = ¬ Clash h m.pairs
ClashIs (holds h m) (Ok (Some a)) = FirstClash h m.pairs a
ClashIs (holds h m) (Err e) = ⊥

use Rattle.std.proofs.Common.{◌≡◌, ℕ, Bool, ltb}
use Rattle.saturation.specs.Noting.{Noted, with_row}
use Rattle.saturation.specs.Recorded.{history_in}
use Rattle.saturation.proofs.saturate.Facts.note_all.Given as goal

abbrev pub invariant-loop-y : goal.invariant-loop-y
invariant-loop-y g l =
    (l.self.count ≡ l.initial.self.count)
    × ((D : ℕ → ℕ → Bool) → Noted (history_in l.case) D l.initial.self → Noted (history_in l.case) (with_row D l.x (λ q. ltb q l.y)) l.self)

use Rattle.std.specs.Prelude.{◌≡◌, ℕ, zero, suc, ◌+◌, ◌-◌, ◌≤◌, Bool, false, cond, ◌&&◌, ◌||◌, List, [], ◌∷◌, ◌==◌, slice_index}
use Rattle.sets.specs.Sets.{has}
use Rattle.sets.specs.declared.set.EventSet.{EventSet}
use Rattle.sets.specs.declared.table.Table.{Table}

-- whether y is in the set at x
abbrev pub in_rows : {W : ℕ} → List (EventSet W) → ℕ → ℕ → Bool
in_rows [] x y = false
in_rows (r ∷ rs) zero y = has r y
in_rows (r ∷ rs) (suc x) y = in_rows rs x y

-- the sets ss are rs with y put into the set at x
abbrev pub PutIn : {W : ℕ} → List (EventSet W) → List (EventSet W) → ℕ → ℕ → Type 0
PutIn rs ss x y = (z k : ℕ) → in_rows ss z k ≡ (in_rows rs z k || (z == x && k == y))

-- whether y is in the row of x
abbrev pub in_row : {N W T : ℕ} → Table N W T → ℕ → ℕ → Bool
in_row t = in_rows t.rows

-- how long the trail of t is
abbrev pub trail_len : {N W T : ℕ} → Table N W T → ℕ
trail_len t = t.len

-- R with one row as the entry i of the trail has it
abbrev pub restored : {W : ℕ} → List ℕ → List (EventSet W) → ℕ → (ℕ → ℕ → Bool) → ℕ → ℕ → Bool
restored at old i R x y = cond (x == slice_index at i) (in_rows old i y) (R x y)

-- R once the m entries of the trail from k on are taken back, the last first
abbrev pub taken_back : {W : ℕ} → List ℕ → List (EventSet W) → ℕ → ℕ → (ℕ → ℕ → Bool) → ℕ → ℕ → Bool
taken_back at old k zero R = R
taken_back at old k (suc m) R = taken_back at old k m (restored at old (k + m) R)

-- the rows of t once the trail is taken back to the length k
abbrev pub undone : {N W T : ℕ} → Table N W T → ℕ → ℕ → ℕ → Bool
undone t k = taken_back t.at t.saved k (trail_len t - k) (in_row t)

-- the trail of s leads back to t, and on to all that the trail of t leads back to
pub record RowsKept {N W T : ℕ} (t s : Table N W T) : Type 0 where
  pub longer : trail_len t ≤ trail_len s
  pub back : (k : ℕ) → k ≤ trail_len t → undone s k ≡ undone t k

-- R, and in the rows that h picks all that g picks
abbrev pub widened : (ℕ → ℕ → Bool) → (ℕ → Bool) → (ℕ → Bool) → ℕ → ℕ → Bool
widened R h g x y = R x y || (h x && g y)

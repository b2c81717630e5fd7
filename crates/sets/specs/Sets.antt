use Rattle.std.specs.Prelude.{◌≡◌, ℕ, ◌*◌, ◌<◌, Bool, true, false, not, ◌&&◌, ◌==◌}
use Rattle.sets.specs.Bits.{bit_of, count}
use Rattle.sets.specs.declared.set.EventSet.{EventSet}

-- whether the event k is in the set
abbrev pub has : {W : ℕ} → EventSet W → ℕ → Bool
has s k = bit_of s.words k

-- no event is in the set
abbrev pub Empty : {W : ℕ} → EventSet W → Type 0
Empty s = (k : ℕ) → has s k ≡ false

-- some event is in both sets
abbrev pub Meets : {W : ℕ} → EventSet W → EventSet W → Type 0
Meets s t = (k : ℕ) × (has s k ≡ true) × (has t k ≡ true)

-- how many events the set has
unfoldable pub size : {W : ℕ} → EventSet W → ℕ
size {W} s = count (has s) (64 * W)

-- t is s without the event k, its lowest
pub record Popped {W : ℕ} (s t : EventSet W) (k : ℕ) : Type 0 where
  pub inside : k < 64 * W
  pub was : has s k ≡ true
  pub lowest : (j : ℕ) → j < k → has s j ≡ false
  pub rest : (j : ℕ) → has t j ≡ (not (j == k) && has s j)

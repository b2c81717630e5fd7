use Rattle.std.specs.Prelude.{◌≡◌, ℕ, zero, suc, ◌+◌, ◌*◌, ◌^◌, ◌<◌, ◌≤◌, Bool, true, false, not, ◌&&◌, ◌==◌}
use Rattle.sets.specs.Bits.{count}

-- R goes from x to z wherever it goes from x to y and from y to z
abbrev pub Transitive : (ℕ → ℕ → Bool) → Type 0
Transitive R = (x y z : ℕ) → R x y ≡ true → R y z ≡ true → R x z ≡ true

-- S has every pair of R
abbrev pub Within : (ℕ → ℕ → Bool) → (ℕ → ℕ → Bool) → Type 0
Within R S = (x y : ℕ) → R x y ≡ true → S x y ≡ true

-- S is the smallest transitive relation that has all of R, and the pair of u and v
pub record Closure (R : ℕ → ℕ → Bool) (u v : ℕ) (S : ℕ → ℕ → Bool) : Type 0 where
  pub keeps : Within R S
  pub linked : S u v ≡ true
  pub chains : Transitive S
  pub least : (Q : ℕ → ℕ → Bool) → Transitive Q → Within R Q → Q u v ≡ true → Within S Q

-- x and y are two events, and R has neither before the other
abbrev pub free : (ℕ → ℕ → Bool) → ℕ → ℕ → Bool
free R x y = not (x == y) && (not (R x y) && not (R y x))

-- f 0 + f 1 + .. + f (n - 1)
abbrev pub sum : (ℕ → ℕ) → ℕ → ℕ
sum f zero = 0
sum f (suc n) = f n + sum f n

-- how many ordered pairs of events below n are free
unfoldable pub slack : (ℕ → ℕ → Bool) → ℕ → ℕ
slack R n = sum (λ x. count (free R x) n) n

-- a strict order R of the events below n with its mirror B, and trails of a and b rows that have room left for a row
-- of each pair that can still be ordered
pub record Sound (n T : ℕ) (R B : ℕ → ℕ → Bool) (a b : ℕ) : Type 0 where
  pub chains : Transitive R
  pub calm : (x : ℕ) → R x x ≡ false
  pub inside : (x y : ℕ) → R x y ≡ true → (x < n) × (y < n)
  pub mirror : (x y : ℕ) → B y x ≡ R x y
  pub afters : 2 * a + slack R n ≤ 2 * T
  pub befores : 2 * b + slack R n ≤ 2 * T

-- rows of W words hold N events, and a trail of T rows is long enough for them
pub record Roomy (N W T : ℕ) : Type 0 where
  pub wide : N ≤ 64 * W
  pub narrow : W ≤ 1024
  pub long : N * N ≤ 2 * T + N
  pub short : T < 2 ^ 32

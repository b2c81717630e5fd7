-- The three rules of order, each from kind and star of the earlier event and kind and star of the later one.
use Rattle.std.specs.Prelude.{ℕ, Bool, true, not, ◌&&◌, ◌==◌}

-- Strict keeps every pair.
abbrev pub strict : ℕ → ℕ → ℕ → ℕ → Bool
strict k x l y = true

-- Star keeps the pairs of one star.
abbrev pub same_star : ℕ → ℕ → ℕ → ℕ → Bool
same_star k x l y = x == y

-- Lag keeps every pair but a write (kind 1) followed by a read (kind 0) of another star.
abbrev pub lag : ℕ → ℕ → ℕ → ℕ → Bool
lag k x l y = not (k == 1 && (l == 0 && not (x == y)))

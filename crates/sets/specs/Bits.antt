use Rattle.std.specs.Prelude.{ℕ, zero, suc, ◌+◌, ◌/◌, ◌%◌, ◌^◌, Bool, cond, List, ◌==◌, slice_index}

-- bit k of the number n
unfoldable pub bit : ℕ → ℕ → Bool
bit n k = n / 2 ^ k % 2 == 1

-- bit k of a list of words of 64 bits
unfoldable pub bit_of : List ℕ → ℕ → Bool
bit_of ws k = bit (slice_index ws (k / 64)) (k % 64)

-- how many of the numbers below n pass the test
abbrev pub count : (ℕ → Bool) → ℕ → ℕ
count f zero = 0
count f (suc n) = cond (f n) 1 0 + count f n

-- Bits one after another, the most significant first, and fields of them.
use Rattle.std.specs.Prelude.{◌≡◌, ℕ, zero, suc, ◌+◌, ◌-◌, ◌*◌, ◌/◌, ◌%◌, ◌^◌, ◌<◌, ◌≤◌, List, map, slice_index}
use Rattle.std.specs.List.{range_with_len}

-- Bit k, from 0, of the number v of w bits.
abbrev pub bit_of : ℕ → ℕ → ℕ → ℕ
bit_of w v k = v / 2 ^ (w - 1 - k) % 2

-- Bit i, from 0, of numbers of w bits that follow one another without gaps; past the last one the bits are 0.
abbrev pub bit_in : ℕ → List ℕ → ℕ → ℕ
bit_in w ds i = bit_of w (slice_index ds (i / w)) (i % w)

-- The number that the w bits from bit b on write.
abbrev pub field : (ℕ → ℕ) → ℕ → ℕ → ℕ
field f b zero = 0
field f b (suc w) = field f b w * 2 + f (b + w)

-- The first n numbers of w bits that bits write.
abbrev pub grouped : (ℕ → ℕ) → ℕ → ℕ → List ℕ
grouped f w n = map (λ j. field f (j * w) w) (range_with_len 0 n)

-- The w bits from bit b on are those of v.
abbrev pub Spelled : (ℕ → ℕ) → ℕ → ℕ → ℕ → Type 0
Spelled f b w v = (k : ℕ) → k < w → f (b + k) ≡ bit_of w v k

-- Bytes in which the w bits from bit b on became those of v: every bit ahead and behind stayed, and so did
-- every byte behind.
pub record Put (old new : List ℕ) (b w v : ℕ) : Type 0 where
  pub there : Spelled (bit_in 8 new) b w v
  pub ahead : (k : ℕ) → k < b → bit_in 8 new k ≡ bit_in 8 old k
  pub behind : (k : ℕ) → b + w ≤ k → bit_in 8 new k ≡ bit_in 8 old k
  pub rest : (j : ℕ) → b + w ≤ 8 * j → slice_index new j ≡ slice_index old j

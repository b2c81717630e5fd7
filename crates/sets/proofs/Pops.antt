use Rattle.std.proofs.Common.{◌≡◌, ℕ, ◌+◌, ◌*◌, ◌/◌, ◌%◌, ◌^◌, ◌<◌, true, false, not, ◌&&◌, eqb, List, length, get_or, set, subst, inl, inr, arith}
use lib.Bits.{bit_xor}
use lib.Count.{count_trailing_zeros}
use Rattle.std.proofs.lemmas.Bool.{cases_eq}
use Rattle.sets.specs.Bits.{bit_of}
use Rattle.sets.proofs.Words.{bit_zero, low_bit, low_none, toggle_bit, at_bit}

-- below the lowest bit of the first word that has one, no bit is set
none_below : (ws : List ℕ) (i j : ℕ) → ((k : ℕ) → k < i → get_or ws k 0 ≡ 0) → j < 64 * i + count_trailing_zeros 64 (get_or ws i 0) → count_trailing_zeros 64 (get_or ws i 0) < 64 → bit_of ws j ≡ false
unfolding bit_of
none_below ws i j zeros l lt =
    elim (cases_eq (j / 64) i) [
      | inl e ↦ rw e (low_none 64 (get_or ws i 0) (j % 64) (omega arith))
      | inr ne ↦ rw (zeros (j / 64) (omega arith)) (bit_zero (j % 64))
    ]

-- the lowest bit of the first word that has one is turned off
pub popped_at : (W : ℕ) (ws os : List ℕ) (i : ℕ) → ws ≡ os → ((k : ℕ) → k < i → get_or ws k 0 ≡ 0) → i < W → i < length ws → get_or ws i 0 < 2 ^ 64 → (get_or ws i 0 ≡ 0 → ⊥)
    → (64 * i + count_trailing_zeros 64 (get_or ws i 0) < 64 * W)
    × (bit_of os (64 * i + count_trailing_zeros 64 (get_or ws i 0)) ≡ true)
    × ((j : ℕ) → j < 64 * i + count_trailing_zeros 64 (get_or ws i 0) → bit_of os j ≡ false)
    × ((j : ℕ) → bit_of (set ws i (bit_xor (get_or ws i 0) ((1 * 2 ^ count_trailing_zeros 64 (get_or ws i 0)) % 2 ^ 64))) j ≡ (not (eqb j (64 * i + count_trailing_zeros 64 (get_or ws i 0))) && bit_of os j))
popped_at W ws os i same zeros lw li lx ne =
    let t : ℕ = count_trailing_zeros 64 (get_or ws i 0) in
    let vs : List ℕ = set ws i (bit_xor (get_or ws i 0) ((1 * 2 ^ t) % 2 ^ 64)) in
    let b = low_bit 64 (get_or ws i 0) lx ne in
    subst (λ (v : List ℕ). (64 * i + t < 64 * W) × (bit_of v (64 * i + t) ≡ true) × ((j : ℕ) → j < 64 * i + t → bit_of v j ≡ false) × ((j : ℕ) → bit_of vs j ≡ (not (eqb j (64 * i + t)) && bit_of v j))) same
    (omega (arith, b.0), at_bit ws i t b.0 b.1, λ j l. none_below ws i j zeros l b.0, λ j. toggle_bit ws i t j li b.0 b.1)

-- One bit of a number turned over.
use Rattle.std.proofs.Common.{◌≡◌, ℕ, zero, suc, ◌+◌, ◌-◌, ◌*◌, ◌/◌, ◌%◌, ◌^◌, ◌<◌, ◌⊎◌, List, length, get_or, set, sym, refl, ap, ◌∙◌, inl, inr, arith, get_or-set_other, get_or-set_same, pow-add}
use native.Mathlib.Nat.{div-eq_of_lt}
use lib.Bits.{bit_xor}
use lib.Pow.{pow-lt, shl-shr}
use Rattle.std.proofs.lemmas.Nat.{xor_shr, xor_mod}
use Rattle.packed.specs.Bits.{bit_of, bit_in}

order : (p k : ℕ) → (p ≡ k → ⊥) → (p < k) ⊎ (k < p)
order p k ne = grind arith

-- a power of two has one bit
pow_bit_same : (p : ℕ) → 2 ^ p / 2 ^ p % 2 ≡ 1
pow_bit_same p = let one : 1 * 2 ^ p ≡ 2 ^ p = omega arith in ap (λ n. n / 2 ^ p % 2) (sym one) ∙ ap (λ n. n % 2) (shl-shr 1 p)

pow_bit_other : (p k : ℕ) → (p ≡ k → ⊥) → 2 ^ p / 2 ^ k % 2 ≡ 0
pow_bit_other p k ne =
    elim (order p k ne) [
      | inl lt ↦ ap (λ n. n % 2) (div-eq_of_lt (pow-lt lt))
      | inr gt ↦
          let d = p - k - 1 in
          let e : p ≡ d + 1 + k = omega arith in
          let up : 2 ^ p / 2 ^ k ≡ 2 ^ (d + 1) = ap (λ n. 2 ^ n / 2 ^ k) e ∙ ap (λ n. n / 2 ^ k) (pow-add 2 (d + 1) k) ∙ shl-shr (2 ^ (d + 1)) k in
          omega (arith, up, pow-add 2 d 1)
    ]

xor_bit : (a b k : ℕ) → bit_xor a b / 2 ^ k % 2 ≡ bit_xor (a / 2 ^ k % 2) (b / 2 ^ k % 2)
xor_bit a b k = ap (λ n. n % 2) (xor_shr a b k) ∙ xor_mod (a / 2 ^ k) (b / 2 ^ k) 1

-- the bit turned over, and the others
pub flip_there : (a p b : ℕ) → b < 2 → (a / 2 ^ p % 2 ≡ b → ⊥) → bit_xor a (2 ^ p) / 2 ^ p % 2 ≡ b
flip_there a p b s ne = xor_bit a (2 ^ p) p ∙ ap (bit_xor (a / 2 ^ p % 2)) (pow_bit_same p) ∙ turned (a / 2 ^ p % 2) b (omega arith) s ne
  where
    turned : (c b : ℕ) → c < 2 → b < 2 → (c ≡ b → ⊥) → bit_xor c 1 ≡ b
    turned zero zero h s ne = absurd (ne refl)
    turned zero (suc zero) h s ne = refl
    turned (suc zero) zero h s ne = refl
    turned (suc zero) (suc zero) h s ne = absurd (ne refl)
    turned (suc (suc c)) b h s ne = absurd (omega arith)
    turned zero (suc (suc b)) h s ne = absurd (omega arith)
    turned (suc zero) (suc (suc b)) h s ne = absurd (omega arith)

pub flip_other : (a p k : ℕ) → (p ≡ k → ⊥) → bit_xor a (2 ^ p) / 2 ^ k % 2 ≡ a / 2 ^ k % 2
flip_other a p k ne = xor_bit a (2 ^ p) k ∙ ap (bit_xor (a / 2 ^ k % 2)) (pow_bit_other p k ne) ∙ same (a / 2 ^ k % 2) (omega arith)
  where
    same : (c : ℕ) → c < 2 → bit_xor c 0 ≡ c
    same zero h = refl
    same (suc zero) h = refl
    same (suc (suc c)) h = absurd (omega arith)

-- in a list of bytes
abbrev pub flipped : List ℕ → ℕ → List ℕ
flipped bs i = set bs (i / 8) (bit_xor (get_or bs (i / 8) 0) (2 ^ (7 - i % 8)))

pub flipped_there : (bs : List ℕ) (i b : ℕ) → i / 8 < length bs → b < 2 → (bit_in 8 bs i ≡ b → ⊥) → bit_in 8 (flipped bs i) i ≡ b
flipped_there bs i b h s ne =
    ap (λ d. bit_of 8 d (i % 8)) (get_or-set_same bs (i / 8) _ 0 h) ∙ flip_there (get_or bs (i / 8) 0) (7 - i % 8) b s ne

pub flipped_other : (bs : List ℕ) (i k : ℕ) → i / 8 < length bs → (k ≡ i → ⊥) → bit_in 8 (flipped bs i) k ≡ bit_in 8 bs k
flipped_other bs i k h ne =
    elim (where_is (i / 8) (k / 8)) [
      | inl e ↦
          ap (λ j. bit_of 8 (get_or (flipped bs i) j 0) (k % 8)) (sym e)
          ∙ ap (λ d. bit_of 8 d (k % 8)) (get_or-set_same bs (i / 8) _ 0 h)
          ∙ flip_other (get_or bs (i / 8) 0) (7 - i % 8) (7 - k % 8) (λ s. ne (omega arith))
          ∙ ap (λ j. bit_of 8 (get_or bs j 0) (k % 8)) e
      | inr o ↦ ap (λ d. bit_of 8 d (k % 8)) (get_or-set_other bs (i / 8) (k / 8) _ 0 (λ e. o (sym e)))
    ]
  where
    where_is : (a b : ℕ) → (a ≡ b) ⊎ (a ≡ b → ⊥)
    where_is a b = grind arith

-- How many pairs a relation can still take on.
use Rattle.std.proofs.Common.{◌≡◌, ℕ, zero, suc, ◌+◌, ◌*◌, ◌<◌, ◌≤◌, Bool, true, false, not, ◌⊎◌, sym, ap, ◌∙◌, inl, inr, mul-le-mul_right, add-mul, one-mul, arith}
use Rattle.std.proofs.lemmas.Bool.{cases_Bool, cases_eq, true≢false, not-true, not_from_false, not_from_true}
use Rattle.sets.specs.Bits.{count}
use Rattle.saturation.specs.Orders.{Within, sum}
use Rattle.sets.proofs.Counts.{count_le, count_lt}

-- how many pairs of numbers below n are not in R
unfoldable pub gaps : (ℕ → ℕ → Bool) → ℕ → ℕ
gaps R n = sum (λ x. count (λ y. not (R x y)) n) n

sum_le : (f g : ℕ → ℕ) (n : ℕ) → ((x : ℕ) → f x ≤ g x) → sum f n ≤ sum g n
sum_le f g zero h = omega arith
sum_le f g (suc n) h = let r = sum_le f g n h in let q = h n in omega arith

sum_lt : (f g : ℕ → ℕ) (n k : ℕ) → ((x : ℕ) → f x ≤ g x) → k < n → f k < g k → sum f n < sum g n
sum_lt f g zero k h l m = absurd (omega arith)
sum_lt f g (suc n) k h l m =
    elim (cases_eq k n) [
      | inl e ↦ let r = sum_le f g n h in let q : f n < g n = rw e at m in omega arith
      | inr ne ↦ let r = sum_lt f g n k h (omega arith) m in let q = h n in omega arith
    ]

less : (R S : ℕ → ℕ → Bool) → Within R S → (x y : ℕ) → not (S x y) ≡ true → not (R x y) ≡ true
less R S within x y h =
    not_from_false (R x y) (elim (cases_Bool (R x y)) [ inl t ↦ absurd (true≢false (sym (within x y t) ∙ not-true (S x y) h)) | inr t ↦ t ])

pub gaps_le : (R S : ℕ → ℕ → Bool) (n : ℕ) → Within R S → gaps S n ≤ gaps R n
unfolding gaps
gaps_le R S n within =
    sum_le (λ x. count (λ y. not (S x y)) n) (λ x. count (λ y. not (R x y)) n) n
    (λ x. count_le (λ y. not (R x y)) (λ y. not (S x y)) n (less R S within x))

-- one pair more
pub gaps_falls : (R S : ℕ → ℕ → Bool) (n x y : ℕ) → Within R S → x < n → y < n → S x y ≡ true → R x y ≡ false → gaps S n < gaps R n
unfolding gaps
gaps_falls R S n x y within lx ly now was =
    sum_lt (λ z. count (λ k. not (S z k)) n) (λ z. count (λ k. not (R z k)) n) n x
    (λ z. count_le (λ k. not (R z k)) (λ k. not (S z k)) n (less R S within z)) lx
    (count_lt (λ k. not (R x k)) (λ k. not (S x k)) n y (less R S within x) ly (not_from_false (R x y) was) (not_from_true (S x y) now))

-- the first number falls, whatever the second does, which is at most k
pub scaled : (a b k s t : ℕ) → a < b → s ≤ k → a * (k + 1) + s < b * (k + 1) + t
scaled a b k s t l m =
    let h : (a + 1) * (k + 1) ≤ b * (k + 1) = mul-le-mul_right (k + 1) (omega arith) in
    omega (arith, h, add-mul a 1 (k + 1), one-mul (k + 1))

-- the second number falls, and the first does not rise
pub level : (a b k s t : ℕ) → a ≤ b → s < t → a * (k + 1) + s < b * (k + 1) + t
level a b k s t l m =
    let h : a * (k + 1) ≤ b * (k + 1) = mul-le-mul_right (k + 1) l in
    omega (arith, h)

-- some number passes f and not g, or all below n that pass f pass g
pub some_or_all : (f g : ℕ → Bool) (n : ℕ) → ((k : ℕ) × ((f k ≡ true) × (g k ≡ false))) ⊎ ((k : ℕ) → k < n → f k ≡ true → g k ≡ true)
some_or_all f g zero = inr (λ k l h. absurd (omega arith))
some_or_all f g (suc n) =
    elim (some_or_all f g n) [
      | inl s ↦ inl s
      | inr all ↦ elim (cases_Bool (f n)) [
        | inr no-f ↦ inr (λ k l h. elim (cases_eq k n) [ inl e ↦ absurd (true≢false (sym h ∙ ap f e ∙ no-f)) | inr ne ↦ all k (omega arith) h ])
        | inl is_f ↦ elim (cases_Bool (g n)) [
          | inl t ↦ inr (λ k l h. elim (cases_eq k n) [ inl e ↦ ap g e ∙ t | inr ne ↦ all k (omega arith) h ])
          | inr t ↦ inl (n, (is_f, t))
        ]
      ]
    ]

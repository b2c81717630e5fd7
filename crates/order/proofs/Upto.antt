-- Tests of the numbers from 1 to n: whether some pass, whether all do, which is the least and which the greatest.
use Rattle.std.proofs.Common.{◌≡◌, ℕ, zero, suc, ◌<◌, ◌≤◌, Bool, true, ◌&&◌, ◌||◌, T, ◌⊎◌, sym, subst, inl, inr, arith}
use native.Mathlib.Decide.{ℕ_discrete, dec_lt}
use Rattle.order.specs.Opening.{some_up_to}
use Rattle.order.proofs.Tests.{test, or_l, or_r, or_elim, and_l, and_r, and_i}

-- Every number from 1 to n passes a test.
abbrev pub every : ℕ → (ℕ → Bool) → Bool
every zero f = true
every (suc n) f = f (suc n) && every n f

pub every_e : (n : ℕ) (f : ℕ → Bool) → T (every n f) → (i : ℕ) → 1 ≤ i → i ≤ n → T (f i)
every_e zero f t i l u = absurd (omega arith)
every_e (suc n) f t i l u = go (ℕ_discrete i (suc n)) (every_e n f)
  where
    go : Dec (i ≡ suc n) → (T (every n f) → (i : ℕ) → 1 ≤ i → i ≤ n → T (f i)) → T (f i)
    go (yes e) ih = subst (λ k. T (f k)) (sym e) (and_l (f (suc n)) (every n f) t)
    go (no q) ih = ih (and_r (f (suc n)) (every n f) t) i l (omega arith)

pub every_i : (n : ℕ) (f : ℕ → Bool) → ((i : ℕ) → 1 ≤ i → i ≤ n → T (f i)) → T (every n f)
every_i zero f t = tt
every_i (suc n) f t = and_i (f (suc n)) (every n f) (t (suc n) (omega arith) (omega arith)) (every_i n f (λ i l u. t i l (omega arith)))

pub some_e : (n : ℕ) (f : ℕ → Bool) → T (some_up_to n f) → (i : ℕ) × (1 ≤ i) × (i ≤ n) × T (f i)
some_e zero f t = absurd t
some_e (suc n) f t = go (some_e n f)
  where
    go : (T (some_up_to n f) → (i : ℕ) × (1 ≤ i) × (i ≤ n) × T (f i)) → (i : ℕ) × (1 ≤ i) × (i ≤ suc n) × T (f i)
    go ih = or_elim (f (suc n)) (some_up_to n f) (λ s. (suc n, omega arith, omega arith, s)) (λ s. let r = ih s in (r.0, r.1, omega arith, r.3)) t

pub some_i : (n : ℕ) (f : ℕ → Bool) (i : ℕ) → 1 ≤ i → i ≤ n → T (f i) → T (some_up_to n f)
some_i zero f i l u t = absurd (omega arith)
some_i (suc n) f i l u t = go (ℕ_discrete i (suc n)) (some_i n f i l)
  where
    go : Dec (i ≡ suc n) → (i ≤ n → T (f i) → T (some_up_to n f)) → T (f (suc n) || some_up_to n f)
    go (yes e) ih = or_l (f (suc n)) (some_up_to n f) (subst (λ k. T (f k)) e t)
    go (no q) ih = or_r (f (suc n)) (some_up_to n f) (ih (omega arith) t)

-- The least number that passes.
abbrev Least : ℕ → (ℕ → Bool) → Type 0
Least n f = (i : ℕ) × (1 ≤ i) × (i ≤ n) × T (f i) × ((j : ℕ) → 1 ≤ j → j < i → T (f j) → ⊥)

pub least : (n : ℕ) (f : ℕ → Bool) → T (some_up_to n f) → Least n f
least zero f t = absurd t
least (suc n) f t = go (test (some_up_to n f)) (least n f)
  where
    go : T (some_up_to n f) ⊎ (T (some_up_to n f) → ⊥) → (T (some_up_to n f) → Least n f) → Least (suc n) f
    go (inl s) ih = let r = ih s in (r.0, r.1, omega arith, r.3, r.4)
    go (inr q) ih =
        (suc n, omega arith, omega arith, or_elim (f (suc n)) (some_up_to n f) (λ s. s) (λ s. absurd (q s)) t, λ j l u s. q (some_i n f j l (omega arith) s))

-- A number that passes and is greatest by a measure, or none passes.
abbrev Greatest : ℕ → (ℕ → Bool) → (ℕ → ℕ) → Type 0
Greatest n f g =
    ((w : ℕ) × (1 ≤ w) × (w ≤ n) × T (f w) × ((v : ℕ) → 1 ≤ v → v ≤ n → T (f v) → g v ≤ g w)) ⊎ ((v : ℕ) → 1 ≤ v → v ≤ n → T (f v) → ⊥)

pub greatest : (n : ℕ) (f : ℕ → Bool) (g : ℕ → ℕ) → Greatest n f g
greatest zero f g = inr (λ v l u t. absurd (omega arith))
greatest (suc n) f g = go (test (f (suc n))) (greatest n f g)
  where
    go : T (f (suc n)) ⊎ (T (f (suc n)) → ⊥) → Greatest n f g → Greatest (suc n) f g
    go (inl t) (inl r) = elim (dec_lt (g (suc n)) (g r.0)) [
      | yes k ↦ inl (
        r.0,
        r.1,
        omega arith,
        r.3,
        λ v l u s. elim (ℕ_discrete v (suc n)) [
          | yes e ↦ subst (λ z. g z ≤ g r.0) (sym e) (omega arith)
          | no q ↦ r.4 v l (omega arith) s
        ],
      )
      | no k ↦ inl (
        suc n,
        omega arith,
        omega arith,
        t,
        λ v l u s. elim (ℕ_discrete v (suc n)) [
          | yes e ↦ subst (λ z. g z ≤ g (suc n)) (sym e) (omega arith)
          | no q ↦ let z = r.4 v l (omega arith) s in omega arith
        ],
      )
    ]
    go (inl t) (inr q) = inl (
      suc n,
      omega arith,
      omega arith,
      t,
      λ v l u s. elim (ℕ_discrete v (suc n)) [
        | yes e ↦ subst (λ z. g z ≤ g (suc n)) (sym e) (omega arith)
        | no p ↦ absurd (q v l (omega arith) s)
      ],
    )
    go (inr m) (inl r) = inl (
      r.0,
      r.1,
      omega arith,
      r.3,
      λ v l u s. elim (ℕ_discrete v (suc n)) [
        | yes e ↦ absurd (m (subst (λ z. T (f z)) e s))
        | no q ↦ r.4 v l (omega arith) s
      ],
    )
    go (inr m) (inr q) = inr (λ v l u s. elim (ℕ_discrete v (suc n)) [
      | yes e ↦ m (subst (λ z. T (f z)) e s)
      | no p ↦ q v l (omega arith) s
    ])

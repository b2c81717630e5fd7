-- Lists of pairs: membership as a test, taking a member out, all pairs of numbers.
use Rattle.std.proofs.Common.{◌≡◌, ℕ, zero, suc, ◌≤◌, Bool, false, ◌&&◌, ◌||◌, T, eqb, ◌⊎◌, List, [], ◌∷◌, ◌++◌, length, sym, refl, ap, ◌∙◌, subst, inl, inr, arith}
use mathlib.Core.List.Memᴰ
use mathlib.Core.List.{Memᴰ}
use native.Mathlib.Decide.{ℕ_discrete}
use Rattle.order.proofs.Tests.{test, or_elim}

-- A pair is in a list.
abbrev pub has : List (ℕ × ℕ) → ℕ → ℕ → Bool
has [] a b = false
has (q ∷ qs) a b = (eqb q.0 a && eqb q.1 b) || has qs a b

pub same_pair : (q : ℕ × ℕ) (a b : ℕ) → T (eqb q.0 a && eqb q.1 b) → ◌≡◌ {A = ℕ × ℕ} (a, b) q
same_pair q a b s = let e : (a ≡ q.0) × (b ≡ q.1) = grind arith in λ i. (e.0 i, e.1 i)

pub has_i : (R : List (ℕ × ℕ)) (a b : ℕ) → Memᴰ (a, b) R → T (has R a b)
has_i [] a b m = absurd (Memᴰ.not-nil m)
has_i (q ∷ qs) a b m = go (Memᴰ.cases_cons m) (has_i qs a b)
  where
    go : (◌≡◌ {A = ℕ × ℕ} (a, b) q) ⊎ Memᴰ (a, b) qs → (Memᴰ (a, b) qs → T (has qs a b)) → T (has (q ∷ qs) a b)
    go (inl e) ih = let x : a ≡ q.0 = ap (λ (p : ℕ × ℕ). p.0) e in let y : b ≡ q.1 = ap (λ (p : ℕ × ℕ). p.1) e in grind arith
    go (inr k) ih = let t = ih k in grind arith

pub has_e : (R : List (ℕ × ℕ)) (a b : ℕ) → T (has R a b) → Memᴰ (a, b) R
has_e [] a b t = absurd t
has_e (q ∷ qs) a b t = go (has_e qs a b)
  where
    go : (T (has qs a b) → Memᴰ (a, b) qs) → Memᴰ (a, b) (q ∷ qs)
    go ih = or_elim (eqb q.0 a && eqb q.1 b) (has qs a b) (λ s. Memᴰ.head (same_pair q a b s)) (λ s. Memᴰ.tail (ih s)) t

-- A member of a list can be taken out.
pub take_out {ℓ} : {A : Type ℓ} {q : A} {U : List A} → Memᴰ q U →
    (V : List A) × (length U ≡ suc (length V)) × ((x : A) → Memᴰ x U → (x ≡ q) ⊎ Memᴰ x V)
take_out (Memᴰ.head {xs = xs} e) =
    (xs, refl, λ y m. elim (Memᴰ.cases_cons m) [ inl d ↦ inl (d ∙ sym e) | inr k ↦ inr k ])
take_out (Memᴰ.tail {x = x} m) =
    let r = take_out m in (
      x ∷ r.0,
      ap suc r.1,
      λ y k. elim (Memᴰ.cases_cons k) [
        | inl d ↦ inr (Memᴰ.head d)
        | inr j ↦ elim (r.2 y j) [ inl d ↦ inl d | inr i ↦ inr (Memᴰ.tail i) ]
      ],
    )

-- Some member passes a test, or none does.
pub find {ℓ} : {A : Type ℓ} (f : A → Bool) (U : List A) → ((q : A) × Memᴰ q U × T (f q)) ⊎ ((q : A) → Memᴰ q U → T (f q) → ⊥)
find f [] = inr (λ q m t. Memᴰ.not-nil m)
find f (x ∷ xs) = go (test (f x)) (find f xs)
  where
    go : T (f x) ⊎ (T (f x) → ⊥) → ((q : _) × Memᴰ q xs × T (f q)) ⊎ ((q : _) → Memᴰ q xs → T (f q) → ⊥) →
        ((q : _) × Memᴰ q (x ∷ xs) × T (f q)) ⊎ ((q : _) → Memᴰ q (x ∷ xs) → T (f q) → ⊥)
    go (inl s) r = inl (x, Memᴰ.head refl, s)
    go (inr n) (inl r) = inl (r.0, Memᴰ.tail r.1, r.2)
    go (inr n) (inr m) = inr (λ q k t. elim (Memᴰ.cases_cons k) [ inl d ↦ n (subst (λ z. T (f z)) d t) | inr j ↦ m q j t ])

-- All pairs of a number from 1 to m and one from 1 to n.
abbrev pub row : ℕ → ℕ → List (ℕ × ℕ)
row a zero = []
row a (suc n) = (a, suc n) ∷ row a n

abbrev pub grid : ℕ → ℕ → List (ℕ × ℕ)
grid zero n = []
grid (suc m) n = row (suc m) n ++ grid m n

row_has : (a n b : ℕ) → 1 ≤ b → b ≤ n → Memᴰ (a, b) (row a n)
row_has a zero b l u = absurd (omega arith)
row_has a (suc n) b l u = go (ℕ_discrete b (suc n)) (row_has a n b l)
  where
    go : Dec (b ≡ suc n) → (b ≤ n → Memᴰ (a, b) (row a n)) → Memᴰ (a, b) (row a (suc n))
    go (yes e) ih = Memᴰ.head (λ i. (a, e i))
    go (no q) ih = Memᴰ.tail (ih (omega arith))

pub grid_has : (m n a b : ℕ) → 1 ≤ a → a ≤ m → 1 ≤ b → b ≤ n → Memᴰ (a, b) (grid m n)
grid_has zero n a b l u l' u' = absurd (omega arith)
grid_has (suc m) n a b l u l' u' = go (ℕ_discrete a (suc m)) (grid_has m n a b l)
  where
    go : Dec (a ≡ suc m) → (a ≤ m → 1 ≤ b → b ≤ n → Memᴰ (a, b) (grid m n)) → Memᴰ (a, b) (grid (suc m) n)
    go (yes e) ih = Memᴰ.append_left (grid m n) (subst (λ x. Memᴰ (x, b) (row (suc m) n)) (sym e) (row_has (suc m) n b l' u'))
    go (no q) ih = Memᴰ.append_right (row (suc m) n) (ih (omega arith) l' u')

pub row_of : (a n : ℕ) (q : ℕ × ℕ) → Memᴰ q (row a n) → (q.0 ≡ a) × (1 ≤ q.1) × (q.1 ≤ n)
row_of a zero q m = absurd (Memᴰ.not-nil m)
row_of a (suc n) q m = go (Memᴰ.cases_cons m) (row_of a n q)
  where
    go : (q ≡ (a, suc n)) ⊎ Memᴰ q (row a n) → (Memᴰ q (row a n) → (q.0 ≡ a) × (1 ≤ q.1) × (q.1 ≤ n)) → (q.0 ≡ a) × (1 ≤ q.1) × (q.1 ≤ suc n)
    go (inl e) ih = let y : q.1 ≡ suc n = ap (λ (p : ℕ × ℕ). p.1) e in (ap (λ (p : ℕ × ℕ). p.0) e, omega arith, omega arith)
    go (inr k) ih = let r = ih k in (r.0, r.1, omega (arith, r.2))

pub grid_of : (m n : ℕ) (q : ℕ × ℕ) → Memᴰ q (grid m n) → (1 ≤ q.0) × (q.0 ≤ m) × (1 ≤ q.1) × (q.1 ≤ n)
grid_of zero n q k = absurd (Memᴰ.not-nil k)
grid_of (suc m) n q k = go (Memᴰ.append_cases (row (suc m) n) k) (grid_of m n q)
  where
    go : Memᴰ q (row (suc m) n) ⊎ Memᴰ q (grid m n) → (Memᴰ q (grid m n) → (1 ≤ q.0) × (q.0 ≤ m) × (1 ≤ q.1) × (q.1 ≤ n)) →
        (1 ≤ q.0) × (q.0 ≤ suc m) × (1 ≤ q.1) × (q.1 ≤ n)
    go (inl j) ih = let r = row_of (suc m) n q j in let e = r.0 in (omega arith, omega arith, r.1, r.2)
    go (inr j) ih = let r = ih j in (r.0, omega (arith, r.1), r.2, r.3)

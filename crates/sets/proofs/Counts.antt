use Rattle.std.proofs.Common.{◌≡◌, ℕ, zero, suc, ◌*◌, ◌<◌, ◌≤◌, Bool, true, false, not, eqb, sym, refl, ap, ◌∙◌, inl, inr, arith}
use Rattle.std.proofs.lemmas.Bool.{cases_order, cases_lt, cases_Bool, and_parts, eq-eqb}
use Rattle.sets.specs.Bits.{count}
use Rattle.sets.specs.Sets.{has, size, Popped}
use Rattle.sets.specs.declared.set.EventSet.{EventSet}

pub count_le : (f g : ℕ → Bool) (n : ℕ) → ((k : ℕ) → g k ≡ true → f k ≡ true) → count g n ≤ count f n
count_le f g zero h = omega arith
count_le f g (suc n) h =
    let r = count_le f g n h in
    elim (cases_Bool (g n)) [
      | inl t ↦ rw (t, h n t) (omega arith)
      | inr t ↦ elim (cases_Bool (f n)) [ inl q ↦ rw (t, q) (omega arith) | inr q ↦ rw (t, q) (omega arith) ]
    ]

pub count_within : (f g : ℕ → Bool) (n : ℕ) → ((k : ℕ) → k < n → g k ≡ true → f k ≡ true) → count g n ≤ count f n
count_within f g zero h = omega arith
count_within f g (suc n) h =
    let r = count_within f g n (λ k l. h k (omega arith)) in
    elim (cases_Bool (g n)) [
      | inl t ↦ rw (t, h n (omega arith) t) (omega arith)
      | inr t ↦ elim (cases_Bool (f n)) [ inl q ↦ rw (t, q) (omega arith) | inr q ↦ rw (t, q) (omega arith) ]
    ]

pub count_lt : (f g : ℕ → Bool) (n k : ℕ) → ((k : ℕ) → g k ≡ true → f k ≡ true) → k < n → f k ≡ true → g k ≡ false → count g n < count f n
count_lt f g zero k h l a b = absurd (omega arith)
count_lt f g (suc n) k h l a b =
    elim (cases_order k n) [
      | inl e ↦
          let le = count_le f g n h in
          let p : f n ≡ true = ap f (sym e) ∙ a in
          let q : g n ≡ false = ap g (sym e) ∙ b in
          rw (p, q) (omega arith)
      | inr (inl m) ↦
          let r = count_lt f g n k h m a b in
          elim (cases_Bool (g n)) [
            | inl t ↦ rw (t, h n t) (omega arith)
            | inr t ↦ elim (cases_Bool (f n)) [ inl q ↦ rw (t, q) (omega arith) | inr q ↦ rw (t, q) (omega arith) ]
          ]
      | inr (inr m) ↦ absurd (omega arith)
    ]

pub count_most : (f : ℕ → Bool) (n : ℕ) → count f n ≤ n
count_most f zero = omega arith
count_most f (suc n) =
    let r = count_most f n in
    elim (cases_Bool (f n)) [ inl t ↦ rw t (omega arith) | inr t ↦ rw t (omega arith) ]

pub count_up : (f : ℕ → Bool) (n m : ℕ) → n ≤ m → count f n ≤ count f m
count_up f n zero l = let e : n ≡ 0 = omega arith in rw e (omega arith)
count_up f n (suc m) l =
    elim (cases_lt n (suc m)) [
      | inl k ↦ let r = count_up f n m (omega arith) in omega arith
      | inr k ↦ let e : n ≡ suc m = omega arith in rw e (omega arith)
    ]

-- counting past n adds nothing where nothing from n on passes
pub count_past : (f : ℕ → Bool) (n m : ℕ) → ((k : ℕ) → f k ≡ true → k < n) → count f m ≤ count f n
count_past f n zero h = omega arith
count_past f n (suc m) h =
    elim (cases_lt m n) [
      | inl l ↦ count_up f (suc m) n (omega arith)
      | inr l ↦
          let r = count_past f n m h in
          elim (cases_Bool (f m)) [
            | inl t ↦ let q = h m t in absurd (omega arith)
            | inr t ↦ rw t (omega arith)
          ]
    ]

module _ {W : ℕ} where
  pub size_most : (s : EventSet W) → size s ≤ 64 * W
  unfolding size
  size_most s = count_most (has s) (64 * W)

  pub size_le : (s t : EventSet W) → ((k : ℕ) → k < 64 * W → has t k ≡ true → has s k ≡ true) → size t ≤ size s
  unfolding size
  size_le s t h = count_within (has s) (has t) (64 * W) h

  pub size_same : (s t : EventSet W) → has s ≡ has t → size s ≡ size t
  unfolding size
  size_same s t e = ap (λ (f : ℕ → Bool). count f (64 * W)) e

  -- a set of events below n
  pub size_below : (s : EventSet W) (n : ℕ) → ((k : ℕ) → has s k ≡ true → k < n) → size s ≤ count (has s) n
  unfolding size
  size_below s n h = count_past (has s) n (64 * W) h

  pub pop_falls : (s t : EventSet W) (k : ℕ) → Popped s t k → size t < size s
  unfolding size
  pop_falls s t k p =
      count_lt (has s) (has t) (64 * W) k
      (λ j h. (and_parts (not (eqb j k)) (has s j) (sym (p.rest j) ∙ h)).1)
      p.inside p.was (p.rest k ∙ rw (eq-eqb k k refl))

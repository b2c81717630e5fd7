-- What a loop over numbers has gathered so far, as a test of the numbers below its counter.
use Rattle.std.proofs.Common.{◌≡◌, ℕ, ◌+◌, ◌<◌, ◌≤◌, Bool, true, false, ◌&&◌, ◌||◌, ltb, ◌≢◌, sym, refl, ap, ◌∙◌, inl, inr, arith}
use Rattle.std.proofs.lemmas.Bool.{cases_order, cases_lt, cases_Bool, lt-ltb, le-ltb, and_right}

module _ (f K : ℕ → Bool) (i : ℕ) where
  -- nothing below i is to be gathered
  pub none_yet : ((y : ℕ) → f y ≡ false) → ((y : ℕ) → K y ≡ true → i ≤ y) → (y : ℕ) → f y ≡ (ltb y i && K y)
  none_yet none late y =
      elim (cases_lt y i) [
        | inr l ↦ rw (none y, le-ltb y i l)
        | inl l ↦ elim (cases_Bool (K y)) [
          | inl t ↦ let k = late y t in absurd (omega arith)
          | inr t ↦ rw (none y, t) (sym (and_right (ltb y i) false refl))
        ]
      ]

  -- i itself is looked at
  pub one_more : (g : ℕ → Bool) → ((y : ℕ) → f y ≡ (ltb y i && K y)) → ((y : ℕ) → y ≢ i → g y ≡ f y) → g i ≡ K i → (y : ℕ) → g y ≡ (ltb y (i + 1) && K y)
  one_more g so other here y =
      elim (cases_order y i) [
        | inl e ↦ ap g e ∙ here ∙ ap K (sym e) ∙ ap (λ b. b && K y) (sym (lt-ltb y (i + 1) (omega arith)))
        | inr (inl l) ↦ other y (λ e. omega arith) ∙ so y ∙ ap (λ b. b && K y) (lt-ltb y i l ∙ sym (lt-ltb y (i + 1) (omega arith)))
        | inr (inr l) ↦ other y (λ e. omega arith) ∙ so y ∙ ap (λ b. b && K y) (le-ltb y i (omega arith) ∙ sym (le-ltb y (i + 1) (omega arith)))
      ]

  -- nothing from i on is to be gathered
  pub all_done : ((y : ℕ) → f y ≡ (ltb y i && K y)) → ((y : ℕ) → K y ≡ true → y < i) → (y : ℕ) → f y ≡ K y
  all_done so early y =
      elim (cases_Bool (K y)) [
        | inl t ↦ so y ∙ ap (λ b. b && K y) (lt-ltb y i (early y t))
        | inr t ↦ so y ∙ ap (λ b. ltb y i && b) t ∙ and_right (ltb y i) false refl ∙ sym t
      ]

  -- i itself is looked at, beside what is there anyway
  pub one_beside : (A g : ℕ → Bool) → ((y : ℕ) → f y ≡ (A y || (ltb y i && K y))) → ((y : ℕ) → y ≢ i → g y ≡ f y) → g i ≡ (A i || K i) → (y : ℕ) → g y ≡ (A y || (ltb y (i + 1) && K y))
  one_beside A g so other here y =
      elim (cases_order y i) [
        | inl e ↦ ap g e ∙ here ∙ ap (λ z. A z || K z) (sym e) ∙ ap (λ b. A y || (b && K y)) (sym (lt-ltb y (i + 1) (omega arith)))
        | inr (inl l) ↦ other y (λ e. omega arith) ∙ so y ∙ ap (λ b. A y || (b && K y)) (lt-ltb y i l ∙ sym (lt-ltb y (i + 1) (omega arith)))
        | inr (inr l) ↦ other y (λ e. omega arith) ∙ so y ∙ ap (λ b. A y || (b && K y)) (le-ltb y i (omega arith) ∙ sym (le-ltb y (i + 1) (omega arith)))
      ]

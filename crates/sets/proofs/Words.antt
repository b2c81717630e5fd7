use Rattle.std.proofs.Common.{◌≡◌, ℕ, zero, suc, ◌+◌, ◌-◌, ◌*◌, ◌/◌, ◌%◌, ◌^◌, ◌<◌, Bool, true, false, cond, not, ◌&&◌, ◌||◌, eqb, ◌⊎◌, List, length, get_or, set, replicate, sym, refl, ap, ◌∙◌, inl, inr, pow-suc, one-add, arith}
use native.Mathlib.Nat.{div-eq_of_lt, div_self, mul-mod_left}
use lib.Bits.{bit_and, bit_or, bit_xor, or_step, and_step, xor_step}
use lib.Count.{count_trailing_zeros}
use Rattle.std.proofs.lemmas.Nat.{pow_pos, pow-add, shl-shr, shr-shr, or_shr, and_shr, xor_shr, and_mask, pow_below, one_shl, and_le_l, div-mul-add, mod-mul-add}
use Rattle.std.proofs.lemmas.Bool.{cases_order, cases_lt, eq-eqb, ne_eqb, cases_eq, and_parts, and_from, true≢false}
use Rattle.std.proofs.lemmas.List.{get_or-set_same, get_or-set_other, get_or-replicate, get_or_past, length-replicate}
use Rattle.std.proofs.lemmas.Bool.Decides.{nat_tests}
use Rattle.sets.specs.Bits.{bit, bit_of}

or_odd : (a b : ℕ) → eqb (bit_or a b % 2) 1 ≡ (eqb (a % 2) 1 || eqb (b % 2) 1)
or_odd a b = let h = or_step a b in grind (arith, nat_tests)

and_odd : (a b : ℕ) → eqb (bit_and a b % 2) 1 ≡ (eqb (a % 2) 1 && eqb (b % 2) 1)
and_odd a b = let h = and_step a b in grind (arith, nat_tests)

pub bit-bit_or : (a b k : ℕ) → bit (bit_or a b) k ≡ (bit a k || bit b k)
unfolding bit
bit-bit_or a b k = rw (or_shr a b k) (or_odd (a / 2 ^ k) (b / 2 ^ k))

pub bit-bit_and : (a b k : ℕ) → bit (bit_and a b) k ≡ (bit a k && bit b k)
unfolding bit
bit-bit_and a b k = rw (and_shr a b k) (and_odd (a / 2 ^ k) (b / 2 ^ k))

pub bit_zero : (k : ℕ) → bit 0 k ≡ false
unfolding bit
bit_zero k = let h : 0 / 2 ^ k ≡ 0 = div-eq_of_lt (pow_pos k) in rw h

pub bit_test : (n k : ℕ) → eqb (bit_and (n / 2 ^ k) 1) 1 ≡ bit n k
unfolding bit
bit_test n k = ap (λ x. eqb x 1) (and_mask (n / 2 ^ k) 1)

-- a power of two, shifted down by fewer places than its exponent, is even
pow_low : (j d : ℕ) → 2 ^ (d + 1 + j) / 2 ^ j % 2 ≡ 0
pow_low j d = rw (pow-add 2 (d + 1) j, shl-shr (2 ^ (d + 1)) j, pow-add 2 d 1) (mul-mod_left (2 ^ d) 2)

pub bit_pow : (j k : ℕ) → bit (2 ^ k) j ≡ eqb j k
unfolding bit
bit_pow j k =
    elim (cases_order j k) [
      | inl e ↦ rw (e, div_self (pow_pos k), eq-eqb k k refl)
      | inr (inl l) ↦
          let e : k - (j + 1) + 1 + j ≡ k = omega arith in
          let z : 2 ^ k / 2 ^ j % 2 ≡ 0 = rw e at (pow_low j (k - (j + 1))) in
          grind (arith, nat_tests)
      | inr (inr l) ↦ let z : 2 ^ k / 2 ^ j ≡ 0 = div-eq_of_lt (pow_below k j l) in rw z (grind (arith, nat_tests))
    ]

-- the word that holds bit k is or-ed with that bit
pub insert_bit : (ws : List ℕ) (k j : ℕ) → k / 64 < length ws
    → bit_of (set ws (k / 64) (bit_or (get_or ws (k / 64) 0) ((1 * 2 ^ (k % 64)) % 2 ^ 64))) j ≡ (eqb j k || bit_of ws j)
unfolding bit_of
insert_bit ws k j h =
    rw (one_shl (k % 64) 64 (omega arith))
    (elim (cases_eq (j / 64) (k / 64)) [
      | inl e ↦ rw (e, get_or-set_same ws (k / 64) (bit_or (get_or ws (k / 64) 0) (2 ^ (k % 64))) 0 h, bit-bit_or (get_or ws (k / 64) 0) (2 ^ (k % 64)) (j % 64), bit_pow (j % 64) (k % 64)) (grind (arith, nat_tests))
      | inr ne ↦ rw (get_or-set_other ws (k / 64) (j / 64) (bit_or (get_or ws (k / 64) 0) (2 ^ (k % 64))) 0 ne) (let n : eqb j k ≡ false = ne_eqb j k (λ e. ne (ap (λ x. x / 64) e)) in rw n)
    ])

pub union_bit : (ws vs us : List ℕ) → ((i : ℕ) → get_or us i 0 ≡ bit_or (get_or ws i 0) (get_or vs i 0))
    → (j : ℕ) → bit_of us j ≡ (bit_of ws j || bit_of vs j)
unfolding bit_of
union_bit ws vs us h j = rw (h (j / 64)) (bit-bit_or (get_or ws (j / 64) 0) (get_or vs (j / 64) 0) (j % 64))

-- a number that is not 0 bit_of a bit
pub some_bit : (f n : ℕ) → n < 2 ^ f → (n ≡ 0 → ⊥) → (k : ℕ) × ((k < f) × (bit n k ≡ true))
unfolding bit
some_bit zero n l ne = absurd (ne (omega arith))
some_bit (suc f) n l ne =
    elim (cases_eq (n % 2) 1) [
      | inl e ↦ let d : n / 2 ^ 0 ≡ n = omega arith in (0, (omega arith, rw (d, e)))
      | inr o ↦
          let p : 2 ^ suc f ≡ 2 ^ f * 2 = pow-suc 2 f in
          let r = some_bit f (n / 2) (omega arith) (λ z. ne (omega arith)) in
          let e : n / 2 / 2 ^ r.0 ≡ n / 2 ^ suc r.0 = rw (shr-shr n 1 r.0, one-add r.0) in
          (suc r.0, (omega arith, rw e at r.1.1))
    ]

pub get_or_zeros : (n i : ℕ) → get_or {A = ℕ} (replicate n 0) i 0 ≡ 0
get_or_zeros n i =
    elim (cases_lt i n) [
      | inl l ↦ get_or-replicate {A = ℕ} n i 0 0 l
      | inr l ↦ get_or_past {X = ℕ} (replicate n 0) i 0 (simp length-replicate l)
    ]

pub none_bit : (n j : ℕ) → bit_of (replicate n 0) j ≡ false
unfolding bit_of
none_bit n j = rw (get_or_zeros n (j / 64)) (bit_zero (j % 64))

-- two words with a common bit
pub meets_at : (ws vs : List ℕ) (i : ℕ) → get_or ws i 0 < 2 ^ 64 → (bit_and (get_or ws i 0) (get_or vs i 0) ≡ 0 → ⊥) → (k : ℕ) × (bit_of ws k ≡ true) × (bit_of vs k ≡ true)
unfolding bit_of
meets_at ws vs i l ne =
    let b = some_bit 64 (bit_and (get_or ws i 0) (get_or vs i 0)) (omega (arith, and_le_l (get_or ws i 0) (get_or vs i 0))) ne in
    let q : (i * 64 + b.0) / 64 ≡ i = div-mul-add i 64 b.0 b.1.0 in
    let r : (i * 64 + b.0) % 64 ≡ b.0 = mod-mul-add i 64 b.0 b.1.0 in
    let both = and_parts (bit (get_or ws i 0) b.0) (bit (get_or vs i 0) b.0) (sym (bit-bit_and (get_or ws i 0) (get_or vs i 0) b.0) ∙ b.1.1) in
    (i * 64 + b.0, rw (q, r) both.0, rw (q, r) both.1)

pub meets_none : (ws vs : List ℕ) → ((i : ℕ) → bit_and (get_or ws i 0) (get_or vs i 0) ≡ 0) → (k : ℕ) × (bit_of ws k ≡ true) × (bit_of vs k ≡ true) → ⊥
unfolding bit_of
meets_none ws vs h m =
    let z = bit-bit_and (get_or ws (m.0 / 64) 0) (get_or vs (m.0 / 64) 0) (m.0 % 64) in
    let y : bit (bit_and (get_or ws (m.0 / 64) 0) (get_or vs (m.0 / 64) 0)) (m.0 % 64) ≡ false = rw (h (m.0 / 64)) (bit_zero (m.0 % 64)) in
    true≢false (sym (and_from _ _ m.1 m.2) ∙ sym z ∙ y)

digit : (a : ℕ) → (a % 2 ≡ 0) ⊎ (a % 2 ≡ 1)
digit a = elim (cases_eq (a % 2) 1) [ inl e ↦ inr e | inr ne ↦ inl (omega arith) ]

xor_odd : (a b : ℕ) → eqb (bit_xor a b % 2) 1 ≡ cond (eqb (b % 2) 1) (not (eqb (a % 2) 1)) (eqb (a % 2) 1)
xor_odd a b =
    let h = xor_step a b in
    elim (digit a) [
      | inl p ↦ elim (digit b) [
        | inl q ↦ let k = rw (p, q) at h in rw (p, q) (grind (arith, nat_tests))
        | inr q ↦ let k = rw (p, q) at h in rw (p, q) (grind (arith, nat_tests))
      ]
      | inr p ↦ elim (digit b) [
        | inl q ↦ let k = rw (p, q) at h in rw (p, q) (grind (arith, nat_tests))
        | inr q ↦ let k = rw (p, q) at h in rw (p, q) (grind (arith, nat_tests))
      ]
    ]

pub bit-bit_xor : (a b k : ℕ) → bit (bit_xor a b) k ≡ cond (bit b k) (not (bit a k)) (bit a k)
unfolding bit
bit-bit_xor a b k = rw (xor_shr a b k) (xor_odd (a / 2 ^ k) (b / 2 ^ k))

-- a word without what another has
pub bit_less : (a b k : ℕ) → bit (bit_xor a (bit_and a b)) k ≡ (bit a k && not (bit b k))
bit_less a b k =
    rw (bit-bit_xor a (bit_and a b) k, bit-bit_and a b k) (by (bit a k) (bit b k))
  where
    by : (x y : Bool) → cond (x && y) (not x) x ≡ (x && not y)
    by true true = refl
    by true false = refl
    by false y = refl

pub both_bit : (ws vs us : List ℕ) → ((i : ℕ) → get_or us i 0 ≡ bit_and (get_or ws i 0) (get_or vs i 0))
    → (j : ℕ) → bit_of us j ≡ (bit_of ws j && bit_of vs j)
unfolding bit_of
both_bit ws vs us h j = rw (h (j / 64)) (bit-bit_and (get_or ws (j / 64) 0) (get_or vs (j / 64) 0) (j % 64))

pub minus_bit : (ws vs us : List ℕ) → ((i : ℕ) → get_or us i 0 ≡ bit_xor (get_or ws i 0) (bit_and (get_or ws i 0) (get_or vs i 0)))
    → (j : ℕ) → bit_of us j ≡ (bit_of ws j && not (bit_of vs j))
unfolding bit_of
minus_bit ws vs us h j = rw (h (j / 64)) (bit_less (get_or ws (j / 64) 0) (get_or vs (j / 64) 0) (j % 64))

pub zero_bit : (ws : List ℕ) → ((i : ℕ) → get_or ws i 0 ≡ 0) → (j : ℕ) → bit_of ws j ≡ false
unfolding bit_of
zero_bit ws h j = rw (h (j / 64)) (bit_zero (j % 64))

-- the lowest bit that is set: it is set, and none below it is
pub low_bit : (f n : ℕ) → n < 2 ^ f → (n ≡ 0 → ⊥) → (count_trailing_zeros f n < f) × (bit n (count_trailing_zeros f n) ≡ true)
unfolding bit count_trailing_zeros
low_bit zero n l ne = absurd (ne (omega arith))
low_bit (suc f) n l ne =
    elim (digit n) [
      | inr e ↦ let d : n / 2 ^ 0 ≡ n = omega arith in rw e (omega arith, rw (d, e))
      | inl o ↦
          let p : 2 ^ suc f ≡ 2 ^ f * 2 = pow-suc 2 f in
          let r = low_bit f (n / 2) (omega arith) (λ z. ne (omega arith)) in
          let e : n / 2 / 2 ^ count_trailing_zeros f (n / 2) ≡ n / 2 ^ suc (count_trailing_zeros f (n / 2)) = rw (shr-shr n 1 (count_trailing_zeros f (n / 2)), one-add (count_trailing_zeros f (n / 2))) in
          rw o (omega arith, rw e at r.1)
    ]

pub toggle_bit : (ws : List ℕ) (i t j : ℕ) → i < length ws → t < 64 → bit (get_or ws i 0) t ≡ true
    → bit_of (set ws i (bit_xor (get_or ws i 0) ((1 * 2 ^ t) % 2 ^ 64))) j ≡ (not (eqb j (64 * i + t)) && bit_of ws j)
unfolding bit_of
toggle_bit ws i t j h l b =
    rw (one_shl t 64 l)
    (elim (cases_eq (j / 64) i) [
      | inl e ↦ rw (e, get_or-set_same ws i (bit_xor (get_or ws i 0) (2 ^ t)) 0 h, bit-bit_xor (get_or ws i 0) (2 ^ t) (j % 64), bit_pow (j % 64) t)
          (elim (cases_eq (j % 64) t) [
            | inl s ↦ let q : j ≡ 64 * i + t = omega arith in rw (s, b, eq-eqb t t refl, eq-eqb j (64 * i + t) q)
            | inr ne ↦ let q : j ≡ 64 * i + t → ⊥ = λ z. ne (omega arith) in rw (ne_eqb (j % 64) t ne, ne_eqb j (64 * i + t) q)
          ])
      | inr ne ↦ let q : j ≡ 64 * i + t → ⊥ = λ z. ne (omega arith) in
          rw (get_or-set_other ws i (j / 64) (bit_xor (get_or ws i 0) (2 ^ t)) 0 ne, ne_eqb j (64 * i + t) q)
    ])

pub at_bit : (ws : List ℕ) (i t : ℕ) → t < 64 → bit (get_or ws i 0) t ≡ true → bit_of ws (64 * i + t) ≡ true
unfolding bit_of
at_bit ws i t l b =
    let q : (64 * i + t) / 64 ≡ i = omega arith in
    let r : (64 * i + t) % 64 ≡ t = omega arith in
    rw (q, r) b

-- no bit below the lowest is set
pub low_none : (f n j : ℕ) → j < count_trailing_zeros f n → bit n j ≡ false
unfolding bit count_trailing_zeros
low_none zero n j l = absurd (omega arith)
low_none (suc f) n j l =
    elim (digit n) [
      | inr e ↦ let m : j < 0 = rw e at l in absurd (omega arith)
      | inl o ↦
          let m : j < suc (count_trailing_zeros f (n / 2)) = rw o at l in
          elim (cases_eq j 0) [
            | inl z ↦ let d : n / 2 ^ 0 ≡ n = omega arith in rw (z, d, o)
            | inr nz ↦
                let s : suc (j - 1) ≡ j = omega arith in
                let e : n / 2 / 2 ^ (j - 1) ≡ n / 2 ^ j = rw (shr-shr n 1 (j - 1), one-add (j - 1), s) in
                rw e at (low_none f (n / 2) (j - 1) (omega arith))
          ]
    ]

-- words that are made one by one, where two words of 0 make 0
pub word_by_word : (f : ℕ → ℕ → ℕ) (n : ℕ) (ws vs us : List ℕ) → f 0 0 ≡ 0 → length ws ≡ n → length vs ≡ n → length us ≡ n
    → ((i : ℕ) → i < n → get_or us i 0 ≡ f (get_or ws i 0) (get_or vs i 0)) → (i : ℕ) → get_or us i 0 ≡ f (get_or ws i 0) (get_or vs i 0)
word_by_word f n ws vs us none lw lv lu by i =
    elim (cases_lt i n) [
      | inl l ↦ by i l
      | inr l ↦ rw (get_or_past ws i 0 (omega arith), get_or_past vs i 0 (omega arith), get_or_past us i 0 (omega arith)) (sym none)
    ]

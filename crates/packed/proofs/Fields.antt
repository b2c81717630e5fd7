-- Fields of bits, once over the width.
use Rattle.std.proofs.Common.{◌≡◌, ℕ, zero, suc, ◌+◌, ◌-◌, ◌*◌, ◌/◌, ◌%◌, ◌^◌, ◌<◌, ◌⊎◌, List, length, get_or, sym, refl, ap, ◌∙◌, inl, inr, mod-eq_of_lt, mul_assoc, add-one, arith, pow-add, shr-shr}
use lib.Pow.{mod-pow-add}
use Rattle.std.proofs.lemmas.Nat.{mod_below, div-mul-add, mod-mul-add, div-add-mod'}
use Rattle.std.proofs.lemmas.List.FromFn.{get_or-map-range_with_len, fill_by_all}
use Rattle.packed.specs.Bits.{bit_of, bit_in, field, grouped}

pub pow_two : (w : ℕ) → 2 ^ suc w ≡ 2 ^ w * 2
pow_two w = ap (λ n. 2 ^ n) (sym (add-one w)) ∙ pow-add 2 w 1

mod_two : (v w : ℕ) → v % 2 ^ suc w ≡ (v / 2 % 2 ^ w) * 2 + v % 2
mod_two v w = ap (λ n. v % 2 ^ n) (sym (add-one w)) ∙ mod-pow-add v w 1

-- a bit that lies d places on in a number is a bit of its upper part
bit_up : (v a b c : ℕ) → a + b ≡ c → v / 2 ^ a / 2 ^ b % 2 ≡ v / 2 ^ c % 2
bit_up v a b c e = ap (λ n. n % 2) (shr-shr v a b ∙ ap (λ n. v / 2 ^ n) e)

pub bit_in_small : (w : ℕ) (ds : List ℕ) → (i : ℕ) → bit_in w ds i < 2
bit_in_small w ds i = mod_below _ 2 (omega arith)

pub field_small : (f : ℕ → ℕ) → ((i : ℕ) → f i < 2) → (b w : ℕ) → field f b w < 2 ^ w
field_small f s b zero = omega arith
field_small f s b (suc w) = let h = field_small f s b w in let l = s (b + w) in omega (arith, pow_two w)

pub field_same : (f g : ℕ → ℕ) (b c w : ℕ) → ((k : ℕ) → k < w → f (b + k) ≡ g (c + k)) → field f b w ≡ field g c w
field_same f g b c zero h = refl
field_same f g b c (suc w) h =
    let one = h w (omega arith) in
    let more = field_same f g b c w (λ k l. h k (omega arith)) in
    omega arith

-- bits that are a number's write it
pub field_is : (f : ℕ → ℕ) (b w v : ℕ) → ((k : ℕ) → k < w → f (b + k) ≡ bit_of w v k) → field f b w ≡ v % 2 ^ w
field_is f b zero v h = omega arith
field_is f b (suc w) v h =
    let e0 : suc w - 1 - w ≡ 0 = omega arith in
    let last : f (b + w) ≡ v % 2 = h w (omega arith) ∙ ap (λ n. v / 2 ^ n % 2) e0 ∙ omega arith in
    let front = field_is f b w (v / 2) (λ k l. h k (omega arith) ∙ sym (bit_up v 1 (w - 1 - k) (suc w - 1 - k) (omega arith))) in
    omega (arith, mod_two v w)

-- each bit of a field is the bit that stands there
pub bit_field : (f : ℕ → ℕ) → ((i : ℕ) → f i < 2) → (b w k : ℕ) → k < w → bit_of w (field f b w) k ≡ f (b + k)
bit_field f s b zero k h = absurd (omega arith)
bit_field f s b (suc w) k h =
    let l = s (b + w) in
    elim (split k w (omega arith)) [
      | inl e ↦
          let e0 : suc w - 1 - k ≡ 0 = omega arith in
          ap (λ n. (field f b w * 2 + f (b + w)) / 2 ^ n % 2) e0 ∙ omega arith ∙ ap (λ n. f (b + n)) (sym e)
      | inr lt ↦
          let up : (field f b w * 2 + f (b + w)) / 2 ≡ field f b w = omega arith in
          sym (bit_up (field f b w * 2 + f (b + w)) 1 (w - 1 - k) (suc w - 1 - k) (omega arith))
          ∙ ap (λ n. n / 2 ^ (w - 1 - k) % 2) up ∙ bit_field f s b w k lt
    ]
  where
    split : (k w : ℕ) → k < suc w → (k ≡ w) ⊎ (k < w)
    split k w h = grind arith

pub field_add : (f : ℕ → ℕ) (b v w : ℕ) → field f b (v + w) ≡ field f b v * 2 ^ w + field f (b + v) w
field_add f b v zero = let e : v + 0 ≡ v = omega arith in rw e (omega arith)
field_add f b v (suc w) =
    let e : v + suc w ≡ suc (v + w) = omega arith in
    let a : b + (v + w) ≡ b + v + w = omega arith in
    let more = field_add f b v w in
    ap (field f b) e ∙ (omega (arith, ap f a, ap (λ n. field f b v * n) (pow_two w), mul_two (field f b v) (2 ^ w)))
  where
    mul_two : (a p : ℕ) → a * (p * 2) ≡ a * p * 2
    mul_two a p = sym (mul_assoc a p 2)

-- one bit more
pub field_more : (f : ℕ → ℕ) (b w : ℕ) → field f b (w + 1) ≡ field f b w * 2 + f (b + w)
field_more f b w = rw add-one

-- bit k of the number at place j
pub bit_in_at : (w : ℕ) (ds : List ℕ) (j k : ℕ) → k < w → bit_in w ds (j * w + k) ≡ bit_of w (get_or ds j 0) k
bit_in_at w ds j k h = ap (λ n. bit_of w (get_or ds n 0) ((j * w + k) % w)) (div-mul-add j w k h) ∙ ap (λ n. bit_of w (get_or ds j 0) n) (mod-mul-add j w k h)

-- a field that lies within one number
pub field_within : (w : ℕ) (ds : List ℕ) (j a u c : ℕ) → a + u + c ≡ w → field (bit_in w ds) (j * w + a) u ≡ get_or ds j 0 / 2 ^ c % 2 ^ u
field_within w ds j a u c e =
    field_is (bit_in w ds) (j * w + a) u (get_or ds j 0 / 2 ^ c) (λ k h.
    let s : j * w + a + k ≡ j * w + (a + k) = omega arith in
    ap (bit_in w ds) s ∙ bit_in_at w ds j (a + k) (omega arith) ∙ sym (bit_up (get_or ds j 0) c (u - 1 - k) (w - 1 - (a + k)) (omega arith)))

-- a whole number
pub field_whole : (w : ℕ) (ds : List ℕ) (j : ℕ) → get_or ds j 0 < 2 ^ w → field (bit_in w ds) (j * w) w ≡ get_or ds j 0
field_whole w ds j h = field_is (bit_in w ds) (j * w) w (get_or ds j 0) (λ k l. bit_in_at w ds j k l) ∙ mod_small (get_or ds j 0) w h
  where
    mod_small : (v w : ℕ) → v < 2 ^ w → v % 2 ^ w ≡ v
    mod_small v w h = mod-eq_of_lt h

-- the numbers that bits write have those bits
pub bit_grouped : (f : ℕ → ℕ) → ((i : ℕ) → f i < 2) → (w n i : ℕ) → 0 < w → i / w < n → bit_in w (grouped f w n) i ≡ f i
bit_grouped f s w n i pos h =
    let m = mod_below i w pos in
    ap (λ d. bit_of w d (i % w)) (get_or-map-range_with_len (λ j. field f (j * w) w) 0 n (i / w) (i / w) 0 h (omega arith))
    ∙ bit_field f s (i / w * w) w (i % w) m ∙ ap f (div-add-mod' i w)

-- and numbers with those bits are these
pub grouped_is : (w : ℕ) (ds : List ℕ) (f : ℕ → ℕ) (n : ℕ) → length ds ≡ n → ((j : ℕ) → j < n → get_or ds j 0 < 2 ^ w)
    → ((j k : ℕ) → j < n → k < w → bit_in w ds (j * w + k) ≡ f (j * w + k)) → ds ≡ grouped f w n
grouped_is w ds f n e small same =
    fill_by_all (λ j. field f (j * w) w) ds n 0 e (λ j h.
    sym (field_whole w ds j (small j h)) ∙ field_same (bit_in w ds) f (j * w) (j * w) w (λ k l. same j k h l))

-- two fields that follow one another are one
pub join : (f : ℕ → ℕ) (b v w c : ℕ) → b + v ≡ c → field f b v * 2 ^ w + field f c w ≡ field f b (v + w)
join f b v w c e = ap (λ n. field f b v * 2 ^ w + field f n w) (sym e) ∙ sym (field_add f b v w)

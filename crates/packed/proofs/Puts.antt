-- Fields put one behind the other.
use Rattle.std.proofs.Common.{◌≡◌, ℕ, ◌+◌, ◌-◌, ◌*◌, ◌/◌, ◌%◌, ◌^◌, ◌<◌, List, sym, ap, ◌∙◌, inl, inr, arith, shr-shr}
use lib.Pow.{mod-mod-pow, field as field_of}
use Rattle.std.proofs.lemmas.Nat.{shr_high, mod_low}
use Rattle.std.proofs.lemmas.Bool.{cases_lt}
use Rattle.packed.specs.Bits.{bit_of, bit_in, Put}

-- a bit of the lower part
bit_low : (x w m : ℕ) → m < w → x % 2 ^ w / 2 ^ m % 2 ≡ x / 2 ^ m % 2
bit_low x w m h =
    let d = w - m - 1 in
    let e : w ≡ d + 1 + m = omega arith in
    ap (λ n. x % 2 ^ n / 2 ^ m % 2) e ∙ ap (λ n. n % 2) (field_of x (d + 1) m) ∙ mod-mod-pow (x / 2 ^ m) d 1

-- two numbers side by side: the bits of the first, then those of the second
side_first : (u w a c k : ℕ) → c < 2 ^ w → k < u → bit_of (u + w) (a * 2 ^ w + c) k ≡ bit_of u a k
side_first u w a c k s h =
    let e : w + (u - 1 - k) ≡ u + w - 1 - k = omega arith in
    ap (λ n. n % 2) (sym (shr-shr (a * 2 ^ w + c) w (u - 1 - k) ∙ ap (λ n. (a * 2 ^ w + c) / 2 ^ n) e))
    ∙ ap (λ n. n / 2 ^ (u - 1 - k) % 2) (shr_high a w c s)

side_second : (u w a c k : ℕ) → c < 2 ^ w → k < w → bit_of (u + w) (a * 2 ^ w + c) (u + k) ≡ bit_of w c k
side_second u w a c k s h =
    let e : u + w - 1 - (u + k) ≡ w - 1 - k = omega arith in
    ap (λ n. (a * 2 ^ w + c) / 2 ^ n % 2) e
    ∙ sym (bit_low (a * 2 ^ w + c) w (w - 1 - k) (omega arith))
    ∙ ap (λ n. n / 2 ^ (w - 1 - k) % 2) (mod_low a w c s)

pub put_join : {x y z : List ℕ} {b u w a c : ℕ} → Put x y b u a → Put y z (b + u) w c → c < 2 ^ w → Put x z b (u + w) (a * 2 ^ w + c)
put_join {x} {y} {z} {b} {u} {w} {a} {c} p q s = record {
  there = λ k h. elim (cases_lt k u) [
    | inl lt ↦ q.ahead (b + k) (omega arith) ∙ p.there k lt ∙ sym (side_first u w a c k s lt)
    | inr ge ↦
        let i = k - u in
        let e : u + i ≡ k = omega arith in
        let f : b + k ≡ b + u + i = omega arith in
        ap (bit_in 8 z) f ∙ q.there i (omega arith) ∙ sym (side_second u w a c i s (omega arith)) ∙ ap (bit_of (u + w) (a * 2 ^ w + c)) e
  ];
  ahead = λ k h. q.ahead k (omega arith) ∙ p.ahead k h;
  behind = λ k h. q.behind k (omega arith) ∙ p.behind k (omega arith);
  rest = λ j h. q.rest j (omega arith) ∙ p.rest j (omega arith);
}

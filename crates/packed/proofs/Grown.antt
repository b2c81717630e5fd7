-- A buffer that is written word by word.
use Rattle.std.proofs.Common.{◌≡◌, ℕ, zero, suc, ◌+◌, ◌-◌, ◌*◌, ◌/◌, ◌%◌, ◌<◌, ◌≤◌, true, List, [], ◌∷◌, ◌++◌, length, get_or, take, drop, Some, sym, ap, ◌∙◌, inl, inr, add-one, arith, length-drop, take-append-drop, length-take-le, get_or-take}
use Rattle.std.proofs.lemmas.List.{get_or-map, get_or-drop, ext_get_or}
use Rattle.std.proofs.lemmas.Bool.{cases_lt, and_parts}
use Rattle.history.specs.declared.event.Event.{Event}
use Rattle.history.specs.Lists.{numbered}
use Rattle.history.proofs.Numbered.{numbered_at}
use Rattle.packed.specs.Bits.{bit_of, bit_in, grouped, Put}
use Rattle.packed.specs.Layout.{event_word, words}
use Rattle.history.specs.Limits.{within_limits}
use Rattle.packed.specs.Writing.{all_fitting}
use Rattle.packed.proofs.Fields.{bit_in_at, grouped_is}
use Rattle.packed.proofs.Returns.{no_bit, past_bit}

-- the event with a number, in the list and in the words
module _ (es : List Event) (i : ℕ) (e : Event) (at : numbered es (i + 1) ≡ Some e) where
  pub at_word : (season : ℕ) → get_or (words season es) (i + 1) 0 ≡ event_word e
  at_word season =
      ap (λ n. get_or (words season es) n 0) (add-one i)
      ∙ get_or-map event_word es i e 0 (numbered_at es i e at).0 ∙ ap event_word (sym (numbered_at es i e at).1)

  pub at_fits : all_fitting es ≡ true → within_limits e ≡ true
  at_fits all = ap within_limits (numbered_at es i e at).1 ∙ each es all i e (numbered_at es i e at).0
    where
      each : (es : List Event) → all_fitting es ≡ true → (k : ℕ) (d : Event) → k < length es → within_limits (get_or es k d) ≡ true
      each [] all k d h = absurd (omega arith)
      each (x ∷ xs) all zero d h = (and_parts _ _ all).0
      each (x ∷ xs) all (suc k) d h = each xs (and_parts _ _ all).1 k d (omega arith)

-- one word more
pub grown : (x y ws : List ℕ) (i v : ℕ) → ((k : ℕ) → k < i * 25 → bit_in 8 x k ≡ bit_in 25 ws k) → Put x y (i * 25) 25 v → get_or ws i 0 ≡ v
    → (k : ℕ) → k < (i + 1) * 25 → bit_in 8 y k ≡ bit_in 25 ws k
grown x y ws i v before p e k h =
    elim (cases_lt k (i * 25)) [
      | inl lt ↦ p.ahead k lt ∙ before k lt
      | inr ge ↦
          let j = k - i * 25 in
          let f : k ≡ i * 25 + j = omega arith in
          ap (bit_in 8 y) f ∙ p.there j (omega arith) ∙ sym (ap (bit_in 25 ws) f ∙ bit_in_at 25 ws i j (omega arith) ∙ ap (λ d. bit_of 25 d j) e)
    ]

-- the zero bits at the end, and the whole
module _ (x p y ws : List ℕ) (end w used : ℕ)
    (bits : (k : ℕ) → k < end → bit_in 8 p k ≡ bit_in 25 ws k) (put : Put p y end w 0)
    (whole : end + w ≡ used * 8) (words-end : length ws * 25 ≡ end) (len : length y ≡ length x) (room : used ≤ length x)
    (small : (j : ℕ) → get_or y j 0 < 256) (rest : (j : ℕ) → used ≤ j → get_or y j 0 ≡ get_or x j 0) where
  all_bits : (k : ℕ) → k < used * 8 → bit_in 8 y k ≡ bit_in 25 ws k
  all_bits k h =
      elim (cases_lt k end) [
        | inl lt ↦ put.ahead k lt ∙ bits k lt
        | inr ge ↦
            let j = k - end in
            let f : k ≡ end + j = omega arith in
            ap (bit_in 8 y) f ∙ put.there j (omega arith) ∙ no_bit (w - 1 - j) ∙ sym (past_bit ws k (omega arith))
      ]

  front : take used y ≡ grouped (bit_in 25 ws) 8 used
  front =
      grouped_is 8 (take used y) (bit_in 25 ws) used (length-take-le used y (omega arith))
      (λ j h. let e = get_or-take used y j 0 h in let s = small j in omega arith)
      (λ j k hj hk. ap (λ d. bit_of 8 d ((j * 8 + k) % 8)) (get_or-take used y ((j * 8 + k) / 8) 0 (omega arith)) ∙ all_bits (j * 8 + k) (omega arith))

  behind : drop used y ≡ drop used x
  behind =
      ext_get_or 0 (drop used y) (drop used x) (simp length-drop (omega arith))
      (λ j h. get_or-drop used y j 0 ∙ rest (used + j) (omega arith) ∙ sym (get_or-drop used x j 0))

  pub whole_buffer : y ≡ grouped (bit_in 25 ws) 8 used ++ drop used x
  whole_buffer = sym (take-append-drop used y) ∙ ap (λ l. l ++ drop used y) front ∙ ap (λ l. grouped (bit_in 25 ws) 8 used ++ l) behind

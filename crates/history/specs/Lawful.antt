-- The preferences that are there keep the laws.
use Rattle.std.specs.Prelude.{◌≡◌, ℕ, ◌<◌, Bool, true, cond, not, ◌⊎◌, List, ◌==◌, ◌≢◌, nat_lt, refl}
use Rattle.std.proofs.Common.{sym, ap, ◌∙◌, inl, inr, ⊎_elim, arith, lt-ltb, le-ltb, ltb-true, eq-eqb, ne_eqb}
use Rattle.std.proofs.lemmas.Bool.{cases_order, cases_eq}
use Rattle.history.specs.declared.event.Event.{Event}
use Rattle.either.specs.declared.Either.{Either}
use Rattle.either.specs.declared.Either.TheVariants.{Left, Right}
use Rattle.either.specs.Either.{either}
use Rattle.history.specs.Preferences.{Lawful, by_number, by_key, by_star, by_session}

-- of two different numbers exactly one is the lower
apart : (a b : ℕ) → (a ≢ b) → nat_lt a b ≡ not (nat_lt b a)
apart a b ne = ⊎_elim (λ e. absurd (ne e)) (⊎_elim
    (λ h. lt-ltb a b h ∙ sym (ap not (le-ltb b a (omega arith))))
    (λ h. le-ltb a b (omega arith) ∙ sym (ap not (lt-ltb b a h)))) (cases_order a b)

pub by_number_lawful : (es : List Event) → Lawful by_number es
by_number_lawful es = record {
  never = λ m x _. le-ltb m m (omega arith);
  one = λ m n x y _ _ ne. apart m n ne;
  chain = λ m n o x y z _ _ _ a b. let p = ltb-true m n a in let q = ltb-true n o b in lt-ltb m o (omega arith);
}

-- by a key, then by number: the same three facts of two numbers each
abbrev less : ℕ → ℕ → ℕ → ℕ → Bool
less a m b n = cond (a == b) (nat_lt m n) (nat_lt a b)

less_same : (a m b n : ℕ) → a ≡ b → less a m b n ≡ nat_lt m n
less_same a m b n e = rw (eq-eqb a b e)

less_other : (a m b n : ℕ) → (a ≢ b) → less a m b n ≡ nat_lt a b
less_other a m b n ne = rw (ne_eqb a b ne)

less_one : (a m b n : ℕ) → (m ≢ n) → less a m b n ≡ not (less b n a m)
less_one a m b n ne = ⊎_elim
    (λ e. less_same a m b n e ∙ apart m n ne ∙ sym (ap not (less_same b n a m (sym e))))
    (λ d. less_other a m b n d ∙ apart a b d ∙ sym (ap not (less_other b n a m (λ e. d (sym e)))))
    (cases_eq a b)

-- the first key is lower, or they are equal and the number is
less_parts : (a m b n : ℕ) → less a m b n ≡ true → (a < b) ⊎ ((a ≡ b) × (m < n))
less_parts a m b n h = ⊎_elim
    (λ e. inr (e, ltb-true m n (sym (less_same a m b n e) ∙ h)))
    (λ d. inl (ltb-true a b (sym (less_other a m b n d) ∙ h)))
    (cases_eq a b)

less_lower : (a m b n : ℕ) → a < b → less a m b n ≡ true
less_lower a m b n h = less_other a m b n (λ e. omega (arith, e)) ∙ lt-ltb a b h

less_equal : (a m b n : ℕ) → a ≡ b → m < n → less a m b n ≡ true
less_equal a m b n e h = less_same a m b n e ∙ lt-ltb m n h

less_chain : (a m b n d o : ℕ) → less a m b n ≡ true → less b n d o ≡ true → less a m d o ≡ true
less_chain a m b n d o p q = ⊎_elim
    (λ h. ⊎_elim (λ k. less_lower a m d o (omega arith)) (λ k. less_lower a m d o (omega (arith, k.0))) (less_parts b n d o q))
    (λ h. ⊎_elim (λ k. less_lower a m d o (omega (arith, h.0))) (λ k. less_equal a m d o (h.0 ∙ k.0) (omega (arith, h.1, k.1))) (less_parts b n d o q))
    (less_parts a m b n p)

pub by_key_lawful : (key : Event → ℕ) (es : List Event) → Lawful (by_key key) es
by_key_lawful key es = record {
  never = λ m x _. less_same (key x) m (key x) m refl ∙ le-ltb m m (omega arith);
  one = λ m n x y _ _ ne. less_one (key x) m (key y) n ne;
  chain = λ m n o x y z _ _ _ a b. less_chain (key x) m (key y) n (key z) o a b;
}

pub by_star_lawful : (es : List Event) → Lawful by_star es
by_star_lawful = by_key_lawful (λ e. e.star)

pub by_session_lawful : (es : List Event) → Lawful by_session es
by_session_lawful = by_key_lawful (λ e. e.session)

pub either_lawful : {P Q : Type 0} (f : P → ℕ → Event → ℕ → Event → Bool) (g : Q → ℕ → Event → ℕ → Event → Bool)
    → ((p : P) (es : List Event) → Lawful (f p) es) → ((q : Q) (es : List Event) → Lawful (g q) es)
    → (e : Either P Q) (es : List Event) → Lawful (either f g e) es
either_lawful f g a b (Left p) = a p
either_lawful f g a b (Right q) = b q

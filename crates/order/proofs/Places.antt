-- Places in lists of numbers, and the orders of n events.
use Rattle.std.proofs.Common.{◌≡◌, ℕ, zero, suc, ◌<◌, ◌≤◌, Bool, true, false, cond, eqb, ◌≢◌, List, [], ◌∷◌, length, get_or, sym, refl, ap, ◌∙◌, arith, eqb→eq}
use mathlib.Core.List.{Memᴰ}
use native.Mathlib.Decide.{ℕ_discrete}
use Rattle.order.specs.History.{History, at, count, Number, Read, Write}
use Rattle.order.specs.Orders.{times, place, Order}
use Rattle.order.proofs.Tests.{is_true}

eqb_yes : (x i : ℕ) → x ≡ i → eqb x i ≡ true
eqb_yes x i e = grind arith

eqb_no : (x i : ℕ) → x ≢ i → eqb x i ≡ false
eqb_no x i n = grind arith

pub place_here : (x i : ℕ) (xs : List ℕ) → x ≡ i → place (x ∷ xs) i ≡ 0
place_here x i xs e = rw (eqb_yes x i e)

pub place_there : (x i : ℕ) (xs : List ℕ) → x ≢ i → place (x ∷ xs) i ≡ suc (place xs i)
place_there x i xs n = rw (eqb_no x i n)

pub times_here : (x i : ℕ) (xs : List ℕ) → x ≡ i → times (x ∷ xs) i ≡ suc (times xs i)
times_here x i xs e = rw (eqb_yes x i e)

pub times_there : (x i : ℕ) (xs : List ℕ) → x ≢ i → times (x ∷ xs) i ≡ times xs i
times_there x i xs n = rw (eqb_no x i n)

pub times_member : (xs : List ℕ) (i : ℕ) → 1 ≤ times xs i → Memᴰ i xs
times_member [] i l = absurd (omega arith)
times_member (x ∷ xs) i l = go (ℕ_discrete x i) (times_member xs i)
  where
    go : Dec (x ≡ i) → (1 ≤ times xs i → Memᴰ i xs) → Memᴰ i (x ∷ xs)
    go (yes e) ih = Memᴰ.head (sym e)
    go (no n) ih = Memᴰ.tail (ih (rw (times_there x i xs n) at l))

pub place_in : (σ : List ℕ) (i : ℕ) → 1 ≤ times σ i → place σ i < length σ
place_in [] i h = omega arith
place_in (x ∷ xs) i h = go (eqb x i) (place_in xs i) h
  where
    go : (b : Bool) → (1 ≤ times xs i → place xs i < length xs) →
        1 ≤ cond b (suc (times xs i)) (times xs i) → cond b 0 (suc (place xs i)) < suc (length xs)
    go true ih h = omega arith
    go false ih h = let k : place xs i < length xs = ih h in omega arith

pub place_at : (σ : List ℕ) (i : ℕ) → place σ i < length σ → get_or σ (place σ i) 0 ≡ i
place_at [] i h = absurd (omega arith)
place_at (x ∷ xs) i h = go (eqb x i) refl (place_at xs i) h
  where
    go : (b : Bool) → eqb x i ≡ b → (place xs i < length xs → get_or xs (place xs i) 0 ≡ i) →
        cond b 0 (suc (place xs i)) < suc (length xs) → get_or (x ∷ xs) (cond b 0 (suc (place xs i))) 0 ≡ i
    go true e ih h = eqb→eq x i (is_true e)
    go false e ih h = ih (omega arith)

pub place_inj : (σ : List ℕ) (a b : ℕ) → place σ a < length σ → place σ b < length σ → place σ a ≡ place σ b → a ≡ b
place_inj σ a b p q e = sym (place_at σ a p) ∙ ap (λ k. get_or σ k 0) e ∙ place_at σ b q

pub times_at : (σ : List ℕ) (k : ℕ) → k < length σ → 1 ≤ times σ (get_or σ k 0)
times_at [] k l = absurd (omega arith)
times_at (x ∷ xs) zero l = rw (times_here x x xs refl) (omega arith)
times_at (x ∷ xs) (suc k) l = go (ℕ_discrete x (get_or xs k 0)) (times_at xs k (omega arith))
  where
    go : Dec (x ≡ get_or xs k 0) → 1 ≤ times xs (get_or xs k 0) → 1 ≤ times (x ∷ xs) (get_or xs k 0)
    go (yes e) ih = rw (times_here x (get_or xs k 0) xs e) (omega arith)
    go (no n) ih = rw (times_there x (get_or xs k 0) xs n) ih

pub place_first : (σ : List ℕ) (j a : ℕ) → j < length σ → get_or σ j 0 ≡ a → place σ a ≤ j
place_first [] j a l e = absurd (omega arith)
place_first (x ∷ xs) zero a l e = rw (place_here x a xs e) (omega arith)
place_first (x ∷ xs) (suc j) a l e = go (ℕ_discrete x a) (place_first xs j a (omega arith) e)
  where
    go : Dec (x ≡ a) → place xs a ≤ j → place (x ∷ xs) a ≤ suc j
    go (yes d) ih = rw (place_here x a xs d) (omega arith)
    go (no n) ih = rw (place_there x a xs n) (omega arith)

pub place_of : (σ : List ℕ) (k : ℕ) → k < length σ → times σ (get_or σ k 0) ≤ 1 → place σ (get_or σ k 0) ≡ k
place_of [] k l u = absurd (omega arith)
place_of (x ∷ xs) zero l u = place_here x x xs refl
place_of (x ∷ xs) (suc k) l u = go (ℕ_discrete x (get_or xs k 0)) (place_of xs k (omega arith)) (times_at xs k (omega arith))
  where
    go : Dec (x ≡ get_or xs k 0) → (times xs (get_or xs k 0) ≤ 1 → place xs (get_or xs k 0) ≡ k) → 1 ≤ times xs (get_or xs k 0) → place (x ∷ xs) (get_or xs k 0) ≡ suc k
    go (yes e) ih p = let z : suc (times xs (get_or xs k 0)) ≤ 1 = rw (times_here x (get_or xs k 0) xs e) at u in absurd (omega arith)
    go (no n) ih p = place_there x (get_or xs k 0) xs n ∙ ap suc (ih (rw (times_there x (get_or xs k 0) xs n) at u))

module _ (h : History) (σ : List ℕ) (o : Order (count h) σ) where
  -- An event stands in every order.
  pub in_order : (a : ℕ) → Number h a → place σ a < length σ
  in_order a n = place_in σ a (omega (arith, o.each a n.low n.high))

  -- What stands in an order is an event, and it stands at one place.
  pub number_at : (k : ℕ) → k < count h → Number h (get_or σ k 0)
  number_at k l = let m = o.long in let r = o.only (get_or σ k 0) (times_at σ k (omega arith)) in record { low = r.0; high = r.1 }

  pub at_place : (k : ℕ) → k < count h → place σ (get_or σ k 0) ≡ k
  at_place k l = let m = o.long in let n = number_at k l in place_of σ k (omega arith) (omega (arith, o.each (get_or σ k 0) n.low n.high))

  pub apart : (a b : ℕ) → Number h a → Number h b → a ≢ b → place σ a ≢ place σ b
  apart a b m n ne e = ne (place_inj σ a b (in_order a m) (in_order b n) e)

  pub read_write : (r w : ℕ) → Read h r → Write h w → place σ r ≢ place σ w
  read_write r w d e = apart r w d.number e.number
      λ p. let z : ◌≡◌ {A = ℕ} 0 1 = sym d.kind ∙ ap (λ i. (at h i).kind) p ∙ e.kind in omega arith

-- Tests and what they say.
use Rattle.std.proofs.Common.{◌≡◌, Bool, true, false, not, ◌&&◌, ◌||◌, T, ◌⊎◌, sym, refl, subst, inl, inr}

pub test : (b : Bool) → T b ⊎ (T b → ⊥)
test true = inl tt
test false = inr (λ t. t)

pub is_true : {b : Bool} → b ≡ true → T b
is_true e = subst T (sym e) tt

pub true_is : (b : Bool) → T b → b ≡ true
true_is true t = refl
true_is false t = absurd t

pub or_elim : {C : Type 0} (x y : Bool) → (T x → C) → (T y → C) → T (x || y) → C
or_elim true y f g t = f tt
or_elim false y f g t = g t

pub or_l : (x y : Bool) → T x → T (x || y)
or_l true y t = tt
or_l false y t = absurd t

pub or_r : (x y : Bool) → T y → T (x || y)
or_r true y t = tt
or_r false y t = t

pub and_l : (x y : Bool) → T (x && y) → T x
and_l true y t = tt
and_l false y t = t

pub and_r : (x y : Bool) → T (x && y) → T y
and_r true y t = t
and_r false y t = absurd t

pub and_i : (x y : Bool) → T x → T y → T (x && y)
and_i true y t u = u
and_i false y t u = t

-- If x then y.
abbrev pub imp : Bool → Bool → Bool
imp x y = not x || y

pub imp_e : (x y : Bool) → T (imp x y) → T x → T y
imp_e true y t s = t
imp_e false y t s = absurd s

pub imp_i : (x y : Bool) → (T x → T y) → T (imp x y)
imp_i true y f = f tt
imp_i false y f = tt

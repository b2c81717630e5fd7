use Rattle.std.proofs.Common.{◌≡◌, ℕ, zero, suc, ◌+◌, ◌-◌, ◌<◌, ◌≤◌, Bool, true, false, cond, not, ◌&&◌, ◌||◌, eqb, ◌≢◌, List, [], ◌∷◌, length, get_or, set, replicate, sym, refl, ap, ◌∙◌, inl, inr, arith, length-set}
use mathlib.Core.Bool.{or-false, or_comm}
use Rattle.std.proofs.lemmas.List.{get_or-set_same, get_or-set_other, get_or_past}
use Rattle.std.proofs.lemmas.Bool.{cases_lt, cases_eq, cases_Bool, eq-eqb, ne_eqb, eqb-true, or_cases, and_parts}
use Rattle.sets.specs.Sets.{has}
use Rattle.sets.specs.declared.set.EventSet.{EventSet}
use Rattle.sets.specs.Rows.{in_rows, in_row, restored, taken_back, undone, PutIn, RowsKept}
use Rattle.sets.specs.declared.table.Table.{Table}

back_one : (R S : ℕ → ℕ → Bool) (x p y : ℕ) (b : Bool) → ((z y : ℕ) → z ≢ x → S z y ≡ R z y) → b ≡ R x y → cond (eqb p x) b (S p y) ≡ R p y
back_one R S x p y b other mine =
    elim (cases_eq p x) [
      | inl e ↦ rw (eq-eqb p x e, e) mine
      | inr ne ↦ rw (ne_eqb p x ne) (other p y ne)
    ]

module _ {W : ℕ} where
  pub in_get : (rows : List (EventSet W)) (x : ℕ) (r : EventSet W) → x < length rows → (y : ℕ) → in_rows rows x y ≡ has (get_or rows x r) y
  in_get [] x r l y = absurd (omega arith)
  in_get (q ∷ rows) zero r l y = refl
  in_get (q ∷ rows) (suc x) r l y = in_get rows x r (omega arith) y

  pub in_set_same : (rows : List (EventSet W)) (x : ℕ) (r : EventSet W) → x < length rows → (y : ℕ) → in_rows (set rows x r) x y ≡ has r y
  in_set_same [] x r l y = absurd (omega arith)
  in_set_same (q ∷ rows) zero r l y = refl
  in_set_same (q ∷ rows) (suc x) r l y = in_set_same rows x r (omega arith) y

  pub in_set_other : (rows : List (EventSet W)) (x : ℕ) (r : EventSet W) (z : ℕ) → z ≢ x → (y : ℕ) → in_rows (set rows x r) z y ≡ in_rows rows z y
  in_set_other [] x r z ne y = refl
  in_set_other (q ∷ rows) zero r zero ne y = absurd (ne refl)
  in_set_other (q ∷ rows) zero r (suc z) ne y = refl
  in_set_other (q ∷ rows) (suc x) r zero ne y = refl
  in_set_other (q ∷ rows) (suc x) r (suc z) ne y = in_set_other rows x r z (λ e. ne (ap suc e)) y

  pub in_fill : (n : ℕ) (r : EventSet W) → ((y : ℕ) → has r y ≡ false) → (x y : ℕ) → in_rows (replicate n r) x y ≡ false
  in_fill zero r h x y = refl
  in_fill (suc n) r h zero y = h y
  in_fill (suc n) r h (suc x) y = in_fill n r h x y

  -- an event is put into one set
  pub put_in : (rows : List (EventSet W)) (x y : ℕ) (d r : EventSet W) → x < length rows → ((k : ℕ) → has r k ≡ (eqb k y || has (get_or rows x d) k)) → PutIn rows (set rows x r) x y
  put_in rows x y d r l h z k =
      elim (cases_eq z x) [
        | inl e ↦ rw (e, eq-eqb x x refl) (in_set_same rows x r l k ∙ h k ∙ or_comm (eqb k y) (has (get_or rows x d) k) ∙ ap (λ b. b || (true && eqb k y)) (sym (in_get rows x d l k)))
        | inr ne ↦ rw (ne_eqb z x ne) (in_set_other rows x r z ne k ∙ sym (or-false (in_rows rows z k)))
      ]

  pub put_below : (rs ss : List (EventSet W)) (x y n : ℕ) → PutIn rs ss x y → y < n → ((w r : ℕ) → in_rows rs w r ≡ true → r < n) → (w r : ℕ) → in_rows ss w r ≡ true → r < n
  put_below rs ss x y n put l all w r h =
      elim (or_cases (in_rows rs w r) (eqb w x && eqb r y) (sym (put w r) ∙ h)) [
        | inl k ↦ all w r k
        | inr b ↦ rw (eqb-true r y (and_parts (eqb w x) (eqb r y) b).1) l
      ]

  -- the entry n of the trail does not matter below it
  stays : (at : List ℕ) (old : List (EventSet W)) (k m n a : ℕ) (r : EventSet W) (R : ℕ → ℕ → Bool) → k + m ≤ n
      → taken_back (set at n a) (set old n r) k m R ≡ taken_back at old k m R
  stays at old k zero n a r R l = refl
  stays at old k (suc m) n a r R l =
      let ne : k + m ≢ n = omega arith in
      let same : restored (set at n a) (set old n r) (k + m) R ≡ restored at old (k + m) R
      = λ i x y. cond (eqb x (get_or-set_other at n (k + m) a 0 ne i)) (in_set_other old n r (k + m) ne y i) (R x y) in
      stays at old k m n a r (restored (set at n a) (set old n r) (k + m) R) (omega arith) ∙ ap (λ (Q : ℕ → ℕ → Bool). taken_back at old k m Q) same

  -- one row is changed, and stands on the trail as it was
  pub pushed : (at : List ℕ) (old : List (EventSet W)) (n x : ℕ) (r : EventSet W) (R S : ℕ → ℕ → Bool) → n < length at → n < length old
      → ((y : ℕ) → has r y ≡ R x y) → ((z y : ℕ) → z ≢ x → S z y ≡ R z y)
      → (k : ℕ) → k ≤ n → taken_back (set at n x) (set old n r) k (n + 1 - k) S ≡ taken_back at old k (n - k) R
  pushed at old n x r R S la lo mine other k lk =
      let s : n + 1 - k ≡ suc (n - k) = omega arith in
      let q : k + (n - k) ≡ n = omega arith in
      let there : restored (set at n x) (set old n r) n S ≡ R
      = λ i p y. (ap (λ a. cond (eqb p a) (in_rows (set old n r) n y) (S p y)) (get_or-set_same at n x 0 la)
      ∙ back_one R S x p y (in_rows (set old n r) n y) other (in_set_same old n r lo y ∙ mine y)) i in
      ap (λ m. taken_back (set at n x) (set old n r) k m S) s
      ∙ ap (λ m. taken_back (set at n x) (set old n r) k (n - k) (restored (set at n x) (set old n r) m S)) q
      ∙ ap (λ (Q : ℕ → ℕ → Bool). taken_back (set at n x) (set old n r) k (n - k) Q) there
      ∙ stays at old k (n - k) n x r R (omega arith)

  -- the last entry is taken back
  pub popped : (at : List ℕ) (old : List (EventSet W)) (n : ℕ) (R S : ℕ → ℕ → Bool) → ((x y : ℕ) → S x y ≡ restored at old n R x y)
      → (k : ℕ) → k ≤ n → taken_back at old k (n - k) S ≡ taken_back at old k (n + 1 - k) R
  popped at old n R S is k lk =
      let s : n + 1 - k ≡ suc (n - k) = omega arith in
      let q : k + (n - k) ≡ n = omega arith in
      let e : S ≡ restored at old n R = λ i x y. is x y i in
      ap (λ (Q : ℕ → ℕ → Bool). taken_back at old k (n - k) Q) e
      ∙ ap (λ m. taken_back at old k (n - k) (restored at old m R)) (sym q)
      ∙ ap (λ m. taken_back at old k m R) (sym s)

-- the source of one event is set
pub source_below : (fs : List ℕ) (r w n : ℕ) → w < n → ((x : ℕ) → x < n → get_or fs x 0 < n) → (x : ℕ) → x < n → get_or (set fs r w) x 0 < n
source_below fs r w n lw all x l =
    elim (cases_eq x r) [
      | inr ne ↦ rw (get_or-set_other fs r x w 0 ne) (all x l)
      | inl e ↦ elim (cases_lt r (length fs)) [
        | inl k ↦ rw (e, get_or-set_same fs r w 0 k) lw
        | inr k ↦ rw (e, get_or_past (set fs r w) r 0 (simp length-set k)) (omega arith)
      ]
    ]

-- the trail of a table leads back to the table itself, and through others
module _ {N W T : ℕ} where
  pub rows_same : (t : Table N W T) → RowsKept t t
  rows_same t = record { longer = omega arith; back = λ k l. refl }

  pub rows_then : (t s u : Table N W T) → RowsKept t s → RowsKept s u → RowsKept t u
  rows_then t s u a b = record {
    longer = omega (arith, a.longer, b.longer);
    back = λ k l. b.back k (omega (arith, a.longer)) ∙ a.back k l;
  }

  -- nothing is to be taken back
  pub undone_none : (t : Table N W T) → undone t t.len ≡ in_row t
  undone_none t = let z : t.len - t.len ≡ 0 = omega arith in ap (λ m. taken_back t.at t.saved t.len m (in_row t)) z

  -- two tables that one trail leads back to, at one length, have the same rows
  pub rows_again : (t u s : Table N W T) → RowsKept t s → RowsKept u s → u.len ≡ t.len → in_row u ≡ in_row t
  rows_again t u s a b e =
      sym (undone_none u) ∙ sym (b.back u.len (omega arith)) ∙ ap (undone s) e ∙ a.back t.len (omega arith) ∙ undone_none t

  -- of two tables that one trail leads back to, the one with the longer trail leads back to the other
  pub rows_under : (t u s : Table N W T) → RowsKept t s → RowsKept u s → t.len ≤ u.len → RowsKept t u
  rows_under t u s a b l = record {
    longer = l;
    back = λ k h. sym (b.back k (omega arith)) ∙ a.back k h;
  }

row_here : (o r m : Bool) → ((o || ((true && not r) && m)) || (true && m)) ≡ (o || ((true && not (not true && r)) && m))
row_here true r m = refl
row_here false true true = refl
row_here false true false = refl
row_here false false true = refl
row_here false false false = refl

-- one more row takes its part
pub row_by : (o w r q e m : Bool) → q ≡ (not e && r) → (e ≡ true → w ≡ true) → ((o || ((w && not r) && m)) || (e && m)) ≡ (o || ((w && not q) && m))
row_by o w r q e m hq hw =
    rw hq
    (elim (cases_Bool e) [
      | inl t ↦ rw (t, hw t) (row_here o r m)
      | inr f ↦ rw f (or-false (o || ((w && not r) && m)))
    ])

pub row_none : (o w m : Bool) → o ≡ (o || ((w && not w) && m))
row_none true w m = refl
row_none false true m = refl
row_none false false m = refl

pub row_all : (o w q m : Bool) → q ≡ false → (o || ((w && not q) && m)) ≡ (o || (w && m))
row_all o true q m h = rw h
row_all o false q m h = refl

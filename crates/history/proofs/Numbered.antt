-- The event with a number, by places of the list and through the layers. Assumes nothing.
use Rattle.std.proofs.Common.{◌≡◌, ℕ, zero, suc, ◌+◌, ◌-◌, ◌<◌, ◌≤◌, List, [], ◌∷◌, ◌++◌, map, length, get_or, take, drop, Some, None, Option, sym, refl, ap, ◌∙◌, add-one, arith, Bor, ⊎_elim}
use Rattle.std.specs.List.{slice_get}
use Rattle.std.proofs.lemmas.List.{drop_more, drop_all}
use Rattle.std.proofs.lemmas.Bool.{cases_lt}
use Rattle.std.proofs.lemmas.Option.{slice_get-get_or, slice_get-map, slice_get_past, slice_get_within, get_or_from_slice_get}
use Rattle.std.specs.Option.{option_map}
use Rattle.std.specs.Slice.{IsGetResult}
use Rattle.history.specs.declared.event.Event.{Event}
use Rattle.history.specs.Lists.{numbered}

nth_left : (xs ys : List Event) (k : ℕ) → k < length xs → slice_get (xs ++ ys) k ≡ slice_get xs k
nth_left [] ys k h = absurd (omega arith)
nth_left (x ∷ xs) ys zero h = refl
nth_left (x ∷ xs) ys (suc k) h = nth_left xs ys k (omega arith)

nth_right : (xs ys : List Event) (k : ℕ) → length xs ≤ k → slice_get (xs ++ ys) k ≡ slice_get ys (k - length xs)
nth_right [] ys k h = let e : k - 0 ≡ k = omega arith in rw e
nth_right (x ∷ xs) ys zero h = absurd (omega arith)
nth_right (x ∷ xs) ys (suc k) h = let e : suc k - suc (length xs) ≡ k - length xs = omega arith in rw e (nth_right xs ys k (omega arith))

pub numbered_nth : (es : List Event) (n : ℕ) → 0 < n → numbered es n ≡ slice_get es (n - 1)
numbered_nth es zero h = absurd (omega arith)
numbered_nth es (suc k) h = let e : suc k - 1 ≡ k = omega arith in rw e

pub numbered_in : (es : List Event) (n : ℕ) (d : Event) → 0 < n → n ≤ length es → numbered es n ≡ Some (get_or es (n - 1) d)
numbered_in es n d pos le = numbered_nth es n pos ∙ slice_get-get_or es (n - 1) d (omega arith)

pub numbered_past : (es : List Event) (n : ℕ) → length es < n → numbered es n ≡ None
numbered_past es n h = numbered_nth es n (omega arith) ∙ slice_get_past es (n - 1) (omega arith)

pub numbered_map : (f : Event → Event) (es : List Event) (n : ℕ) → numbered (map f es) n ≡ option_map f (numbered es n)
numbered_map f es zero = refl
numbered_map f es (suc k) = slice_get-map f es k

pub numbered_left : (xs ys : List Event) (n : ℕ) → n ≤ length xs → numbered (xs ++ ys) n ≡ numbered xs n
numbered_left xs ys zero h = refl
numbered_left xs ys (suc k) h = nth_left xs ys k (omega arith)

pub numbered_right : (xs ys : List Event) (n : ℕ) → length xs < n → numbered (xs ++ ys) n ≡ numbered ys (n - length xs)
numbered_right xs ys n h =
    numbered_nth (xs ++ ys) n (omega arith) ∙ nth_right xs ys (n - 1) (omega arith)
    ∙ (let e : n - 1 - length xs ≡ n - length xs - 1 = omega arith in rw e (sym (numbered_nth ys (n - length xs) (omega arith))))

-- a list that is cut past a number has the event that the whole list has
pub numbered_take : (m : ℕ) (es : List Event) (n : ℕ) → n ≤ m → numbered (take m es) n ≡ numbered es n
numbered_take m es zero h = refl
numbered_take m es (suc k) h = nth_take m es k (omega arith)
  where
    nth_take : (m : ℕ) (es : List Event) (k : ℕ) → k < m → slice_get (take m es) k ≡ slice_get es k
    nth_take zero es k h = absurd (omega arith)
    nth_take (suc m) [] k h = refl
    nth_take (suc m) (x ∷ xs) zero h = refl
    nth_take (suc m) (x ∷ xs) (suc k) h = nth_take m xs k (omega arith)

-- what has the number i + 1 stands at place i
pub numbered_at : (es : List Event) (i : ℕ) (e : Event) → numbered es (i + 1) ≡ Some e → (i < length es) × (e ≡ get_or es i e)
numbered_at es i e h =
    let at : slice_get es i ≡ Some e = rw add-one at h in
    (slice_get_within es i e at, sym (get_or_from_slice_get es i e e at))

-- up to the length there is one
pub numbered_there : (es : List Event) (n : ℕ) → 0 < n → n ≤ length es → numbered es n ≡ None → ⊥
numbered_there es n pos le none =
    let some = numbered_in es n (record { kind = 0; session = 0; star = 0; revision = 0 }) pos le in
    let z : ◌≡◌ {A = ℕ} 0 1 = cc in omega arith

-- what is left from a place on, by what the next number has
pub drop_some : (es : List Event) (i n : ℕ) (e : Event) → n ≡ i + 1 → numbered es n ≡ Some e → drop i es ≡ e ∷ drop n es
drop_some es i n e is at =
    let here = numbered_at es i e (ap (numbered es) (sym is) ∙ at) in
    drop_more es i e here.0 ∙ ap (λ x. x ∷ drop (i + 1) es) (sym here.1) ∙ ap (λ k. e ∷ drop k es) (sym is)

pub drop_none : (es : List Event) (i n : ℕ) → n ≡ i + 1 → numbered es n ≡ None → drop i es ≡ []
drop_none es i n is none = ⊎_elim
    (λ lt. absurd (numbered_there es n (omega arith) (omega arith) none))
    (λ le. drop_all i es le) (cases_lt i (length es))

-- what is still to come of the first m, where there is an event with the next number
pub left_some : (es : List Event) (m i n : ℕ) (e : Event) → i < m → n ≡ i + 1 → numbered es (i + 1) ≡ Some e
    → take (m - i) (drop i es) ≡ e ∷ take (m - n) (drop n es)
left_some es m i n e lt is at =
    let one : m - i ≡ suc (m - n) = omega (arith, is) in
    ap (take (m - i)) (drop_some es i n e is (ap (numbered es) is ∙ at)) ∙ ap (λ k. take k (e ∷ drop n es)) one

-- what stands first of what is left has the next number
pub numbered_next : (es : List Event) (i : ℕ) (e : Event) (rest : List Event) → drop i es ≡ e ∷ rest → (numbered es (i + 1) ≡ Some e) × (drop (i + 1) es ≡ rest)
numbered_next es i e rest h = rw add-one (at es i h)
  where
    at : (es : List Event) (i : ℕ) → drop i es ≡ e ∷ rest → (slice_get es i ≡ Some e) × (drop (suc i) es ≡ rest)
    at [] zero h = absurd (let z : ◌≡◌ {A = ℕ} 0 1 = cc in omega arith)
    at [] (suc i) h = absurd (let z : ◌≡◌ {A = ℕ} 0 1 = cc in omega arith)
    at (x ∷ xs) zero h = (cc, cc)
    at (x ∷ xs) (suc i) h = at xs i h

-- what `get` finds at a place is what stands there
pub item_nth : (es : List Event) (i : ℕ) (r : Option (Bor Event)) → IsGetResult es i i r → option_map (λ x. x.now) r ≡ slice_get es i
item_nth es i None h = sym (slice_get_past es i h.3)
item_nth es i (Some x) h = ap Some h.1 ∙ sym (slice_get-get_or es i x.now h.3.0)

-- The first event that fails a check, and whether some write carries an event, one event at a time.
use Rattle.std.proofs.Common.{◌≡◌, ℕ, zero, suc, ◌+◌, ◌-◌, ◌<◌, ◌≤◌, Bool, true, false, not, ◌&&◌, ◌||◌, eqb, List, length, get_or, take, Some, None, sym, refl, ap, ◌∙◌, subst, add-one, arith}
use native.Mathlib.Decide.{ℕ_discrete}
use mathlib.Core.Bool.{or_comm}
use Rattle.std.specs.List.{list_any}
use Rattle.std.proofs.lemmas.List.{take_all}
use Rattle.std.proofs.lemmas.List.Folds.{list_any_more}
use Rattle.history.specs.declared.event.Event.{Event}
use Rattle.order.specs.History.{event_at}
use Rattle.order.specs.Opening.{first_failing, some_up_to, is_read, is_write, writes_same, writes_first, reads_written}

-- Where all pass and the next does, none fails up to the next.
pub one_more_passes : (passes : ℕ → Bool) (i : ℕ) → first_failing passes i ≡ None → passes (i + 1) ≡ true → first_failing passes (i + 1) ≡ None
one_more_passes passes i before here = rw add-one (more (rw add-one at here))
  where
    more : passes (suc i) ≡ true → first_failing passes (suc i) ≡ None
    more h = rw (before, h)

-- Where all before it pass, an event that fails is the first of the whole list.
pub first_fails : (passes : ℕ → Bool) (n i : ℕ) → i < n → first_failing passes i ≡ None → passes (i + 1) ≡ false → first_failing passes n ≡ Some (i + 1)
first_fails passes zero i l before here = absurd (omega arith)
first_fails passes (suc n) i l before here = elim (ℕ_discrete i n) [
  | yes e ↦
      let b : first_failing passes n ≡ None = subst (λ k. first_failing passes k ≡ None) e before in
      let next : i + 1 ≡ suc n = omega arith in
      let h : passes (suc n) ≡ false = subst (λ k. passes k ≡ false) next here in
      rw (b, h) (ap Some (sym next))
  | no q ↦ rw (first_fails passes n i (omega arith) before here)
]

-- What stands past the end of a list.
abbrev blank : Event
blank = record { kind = 0; session = 0; star = 0; revision = 0 }

-- The event with the number i + 1 stands at place i.
pub event_next : (es : List Event) (i : ℕ) → event_at es (i + 1) ≡ get_or es i blank
event_next es i = let e : i + 1 - 1 ≡ i = omega arith in rw e

-- One of the first n events passes a test, by number or as a list.
some_any : (f : Event → Bool) (es : List Event) (n : ℕ) → n ≤ length es → some_up_to n (λ j. f (event_at es j)) ≡ list_any f (take n es)
some_any f es zero l = refl
some_any f es (suc n) l =
    ap (λ b. f (event_at es (suc n)) || b) (some_any f es n (omega arith))
    ∙ or_comm (f (event_at es (suc n))) (list_any f (take n es))
    ∙ (let e : n + 1 ≡ suc n = omega arith in
    subst (λ k. (list_any f (take n es) || f (event_at es k)) ≡ list_any f (take k es)) e
    (ap (λ x. list_any f (take n es) || f x) (event_next es n) ∙ sym (list_any_more f es n blank (omega arith))))

-- What the last two checks ask of an event, of the list that is cut before it and of the whole list.
module _ (es : List Event) (i : ℕ) (l : i < length es) where
  abbrev e : Event
  e = event_at es (i + 1)

  pub first_next : writes_first es (i + 1) ≡ not (is_write e && list_any (writes_same e) (take i es))
  first_next =
      let before : i + 1 - 1 ≡ i = omega arith in
      ap (λ n. not (is_write e && some_up_to n (λ j. writes_same e (event_at es j)))) before
      ∙ ap (λ b. not (is_write e && b)) (some_any (writes_same e) es i (omega arith))

  pub reads_next : reads_written es (i + 1) ≡ (not (is_read e && not (eqb e.revision 0)) || list_any (writes_same e) es)
  reads_next =
      ap (λ b. not (is_read e && not (eqb e.revision 0)) || b)
      (some_any (writes_same e) es (length es) (omega arith) ∙ ap (list_any (writes_same e)) (take_all (length es) es (omega arith)))

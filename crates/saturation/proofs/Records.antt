-- What a record of events and rows of kept pairs means.
use Rattle.std.proofs.Common.{◌≡◌, ℕ, zero, suc, ◌-◌, ◌<◌, ◌≤◌, Bool, true, false, ◌&&◌, T, eqb, ltb, leb, List, length, get_or, sym, refl, ap, ◌∙◌, arith}
use mathlib.Core.Logic.{∥∥₁_elim}
use denote.Struct.Props.{props}
use Rattle.std.proofs.lemmas.Bool.{true≢false, and_parts, lt-ltb, le-ltb, ltb-true, le-leb, leb-true}
use Rattle.history.specs.declared.event.Event.{Event}
use Rattle.order.specs.History.{count, event_at, at, kept_by, history_of, WellFormed}
use Rattle.order.specs.Opening.{Opening, accepted, fault, opening, Accepted}
use Rattle.order.proofs.Tests.{true_is}
use Rattle.order.proofs.Opens.{opening_accepts_lem}
use Rattle.sets.specs.Rows.{in_rows}
use Rattle.saturation.specs.Histories.{kept_in, history_from}
use Rattle.saturation.specs.Recorded.{history_in}
use Rattle.sets.specs.declared.set.EventSet.{EventSet}
use Rattle.saturation.specs.declared.record.Recorded.{Recorded}

-- the event that a number past the last has
abbrev pub zeros : Event
zeros = record { kind = 0; session = 0; star = 0; revision = 0 }

-- the event x has the number x + 1
pub event_at_lem : (es : List Event) (x : ℕ) → event_at es (suc x) ≡ get_or es x zeros
event_at_lem es x = let e : suc x - 1 ≡ x = omega arith in ap (λ k. get_or es k zeros) e

module _ (es : List Event) (keeps : ℕ → ℕ → ℕ → ℕ → Bool) where
  abbrev K : ℕ → ℕ → Bool
  K x y = kept_by keeps es (suc x) (suc y)

  -- whether the rule keeps a pair of events
  pub pair_kept : (x y : ℕ) → x < y → y < length es
      → K x y ≡ (eqb (get_or es x zeros).session (get_or es y zeros).session && keeps (get_or es x zeros).kind (get_or es x zeros).star (get_or es y zeros).kind (get_or es y zeros).star)
  pair_kept x y l m =
      let a : leb 1 (suc x) ≡ true = le-leb 1 (suc x) (omega arith) in
      let b : ltb (suc x) (suc y) ≡ true = lt-ltb (suc x) (suc y) (omega arith) in
      let c : leb (suc y) (length es) ≡ true = le-leb (suc y) (length es) (omega arith) in
      rw (a, b, c, event_at_lem es x, event_at_lem es y)

  pub kept_bounds : (x y : ℕ) → K x y ≡ true → (x < y) × (y < length es)
  kept_bounds x y k =
      let p = and_parts (leb 1 (suc x)) _ k in
      let q = and_parts (ltb (suc x) (suc y)) _ p.1 in
      let r = and_parts (leb (suc y) (length es)) _ q.1 in
      let b : suc x < suc y = ltb-true (suc x) (suc y) q.0 in
      let c : suc y ≤ length es = leb-true (suc y) (length es) r.0 in
      (omega arith, omega arith)

  -- rows that are as the rule says mean the history of the rule
  module _ {W : ℕ} (rows : List (EventSet W)) (so : (x y : ℕ) → in_rows rows x y ≡ K x y) where
    twice : (a b c m : Bool) → (a && (b && (c && (a && (b && (c && m)))))) ≡ (a && (b && (c && m)))
    twice true true true m = refl
    twice true true false m = refl
    twice true false c m = refl
    twice false b c m = refl

    kept_is : (a b : ℕ) → kept_in (length es) rows a b ≡ kept_by keeps es a b
    kept_is zero b = refl
    kept_is (suc x) zero =
        let a : leb 1 (suc x) ≡ true = le-leb 1 (suc x) (omega arith) in
        let b : ltb (suc x) 0 ≡ false = le-ltb (suc x) 0 (omega arith) in
        rw (a, b)
    kept_is (suc x) (suc y) =
        let ex : suc x - 1 ≡ x = omega arith in
        let ey : suc y - 1 ≡ y = omega arith in
        ap (λ k. leb 1 (suc x) && (ltb (suc x) (suc y) && (leb (suc y) (length es) && in_rows rows k (suc y - 1)))) ex
        ∙ ap (λ k. leb 1 (suc x) && (ltb (suc x) (suc y) && (leb (suc y) (length es) && in_rows rows x k))) ey
        ∙ ap (λ b. leb 1 (suc x) && (ltb (suc x) (suc y) && (leb (suc y) (length es) && b))) (so x y)
        ∙ twice (leb 1 (suc x)) (ltb (suc x) (suc y)) (leb (suc y) (length es)) _

    pub history_is : history_from es rows ≡ history_of es keeps
    history_is i = record { events = es; kept = λ a b. kept_is a b i }

-- The kept pairs of a record are pairs of its events, the lower first.
module _ {N W : ℕ} (r : Recorded N W) where
  pub record_count : count (history_in r) ≡ length r.events.items
  record_count = refl

  pub record_well : WellFormed (history_in r)
  record_well =
      let parts : (a b : ℕ) → T ((history_in r).kept a b) → (1 ≤ a) × (a < b) × (b ≤ count (history_in r))
      = λ a b k.
      let p = and_parts (leb 1 a) _ (true_is _ k) in
      let q = and_parts (ltb a b) _ p.1 in
      let s = and_parts (leb b (count (history_in r))) _ q.1 in
      (leb-true 1 a p.0, ltb-true a b q.0, leb-true b (count (history_in r)) s.0) in
      record {
        first = λ a b k. let p = parts a b k in record { low = p.0; high = omega (arith, p.1, p.2) };
        second = λ a b k. let p = parts a b k in record { low = omega (arith, p.0, p.1); high = omega (arith, p.2) };
        lower = λ a b k. (parts a b k).1;
      }

  pub record_at : (x : ℕ) → x < count (history_in r) → at (history_in r) (suc x) ≡ get_or r.events.items x zeros
  record_at x _ = event_at_lem r.events.items x

-- Opening accepts the events of every record.
abbrev opens : Opening → Bool
opens accepted = true
opens (fault number place) = false

opens_e : (o : Opening) → opens o ≡ true → o ≡ accepted
opens_e accepted k = refl
opens_e (fault number place) k = absurd (true≢false (sym k))

pub record_accepted : {N W : ℕ} (r : Recorded N W) → Accepted (history_in r)
record_accepted r =
    let prop : IsProp (opens (opening (history_in r).events) ≡ true) = hlevel props in
    (opening_accepts_lem (history_in r)).0 (opens_e (opening (history_in r).events) (∥∥₁_elim r.accepted prop (λ a. ap opens ((opening_accepts_lem (history_in r)).1 a))))

-- What judge finds exists and is the only thing.
use Rattle.std.proofs.Common.{◌≡◌, ℕ, ◌<◌, ◌≤◌, List, sym, refl, ◌∙◌, inl, inr, arith}
use native.Mathlib.Decide.{dec_lt}
use Rattle.order.specs.History.{History, WellFormed, PairsOfEvents}
use Rattle.order.specs.Orders.{Serializable}
use Rattle.order.specs.Search.{Search, Outcome, fails, succeeds}
use Rattle.order.specs.Opening.{Accepted}
use Rattle.order.specs.Calls.{Verdict, serial, none, spent, Judges}
use Rattle.order.specs.Theorems.{JudgeIsDecided}
use Rattle.order.proofs.One.{one}
use Rattle.order.proofs.Ends.{ends, enough}
use Rattle.order.proofs.Fail.{failure_leaves_none}
use Rattle.order.proofs.Success.{success_has_one}

serial≢none : serial ≡ none → ⊥
serial≢none e = let z : ◌≡◌ {A = ℕ} 0 1 = cc in omega arith

serial≢spent : serial ≡ spent → ⊥
serial≢spent e = let z : ◌≡◌ {A = ℕ} 0 1 = cc in omega arith

none≢spent : none ≡ spent → ⊥
none≢spent e = let z : ◌≡◌ {A = ℕ} 0 1 = cc in omega arith

-- What judge finds, from the search.
pub judges_spent : {h : History} {S : List (ℕ × ℕ)} {t : ℕ} {o : Outcome} (budget : ℕ) → Search h S t o → budget < t → Judges h S budget spent budget
judges_spent {h} {S} {t} {o} budget s l = record {
  nodes = t;
  outcome = o;
  search = s;
  serial_when = (λ e. absurd (serial≢spent (sym e)), λ x. let y = x.0 in absurd (omega arith));
  none_when = (λ e. absurd (none≢spent (sym e)), λ x. let y = x.0 in absurd (omega arith));
  spent_when = (λ e. l, λ x. refl);
  within = λ x. absurd (omega arith);
  beyond = λ x. refl;
  decided = λ p c x. let y = enough c s in absurd (omega arith);
}

pub judges_none : {h : History} {S : List (ℕ × ℕ)} {t : ℕ} (budget : ℕ) → Accepted h → Search h S t fails → t ≤ budget → Judges h S budget none t
judges_none {h} {S} {t} budget acc s l = record {
  nodes = t;
  outcome = fails;
  search = s;
  serial_when = (λ e. absurd (serial≢none (sym e)), λ x. absurd (failure_leaves_none acc s x.1));
  none_when = (λ e. (l, failure_leaves_none acc s), λ x. refl);
  spent_when = (λ e. absurd (none≢spent e), λ x. absurd (omega arith));
  within = λ x. refl;
  beyond = λ x. absurd (omega arith);
  decided = λ p c x. inr refl;
}

pub judges_serial : {h : History} {S Q : List (ℕ × ℕ)} {t : ℕ} (budget : ℕ) → WellFormed h → Accepted h → PairsOfEvents h S → Search h S t (succeeds Q) → t ≤ budget → Judges h S budget serial t
judges_serial {h} {S} {Q} {t} budget well acc inside s l =
    let f = success_has_one h S Q t well acc inside s in
    record {
      nodes = t;
      outcome = succeeds Q;
      search = s;
      serial_when = (λ e. (l, f), λ x. refl);
      none_when = (λ e. absurd (serial≢none e), λ x. absurd (x.1 f));
      spent_when = (λ e. absurd (serial≢spent e), λ x. absurd (omega arith));
      within = λ x. refl;
      beyond = λ x. absurd (omega arith);
      decided = λ p c x. inl refl;
    }

pub judges_once : {h : History} {S : List (ℕ × ℕ)} {budget : ℕ} (v w : Verdict) (s u : ℕ) → Judges h S budget v s → Judges h S budget w u → (w ≡ v) × (u ≡ s)
judges_once {h} {S} {budget} v w s u j k =
    let e = (one k.search j.search).0 in (
      go v e j.serial_when.0 j.none_when.0 j.spent_when.0,
      elim (dec_lt budget j.nodes) [
        | yes l ↦ k.beyond (omega arith) ∙ sym (j.beyond l)
        | no l ↦ k.within (omega arith) ∙ e ∙ sym (j.within (omega arith))
      ],
    )
  where
    go : (v : Verdict) → k.nodes ≡ j.nodes → (v ≡ serial → (j.nodes ≤ budget) × Serializable h S) → (v ≡ none → (j.nodes ≤ budget) × ¬ Serializable h S) →
        (v ≡ spent → budget < j.nodes) → w ≡ v
    go serial e a b c = let x = a refl in let y = x.0 in k.serial_when.1 (omega arith, x.1)
    go none e a b c = let x = b refl in let y = x.0 in k.none_when.1 (omega arith, x.1)
    go spent e a b c = let x = c refl in k.spent_when.1 (omega arith)

judges_from : (h : History) (S : List (ℕ × ℕ)) (budget t : ℕ) (o : Outcome) → WellFormed h → Accepted h → PairsOfEvents h S → Search h S t o →
    (v : Verdict) × (steps : ℕ) × Judges h S budget v steps
judges_from h S budget t o well acc inside s = elim (dec_lt budget t) [ yes l ↦ (spent, budget, judges_spent budget s l) | no l ↦ go o s (omega arith) ]
  where
    go : (o : Outcome) → Search h S t o → t ≤ budget → (v : Verdict) × (steps : ℕ) × Judges h S budget v steps
    go fails s l = (none, t, judges_none budget acc s l)
    go (succeeds Q) s l = (serial, t, judges_serial budget well acc inside s l)

pub judge_is_decided_lem : JudgeIsDecided
judge_is_decided_lem h S budget well acc inside =
    let e = ends h S well inside in
    let r = judges_from h S budget e.0 e.1 well acc inside e.2 in
    (r.0, r.1, r.2, λ w u k. judges_once r.0 w r.1 u r.2 k)

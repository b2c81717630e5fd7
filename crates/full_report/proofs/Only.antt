-- There is one report on bytes.
use Rattle.std.proofs.Common.{◌≡◌, ℕ, true, List, [], is_ok, Ok, Err, codes, sym, ap, ◌∙◌, ap₂, arith}
use mathlib.Core.List.Memᴰ
use Rattle.history.specs.Rules.{strict}
use Rattle.packed.specs.declared.header.Header.{Header}
use Rattle.packed.specs.declared.fault.FileFault.{FileFault}
use Rattle.packed.specs.Reading.{checked, events_meant}
use Rattle.order.specs.History.{History, WellFormed, PairsOfEvents}
use Rattle.order.specs.Opening.{Accepted}
use Rattle.order.specs.Calls.{Verdict, Shows}
use Rattle.order.specs.Calls as order
use Rattle.order.proofs.Certificate.{well_formed}
use Rattle.order.proofs.Opens.{opening_accepts_lem}
use Rattle.order.proofs.Judge.{judge_is_decided_lem}
use Rattle.order.proofs.Success.{placing_is_best_lem}
use Rattle.opening.specs.Faults.{fault_number, fault_place}
use Rattle.full_report.specs.declared.fault.Fault.{Fault}
use Rattle.full_report.specs.declared.fault.Fault.TheVariants.{File, History as Refused}
use Rattle.text.specs.Lines.{pair_line}
use Rattle.full_report.specs.Text.{judged_text, serial_text}
use Rattle.full_report.specs.Reports.{fault_line, FaultIn, JudgedAs, history_in, lower, ReportOf, OneReport}

-- Bytes are refused or not.
not_both : (bs : List ℕ) {h : Header} {f : FileFault} → checked bs ≡ Ok h → checked bs ≡ Err f → ⊥
not_both bs a b = let z : ◌≡◌ {A = ℕ} 0 1 = cc in omega arith

refused_not : (bs : List ℕ) {f : FileFault} → is_ok (checked bs) ≡ true → checked bs ≡ Err f → ⊥
refused_not bs a b = let c = sym a ∙ ap is_ok b in let z : ◌≡◌ {A = ℕ} 0 1 = cc in omega arith

-- One fault has one line.
one_fault : (bs : List ℕ) (f g : Fault) → FaultIn bs f → FaultIn bs g → fault_line f ≡ fault_line g
one_fault bs (File f) (File g) a b = let e : f ≡ g = cc in ap (λ f. fault_line (File f)) e
one_fault bs (File f) (Refused g) a b = absurd (refused_not bs b.0 a)
one_fault bs (Refused f) (File g) a b = absurd (refused_not bs a.0 b)
one_fault bs (Refused f) (Refused g) a b =
    let both = sym a.1 ∙ b.1 in
    let number : fault_number f ≡ fault_number g = cc in
    let place : fault_place f ≡ fault_place g = cc in
    ap₂ (λ m n. pair_line (codes "fault history ") m (codes " place ") n) number place

-- What is judged has no fault.
no_fault : (bs : List ℕ) {h : Header} {v : Verdict} {steps : ℕ} (f : Fault) → FaultIn bs f → JudgedAs bs h v steps → ⊥
no_fault bs (File f) a j = not_both bs j.header a
no_fault bs (Refused f) a j = let both = sym a.1 ∙ j.opens in let z : ◌≡◌ {A = ℕ} 0 1 = cc in omega arith

no_pairs : (h : History) → PairsOfEvents h []
no_pairs h a b m = absurd (Memᴰ.not-nil m)

well : (bs : List ℕ) → WellFormed (history_in bs)
well bs = well_formed (events_meant bs) strict

fine : (bs : List ℕ) {h : Header} {v : Verdict} {steps : ℕ} → JudgedAs bs h v steps → Accepted (history_in bs)
fine bs j = (opening_accepts_lem (history_in bs)).0 j.opens

-- One header, verdict and number of steps is judged.
module _ (bs : List ℕ) {h k : Header} {v w : Verdict} {s t : ℕ} (a : JudgedAs bs h v s) (b : JudgedAs bs k w t) where
  same_header : h ≡ k
  same_header = let both = sym a.header ∙ b.header in cc

  same_verdict : v ≡ w
  same_verdict = let d = judge_is_decided_lem (history_in bs) [] 1000000 (well bs) (fine bs a) (no_pairs (history_in bs)) in
      (d.3 v s a.judges).0 ∙ sym (d.3 w t b.judges).0

  same_steps : s ≡ t
  same_steps = let d = judge_is_decided_lem (history_in bs) [] 1000000 (well bs) (fine bs a) (no_pairs (history_in bs)) in
      (d.3 v s a.judges).1 ∙ sym (d.3 w t b.judges).1

  same_text : (word : List ℕ) → judged_text h word s ≡ judged_text k word t
  same_text word = ap₂ (λ h n. judged_text h word n) same_header same_steps

  same_serial : {σ τ : List ℕ} → σ ≡ τ → serial_text h s σ ≡ serial_text k t τ
  same_serial e = let x = same_header in let y = same_steps in cc

-- One order is shown.
one_order : (bs : List ℕ) {h : Header} {v : Verdict} {s : ℕ} (σ τ : List ℕ) → JudgedAs bs h v s → Shows (history_in bs) [] lower σ → Shows (history_in bs) [] lower τ → σ ≡ τ
one_order bs σ τ j a b =
    let d = placing_is_best_lem (history_in bs) [] a.node a.nodes lower (well bs) (fine bs j) (no_pairs (history_in bs)) a.search in
    d.4 σ a ∙ sym (d.4 τ b)

-- No two verdicts are one.
serial_none : order.serial ≡ order.none → ⊥
serial_none e = let z : ◌≡◌ {A = ℕ} 0 1 = cc in omega arith

serial_spent : order.serial ≡ order.spent → ⊥
serial_spent e = let z : ◌≡◌ {A = ℕ} 0 1 = cc in omega arith

none_spent : order.none ≡ order.spent → ⊥
none_spent e = let z : ◌≡◌ {A = ℕ} 0 1 = cc in omega arith

pub one_report : OneReport
one_report bs text other a b = go a b
  where
    go : {x y : List ℕ} → ReportOf bs x → ReportOf bs y → x ≡ y
    go (ReportOf.faulty f a) (ReportOf.faulty g b) = one_fault bs f g a b
    go (ReportOf.faulty f a) (ReportOf.none b) = absurd (no_fault bs f a b)
    go (ReportOf.faulty f a) (ReportOf.spent b) = absurd (no_fault bs f a b)
    go (ReportOf.faulty f a) (ReportOf.serial b s) = absurd (no_fault bs f a b)
    go (ReportOf.none a) (ReportOf.faulty g b) = absurd (no_fault bs g b a)
    go (ReportOf.none a) (ReportOf.none b) = same_text bs a b (codes "none")
    go (ReportOf.none a) (ReportOf.spent b) = absurd (none_spent (same_verdict bs a b))
    go (ReportOf.none a) (ReportOf.serial b s) = absurd (serial_none (same_verdict bs b a))
    go (ReportOf.spent a) (ReportOf.faulty g b) = absurd (no_fault bs g b a)
    go (ReportOf.spent a) (ReportOf.none b) = absurd (none_spent (same_verdict bs b a))
    go (ReportOf.spent a) (ReportOf.spent b) = same_text bs a b (codes "spent")
    go (ReportOf.spent a) (ReportOf.serial b s) = absurd (serial_spent (same_verdict bs b a))
    go (ReportOf.serial a r) (ReportOf.faulty g b) = absurd (no_fault bs g b a)
    go (ReportOf.serial a r) (ReportOf.none b) = absurd (serial_none (same_verdict bs a b))
    go (ReportOf.serial a r) (ReportOf.spent b) = absurd (serial_spent (same_verdict bs a b))
    go (ReportOf.serial {σ = σ} a r) (ReportOf.serial {σ = τ} b s) = same_serial bs a b (one_order bs σ τ a r s)

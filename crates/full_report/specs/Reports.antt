-- The text of a report, and what report answers.
use Rattle.std.specs.Prelude.{◌≡◌, ℕ, ◌<◌, ◌≤◌, true, List, [], ◌++◌, length, drop, is_ok, Ok, Err, codes, Result}
use Rattle.history.specs.Rules.{strict}
use Rattle.history.specs.Preferences.{by_number}
use Rattle.history.specs.Lawful.{by_number_lawful}
use Rattle.packed.specs.declared.header.Header.{Header}
use Rattle.packed.specs.Faults as packed
use Rattle.packed.specs.Reading.{checked, events_meant}
use Rattle.order.specs.History.{History, history_of}
use Rattle.order.specs.Opening.{opening, accepted, fault}
use Rattle.order.specs.Calls.{Preference, Verdict, Judges, Shows}
use Rattle.order.specs.Calls as order
use Rattle.opening.specs.Faults as opened
use Rattle.full_report.specs.declared.fault.Fault.{Fault}
use Rattle.full_report.specs.declared.fault.Fault.TheVariants.{File, History as Refused}
use Rattle.text.specs.Lines.{pair_line}
use Rattle.report.specs.declared.printing.ReportRefusal.{ReportRefusal}
use Rattle.full_report.specs.Text.{judged_text, serial_text}

-- The line that tells of a fault: its layer, its number and its place.
abbrev pub fault_line : Fault → List ℕ
fault_line (File f) = pair_line (codes "fault file ") (packed.fault_number f) (codes " place ") (packed.fault_place f)
fault_line (Refused f) = pair_line (codes "fault history ") (opened.fault_number f) (codes " place ") (opened.fault_place f)

-- What is wrong with bytes: they are refused, or they are not and opening refuses the events that they mean.
abbrev pub FaultIn : List ℕ → Fault → Type 0
FaultIn bs (File f) = checked bs ≡ Err f
FaultIn bs (Refused f) = (is_ok (checked bs) ≡ true) × (opening (events_meant bs) ≡ fault (opened.fault_number f) (opened.fault_place f))

-- The history that bytes mean: their events, with every pair of a session kept.
abbrev pub history_in : List ℕ → History
history_in bs = history_of (events_meant bs) strict

-- Without stipulations and with a budget of 1,000,000, judge finds the verdict v and the steps, of bytes that have no fault and the header h.
pub record JudgedAs (bs : List ℕ) (h : Header) (v : Verdict) (steps : ℕ) : Type 0 where
  pub header : checked bs ≡ Ok h
  pub opens : opening (events_meant bs) ≡ accepted
  pub judges : Judges (history_in bs) [] 1000000 v steps

-- The lower number is preferred.
abbrev pub lower : Preference
lower = record { prefers = by_number; lawful = by_number_lawful }

-- ReportOf bs text: the text is the report on the bytes.
pub data ReportOf (bs : List ℕ) : List ℕ → Type 0 where
  -- a fault has one line
  faulty : (f : Fault) → FaultIn bs f → ReportOf bs (fault_line f)
  -- a verdict without an order has two
  none : {h : Header} {steps : ℕ} → JudgedAs bs h order.none steps → ReportOf bs (judged_text h (codes "none") steps)
  spent : {h : Header} {steps : ℕ} → JudgedAs bs h order.spent steps → ReportOf bs (judged_text h (codes "spent") steps)
  -- and the verdict serial has three: the third is the order that show shows
  serial : {h : Header} {steps : ℕ} {σ : List ℕ} → JudgedAs bs h order.serial steps → Shows (history_in bs) [] lower σ →
      ReportOf bs (serial_text h steps σ)

-- There is no other report on the same bytes.
abbrev pub OneReport : Type 0
OneReport = (bs text other : List ℕ) → ReportOf bs text → ReportOf bs other → text ≡ other

-- The answer, and the buffer from before to after: the report at its front, the bytes used, and the rest as it was; or a
-- refusal of fewer than 1,024 bytes, and all as it was.
abbrev pub Reports : List ℕ → List ℕ → List ℕ → Result ℕ ReportRefusal → Type 0
Reports bs before after (Ok used) = (1024 ≤ length before) × (text : List ℕ) × ReportOf bs text × (used ≡ length text) × (after ≡ text ++ drop used before)
Reports bs before after (Err e) = (length before < 1024) × (after ≡ before)

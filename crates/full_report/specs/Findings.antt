-- What is found of packed bytes, and the text that says it.
use Rattle.std.specs.Prelude.{◌≡◌, ℕ, List, [], take, Ok, Err, codes, Result}
use Rattle.packed.specs.declared.header.Header.{Header}
use Rattle.order.specs.Calls.{Shows}
use Rattle.referee.specs.Verdicts.{verdict_of}
use Rattle.referee.specs.declared.state.Verdict.{Verdict}
use Rattle.referee.specs.declared.state.Verdict.TheVariants.{Serial, None, Spent}
use Rattle.full_report.specs.declared.fault.Fault.{Fault}
use Rattle.full_report.specs.declared.findings.Findings.{Findings}
use Rattle.full_report.specs.Text.{judged_text, serial_text}
use Rattle.full_report.specs.Reports.{FaultIn, JudgedAs, history_in, lower}

-- The order that was shown, as long as the count of events.
abbrev pub order_in : Findings → List ℕ
order_in f = take f.header.count f.order

-- Findings are true of bytes: the judgement is what judge finds, and if it is serial, the order is what show shows.
pub record TrueOf (bs : List ℕ) (f : Findings) : Type 0 where
  pub judged : JudgedAs bs f.header (verdict_of f.judgement.verdict) f.judgement.steps
  pub shown : f.judgement.verdict ≡ Serial → Shows (history_in bs) [] lower (order_in f)

-- Findings that are true of the bytes, or what is wrong with these.
abbrev pub FoundIn : List ℕ → Result Findings Fault → Type 0
FoundIn bs (Ok f) = TrueOf bs f
FoundIn bs (Err f) = FaultIn bs f

-- The report's text by the verdict.
abbrev pub text_by : Header → ℕ → List ℕ → Verdict → List ℕ
text_by h steps σ Serial = serial_text h steps σ
text_by h steps σ None = judged_text h (codes "none") steps
text_by h steps σ Spent = judged_text h (codes "spent") steps

-- The text of findings.
abbrev pub found_text : Findings → List ℕ
found_text f = text_by f.header f.judgement.steps (order_in f) f.judgement.verdict

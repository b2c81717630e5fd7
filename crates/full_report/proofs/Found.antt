-- What true findings come to: the report's text, and how long it is.
use Rattle.std.proofs.Common.{◌≡◌, ℕ, ◌^◌, ◌<◌, ◌≤◌, List, [], length, Ok, codes, refl, subst, arith}
use Rattle.packed.specs.declared.header.Header.{Header}
use Rattle.packed.specs.Reading.{checked}
use Rattle.packed.proofs.Meant.{accepted_count}
use Rattle.packed.proofs.Sound.{sound}
use Rattle.order.specs.Orders.{Order}
use Rattle.order.specs.Calls.{Shows}
use Rattle.referee.specs.Verdicts.{verdict_of}
use Rattle.referee.specs.declared.state.Verdict.{Verdict}
use Rattle.referee.specs.declared.state.Verdict.TheVariants.{Serial, None, Spent}
use Rattle.full_report.specs.declared.findings.Findings.{Findings}
use Rattle.full_report.specs.Reports.{JudgedAs, ReportOf, history_in, lower}
use Rattle.full_report.specs.Findings.{TrueOf, text_by, order_in, found_text}
use Rattle.full_report.proofs.Sizes.{judged_text_short, serial_text_fits}

-- Bytes that are not refused have a count of at most 256.
pub few : (bs : List ℕ) (h : Header) → checked bs ≡ Ok h → h.count ≤ 256
few bs h is = let s = sound bs h is in subst (λ k. k.count ≤ 256) s.1 s.0.few

-- The text of true findings is the report.
pub found_report : (bs : List ℕ) (f : Findings) → TrueOf bs f → ReportOf bs (found_text f)
found_report bs f t = by f.judgement.verdict t.judged t.shown
  where
    by : (v : Verdict) → JudgedAs bs f.header (verdict_of v) f.judgement.steps → (v ≡ Serial → Shows (history_in bs) [] lower (order_in f)) →
        ReportOf bs (text_by f.header f.judgement.steps (order_in f) v)
    by Serial j s = ReportOf.serial j (s refl)
    by None j s = ReportOf.none j
    by Spent j s = ReportOf.spent j

-- It fits 1,024 bytes.
pub found_fits : (bs : List ℕ) (f : Findings) → f.header.season < 2 ^ 16 → f.judgement.steps < 2 ^ 32 → TrueOf bs f → length (found_text f) ≤ 1024
found_fits bs f hs ht t = by f.header f.judgement.steps hs ht f.judgement.verdict t.judged.header t.shown
  where
    by : (h : Header) (steps : ℕ) → h.season < 2 ^ 16 → steps < 2 ^ 32 → (v : Verdict) → checked bs ≡ Ok h → (v ≡ Serial → Shows (history_in bs) [] lower (order_in f)) →
        length (text_by h steps (order_in f) v) ≤ 1024
    by h steps hs ht Serial is s =
        serial_text_fits h steps (order_in f) hs ht (few bs h is) (subst (λ n. Order n (order_in f)) (accepted_count bs h is) (s refl).fits.order)
    by h steps hs ht None is s = omega (arith, judged_text_short h (codes "none") steps hs (omega (arith, few bs h is)) ht (omega arith))
    by h steps hs ht Spent is s = omega (arith, judged_text_short h (codes "spent") steps hs (omega (arith, few bs h is)) ht (omega arith))

-- What a run of judge and show on the packed source finds.
use Rattle.std.proofs.Common.{◌≡◌, ℕ, ◌≤◌, List, [], ◌∷◌, length, get_or, take, Some, Ok, Option, Result, subst, arith}
use Rattle.history.specs.Rules.{strict}
use Rattle.packed.specs.declared.header.Header.{Header}
use Rattle.packed.specs.Reading.{checked, events_meant}
use Rattle.packed.proofs.Meant.{accepted_count}
use Rattle.order.specs.Calls.{Shows}
use Rattle.referee.specs.Runs.{Ran}
use Rattle.referee.specs.declared.case.Case.{Case}
use Rattle.referee.specs.declared.refusal.Refusal.{Refusal}
use Rattle.referee.specs.declared.state.Judgement.{Judgement}
use Rattle.referee.specs.declared.entry.Call.TheVariants.{Judge, Show}
use Rattle.referee.specs.declared.entry.Answer.{Answer}
use Rattle.referee.specs.declared.entry.Answer.TheVariants.{Judged}
use Rattle.referee.specs.declared.entry.Entry.{Entry}
use Rattle.referee.proofs.Pair.{judge_then_show}
use Rattle.full_report.specs.Reports.{history_in, lower}
use Rattle.full_report.specs.Findings.{TrueOf}
use Rattle.full_report.proofs.Found.{few}

module _ {P : Type 0} (bs : List ℕ) (h : Header) (is : checked bs ≡ Ok h) {p : P} {b₀ b₁ : List ℕ} {a₀ a₁ : Option (Result Answer Refusal)} {after : Case} {es : List (Entry P (List ℕ))}
    (ran : Ran (λ _. lower) (λ b. b) (events_meant bs) strict
    (record { call = Judge 1000000; buffer = b₀; answer = a₀ } ∷ record { call = Show p; buffer = b₁; answer = a₁ } ∷ []) after es)
    (room : 256 ≤ length b₁) (d : Entry P (List ℕ)) where
  -- The first answer is a judgement, and with the buffer of the second call it makes findings that are true of the bytes.
  pub run_finds : (j : Judgement) × ((get_or es 0 d).answer ≡ Some (Ok (Judged j))) × TrueOf bs (record { header = h; judgement = j; order = (get_or es 1 d).buffer })
  run_finds =
      let many = accepted_count bs h is in
      let r = judge_then_show (λ _. lower) (λ b. b) (history_in bs) 1000000 p b₀ b₁ a₀ a₁ es d (omega arith) (omega (arith, few bs h is)) ran.long ran.law in (
        r.0,
        r.1,
        record {
          judged = record { header = is; opens = ran.opens; judges = r.2 };
          shown = λ e. subst (λ n. Shows (history_in bs) [] lower (take n (get_or es 1 d).buffer)) many (r.3 e);
        },
      )

  -- So if it is a judgement, it is that one.
  pub finds : (j : Judgement) → (get_or es 0 d).answer ≡ Some (Ok (Judged j)) → TrueOf bs (record { header = h; judgement = j; order = (get_or es 1 d).buffer })
  finds j e =
      let r = run_finds in
      let same : r.0 ≡ j = let one = r.1 in cc in
      subst (λ k. TrueOf bs (record { header = h; judgement = k; order = (get_or es 1 d).buffer })) same r.2

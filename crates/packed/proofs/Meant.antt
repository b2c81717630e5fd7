-- The events that bytes mean, by number.
use Rattle.std.proofs.Common.{◌≡◌, ℕ, zero, suc, ◌+◌, ◌-◌, ◌*◌, ◌<◌, ◌≤◌, List, length, get_or, Some, Ok, Err, Result, refl, ap, ◌∙◌, subst, zero-add, add-one, arith}
use Rattle.std.proofs.lemmas.List.FromFn.{get_or-map-range_with_len, length-map-range_with_len}
use Rattle.std.specs.Result.{MatchResult}
use Rattle.history.specs.Lists.{numbered}
use Rattle.history.proofs.Numbered.{numbered_in}
use Rattle.packed.specs.declared.header.Header.{Header}
use Rattle.packed.specs.declared.fault.FileFault.{FileFault}
use Rattle.packed.specs.Layout.{size}
use Rattle.packed.specs.Reading.{count_in, event_in, events_in, events_by, events_meant, checked}
use Rattle.packed.proofs.Sound.{sound}

pub meant_count : (bs : List ℕ) → MatchResult (checked bs) (λ h. length (events_meant bs) ≡ h.count) (λ f. length (events_meant bs) ≡ 0)
meant_count bs = by (checked bs) refl
  where
    by : (r : Result Header FileFault) → checked bs ≡ r → MatchResult r (λ h. length (events_by bs r) ≡ h.count) (λ f. length (events_by bs r) ≡ 0)
    by (Ok h) is = length-map-range_with_len (λ i. event_in bs (i + 1)) 0 (count_in bs) ∙ ap (λ k. k.count) (sound bs h is).1
    by (Err f) is = refl

-- accepted bytes mean as many events as their header says
pub accepted_count : (bs : List ℕ) (h : Header) → checked bs ≡ Ok h → length (events_meant bs) ≡ h.count
accepted_count bs h e = subst (λ r. MatchResult r (λ h. length (events_meant bs) ≡ h.count) (λ f. length (events_meant bs) ≡ 0)) e (meant_count bs)

-- an event that bytes mean lies within them, and is read where its number says
pub record There (bs : List ℕ) (number : ℕ) : Type 0 where
  pub inside : number * 25 + 25 ≤ 8 * length bs
  pub is : numbered (events_meant bs) number ≡ Some (event_in bs number)

pub there : (bs : List ℕ) (number : ℕ) → 0 < number → number ≤ length (events_meant bs) → There bs number
there bs zero pos le = absurd (omega arith)
there bs (suc k) pos le = by (checked bs) refl le
  where
    moved : (k n c : ℕ) → n ≡ size c → suc k ≤ c → suc k * 25 + 25 ≤ 8 * n
    moved k n c e l = omega arith

    minus : (k : ℕ) → suc k - 1 ≡ k
    minus k = omega arith

    by : (r : Result Header FileFault) → checked bs ≡ r → suc k ≤ length (events_by bs r) → There bs (suc k)
    by (Err f) is le = absurd (omega arith)
    by (Ok h) is le =
        let d = event_in bs 0 in
        let lt : suc k ≤ count_in bs = simp length-map-range_with_len at le in
        record {
          inside = moved k (length bs) (count_in bs) (sound bs h is).0.exact lt;
          is =
              ap (λ r. numbered (events_by bs r) (suc k)) is
              ∙ numbered_in (events_in bs) (suc k) d (omega arith) le
              ∙ ap Some (ap (λ n. get_or (events_in bs) n d) (minus k) ∙ get_or-map-range_with_len (λ i. event_in bs (i + 1)) 0 (count_in bs) k k d (omega arith) (zero-add k) ∙ ap (event_in bs) (add-one k));
        }

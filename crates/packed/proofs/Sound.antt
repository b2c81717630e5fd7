-- What `checked` accepts, test by test.
use Rattle.std.proofs.Common.{◌≡◌, ℕ, ◌+◌, ◌*◌, ◌<◌, ◌≤◌, Bool, true, false, cond, List, length, Some, None, Ok, Err, Option, Result, refl, ap, ◌∙◌, arith}
use Rattle.std.proofs.lemmas.Bool.{ltb-false, eqb-true, not-false, le-ltb, eq-eqb, not_from_true, cond-false}
use Rattle.packed.specs.declared.header.Header.{Header}
use Rattle.packed.specs.declared.fault.FileFault.{FileFault}
use Rattle.packed.specs.Bits.{bit_in}
use Rattle.packed.specs.Layout.{size}
use Rattle.packed.specs.Reading.{version_in, count_in, season_in, checked, filled}
use Rattle.packed.proofs.Fields.{bit_in_small}
use Rattle.packed.proofs.Fills.{none_zero, zero_none}

abbrev pub head_in : List ℕ → Header
head_in bs = record { season = season_in bs; count = count_in bs }

pub record Sound (bs : List ℕ) : Type 0 where
  pub long : 4 ≤ length bs
  pub version : version_in bs ≡ 1
  pub few : count_in bs ≤ 256
  pub exact : length bs ≡ size (count_in bs)
  pub fill : (i : ℕ) → 25 * (count_in bs + 1) ≤ i → i < 8 * length bs → bit_in 8 bs i ≡ 0

passed : (b : Bool) (f : FileFault) (r : Result Header FileFault) (h : Header) → cond b (Err f) r ≡ Ok h → (b ≡ false) × (r ≡ Ok h)
passed true f r h is = absurd (let z : ◌≡◌ {A = ℕ} 0 1 = cc in omega arith)
passed false f r h is = (refl, is)

full : (h k : Header) (o : Option ℕ) → filled h o ≡ Ok k → (o ≡ None) × (h ≡ k)
full h k None is = (refl, cc)
full h k (Some b) is = absurd (let z : ◌≡◌ {A = ℕ} 0 1 = cc in omega arith)

pub sound : (bs : List ℕ) (h : Header) → checked bs ≡ Ok h → Sound bs × (head_in bs ≡ h)
sound bs h is =
    let a = passed _ _ _ h is in
    let b = passed _ _ _ h a.1 in
    let c = passed _ _ _ h b.1 in
    let d = passed _ _ _ h c.1 in
    let e = full (head_in bs) h _ d.1 in (
      record {
        long = ltb-false _ _ a.0;
        version = eqb-true _ _ (not-false _ b.0);
        few = ltb-false _ _ c.0;
        exact = eqb-true _ _ (not-false _ d.0);
        fill = λ i l lt. none_zero (bit_in 8 bs) (bit_in_small 8 bs) _ _ e.0 i l (omega arith);
      },
      e.1,
    )

pub accepts : (bs : List ℕ) → Sound bs → checked bs ≡ Ok (head_in bs)
accepts bs a =
    cond-false _ _ _ (le-ltb _ _ a.long)
    ∙ cond-false _ _ _ (not_from_true _ (eq-eqb _ _ a.version))
    ∙ cond-false _ _ _ (le-ltb _ _ a.few)
    ∙ cond-false _ _ _ (not_from_true _ (eq-eqb _ _ a.exact))
    ∙ ap (filled (head_in bs)) (zero_none (bit_in 8 bs) _ _ (λ i l h. a.fill i l (let e = a.exact in omega arith)))

-- The ties of the events, part by part: where one stands, and what one change makes of them.
use Rattle.std.proofs.Common.{◌≡◌, ℕ, zero, suc, ◌<◌, true, false, ◌||◌, eqb, List, length, get_or, set, map, replicate, refl, ◌∙◌, ap, sym, subst}
use Rattle.std.proofs.lemmas.List.{map-set, length-map, get_or-map}
use Rattle.std.proofs.Math.Seq.{map-set_same}
use Rattle.sets.specs.Sets.{has}
use Rattle.sets.specs.Rows.{in_rows, PutIn}
use Rattle.sets.specs.declared.set.EventSet.{EventSet}
use Rattle.saturation.specs.Ties.{from_of}
use Rattle.saturation.specs.declared.saturate.Ties.{Ties}
use Rattle.sets.proofs.Backs.{in_get, put_in, put_below, source_below}

module _ {W : ℕ} (part : Ties W → EventSet W) (ts : List (Ties W)) (x : ℕ) (d : Ties W) where
  -- the events in the sets of one part are below n
  abbrev Below : ℕ → List (Ties W) → Type 0
  Below n us = (w r : ℕ) → in_rows (map part us) w r ≡ true → r < n

  -- the ties of x change in another part
  pub stays_below : (n : ℕ) (t : Ties W) → part t ≡ part (get_or ts x d) → Below n ts → Below n (set ts x t)
  stays_below n t e all w r h = all w r (ap (λ ss. in_rows ss w r) (sym (map-set_same part ts x t d e)) ∙ h)

  module _ (l : x < length ts) where
    here : x < length (map part ts)
    here = rw length-map l

    -- the set of an event
    pub in_part : (y : ℕ) → in_rows (map part ts) x y ≡ has (part (get_or ts x d)) y
    in_part y = in_get (map part ts) x (part d) here y ∙ ap (λ s. has s y) (get_or-map part ts x d (part d) l)

    -- an event is put into one set
    pub put_part : (y : ℕ) (t : Ties W) → ((k : ℕ) → has (part t) k ≡ (eqb k y || has (part (get_or ts x d)) k)) → PutIn (map part ts) (map part (set ts x t)) x y
    put_part y t h z k =
        ap (λ ss. in_rows ss z k) (map-set part ts x t)
        ∙ put_in (map part ts) x y (part d) (part t) here (λ k. h k ∙ ap (λ s. eqb k y || has s k) (sym (get_or-map part ts x d (part d) l))) z k

    pub put_part_below : (n y : ℕ) (t : Ties W) → ((k : ℕ) → has (part t) k ≡ (eqb k y || has (part (get_or ts x d)) k)) → y < n → Below n ts → Below n (set ts x t)
    put_part_below n y t h ly all = put_below (map part ts) (map part (set ts x t)) x y n (put_part y t h) ly all

-- where the events take from
module _ {W : ℕ} (ts : List (Ties W)) (x : ℕ) where
  pub from_at : (d : Ties W) → x < length ts → get_or (from_of ts) x 0 ≡ (get_or ts x d).from
  from_at d l = get_or-map (λ t. t.from) ts x d 0 l

  abbrev Sourced : ℕ → List (Ties W) → Type 0
  Sourced n us = (r : ℕ) → r < n → get_or (from_of us) r 0 < n

  pub stays_sourced : (d : Ties W) (n : ℕ) (t : Ties W) → t.from ≡ (get_or ts x d).from → Sourced n ts → Sourced n (set ts x t)
  stays_sourced d n t e all r l = subst (λ fs. get_or fs r 0 < n) (sym (map-set_same (λ t. t.from) ts x t d e)) (all r l)

  pub put_sourced : (n : ℕ) (t : Ties W) → t.from < n → Sourced n ts → Sourced n (set ts x t)
  put_sourced n t k all r l = subst (λ fs. get_or fs r 0 < n) (sym (map-set (λ t. t.from) ts x t)) (source_below (from_of ts) x t.from n k all r l)

-- nothing is known of any event
pub none_at : {W : ℕ} (part : Ties W → EventSet W) (n : ℕ) (t : Ties W) → ((y : ℕ) → has (part t) y ≡ false) → (x y : ℕ) → in_rows (map part (replicate n t)) x y ≡ false
none_at part zero t h x y = refl
none_at part (suc n) t h zero y = h y
none_at part (suc n) t h (suc x) y = none_at part n t h x y

pub no_source : {W : ℕ} (n : ℕ) (t : Ties W) → t.from ≡ 0 → (r : ℕ) → get_or (from_of (replicate n t)) r 0 ≡ 0
no_source zero t h r = refl
no_source (suc n) t h zero = h
no_source (suc n) t h (suc r) = no_source n t h r

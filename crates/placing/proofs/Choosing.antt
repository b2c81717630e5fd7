-- The most preferred of the events that can be placed next, as one event after the other is looked at.
use Rattle.std.proofs.Common.{◌≡◌, ℕ, suc, ◌+◌, ◌<◌, Bool, true, false, not, ◌≢◌, List, length, IfSome, Some, None, Option, sym, refl, ap, ◌∙◌, subst, inl, inr, arith, below_more, MatchOption}
use Rattle.std.proofs.lemmas.Bool.{true≢false, cases_eq}
use Rattle.history.specs.declared.event.Event.{Event}
use Rattle.history.specs.Lists.{numbered}
use Rattle.history.specs.Preferences.{Lawful}
use Rattle.history.proofs.Numbered.{numbered_in}
use Rattle.order.specs.History.{event_at}
use Rattle.sets.specs.declared.set.EventSet.{EventSet}
use Rattle.placing.specs.Placing.{prefers_to, CanBePlaced, Next}

module _ (prefers : ℕ → Event → ℕ → Event → Bool) (es : List Event) (law : Lawful prefers es) where
  named : (x : ℕ) → x < length es → numbered es (suc x) ≡ Some (event_at es (suc x))
  named x l = numbered_in es (suc x) (record { kind = 0; session = 0; star = 0; revision = 0 }) (omega arith) (omega arith)

  other_way : (x y : ℕ) → x < length es → y < length es → x ≢ y → prefers_to prefers es x y ≡ false → prefers_to prefers es y x ≡ true
  other_way x y l m ne e = law.one (suc y) (suc x) _ _ (named y m) (named x l) (λ d. ne (omega arith)) ∙ ap not e

  through : (x y z : ℕ) → x < length es → y < length es → z < length es → prefers_to prefers es x y ≡ true → prefers_to prefers es y z ≡ true → prefers_to prefers es x z ≡ true
  through x y z l m n p q = law.chain (suc x) (suc y) (suc z) _ _ _ (named x l) (named y m) (named z n) p q

  module _ {W : ℕ} (rows : List (EventSet W)) (placed : EventSet W) (k : ℕ) (inside : k < length es) where
    -- An event that cannot be placed next changes nothing.
    pub not_ready : (o : Option ℕ) → Next prefers es rows placed k o → ¬ CanBePlaced rows placed k → Next prefers es rows placed (k + 1) o
    not_ready None n unready = below_more (λ y. ¬ CanBePlaced rows placed y) k n unready
    not_ready (Some x) n unready =
        let l = n.below in
        record {
          below = omega arith;
          ready = n.ready;
          preferred = below_more (λ y. CanBePlaced rows placed y → y ≢ x → prefers_to prefers es x y ≡ true) k n.preferred (λ r ne. absurd (unready r));
        }

    -- One that is preferred to the best so far is the best.
    pub better : (o : Option ℕ) → Next prefers es rows placed k o → CanBePlaced rows placed k →
        MatchOption o (true ≡ true) (λ b. true ≡ prefers_to prefers es k b) → Next prefers es rows placed (k + 1) (Some k)
    better o n r t = record {
      below = omega arith;
      ready = r;
      preferred = below_more (λ y. CanBePlaced rows placed y → y ≢ k → prefers_to prefers es k y ≡ true) k (λ y l s ne. than o n t y l s) (λ s ne. absurd (ne refl));
    }
      where
        than : (o : Option ℕ) → Next prefers es rows placed k o → MatchOption o (true ≡ true) (λ b. true ≡ prefers_to prefers es k b) →
            (y : ℕ) → y < k → CanBePlaced rows placed y → prefers_to prefers es k y ≡ true
        than None n t y l s = absurd (n y l s)
        than (Some b) n t y l s = let m = n.below in elim (cases_eq y b) [
          | inl e ↦ subst (λ z. prefers_to prefers es k z ≡ true) (sym e) (sym t)
          | inr d ↦ through k b y inside (omega arith) (omega arith) (sym t) (n.preferred y l s d)
        ]

    -- One that is not leaves the best as it is.
    pub not_better : (o : Option ℕ) → Next prefers es rows placed k o → MatchOption o (false ≡ true) (λ b. false ≡ prefers_to prefers es k b) → Next prefers es rows placed (k + 1) o
    not_better None n t = absurd (true≢false (sym t))
    not_better (Some b) n t =
        let l = n.below in
        record {
          below = omega arith;
          ready = n.ready;
          preferred = below_more (λ y. CanBePlaced rows placed y → y ≢ b → prefers_to prefers es b y ≡ true) k n.preferred (λ r ne. other_way k b inside (omega arith) ne (sym t));
        }

-- The best so far is an event.
pub next_inside : {W : ℕ} (prefers : ℕ → Event → ℕ → Event → Bool) (es : List Event) (rows : List (EventSet W)) (placed : EventSet W) (k : ℕ) → k < length es →
    (o : Option ℕ) → Next prefers es rows placed k o → IfSome o (λ b. b < length es)
next_inside prefers es rows placed k l None n = tt
next_inside prefers es rows placed k l (Some b) n = let m = n.below in omega arith

-- A run part of the way, and at its end.
use Rattle.std.proofs.Common.{◌≡◌, ℕ, ◌+◌, ◌<◌, ◌≤◌, ◌≢◌, List, [], ◌∷◌, ◌++◌, length, get_or, take, set, sym, refl, ap, ◌∙◌, subst, arith, length-set, length-take-le, take_all, get_or-set_other, get_or-set_same, below_more}
use Rattle.std.proofs.lemmas.List.{take_more, take_more_set, get_or_default}
use Rattle.order.specs.History.{History}
use Rattle.order.specs.Calls.{Preference, Turn}
use Rattle.order.specs.Calls.{Held, opened, Step, Run}
use Rattle.referee.specs.Entries.{turn_of, turns_of, Stays}
use Rattle.referee.specs.declared.entry.Entry.{Entry}

-- One more step makes a longer run.
pub run_more : {h : History} {m n o : Held} {ts : List Turn} {t : Turn} → Run h m ts n → Step h n t o → Run h m (ts ++ (t ∷ [])) o
run_more Run.stop s = Run.go s Run.stop
run_more (Run.go s' r) s = Run.go s' (run_more r s)

module _ {P B : Type 0} (means : P → Preference) (numbers : B → List ℕ) where
  -- One more entry is one more turn.
  turns_more : (es es' : List (Entry P B)) (e e' : Entry P B) → length es ≡ length es' →
      turns_of means numbers (es ++ (e ∷ [])) (es' ++ (e' ∷ [])) ≡ turns_of means numbers es es' ++ (turn_of means numbers e e' ∷ [])
  turns_more [] [] e e' l = refl
  turns_more [] (x ∷ xs) e e' l = absurd (omega arith)
  turns_more (x ∷ xs) [] e e' l = absurd (omega arith)
  turns_more (x ∷ xs) (y ∷ ys) e e' l = ap (λ ts. turn_of means numbers x y ∷ ts) (turns_more xs ys e e' (omega arith))

  -- The first i calls of the entries es are made, and the entries are `here` now; the case holds m.
  pub record Partly (h : History) (es : List (Entry P B)) (i : ℕ) (here : List (Entry P B)) (m : Held) : Type 0 where
    pub run : Run h opened (turns_of means numbers (take i es) (take i here)) m
    pub long : length here ≡ length es
    pub stays : (k : ℕ) → k < i → (d : Entry P B) → Stays (get_or es k d) (get_or here k d)
    pub rest : (k : ℕ) (d : Entry P B) → i ≤ k → get_or here k d ≡ get_or es k d

  module _ (h : History) (es : List (Entry P B)) where
    pub partly_none : Partly h es 0 es opened
    partly_none = record { run = Run.stop; long = refl; stays = λ k l d. absurd (omega arith); rest = λ k d l. refl }

    pub partly_more : (i : ℕ) (here : List (Entry P B)) (m n : Held) (e e' : Entry P B) → Partly h es i here m → i < length es → e ≡ get_or here i e →
        Step h m (turn_of means numbers e e') n → Stays e e' → Partly h es (i + 1) (set here i e') n
    partly_more i here m n e e' p lt read step stay =
        let there : i < length here = omega (arith, p.long) in
        let same : (d : Entry P B) → get_or es i d ≡ e = λ d. sym (p.rest i d (omega arith)) ∙ get_or_default here i d e there ∙ sym read in
        let short : length (take i es) ≡ length (take i here) = length-take-le i es (omega arith) ∙ sym (length-take-le i here (omega arith)) in
        let turns : turns_of means numbers (take (i + 1) es) (take (i + 1) (set here i e')) ≡ turns_of means numbers (take i es) (take i here) ++ (turn_of means numbers e e' ∷ []) =
        ap (λ z. turns_of means numbers z (take (i + 1) (set here i e'))) (take_more es i e lt ∙ ap (λ z. take i es ++ (z ∷ [])) (same e))
        ∙ ap (turns_of means numbers (take i es ++ (e ∷ []))) (take_more_set here i e' there)
        ∙ turns_more (take i es) (take i here) e e' short in
        record {
          run = subst (λ ts. Run h opened ts n) (sym turns) (run_more p.run step);
          long = length-set here i e' ∙ p.long;
          stays = below_more (λ k. (d : Entry P B) → Stays (get_or es k d) (get_or (set here i e') k d)) i
              (λ k l d. let ne : k ≢ i = (λ q. omega (arith, q)) in subst (λ z. Stays (get_or es k d) z) (sym (get_or-set_other here i k e' d ne)) (p.stays k l d))
              (λ d. subst (λ z. Stays z (get_or (set here i e') i d)) (sym (same d)) (subst (λ z. Stays e z) (sym (get_or-set_same here i e' d there)) stay));
          rest = λ k d l. let ne : k ≢ i = (λ q. omega (arith, q)) in get_or-set_other here i k e' d ne ∙ p.rest k d (omega arith);
        }

    -- At the end all calls are made.
    pub partly_all : (i : ℕ) (here : List (Entry P B)) (m : Held) → Partly h es i here m → length es ≤ i → Run h opened (turns_of means numbers es here) m
    partly_all i here m p l =
        let le : length here ≤ i = omega (arith, p.long) in
        subst (λ z. Run h opened (turns_of means numbers z here) m) (take_all i es l)
        (subst (λ z. Run h opened (turns_of means numbers (take i es) z) m) (take_all i here le) p.run)

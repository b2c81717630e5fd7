-- A closure that is filled from facts, rows and pairs that are given, and what they have to do with a history.
use Rattle.std.proofs.Common.{◌≡◌, ℕ, suc, Bool, false, List, sym, ◌∙◌, arith}
use Rattle.std.proofs.lemmas.Bool.{true≢false}
use Rattle.order.specs.History.{History, PairsOfEvents}
use Rattle.saturation.specs.Rooting.{PairsUpTo}
use Rattle.saturation.specs.Ties.{takers_of}
use Rattle.saturation.specs.declared.saturate.Facts.{Facts}
use Rattle.sets.specs.declared.set.EventSet.{EventSet}
use Rattle.closure.specs.Closures.{earlier, Raised, HasRows, HasPairs, Bases, Filled, RowsOf, HasBase, BuiltFrom}
use Rattle.closure.specs.declared.reach.Closure.{Closure}
use Rattle.closure.proofs.Raises.{chains_of, ready_none, ready_raised}

rows_count : {W : ℕ} (n m : ℕ) (rows : List (EventSet W)) (Q : ℕ → ℕ → Bool) → n ≡ m → HasRows n rows Q → HasRows m rows Q
rows_count n m rows Q e all x y l = all x y (omega arith)

-- the kept rows, the rows of starts, the takers and the pairs go in one after the other
pub filled_by : {N W : ℕ} (f : Facts N W) (kept starts : List (EventSet W)) (S : List (ℕ × ℕ)) (c d e p q : Closure N W)
    → c.count ≡ f.count → ((x y : ℕ) → earlier c x y ≡ false)
    → HasRows c.count kept (earlier d) → Raised (HasRows c.count kept) c d
    → HasRows d.count starts (earlier e) → Raised (HasRows d.count starts) d e
    → HasRows e.count (takers_of f.ties) (earlier p) → Raised (HasRows e.count (takers_of f.ties)) e p
    → HasPairs S (earlier q) → Raised (HasPairs S) p q
    → Filled f kept starts S q
filled_by f kept starts S c d e p q at_c none has-d rd has_e re has_p rp has-q rq =
    let at-d : d.count ≡ f.count = rd.events ∙ at_c in
    let at-e : e.count ≡ f.count = re.events ∙ at-d in
    record {
      events = rq.events ∙ rp.events ∙ at-e;
      bases = record {
        keeps = λ x y l h. rq.keeps x y (rp.keeps x y (re.keeps x y (rows_count c.count f.count kept (earlier d) at_c has-d x y l h)));
        opens = λ x y l h. rq.keeps x y (rp.keeps x y (rows_count d.count f.count starts (earlier e) at-d has_e x y l h));
        takes = λ x y l h. rq.keeps x y (rows_count e.count f.count (takers_of f.ties) (earlier p) at-e has_p x y l h);
        stands = has-q;
      };
      least = λ Q far b.
          rq.least Q far
          (rp.least Q far
          (re.least Q far
          (rd.least Q far (λ x y h. absurd (true≢false (sym h ∙ none x y))) (rows_count f.count c.count kept Q (sym at_c) b.keeps))
          (rows_count f.count d.count starts Q (sym at-d) b.opens))
          (rows_count f.count e.count (takers_of f.ties) Q (sym at-e) b.takes))
          b.stands;
      ready = ready_raised f (HasPairs S) p q rq
          (ready_raised f (HasRows e.count (takers_of f.ties)) e p rp
          (ready_raised f (HasRows d.count starts) d e re
          (ready_raised f (HasRows c.count kept) c d rd (ready_none f c none))));
    }

module _ {N W : ℕ} (h : History) (f : Facts N W) (kept starts : List (EventSet W)) (S : List (ℕ × ℕ)) (is : RowsOf h f kept starts) where
  -- the rows of a history hold its base pairs
  bases_base : (R : ℕ → ℕ → Bool) → Bases f kept starts S R → HasBase h S R
  bases_base R b = record {
    kept = λ x y k. let n = (is.well.first (suc x) (suc y) k).high in let e = is.facts.events in b.keeps x y (omega arith) ((is.keeps x y).1 k);
    stands = b.stands;
    taken = λ w r t. let n = t.write.number.high in let e = is.facts.events in b.takes w r (omega arith) ((is.facts.takers w r).1 t);
    start = λ r w s v e. let n = s.read.number.high in let d = is.facts.events in b.opens r w (omega arith) ((is.opens r w).1 (s, v, e));
  }

  base_bases : (Q : ℕ → ℕ → Bool) → HasBase h S Q → Bases f kept starts S Q
  base_bases Q b = record {
    keeps = λ x y l k. b.kept x y ((is.keeps x y).0 k);
    opens = λ r w l k. let s = (is.opens r w).0 k in b.start r w s.0 s.1 s.2;
    takes = λ w r l k. b.taken w r ((is.facts.takers w r).0 k);
    stands = b.stands;
  }

  pub built_from : (c : Closure N W) → Filled f kept starts S c → BuiltFrom h S (earlier c)
  built_from c filled = record {
    base = bases_base (earlier c) filled.bases;
    chains = chains_of c;
    least = λ Q far b. filled.least Q far (base_bases Q b);
  }

  pub pairs_of_events : PairsUpTo f.count S → PairsOfEvents h S
  pairs_of_events inside a b m =
      let p = inside a b m in
      let e = is.facts.events in
      (record { low = p.0; high = let l = p.1 in omega arith }, record { low = p.2; high = let l = p.3 in omega arith })

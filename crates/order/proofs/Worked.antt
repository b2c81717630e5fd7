-- The worked cases: each is a search that is written down, and the test of it computes.
use Rattle.std.proofs.Common.{◌≡◌, ℕ, Bool, T, List, [], ◌∷◌, refl, arith}
use Rattle.history.specs.declared.event.Event.{Event}
use Rattle.history.specs.Rules.{strict, same_star, lag}
use Rattle.order.specs.History.{History, history_of}
use Rattle.order.specs.Search.{fails, succeeds}
use Rattle.order.specs.Opening.{opening, accepted}
use Rattle.order.specs.Calls.{Preference, serial, none, Shows}
use Rattle.order.specs.Worked.{by_number_preference, by_star_preference, one_write, crossed, two_writes, opposite, own_missed, two_stars, hidden, Judged, WorkedCases}
use Rattle.order.proofs.Opens.{opening_accepts_lem}
use Rattle.order.proofs.Certificate.{well_formed, event_pairs, event_pairs_e, Node, Tree, clashes, succeeds_here, lower_first, then_higher, nodes, Checks, searched, Places, placed}
use Rattle.order.proofs.Judge.{judges_serial, judges_none, judges_spent}
use Rattle.order.proofs.Success.{placed_shows}

-- A history whose events opening accepts, and a written search of it.
module _ (es : List Event) (keeps : ℕ → ℕ → ℕ → ℕ → Bool) (S : List (ℕ × ℕ)) (opens : opening es ≡ accepted) where
  abbrev h : History
  h = history_of es keeps

  says_none : (x : Tree) → Checks h S x fails → Judged h S none (nodes x)
  says_none x c budget l = judges_none budget ((opening_accepts_lem h).0 opens) (searched h S x fails c) l

  says_serial_lem : (Q : List (ℕ × ℕ)) (x : Tree) → T (event_pairs h S) → Checks h S x (succeeds Q) → Judged h S serial (nodes x)
  says_serial_lem Q x i c budget l = judges_serial budget (well_formed es keeps) ((opening_accepts_lem h).0 opens) (event_pairs_e h S i) (searched h S x (succeeds Q) c) l

  says_shown : (Q R : List (ℕ × ℕ)) (f : Preference) (σ : List ℕ) (x : Tree) → T (event_pairs h S) → Checks h S x (succeeds Q) → Places h Q R f σ → Shows h S f σ
  says_shown Q R f σ x i c d =
      placed_shows h S Q (nodes x) (well_formed es keeps) ((opening_accepts_lem h).0 opens) (event_pairs_e h S i) (searched h S x (succeeds Q) c) (placed h Q R f σ d)

-- The pairs that are before one another, each justified by those that follow it.
abbrev R_one_write : List (ℕ × ℕ)
R_one_write = (2, 1) ∷ (3, 1) ∷ (2, 3) ∷ []

abbrev R_lag : List (ℕ × ℕ)
R_lag = (4, 1) ∷ (2, 3) ∷ []

abbrev R_opposite : List (ℕ × ℕ)
R_opposite = (6, 6) ∷ (6, 5) ∷ (6, 4) ∷ (6, 3) ∷ (6, 2) ∷ (5, 6) ∷ (5, 4) ∷ (5, 2) ∷ (5, 1) ∷ (3, 4) ∷ (1, 2) ∷ []

abbrev R_own : List (ℕ × ℕ)
R_own = (2, 2) ∷ (2, 1) ∷ (1, 2) ∷ []

abbrev R_hidden : List (ℕ × ℕ)
R_hidden = (9, 12) ∷ (9, 11) ∷ (8, 12) ∷ (8, 11) ∷ (8, 10) ∷ (8, 3) ∷ (8, 2) ∷ (8, 1) ∷ (7, 15) ∷ (7, 12) ∷ (7, 11) ∷ (7, 10) ∷ (7, 3) ∷ (7, 2) ∷ (7, 1) ∷ (6, 18) ∷ (6, 17) ∷ (6, 15) ∷ (6, 14) ∷ (5, 18) ∷ (5, 17) ∷ (5, 16) ∷ (5, 15) ∷ (5, 14) ∷ (5, 13) ∷ (4, 18) ∷ (4, 17) ∷ (4, 16) ∷ (4, 15) ∷ (4, 14) ∷ (4, 13) ∷ (4, 12) ∷ (17, 18) ∷ (16, 18) ∷ (16, 17) ∷ (14, 15) ∷ (13, 15) ∷ (13, 14) ∷ (11, 12) ∷ (10, 12) ∷ (10, 11) ∷ (9, 10) ∷ (9, 3) ∷ (9, 2) ∷ (9, 1) ∷ (8, 15) ∷ (8, 9) ∷ (7, 18) ∷ (7, 9) ∷ (7, 8) ∷ (6, 16) ∷ (6, 13) ∷ (5, 12) ∷ (5, 6) ∷ (4, 6) ∷ (4, 5) ∷ (4, 3) ∷ (2, 3) ∷ (1, 3) ∷ (1, 2) ∷ []

abbrev R_lower : List (ℕ × ℕ)
R_lower = (18, 18) ∷ (18, 17) ∷ (18, 15) ∷ (18, 14) ∷ (15, 18) ∷ (15, 17) ∷ (10, 18) ∷ (10, 17) ∷ (10, 15) ∷ (10, 14) ∷ (9, 18) ∷ (9, 17) ∷ (9, 15) ∷ (9, 14) ∷ (9, 11) ∷ (8, 18) ∷ (8, 17) ∷ (8, 16) ∷ (8, 14) ∷ (8, 13) ∷ (8, 12) ∷ (8, 11) ∷ (8, 10) ∷ (8, 6) ∷ (8, 5) ∷ (8, 3) ∷ (8, 2) ∷ (8, 1) ∷ (7, 17) ∷ (7, 16) ∷ (7, 15) ∷ (7, 14) ∷ (7, 13) ∷ (7, 12) ∷ (7, 11) ∷ (7, 10) ∷ (7, 6) ∷ (7, 5) ∷ (7, 3) ∷ (7, 2) ∷ (7, 1) ∷ (6, 18) ∷ (6, 17) ∷ (6, 15) ∷ (6, 14) ∷ (5, 18) ∷ (5, 17) ∷ (5, 16) ∷ (5, 15) ∷ (5, 14) ∷ (5, 13) ∷ (4, 18) ∷ (4, 17) ∷ (4, 16) ∷ (4, 15) ∷ (4, 14) ∷ (4, 13) ∷ (4, 12) ∷ (2, 18) ∷ (2, 17) ∷ (2, 16) ∷ (2, 15) ∷ (2, 14) ∷ (2, 13) ∷ (2, 12) ∷ (2, 6) ∷ (1, 18) ∷ (1, 17) ∷ (1, 16) ∷ (1, 15) ∷ (1, 14) ∷ (1, 13) ∷ (1, 12) ∷ (1, 6) ∷ (1, 5) ∷ (17, 18) ∷ (16, 18) ∷ (16, 17) ∷ (14, 15) ∷ (13, 15) ∷ (13, 14) ∷ (11, 12) ∷ (10, 16) ∷ (10, 13) ∷ (10, 12) ∷ (10, 11) ∷ (10, 6) ∷ (9, 16) ∷ (9, 13) ∷ (9, 12) ∷ (9, 10) ∷ (9, 6) ∷ (9, 5) ∷ (9, 3) ∷ (9, 2) ∷ (9, 1) ∷ (8, 15) ∷ (8, 9) ∷ (7, 18) ∷ (7, 9) ∷ (7, 8) ∷ (6, 16) ∷ (6, 13) ∷ (5, 12) ∷ (5, 6) ∷ (4, 6) ∷ (4, 5) ∷ (4, 3) ∷ (2, 5) ∷ (2, 3) ∷ (1, 3) ∷ (1, 2) ∷ []

abbrev R_higher : List (ℕ × ℕ)
R_higher = (18, 18) ∷ (18, 17) ∷ (18, 15) ∷ (18, 14) ∷ (15, 18) ∷ (15, 17) ∷ (10, 18) ∷ (10, 17) ∷ (10, 16) ∷ (10, 15) ∷ (10, 14) ∷ (10, 13) ∷ (10, 6) ∷ (10, 5) ∷ (10, 4) ∷ (9, 18) ∷ (9, 17) ∷ (9, 16) ∷ (9, 15) ∷ (9, 14) ∷ (9, 13) ∷ (9, 6) ∷ (9, 5) ∷ (9, 4) ∷ (8, 18) ∷ (8, 17) ∷ (8, 16) ∷ (8, 14) ∷ (8, 13) ∷ (8, 6) ∷ (8, 5) ∷ (8, 4) ∷ (7, 17) ∷ (7, 16) ∷ (7, 14) ∷ (7, 13) ∷ (7, 6) ∷ (7, 5) ∷ (7, 4) ∷ (11, 18) ∷ (11, 17) ∷ (11, 16) ∷ (11, 15) ∷ (11, 14) ∷ (11, 13) ∷ (11, 6) ∷ (11, 5) ∷ (11, 4) ∷ (11, 3) ∷ (11, 2) ∷ (10, 3) ∷ (10, 2) ∷ (9, 12) ∷ (9, 11) ∷ (8, 12) ∷ (8, 11) ∷ (8, 10) ∷ (8, 3) ∷ (8, 2) ∷ (8, 1) ∷ (7, 15) ∷ (7, 12) ∷ (7, 11) ∷ (7, 10) ∷ (7, 3) ∷ (7, 2) ∷ (7, 1) ∷ (6, 18) ∷ (6, 17) ∷ (6, 15) ∷ (6, 14) ∷ (5, 18) ∷ (5, 17) ∷ (5, 16) ∷ (5, 15) ∷ (5, 14) ∷ (5, 13) ∷ (4, 18) ∷ (4, 17) ∷ (4, 16) ∷ (4, 15) ∷ (4, 14) ∷ (4, 13) ∷ (4, 12) ∷ (4, 2) ∷ (17, 18) ∷ (16, 18) ∷ (16, 17) ∷ (14, 15) ∷ (13, 15) ∷ (13, 14) ∷ (12, 3) ∷ (12, 2) ∷ (11, 12) ∷ (10, 12) ∷ (10, 11) ∷ (9, 10) ∷ (9, 3) ∷ (9, 2) ∷ (9, 1) ∷ (8, 15) ∷ (8, 9) ∷ (7, 18) ∷ (7, 9) ∷ (7, 8) ∷ (6, 16) ∷ (6, 13) ∷ (5, 12) ∷ (5, 6) ∷ (5, 3) ∷ (5, 2) ∷ (4, 6) ∷ (4, 5) ∷ (4, 3) ∷ (2, 3) ∷ (1, 3) ∷ (1, 2) ∷ []

abbrev R_stars : List (ℕ × ℕ)
R_stars = (5, 6) ∷ (4, 3) ∷ (2, 3) ∷ (1, 6) ∷ []

abbrev R_stars_lower : List (ℕ × ℕ)
R_stars_lower = (5, 4) ∷ (5, 3) ∷ (5, 2) ∷ (1, 3) ∷ (6, 3) ∷ (6, 2) ∷ (5, 6) ∷ (4, 3) ∷ (2, 3) ∷ (1, 6) ∷ (1, 2) ∷ []

n_one_write : Node (history_of one_write strict) [] R_one_write
n_one_write = record { well = well_formed one_write strict; inside = tt; supports = tt; closed = tt; no_clash = tt }

n_empty : Node (history_of [] strict) [] []
n_empty = record { well = well_formed [] strict; inside = tt; supports = tt; closed = tt; no_clash = tt }

n_lag : Node (history_of crossed lag) [] R_lag
n_lag = record { well = well_formed crossed lag; inside = tt; supports = tt; closed = tt; no_clash = tt }

n_two : Node (history_of two_writes strict) [] []
n_two = record { well = well_formed two_writes strict; inside = tt; supports = tt; closed = tt; no_clash = tt }

n_lower : Node (history_of two_writes strict) ((1, 2) ∷ []) ((1, 2) ∷ [])
n_lower = record { well = well_formed two_writes strict; inside = tt; supports = tt; closed = tt; no_clash = tt }

n_higher : Node (history_of two_writes strict) ((2, 1) ∷ []) ((2, 1) ∷ [])
n_higher = record { well = well_formed two_writes strict; inside = tt; supports = tt; closed = tt; no_clash = tt }

n_stars : Node (history_of two_stars strict) [] R_stars
n_stars = record { well = well_formed two_stars strict; inside = tt; supports = tt; closed = tt; no_clash = tt }

n_stars_lower : Node (history_of two_stars strict) ((1, 2) ∷ []) R_stars_lower
n_stars_lower = record { well = well_formed two_stars strict; inside = tt; supports = tt; closed = tt; no_clash = tt }

n_hidden : Node (history_of hidden strict) [] R_hidden
n_hidden = record { well = well_formed hidden strict; inside = tt; supports = tt; closed = tt; no_clash = tt }

abbrev t_two : Tree
t_two = lower_first [] 1 2 (succeeds_here ((1, 2) ∷ []))

c_two : Checks (history_of two_writes strict) [] t_two (succeeds ((1, 2) ∷ []))
c_two = (n_two, tt, ((1, 2) ∷ [], refl, (n_lower, tt, refl)))

abbrev t_stars : Tree
t_stars = lower_first R_stars 1 2 (succeeds_here R_stars_lower)

c_stars : Checks (history_of two_stars strict) [] t_stars (succeeds ((1, 2) ∷ []))
c_stars = (n_stars, tt, ((1, 2) ∷ [], refl, (n_stars_lower, tt, refl)))

pub worked_cases_lem : WorkedCases
worked_cases_lem = record {
  one_write_serial = (
    says_serial_lem one_write strict [] refl [] (succeeds_here R_one_write) tt (n_one_write, tt, refl),
    says_shown one_write strict [] refl [] R_one_write by_number_preference (2 ∷ 3 ∷ 1 ∷ []) (succeeds_here R_one_write) tt (n_one_write, tt, refl)
        (record { node = n_one_write; long = refl; each = tt; only = tt; keeps = tt; preferred = tt }),
  );
  empty = (
    says_serial_lem [] strict [] refl [] (succeeds_here []) tt (n_empty, tt, refl),
    says_shown [] strict [] refl [] [] by_number_preference [] (succeeds_here []) tt (n_empty, tt, refl)
        (record { node = n_empty; long = refl; each = tt; only = tt; keeps = tt; preferred = tt }),
  );
  crossed_strict = says_none crossed strict [] refl (clashes ((4, 4) ∷ (4, 3) ∷ (4, 2) ∷ (4, 1) ∷ (3, 4) ∷ (2, 3) ∷ (1, 2) ∷ []) 4) (tt, tt, refl);
  crossed_lag = says_serial_lem crossed lag [] refl [] (succeeds_here R_lag) tt (n_lag, tt, refl);
  crossed_by_number = says_shown crossed lag [] refl [] R_lag by_number_preference (2 ∷ 3 ∷ 4 ∷ 1 ∷ []) (succeeds_here R_lag) tt (n_lag, tt, refl)
      (record { node = n_lag; long = refl; each = tt; only = tt; keeps = tt; preferred = tt });
  crossed_by_star = says_shown crossed lag [] refl [] R_lag by_star_preference (4 ∷ 1 ∷ 2 ∷ 3 ∷ []) (succeeds_here R_lag) tt (n_lag, tt, refl)
      (record { node = n_lag; long = refl; each = tt; only = tt; keeps = tt; preferred = tt });
  two_writes_serial = (
    says_serial_lem two_writes strict [] refl ((1, 2) ∷ []) t_two tt c_two,
    says_shown two_writes strict [] refl ((1, 2) ∷ []) ((1, 2) ∷ []) by_number_preference (1 ∷ 2 ∷ []) t_two tt c_two
        (record { node = n_lower; long = refl; each = tt; only = tt; keeps = tt; preferred = tt }),
  );
  two_writes_spent = judges_spent 1 (searched (history_of two_writes strict) [] t_two (succeeds ((1, 2) ∷ [])) c_two) (omega arith);
  stipulated = (
    says_serial_lem two_writes strict ((2, 1) ∷ []) refl ((2, 1) ∷ []) (succeeds_here ((2, 1) ∷ [])) tt (n_higher, tt, refl),
    says_shown two_writes strict ((2, 1) ∷ []) refl ((2, 1) ∷ []) ((2, 1) ∷ []) by_number_preference (2 ∷ 1 ∷ []) (succeeds_here ((2, 1) ∷ [])) tt (n_higher, tt, refl)
        (record { node = n_higher; long = refl; each = tt; only = tt; keeps = tt; preferred = tt }),
  );
  against = says_none two_writes strict ((2, 1) ∷ (1, 2) ∷ []) refl (clashes R_own 2) (tt, tt, refl);
  entered = refl;
  lifts = refl;
  opposite_strict = says_none opposite strict [] refl (clashes R_opposite 6) (tt, tt, refl);
  opposite_star = says_none opposite same_star [] refl (clashes R_opposite 6) (tt, tt, refl);
  own_missed_strict = says_none own_missed strict [] refl (clashes R_own 2) (tt, tt, refl);
  own_missed_lag = says_none own_missed lag [] refl (clashes R_own 2) (tt, tt, refl);
  two_stars_serial = (
    says_serial_lem two_stars strict [] refl ((1, 2) ∷ []) t_stars tt c_stars,
    says_shown two_stars strict [] refl ((1, 2) ∷ []) R_stars_lower by_number_preference (1 ∷ 5 ∷ 4 ∷ 6 ∷ 2 ∷ 3 ∷ []) t_stars tt c_stars
        (record { node = n_stars_lower; long = refl; each = tt; only = tt; keeps = tt; preferred = tt }),
  );
  hidden_clash = says_none hidden strict [] refl (then_higher R_hidden 2 5 (clashes R_lower 18) (clashes R_higher 18)) (n_hidden, tt, (tt, tt, refl), (tt, tt, refl));
  written_twice = refl;
  never_written = refl;
}

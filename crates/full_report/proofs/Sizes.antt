-- How long the lines of a report are.
use Rattle.std.proofs.Common.{◌≡◌, ℕ, zero, suc, ◌+◌, ◌*◌, ◌^◌, ◌<◌, ◌≤◌, cond, ltb, List, [], ◌∷◌, length, codes, decimal, refl, inl, inr, arith, length-append}
use native.Mathlib.Decide.{ℕ_discrete}
use Rattle.std.proofs.lemmas.Fmt.{length-decimal-le}
use Rattle.std.proofs.lemmas.Bool.{cases_lt, lt-ltb, le-ltb}
use Rattle.order.specs.Orders.{times, Order}
use Rattle.order.proofs.Places.{times_here, times_there}
use Rattle.packed.specs.declared.header.Header.{Header}
use Rattle.text.specs.Lines.{number_line}
use Rattle.text.proofs.Sizes.{number_line_short, pair_line_short}
use Rattle.report.specs.Reports.{header_line}
use Rattle.full_report.specs.Text.{verdict_line, numbers_text, order_line, judged_text, serial_text}

length_order_line : (σ : List ℕ) → length (order_line σ) ≡ length (numbers_text σ) + 6
length_order_line σ = simp length-append (omega arith)

verdict_line_short : (word : List ℕ) (steps : ℕ) → steps < 2 ^ 64 → length (verdict_line word steps) ≤ length word + 36
verdict_line_short word steps h = omega (arith, length-append word (number_line (codes " steps ") steps), number_line_short (codes " steps ") steps h)

-- The first two lines take at most 98 bytes, whatever the numbers.
pub judged_text_short : (h : Header) (word : List ℕ) (steps : ℕ) → h.season < 2 ^ 16 → h.count < 2 ^ 16 → steps < 2 ^ 32 → length word ≤ 6
    → length (judged_text h word steps) ≤ 98
judged_text_short h word steps hs hc ht hw =
    let l = length-append (header_line h) (verdict_line word steps) in
    let a = pair_line_short (codes "season ") h.season (codes " events ") h.count (omega arith) (omega arith) in
    let b = verdict_line_short word steps (omega arith) in
    omega arith

-- How many numbers of a list are below k.
abbrev below : ℕ → List ℕ → ℕ
below k [] = 0
below k (x ∷ xs) = cond (ltb x k) 1 0 + below k xs

below_more : (k : ℕ) (xs : List ℕ) → below (suc k) xs ≡ below k xs + times xs k
below_more k [] = refl
below_more k (x ∷ xs) = let ih = below_more k xs in elim (ℕ_discrete x k) [
  | yes e ↦ rw (lt-ltb x (suc k) (omega arith), le-ltb x k (omega arith), times_here x k xs e) (omega arith)
  | no n ↦ elim (cases_lt x k) [
    | inl l ↦ rw (lt-ltb x (suc k) (omega arith), lt-ltb x k (omega arith), times_there x k xs n) (omega arith)
    | inr l ↦ rw (le-ltb x (suc k) (omega arith), le-ltb x k (omega arith), times_there x k xs n) (omega arith)
  ]
]

-- An order of n events has the k numbers 1 to k.
below_order : (n : ℕ) (σ : List ℕ) → Order n σ → (k : ℕ) → k ≤ n → k ≤ below (suc k) σ
below_order n σ o zero l = omega arith
below_order n σ o (suc k) l =
    let ih = below_order n σ o k (omega arith) in
    let one = o.each (suc k) (omega arith) l in
    let more = below_more (suc k) σ in
    omega arith

-- A number below 1,000 has at most three digits, one less below 100, and one less again below 10.
digits : (x : ℕ) → x < 1000 → length (decimal x) + (cond (ltb x 10) 1 0 + cond (ltb x 100) 1 0) ≤ 3
digits x l = elim (cases_lt x 10) [
  | inl a ↦ let d = length-decimal-le 1 x (omega arith) a (omega arith) in rw (lt-ltb x 10 a, lt-ltb x 100 (omega arith)) (omega arith)
  | inr a ↦ elim (cases_lt x 100) [
    | inl b ↦ let d = length-decimal-le 2 x (omega arith) b (omega arith) in rw (le-ltb x 10 a, lt-ltb x 100 b) (omega arith)
    | inr b ↦ let d = length-decimal-le 3 x (omega arith) l (omega arith) in rw (le-ltb x 10 a, le-ltb x 100 b) (omega arith)
  ]
]

-- So numbers below 1,000 take four bytes each with their blanks, less one for each below 100 and one for each below 10.
numbers_short : (xs : List ℕ) → ((x : ℕ) → 1 ≤ times xs x → x < 1000) → length (numbers_text xs) + below 10 xs + below 100 xs ≤ 4 * length xs
numbers_short [] small = omega arith
numbers_short (x ∷ xs) small =
    let ih = numbers_short xs (λ y m. small y (more y m)) in
    let d = digits x (small x (omega (arith, times_here x x xs refl))) in
    omega (arith, length-append (decimal x) (numbers_text xs))
  where
    more : (y : ℕ) → 1 ≤ times xs y → 1 ≤ times (x ∷ xs) y
    more y m = elim (ℕ_discrete x y) [ yes e ↦ omega (arith, times_here x y xs e) | no n ↦ omega (arith, times_there x y xs n) ]

-- The line with an order of at most 256 events takes at most 922 bytes: 256 numbers have 99 below 100 and 9 below 10.
pub order_line_fits : (n : ℕ) (σ : List ℕ) → n ≤ 256 → Order n σ → length (order_line σ) ≤ 922
order_line_fits n σ few o =
    let l = length_order_line σ in
    let long = o.long in
    let s = numbers_short σ (λ x m. let r = o.only x m in omega arith) in
    elim (cases_lt n 99) [
      | inl a ↦ omega arith
      | inr a ↦ let b = below_order n σ o 9 (omega arith) in let c = below_order n σ o 99 a in omega arith
    ]

-- The whole report on a serial history of at most 256 events fits 1,024 bytes.
pub serial_text_fits : (h : Header) (steps : ℕ) (σ : List ℕ) → h.season < 2 ^ 16 → steps < 2 ^ 32 → h.count ≤ 256 → Order h.count σ → length (serial_text h steps σ) ≤ 1024
serial_text_fits h steps σ hs ht few o =
    let l = length-append (judged_text h (codes "serial") steps) (order_line σ) in
    let a = judged_text_short h (codes "serial") steps hs (omega arith) ht (omega arith) in
    let b = order_line_fits h.count σ few o in
    omega arith

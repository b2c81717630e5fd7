-- A record, its facts and a relation take less memory than a machine has.
use Rattle.std.proofs.Common.{ℕ, ◌+◌, ◌-◌, ◌*◌, ◌%◌, ◌^◌, ◌<◌, ◌≤◌, mod-lt, mul-le-mul, arith}
use prog.Memory.{up}

pub most : (k e : ℕ) → 0 < k → up k e ≤ e + k
most k e pos = let m = mod-lt (k - e % k) {m = k} pos in omega arith

-- a vector of fixed capacity, whose elements take q bytes in all and lie at multiples of k
abbrev pub vector : ℕ → ℕ → ℕ
vector k q = up 8 (up 1 (up 8 (0 + up k (0 + q)) + 8) + 0)

pub vector_most : (k q : ℕ) → 0 < k → k ≤ 8 → vector k q ≤ q + 40
vector_most k q pos few =
    let a = most k (0 + q) pos in
    let b = most 8 (0 + up k (0 + q)) (omega arith) in
    let c = most 1 (up 8 (0 + up k (0 + q)) + 8) (omega arith) in
    let d = most 8 (up 1 (up 8 (0 + up k (0 + q)) + 8) + 0) (omega arith) in
    chain few a b c d
  where
    chain : {k x y z w : ℕ} → k ≤ 8 → x ≤ 0 + q + k → y ≤ 0 + x + 8 → z ≤ y + 8 + 1 → w ≤ z + 0 + 8 → w ≤ q + 40
    chain few a b c d = omega arith

-- one table of rows with its trail: p bytes of rows, T entries, q bytes of saved rows
abbrev table : ℕ → ℕ → ℕ → ℕ
table p T q = up 8 (up 8 (up 8 (up 2 (0 + p) + T * 2) + q) + 8)

table_most : (p T q : ℕ) → table p T q ≤ p + T * 2 + q + 40
table_most p T q =
    let a = most 2 (0 + p) (omega arith) in
    let b = most 8 (up 2 (0 + p) + T * 2) (omega arith) in
    let c = most 8 (up 8 (up 2 (0 + p) + T * 2) + q) (omega arith) in
    let d = most 8 (up 8 (up 8 (up 2 (0 + p) + T * 2) + q) + 8) (omega arith) in
    chain a b c d
  where
    chain : {x y z w : ℕ} → x ≤ 0 + p + 2 → y ≤ x + T * 2 + 8 → z ≤ y + q + 8 → w ≤ z + 8 + 8 → w ≤ p + T * 2 + q + 40
    chain a b c d = omega arith

-- the ties of an event: three rows of a bytes, and a number
abbrev ties : ℕ → ℕ
ties a = up 8 (up 2 (up 8 (up 8 (0 + a) + a) + a) + 2)

ties_most : (a : ℕ) → a ≤ 8200 → ties a ≤ 24628
ties_most a small =
    let x = most 8 (0 + a) (omega arith) in
    let y = most 8 (up 8 (0 + a) + a) (omega arith) in
    let z = most 2 (up 8 (up 8 (0 + a) + a) + a) (omega arith) in
    let w = most 8 (up 2 (up 8 (up 8 (0 + a) + a) + a) + 2) (omega arith) in
    chain x y z w
  where
    chain : {x y z w : ℕ} → x ≤ 0 + a + 8 → y ≤ x + a + 8 → z ≤ y + a + 2 → w ≤ z + 2 + 8 → w ≤ 24628
    chain x y z w = omega arith

-- the facts: the ties of each of N events, with rows of a bytes, and a number
abbrev pub facts : ℕ → ℕ → ℕ
facts a N = up 8 (up 8 (0 + N * ties a) + 8)

pub facts_most : (a N : ℕ) → a ≤ 8200 → N ≤ 65536 → facts a N ≤ 65536 * 24628 + 24
facts_most a N small few =
    let t = mul-le-mul {n₁ = N} {m₁ = ties a} {n₂ = 65536} {m₂ = 24628} few (ties_most a small) in
    let x = most 8 (0 + N * ties a) (omega arith) in
    let y = most 8 (up 8 (0 + N * ties a) + 8) (omega arith) in
    chain t x y
  where
    chain : {t x y : ℕ} → t ≤ 65536 * 24628 → x ≤ 0 + t + 8 → y ≤ x + 8 + 8 → y ≤ 65536 * 24628 + 24
    chain t x y = omega arith

-- the relation: two tables, a set of a bytes, and a number
abbrev pub relation : ℕ → ℕ → ℕ → ℕ → ℕ
relation p T q a = up 8 (up 8 (up 8 (up 8 (0 + table p T q) + table p T q) + a) + 8)

pub relation_most : (p T q a : ℕ) → relation p T q a ≤ 2 * (p + T * 2 + q) + a + 200
relation_most p T q a =
    let t = table_most p T q in
    let x = most 8 (0 + table p T q) (omega arith) in
    let y = most 8 (up 8 (0 + table p T q) + table p T q) (omega arith) in
    let z = most 8 (up 8 (up 8 (0 + table p T q) + table p T q) + a) (omega arith) in
    let w = most 8 (up 8 (up 8 (up 8 (0 + table p T q) + table p T q) + a) + 8) (omega arith) in
    chain t x y z w
  where
    chain : {t x y z w : ℕ} → t ≤ p + T * 2 + q + 40 → x ≤ 0 + t + 8 → y ≤ x + t + 8 → z ≤ y + a + 8 → w ≤ z + 8 + 8 → w ≤ 2 * (p + T * 2 + q) + a + 200
    chain a b c d e = omega arith

-- the record of a case: a vector of events, six bytes each, and p bytes of rows
abbrev case : ℕ → ℕ → ℕ
case p N = up 8 (up 8 (0 + vector 2 (N * 6)) + p)

case_most : (p N : ℕ) → case p N ≤ N * 6 + p + 60
case_most p N =
    let a = most 8 (0 + vector 2 (N * 6)) (omega arith) in
    let b = most 8 (up 8 (0 + vector 2 (N * 6)) + p) (omega arith) in
    chain (vector_most 2 (N * 6) (omega arith) (omega arith)) a b
  where
    chain : {v x y : ℕ} → v ≤ N * 6 + 40 → x ≤ 0 + v + 8 → y ≤ x + p + 8 → y ≤ N * 6 + p + 60
    chain a b c = omega arith

module _ (N W T : ℕ) (wide : N ≤ 64 * W) (narrow : W ≤ 1024) where
  pub row_most : up 8 (0 + W * 8) ≤ 8200
  row_most = row (most 8 (0 + W * 8) (omega arith))
    where
      row : {x : ℕ} → x ≤ 0 + W * 8 + 8 → x ≤ 8200
      row h = omega arith

  pub rows_most : N * up 8 (0 + W * 8) ≤ 65536 * 8200
  rows_most = mul-le-mul {n₁ = N} {m₁ = up 8 (0 + W * 8)} {n₂ = 65536} {m₂ = 8200} (omega arith) row_most

  pub trail_most : T < 2 ^ 32 → T * up 8 (0 + W * 8) ≤ 2 ^ 32 * 8200
  trail_most short = mul-le-mul {n₁ = T} {m₁ = up 8 (0 + W * 8)} {n₂ = 2 ^ 32} {m₂ = 8200} (omega arith) row_most

  pub case_small : case (N * up 8 (0 + W * 8)) N < 2 ^ 63
  case_small = chain (case_most _ N) rows_most
    where
      chain : {x p : ℕ} → x ≤ N * 6 + p + 60 → p ≤ 65536 * 8200 → x < 2 ^ 63
      chain a b = omega arith

  pub facts_small : facts (up 8 (0 + W * 8)) N < 2 ^ 63
  facts_small = chain (facts_most _ N row_most (omega arith))
    where
      chain : {x : ℕ} → x ≤ 65536 * 24628 + 24 → x < 2 ^ 63
      chain h = omega arith

  pub relation_small : T < 2 ^ 32 → relation (N * up 8 (0 + W * 8)) T (T * up 8 (0 + W * 8)) (up 8 (0 + W * 8)) < 2 ^ 63
  relation_small short = chain (relation_most _ T _ _) rows_most (trail_most short) row_most
    where
      chain : {x p q a : ℕ} → x ≤ 2 * (p + T * 2 + q) + a + 200 → p ≤ 65536 * 8200 → q ≤ 2 ^ 32 * 8200 → a ≤ 8200 → x < 2 ^ 63
      chain a b c d = omega arith

  pub rows_small : (N * up 8 (0 + W * 8) < 2 ^ 63) × (up 8 (0 + W * 8) < 2 ^ 63)
  rows_small = (chain rows_most, small row_most)
    where
      chain : {x : ℕ} → x ≤ 65536 * 8200 → x < 2 ^ 63
      chain h = omega arith

      small : {x : ℕ} → x ≤ 8200 → x < 2 ^ 63
      small h = omega arith

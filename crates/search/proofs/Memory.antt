-- A walk takes less memory than a machine has.
use Rattle.std.proofs.Common.{ℕ, ◌+◌, ◌*◌, ◌^◌, ◌<◌, ◌≤◌, arith}
use prog.Memory.{up}
use Rattle.saturation.specs.Orders.{Roomy}
use Rattle.saturation.proofs.Memory.{most, vector, vector_most, facts, facts_most, relation, relation_most, row_most, rows_most, trail_most}

-- the walk: facts, relation, T choices, and what the root is
abbrev walk : ℕ → ℕ → ℕ → ℕ → ℕ → ℕ
walk p N T q a = up 8 (up 1 (up 8 (up 8 (0 + facts a N) + relation p T q a) + vector 4 (T * 12)) + 1)

walk_most : (p N T q a : ℕ) → p ≤ 65536 * 8200 → N ≤ 65536 → T < 2 ^ 32 → q ≤ 2 ^ 32 * 8200 → a ≤ 8200 → walk p N T q a < 2 ^ 63
walk_most p N T q a hp hN hT hq ha =
    let f = facts_most a N ha hN in
    let r = relation_most p T q a in
    let t = vector_most 4 (T * 12) (omega arith) (omega arith) in
    let x = most 8 (0 + facts a N) (omega arith) in
    let y = most 8 (up 8 (0 + facts a N) + relation p T q a) (omega arith) in
    let z = most 1 (up 8 (up 8 (0 + facts a N) + relation p T q a) + vector 4 (T * 12)) (omega arith) in
    let w = most 8 (up 1 (up 8 (up 8 (0 + facts a N) + relation p T q a) + vector 4 (T * 12)) + 1) (omega arith) in
    chain f r t x y z w
  where
    chain : {f r t x y z w : ℕ} → f ≤ 65536 * 24628 + 24 → r ≤ 2 * (p + T * 2 + q) + a + 200 → t ≤ T * 12 + 40 → x ≤ 0 + f + 8 → y ≤ x + r + 8 → z ≤ y + t + 1 → w ≤ z + 1 + 8 → w < 2 ^ 63
    chain f r t x y z w = omega arith

pub walk_small : {N W T : ℕ} → Roomy N W T → walk (N * up 8 (0 + W * 8)) N T (T * up 8 (0 + W * 8)) (up 8 (0 + W * 8)) < 2 ^ 63
walk_small {N} {W} {T} room =
    let wide = room.wide in
    let narrow = room.narrow in
    walk_most _ N T _ _ (rows_most N W T wide narrow) (omega arith) room.short (trail_most N W T wide narrow room.short) (row_most N W T wide narrow)

-- How long lines of words and numbers are.
use Rattle.std.proofs.Common.{ℕ, ◌+◌, ◌^◌, ◌<◌, ◌≤◌, List, length, decimal, arith, length-append}
use Rattle.std.proofs.lemmas.Fmt.{length-decimal-le}
use Rattle.text.specs.Lines.{number_line, pair_line}

-- Numbers of 64 bits have at most 20 digits.
pub digits_64 : (n : ℕ) → n < 2 ^ 64 → length (decimal n) ≤ 20
digits_64 n h = length-decimal-le 20 n (omega arith) (omega arith) h

pub number_line_short : (word : List ℕ) (n : ℕ) → n < 2 ^ 64 → length (number_line word n) ≤ length word + 21
number_line_short word n h = let d = digits_64 n h in simp length-append (omega arith)

pub pair_line_short : (first : List ℕ) (m : ℕ) (second : List ℕ) (n : ℕ) → m < 2 ^ 64 → n < 2 ^ 64 → length (pair_line first m second n) ≤ length first + length second + 41
pair_line_short first m second n hm hn =
    let a = digits_64 m hm in
    let b = digits_64 n hn in
    simp length-append (omega arith)

-- When the digits of a word decode.
use Rattle.std.proofs.Common.{◌≡◌, ◌%◌, inl, inr, ℕ, List, length, Result, Ok, Err, refl, arith}
use Rattle.std.proofs.lemmas.Bool.{cases_eq}
use Rattle.std.specs.Prelude.{IsErr}
use Rattle.std.specs.List.{AllPass}
use Rattle.hex.specs.Hex.{decode_of, is_hex_digit}
use Rattle.hex.specs.declared.error.FromHexError.{FromHexError}
use Rattle.hex.proofs.HexLemmas.{decode_of-ok, decode_of-digits}

-- what is refused
err_of : (word : List ℕ) (r : Result (List ℕ) FromHexError) → decode_of word ≡ r
    → (AllPass is_hex_digit word → ⊥) → IsErr r
err_of word (Ok bytes) e wrong = absurd (wrong (decode_of-ok word bytes e).1)
err_of word (Err fault) e wrong = refl

-- a word that is not all digits is refused
pub refused_unless_digits : (word : List ℕ) → (AllPass is_hex_digit word → ⊥) → IsErr (decode_of word)
refused_unless_digits word wrong = err_of word (decode_of word) refl wrong

-- digits that are refused have an odd length
pub odd_if_refused : (word : List ℕ) → AllPass is_hex_digit word → IsErr (decode_of word) → length word % 2 ≡ 1
odd_if_refused word digits err =
    elim (cases_eq (length word % 2) 1) [
      | inl odd ↦ odd
      | inr even ↦ let r = decode_of-digits word (omega arith) digits in cc (rw r.1 at err)
    ]

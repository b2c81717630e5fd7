-- The word of each verdict, as it is printed.
use Rattle.std.specs.Prelude.{ℕ, List, codes}
use Rattle.referee.specs.declared.state.Verdict.{Verdict}
use Rattle.referee.specs.declared.state.Verdict.TheVariants.{Serial, None, Spent}

abbrev pub verdict_word : Verdict → List ℕ
verdict_word Serial = codes "serial"
verdict_word None = codes "none"
verdict_word Spent = codes "spent"

-- The faults of a history, case by case.
use Rattle.std.specs.Prelude.{ℕ}
use Rattle.opening.specs.declared.fault.HistoryFault.{HistoryFault}
use Rattle.opening.specs.declared.fault.HistoryFault.TheVariants.{TooMany, OutOfLimits, WriteOfZero, WrittenTwice, NeverWritten}

-- The number of a fault.
abbrev pub fault_number : HistoryFault → ℕ
fault_number TooMany = 11
fault_number (OutOfLimits n) = 12
fault_number (WriteOfZero n) = 13
fault_number (WrittenTwice n) = 14
fault_number (NeverWritten n) = 15

-- The place of a fault: the number of the event that fails, or of the first past the limit.
abbrev pub fault_place : HistoryFault → ℕ
fault_place TooMany = 257
fault_place (OutOfLimits n) = n
fault_place (WriteOfZero n) = n
fault_place (WrittenTwice n) = n
fault_place (NeverWritten n) = n

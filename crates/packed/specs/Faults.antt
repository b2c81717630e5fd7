-- The refusals of reading and writing, case by case.
use Rattle.std.specs.Prelude.{ℕ}
use Rattle.packed.specs.declared.fault.FileFault.{FileFault}
use Rattle.packed.specs.declared.fault.FileFault.TheVariants.{Short, Version, Count, Length, Fill}
use Rattle.packed.specs.declared.fault.WriteRefusal.{WriteRefusal}
use Rattle.packed.specs.declared.fault.WriteRefusal.TheVariants.{Long, Outside, Season, Buffer}

-- The number of a fault of the bytes.
abbrev pub fault_number : FileFault → ℕ
fault_number (Short n) = 1
fault_number Version = 2
fault_number Count = 3
fault_number (Length n) = 4
fault_number (Fill b) = 5

-- The place of a fault: the byte count, the bit at which the version or the count begins, or the fill bit.
abbrev pub fault_place : FileFault → ℕ
fault_place (Short n) = n
fault_place Version = 0
fault_place Count = 16
fault_place (Length n) = n
fault_place (Fill b) = b

-- The number of a refusal to write.
abbrev pub refusal_number : WriteRefusal → ℕ
refusal_number Long = 31
refusal_number Outside = 32
refusal_number Season = 33
refusal_number Buffer = 34

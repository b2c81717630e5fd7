-- The text of a report, and what report answers.
use Rattle.std.specs.Prelude.{ℕ, cond, List, ◌++◌, length, drop, Ok, Err, codes, Result, nat_lt}
use Rattle.packed.specs.declared.header.Header.{Header}
use Rattle.packed.specs.declared.fault.FileFault.{FileFault}
use Rattle.packed.specs.Faults.{fault_number, fault_place}
use Rattle.packed.specs.Reading.{checked}
use Rattle.report.specs.declared.fault.Fault.{Fault}
use Rattle.report.specs.declared.fault.Fault.TheVariants.{File}
use Rattle.report.specs.declared.printing.ReportRefusal.{ReportRefusal}
use Rattle.report.specs.declared.printing.ReportRefusal.TheVariants.{ShortBuffer}
use Rattle.text.specs.Lines.{pair_line}

-- A file's fault, passed up.
abbrev pub from_file : {X : Type 0} → Result X FileFault → Result X Fault
from_file (Ok x) = Ok x
from_file (Err f) = Err (File f)

-- The header of bytes, or the fault that they are refused with.
abbrev pub read : List ℕ → Result Header Fault
read bs = from_file (checked bs)

-- The line that tells of a fault: its layer, its number and its place.
abbrev pub fault_line : Fault → List ℕ
fault_line (File f) = pair_line (codes "fault file ") (fault_number f) (codes " place ") (fault_place f)

-- The line with season and count.
abbrev pub header_line : Header → List ℕ
header_line h = pair_line (codes "season ") h.season (codes " events ") h.count

-- The line with season and count, or the line that tells of the fault.
abbrev pub text_by : Result Header Fault → List ℕ
text_by (Ok h) = header_line h
text_by (Err f) = fault_line f

-- The report on bytes.
abbrev pub report_text : List ℕ → List ℕ
report_text bs = text_by (read bs)

-- The answer: the bytes used, unless the buffer has fewer than 1,024 bytes.
abbrev pub report_answer : List ℕ → ℕ → Result ℕ ReportRefusal
report_answer text room = cond (nat_lt room 1024) (Err ShortBuffer) (Ok (length text))

-- The buffer after: the text at its front and the rest as it was; all as it was where it has fewer than 1,024 bytes.
abbrev pub report_after : List ℕ → List ℕ → List ℕ
report_after text buffer = cond (nat_lt (length buffer) 1024) buffer (text ++ drop (length text) buffer)

-- The number of the refusal.
abbrev pub refusal_number : ReportRefusal → ℕ
refusal_number ShortBuffer = 41

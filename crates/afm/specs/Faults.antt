-- The number and the line that each refusal of a font file tells.
use Rattle.std.specs.Prelude.{ℕ}
use Rattle.afm.specs.declared.fault.AfmFault.{AfmFault}
use Rattle.afm.specs.declared.fault.AfmFault.TheVariants.{At, Over}
use Rattle.afm.specs.declared.fault.LineFault.{LineFault}
use Rattle.afm.specs.declared.fault.LineFault.TheVariants.{Misplaced, Field, Again, UnknownName, NoSlot, Count}

abbrev pub line_fault_number : LineFault → ℕ
line_fault_number Misplaced = 10
line_fault_number Field = 11
line_fault_number Again = 12
line_fault_number UnknownName = 13
line_fault_number (NoSlot full) = 14
line_fault_number Count = 15

abbrev pub number : AfmFault → ℕ
number (At at fault) = line_fault_number fault
number (Over at) = 15

abbrev pub line : AfmFault → ℕ
line (At at fault) = at
line (Over at) = at

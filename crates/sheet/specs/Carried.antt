-- The fault of a layout inside the fault of a replace.
use Rattle.layout.specs.declared.laying.LayFault.{LayFault}
use Rattle.layout.specs.declared.laying.LayFault.TheVariants as layout
use Rattle.sheet.specs.declared.fault.ReplaceFault.{ReplaceFault}
use Rattle.sheet.specs.declared.fault.ReplaceFault.TheVariants.{NoGlyph, TooManyRows}

abbrev pub replace_fault : LayFault → ReplaceFault
replace_fault (layout.NoGlyph u) = NoGlyph u
replace_fault layout.TooManyRows = TooManyRows

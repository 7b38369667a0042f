-- What a refused line of a script tells: a number, and then what it tells besides.
use Rattle.std.specs.Prelude.{ℕ, List, [], ◌∷◌}
use Rattle.layout.specs.Covers.{told}
use Rattle.sheet.specs.Faults.{replace_told, remeasure_told, settle_told, row_told}
use Rattle.script.specs.declared.fault.CommandFault.{CommandFault}
use Rattle.script.specs.declared.fault.CommandFault.TheVariants.{NoCommand, NoMeasure, Replace, Remeasure, Settle, Row}
use Rattle.script.specs.declared.told.Told.{Told}
use Rattle.script.specs.declared.told.Told.TheVariants.{Number, NoGlyph}

abbrev pub command_told : CommandFault → List ℕ
command_told (NoCommand e) = 16 ∷ []
command_told (NoMeasure e) = 6 ∷ []
command_told (Replace e) = replace_told e
command_told (Remeasure e) = remeasure_told e
command_told (Settle e) = settle_told
command_told (Row e) = row_told e

-- what is told, as it is written
abbrev pub told_words : Told → List ℕ
told_words (Number n) = n ∷ []
told_words (NoGlyph u) = told u

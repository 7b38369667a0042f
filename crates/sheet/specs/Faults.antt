-- What each call of a sheet answers: what was asked for, or a number and then what it tells.
use Rattle.std.specs.Prelude.{ℕ, List, [], ◌∷◌, Ok, Err, Result}
use Rattle.page.specs.declared.row.Row.{Row}
use Rattle.layout.specs.Covers.{told}
use Rattle.reflow.specs.declared.repaint.Repaint.{Repaint}
use Rattle.sheet.specs.Clean.{Answer}
use Rattle.sheet.specs.Clean.Answer.{accepted, refused, settled, shown}
use Rattle.sheet.specs.declared.fault.ReplaceFault.{ReplaceFault}
use Rattle.sheet.specs.declared.fault.ReplaceFault.TheVariants as replace
use Rattle.sheet.specs.declared.fault.RemeasureFault.{RemeasureFault}
use Rattle.sheet.specs.declared.fault.RemeasureFault.TheVariants as remeasure
use Rattle.sheet.specs.declared.fault.RowFault.{RowFault}
use Rattle.sheet.specs.declared.fault.RowFault.TheVariants as row

abbrev pub replace_told : ReplaceFault → List ℕ
replace_told replace.Owed = 1 ∷ []
replace_told replace.OutOfText = 2 ∷ []
replace_told replace.TooLong = 3 ∷ []
replace_told (replace.NoGlyph u) = told u
replace_told replace.TooManyRows = 5 ∷ []

abbrev pub remeasure_told : RemeasureFault → List ℕ
remeasure_told remeasure.Owed = 1 ∷ []
remeasure_told remeasure.TooManyRows = 5 ∷ []

abbrev pub settle_told : List ℕ
settle_told = 7 ∷ []

abbrev pub row_told : RowFault → List ℕ
row_told row.NoSuchRow = 8 ∷ []
row_told row.ShortBuffer = 9 ∷ []

-- what each call answers, by its result
abbrev pub replace_answer : {S : Type 0} → Result S ReplaceFault → Answer
replace_answer (Ok _) = accepted
replace_answer (Err e) = refused (replace_told e)

abbrev pub remeasure_answer : {S : Type 0} → Result S RemeasureFault → Answer
remeasure_answer (Ok _) = accepted
remeasure_answer (Err e) = refused (remeasure_told e)

-- p is what the caller's record holds afterwards
abbrev pub settle_answer : {E : Type 0} → Result (Unit {0}) E → Repaint → Answer
settle_answer (Ok _) p = settled p
settle_answer (Err e) p = refused settle_told

-- b is what the caller's buffer holds afterwards
abbrev pub row_answer : Result Row RowFault → List ℕ → Answer
row_answer (Ok r) b = shown r b
row_answer (Err e) b = refused (row_told e)

-- refused before anything is asked of the measurer
abbrev pub Early : ReplaceFault → Type 0
Early replace.Owed = Unit {0}
Early replace.OutOfText = Unit {0}
Early replace.TooLong = Unit {0}
Early (replace.NoGlyph u) = ⊥
Early replace.TooManyRows = ⊥

abbrev pub EarlyMeasure : RemeasureFault → Type 0
EarlyMeasure remeasure.Owed = Unit {0}
EarlyMeasure remeasure.TooManyRows = ⊥

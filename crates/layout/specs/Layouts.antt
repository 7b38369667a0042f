-- All rows of a text, and when there are too many.
use Rattle.std.specs.Prelude.{ℕ, zero, suc, ◌+◌, List, [], ◌∷◌, length, Some, None, Ok, Err, Result}
use Rattle.metrics.specs.Meaning.{Meaning}
use Rattle.layout.specs.Covers.{told}
use Rattle.page.specs.Policies.{Rules}
use Rattle.page.specs.Rows.{following}
use Rattle.layout.specs.Scans.{row_from}
use Rattle.layout.specs.declared.laying.LayFault.{LayFault}
use Rattle.layout.specs.declared.laying.LayFault.TheVariants.{NoGlyph, TooManyRows}
use Rattle.page.specs.declared.row.Row.{Row}

-- the most rows that a layout has
abbrev pub most_rows : ℕ
most_rows = 1024

-- what a refused layout tells, its number first
abbrev pub lay_told : LayFault → List ℕ
lay_told (NoGlyph u) = told u
lay_told TooManyRows = 5 ∷ []

-- the rows that were laid, and how it ended
pub record Laid : Type 0 where
  pub rows : List Row
  pub answer : Result (Unit {0}) LayFault

-- nothing more is laid
abbrev pub over : LayFault → Laid
over e = record { rows = []; answer = Err e }

-- one row, and what is laid after it
abbrev pub then_laid : Row → Laid → Laid
then_laid r l = record { rows = r ∷ l.rows; answer = l.answer }

-- the rows of t from s on, at most `room` of them: each starts where the one before lets it
unfoldable pub laid_from : Meaning → Rules → ℕ → List ℕ → ℕ → ℕ → Laid
laid_from m P w t zero s = over TooManyRows
laid_from m P w t (suc room) s =
    elim (row_from m P w t s) [
      | Err u ↦ over (NoGlyph u)
      | Ok r ↦ elim (following r) [
        | None ↦ record { rows = r ∷ []; answer = Ok tt }
        | Some s' ↦ then_laid r (laid_from m P w t room s')
      ]
    ]

-- the layout of the whole text
abbrev pub laid : Meaning → Rules → ℕ → List ℕ → Laid
laid m P w t = laid_from m P w t most_rows 0

-- a row that met a character without a glyph was broken too
abbrev pub missed : Result (Unit {0}) LayFault → ℕ
missed (Ok _) = 0
missed (Err (NoGlyph u)) = 1
missed (Err TooManyRows) = 0

-- how many rows were broken for it: one for each row, and the one that failed
abbrev pub broken_for : Laid → ℕ
broken_for l = length l.rows + missed l.answer

-- Setting a text: its rows, or why it is refused.
use Rattle.std.specs.Prelude.{◌≡◌, ℕ, ◌<◌, ◌≤◌, true, false, List, [], length, Some, None, Ok, Err, Option, Result, ◌≢◌}
use Rattle.metrics.specs.Meaning.{Meaning, missing}
use Rattle.layout.specs.Covers.{Covered, first_uncovered}
use Rattle.layout.specs.FirstFit.{RowsFrom}
use Rattle.layout.specs.Layouts.{Laid, laid, lay_told, most_rows}
use Rattle.page.specs.Policies.{Rules}
use Rattle.page.specs.Texts.{seen, newline}
use Rattle.layout.specs.declared.cover.Uncovered.{Uncovered}
use Rattle.layout.specs.declared.laying.LayFault.{LayFault}
use Rattle.layout.specs.declared.laying.LayFault.TheVariants.{NoGlyph, TooManyRows}
use Rattle.page.specs.declared.row.Row.{Row}
use Rattle.layout.specs.declared.setting.SetFault.{SetFault}
use Rattle.layout.specs.declared.setting.SetFault.TheVariants.{Refused, Memory}

-- the rows, if the layout was not refused
abbrev pub rows_if : Result (Unit {0}) LayFault → List Row → Result (List Row) LayFault
rows_if (Ok _) rs = Ok rs
rows_if (Err e) rs = Err e

-- a character without a glyph is refused before anything is laid
abbrev pub set_by : Option Uncovered → Laid → Result (List Row) LayFault
set_by (Some u) l = Err (NoGlyph u)
set_by None l = rows_if l.answer l.rows

abbrev pub setting_of : Meaning → Rules → ℕ → List ℕ → Result (List Row) LayFault
setting_of m P w t = set_by (first_uncovered m 0 t) (laid m P w t)

-- what a refusal of the program tells, its number first; want of memory has none
abbrev pub set_told : SetFault → List ℕ
set_told (Refused e) = lay_told e
set_told Memory = []

-- only want of memory stands between the answer and what it should be
abbrev pub RefusalOf : Result (List Row) LayFault → SetFault → Type 0
RefusalOf a (Refused e) = a ≡ Err e
RefusalOf a Memory = Unit {0}

-- the rows of an accepted text, in the typesetter's words
pub record Accepted (m : Meaning) (P : Rules) (w : ℕ) (t : List ℕ) (rs : List Row) : Type 0 where
  pub covered : Covered m t
  pub first_fit : RowsFrom m P w t 0 rs
  pub only : (rs' : List Row) → RowsFrom m P w t 0 rs' → rs' ≡ rs
  pub few : length rs ≤ most_rows

-- u tells the first character of t, newlines aside, that has no glyph
pub record TellsFirst (m : Meaning) (t : List ℕ) (u : Uncovered) : Type 0 where
  pub code : ℕ
  pub stands : seen t u.offset ≡ Some code
  pub no_newline : code ≡ newline → ⊥
  pub uncovered : m.covers code ≡ false
  pub told : u.glyph ≡ missing m code
  pub first : (k c : ℕ) → k < u.offset → seen t k ≡ Some c → (c ≢ newline) → m.covers c ≡ true

-- why a text is refused, in the typesetter's words
abbrev pub RightlyRefused : Meaning → Rules → ℕ → List ℕ → LayFault → Type 0
RightlyRefused m P w t (NoGlyph u) = TellsFirst m t u
RightlyRefused m P w t TooManyRows = Covered m t × ((rs : List Row) → RowsFrom m P w t 0 rs → most_rows < length rs)

abbrev pub RightlyNotSet : Meaning → Rules → ℕ → List ℕ → SetFault → Type 0
RightlyNotSet m P w t (Refused e) = RightlyRefused m P w t e
RightlyNotSet m P w t Memory = Unit {0}

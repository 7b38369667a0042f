-- A text in its rows.
use Rattle.std.specs.Prelude.{◌≡◌, ℕ, List}
use Rattle.page.specs.declared.row.Row.{Row}
use Rattle.layout.specs.Covers.{Covered}
use Rattle.layout.specs.Styles.{Style}
use Rattle.reflow.specs.Edits.{rows_of}

-- every character of the text but the newline has a glyph, and the rows are its rows by first fit
pub record Laid (k : Style) (t : List ℕ) (rows : List Row) : Type 0 where
  pub covered : Covered k.meaning t
  pub first_fit : rows ≡ rows_of k.meaning k.rules k.measure t

-- A screen that follows the records.
use Rattle.std.specs.Prelude.{ℕ, ◌+◌, cond, List, [], ◌∷◌, ◌++◌, map, take, drop}
use Rattle.metrics.specs.Meaning.{Meaning}
use Rattle.layout.specs.Widths.{edges as edges_of}
use Rattle.page.specs.Texts.{part}
use Rattle.page.specs.declared.ending.Ending.{Ending}
use Rattle.page.specs.declared.ending.Ending.TheVariants.{End}
use Rattle.page.specs.declared.row.Row.{Row}
use Rattle.reflow.specs.declared.repaint.Repaint.{Repaint}

-- a row as it is shown: its characters, the edge behind each, and the ending
pub record Shown : Type 0 where
  pub chars : List ℕ
  pub edges : List ℕ
  pub ending : Ending

abbrev pub shown : Meaning → List ℕ → Row → Shown
shown m t r = record { chars = part t r.start r.end; edges = edges_of m (part t r.start r.end); ending = r.ending }

-- all rows of a sheet, painted
abbrev pub painted : Meaning → List ℕ → List Row → List Shown
painted m t rs = map (shown m t) rs

-- a screen before anything is painted: one empty row
abbrev pub blank : List Shown
blank = record { chars = []; edges = []; ending = End } ∷ []

-- the screen after a record is followed, painting from a sheet's rows
abbrev pub followed : Repaint → List Shown → List Shown → List Shown
followed p sheet screen = cond p.whole sheet (take p.from screen ++ (take p.put (drop p.from sheet) ++ drop (p.from + p.removed) screen))

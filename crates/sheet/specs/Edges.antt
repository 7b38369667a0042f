-- The edges of a row's characters, as a clean sheet tells them.
use Rattle.std.specs.Prelude.{ℕ, ◌-◌, true, false, List, [], ◌∷◌, ◌++◌, length, drop, Some, None, Option, nat_le}
use Rattle.std.specs.List.{slice_get}
use Rattle.metrics.specs.Meaning.{Meaning}
use Rattle.page.specs.Texts.{part}
use Rattle.page.specs.declared.row.Row.{Row}
use Rattle.layout.specs.Widths.{edges as edges_of}
use Rattle.sheet.specs.Clean.{Making, Clean, Answer, clean_rows}
use Rattle.sheet.specs.Clean.Answer.{refused, shown}

-- the edges of a row at the front of the slice
abbrev pub measured : Meaning → List ℕ → Row → List ℕ → List ℕ
measured m t r edges = edges_of m (part t r.start r.end) ++ drop (r.end - r.start) edges

abbrev pub edges_by : Making → Clean → Option Row → List ℕ → Answer
edges_by k c None edges = refused (8 ∷ [])
edges_by k c (Some r) edges = elim (nat_le (r.end - r.start) (length edges)) [
  | false ↦ refused (9 ∷ [])
  | true ↦ shown r (measured k.meaning c.text r edges)
]

-- what is answered of the edges of row i, and what the slice then holds
abbrev pub edges_step : Making → Clean → ℕ → List ℕ → Answer
edges_step k c i edges = edges_by k c (slice_get (clean_rows k c) i) edges

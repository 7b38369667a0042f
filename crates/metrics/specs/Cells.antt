-- Cells of size w: the codes 32 to 126, each with advance w after anything.
use Rattle.std.specs.Prelude.{ℕ, ◌≤◌, ◌&&◌, nat_le}
use Rattle.metrics.specs.Meaning.{Meaning}

abbrev pub CellSizes : ℕ → Type 0
CellSizes w = (1 ≤ w) × (w ≤ 2000)

abbrev pub cells_meaning : ℕ → Meaning
cells_meaning w = record { covers = λ c. nat_le 32 c && nat_le c 126; adv = λ _ _. w; depth = λ _. 0 }

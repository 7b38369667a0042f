-- The range of the measure.
use Rattle.std.specs.Prelude.{ℕ, ◌≤◌}

abbrev pub Measures : ℕ → Type 0
Measures w = (1 ≤ w) × (w ≤ 60000)

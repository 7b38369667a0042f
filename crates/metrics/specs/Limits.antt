-- Advances and depths kept within their ranges.
use Rattle.std.specs.Prelude.{ℕ, ◌+◌, min, ℤ, pos, negsuc}
use Rattle.metrics.specs.Meaning.{most_advance, most_depth}

-- a sum below 0 counts as 0, one above the greatest advance as that
abbrev pub cut : ℤ → ℕ
cut (pos n) = min n most_advance
cut (negsuc n) = 0

-- one layer further down
abbrev pub deeper : ℕ → ℕ
deeper d = min most_depth (1 + d)

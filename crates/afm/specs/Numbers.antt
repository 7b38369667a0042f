-- Numbers in a range.
use Rattle.std.specs.Prelude.{cond, ◌&&◌, ℤ, Some, None, Option, int_le}

abbrev pub in_range : ℤ → ℤ → ℤ → Option ℤ
in_range low high n = cond (int_le low n && int_le n high) (Some n) None

-- a number, if it lies in a range
abbrev pub within : ℤ → ℤ → Option ℤ → Option ℤ
within low high None = None
within low high (Some n) = in_range low high n

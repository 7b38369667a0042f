-- Numbers as they are written: in decimal digits, the first of them not 0 unless it stands alone.
use Rattle.std.specs.Prelude.{◌≡◌, ℕ, ◌+◌, ◌/◌, ◌%◌, ◌^◌, ◌<◌, List, reverse, length, drop, Some, slice_index}
use Rattle.numerals.specs.Reading.{digits}
use Rattle.numerals.specs.declared.decimal.Decimal.{Decimal}

-- the digits from its start on
abbrev pub figures : Decimal → List ℕ
figures d = drop d.start d.digits

-- the digit j from the end, the last being digit 0, is n divided by ten j times, rounded down, and
-- of that the remainder by ten
abbrev pub ByPlaces : ℕ → List ℕ → Type 0
ByPlaces n ds = (j : ℕ) → j < length ds → slice_index (reverse ds) j ≡ 48 + (n / 10 ^ j) % 10

-- read from the left the digits give n
abbrev pub GivesBack : ℕ → List ℕ → Type 0
GivesBack n ds = digits 0 ds ≡ Some n

-- there is a digit, and the first is 0 only where it is the only one and n is 0
abbrev pub WithoutLeadingZero : ℕ → List ℕ → Type 0
WithoutLeadingZero n ds = (0 < length ds) × (slice_index ds 0 ≡ 48 → (n ≡ 0) × (length ds ≡ 1))

-- ds are the bytes of the digits of n
pub record Digits (n : ℕ) (ds : List ℕ) : Type 0 where
  pub by_places : ByPlaces n ds
  pub gives_back : GivesBack n ds
  pub without_leading_zero : WithoutLeadingZero n ds

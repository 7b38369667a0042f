-- Rows that there is room for.
use Rattle.std.specs.Prelude.{ℕ, ◌-◌, cond, min, Some, None, Ok, Err, Option, Result, nat_le}
use Rattle.page.specs.declared.row.Row.{Row}
use Rattle.sheet.specs.declared.fault.RowFault.{RowFault}
use Rattle.sheet.specs.declared.fault.RowFault.TheVariants.{NoSuchRow, ShortBuffer}

-- the row as far as it lies within a text of that length
abbrev pub within : ℕ → Row → Row
within n r = record { start = min r.start (min r.end n); end = min r.end n; ending = r.ending; width = r.width; reach = r.reach }

-- the row, if there is one and `room` characters can hold it
abbrev pub fitted : ℕ → Option Row → Result Row RowFault
fitted room None = Err NoSuchRow
fitted room (Some r) = cond (nat_le (r.end - r.start) room) (Ok r) (Err ShortBuffer)

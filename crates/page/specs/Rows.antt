-- Where the row after a row starts: at its end after a wrap or a cut, behind the newline after a
-- newline, nowhere after the end of the text.
use Rattle.std.specs.Prelude.{ℕ, ◌+◌, Some, None, Option}
use Rattle.page.specs.declared.ending.Ending.{Ending}
use Rattle.page.specs.declared.ending.Ending.TheVariants.{Wrapped, Cut, Newline, End}
use Rattle.page.specs.declared.row.Row.{Row}

abbrev pub next_after : Ending → ℕ → Option ℕ
next_after Wrapped e = Some e
next_after Cut e = Some e
next_after Newline e = Some (e + 1)
next_after End e = None

abbrev pub following : Row → Option ℕ
following r = next_after r.ending r.end

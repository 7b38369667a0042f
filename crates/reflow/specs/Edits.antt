-- All rows of a text, and rows behind an edit.
use Rattle.std.specs.Prelude.{ℕ, suc, ◌+◌, ◌-◌, ◌≤◌, List, length}
use Rattle.metrics.specs.Meaning.{Meaning}
use Rattle.page.specs.Policies.{Rules}
use Rattle.page.specs.declared.row.Row.{Row}
use Rattle.layout.specs.Layouts.{laid_from}

-- all rows of a text, however many: a row passes at least one place, so there are no more of them
-- than places
abbrev pub rows_of : Meaning → Rules → ℕ → List ℕ → List Row
rows_of m P w t = (laid_from m P w t (suc (length t)) 0).rows

-- a row behind an edit that put `ins` characters in place of `del`
abbrev pub resumed : ℕ → ℕ → Row → Row
resumed del ins r = record { start = r.start - del + ins; end = r.end - del + ins; ending = r.ending; width = r.width; reach = r.reach - del + ins }

-- a row within a text, as those that were laid are
abbrev pub Small : Row → Type 0
Small r = (r.start ≤ 4097) × (r.end ≤ 4097) × (r.reach ≤ 4097)

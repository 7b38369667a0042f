use Rattle.std.proofs.Common.{◌≡◌, ◌+◌, ◌++◌, List, take, length}
use Rattle.std.specs.List.{AllZip}
use Rattle.page.specs.declared.row.Row.{Row}
use Rattle.reflow.proofs.carrying.append.Given as goal

abbrev pub invariant-loop-row : goal.invariant-loop-row
invariant-loop-row g l =
    (length l.rows.rows.items ≡ length l.initial.rows.rows.items + l.row-index)
    × ((new : List Row) × (l.rows.rows.items ≡ l.initial.rows.rows.items ++ new) × AllZip (goal.F-post g l.becomes) (take l.row-index l.old) new)

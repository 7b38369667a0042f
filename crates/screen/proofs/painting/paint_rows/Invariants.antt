use Rattle.std.proofs.Common.{◌≡◌, ◌-◌, map, take, drop, vec_items}
use Rattle.sheet.specs.Clean.{Making}
use Rattle.sheet.specs.Histories.{Unchanged, Follows, History, clean_after, clean_screen}
use Rattle.sheet.specs.States.{state}
use Rattle.screen.specs.Views.{shown_row}
use Rattle.screen.proofs.painting.paint_rows.Given as goal

-- The rows so far are painted, and the sheet is as it was.
abbrev pub invariant-rows : goal.invariant-rows
invariant-rows g l =
    let was = state g.M.Measurer.meaning g.M.Measurer.sound g.P.Policy.rules l.initial.sheet in
    Unchanged was (state g.M.Measurer.meaning g.M.Measurer.sound g.P.Policy.rules l.sheet)
    × ((k : Making) (h : History) → Follows k h was → map shown_row (vec_items l.painted) ≡ take (l.number - l.from) (drop l.from (clean_screen k (clean_after k h))))

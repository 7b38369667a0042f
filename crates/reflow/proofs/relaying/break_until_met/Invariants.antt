use Rattle.std.proofs.Common.{◌≡◌, ◌+◌, ◌-◌, ◌%◌, ◌^◌, ◌<◌, ◌≤◌, List, length}
use Rattle.page.specs.declared.row.Row.{Row}
use Rattle.layout.specs.Layouts.{most_rows}
use Rattle.layout.specs.Styles.{style}
use Rattle.reflow.specs.Relaying.{Before, Changed, Underway}
use Rattle.reflow.proofs.relaying.break_until_met.Given as goal

-- The rows in the list are the first of the new ones, and the next starts at `start`; the old rows
-- before `from` started before that.
abbrev pub invariant-rows : goal.invariant-rows
invariant-rows g l =
    let t = g.T.Characters.chars l.text in
    let k = style g.M.Measurer.meaning g.P.Policy.rules l.initial.setter in
    let done = l.rows.rows.items in
    let first = l.initial.rows.rows.items in
    (style g.M.Measurer.meaning g.P.Policy.rules l.setter ≡ k)
    × (length first ≤ length done)
    × (l.initial.setter.tally < 2 ^ 64 → l.setter.tally ≡ (l.initial.setter.tally + (length done - length first)) % 2 ^ 64)
    × (g.M.Measurer.sound l.initial.setter.measurer → (new : List Row) → Changed k.meaning k.rules k.measure t l.edit l.old new → Underway k.meaning k.rules k.measure t l.edit l.old new first l.initial.start
    → Underway k.meaning k.rules k.measure t l.edit l.old new done l.start)
    × (g.M.Measurer.sound l.initial.setter.measurer → (new : List Row) → Changed k.meaning k.rules k.measure t l.edit l.old new → Underway k.meaning k.rules k.measure t l.edit l.old new first l.initial.start
    → Before l.old l.from (l.start - l.edit.ins + l.edit.del))
    × (l.setter.policy ≡ l.initial.setter.policy)
    × (g.M.Measurer.lenders l.setter.measurer ≡ g.M.Measurer.lenders l.initial.setter.measurer)
    × (g.M.Measurer.sound l.initial.setter.measurer → g.M.Measurer.sound l.setter.measurer)

abbrev pub decreases-rows : goal.decreases-rows
decreases-rows g l = most_rows - length l.rows.rows.items

use Rattle.std.proofs.Common.{◌≡◌, ◌+◌, ◌-◌, ◌%◌, ◌^◌, ◌<◌, ◌≤◌, length}
use Rattle.layout.specs.Layouts.{laid, laid_from, most_rows}
use Rattle.layout.specs.Styles.{style}
use Rattle.layout.proofs.LayoutSteps.{behind}
use Rattle.layout.proofs.setter.Setter.lay.Given as goal

-- What is laid already, and then from `start` on, is the layout.
abbrev pub invariant-rows : goal.invariant-rows
invariant-rows g l =
    let t = g.T.Characters.chars l.text in
    let k = style g.M.Measurer.meaning g.P.Policy.rules l.initial.self in
    let done = l.rows.rows.items in
    (style g.M.Measurer.meaning g.P.Policy.rules l.self ≡ k)
    × (g.M.Measurer.sound l.initial.self.measurer → g.M.Measurer.sound l.self.measurer)
    × (g.M.Measurer.sound l.initial.self.measurer → l.start ≤ length t)
    × (g.M.Measurer.sound l.initial.self.measurer → behind done (laid_from k.meaning k.rules k.measure t (most_rows - length done) l.start) ≡ laid k.meaning k.rules k.measure t)
    × (length done ≡ 0 → l.self.tally ≡ l.initial.self.tally)
    × (0 < length done → l.self.tally ≡ (l.initial.self.tally + length done) % 2 ^ 64)
    × (l.self.policy ≡ l.initial.self.policy)
    × (g.M.Measurer.lenders l.self.measurer ≡ g.M.Measurer.lenders l.initial.self.measurer)

abbrev pub decreases-rows : goal.decreases-rows
decreases-rows g l = most_rows - length l.rows.rows.items

use Rattle.std.proofs.Common.{◌≡◌, ◌-◌, ◌*◌, ◌≤◌, min, length, drop}
use Rattle.layout.specs.Scans.{row_from, scan}
use Rattle.layout.specs.Styles.{style}
use Rattle.layout.proofs.setter.Setter.break_row.Given as goal

-- What is left of the text gives the row; the edge has room for one more advance.
abbrev pub invariant-scan : goal.invariant-scan
invariant-scan g l =
    let t = g.T.Characters.chars l.text in
    let k = style g.M.Measurer.meaning g.P.Policy.rules l.initial.self in
    let s = min l.start (length t) in
    (l.scan.place ≤ length t)
    × (l.scan.edge ≤ 65535 * l.scan.place)
    × (style g.M.Measurer.meaning g.P.Policy.rules l.self ≡ k)
    × (l.self.tally ≡ l.initial.self.tally)
    × (g.M.Measurer.sound l.initial.self.measurer → scan k.meaning k.rules k.measure l.scan (drop l.scan.place t) ≡ row_from k.meaning k.rules k.measure t s)
    × (l.self.policy ≡ l.initial.self.policy)
    × (g.M.Measurer.lenders l.self.measurer ≡ g.M.Measurer.lenders l.initial.self.measurer)
    × (g.M.Measurer.sound l.initial.self.measurer → g.M.Measurer.sound l.self.measurer)

abbrev pub decreases-scan : goal.decreases-scan
decreases-scan g l = length (g.T.Characters.chars l.text) - l.scan.place

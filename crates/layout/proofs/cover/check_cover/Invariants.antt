use Rattle.std.proofs.Common.{◌≡◌, drop}
use Rattle.layout.specs.Covers.{first_uncovered}
use Rattle.layout.proofs.cover.check_cover.Given as goal

-- What is left gives the answer.
abbrev pub invariant-loop-offset : goal.invariant-loop-offset
invariant-loop-offset g l =
    let m = g.M.Measurer.meaning l.initial.measurer in
    (g.M.Measurer.meaning l.measurer ≡ m)
    × (g.M.Measurer.sound l.initial.measurer → g.M.Measurer.sound l.measurer)
    × (g.M.Measurer.sound l.initial.measurer → first_uncovered m l.offset (drop l.offset l.chars) ≡ first_uncovered m 0 l.chars)
    × (g.M.Measurer.lenders l.measurer ≡ g.M.Measurer.lenders l.initial.measurer)

use Rattle.std.proofs.Common.{◌≡◌, ◌*◌, ◌≤◌, ◌++◌, take, drop}
use Rattle.page.specs.Texts.{part}
use Rattle.layout.specs.Covers.{AllCovered}
use Rattle.layout.specs.Widths.{edges, edges_from}
use Rattle.layout.proofs.edges.write_edges.Given as goal

-- What is written, and then the edges of what is left, are the edges.
abbrev pub invariant-turn : goal.invariant-turn
invariant-turn g l =
    let m = g.M.Measurer.meaning l.initial.measurer in
    let cs = part (g.T.Characters.chars l.text) l.start l.end in
    (g.M.Measurer.meaning l.measurer ≡ m)
    × (g.M.Measurer.sound l.initial.measurer → g.M.Measurer.sound l.measurer)
    × (l.edge ≤ 65535 * l.i)
    × (drop l.i l.edges ≡ drop l.i l.initial.edges)
    × (g.M.Measurer.lenders l.measurer ≡ g.M.Measurer.lenders l.initial.measurer)
    × (g.M.Measurer.sound l.initial.measurer → AllCovered m cs → take l.i l.edges ++ edges_from m l.edge l.before (drop l.i cs) ≡ edges m cs)

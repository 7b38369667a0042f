use Rattle.std.proofs.Common.{◌≡◌, length}
use Rattle.layout.specs.Widths.{trimmed}
use Rattle.preview.proofs.drawing.unhung.Given as goal

abbrev pub invariant-trim : goal.invariant-trim
invariant-trim g l = trimmed (g.P.Policy.rules l.policy) l.kept ≡ trimmed (g.P.Policy.rules l.policy) l.chars

abbrev pub decreases-trim : goal.decreases-trim
decreases-trim g l = length l.kept

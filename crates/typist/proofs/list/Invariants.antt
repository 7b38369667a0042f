use Rattle.std.proofs.Common.{◌≡◌, length}
use Rattle.typist.proofs.list.Given as goal

-- The buffer keeps its length.
abbrev pub invariant-loop-number : goal.invariant-loop-number
invariant-loop-number g l = length l.chars ≡ 4096

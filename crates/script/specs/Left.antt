-- What is left of a script.
use Rattle.std.specs.Prelude.{ℕ, List}
use Rattle.script.specs.Lines.{lines}
use Rattle.script.specs.declared.lines.Lines.{Lines}

-- the lines that are still to come
abbrev pub lines_left : Lines → List (List ℕ)
lines_left s = lines s.rest.now

-- What the code answers, as the commands of the grammar.
use Rattle.std.specs.Prelude.{ℕ, List, Some, None, Ok, Err, Option, Result}
use Rattle.std.specs.Borrow.{Bor}
use Rattle.script.specs.Commands.{Command}
use Rattle.script.specs.Commands.Command.{replace, remeasure, refresh, show}
use Rattle.script.specs.declared.command.Command as code
use Rattle.script.specs.declared.command.Command.TheVariants.{Replace, Measure, Refresh, Show}
use Rattle.script.specs.declared.command.NoCommand.{NoCommand}

-- what a command asks for
abbrev pub asked : code.Command → Command
asked (Replace at del text) = replace at del text.now
asked (Measure units) = remeasure units
asked Refresh = refresh
asked (Show row) = show row

-- a refused line is none of them
abbrev pub answered : Result code.Command NoCommand → Option Command
answered (Ok c) = Some (asked c)
answered (Err e) = None

-- a number, and the bytes that follow it
abbrev pub asked_number : ℕ × Bor (List ℕ) → ℕ × List ℕ
asked_number p = (p.0, p.1.now)

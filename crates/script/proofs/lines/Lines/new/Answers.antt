use Rattle.std.proofs.Common.{refl}
use Rattle.script.proofs.LineSteps.{line_laws}
use Rattle.script.proofs.lines.Lines.new.Goals as goal

pub returns : goal.returns
returns c = record { start = refl; laws = line_laws }

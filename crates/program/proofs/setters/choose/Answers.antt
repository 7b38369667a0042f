use Rattle.std.proofs.Common.{rules}
use Rattle.program.proofs.setters.choose.Goals as goal

pub returns : goal.returns
returns c = (search rules, rw c.new-4.ensures.0 c.pile-measurer.ensures.sound.right)

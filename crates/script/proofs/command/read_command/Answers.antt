use Rattle.std.proofs.Common.{◌≡◌, Some, None, Option, refl, ap, ◌∙◌}
use Rattle.std.specs.Option.{option_map, ok_or}
use Rattle.script.specs.Asked.{asked, answered}
use Rattle.script.specs.declared.command.Command as code
use Rattle.script.specs.declared.command.NoCommand.{NoCommand}
use Rattle.script.proofs.Grammar.{command_laws}
use Rattle.script.proofs.command.read_command.Goals as goal

answered_or : (o : Option code.Command) (e : NoCommand) → answered (ok_or o e) ≡ option_map asked o
answered_or None e = refl
answered_or (Some c) e = refl

pub returns : goal.returns
returns c =
    record {
      value = ap answered c.ok_or.ensures.value ∙ answered_or c.read.result _ ∙ c.read.ensures;
      laws = command_laws;
    }

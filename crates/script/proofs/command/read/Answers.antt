use Rattle.std.proofs.Common.{ap, ◌∙◌, rules}
use Rattle.std.proofs.lemmas.List.{take_rest}
use Rattle.std.specs.Option.{option_map}
use Rattle.numerals.specs.Reading.{magnitude}
use Rattle.script.specs.Commands.Command.{remeasure, show}
use Rattle.script.specs.Reading.{replacing}
use Rattle.script.proofs.ReadSteps.{r_at, m_at, s_at, f_at, none_short, none_spaced, none_lettered}
use Rattle.script.proofs.command.read.Goals as goal
use Rattle.script.proofs.command.read.Goals.{in_default-via-then-line-lt1, in_default-via-else-line-lt1+then-line-lt2+in_default-1, in_default-via-else-line-lt1+else-line-lt2+in-82+in_default-1, in_default-via-else-line-lt1+else-line-lt2+in-77+in_default-1, in_default-via-else-line-lt1+else-line-lt2+in-83+in_default-1, in_default-via-else-line-lt1+else-line-lt2+in_default-1}

pub returns-in_err-magnitude-in-77 : goal.returns-in_err-magnitude-in-77
returns-in_err-magnitude-in-77 c =
    rw c.from_residual.ensures (ap (option_map remeasure) (c.in_err-magnitude-in-77.ensures.value ∙ ap magnitude (take_rest c.args.line.now 2)) ∙ m_at c.args.line.now (search rules) (search rules) (search rules))

pub returns-in_err-magnitude-in-83 : goal.returns-in_err-magnitude-in-83
returns-in_err-magnitude-in-83 c =
    rw c.from_residual-in_err-magnitude-in-83.ensures (ap (option_map show) (c.in_err-magnitude-in-83.ensures.value ∙ ap magnitude (take_rest c.args.line.now 2)) ∙ s_at c.args.line.now (search rules) (search rules) (search rules))

pub returns-in-70 : goal.returns-in-70
returns-in-70 c = f_at c.args.line.now (search rules) (search rules)

pub returns-in-82 : goal.returns-in-82
returns-in-82 c = c.read_replace.ensures ∙ ap replacing (take_rest c.args.line.now 2) ∙ r_at c.args.line.now (search rules) (search rules) (search rules)

pub returns-in_ok-magnitude-in-77 : goal.returns-in_ok-magnitude-in-77
returns-in_ok-magnitude-in-77 c =
    ap (option_map remeasure) (c.in_ok-magnitude-in-77.ensures.value ∙ ap magnitude (take_rest c.args.line.now 2)) ∙ m_at c.args.line.now (search rules) (search rules) (search rules)

pub returns-in_ok-magnitude-in-83 : goal.returns-in_ok-magnitude-in-83
returns-in_ok-magnitude-in-83 c =
    ap (option_map show) (c.in_ok-magnitude-in-83.ensures.value ∙ ap magnitude (take_rest c.args.line.now 2)) ∙ s_at c.args.line.now (search rules) (search rules) (search rules)

pub returns-in_default : goal.returns-in_default
returns-in_default c =
    let line = c.args.line.now in
    elim c.in_default.branch [
      | in_default-via-then-line-lt1 w ↦ none_short line (search rules) (λ e. search rules)
      | in_default-via-else-line-lt1+then-line-lt2+in_default-1 w ↦ none_short line (search rules) (λ e. search rules)
      | in_default-via-else-line-lt1+else-line-lt2+in-82+in_default-1 w ↦ none_spaced line (search rules) (search rules)
      | in_default-via-else-line-lt1+else-line-lt2+in-77+in_default-1 w ↦ none_spaced line (search rules) (search rules)
      | in_default-via-else-line-lt1+else-line-lt2+in-83+in_default-1 w ↦ none_spaced line (search rules) (search rules)
      | in_default-via-else-line-lt1+else-line-lt2+in_default-1 w ↦ none_lettered line (search rules) (search rules) (search rules) (search rules)
    ]

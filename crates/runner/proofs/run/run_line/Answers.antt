use Rattle.std.proofs.Common.{rules, tests, ◌≡◌, ◌∙◌}
use Rattle.runner.specs.Answers.{outcome_words, answer_words}
use Rattle.runner.proofs.run.run_line.Goals as goal

pub returns : goal.returns
returns g c k h f =
    let took = c.carry_out.ensures k h c.args.number f in
    let same : outcome_words c.args.number c.map_err.result ≡ answer_words c.args.number c.carry_out.result = search (rules, tests) in
    (took.0, same ∙ took.1)

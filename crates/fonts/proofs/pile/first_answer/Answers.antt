use Rattle.std.proofs.Common.{ap, ◌∙◌}
use Rattle.metrics.specs.Meaning.{answer}
use Rattle.fonts.specs.Pile.{piled}
use Rattle.fonts.proofs.pile.first_answer.Goals as goal

pub returns : goal.returns
returns c =
    c.advance.ensures.value c.pile-measurer.ensures.sound
    ∙ ap (λ m. answer m c.args.before c.args.c) (c.pile-measurer.ensures.meaning ∙ ap (λ m. piled m c.args.cells.size c.args.units) c.in_ok-font.ensures)

use Rattle.std.proofs.Common.{Some, sym, ap, ◌∙◌, arith, rules}
use Rattle.std.proofs.lemmas.Int.{ints}
use Rattle.numerals.proofs.Numerals.{integer_minus}
use Rattle.numerals.proofs.reading.integer.Goals as goal

pub returns-in_err-magnitude-in-45 : goal.returns-in_err-magnitude-in-45
returns-in_err-magnitude-in-45 c =
    c.from_residual.ensures ∙ sym (integer_minus c.args.text.now _ (search rules) c.in_err-magnitude-in-45.ensures.value)

pub returns-in_ok-magnitude-in-45 : goal.returns-in_ok-magnitude-in-45
returns-in_ok-magnitude-in-45 c =
    let small = c.in_ok-magnitude-in-45.ensures.bound in
    ap Some (omega (arith, ints)) ∙ sym (integer_minus c.args.text.now _ (search rules) c.in_ok-magnitude-in-45.ensures.value)

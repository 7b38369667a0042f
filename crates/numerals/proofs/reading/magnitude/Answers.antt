use Rattle.std.proofs.Common.{◌≡◌, ◌-◌, true, false, ◌&&◌, leb, get_or, sym, ◌∙◌, arith, rules}
use Rattle.std.proofs.lemmas.Bool.Decides.{nat_tests}
use Rattle.numerals.proofs.Numerals.{digits_more, digits_none, digits_all, magnitude_is, pow_more, pow_most}
use Rattle.numerals.proofs.reading.magnitude.Goals as goal

pub returns-in_default : goal.returns-in_default
returns-in_default c =
    let out : (leb 48 (get_or c.args.text.now c.loop-b.b-index 0) && leb (get_or c.args.text.now c.loop-b.b-index 0) 57) ≡ false = grind (arith, nat_tests) in
    record {
      value = sym (magnitude_is c.args.text.now (search rules) (search rules) ∙ sym c.loop-b.invariant.1 ∙ digits_none _ _ _ c.loop-b-test.true out);
      bound = tt;
    }

pub returns-in_default-2 : goal.returns-in_default-2
returns-in_default-2 c =
    let out : (leb 48 (get_or c.args.text.now c.loop-b.b-index 0) && leb (get_or c.args.text.now c.loop-b.b-index 0) 57) ≡ false = grind (arith, nat_tests) in
    record {
      value = sym (magnitude_is c.args.text.now (search rules) (search rules) ∙ sym c.loop-b.invariant.1 ∙ digits_none _ _ _ c.loop-b-test.true out);
      bound = tt;
    }

pub loop-b-preserved : goal.loop-b-preserved
loop-b-preserved c =
    let digit : (leb 48 (get_or c.args.text.now c.loop-b.b-index 0) && leb (get_or c.args.text.now c.loop-b.b-index 0) 57) ≡ true = grind (arith, nat_tests) in
    rw c.from.ensures (
      pow_more c.loop-b.value (get_or c.args.text.now c.loop-b.b-index 0 - 48) c.loop-b.b-index c.loop-b.invariant.0 (omega arith),
      sym (digits_more _ _ _ c.loop-b-test.true digit) ∙ c.loop-b.invariant.1,
    )

pub returns : goal.returns
returns c =
    record {
      value = sym (magnitude_is c.args.text.now (search rules) (search rules) ∙ sym c.loop-b.invariant.1 ∙ digits_all _ c.args.text.now c.loop-b.b-index (search rules));
      bound = pow_most c.loop-b.value c.loop-b.b-index c.loop-b.invariant.0 (search rules);
    }

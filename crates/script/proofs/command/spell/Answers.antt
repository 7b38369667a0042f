use Rattle.std.proofs.Common.{◌<◌, length, ◌∙◌, arith, rules}
use Rattle.std.proofs.lemmas.List.{length-set}
use Rattle.script.proofs.Spelling.{upto_more, upto_all, upto_full}
use Rattle.script.proofs.command.spell.Goals as goal

pub returns-then-len-ge-MAX_CHARACTERS : goal.returns-then-len-ge-MAX_CHARACTERS
returns-then-len-ge-MAX_CHARACTERS c =
    record {
      value = upto_full c.args.written.now c.characters.spelling c.characters.len c.characters.rest.now c.characters.invariant.2 _ _ c.in_ok-c.ensures.spelt_on (omega arith) c.if-len-ge-MAX_CHARACTERS.true;
      bound = tt;
    }

pub characters-preserved : goal.characters-preserved
characters-preserved c =
    let room : c.characters.len < length c.characters.spelling = omega arith in
    (omega arith, length-set c.characters.spelling _ _ ∙ c.characters.invariant.1, upto_more c.args.written.now c.characters.spelling c.characters.len c.characters.rest.now c.characters.invariant.2 _ _ room c.in_ok-c.ensures.spelt_on)

pub returns : goal.returns
returns c =
    record {
      value = upto_all c.args.written.now c.characters.spelling c.characters.len c.characters.rest.now c.characters.invariant.2 (search rules) (omega arith) c.characters.invariant.0;
      bound = c.characters.invariant.0;
    }

use Rattle.std.proofs.Common.{◌<◌, length, Some, ◌∙◌, arith}
use Rattle.std.proofs.lemmas.List.{length-set}
use Rattle.layers.proofs.Slots.{apart_set, fills_set}
use Rattle.layers.proofs.cache.HeldPairs.keep.Goals as goal

pub invariant_of-self : goal.invariant_of-self
invariant_of-self c =
    let pairs = c.args.self.now in
    let held = c.args.held in
    let room : pairs.next < length pairs.slots = omega arith in record {
      all = length-set pairs.slots pairs.next (Some held) ∙ pairs.all;
      within = omega arith;
      apart = apart_set pairs.slots pairs.next held room c.requires pairs.apart;
      turn = fills_set pairs.slots pairs.next held pairs.all pairs.within pairs.turn;
    }

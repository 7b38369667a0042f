use Rattle.std.proofs.Common.{refl, lit<}
use Rattle.layers.proofs.Slots.{apart_none, fills_none}
use Rattle.layers.proofs.cache.HeldPairs.new.Goals as goal

pub invariant_of-result : goal.invariant_of-result
invariant_of-result c = record { all = refl; within = lit< tt; apart = apart_none 64; turn = fills_none }

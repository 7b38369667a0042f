use Rattle.std.proofs.Common.{ℕ, ◌<◌}
use Rattle.layers.specs.Cache.{At}
use Rattle.layers.proofs.cache.HeldPairs.find.Given as goal

abbrev pub invariant-loop-slot : goal.invariant-loop-slot
invariant-loop-slot l = (k a : ℕ) → k < l.slot-index → At l.self.slots k l.before l.c a → ⊥

use Rattle.std.proofs.Common.{sym, subst}
use Rattle.layers.specs.Cache.{Right}
use Rattle.layers.proofs.Slots.{right_none}
use Rattle.layers.proofs.cache.AdvanceCache.new.Goals as goal

pub returns-clause-sound : goal.returns-clause-sound
returns-clause-sound g c below =
    let m = g.M.Measurer.meaning c.args.below in
    record { below = below; right = subst (Right m) (sym c.new.ensures) (right_none m 64) }

use Rattle.std.proofs.Common.{Ok, sym, subst}
use Rattle.layers.specs.Cache.{Slots, Keeps}
use Rattle.layers.proofs.Slots.{keeps_set}
use Rattle.layers.proofs.cache.AdvanceCacheMeasurer.advance.Goals as goal

pub returns-clause-keeps : goal.returns-clause-keeps
returns-clause-keeps g c =
    let self = c.args.self.now in
    let pairs = self.pairs in
    let p = c.args.before in
    let a = c.in_ok-advance.advance in
    subst (λ (s : Slots). Keeps pairs.slots s self.below c.advance.new.self p c.args.c (Ok a)) (sym c.keep.ensures)
    (keeps_set pairs.slots pairs.next self.below c.advance.new.self p c.args.c _ a pairs.all pairs.within pairs.apart pairs.turn c.in_default.ensures)

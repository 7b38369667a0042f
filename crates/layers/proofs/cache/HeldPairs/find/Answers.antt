use Rattle.std.proofs.Common.{◌≡◌, get_or, None, sym, arith, rules}
use Rattle.std.proofs.lemmas.Bool.{true≢false}
use Rattle.layers.proofs.Slots.{at_none, at_other, within_slots, unheld_more}
use Rattle.layers.proofs.cache.HeldPairs.find.Goals as goal
use Rattle.layers.proofs.cache.HeldPairs.find.Goals.{in_default-via-in-None-1, in_default-via-in-Some+else-is_of}

pub loop-slot-preserved : goal.loop-slot-preserved
loop-slot-preserved c =
    let s = c.args.self.now.slots in
    let i = c.loop-slot.slot-index in
    unheld_more s i c.args.before c.args.c c.loop-slot.invariant
    (λ a at. elim c.in_default.branch [
      | in_default-via-in-None-1 w ↦ let none : get_or s i None ≡ None = search rules in at_none s i c.args.before c.args.c a none at
      | in_default-via-in-Some+else-is_of w ↦ at_other s i c.args.before c.args.c a w.in-Some.held w.in-Some.is (λ same. true≢false (sym (w.if-is_of.ensures.1 same))) at
    ])

pub returns : goal.returns
returns c held =
    let s = c.args.self.now.slots in
    let k_lt = within_slots s held.0 c.args.before c.args.c held.1 held.2 in
    c.loop-slot.invariant held.0 held.1 (omega arith) held.2

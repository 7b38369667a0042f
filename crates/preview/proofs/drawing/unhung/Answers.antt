use Rattle.std.proofs.Common.{◌≡◌, length, rules, sym, ◌∙◌, arith}
use Rattle.preview.proofs.Trims.{trim_more, trim_stop, trim_none}
use Rattle.preview.proofs.drawing.unhung.Goals as goal

pub trim-preserved : goal.trim-preserved
trim-preserved g c = trim_more (g.P.Policy.rules c.args.policy.now) c.trim.kept.now (omega arith) (sym c.if-hangs.ensures) ∙ c.trim.invariant

pub returns-then-kept-lt1 : goal.returns-then-kept-lt1
returns-then-kept-lt1 g c =
    let none : length c.trim.kept.now ≡ 0 = search rules in sym (trim_none (g.P.Policy.rules c.args.policy.now) c.trim.kept.now none) ∙ c.trim.invariant

pub returns-else-hangs : goal.returns-else-hangs
returns-else-hangs g c = sym (trim_stop (g.P.Policy.rules c.args.policy.now) c.trim.kept.now (omega arith) (sym c.if-hangs.ensures)) ∙ c.trim.invariant

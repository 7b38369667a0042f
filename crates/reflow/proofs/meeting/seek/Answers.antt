use Rattle.std.proofs.Common.{◌≡◌, ℕ, ◌+◌, ◌-◌, ◌<◌, List, length, get_or, take, drop, ap, ◌∙◌, subst, arith, length-drop}
use Rattle.std.proofs.lemmas.List.{get_or-drop, take_rest}
use Rattle.page.specs.declared.row.Row.{Row}
use Rattle.reflow.proofs.meeting.seek.Goals as goal

pub overflow_add-result : goal.overflow_add-result
overflow_add-result c = omega (arith, c.passed.ensures.within, length-drop c.args.from c.args.old.now)

pub returns-clause-passed : goal.returns-clause-passed
returns-clause-passed c i d after before among =
    let old = c.args.old.now in
    let from = c.args.from in
    let at : get_or (take (length old - from) (drop from old)) (i - from) d ≡ get_or old i d =
    ap (λ (rs : List Row). get_or rs (i - from) d) (take_rest old from) ∙ get_or-drop from old (i - from) d ∙ ap (λ (k : ℕ). get_or old k d) (omega arith) in
    subst (λ (r : Row). r.start < c.args.place + c.args.del) at (c.passed.ensures.passed (i - from) d (omega arith) (omega (arith, length-drop from old, ap length (take_rest old from))))

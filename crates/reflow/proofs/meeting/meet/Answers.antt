use Rattle.std.proofs.Common.{rules, tests, ◌≡◌, ◌≤◌, length, get_or, arith}
use Rattle.reflow.proofs.Meetings.{unmet_between}
use Rattle.reflow.proofs.meeting.meet.Goals as goal

pub returns-in_default : goal.returns-in_default
returns-in_default c = λ a b.
    let old = c.args.old.now in
    let j = c.seek-j.result in
    unmet_between c.args.edit old c.args.start c.args.from j a b (λ i d after. c.seek-j.ensures.passed i d (omega (arith, c.min.ensures))) (λ d among.
    let least = c.seek-j.ensures.stops d among in
    let read : (get_or old j d).start ≡ c.in-Some.row.now.start = search (rules, tests) in
    omega (arith, c.if-row-edit.false))

pub returns-in_default-2 : goal.returns-in_default-2
returns-in_default-2 c = λ a b.
    let old = c.args.old.now in
    let j = c.seek-j.result in
    let past : length old ≤ j = search (rules, tests) in
    unmet_between c.args.edit old c.args.start c.args.from j a b (λ i d after. c.seek-j.ensures.passed i d (omega (arith, c.min.ensures))) (λ d among. absurd (omega arith))

use Rattle.std.proofs.Common.{◌+◌, ◌-◌, List, ℕ, ap, ◌∙◌, arith}
use Rattle.buffer.specs.Gaps.{around}
use Rattle.buffer.proofs.Gaps.{moved_left, moved_right}
use Rattle.buffer.proofs.gap_buffer.editing.move_gap.Goals as goal

pub returns-then-at-start-clause-same : goal.returns-then-at-start-clause-same
returns-then-at-start-clause-same c =
    let a = c.args in
    ap (λ (xs : List ℕ). around xs a.at (a.at + (a.end - a.start))) c.copy_within.ensures.items
    ∙ moved_left a.bytes.now.items a.start a.end a.at (omega arith) c.requires.forward c.requires.gap

pub returns-else-at-start-clause-same : goal.returns-else-at-start-clause-same
returns-else-at-start-clause-same c =
    let a = c.args in
    ap (λ (xs : List ℕ). around xs a.at (a.at + (a.end - a.start))) c.copy_within-else-at-start.ensures.items
    ∙ moved_right a.bytes.now.items a.start a.end a.at (omega arith) c.requires.forward c.requires.within

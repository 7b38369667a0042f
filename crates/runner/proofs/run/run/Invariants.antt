use Rattle.std.proofs.Common.{◌≡◌, ◌+◌, ◌≤◌, length}
use Rattle.listing.specs.Writers.{written, room}
use Rattle.script.specs.Lines.{lines}
use Rattle.sheet.specs.Clean.{Making}
use Rattle.sheet.specs.Histories.{History, Follows, clean_after}
use Rattle.sheet.specs.States.{state}
use Rattle.runner.specs.Runs.{most_bytes, run_lines}
use Rattle.runner.proofs.Turns.{Going}
use Rattle.runner.proofs.run.run.Given as goal

-- the lines that are left, run from here, give what the script gives
abbrev pub invariant-lines : goal.invariant-lines
invariant-lines g l =
    ((k : Making) (h : History) → Follows k h (state g.M.Measurer.meaning g.M.Measurer.sound g.P.Policy.rules l.initial.sheet)
    → Going k h (state g.M.Measurer.meaning g.M.Measurer.sound g.P.Policy.rules l.sheet) (room l.initial.list) (written l.list) (l.before-iterator.count + 1) (lines l.before-iterator.iter.rest.now)
    (run_lines k (room l.initial.list) (written l.initial.list) (clean_after k h) 1 (lines l.initial.before-iterator.iter.rest.now)))
    × (l.list.buffer.ghost_name ≡ l.initial.list.buffer.ghost_name)
    × (room l.list ≡ room l.initial.list)
    × (l.before-iterator.count + length (lines l.before-iterator.iter.rest.now) ≤ most_bytes)

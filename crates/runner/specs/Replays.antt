-- What comes of a script on a sheet of its own.
use Rattle.std.specs.Prelude.{◌≡◌, ℕ, List, Some, None, Ok, Err, Result}
use Rattle.sheet.specs.Clean.{Making, fresh}
use Rattle.runner.specs.Runs.{Run, run_script}
use Rattle.runner.specs.declared.replay.ReplayFault.{ReplayFault}
use Rattle.runner.specs.declared.replay.ReplayFault.TheVariants.{Memory, Full}

-- the list, and where it ran out of room, are those of the run; without memory for the sheet nothing is written
abbrev pub ReplayedAs : Run → List ℕ → Result (Unit {0}) ReplayFault → List ℕ → Type 0
ReplayedAs run before (Ok _) list = (list ≡ run.list) × (run.out ≡ None)
ReplayedAs run before (Err (Full e)) list = (list ≡ run.list) × (run.out ≡ Some e.line)
ReplayedAs run before (Err Memory) list = list ≡ before

-- the run is that of the script on a clean sheet that is made so, behind the list so far
abbrev pub Replayed : Making → ℕ → List ℕ → List ℕ → Result (Unit {0}) ReplayFault → List ℕ → Type 0
Replayed k room before script r list = ReplayedAs (run_script k room before (fresh k) script) before r list

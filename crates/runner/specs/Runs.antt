-- What comes of a script, line by line, over the clean sheet.
use Rattle.std.specs.Prelude.{ℕ, ◌+◌, cond, ◌&&◌, List, [], ◌∷◌, ◌++◌, length, replicate, Some, None, Option, nat_le}
use Rattle.page.specs.Texts.{most_characters}
use Rattle.script.specs.Commands.{Command}
use Rattle.script.specs.Commands.Command.{replace, remeasure, refresh, show}
use Rattle.script.specs.Lines.{lines}
use Rattle.script.specs.Reading.{command}
use Rattle.sheet.specs.Clean.{Making, Clean, Answer, Step, refuse, replace_step, remeasure_step, refresh_step, settle_step, row_step}
use Rattle.sheet.specs.Clean.Answer.{accepted, refused, settled, shown}
use Rattle.runner.specs.Entries.{entry}

-- an accepted change is settled straight after
abbrev pub settled_by : Step → Answer → Step
settled_by s accepted = settle_step s.next
settled_by s (refused told) = s
settled_by s (settled p) = s
settled_by s (shown r buffer) = s

abbrev pub settled_after : Step → Step
settled_after s = settled_by s s.answer

-- no measure exists outside 1 to 60,000
abbrev pub remeasured_after : Making → Clean → ℕ → Step
remeasured_after k c w = cond (nat_le 1 w && nat_le w 60000) (settled_after (remeasure_step k c w)) (refuse c (6 ∷ []))

-- what a line's command does; a row's characters go to the buffer
abbrev pub carried_out : Making → Clean → List ℕ → Option Command → Step
carried_out k c buffer None = refuse c (16 ∷ [])
carried_out k c buffer (Some (replace at del ins)) = settled_after (replace_step k c at del ins)
carried_out k c buffer (Some (remeasure w)) = remeasured_after k c w
carried_out k c buffer (Some refresh) = settled_after (refresh_step k c)
carried_out k c buffer (Some (show i)) = row_step k c i buffer

-- room for the characters of any row
abbrev pub row_room : List ℕ
row_room = replicate most_characters 0

-- what a line does
unfoldable pub line_step : Making → Clean → List ℕ → Step
line_step k c line = carried_out k c row_room (command line)

-- the list, the line whose entry had no room, if there is one, and the clean sheet then
pub record Run : Type 0 where
  pub list : List ℕ
  pub out : Option ℕ
  pub left : Clean

-- the lines from number n on, behind the list so far; the first entry without room ends the run
unfoldable pub run_lines : Making → ℕ → List ℕ → Clean → ℕ → List (List ℕ) → Run
run_lines k room list c n [] = record { list = list; out = None; left = c }
run_lines k room list c n (l ∷ ls) =
    let s = line_step k c l in
    let bytes = entry k n s in
    cond (nat_le (length list + length bytes) room)
    (run_lines k room (list ++ bytes) s.next (n + 1) ls)
    (record { list = list; out = Some n; left = s.next })

-- a script that is too long gives a single line
abbrev pub too_long : Making → ℕ → List ℕ → Clean → Run
too_long k room list c =
    let bytes = entry k 0 (refuse c (16 ∷ [])) in
    cond (nat_le (length list + length bytes) room) (record { list = list ++ bytes; out = None; left = c }) (record { list = list; out = Some 0; left = c })

abbrev pub most_bytes : ℕ
most_bytes = 60000

-- a script, behind the list so far
abbrev pub run_script : Making → ℕ → List ℕ → Clean → List ℕ → Run
run_script k room list c script = cond (nat_le (length script) most_bytes) (run_lines k room list c 1 (lines script)) (too_long k room list c)

-- What holds of the lines of a script and of their commands.
use Rattle.std.specs.Prelude.{◌≡◌, ℕ, ◌≤◌, List, ◌∷◌, length, Some}
use Rattle.script.specs.Commands.{Command, Reads}
use Rattle.script.specs.Lines.{lines, Lined}
use Rattle.script.specs.Reading.{command}

pub record CommandLaws : Type 0 where
  -- a line is read as the grammar says
  pub by_grammar : (line : List ℕ) (c : Command) → command line ≡ Some c → Reads line c
  -- and whatever the grammar allows is read so
  pub all_read : (line : List ℕ) (c : Command) → Reads line c → command line ≡ Some c
  -- so that it leaves no choice
  pub only_one : (line : List ℕ) (c c' : Command) → Reads line c → Reads line c' → c ≡ c'

pub record LineLaws : Type 0 where
  -- a script falls into lines by their ends
  pub by_ends : (script : List ℕ) → Lined script (lines script)
  -- in one way only
  pub only_one : (script : List ℕ) (ls : List (List ℕ)) → Lined script ls → ls ≡ lines script
  -- no script has more lines than bytes
  pub few : (script : List ℕ) → length (lines script) ≤ length script
  -- and none has a longer first line
  pub bound : (script line : List ℕ) (ls : List (List ℕ)) → lines script ≡ line ∷ ls → length line ≤ length script

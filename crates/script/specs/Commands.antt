-- What a line of a script asks for, as a grammar.
use Rattle.std.specs.Prelude.{◌≡◌, ℕ, ◌≤◌, List, [], ◌∷◌, ◌++◌, length, Some, codes, ◌≢◌}
use Rattle.numerals.specs.Reading.{magnitude}
use Rattle.page.specs.Texts.{most_characters, newline}

pub data Command : Type 0 where
  -- a place, how many characters go, and those that come
  replace : ℕ → ℕ → List ℕ → Command
  -- a measure to be made, and set
  remeasure : ℕ → Command
  refresh : Command
  -- a row's number
  show : ℕ → Command

abbrev pub backslash : ℕ
backslash = 92

-- one to five digits that write n
abbrev pub Number : List ℕ → ℕ → Type 0
Number digits n = magnitude digits ≡ Some n

-- how a text is written
pub data Written : List ℕ → List ℕ → Type 0 where
  nothing : Written [] []
  -- any byte but a backslash stands for itself
  itself : {b : ℕ} {written text : List ℕ} → (b ≢ backslash) → Written written text → Written (b ∷ written) (b ∷ text)
  escaped_newline : {written text : List ℕ} → Written written text → Written (codes "\\n" ++ written) (newline ∷ text)
  escaped_backslash : {written text : List ℕ} → Written written text → Written (codes "\\\\" ++ written) (backslash ∷ text)

-- what a line asks for
pub data Reads : List ℕ → Command → Type 0 where
  r_line : (at del : ℕ) (first second written text : List ℕ) → Number first at → Number second del → Written written text → length text ≤ most_characters → Reads (codes "R " ++ (first ++ (codes " " ++ (second ++ (codes " " ++ written))))) (replace at del text)
  m_line : (units : ℕ) (digits : List ℕ) → Number digits units → Reads (codes "M " ++ digits) (remeasure units)
  f_line : Reads (codes "F") refresh
  s_line : (row : ℕ) (digits : List ℕ) → Number digits row → Reads (codes "S " ++ digits) (show row)

-- The lines of a script.
use Rattle.std.specs.Prelude.{ℕ, cond, List, [], ◌∷◌, ◌++◌, Some, ◌==◌, ◌≢◌}
use Rattle.page.specs.Texts.{newline, seen}

-- one more byte at the front of the first line; where there is none yet, the byte is the script's last
abbrev pub onto : ℕ → List (List ℕ) → List (List ℕ)
onto b [] = (b ∷ []) ∷ []
onto b (l ∷ ls) = (b ∷ l) ∷ ls

-- a newline ends a line, and so does the end of the script, if the line is not empty
unfoldable pub lines : List ℕ → List (List ℕ)
lines [] = []
lines (b ∷ bs) = cond (b == newline) ([] ∷ lines bs) (onto b (lines bs))

-- no newline stands among the bytes
abbrev pub Plain : List ℕ → Type 0
Plain bs = (k : ℕ) → seen bs k ≢ Some newline

-- the lines of a script, by their ends
pub data Lined : List ℕ → List (List ℕ) → Type 0 where
  over : Lined [] []
  -- a line ends at a newline
  ended : (line rest : List ℕ) (ls : List (List ℕ)) → Plain line → Lined rest ls → Lined (line ++ newline ∷ rest) (line ∷ ls)
  -- or, if it is not empty, at the end of the script
  last : (b : ℕ) (line : List ℕ) → Plain (b ∷ line) → Lined (b ∷ line) ((b ∷ line) ∷ [])

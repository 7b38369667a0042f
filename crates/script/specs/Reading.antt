-- What a line of a script asks for, as it is read.
use Rattle.std.specs.Prelude.{◌≡◌, ℕ, ◌<◌, true, false, cond, List, [], ◌∷◌, length, Some, None, Option, ◌==◌, nat_le}
use Rattle.std.specs.Option.{option_map}
use Rattle.numerals.specs.Reading.{magnitude}
use Rattle.page.specs.Texts.{most_characters, newline}
use Rattle.script.specs.Commands.{Command, backslash}
use Rattle.script.specs.Commands.Command.{replace, remeasure, refresh, show}
use Rattle.script.specs.Splits.{split_once}

-- an option and what is made of it, if it is there: `do` is written over this
abbrev pub ◌>>=◌ : {X Y : Type 0} → Option X → (X → Option Y) → Option Y
◌>>=◌ None f = None
◌>>=◌ (Some x) f = f x

-- the number before the first space, and what follows that space
abbrev pub numbered : List ℕ → Option (ℕ × List ℕ)
numbered line = do
  s ← split_once 32 line
  n ← magnitude s.before
  Some (n, s.behind)

-- the character that a backslash and this byte write
abbrev pub escape : ℕ → Option ℕ
escape b = cond (b == 110) (Some newline) (cond (b == backslash) (Some backslash) None)

-- a character in front of a text, if both are there
abbrev pub front : Option ℕ → Option (List ℕ) → Option (List ℕ)
front c text = do
  c ← c
  option_map (λ t. c ∷ t) text

-- the text that is written so; none where a backslash is no escape
unfoldable pub spelt : List ℕ → Option (List ℕ)
spelt [] = Some []
spelt (b ∷ []) = cond (b == backslash) None (Some (b ∷ []))
spelt (b ∷ c ∷ bs) = elim (b == backslash) [ true ↦ front (escape c) (spelt bs) | false ↦ front (Some b) (spelt (c ∷ bs)) ]

-- c is written first, and then the rest
pub record Begins (written : List ℕ) (c : ℕ) (rest : List ℕ) : Type 0 where
  pub spelt_on : spelt written ≡ option_map (λ t. c ∷ t) (spelt rest)
  pub shorter : length rest < length written

-- a text that is not too long
abbrev pub short : Option (List ℕ) → Option (List ℕ)
short text = do
  t ← text
  cond (nat_le (length t) most_characters) (Some t) None

-- what follows the letter of a replace and its space
unfoldable pub replacing : List ℕ → Option Command
replacing rest = do
  (at, rest) ← numbered rest
  (del, written) ← numbered rest
  text ← short (spelt written)
  Some (replace at del text)

-- a line by its letter, R, M or S, and what follows the space behind it
abbrev pub by_letter : ℕ → List ℕ → Option Command
by_letter letter rest =
    cond (letter == 82) (replacing rest) (
    cond (letter == 77) (option_map remeasure (magnitude rest)) (
    cond (letter == 83) (option_map show (magnitude rest)) None))

-- the letter F stands alone
unfoldable pub command : List ℕ → Option Command
command [] = None
command (letter ∷ []) = cond (letter == 70) (Some refresh) None
command (letter ∷ b ∷ rest) = cond (b == 32) (by_letter letter rest) None

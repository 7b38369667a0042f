-- Texts and their parts.
use Rattle.std.specs.Prelude.{ℕ, ◌+◌, ◌-◌, List, ◌++◌, take, drop, Option}
use Rattle.std.specs.List.{slice_get}

-- the most characters that a text has
abbrev pub most_characters : ℕ
most_characters = 4096

abbrev pub newline : ℕ
newline = 10

-- the character at a place, if the text goes that far
abbrev pub seen : List ℕ → ℕ → Option ℕ
seen = slice_get

-- `ins` in place of the `del` characters at `at`
abbrev pub edited : List ℕ → ℕ → ℕ → List ℕ → List ℕ
edited t at del ins = take at t ++ (ins ++ drop (at + del) t)

-- the part [s, e) of a text, which excludes e
abbrev pub part : List ℕ → ℕ → ℕ → List ℕ
part t s e = take (e - s) (drop s t)

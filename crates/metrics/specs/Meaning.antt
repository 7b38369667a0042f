-- What a measurer means. A character is a number, 0 to 255 in the code; widths are in units of
-- 1/1000 of the type size.
use Rattle.std.specs.Prelude.{ℕ, ◌≤◌, Bool, cond, Ok, Err, Option, Result}
use Rattle.metrics.specs.declared.fault.MissingGlyph.{MissingGlyph}

pub record Meaning : Type 0 where
  -- whether there is a glyph for a character
  pub covers : ℕ → Bool
  -- the advance of a covered character after its predecessor, which is absent at a row's start
  pub adv : Option ℕ → ℕ → ℕ
  -- how many layers down an uncovered character was missed
  pub depth : ℕ → ℕ

-- the greatest advance
abbrev pub most_advance : ℕ
most_advance = 16383

-- the greatest depth
abbrev pub most_depth : ℕ
most_depth = 255

pub record Bounded (m : Meaning) : Type 0 where
  pub advances : (p : Option ℕ) (c : ℕ) → m.adv p c ≤ most_advance
  pub depths : (c : ℕ) → m.depth c ≤ most_depth

-- what is told of a character without a glyph
abbrev pub missing : Meaning → ℕ → MissingGlyph
missing m c = record { code = c; depth = m.depth c }

-- the answer to the question for an advance
abbrev pub answer : Meaning → Option ℕ → ℕ → Result ℕ MissingGlyph
answer m p c = cond (m.covers c) (Ok (m.adv p c)) (Err (missing m c))

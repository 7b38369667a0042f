-- Texts that a measurer covers, and the first character that it does not.
use Rattle.std.specs.Prelude.{◌≡◌, ℕ, ◌+◌, true, cond, ◌||◌, List, [], ◌∷◌, Some, None, Ok, Err, Option, Result, ◌==◌, ◌≢◌}
use Rattle.metrics.specs.Meaning.{Meaning, missing}
use Rattle.metrics.specs.declared.fault.MissingGlyph.{MissingGlyph}
use Rattle.page.specs.Texts.{seen, newline}
use Rattle.layout.specs.declared.cover.Uncovered.{Uncovered}

-- every character but the newline has a glyph
abbrev pub Covered : Meaning → List ℕ → Type 0
Covered m t = (k c : ℕ) → seen t k ≡ Some c → (c ≢ newline) → m.covers c ≡ true

-- every character has a glyph, as in a row, where no newline stands
abbrev pub AllCovered : Meaning → List ℕ → Type 0
AllCovered m cs = (i c : ℕ) → seen cs i ≡ Some c → m.covers c ≡ true

-- the glyph that a character lacks: none of a newline
abbrev pub lacking : Meaning → ℕ → Option MissingGlyph
lacking m c = cond (c == newline || m.covers c) None (Some (missing m c))

-- what is told of the first character other than a newline that has no glyph, the first of the list
-- standing at i
unfoldable pub first_uncovered : Meaning → ℕ → List ℕ → Option Uncovered
first_uncovered m i [] = None
first_uncovered m i (c ∷ cs) = cond (c == newline || m.covers c) (first_uncovered m (i + 1) cs) (Some (record { offset = i; glyph = missing m c }))

-- the answer to the question whether a text is covered
abbrev pub cover_answer : Option Uncovered → Result (Unit {0}) Uncovered
cover_answer None = Ok tt
cover_answer (Some u) = Err u

-- what a refusal for want of a glyph tells: its number, the offset, the character and the depth
abbrev pub told : Uncovered → List ℕ
told u = 4 ∷ u.offset ∷ u.glyph.code ∷ u.glyph.depth ∷ []

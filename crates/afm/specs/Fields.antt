-- The fields of a line and their ranges; none where a field is missing, misspelt or outside its range.
use Rattle.std.specs.Prelude.{ℕ, cond, List, length, ℤ, pos, negsuc, neg_ℤ, Some, None, Option, ◌==◌, unsigned_abs}
use Rattle.std.specs.Option.{option_map}
use Rattle.metrics.specs.Meaning.{most_advance}
use Rattle.numerals.specs.Reading.{integer}
use Rattle.afm.specs.Numbers.{within}
use Rattle.afm.specs.Parts.{Part, is}

-- −1 says that a glyph has no code
abbrev pub code_from : ℤ → Option ℕ
code_from (pos n) = Some n
code_from (negsuc n) = None

abbrev pub code_of : List ℕ → Option (Option ℕ)
code_of text = option_map code_from (within (negsuc 0) (pos 255) (integer text))

abbrev pub width_of : List ℕ → Option ℕ
width_of text = option_map unsigned_abs (within (pos 0) (pos most_advance) (integer text))

abbrev pub kern_of : List ℕ → Option ℤ
kern_of text = within (neg_ℤ (pos most_advance)) (pos most_advance) (integer text)

-- how many entries a section announces
abbrev pub count_of : List ℕ → Option ℕ
count_of text = option_map unsigned_abs (within (pos 0) (pos 9999) (integer text))

-- a name is any word
abbrev pub name_of : Part → Option Part
name_of p = cond (length p.text == 0) None (Some p)

abbrev pub expected : List ℕ → Part → Option (Unit {0})
expected keyword p = cond (is p.text keyword) (Some tt) None

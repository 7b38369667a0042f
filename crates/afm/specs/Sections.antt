-- What a line may be, by the section and its first word.
use Rattle.std.specs.Prelude.{ℕ, cond, List, length, codes, ◌==◌}
use Rattle.afm.specs.Keywords.{is_section_word}
use Rattle.afm.specs.Parts.{is}
use Rattle.afm.specs.declared.section.Section.{Section}
use Rattle.afm.specs.declared.section.Section.TheVariants.{Start, Head, Glyphs, Middle, Pairs, Tail, Ended}
use Rattle.afm.specs.declared.section.Role.{Role}
use Rattle.afm.specs.declared.section.Role.TheVariants.{Enters, Opens, Glyph, Pair, Closes, Skipped, Misplaced}

-- in head, middle and tail, where only section words mean something
unfoldable pub by_the_way : List ℕ → Role
by_the_way w = cond (is_section_word w) Misplaced Skipped

-- among entries, where each line has to be one, unless it has no word
abbrev pub among_entries : List ℕ → Role
among_entries w = cond (length w == 0) Skipped Misplaced

abbrev pub role : Section → List ℕ → Role
role Start w = cond (is w (codes "StartFontMetrics")) (Enters Head) Misplaced
role Head w = cond (is w (codes "StartCharMetrics")) (Opens Glyphs) (by_the_way w)
role Glyphs w = cond (is w (codes "C")) Glyph (cond (is w (codes "EndCharMetrics")) (Closes Middle) (among_entries w))
role Middle w = cond (is w (codes "StartKernPairs")) (Opens Pairs) (cond (is w (codes "EndFontMetrics")) (Enters Ended) (by_the_way w))
role Pairs w = cond (is w (codes "KPX")) Pair (cond (is w (codes "EndKernPairs")) (Closes Tail) (among_entries w))
role Tail w = cond (is w (codes "EndFontMetrics")) (Enters Ended) (by_the_way w)
-- no line is read after the font
role Ended w = Misplaced

-- The words that part the sections.
use Rattle.std.specs.Prelude.{ℕ, Bool, ◌||◌, List, codes}
use Rattle.afm.specs.Parts.{is}

-- the six section words
abbrev pub is_section_word : List ℕ → Bool
is_section_word w =
    is w (codes "StartFontMetrics") || is w (codes "StartCharMetrics") || is w (codes "EndCharMetrics")
    || is w (codes "StartKernPairs") || is w (codes "EndKernPairs") || is w (codes "EndFontMetrics")

-- A pile of layers: advance cache over tracking over fallback over font and cells.
use Rattle.std.specs.Prelude.{◌≡◌, ℕ, [], ◌∷◌, ℤ, pos, negsuc, Some, None, Ok, Err}
use Rattle.metrics.specs.declared.entry.Glyph.{Glyph}
use Rattle.layers.specs.Cache.{cached}
use Rattle.metrics.specs.Cells.{cells_meaning}
use Rattle.layers.specs.Fallback.{fallen_back}
use Rattle.fonts.specs.Font.{font_meaning}
use Rattle.metrics.specs.Meaning.{Meaning, answer}
use Rattle.layers.specs.Tracking.{tracked}

-- the layers over a font and cells of size w, tracked by t
abbrev pub piled : Meaning → ℕ → ℤ → Meaning
piled font w t = cached (tracked t (fallen_back font (cells_meaning w)))

-- ---- a worked example: space 100, a 600, b 1200, c 300, b after a space drawn back by 1200

abbrev pub glyph : ℕ → ℕ → Glyph
glyph c w = record { name = record { at = 0; len = 0 }; code = Some c; width = w }

abbrev pub worked : Meaning
worked = piled
    (font_meaning
    (glyph 32 100 ∷ glyph 97 600 ∷ glyph 98 1200 ∷ glyph 99 300 ∷ [])
    (record { first = 32; second = 98; kern = negsuc 1199 } ∷ []))
    500
    (pos 0)

pub record Worked : Type 0 where
  -- b at a row's start, after an a and after a space
  pub start : answer worked None 98 ≡ Ok 1200
  pub unkerned : answer worked (Some 97) 98 ≡ Ok 1200
  pub kerned : answer worked (Some 32) 98 ≡ Ok 0
  -- d, which only the cells cover
  pub fallen : answer worked (Some 32) 100 ≡ Ok 500
  -- a newline, which nothing covers
  pub missing : answer worked None 10 ≡ Err (record { code = 10; depth = 3 })

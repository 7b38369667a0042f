use Rattle.std.proofs.Common.{◌≡◌, ℕ, length, take}
use Rattle.fonts.specs.Font.{width_at, width_in}
use Rattle.fonts.proofs.font.widths_by_code.Given as goal

abbrev pub invariant-loop-glyph : goal.invariant-loop-glyph
invariant-loop-glyph l = (length l.widths ≡ 256) × ((c : ℕ) → width_at l.widths c ≡ width_in (take l.glyph-index l.glyphs) c)

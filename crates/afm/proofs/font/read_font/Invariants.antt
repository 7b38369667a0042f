use Rattle.std.proofs.Common.{◌≡◌, ◌+◌, length}
use Rattle.lists.specs.Holding.{holding}
use Rattle.afm.specs.Lines.{lines}
use Rattle.afm.specs.Reading.{read_lines, read_font}
use Rattle.afm.specs.Steps.{rest, progress}
use Rattle.afm.proofs.font.read_font.Given as goal

-- what is left gives the outcome
abbrev pub invariant-lines : goal.invariant-lines
invariant-lines l =
    (read_lines l.file (progress l.reader l.glyphs l.kerns) (l.reader.line + 1) (lines (rest l.reader)) ≡ read_font l.file (holding l.initial.glyphs) (holding l.initial.kerns))
    × (l.reader.file.now ≡ l.file)
    × (l.glyphs.slots.ghost_name ≡ l.initial.glyphs.slots.ghost_name)
    × (l.kerns.slots.ghost_name ≡ l.initial.kerns.slots.ghost_name)

abbrev pub decreases-lines : goal.decreases-lines
decreases-lines l = length (rest l.reader).text

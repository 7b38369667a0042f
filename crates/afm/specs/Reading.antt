-- A font file as a whole: its lines, one after another, until the font ends or a line is refused.
use Rattle.std.specs.Prelude.{ℕ, ◌+◌, Bool, true, false, cond, List, [], ◌∷◌, Ok, Err, Result}
use Rattle.lists.specs.Holding.{Holding}
use Rattle.metrics.specs.declared.entry.Glyph.{Glyph}
use Rattle.metrics.specs.declared.entry.KernPair.{KernPair}
use Rattle.afm.specs.Lines.{rest_of, lines}
use Rattle.afm.specs.Parts.{Part}
use Rattle.afm.specs.Steps.{Standing, Progress, line_step}
use Rattle.afm.specs.declared.fault.AfmFault.{AfmFault}
use Rattle.afm.specs.declared.fault.AfmFault.TheVariants.{At, Over}
use Rattle.afm.specs.declared.section.Section.{Section}
use Rattle.afm.specs.declared.section.Section.TheVariants.{Start, Head, Glyphs, Middle, Pairs, Tail, Ended}

-- both lists afterwards, and the answer
pub record Outcome : Type 0 where
  pub glyphs : Holding Glyph
  pub kerns : Holding KernPair
  pub answer : Result (Unit {0}) AfmFault

abbrev pub outcome : Progress → Result (Unit {0}) AfmFault → Outcome
outcome p answer = record { glyphs = p.glyphs; kerns = p.kerns; answer = answer }

abbrev pub is_ended : Section → Bool
is_ended Start = false
is_ended Head = false
is_ended Glyphs = false
is_ended Middle = false
is_ended Pairs = false
is_ended Tail = false
is_ended Ended = true

-- from line n on; what follows the font is not read
unfoldable pub read_lines : List ℕ → Progress → ℕ → List Part → Outcome
read_lines file p n [] = cond (is_ended p.at.section) (outcome p (Ok tt)) (outcome p (Err (Over n)))
read_lines file p n (line ∷ more) =
    cond (is_ended p.at.section) (outcome p (Ok tt))
    (elim (line_step file p line) [ Ok q ↦ read_lines file q (n + 1) more | Err fault ↦ outcome p (Err (At n fault)) ])

abbrev pub start : Standing
start = record { section = Start; announced = 0; seen = 0 }

unfoldable pub read_font : List ℕ → Holding Glyph → Holding KernPair → Outcome
read_font file glyphs kerns = read_lines file (record { at = start; glyphs = glyphs; kerns = kerns }) 1 (lines (rest_of file 0))

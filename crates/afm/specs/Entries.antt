-- Entry lines, after their first word. Words are counted from 0.
use Rattle.std.specs.Prelude.{length, ℤ, Some, None, codes, Option}
use Rattle.metrics.specs.declared.entry.Span.{Span}
use Rattle.metrics.specs.declared.entry.Glyph.{Glyph}
use Rattle.afm.specs.Fields.{code_of, width_of, kern_of, name_of, expected}
use Rattle.afm.specs.Parts.{Part, word, nth_word}
use Rattle.afm.specs.declared.entry_line.PairLine.{PairLine}

abbrev pub then : {X Y : Type 0} → Option X → (X → Option Y) → Option Y
then None f = None
then (Some x) f = f x

abbrev pub span : Part → Span
span p = record { at = p.at; len = length p.text }

-- `code ; WX width ; N name ;`
abbrev pub glyph_of : Part → Option Glyph
glyph_of line =
    then (code_of (nth_word 0 line).text) (λ code.
    then (expected (codes ";") (nth_word 1 line)) (λ _.
    then (expected (codes "WX") (nth_word 2 line)) (λ _.
    then (width_of (nth_word 3 line).text) (λ width.
    then (expected (codes ";") (nth_word 4 line)) (λ _.
    then (expected (codes "N") (nth_word 5 line)) (λ _.
    then (name_of (nth_word 6 line)) (λ name.
    then (expected (codes ";") (nth_word 7 line)) (λ _.
    Some (record { name = span name; code = code; width = width })))))))))

-- the names of a pair, and its kern
pub record Pair : Type 0 where
  pub first : Part
  pub second : Part
  pub kern : ℤ

abbrev pub pair_line : PairLine → Pair
pair_line l = record { first = word l.first; second = word l.second; kern = l.kern }

-- `first second kern`
abbrev pub pair_of : Part → Option Pair
pair_of line =
    then (name_of (nth_word 0 line)) (λ first.
    then (name_of (nth_word 1 line)) (λ second.
    then (kern_of (nth_word 2 line).text) (λ kern.
    Some (record { first = first; second = second; kern = kern }))))

-- Fonts: a width for each covered code, and kerns for some pairs.
use Rattle.std.specs.Prelude.{ℕ, min, Bool, false, cond, ◌&&◌, List, [], ◌∷◌, ℤ, pos, ◌+ℤ◌, is_some, Some, None, Option, ◌==◌, slice_index_or}
use Rattle.std.specs.BTreeMap as tree
use Rattle.std.specs.Option.{unwrap_or}
use Rattle.std.specs.BTreeMap.{BTreeMap}
use Rattle.metrics.specs.declared.entry.Glyph.{Glyph}
use Rattle.metrics.specs.declared.entry.KernPair.{KernPair}
use Rattle.metrics.specs.Limits.{cut}
use Rattle.metrics.specs.Meaning.{Meaning, most_advance}
use Rattle.std.specs.Ordering.{nat_cmp, ordering_then}
use Rattle.std.specs.declared.cmp.Ordering.{Ordering}

-- width plus kern after a predecessor, the width alone at a row's start
abbrev pub kerned : ℕ → (ℕ → ℤ) → Option ℕ → ℕ
kerned width kern None = width
kerned width kern (Some p) = cut (pos width +ℤ kern p)

-- a font by its widths and its kerns, a kern of 0 where none is given
abbrev pub lettered : (ℕ → Option ℕ) → (ℕ → ℕ → Option ℤ) → Meaning
lettered width kern = record {
  covers = λ c. is_some (width c);
  adv = λ p c. kerned (min (unwrap_or (width c) 0) most_advance) (λ q. unwrap_or (kern q c) (pos 0)) p;
  depth = λ _. 0;
}

-- ---- a font by its entries

-- whether a glyph's code is c
abbrev pub is_code : Option ℕ → ℕ → Bool
is_code None c = false
is_code (Some d) c = c == d

-- the width of the first glyph with the code c
abbrev pub width_in : List Glyph → ℕ → Option ℕ
width_in [] c = None
width_in (g ∷ gs) c = cond (is_code g.code c) (Some g.width) (width_in gs c)

-- the kern of the first pair of p and c
abbrev pub kern_in : List KernPair → ℕ → ℕ → Option ℤ
kern_in [] p c = None
kern_in (k ∷ ks) p c = cond (p == k.first && c == k.second) (Some k.kern) (kern_in ks p c)

abbrev pub font_meaning : List Glyph → List KernPair → Meaning
font_meaning glyphs kerns = lettered (width_in glyphs) (kern_in kerns)

-- ---- a font by its tables

-- the width of c in a table by code
abbrev pub width_at : List (Option ℕ) → ℕ → Option ℕ
width_at widths c = slice_index_or widths c None

-- how pairs compare: by their first characters, and where those are the same by their second
abbrev pub pair_cmp : ℕ × ℕ → ℕ × ℕ → Ordering
pair_cmp x y = ordering_then (nat_cmp x.0 y.0) (nat_cmp x.1 y.1)

-- the kern of p and c in a map by pair
abbrev pub kern_at : BTreeMap (ℕ × ℕ) ℤ → ℕ → ℕ → Option ℤ
kern_at kerns p c = tree.get pair_cmp kerns (p, c)

-- the pairs are in order, so that they can be found
abbrev pub Searchable : BTreeMap (ℕ × ℕ) ℤ → Type 0
Searchable kerns = tree.IsOrdered pair_cmp kerns

abbrev pub table_meaning : List (Option ℕ) → BTreeMap (ℕ × ℕ) ℤ → Meaning
table_meaning widths kerns = lettered (width_at widths) (kern_at kerns)

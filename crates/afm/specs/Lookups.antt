-- Names, codes and pairs among the entries taken so far.
use Rattle.std.specs.Prelude.{ℕ, Bool, false, ◌&&◌, List, take, drop, Some, None, Option, ◌==◌}
use Rattle.std.specs.List.{find, list_any}
use Rattle.metrics.specs.declared.entry.Span.{Span}
use Rattle.metrics.specs.declared.entry.Glyph.{Glyph}
use Rattle.metrics.specs.declared.entry.KernPair.{KernPair}
use Rattle.afm.specs.Parts.{is}

-- the bytes of a span
abbrev pub text_at : List ℕ → Span → List ℕ
text_at file span = take span.len (drop span.at file)

abbrev pub has_name : List ℕ → List ℕ → Glyph → Bool
has_name file name glyph = is (text_at file glyph.name) name

abbrev pub has_code : ℕ → Option ℕ → Bool
has_code code None = false
has_code code (Some given) = given == code

abbrev pub is_pair : ℕ → ℕ → KernPair → Bool
is_pair a b pair = pair.first == a && pair.second == b

-- the glyph of a name
abbrev pub named : List ℕ → List ℕ → List Glyph → Option Glyph
named file name glyphs = find (has_name file name) glyphs

-- whether a glyph has a code
abbrev pub coded : ℕ → List Glyph → Bool
coded code glyphs = list_any (λ (g : Glyph). has_code code g.code) glyphs

-- whether a pair has a kern
abbrev pub paired : ℕ → ℕ → List KernPair → Bool
paired a b kerns = list_any (is_pair a b) kerns

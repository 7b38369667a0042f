-- The lines that show rows. Bytes are those of UTF-8.
use Rattle.std.specs.Prelude.{ℕ, List, [], ◌∷◌, ◌++◌, replicate, decimal}
use Rattle.std.proofs.Math.Utf8.{encode}
use Rattle.std.specs.List.{flat_map}
use Rattle.page.specs.Endings.{letter_of}
use Rattle.page.specs.declared.row.Row.{Row}

-- each code as the character of Latin-1
abbrev pub spelt : List ℕ → List ℕ
spelt cs = flat_map encode cs

-- start, end, letter, width and reach, and then the characters, with single spaces between them
abbrev pub row_line : Row → List ℕ → List ℕ
row_line r cs =
    decimal r.start ++ (32 ∷ decimal r.end ++ (32 ∷ encode (letter_of r.ending) ++ (32 ∷ decimal r.width ++ (32 ∷ decimal r.reach ++ (32 ∷ cs)))))

-- a plus, a minus for each column, a plus
abbrev pub rule_line : ℕ → List ℕ
rule_line n = 43 ∷ (replicate n 45 ++ 43 ∷ [])

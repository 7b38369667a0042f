-- Lines end at a newline or, if not empty, at the end of the file; a return before the newline is no part of them.
use Rattle.std.specs.Prelude.{ℕ, zero, suc, ◌+◌, ◌-◌, min, cond, ◌&&◌, List, [], ◌∷◌, length, drop, ◌==◌, nat_lt, slice_index}
use Rattle.std.specs.List.{prefix_len}
use Rattle.afm.specs.Kinds.{is_inline}
use Rattle.afm.specs.Parts.{Part, front, past}

-- what is left of a file from a place on
abbrev pub rest_of : List ℕ → ℕ → Part
rest_of file at = record { text = drop at file; at = at }

-- how far a newline, or the end, is away
abbrev pub line_length : Part → ℕ
line_length p = prefix_len is_inline p.text

-- the length of a line's text, where the line ends after n bytes
abbrev pub text_length : List ℕ → ℕ → ℕ
text_length bytes n = cond (nat_lt n (length bytes) && (nat_lt 0 n && slice_index bytes (n - 1) == 13)) (n - 1) n

unfoldable pub first_line : Part → Part
first_line p = front (text_length p.text (line_length p)) p

unfoldable pub past_line : Part → Part
past_line p = past (min (line_length p + 1) (length p.text)) p

-- the lines of a part; there are no more of them than bytes
unfoldable pub lines_in : ℕ → Part → List Part
lines_in zero p = []
lines_in (suc most) p = cond (length p.text == 0) [] (first_line p ∷ lines_in most (past_line p))

unfoldable pub lines : Part → List Part
lines p = lines_in (length p.text) p

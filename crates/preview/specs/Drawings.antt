-- The label drawn in columns of a terminal. Bytes are those of UTF-8.
use Rattle.std.specs.Prelude.{ℕ, ◌+◌, ◌-◌, ◌/◌, max, cond, List, [], ◌∷◌, ◌++◌, length, drop, replicate, codes, nat_lt, slice_index}
use Rattle.std.proofs.Math.Utf8.{encode}
use Rattle.preview.specs.declared.drawing.Column.{Column}
use Rattle.preview.specs.declared.drawing.Column.TheVariants.{Cell, HalfCell}

-- how many units a column stands for
abbrev pub column_units : Column → ℕ
column_units Cell = 500
column_units HalfCell = 250

-- how many columns of u units a width takes, the last one perhaps in part
abbrev pub columns : ℕ → ℕ → ℕ
columns u width = (width + (u - 1)) / u

abbrev pub spaces : ℕ → List ℕ
spaces n = replicate n 32

-- where each character begins: the first at 0, any other at the edge behind the one before
abbrev pub begins_of : List ℕ → List ℕ
begins_of edges = 0 ∷ edges

-- the edge behind the last character, 0 if there is none
abbrev pub last_edge : List ℕ → List ℕ → ℕ
last_edge cs edges = slice_index (begins_of edges) (length cs)

-- the column of a character that begins at b: the one in which it begins, or the next free one
abbrev pub place : ℕ → ℕ → ℕ → ℕ
place u used b = max used (b / u)

-- what a frame of n columns of u units shows behind the columns that are used: characters, and where each of them begins;
-- a beginning that is not given counts as 0
unfoldable pub drawn : ℕ → ℕ → ℕ → List ℕ → List ℕ → List ℕ
drawn u n used [] begins = spaces (n - used)
drawn u n used (c ∷ cs) begins =
    let at = place u used (slice_index begins 0) in
    spaces (at - used) ++ (encode c ++ drawn u n (at + 1) cs (drop 1 begins))

-- what stands behind the frame if a row is wider than the measure
abbrev pub mark : ℕ → ℕ → List ℕ
mark measure edge = cond (nat_lt measure edge) (codes " < wider than the label") []

-- a bar, the characters in their columns, a bar, and the mark
abbrev pub framed : Column → ℕ → List ℕ → List ℕ → List ℕ
framed column measure cs edges =
    let u = column_units column in
    124 ∷ (drawn u (columns u measure) 0 cs (begins_of edges) ++ (124 ∷ mark measure (last_edge cs edges)))

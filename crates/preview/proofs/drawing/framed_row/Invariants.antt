use Rattle.std.proofs.Common.{◌≡◌, ◌<◌, ◌∷◌, ◌++◌, get_or, drop, string_bytes, string_len}
use Rattle.preview.specs.Drawings.{column_units, columns, drawn, begins_of}
use Rattle.preview.proofs.drawing.framed_row.Given as goal

-- what is left to draw, behind the line so far, makes the whole
abbrev pub invariant-loop-c : goal.invariant-loop-c
invariant-loop-c l =
    let u = column_units l.column in
    let n = columns u l.measure in
    let begins = begins_of l.edges in
    record {
      whole : string_bytes l.line ++ drawn u n l.used (drop l.c-index l.chars) (drop l.c-index begins) ≡ 124 ∷ drawn u n 0 l.chars begins;
      left : l.edges_left.rest.now ≡ drop l.c-index l.edges;
      begins : l.edge ≡ get_or begins l.c-index 0;
      room : l.used < string_len l.line;
    }

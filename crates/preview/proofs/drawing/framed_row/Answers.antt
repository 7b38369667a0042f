use Rattle.std.proofs.Common.{◌≡◌, ℕ, ◌+◌, ◌-◌, ◌/◌, max, List, [], ◌∷◌, ◌++◌, length, get_or, drop, string_bytes, codes, Option, unwrap_or, sym, ap, ◌∙◌, append_assoc, arith, lit<}
use lib.Utf8.{encode}
use Rattle.preview.specs.Drawings.{column_units, columns, spaces, place, drawn, begins_of, last_edge}
use Rattle.preview.proofs.Draws.{draw_more, draw_all, draw_longer, begins_more, next_edge, mark_wider, mark_none}
use Rattle.preview.proofs.drawing.framed_row.Goals as goal
use Rattle.preview.proofs.drawing.framed_row.Goals.{then-edge-units+in_ok-push_str, else-edge-units}

pub loop-c-preserved : goal.loop-c-preserved
loop-c-preserved c =
    let u = column_units c.args.column in
    let n = columns u c.args.measure in
    let cs = c.args.chars.now in
    let edges = c.args.edges.now in
    let i = c.loop-c.c-index in
    let used = c.loop-c.used in
    let at = c.max-place.result in
    let line = string_bytes c.loop-c.line in
    let after : string_bytes c.push.new.self ≡ (line ++ spaces (at - used)) ++ encode (get_or cs i 0) =
    c.in_ok-push.ensures.bytes
    ∙ ap (λ (x : List ℕ). x ++ encode c.from.result) c.in_ok-push_times.ensures
    ∙ ap (λ (k : ℕ). (line ++ spaces (at - used)) ++ encode k) c.from.ensures
    in
    let stands : at ≡ place u used (get_or (begins_of edges) i 0) =
    c.max-place.ensures
    ∙ ap (λ (k : ℕ). max used (c.loop-c.edge / k)) c.units.ensures.value
    ∙ ap (λ (b : ℕ). place u used b) c.loop-c.invariant.begins
    in
    let next = next_edge (λ it. it.rest.now) edges i c.loop-c.edges_left c.next.new.self c.next.result c.loop-c.invariant.left c.next.ensures.steps in
    let long = draw_longer used at (get_or cs i 0) line (let l = c.loop-c.line.bytes.ok.0 in omega (arith, c.loop-c.invariant.room)) in
    record {
      whole = ap (λ (x : List ℕ). x ++ drawn u n (at + 1) (drop (i + 1) cs) (drop (i + 1) (begins_of edges))) after
          ∙ draw_more u n used cs (begins_of edges) line (124 ∷ drawn u n 0 cs (begins_of edges)) i at c.loop-c-test.true stands c.loop-c.invariant.whole;
      left = next.1;
      begins = c.unwrap_or-edge.ensures ∙ ap (λ (o : Option ℕ). unwrap_or o 0) c.copied.ensures ∙ next.0 ∙ sym (begins_more edges i);
      room = omega (arith, long, c.push.new.self.bytes.ok.0, ap length after);
    }

-- the line with both bars
closed : (c : goal.Joined-edge-units) → string_bytes c.push-2.new.self ≡ (124 ∷ drawn (column_units c.args.column) (columns (column_units c.args.column) c.args.measure) 0 c.args.chars.now (begins_of c.args.edges.now)) ++ 124 ∷ []
closed c =
    let u = column_units c.args.column in
    let n = columns u c.args.measure in
    let cs = c.args.chars.now in
    let begins = begins_of c.args.edges.now in
    let used = c.loop-c.used in
    let line = string_bytes c.loop-c.line in
    let put = c.in_ok-push-2.ensures in
    put.bytes
    ∙ ap (λ (x : List ℕ). string_bytes c.push_times-2.new.line ++ x) (put.ascii (lit< tt))
    ∙ ap (λ (x : List ℕ). x ++ 124 ∷ []) (
    c.in_ok-push_times-2.ensures
    ∙ ap (λ (k : ℕ). line ++ spaces k) (c.saturating_sub.ensures ∙ ap (λ (k : ℕ). k - used) c.count.ensures)
    ∙ draw_all u n used cs begins line (124 ∷ drawn u n 0 cs begins) c.loop-c.c-index c.loop-c-test.false c.loop-c.invariant.whole)

pub returns : goal.returns
returns c =
    let u = column_units c.args.column in
    let m = c.args.measure in
    let cs = c.args.chars.now in
    let begins = begins_of c.args.edges.now in
    let all = drawn u (columns u m) 0 cs begins in
    let edge = last_edge cs c.args.edges.now in
    let last : c.loop-c.edge ≡ edge =
    let end : c.loop-c.c-index ≡ length cs = omega arith in
    c.loop-c.invariant.begins ∙ ap (λ (k : ℕ). get_or begins k 0) end
    in
    elim c.if-edge-units.branch [
      | then-edge-units+in_ok-push_str w ↦
          ap string_bytes w.line-is
          ∙ w.in_ok-push_str.ensures.bytes
          ∙ ap (λ (x : List ℕ). x ++ codes " < wider than the label") (closed c)
          ∙ append_assoc (124 ∷ all) (124 ∷ []) (codes " < wider than the label")
          ∙ ap (λ (x : List ℕ). 124 ∷ (all ++ 124 ∷ x)) (sym (mark_wider m edge (omega (arith, last, w.if-edge-units.true, c.units-2.ensures.value))))
      | else-edge-units w ↦
          ap string_bytes w.line-is
          ∙ closed c
          ∙ ap (λ (x : List ℕ). 124 ∷ (all ++ 124 ∷ x)) (sym (mark_none m edge (omega (arith, last, w.if-edge-units.false, c.units-2.ensures.value))))
    ]

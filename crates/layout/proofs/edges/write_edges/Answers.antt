use Rattle.std.proofs.Common.{◌≡◌, ℕ, ◌+◌, ◌-◌, min, ◌++◌, length, get_or, drop, Some, Option, Result, unwrap_or as or_zero, sym, ap, ◌∙◌, arith, length-drop, length-take}
use Rattle.std.proofs.lemmas.Option.{slice_get-get_or}
use Rattle.std.specs.Result.{result_unwrap_or}
use Rattle.metrics.specs.Meaning.{Meaning, answer}
use Rattle.metrics.specs.declared.fault.MissingGlyph.{MissingGlyph}
use Rattle.page.specs.Texts.{seen, part}
use Rattle.layout.specs.Widths.{edges}
use Rattle.layout.proofs.EdgeSteps.{seen_part, advance_given, edge_more, rest_more, edges_all}
use Rattle.layout.proofs.edges.write_edges.Goals as goal

pub overflow_add-edge : goal.overflow_add-edge
overflow_add-edge g c = omega (arith, c.len.ensures.few, c.len.ensures.value)

pub turn-preserved : goal.turn-preserved
turn-preserved g c =
    let inv = c.turn.invariant in
    let m = g.M.Measurer.meaning c.args.measurer.now in
    let t = g.T.Characters.chars c.args.text.now in
    let cs = part t c.args.start c.args.end in
    let i = c.turn.i in
    let ch = c.unwrap_or-c.result in
    let at = c.args.start + i in
    let found : seen t at ≡ Some (get_or t at 0) = slice_get-get_or t at 0 (omega (arith, c.len.ensures.value)) in
    let is : ch ≡ get_or t at 0 = c.unwrap_or-c.ensures ∙ ap (λ (o : Option ℕ). or_zero o 0) (c.get.ensures ∙ found) in
    let there : seen cs i ≡ Some ch = seen_part t c.args.start c.args.end i (omega arith) ∙ found ∙ ap Some (sym is) in (
      c.advance.ensures.same ∙ inv.0,
      (λ s. c.advance.ensures.stays (inv.1 s)),
      omega arith,
      rest_more c.turn.edges c.args.edges.now i _ inv.3,
      c.advance.ensures.lenders ∙ inv.4,
      (λ s v.
          let told : c.advance.result ≡ answer m c.turn.before ch = c.advance.ensures.value (inv.1 s) ∙ ap (λ (x : Meaning). answer x c.turn.before ch) inv.0 in
          let adv : c.from-edge.result ≡ m.adv c.turn.before ch = c.from-edge.ensures ∙ c.unwrap_or.ensures ∙ ap (λ (r : Result ℕ MissingGlyph). result_unwrap_or r 0) told ∙ advance_given m c.turn.before ch (v i ch there) in
          edge_more m cs c.turn.edges i ch c.turn.edge c.from-edge.result c.turn.before (omega arith) there adv (inv.5 s v)),
    )

pub returns : goal.returns
returns g c =
    let inv = c.turn.invariant in
    let m = g.M.Measurer.meaning c.args.measurer.now in
    let t = g.T.Characters.chars c.args.text.now in
    let cs = part t c.args.start c.args.end in
    let i = c.turn.i in
    let long : length cs ≡ min (c.args.end - c.args.start) (length t - c.args.start) = length-take (c.args.end - c.args.start) (drop c.args.start t) ∙ ap (min (c.args.end - c.args.start)) (length-drop c.args.start t) in
    record {
      same = inv.0;
      lenders = inv.4;
      stays = inv.1;
      value = λ s v room.
          let all : i ≡ length cs = omega (arith, long, room, c.len.ensures.value) in
          edges_all m cs c.turn.edges c.args.edges.now i c.turn.edge c.turn.before (omega arith) inv.3 (inv.5 s v) ∙ ap (λ (n : ℕ). edges m cs ++ drop n c.args.edges.now) all;
    }

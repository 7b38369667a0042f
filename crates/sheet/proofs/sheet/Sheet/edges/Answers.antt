use Rattle.std.proofs.Common.{◌≡◌, ℕ, ◌-◌, ◌++◌, length, drop, ap, ◌∙◌, arith}
use Rattle.page.specs.Texts.{part}
use Rattle.buffer.specs.Held.{held}
use Rattle.layout.proofs.EdgeSteps.{length_part}
use Rattle.layout.specs.Widths.{edges as edges_of}
use Rattle.sheet.proofs.Edging.{covered_row, told_edges}
use Rattle.sheet.proofs.Showing.{as_clean, found}
use Rattle.sheet.proofs.sheet.Sheet.edges.Goals as goal

pub returns-clause-value : goal.returns-clause-value
returns-clause-value g c k h f =
    let r = c.in_ok-row.row in
    let t = held c.args.self.now.text in
    let long : length (part t r.start r.end) ≡ r.end - r.start = length_part t r.start r.end c.in_ok-row.ensures.inside.1 in
    let is = found _ _ r (c.in_ok-row.ensures.value ∙ as_clean k h _ f c.args.number (length c.args.edges.now)) in
    told_edges k h _ f c.args.number c.args.edges.now _ c.in_ok-row.ensures.value _
    (c.write_edges.ensures.value f.sound (covered_row k h _ f c.args.number r is.0) (omega (arith, long, is.1))
    ∙ ap (λ (n : ℕ). edges_of (g.M.Measurer.meaning c.args.self.now.setter.measurer) (part t r.start r.end) ++ drop n c.args.edges.now) long)

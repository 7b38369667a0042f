use Rattle.std.proofs.Common.{rules, tests, ◌≡◌, ◌<◌, min, List, length, get_or, Some, IfSome, sym, ap, ◌∙◌, subst, arith}
use Rattle.std.proofs.lemmas.Option.{slice_get-get_or}
use Rattle.std.specs.List.{slice_get}
use Rattle.std.specs.Option.{option_map}
use Rattle.page.specs.declared.row.Row.{Row}
use Rattle.buffer.specs.Held.{held}
use Rattle.sheet.specs.Fitting.{fitted, within}
use Rattle.sheet.proofs.Showing.{has_room, lacks_room}
use Rattle.sheet.proofs.sheet.Sheet.fitting_row.Given.{Over}
use Rattle.sheet.proofs.sheet.Sheet.fitting_row.Goals.{After-min-start}
use Rattle.sheet.proofs.sheet.Sheet.fitting_row.Goals as goal

-- the row that is found, as it is cut
there : (g : Over) (c : After-min-start g)
    → option_map (within (length (held c.args.self.now.text))) (slice_get c.args.self.now.rows.rows.items c.args.number)
    ≡ Some (record { start = c.min-start.result; end = c.min-end.result; ending = c.in_ok-row.field-0.now.ending; width = c.in_ok-row.field-0.now.width; reach = c.in_ok-row.field-0.now.reach })
there g c =
    let few : c.args.number < length c.as_slice.result.now = search (rules, tests) in
    let at = subst (λ o. IfSome o (λ x. x.now ≡ get_or c.as_slice.result.now c.args.number x.now)) c.in_ok-row.ensures.ok_part c.get.ensures.lookup.1 in
    let r = c.in_ok-row.field-0.now in
    let n = length (held c.args.self.now.text) in
    let to : min r.end n ≡ c.min-end.result = omega (arith, c.min-end.ensures, c.len.ensures.value) in
    let from : min r.start (min r.end n) ≡ c.min-start.result = omega (arith, c.min-start.ensures, to) in
    ap (λ (rs : List Row). option_map (within n) (slice_get rs c.args.number)) (sym c.as_slice.ensures.value)
    ∙ ap (option_map (within n)) (slice_get-get_or c.as_slice.result.now c.args.number r few ∙ ap Some (sym at))
    ∙ (λ j. Some (record { start = from j; end = to j; ending = r.ending; width = r.width; reach = r.reach }))

pub returns-then-end-start-clause-value : goal.returns-then-end-start-clause-value
returns-then-end-start-clause-value g c = lacks_room c.args.room _ c.if-end-start.true ∙ ap (fitted c.args.room) (sym (there g (goal.at.returns-then-end-start-clause-value g c).After-min-start))

pub returns-clause-value : goal.returns-clause-value
returns-clause-value g c = has_room c.args.room _ c.if-end-start.false ∙ ap (fitted c.args.room) (sym (there g (goal.at.returns-clause-value g c).After-min-start))

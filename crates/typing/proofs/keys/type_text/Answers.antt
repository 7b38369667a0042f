use Rattle.std.proofs.Common.{rules, tests, ◌≡◌, ℕ, List, Ok, Err, subst, arith}
use Rattle.std.proofs.lemmas.List.{take_all}
use Rattle.screen.specs.Views.{view}
use Rattle.sheet.specs.States.{state}
use Rattle.typing.specs.Typing.{Keys}
use Rattle.typing.proofs.Texts.{none_typed, one_more, stopped_there}
use Rattle.typing.proofs.keys.type_text.Goals as goal

pub keys-init : goal.keys-init
keys-init g c =
    let none : c.default-effort.result ≡ record { broken = 0; anew = 0 } = search rules in
    λ k h f sees. rw none (none_typed k h c.args.text.now _ _ f sees)

pub returns-in_err-broken : goal.returns-in_err-broken
returns-in_err-broken g c =
    let e = c.in_err-broken.field-0.0.fault in
    let is : c.press.result ≡ Err e = search (rules, tests) in
    let told : c.from_residual.result ≡ Err (record { place = c.keys.place-counter; fault = e }) = search (rules, tests) in
    λ k h f sees.
    let so = c.keys.invariant k h f sees in
    let pressed = c.press.ensures k _ so.0.follows so.0.screen_is in
    rw told (stopped_there k h c.args.text.now c.keys.place-counter (omega arith) c.keys.effort _ _ so _ _ e (rw is at pressed))

pub keys-preserved : goal.keys-preserved
keys-preserved g c =
    let is : c.press.result ≡ Ok c.in_ok-broken.broken = search (rules, tests) in
    λ k h f sees.
    let so = c.keys.invariant k h f sees in
    let pressed = c.press.ensures k _ so.0.follows so.0.screen_is in
    one_more k h c.args.text.now c.keys.place-counter (omega arith) c.keys.effort _ _ so _ _ c.in_ok-broken.broken c.row_count.result (rw is at pressed) (c.row_count.ensures.value)

pub returns : goal.returns
returns g c k h f sees =
    subst (λ (xs : List ℕ). Keys k h xs (Ok c.keys.effort) (state g.M.Measurer.meaning g.M.Measurer.sound g.P.Policy.rules c.keys.sheet) (view c.keys.screen)) (take_all c.keys.place-counter c.args.text.now (omega arith)) (c.keys.invariant k h f sees)

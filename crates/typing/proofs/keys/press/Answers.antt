use Rattle.std.proofs.Common.{◌≡◌, length, refl, ap, ◌∙◌}
use Rattle.std.proofs.lemmas.Result.{err_from_is_err_and}
use Rattle.sheet.specs.Clean.Answer.{settled}
use Rattle.sheet.specs.Histories.{clean_after}
use Rattle.sheet.specs.States.{state}
use Rattle.sheet.proofs.Unchanging.{still_follows}
use Rattle.typing.proofs.Pressing.{settle_event, refused_key, never_unsettled, taken_key}
use Rattle.typing.proofs.keys.press.Goals as goal

pub returns-in_err-slip : goal.returns-in_err-slip
returns-in_err-slip g c =
    let p = err_from_is_err_and c.from_residual.result c.from_residual.ensures.1 in
    λ k h f sees.
    let end : c.char_count-at.result ≡ length (clean_after k h).text = c.char_count-at.ensures.value ∙ ap length f.text in
    rw (p.1, p.2) (refused_key k h c.args.c c.char_count-at.result end _ _ _ f sees _ (c.in_err-slip.ensures.follows k h f))

pub returns-in_err-settle : goal.returns-in_err-settle
returns-in_err-settle g c =
    let p = err_from_is_err_and c.from_residual-in_err-settle.result c.from_residual-in_err-settle.ensures.1 in
    λ k h f sees.
    let end : c.char_count-at.result ≡ length (clean_after k h).text = c.char_count-at.ensures.value ∙ ap length f.text in
    let f₁ = c.in_ok-slip.ensures.follows k h f in
    rw (p.1, p.2) (never_unsettled k h c.args.c c.char_count-at.result end _ f₁ _ _ (c.in_err-settle.ensures.follows k _ f₁))

pub returns : goal.returns
returns g c k h f sees =
    let end : c.char_count-at.result ≡ length (clean_after k h).text = c.char_count-at.ensures.value ∙ ap length f.text in
    let s₂ = state g.M.Measurer.meaning g.M.Measurer.sound g.P.Policy.rules c.settle.new.self in
    let told = c.in_ok-follow.ensures in
    let f₁ = c.in_ok-slip.ensures.follows k h f in
    let f₂ = c.in_ok-settle.ensures.follows k _ f₁ in
    let shows = told.shows k _ (settle_event (settled c.settle.new.record) s₂) refl f₂ sees in
    taken_key k h c.args.c c.char_count-at.result end _ f₁ s₂ _ c.settle.new.record _ (still_follows told.same k _ f₂) shows.0 shows.1

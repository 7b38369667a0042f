use Rattle.std.proofs.Common.{ℕ, refl, ap}
use Rattle.std.proofs.lemmas.Result.{err_from_is_err_and}
use Rattle.sheet.specs.Clean.Answer.{refused, settled}
use Rattle.sheet.specs.Clean.Call.{settle}
use Rattle.sheet.specs.Faults.{settle_told}
use Rattle.sheet.specs.States.{state}
use Rattle.runner.specs.Entries.{words}
use Rattle.runner.proofs.Taking.{one_call}
use Rattle.runner.proofs.carrying.settle.Goals as goal

pub returns-in_err-settle : goal.returns-in_err-settle
returns-in_err-settle g c =
    let p = err_from_is_err_and c.from_residual.result c.from_residual.ensures.1 in
    let s = state g.M.Measurer.meaning g.M.Measurer.sound g.P.Policy.rules c.settle.new.self in
    λ k h n f. rw (p.1, p.2) (one_call k h s settle (refused settle_told) (c.in_err-settle.ensures.follows k h f) n _ refl)

pub returns : goal.returns
returns g c =
    let s = state g.M.Measurer.meaning g.M.Measurer.sound g.P.Policy.rules c.settle.new.self in
    let p = c.settle.new.record in
    let count = c.row_count.ensures.value in
    λ k h n f. one_call k h s settle (settled p) (c.in_ok-settle.ensures.follows k h f) n _ (ap (λ (rows : ℕ). words n rows (settled p)) count)

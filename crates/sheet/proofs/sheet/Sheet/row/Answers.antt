use Rattle.std.proofs.Common.{refl}
use Rattle.std.proofs.lemmas.Result.{err_from_is_err_and}
use Rattle.sheet.proofs.Showing.{shown_row}
use Rattle.sheet.proofs.sheet.Sheet.row.Goals as goal

pub returns-in_err-row-clause-follows : goal.returns-in_err-row-clause-follows
returns-in_err-row-clause-follows g c =
    let p = err_from_is_err_and c.from_residual.result c.from_residual.ensures.1 in
    λ k h f. rw (p.1, p.2) (shown_row k h _ f c.args.number c.args.buffer.now _ c.in_err-row.ensures.value _ refl)

pub returns-clause-follows : goal.returns-clause-follows
returns-clause-follows g c k h f = shown_row k h _ f c.args.number c.args.buffer.now _ c.in_ok-row.ensures.value _ c.copy_to.ensures

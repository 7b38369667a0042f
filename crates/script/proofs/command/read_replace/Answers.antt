use native.Mathlib.Nat.{sub-zero}
use Rattle.script.proofs.ReadSteps.{no_place, no_count, no_text, all_read}
use Rattle.script.proofs.command.read_replace.Goals as goal

pub returns-in_err-at : goal.returns-in_err-at
returns-in_err-at c = rw c.from_residual.ensures (no_place c.args.rest.now c.in_err-at.ensures)

pub returns-in_err-del : goal.returns-in_err-del
returns-in_err-del c =
    rw c.from_residual-in_err-del.ensures (no_count c.args.rest.now _ _ c.in_ok-at.ensures c.in_err-del.ensures)

pub returns-in_err-len : goal.returns-in_err-len
returns-in_err-len c =
    rw c.from_residual-in_err-len.ensures (no_text c.args.rest.now _ _ c.in_ok-at.ensures _ _ c.in_ok-del.ensures c.in_err-len.ensures.value)

pub returns : goal.returns
returns c =
    all_read c.args.rest.now _ _ c.in_ok-at.ensures _ _ c.in_ok-del.ensures _ (simp sub-zero c.in_ok-len.ensures.value)

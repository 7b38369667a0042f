use Rattle.std.proofs.Common.{List, [], ◌∷◌, ◌++◌, length, sym, ap, ◌∙◌, subst, append_assoc, arith}
use Rattle.std.proofs.lemmas.List.{length_push, take_more}
use Rattle.std.proofs.lemmas.Slice.Zip.{all_zipped_more}
use Rattle.std.specs.List.{AllZip}
use Rattle.page.specs.declared.row.Row.{Row}
use Rattle.reflow.proofs.carrying.append.Goals as goal

pub loop-row-preserved : goal.loop-row-preserved
loop-row-preserved g c =
    let inv = c.loop-row.invariant in
    let pushed = c.in_ok-push.ensures.value in
    let i = c.loop-row.row-index in
    let new = inv.1.0 in
    let y = c.becomes.result in
    let long = ap length pushed ∙ length_push c.loop-row.rows.rows.items y in (
      omega arith,
      (
        new ++ y ∷ [],
        pushed ∙ ap (λ (x : List Row). x ++ y ∷ []) inv.1.1 ∙ append_assoc c.args.rows.now.rows.items new (y ∷ []),
        subst (λ (x : List Row). AllZip (goal.F-post g c.args.becomes) x (new ++ y ∷ [])) (sym (take_more c.args.old.now i _ c.loop-row-test.true))
            (all_zipped_more (goal.F-post g c.args.becomes) _ new _ y inv.1.2 c.becomes.ensures),
      ),
    )

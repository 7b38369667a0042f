use Rattle.std.proofs.Common.{rules, tests, ◌++◌, List, ap, ◌∙◌}
use Rattle.std.proofs.lemmas.Result.{MatchResult-weaker}
use Rattle.page.specs.declared.row.Row.{Row}
use Rattle.reflow.specs.Edits.{resumed, Small}
use Rattle.reflow.proofs.Carried.{all_became}
use Rattle.reflow.proofs.carrying.resume.Goals as goal

pub returns : goal.returns
returns c =
    let move = resumed c.args.edit.del c.args.edit.ins in
    MatchResult-weaker c.append.result c.append.ensures
    (λ _ put small. put.1 ∙ ap (λ (x : List Row). c.args.rows.now.rows.items ++ x) (all_became _ (λ (r : Row). Small (move r)) move (λ x y given fits. search (rules, tests)) c.args.old.now put.0 put.2 small))
    (λ _ long. long)

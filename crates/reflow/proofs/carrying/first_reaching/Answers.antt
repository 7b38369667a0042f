use Rattle.std.proofs.Common.{◌≡◌, Bool, leb, ◌∙◌, rules, tests, arith}
use Rattle.std.proofs.lemmas.Iterator.{YieldsList-from_slice}
use Rattle.std.proofs.lemmas.Iterator.Consumers.{YieldsList-at, count_from_yields_List}
use Rattle.std.proofs.lemmas.Iterator.Search.{YieldsList-from_take_while}
use Rattle.std.proofs.lemmas.List.Folds.{length-prefix_len}
use Rattle.page.specs.declared.row.Row.{Row}
use Rattle.reflow.specs.Repaints.{first_reaching}
use Rattle.reflow.proofs.carrying.first_reaching.Goals as goal

pub returns : goal.returns
returns c =
    let old = c.args.old.now in
    let short : Row → Bool = λ r. leb r.reach c.args.edit.at in
    let rows = YieldsList-at c.take_while.ensures.source (YieldsList-from_slice old (cc)) in
    let counted : c.count.result ≡ first_reaching c.args.edit old =
    count_from_yields_List c.take_while.result _ c.count.ensures.ran (YieldsList-from_take_while _ short rows c.take_while.ensures.closure c.take_while.ensures.done (λ x b q k. search (rules, tests)))
    ∙ length-prefix_len short old in
    omega (arith, counted)

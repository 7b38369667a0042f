use Rattle.std.proofs.Common.{rules, tests, Bool, zip, ◌∙◌}
use Rattle.std.proofs.lemmas.Iterator.{YieldsList-from_slice, YieldsList-from_zip}
use Rattle.std.proofs.lemmas.Iterator.Consumers.{YieldsList-at, count_from_yields_List}
use Rattle.std.proofs.lemmas.Iterator.Search.{YieldsList-from_take_while}
use Rattle.std.proofs.lemmas.List.Folds.{length-prefix_len}
use Rattle.page.specs.declared.row.Row.{Row}
use Rattle.reflow.specs.Repaints.{kept}
use Rattle.reflow.proofs.Fronts.{kept_pairs}
use Rattle.reflow.proofs.repainting.front.Goals as goal

pub returns-clause-value : goal.returns-clause-value
returns-clause-value c =
    let old = c.args.old.now in
    let new = c.args.new.now in
    let same : Row × Row → Bool = λ x. kept c.args.at x.0 x.1 in
    let pairs = YieldsList-at c.take_while.ensures.source (YieldsList-from_zip (YieldsList-from_slice old (cc)) (YieldsList-from_slice new (cc))) in
    count_from_yields_List c.take_while.result _ c.count.ensures.ran (YieldsList-from_take_while _ same pairs c.take_while.ensures.closure c.take_while.ensures.done (λ x b q k. search (rules, tests)))
    ∙ length-prefix_len same (zip old new)
    ∙ kept_pairs c.args.at old new

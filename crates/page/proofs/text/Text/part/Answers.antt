use Rattle.std.proofs.Common.{◌≡◌, ℕ, min, List, length, vec_items, ap, ◌∙◌, ap₂}
use Rattle.page.specs.Texts.{part}
use Rattle.page.proofs.Places.{part_within}
use Rattle.page.proofs.text.Text.part.Goals as goal

pub returns-clause-value : goal.returns-clause-value
returns-clause-value c =
    let t = vec_items c.self.inside.chars in
    let n = c.len.ensures ∙ c.self.inside.chars.ok.0 in
    let to : c.min-end.result ≡ min c.args.end (length t) = c.min-end.ensures ∙ ap (min c.args.end) n in
    let from : c.min-start.result ≡ min c.args.start (min c.args.end (length t)) = c.min-start.ensures ∙ ap (min c.args.start) to in
    ap (λ (x : List ℕ). part x c.min-start.result c.min-end.result) c.deref.ensures.value ∙ ap₂ (part t) from to ∙ part_within t c.args.start c.args.end
    ∙ ap (λ (x : List ℕ). part x c.args.start c.args.end) c.self.view_is

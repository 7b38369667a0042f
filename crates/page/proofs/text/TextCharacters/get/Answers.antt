use Rattle.std.proofs.Common.{ap, ◌∙◌}
use Rattle.page.specs.Texts.{seen}
use Rattle.page.proofs.Places.{item_seen}
use Rattle.page.proofs.text.TextCharacters.get.Goals as goal

pub returns : goal.returns
returns c =
    c.copied.ensures ∙ item_seen c.deref.result.now c.args.at c.get.result c.get.ensures.lookup
    ∙ ap (λ t. seen t c.args.at) (c.deref.ensures.value ∙ c.self.view_is)

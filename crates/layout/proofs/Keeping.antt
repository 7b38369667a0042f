-- What keeps the style of a setter.
use Rattle.std.proofs.Common.{◌≡◌, ap, ◌∙◌}
use Rattle.metrics.specs.Meaning.{Meaning}
use Rattle.layout.specs.Styles.{Style}

-- a measurer that means the same
pub still : {k k' : Style} {m : Meaning} → m ≡ k.meaning → k ≡ k' → record { meaning = m; rules = k.rules; measure = k.measure } ≡ k'
still {k} e f = ap (λ m. record { meaning = m; rules = k.rules; measure = k.measure }) e ∙ f

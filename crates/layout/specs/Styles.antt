-- The style that text is set in: what its characters advance, where its rows may end, and their measure.
use Rattle.std.specs.Prelude.{ℕ}
use Rattle.metrics.specs.Meaning.{Meaning}
use Rattle.page.specs.Policies.{Rules}
use Rattle.layout.specs.declared.setter.Setter.{Setter}

pub record Style : Type 0 where
  pub meaning : Meaning
  pub rules : Rules
  pub measure : ℕ

-- the style of a setter
abbrev pub style : {M P : Type 0} → (M → Meaning) → (P → Rules) → Setter M P → Style
style meaning rules s = record { meaning = meaning s.measurer; rules = rules s.policy; measure = s.measure }

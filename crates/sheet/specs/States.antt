-- The state of a sheet.
use Rattle.metrics.specs.Meaning.{Meaning}
use Rattle.page.specs.Policies.{Rules}
use Rattle.buffer.specs.Held.{held}
use Rattle.sheet.specs.Histories.{State}
use Rattle.sheet.specs.declared.sheet.Sheet.{Sheet}

abbrev pub state : {M P : Type 0} → (M → Meaning) → (M → Type 0) → (P → Rules) → Sheet M P → State
state meaning sound rules s = record {
  meaning = meaning s.setter.measurer;
  rules = rules s.setter.policy;
  sound = sound s.setter.measurer;
  measure = s.setter.measure;
  text = held s.text;
  rows = s.rows.rows.items;
  owed = s.owed;
  tally = s.setter.tally;
}

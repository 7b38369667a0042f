-- What the options of a program ask text to be set with.
use Rattle.std.specs.Prelude.{◌≡◌, true, is_some, None}
use Rattle.fonts.specs.Font.{table_meaning}
use Rattle.fonts.specs.Pile.{piled}
use Rattle.layers.specs.Cache.{Right}
use Rattle.layers.specs.Tracking.{TrackingRange}
use Rattle.metrics.specs.declared.fault.OutOfRange.TheVariants.{Tracking}
use Rattle.page.specs.Measures.{Measures}
use Rattle.preview.specs.declared.words.Refusal.TheVariants.{NoMeasure, Setting}
use Rattle.program.specs.declared.options.Options.{Options}
use Rattle.program.specs.declared.setters.Chosen.{Chosen}
use Rattle.program.specs.declared.setters.Chosen.TheVariants.{Cells, Font}
use Rattle.program.specs.declared.stop.Stop.{Stop}
use Rattle.program.specs.declared.stop.Stop.TheVariants.{Refused}

-- cells of 500 where no font is named, else a font over such cells, tracked as asked; the policy and the measure as
-- asked; and no row is broken yet. What is kept beside what a font means, that is the advances held, is right.
abbrev pub AsAsked : Options → Chosen → Type 0
AsAsked o (Cells s) =
    (o.font ≡ None) × (s.measurer.size ≡ 500) × (s.policy ≡ o.breaks) × (s.measure ≡ o.measure) × (s.tally ≡ 0)
AsAsked o (Font s) =
    ((is_some o.font ≡ true) × (s.measurer.below.below.second.size ≡ 500) × (s.measurer.below.units ≡ o.tracking)
    × (s.policy ≡ o.breaks) × (s.measure ≡ o.measure) × (s.tally ≡ 0))
    × (let font = s.measurer.below.below.first in
    Right (piled (table_meaning font.widths font.kerns) s.measurer.below.below.second.size s.measurer.below.units) s.measurer.pairs.slots)

-- a measure out of its range is refused first, then a tracking out of its own; for anything else only a font is
pub record RightlyRefused (o : Options) (e : Stop) : Type 0 where
  pub measure : (Measures o.measure → ⊥) → e ≡ Refused (NoMeasure (record {}))
  pub tracking : Measures o.measure → (TrackingRange o.tracking → ⊥) → e ≡ Refused (Setting Tracking)
  pub font : Measures o.measure → TrackingRange o.tracking → is_some o.font ≡ true

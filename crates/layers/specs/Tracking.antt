-- Tracking: t more after a predecessor, nothing more at a row's start.
use Rattle.std.specs.Prelude.{ℕ, ℤ, pos, negsuc, ◌+ℤ◌, ◌≤ℤ◌, Some, None, Option}
use Rattle.metrics.specs.Meaning.{Meaning}
use Rattle.metrics.specs.Limits.{cut, deeper}

-- -500 to 500
abbrev pub TrackingRange : ℤ → Type 0
TrackingRange t = (negsuc 499 ≤ℤ t) × (t ≤ℤ pos 500)

-- the advance a after a predecessor, or after none, tracked by t
abbrev pub tracked_advance : ℤ → Option ℕ → ℕ → ℕ
tracked_advance t None a = a
tracked_advance t (Some p) a = cut (pos a +ℤ t)

abbrev pub tracked : ℤ → Meaning → Meaning
tracked t m = record {
  covers = m.covers;
  adv = λ p c. tracked_advance t p (m.adv p c);
  depth = λ c. deeper (m.depth c);
}

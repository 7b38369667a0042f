-- The numbers of a measurer's refusals.
use Rattle.std.specs.Prelude.{ℕ}
use Rattle.metrics.specs.declared.fault.OutOfRange.{OutOfRange}
use Rattle.metrics.specs.declared.fault.OutOfRange.TheVariants.{CellSize, Tracking}

abbrev pub number : OutOfRange → ℕ
number CellSize = 17
number Tracking = 17

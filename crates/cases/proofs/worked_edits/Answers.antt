use Rattle.std.proofs.Common.{refl}
use Rattle.layout.specs.Layouts.{laid_from}
use Rattle.layout.specs.Scans.{scan}
use Rattle.cases.proofs.worked_edits.Goals as goal

pub returns : goal.returns
unfolding scan laid_from
returns c = (
  refl,
  (
    record { old = refl; new = refl; painted = refl },
    (
      record { old = refl; new = refl; painted = refl },
      (
        record { old = refl; new = refl; painted = refl },
        (record { old = refl; new = refl; painted = refl }, tt),
      ),
    ),
  ),
  record { fit = refl; over = refl },
)

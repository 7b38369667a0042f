use Rattle.std.proofs.Common.{refl}
use Rattle.layout.specs.Covers.{first_uncovered}
use Rattle.layout.specs.Layouts.{laid_from}
use Rattle.layout.specs.Scans.{scan}
use Rattle.cases.proofs.worked_cases.Goals as goal

pub returns : goal.returns
unfolding scan laid_from first_uncovered
returns c = (refl, (refl, (refl, (refl, (refl, (refl, (refl, (refl, (refl, (refl, tt))))))))))

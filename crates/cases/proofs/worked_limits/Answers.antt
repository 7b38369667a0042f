use Rattle.std.proofs.Common.{refl}
use Rattle.layout.specs.Covers.{first_uncovered}
use Rattle.layout.specs.Layouts.{laid_from}
use Rattle.layout.specs.Scans.{scan}
use Rattle.sheet.specs.Clean.{replace_step}
use Rattle.cases.proofs.worked_limits.Goals as goal

pub returns : goal.returns
unfolding scan laid_from first_uncovered replace_step
returns c = (refl, record { most_characters = refl; one_more = refl; most_rows = refl; one_row_more = refl })

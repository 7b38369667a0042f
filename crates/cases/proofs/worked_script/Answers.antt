use Rattle.std.proofs.Common.{refl}
use Rattle.layout.specs.Covers.{first_uncovered}
use Rattle.layout.specs.Layouts.{laid_from}
use Rattle.layout.specs.Scans.{scan}
use lib.Utf8.{encode}
use Rattle.std.specs.Fmt.{digits as figures}
use Rattle.numerals.specs.Reading.{digits}
use Rattle.sheet.specs.Clean.{replace_step, remeasure_step}
use Rattle.script.specs.Lines.{lines}
use Rattle.script.specs.Reading.{command, replacing, spelt}
use Rattle.script.specs.Splits.{split_once}
use Rattle.runner.specs.Runs.{line_step, run_lines}
use Rattle.cases.proofs.worked_script.Goals as goal

pub returns : goal.returns
unfolding scan laid_from first_uncovered replace_step remeasure_step lines command replacing spelt split_once digits figures encode line_step run_lines
returns c = (refl, record { list = refl; all = refl })

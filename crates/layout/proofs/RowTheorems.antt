-- The laws of a row.
use Rattle.std.proofs.Common.{◌≡◌, ℕ, ◌≤◌, List, length, Ok, Err, Result, sym}
use Rattle.metrics.specs.Meaning.{Meaning}
use Rattle.page.specs.Policies.{Rules}
use Rattle.layout.specs.Scans.{row_from}
use Rattle.layout.specs.Theorems.{RowLaws, RightlyBroken}
use Rattle.layout.specs.declared.cover.Uncovered.{Uncovered}
use Rattle.page.specs.declared.row.Row.{Row}
use Rattle.layout.proofs.Covering.{exists, fails_at_first}
use Rattle.layout.proofs.Choosing.{only_one}
use Rattle.layout.proofs.Fitting.{is_first_fit}
use Rattle.layout.proofs.Locality.{local}
use Rattle.layout.proofs.Shifting.{shifts}

pub row_laws : (m : Meaning) (P : Rules) (w : ℕ) → RowLaws m P w
row_laws m P w = record {
  is_first_fit = λ t s r. is_first_fit m P w t s r;
  only_one = λ t s r r'. only_one m P w t s r r';
  exists = exists m P w;
  fails_at_first = fails_at_first m P w;
  local = local m P w;
  shifts = shifts m P w;
}

-- what `row_from` answers is right
pub rightly_broken : (m : Meaning) (P : Rules) (w : ℕ) (t : List ℕ) (s : ℕ) (a : Result Row Uncovered) → s ≤ length t → a ≡ row_from m P w t s → RightlyBroken m P w t s a
rightly_broken m P w t s (Ok r) h e = is_first_fit m P w t s r h (sym e)
rightly_broken m P w t s (Err u) h e = fails_at_first m P w t s u (sym e)

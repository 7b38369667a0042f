-- With room for a row at each place, a covered text is laid.
use Rattle.std.proofs.Common.{◌≡◌, ℕ, suc, List, length, Ok, Err, Result, refl, arith}
use Rattle.metrics.specs.Meaning.{Meaning}
use Rattle.page.specs.Policies.{Rules}
use Rattle.layout.specs.Covers.{Covered}
use Rattle.layout.specs.Layouts.{laid_from}
use Rattle.layout.specs.declared.laying.LayFault.{LayFault}
use Rattle.layout.specs.declared.laying.LayFault.TheVariants.{NoGlyph, TooManyRows}
use Rattle.layout.proofs.LayoutTheorems.{layout_laws}
use Rattle.reflow.proofs.RowLists.{rows_bound}
use Rattle.reflow.specs.Theorems.{AllRows}

module _ (m : Meaning) (P : Rules) (w : ℕ) where
  all_laid : (t : List ℕ) → Covered m t → (a : Result (Unit {0}) LayFault) → (laid_from m P w t (suc (length t)) 0).answer ≡ a → (laid_from m P w t (suc (length t)) 0).answer ≡ Ok tt
  all_laid t v (Ok u) e = e
  all_laid t v (Err (NoGlyph u)) e = absurd ((layout_laws m P w).covered t (suc (length t)) 0 u v e)
  all_laid t v (Err TooManyRows) e =
      let p = (layout_laws m P w).exist t 0 (omega arith) v in
      let l = (layout_laws m P w).too_many t (suc (length t)) 0 p.0 p.1 e in
      absurd (omega (arith, rows_bound m P w t p.1))

pub all_rows : (m : Meaning) (P : Rules) (w : ℕ) → AllRows m P w
all_rows m P w t v = (layout_laws m P w).are_first_fit t (suc (length t)) 0 (omega arith) (all_laid m P w t v (laid_from m P w t (suc (length t)) 0).answer refl)

-- The ways that a layout goes on at a row, as laws and as cases.
use Rattle.std.proofs.Common.{◌≡◌, ℕ, suc, List, [], ◌∷◌, Some, None, Ok, Err, Option, Result, refl}
use Rattle.metrics.specs.Meaning.{Meaning}
use Rattle.layout.specs.Layouts.{over, then_laid, laid_from}
use Rattle.page.specs.Policies.{Rules}
use Rattle.page.specs.Rows.{following}
use Rattle.layout.specs.Scans.{row_from}
use Rattle.layout.specs.declared.cover.Uncovered.{Uncovered}
use Rattle.layout.specs.declared.laying.LayFault.TheVariants.{NoGlyph, TooManyRows}
use Rattle.page.specs.declared.row.Row.{Row}

module _ (m : Meaning) (P : Rules) (w : ℕ) (t : List ℕ) where
  pub laid_full : (s : ℕ) → laid_from m P w t 0 s ≡ over TooManyRows
  unfolding laid_from
  laid_full s = refl

  pub laid_missing : (room s : ℕ) (u : Uncovered) → row_from m P w t s ≡ Err u → laid_from m P w t (suc room) s ≡ over (NoGlyph u)
  unfolding laid_from
  laid_missing room s u e = cc

  pub laid_last : (room s : ℕ) (r : Row) → row_from m P w t s ≡ Ok r → following r ≡ None → laid_from m P w t (suc room) s ≡ record { rows = r ∷ []; answer = Ok tt }
  unfolding laid_from
  laid_last room s r e n = cc

  pub laid_on : (room s s' : ℕ) (r : Row) → row_from m P w t s ≡ Ok r → following r ≡ Some s' → laid_from m P w t (suc room) s ≡ then_laid r (laid_from m P w t room s')
  unfolding laid_from
  laid_on room s s' r e n = cc

  pub data Turn (s : ℕ) : Type 0 where
    misses : (u : Uncovered) → row_from m P w t s ≡ Err u → Turn s
    ends : (r : Row) → row_from m P w t s ≡ Ok r → following r ≡ None → Turn s
    goes_on : (r : Row) (s' : ℕ) → row_from m P w t s ≡ Ok r → following r ≡ Some s' → Turn s

  pub turn : (s : ℕ) → Turn s
  turn s = go (row_from m P w t s) refl
    where
      next : (r : Row) → row_from m P w t s ≡ Ok r → (o : Option ℕ) → following r ≡ o → Turn s
      next r e None n = ends r e n
      next r e (Some s') n = goes_on r s' e n

      go : (a : Result Row Uncovered) → row_from m P w t s ≡ a → Turn s
      go (Err u) e = misses u e
      go (Ok r) e = next r e (following r) refl

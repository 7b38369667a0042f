-- The laws of a layout.
use Rattle.std.proofs.Common.{◌≡◌, ℕ, zero, suc, ◌+◌, ◌-◌, ◌<◌, ◌≤◌, List, [], ◌∷◌, ◌++◌, map, length, drop, Some, None, Ok, Err, Option, sym, refl, ap, ◌∙◌, arith, length-append}
use Rattle.std.proofs.lemmas.List.{drop-drop}
use Rattle.metrics.specs.Meaning.{Meaning}
use Rattle.layout.specs.Covers.{Covered}
use Rattle.layout.specs.FirstFit.{RowFrom, RowsFrom}
use Rattle.layout.specs.FirstFit.RowsFrom.{end, more}
use Rattle.layout.specs.Layouts.{laid_from}
use Rattle.page.specs.Policies.{Rules}
use Rattle.page.specs.Rows.{following}
use Rattle.layout.specs.Scans.{row_from}
use Rattle.layout.specs.Theorems.{moved, moved_answer, Agree, ReachWithin, LayoutLaws}
use Rattle.layout.specs.declared.cover.Uncovered.{Uncovered}
use Rattle.layout.specs.declared.laying.LayFault.TheVariants.{NoGlyph, TooManyRows}
use Rattle.page.specs.declared.row.Row.{Row}
use Rattle.layout.proofs.Following.{placed, following_moved}
use Rattle.layout.proofs.RowTheorems.{row_laws}
use Rattle.layout.proofs.Turns.{laid_full, laid_missing, laid_last, laid_on, turn}
use Rattle.layout.proofs.Turns.Turn.{misses, ends, goes_on}

module _ (m : Meaning) (P : Rules) (w : ℕ) where
  -- the two laws of a row that most proofs here use
  row_at : (t : List ℕ) (s : ℕ) (r : Row) → s ≤ length t → row_from m P w t s ≡ Ok r → RowFrom m P w t s r
  row_at = (row_laws m P w).is_first_fit

  one_row : (t : List ℕ) (s : ℕ) (r r' : Row) → RowFrom m P w t s r → RowFrom m P w t s r' → r ≡ r'
  one_row = (row_laws m P w).only_one

  are_first_fit : (t : List ℕ) (room s : ℕ) → s ≤ length t → (laid_from m P w t room s).answer ≡ Ok tt → RowsFrom m P w t s (laid_from m P w t room s).rows
  are_first_fit t zero s h a = let z : ◌≡◌ {A = ℕ} 0 1 = cc (laid_full m P w t s) in absurd (omega arith)
  are_first_fit t (suc room) s h a = elim (turn m P w t s) [
    | misses u e ↦ let z : ◌≡◌ {A = ℕ} 0 1 = cc (laid_missing m P w t room s u e) in absurd (omega arith)
    | ends r e n ↦ rw (laid_last m P w t room s r e n) (end (row_at t s r h e) n)
    | goes_on r s' e n ↦
        let x = row_at t s r h e in
        let l = (placed m P w t s r x).on s' n in
        let q = laid_on m P w t room s s' r e n in
        rw q (more s' x n (are_first_fit t room s' l.1 (cc)))
  ]

  one_rows : (t : List ℕ) {s : ℕ} {rs rs' : List Row} → RowsFrom m P w t s rs → RowsFrom m P w t s rs' → rs ≡ rs'
  one_rows t (end {s = s} {r = r} x n) (end {r = r'} x' n') = ap (λ y. y ∷ []) (one_row t s r r' x x')
  one_rows t (end {s = s} {r = r} x n) (more {r = r'} s' x' n' y') =
      let q = one_row t s r r' x x' in
      let z : ◌≡◌ {A = ℕ} 0 1 = cc in absurd (omega arith)
  one_rows t (more {s = s} {r = r} s' x n y) (end {r = r'} x' n') =
      let q = one_row t s r r' x x' in
      let z : ◌≡◌ {A = ℕ} 0 1 = cc in absurd (omega arith)
  one_rows t (more {s = s} {r = r} s' x n y) (more {r = r'} s'' x' n' y') =
      let q = one_row t s r r' x x' in
      let f : s'' ≡ s' = cc in
      let l = one_rows t y (rw f at y') in cc

  -- a row, and the rows from where the next starts
  rows_with : (t : List ℕ) (s : ℕ) → s ≤ length t → Covered m t → ((s' : ℕ) → s < s' → s' ≤ length t → (rs : List Row) × RowsFrom m P w t s' rs) → (rs : List Row) × RowsFrom m P w t s rs
  rows_with t s h v rest = next (following r) refl
    where
      r : Row
      r = ((row_laws m P w).exists t s v).0

      x : RowFrom m P w t s r
      x = row_at t s r h ((row_laws m P w).exists t s v).1

      next : (o : Option ℕ) → following r ≡ o → (rs : List Row) × RowsFrom m P w t s rs
      next None n = (r ∷ [], end x n)
      next (Some s') n =
          let l = (placed m P w t s r x).on s' n in
          let y = rest s' l.0 l.1 in
          (r ∷ y.0, more s' x n y.1)

  -- with n or fewer characters left
  exist_of : (t : List ℕ) (n s : ℕ) → s ≤ length t → length t ≤ s + n → Covered m t → (rs : List Row) × RowsFrom m P w t s rs
  exist_of t zero s h l v = rows_with t s h v (λ s' a b. absurd (omega arith))
  exist_of t (suc n) s h l v = rows_with t s h v (λ s' a b. exist_of t n s' b (omega arith) v)

  too_many : (t : List ℕ) (room s : ℕ) (rs : List Row) → RowsFrom m P w t s rs → (laid_from m P w t room s).answer ≡ Err TooManyRows → room < length rs
  too_many t zero s rs (end x n) a = omega arith
  too_many t zero s rs (more s' x n y) a = omega arith
  too_many t (suc room) s rs (end {r = r} x n) a = elim (turn m P w t s) [
    | misses u e ↦ let z : ◌≡◌ {A = ℕ} 0 1 = cc (laid_missing m P w t room s u e) in absurd (omega arith)
    | ends r' e n' ↦ let z : ◌≡◌ {A = ℕ} 0 1 = cc (laid_last m P w t room s r' e n') in absurd (omega arith)
    | goes_on r' s' e n' ↦
        let q = one_row t s r r' x (row_at t s r' (placed m P w t s r x).within e) in
        let z : ◌≡◌ {A = ℕ} 0 1 = cc in absurd (omega arith)
  ]
  too_many t (suc room) s rs (more {r = r} {rs = rest} s' x n y) a = elim (turn m P w t s) [
    | misses u e ↦ let z : ◌≡◌ {A = ℕ} 0 1 = cc (laid_missing m P w t room s u e) in absurd (omega arith)
    | ends r' e n' ↦ let z : ◌≡◌ {A = ℕ} 0 1 = cc (laid_last m P w t room s r' e n') in absurd (omega arith)
    | goes_on r' s'' e n' ↦
        let q = one_row t s r r' x (row_at t s r' (placed m P w t s r x).within e) in
        let f : s'' ≡ s' = cc in
        let l = too_many t room s' rest y (cc (laid_on m P w t room s s'' r' e n')) in omega arith
  ]

  covered : (t : List ℕ) (room s : ℕ) (u : Uncovered) → Covered m t → (laid_from m P w t room s).answer ≡ Err (NoGlyph u) → ⊥
  covered t zero s u v a = let z : ◌≡◌ {A = ℕ} 0 1 = cc (laid_full m P w t s) in omega arith
  covered t (suc room) s u v a = elim (turn m P w t s) [
    | misses u' e ↦ let p = (row_laws m P w).exists t s v in let z : ◌≡◌ {A = ℕ} 0 1 = cc p.1 in omega arith
    | ends r e n ↦ let z : ◌≡◌ {A = ℕ} 0 1 = cc (laid_last m P w t room s r e n) in omega arith
    | goes_on r s' e n ↦ covered t room s' u v (cc (laid_on m P w t room s s' r e n))
  ]

  -- the scan of a covered text finds the row by first fit
  found : (t : List ℕ) (s : ℕ) (r : Row) → Covered m t → RowFrom m P w t s r → row_from m P w t s ≡ Ok r
  found t s r v x =
      let p = (row_laws m P w).exists t s v in
      p.1 ∙ ap Ok (one_row t s p.0 r (row_at t s p.0 (placed m P w t s r x).within p.1) x)

  first_start : (t : List ℕ) {s : ℕ} {r : Row} {rs : List Row} → RowsFrom m P w t s (r ∷ rs) → r.start ≡ s
  first_start t (end {s = s} {r = r} x n) = (placed m P w t s r x).starts
  first_start t (more {s = s} {r = r} s' x n y) = (placed m P w t s r x).starts

  -- the first row, and the others where there are any
  others : (t : List ℕ) {s : ℕ} {r : Row} {rs : List Row} → RowsFrom m P w t s (r ∷ rs) → 0 < length rs → (s' : ℕ) × RowFrom m P w t s r × (following r ≡ Some s') × RowsFrom m P w t s' rs
  others t (end x n) h = absurd (omega arith)
  others t (more s' x n y) h = (s', x, n, y)

  local : (t t' : List ℕ) (s s' e : ℕ) (front rest rest' : List Row) (r : Row) → Covered m t → s ≤ length t'
      → RowsFrom m P w t s (front ++ r ∷ rest) → ReachWithin e front → Agree t t' s e
      → r.start ≡ s' → RowsFrom m P w t' s' rest' → RowsFrom m P w t' s (front ++ rest')
  local t t' s s' e [] rest rest' r v h y k a q z = let f : s' ≡ s = sym q ∙ first_start t y in rw f at z
  local t t' s s' e (f ∷ front) rest rest' r v h y k a q z =
      let l : 0 < length (front ++ r ∷ rest) = simp length-append (omega arith) in
      let o = others t y l in
      let x = row_at t' s f h ((row_laws m P w).local t t' s f (found t s f v o.1) (λ i b c. a i b (omega arith))) in
      let p = (placed m P w t' s f x).on o.0 o.2 in
      more o.0 x o.2 (local t t' o.0 s' e front rest rest' r v p.1 o.3 k.1 (λ i b c. a i (omega arith) c) q z)

  -- equal characters from s on are equal further on
  drop_on : (t t' : List ℕ) (s d s' : ℕ) → s ≤ s' → drop s t ≡ drop (s + d) t' → drop s' t ≡ drop (s' + d) t'
  drop_on t t' s d s' h e =
      let a : s + (s' - s) ≡ s' = omega arith in
      let b : s + d + (s' - s) ≡ s' + d = omega arith in
      cc (drop-drop (s' - s) s t, drop-drop (s' - s) (s + d) t')

  moved_row : (t t' : List ℕ) (s d : ℕ) (r : Row) → Covered m t → drop s t ≡ drop (s + d) t' → s + d ≤ length t' → RowFrom m P w t s r → RowFrom m P w t' (s + d) (moved d r)
  moved_row t t' s d r v e h x = row_at t' (s + d) (moved d r) h ((row_laws m P w).shifts t t' s d e ∙ ap (moved_answer d) (found t s r v x))

  shift : (t t' : List ℕ) (d : ℕ) {s : ℕ} {rs : List Row} → Covered m t → drop s t ≡ drop (s + d) t' → s + d ≤ length t' → RowsFrom m P w t s rs → RowsFrom m P w t' (s + d) (map (moved d) rs)
  shift t t' d v e h (end {s = s} {r = r} x n) = end (moved_row t t' s d r v e h x) (cc (following_moved d r))
  shift t t' d v e h (more {s = s} {r = r} {rs = rs} s' x n y) =
      let x' = moved_row t t' s d r v e h x in
      let n' : following (moved d r) ≡ Some (s' + d) = cc (following_moved d r) in
      let l = (placed m P w t s r x).on s' n in
      let l' = (placed m P w t' (s + d) (moved d r) x').on (s' + d) n' in
      more (s' + d) x' n' (shift t t' d v (drop_on t t' s d s' (omega arith) e) l'.1 y)

pub layout_laws : (m : Meaning) (P : Rules) (w : ℕ) → LayoutLaws m P w
layout_laws m P w = record {
  are_first_fit = are_first_fit m P w;
  only_one = λ t s rs rs' y y'. one_rows m P w t y y';
  exist = λ t s h v. exist_of m P w t (length t - s) s h (omega arith) v;
  too_many = too_many m P w;
  covered = covered m P w;
  local = local m P w;
  shift = λ t t' s d rs v e h y. shift m P w t t' d v e h y;
}

-- How a clean sheet tells the edges of a row, and that the worked one tells the same.
use Rattle.std.proofs.Common.{◌≡◌, ℕ, zero, suc, ◌+◌, ◌-◌, ◌<◌, ◌≤◌, leb, List, length, drop, Some, None, Option, Result, sym, refl, ap, ◌∙◌, subst, inl, inr, arith}
use Rattle.std.proofs.lemmas.Bool.{cases_Bool}
use Rattle.std.proofs.lemmas.List.{length-take}
use Rattle.std.specs.List.{slice_get}
use Rattle.std.specs.Option.{option_map}
use Rattle.metrics.specs.Meaning.{Meaning}
use Rattle.page.proofs.Places.{seen_within}
use Rattle.page.specs.Policies.{Rules}
use Rattle.page.specs.Texts.{seen, part, newline}
use Rattle.page.specs.declared.row.Row.{Row}
use Rattle.layout.specs.Covers.{Covered, AllCovered}
use Rattle.layout.specs.FirstFit.{RowFrom, RowsFrom}
use Rattle.layout.specs.FirstFit.RowFrom.{whole, wrapped, cut, single, lone}
use Rattle.layout.specs.FirstFit.RowsFrom.{end, more}
use Rattle.layout.specs.Styles.{Style}
use Rattle.sheet.specs.Clean.{Making, Clean, clean_rows}
use Rattle.sheet.specs.Edges.{measured, edges_by, edges_step}
use Rattle.sheet.specs.Faults.{row_answer}
use Rattle.sheet.specs.Fitting.{fitted, within}
use Rattle.sheet.specs.declared.fault.RowFault.{RowFault}
use Rattle.sheet.specs.Laid.{Laid}
use Rattle.sheet.proofs.Continuing.{laid_sheet}
use Rattle.sheet.proofs.Showing.{as_clean, in_rows, left}
use Rattle.sheet.specs.Histories.{History, State, Follows, clean_after}
use Rattle.layout.proofs.EdgeSteps.{seen_part}

module _ (m : Meaning) (P : Rules) (w : ℕ) (t : List ℕ) where
  -- no newline stands in a row
  row_clear : (s : ℕ) (r : Row) → RowFrom m P w t s r → (k : ℕ) → r.start ≤ k → k < r.end → seen t k ≡ Some newline → ⊥
  row_clear s r (whole q z f p) = rw p (λ k a b. z.clear k a b)
  row_clear s r (wrapped q o e z v b p) = rw p (λ k x y. z.clear k x (omega (arith, b.upto, v.before)))
  row_clear s r (cut q o z v h x p) = rw p (λ k a b. z.clear k a (omega (arith, v.before)))
  row_clear s r (single q z v h p) = rw p (λ k a b. z.clear k a (omega arith))
  row_clear s r (lone q z v h p) = rw p (λ k a b. z.clear k a b)

  row_covered : (s : ℕ) (r : Row) → Covered m t → RowFrom m P w t s r → AllCovered m (part t r.start r.end)
  row_covered s r v f = λ i c e.
      let n = seen_within (part t r.start r.end) i c e in
      let long : i < r.end - r.start = omega (arith, length-take (r.end - r.start) (drop r.start t)) in
      let there : seen t (r.start + i) ≡ Some c = sym (seen_part t r.start r.end i long) ∙ e in
      v (r.start + i) c there (λ is. row_clear s r f (r.start + i) (omega arith) (omega arith) (there ∙ ap Some is))

  rows_covered : {s : ℕ} {rs : List Row} → Covered m t → RowsFrom m P w t s rs → (i : ℕ) (r : Row) → slice_get rs i ≡ Some r → AllCovered m (part t r.start r.end)
  rows_covered v (end {s = s} {r = r} f n) zero r' e = let is : r ≡ r' = cc in subst (λ (x : Row). AllCovered m (part t x.start x.end)) is (row_covered s r v f)
  rows_covered v (end f n) (suc i) r' e = let z : ◌≡◌ {A = ℕ} 0 1 = cc in absurd (omega arith)
  rows_covered v (more {s = s} {r = r} s' f n fs) zero r' e = let is : r ≡ r' = cc in subst (λ (x : Row). AllCovered m (part t x.start x.end)) is (row_covered s r v f)
  rows_covered v (more s' f n fs) (suc i) r' e = rows_covered v fs i r' e

-- each row of a laid text is covered
pub all_covered : {k : Style} {t : List ℕ} {rows : List Row} → Laid k t rows → (i : ℕ) (r : Row) → slice_get rows i ≡ Some r → AllCovered k.meaning (part t r.start r.end)
all_covered {k = k} {t = t} laid i r e = rows_covered k.meaning k.rules k.measure t laid.covered (in_rows laid) i r e

-- and so is each row of a sheet
pub covered_row : (k : Making) (h : History) (s : State) → Follows k h s → (i : ℕ) (r : Row) → slice_get (clean_rows k (clean_after k h)) i ≡ Some r → AllCovered s.meaning (part s.text r.start r.end)
covered_row k h s f i r e = all_covered (laid_sheet k h s f) i r (ap (λ (rs : List Row). slice_get rs i) f.rows ∙ e)

-- how a clean sheet tells edges
tells : (k : Making) (c : Clean) (b : List ℕ) (o : Option Row) → edges_by k c o b ≡ row_answer (fitted (length b) o) (left (measured k.meaning c.text) (fitted (length b) o) b)
tells k c b None = refl
tells k c b (Some r) = elim (cases_Bool (leb (r.end - r.start) (length b))) [ inl t ↦ cc t | inr t ↦ cc t ]

pub told_edges : (k : Making) (h : History) (s : State) → Follows k h s → (i : ℕ) (b : List ℕ) (x : Result Row RowFault) → x ≡ fitted (length b) (option_map (within (length s.text)) (slice_get s.rows i))
    → (b' : List ℕ) → b' ≡ left (measured s.meaning s.text) x b → row_answer x b' ≡ edges_step k (clean_after k h) i b
told_edges k h s f i b x found b' is =
    let c = clean_after k h in
    ap (row_answer x) (is ∙ (λ j. left (measured (f.meaning j) (f.text j)) x b))
    ∙ ap (λ (y : Result Row RowFault). row_answer y (left (measured k.meaning c.text) y b)) (found ∙ as_clean k h s f i (length b))
    ∙ sym (tells k c b (slice_get (clean_rows k c) i))

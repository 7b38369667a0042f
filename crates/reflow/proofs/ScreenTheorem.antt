-- A screen that follows the record of an edit shows the new rows.
use Rattle.std.proofs.Common.{◌≡◌, ℕ, ◌+◌, ◌-◌, ◌≤◌, List, ◌++◌, length, take, drop, sym, ap, ◌∙◌, arith}
use Rattle.std.proofs.lemmas.List.{length-map, take-append-drop, drop-drop}
use Rattle.std.proofs.lemmas.List.Sums.{common_prefix_len-le}
use Rattle.metrics.specs.Meaning.{Meaning}
use Rattle.page.specs.Policies.{Rules}
use Rattle.page.specs.declared.row.Row.{Row}
use Rattle.layout.specs.FirstFit.{RowsFrom}
use Rattle.page.specs.Texts.{edited}
use Rattle.reflow.specs.Edits.{rows_of}
use Rattle.reflow.specs.declared.edit.Edit.{Edit}
use Rattle.reflow.specs.Repaints.{meeting, kept, front, back, repaint_of}
use Rattle.reflow.specs.Screens.{painted, followed}
use Rattle.reflow.specs.Theorems.{AllRows, EditLaws, EditsLayAnew, RecordsRepaint}
use Rattle.reflow.proofs.ScreenFront.{front_shown}
use Rattle.reflow.proofs.ScreenBack.{back_shown}

-- two lists alike in their first f and last b elements: the second is the first with its own middle
-- put in place of the other's
replaced : {X : Type 0} (xs ys : List X) (f b o n : ℕ) → length xs ≡ o → length ys ≡ n → f + b ≤ o → f + b ≤ n → take f xs ≡ take f ys → drop (o - b) xs ≡ drop (n - b) ys
    → take f xs ++ (take (n - f - b) (drop f ys) ++ drop (f + (o - f - b)) xs) ≡ ys
replaced {X} xs ys f b o n lo ln ho hn p q =
    let k = n - f - b in
    let i : f + (o - f - b) ≡ o - b = omega arith in
    let j : n - b ≡ f + k = omega arith in
    let r : drop (f + (o - f - b)) xs ≡ drop k (drop f ys) = ap (λ (x : ℕ). drop x xs) i ∙ q ∙ ap (λ (x : ℕ). drop x ys) j ∙ sym (drop-drop k f ys) in
    ap (λ (zs : List X). zs ++ (take k (drop f ys) ++ drop (f + (o - f - b)) xs)) p
    ∙ ap (λ (zs : List X). take f ys ++ (take k (drop f ys) ++ zs)) r
    ∙ ap (λ (zs : List X). take f ys ++ zs) (take-append-drop k (drop f ys))
    ∙ take-append-drop f ys

module _ (m : Meaning) (P : Rules) (w : ℕ) where
  repaints : (t ins : List ℕ) (e : Edit) (old new : List Row) → e.at + e.del ≤ length t → e.ins ≡ length ins
      → RowsFrom m P w t 0 old → RowsFrom m P w (edited t e.at e.del ins) 0 new → EditLaws m P w (edited t e.at e.del ins) e old new
      → followed (repaint_of e old new) (painted m (edited t e.at e.del ins) new) (painted m t old) ≡ painted m (edited t e.at e.del ins) new
  repaints t ins e old new within long was are laws =
      let f = front e.at old new in
      let b = back e old new in
      let h = common_prefix_len-le (kept e.at) old new in
      let ho : f + b ≤ length old = omega arith in
      let hn : f + b ≤ length new = omega arith in
      let hb : b ≤ length new - meeting e old new = omega arith in
      replaced (painted m t old) (painted m (edited t e.at e.del ins) new) f b (length old) (length new) (simp length-map) (simp length-map) ho hn
      (front_shown m t ins e.at e.del within old new)
      (back_shown m P w t ins e within long old new was are laws b hb)

  pub records_repaint : AllRows m P w → EditsLayAnew m P w → RecordsRepaint m P w
  records_repaint all lay t ins e x =
      repaints t ins e (rows_of m P w t) (rows_of m P w (edited t e.at e.del ins)) x.within x.long
      (all t x.covered) (all (edited t e.at e.del ins) x.covers) (lay t ins e x)

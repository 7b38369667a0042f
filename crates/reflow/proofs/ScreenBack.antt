-- The rows behind the place where the new rows meet the old ones are shown as before.
use Rattle.std.proofs.Common.{◌≡◌, ℕ, suc, ◌+◌, ◌-◌, ◌<◌, ◌≤◌, true, not, eqb, leb, List, [], ◌∷◌, map, length, get_or, drop, sym, refl, ap, ◌∙◌, inl, inr, arith}
use Rattle.std.proofs.lemmas.List.{length-drop, length-map, drop-drop, drop-map, drop_all}
use Rattle.std.proofs.lemmas.List.Sums.{prefix_len_stops}
use Rattle.std.proofs.lemmas.Bool.{and_parts, or_cases, not-false, eqb-true, leb-true, cases_lt}
use Rattle.metrics.specs.Meaning.{Meaning}
use Rattle.page.specs.Policies.{Rules}
use Rattle.page.specs.declared.ending.Ending.TheVariants.{End}
use Rattle.page.specs.declared.row.Row.{Row}
use Rattle.layout.specs.FirstFit.{RowFrom, RowsFrom}
use Rattle.layout.specs.FirstFit.RowFrom.{whole, wrapped, cut, single, lone}
use Rattle.layout.specs.FirstFit.RowsFrom.{end, more}
use Rattle.layout.proofs.Following.{placed}
use Rattle.page.specs.Texts.{edited}
use Rattle.reflow.specs.Edits.{resumed}
use Rattle.reflow.specs.declared.edit.Edit.{Edit}
use Rattle.reflow.specs.Repaints.{starts_at, meets, meeting}
use Rattle.reflow.specs.Screens.{Shown, shown, painted}
use Rattle.reflow.specs.Theorems.{EditLaws}
use Rattle.reflow.proofs.RowLists.{rows_later}
use Rattle.reflow.proofs.ScreenParts.{part_behind, shown_alike}

-- the old row that starts at a place where one does
starts_where : (rs : List Row) (s : ℕ) → starts_at rs s ≡ true → (j : ℕ) × (j < length rs) × ((d : Row) → (get_or rs j d).start ≡ s)
starts_where [] s e = let z : ◌≡◌ {A = ℕ} 0 1 = cc in absurd (omega arith)
starts_where (r ∷ rs) s e = elim (or_cases (eqb r.start s) (starts_at rs s) e) [
  | inl h ↦ (0, omega arith, λ d. eqb-true r.start s h)
  | inr h ↦ let p = starts_where rs s h in (suc p.0, omega (arith, p.1), p.2)
]

module _ (m : Meaning) (P : Rules) (w : ℕ) (t : List ℕ) where
  pub row_upto : (s : ℕ) (r : Row) → RowFrom m P w t s r → r.start ≤ r.end
  row_upto s r (whole q z f p) = rw p z.from
  row_upto s r (wrapped q o e z v b p) = rw p (omega (arith, b.after))
  row_upto s r (cut q o z v h x p) = rw p (omega arith)
  row_upto s r (single q z v h p) = rw p (omega arith)
  row_upto s r (lone q z v h p) = rw p z.from

module _ (m : Meaning) (P : Rules) (w : ℕ) (t ins : List ℕ) (at del : ℕ) (within : at + del ≤ length t) where
  resumed_shown : (s : ℕ) (r : Row) → RowFrom m P w t s r → at + del ≤ s → shown m t r ≡ shown m (edited t at del ins) (resumed del (length ins) r)
  resumed_shown s r x h =
      let b : at + del ≤ r.start = omega (arith, (placed m P w t s r x).starts) in
      shown_alike m t (edited t at del ins) r (resumed del (length ins) r)
      (part_behind t ins at del within r.start r.end b (row_upto m P w t s r x)) refl

  -- rows behind the deleted characters are shown alike once they are moved
  pub rows_shown : {s : ℕ} {rs : List Row} → RowsFrom m P w t s rs → at + del ≤ s → painted m t rs ≡ painted m (edited t at del ins) (map (resumed del (length ins)) rs)
  rows_shown (end {s = s} {r = r} x n) h = ap (λ (y : Shown). y ∷ []) (resumed_shown s r x h)
  rows_shown (more {s = s} {r = r} {rs = rs} s' x n y) h =
      let l = (placed m P w t s r x).on s' n in
      let i = rows_shown y (omega arith) in
      ap (λ (y : Shown). y ∷ painted m t rs) (resumed_shown s r x h) ∙ ap (λ (ys : List Shown). shown m (edited t at del ins) (resumed del (length ins) r) ∷ ys) i

module _ (m : Meaning) (P : Rules) (w : ℕ) (t ins : List ℕ) (e : Edit) (within : e.at + e.del ≤ length t) (long : e.ins ≡ length ins) (old new : List Row)
    (was : RowsFrom m P w t 0 old) (are : RowsFrom m P w (edited t e.at e.del ins) 0 new) (laws : EditLaws m P w (edited t e.at e.del ins) e old new) where
  -- the old row where the new ones meet them, given any row d
  record Met (d : Row) : Type 0 where
    j : ℕ
    in_old : j < length old
    behind : e.at + e.del ≤ (get_or old j d).start
    rest : drop (meeting e old new) new ≡ map (resumed e.del e.ins) (drop j old)

  met : (d : Row) → meeting e old new < length new → Met d
  met d h =
      let k = meeting e old new in
      let s' = (get_or new k d).start in
      let y = not-false (meets e old (get_or new k d)) (prefix_len_stops (λ (r : Row). not (meets e old r)) new d h) in
      let c = and_parts (leb (e.at + e.ins) s') (starts_at old (s' - e.ins + e.del)) y in
      let g = leb-true (e.at + e.ins) s' c.0 in
      let o = starts_where old (s' - e.ins + e.del) c.1 in
      let i = o.2 d in
      record {
        j = o.0;
        in_old = o.1;
        behind = omega arith;
        rest = laws.resumes k o.0 s' d (rows_later m P w (edited t e.at e.del ins) are k d h) g o.1 i;
      }

  -- as many old rows are left as new ones, and they show the same
  record Rest (j : ℕ) : Type 0 where
    in_old : j ≤ length old
    many : length new - meeting e old new ≡ length old - j
    alike : painted m t (drop j old) ≡ painted m (edited t e.at e.del ins) (drop (meeting e old new) new)

  rest_of : (d : Row) (x : Met d) → Rest x.j
  rest_of d x = record {
    in_old = omega (arith, x.in_old);
    many = simp (length-map, length-drop) at (ap length x.rest);
    alike = rows_shown m P w t ins e.at e.del within (rows_later m P w t was x.j d x.in_old) x.behind
        ∙ ap (λ (n : ℕ). painted m (edited t e.at e.del ins) (map (resumed e.del n) (drop x.j old))) (sym long)
        ∙ ap (painted m (edited t e.at e.del ins)) (sym x.rest);
  }

  -- the last b rows, all at or behind the meeting
  last_shown : (b j : ℕ) → Rest j → meeting e old new < length new → b ≤ length new - meeting e old new → drop (length old - b) (painted m t old) ≡ drop (length new - b) (painted m (edited t e.at e.del ins) new)
  last_shown b j x l h =
      let k = meeting e old new in
      let n = length new - k - b in
      let many = x.many in
      let in_old = x.in_old in
      let p : length old - b ≡ j + n = omega arith in
      let q : k + n ≡ length new - b = omega arith in
      ap (λ (i : ℕ). drop i (painted m t old)) p
      ∙ sym (drop-drop n j (painted m t old))
      ∙ ap (drop n) (drop-map (shown m t) j old ∙ x.alike ∙ sym (drop-map (shown m (edited t e.at e.del ins)) k new))
      ∙ drop-drop n k (painted m (edited t e.at e.del ins) new)
      ∙ ap (λ (i : ℕ). drop i (painted m (edited t e.at e.del ins) new)) q

  -- no new row meets the old ones: none is left out
  none_shown : (b : ℕ) → b ≡ 0 → drop (length old - b) (painted m t old) ≡ drop (length new - b) (painted m (edited t e.at e.del ins) new)
  none_shown b z =
      drop_all (length old - b) (painted m t old) (simp length-map (omega arith))
      ∙ sym (drop_all (length new - b) (painted m (edited t e.at e.del ins) new) (simp length-map (omega arith)))

  pub back_shown : (b : ℕ) → b ≤ length new - meeting e old new → drop (length old - b) (painted m t old) ≡ drop (length new - b) (painted m (edited t e.at e.del ins) new)
  back_shown b h = elim (cases_lt (meeting e old new) (length new)) [
    | inl l ↦ let x = met any l in last_shown b x.j (rest_of any x) l h
    | inr l ↦ none_shown b (omega arith)
  ]
    where
      any : Row
      any = record { start = 0; end = 0; ending = End; width = 0; reach = 0 }

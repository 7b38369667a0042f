-- The rows before and after an edit.
use Rattle.std.proofs.Common.{◌≡◌, ℕ, ◌+◌, ◌-◌, ◌<◌, ◌≤◌, List, [], ◌∷◌, ◌++◌, map, length, get_or, take, drop, sym, refl, ap, ◌∙◌, subst, zero-add, arith}
use Rattle.std.proofs.lemmas.List.{take-append-drop, drop_more, length-append, length-take-le, take_at, drop_at}
use Rattle.metrics.specs.Meaning.{Meaning}
use Rattle.page.specs.Policies.{Rules}
use Rattle.page.specs.declared.ending.Ending.TheVariants.{End}
use Rattle.page.specs.declared.row.Row.{Row}
use Rattle.layout.specs.Covers.{Covered}
use Rattle.layout.specs.FirstFit.{RowsFrom}
use Rattle.layout.specs.Theorems.{moved, ReachWithin}
use Rattle.layout.proofs.Covering.{covered_from}
use Rattle.layout.proofs.LayoutTheorems.{layout_laws}
use Rattle.page.specs.Texts.{edited}
use Rattle.reflow.specs.Edits.{rows_of, resumed}
use Rattle.reflow.specs.declared.edit.Edit.{Edit}
use Rattle.reflow.specs.Repaints.{first_reaching, meeting, starts_at}
use Rattle.reflow.specs.Theorems.{Editing, EditLaws, EditsLayAnew}
use Rattle.reflow.proofs.AllRows.{all_rows}
use Rattle.reflow.proofs.EditedTexts.{edited_front, edited_reaches, edited_back}
use Rattle.reflow.proofs.RowLists.{short_within, rows_within, rows_later, rows_ascend, some_reaches, reaching_start, none_starts}

-- a row moved to s and resumed behind the edit is the row moved to where s came to lie
resumed_row : (del ins s s' : ℕ) → s ≡ s' - ins + del → ins ≤ s' → (r : Row) → resumed del ins (moved s r) ≡ moved s' r
resumed_row del ins s s' e h r =
    let a : r.start + s - del + ins ≡ r.start + s' = omega arith in
    let b : r.end + s - del + ins ≡ r.end + s' = omega arith in
    let c : r.reach + s - del + ins ≡ r.reach + s' = omega arith in
    cc

resumed_rows : (del ins s s' : ℕ) → s ≡ s' - ins + del → ins ≤ s' → (rs : List Row) → map (resumed del ins) (map (moved s) rs) ≡ map (moved s') rs
resumed_rows del ins s s' e h [] = refl
resumed_rows del ins s s' e h (r ∷ rs) = cc (resumed_row del ins s s' e h r, resumed_rows del ins s s' e h rs)

some_row : Row
some_row = record { start = 0; end = 0; ending = End; width = 0; reach = 0 }

module _ (m : Meaning) (P : Rules) (w : ℕ) where
  -- the rows of what is left from s on, moved there
  rows_left : (u t : List ℕ) (s : ℕ) (rs : List Row) → Covered m u → u ≡ drop s t → s ≤ length t → RowsFrom m P w u 0 rs → RowsFrom m P w t s (map (moved s) rs)
  rows_left u t s rs v e h y =
      let f : drop 0 u ≡ drop (0 + s) t = e ∙ ap (λ (i : ℕ). drop i t) (sym (zero-add s)) in
      rw zero-add at ((layout_laws m P w).shift u t 0 s rs v f (omega arith) y)

  -- equal characters from two places on have the same rows, moved to each
  same_left : (t t' : List ℕ) (s s' : ℕ) (rs rs' : List Row) → Covered m t → drop s t ≡ drop s' t' → RowsFrom m P w t s rs → RowsFrom m P w t' s' rs'
      → (us : List Row) × (rs ≡ map (moved s) us) × (rs' ≡ map (moved s') us)
  same_left t t' s s' rs rs' v e y y' =
      let c = covered_from m t s v in
      let p = (layout_laws m P w).exist (drop s t) 0 (omega arith) c in (
        p.0,
        (layout_laws m P w).only_one t s rs (map (moved s) p.0) y (rows_left (drop s t) t s p.0 c refl (rows_within m P w t y) p.1),
        (layout_laws m P w).only_one t' s' rs' (map (moved s') p.0) y' (rows_left (drop s t) t' s' p.0 c e (rows_within m P w t' y') p.1),
      )

  module _ (t ins : List ℕ) (e : Edit) (g : Editing m P w t ins e) (old new : List Row)
      (before : RowsFrom m P w t 0 old) (after : RowsFrom m P w (edited t e.at e.del ins) 0 new) where
    abbrev t' : List ℕ
    t' = edited t e.at e.del ins

    abbrev n : ℕ
    n = first_reaching e old

    reaches : n < length old
    reaches = some_reaches m P w t e.at before (omega (arith, g.within))

    front_long : length (take n old) ≡ n
    front_long = length-take-le n old (omega (arith, reaches))

    -- the rows from the first that reaches the edit on are laid anew behind those before it
    goes_on : (d : Row) → (rest : List Row) × RowsFrom m P w t' (get_or old n d).start rest × (take n old ++ rest ≡ new)
    goes_on d =
        let s : ℕ = (get_or old n d).start in
        let l : s ≤ e.at = reaching_start m P w t e.at before (omega arith) d reaches in
        let p = (layout_laws m P w).exist t' s (omega (arith, edited_reaches t ins e.at e.del g.within)) g.covers in
        let split : old ≡ take n old ++ get_or old n d ∷ drop (n + 1) old = sym (take-append-drop n old) ∙ ap (λ (x : List Row). take n old ++ x) (drop_more old n d reaches) in
        let y = (layout_laws m P w).local t t' 0 s e.at (take n old) (drop (n + 1) old) p.0 (get_or old n d) g.covered (omega arith)
        (subst (RowsFrom m P w t 0) split before) (short_within e.at old) (edited_front t ins e.at e.del g.within) refl p.1 in
        (p.0, p.1, (layout_laws m P w).only_one t' 0 (take n old ++ p.0) new y after)

    carried : take n new ≡ take n old
    carried = let p = goes_on some_row in sym (ap (take n) p.2) ∙ take_at (take n old) p.0 n front_long

    restarts : (d : Row) → RowsFrom m P w t' (get_or old n d).start (drop n new)
    restarts d =
        let p = goes_on d in
        subst (RowsFrom m P w t' (get_or old n d).start) (sym (drop_at (take n old) p.0 n front_long) ∙ ap (drop n) p.2) p.1

    long_enough : n ≤ length new
    long_enough = let p = goes_on some_row in omega (arith, front_long, length-append (take n old) p.0, ap length p.2)

    unmet : n ≤ meeting e old new
    unmet = none_starts m P w t' e.at (e.at + e.ins) (λ (r : Row). starts_at old (r.start - e.ins + e.del)) (omega arith) n after (subst (ReachWithin e.at) (sym carried) (short_within e.at old)) long_enough

    resumes : (k j s' : ℕ) (d : Row) → RowsFrom m P w t' s' (drop k new) → e.at + e.ins ≤ s'
        → j < length old → (get_or old j d).start ≡ s' - e.ins + e.del → drop k new ≡ map (resumed e.del e.ins) (drop j old)
    resumes k j s' d y h l q =
        let s : ℕ = (get_or old j d).start in
        let f : s ≡ s' - length ins + e.del = omega (arith, g.long) in
        let a : e.at + length ins ≤ s' = omega (arith, g.long) in
        let b : drop s t ≡ drop s' t' = ap (λ (i : ℕ). drop i t) f ∙ edited_back t ins e.at e.del g.within s' a in
        let p = same_left t t' s s' (drop j old) (drop k new) g.covered b (rows_later m P w t before j d l) y in
        cc (p.1, p.2, resumed_rows e.del e.ins s s' q (omega arith) p.0)

    edit_laws : EditLaws m P w t' e old new
    edit_laws = record {
      reaches = reaches;
      carried = carried;
      restarts = restarts;
      unmet = unmet;
      ascend = rows_ascend m P w t before;
      resumes = resumes;
    }

pub edits_lay_anew : (m : Meaning) (P : Rules) (w : ℕ) → EditsLayAnew m P w
edits_lay_anew m P w t ins e g = edit_laws m P w t ins e g (rows_of m P w t) (rows_of m P w (edited t e.at e.del ins)) (all_rows m P w t g.covered) (all_rows m P w (edited t e.at e.del ins) g.covers)

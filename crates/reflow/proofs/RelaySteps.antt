-- The steps of laying again after an edit.
use Rattle.std.proofs.Common.{◌≡◌, ℕ, ◌+◌, ◌-◌, ◌%◌, ◌^◌, ◌<◌, ◌≤◌, min, Bool, false, not, List, [], ◌∷◌, ◌++◌, map, length, get_or, take, drop, Some, None, Err, sym, refl, ap, ◌∙◌, subst, append_assoc, append-nil, arith}
use Rattle.std.proofs.lemmas.List.{length_push, length-append, drop_at, drop_all, take-append-drop, length-take, length-take-le}
use Rattle.std.proofs.lemmas.Bool.{not_from_true, not_from_false}
use Rattle.std.specs.List.{AllByRecursion, prefix_len}
use Rattle.metrics.specs.Meaning.{Meaning}
use Rattle.page.specs.Policies.{Rules}
use Rattle.page.specs.Rows.{following}
use Rattle.page.specs.declared.row.Row.{Row}
use Rattle.layout.specs.Covers.{Covered}
use Rattle.layout.specs.FirstFit.{RowFrom, RowsFrom}
use Rattle.layout.specs.FirstFit.RowFrom.{whole, wrapped, cut, single, lone}
use Rattle.layout.specs.FirstFit.RowsFrom.{end, more}
use Rattle.layout.specs.Scans.{row_from}
use Rattle.layout.specs.Styles.{Style}
use Rattle.layout.specs.declared.cover.Uncovered.{Uncovered}
use Rattle.layout.proofs.Following.{placed}
use Rattle.layout.proofs.RowTheorems.{row_laws}
use Rattle.reflow.specs.declared.edit.Edit.{Edit}
use Rattle.reflow.specs.declared.repaint.Repaint.{Repaint}
use Rattle.page.specs.Texts.{edited}
use Rattle.reflow.specs.Edits.{rows_of, resumed, Small}
use Rattle.reflow.specs.Relaying.{Met, Resumes, Changed, Underway}
use Rattle.reflow.specs.Repaints.{first_reaching, meets, meeting, repaint_of}
use Rattle.reflow.specs.Theorems.{Editing}
use Rattle.reflow.proofs.AllRows.{all_rows}
use Rattle.reflow.proofs.EditTheorems.{edits_lay_anew}
use Rattle.reflow.proofs.Meetings.{zero_row, leading_past, meets_some}
use Rattle.reflow.proofs.RowLists.{rows_within, leading_yes, leading_no}

-- what holds of each row behind the first
all_behind : (P : Row → Type 0) (xs ys : List Row) → AllByRecursion P (xs ++ ys) → AllByRecursion P ys
all_behind P [] ys h = h
all_behind P (x ∷ xs) ys h = all_behind P xs ys h.1

-- what holds of each row that a function gives
all_unmap : (P : Row → Type 0) (f : Row → Row) (xs : List Row) → AllByRecursion P (map f xs) → AllByRecursion (λ (r : Row). P (f r)) xs
all_unmap P f [] h = tt
all_unmap P f (x ∷ xs) h = (h.0, all_unmap P f xs h.1)

-- one more row on a tally that fits
pub counted_on : (e a b n k : ℕ) → a ≡ (e + n) % 2 ^ 64 → b ≡ (a + 1) % 2 ^ 64 → k ≡ n + 1 → b ≡ (e + k) % 2 ^ 64
counted_on e a b n k p q h = omega arith

-- a row broken within the text, in the same style
pub broken_at : (k k' : Style) (t : List ℕ) (s : ℕ) (r : Row) → k' ≡ k → s ≤ length t → RowFrom k'.meaning k'.rules k'.measure t (min s (length t)) r → RowFrom k.meaning k.rules k.measure t s r
broken_at k k' t s r q h x =
    let e : min s (length t) ≡ s = omega arith in
    subst (λ (n : Style). RowFrom n.meaning n.rules n.measure t s r) q (subst (λ (i : ℕ). RowFrom k'.meaning k'.rules k'.measure t i r) e x)

-- no row of a covered text fails
pub never_missing : (k k' : Style) (t : List ℕ) (s : ℕ) (u : Uncovered) → k' ≡ k → Covered k.meaning t → Err u ≡ row_from k'.meaning k'.rules k'.measure t s → ⊥
never_missing k k' t s u q v x =
    let p = (row_laws k.meaning k.rules k.measure).exists t s v in
    let e : row_from k.meaning k.rules k.measure t s ≡ Err u = ap (λ (n : Style). row_from n.meaning n.rules n.measure t s) (sym q) ∙ sym x in
    let f = p.1 in
    let z : ◌≡◌ {A = ℕ} 0 1 = cc in omega arith

module _ (m : Meaning) (P : Rules) (w : ℕ) (t : List ℕ) where
  -- the first of some rows is the row that starts where they do
  only_row : {s : ℕ} {rs : List Row} → RowsFrom m P w t s rs → (r : Row) → RowFrom m P w t s r → following r ≡ None → rs ≡ r ∷ []
  only_row (end {s = s} {r = q} x n) r y o = ap (λ (z : Row). z ∷ []) ((row_laws m P w).only_one t s q r x y)
  only_row (more {s = s} {r = q} s' x n z) r y o =
      let e = (row_laws m P w).only_one t s q r x y in
      let f : ◌≡◌ {A = ℕ} 0 1 = cc in absurd (omega arith)

  next_rows : {s : ℕ} {rs : List Row} → RowsFrom m P w t s rs → (r : Row) (s' : ℕ) → RowFrom m P w t s r → following r ≡ Some s'
      → (rest : List Row) × (rs ≡ r ∷ rest) × RowsFrom m P w t s' rest
  next_rows (end {s = s} {r = q} x n) r s' y o =
      let e = (row_laws m P w).only_one t s q r x y in
      let f : ◌≡◌ {A = ℕ} 0 1 = cc in absurd (omega arith)
  next_rows (more {s = s} {r = q} {rs = rest} s'' x n z) r s' y o =
      let e = (row_laws m P w).only_one t s q r x y in
      let f : s'' ≡ s' = cc in
      (rest, ap (λ (z : Row). z ∷ rest) e, subst (λ (i : ℕ). RowsFrom m P w t i rest) f z)

  first_row : {s : ℕ} {rs : List Row} → RowsFrom m P w t s rs → (r : Row) × (rest : List Row) × (rs ≡ r ∷ rest) × (r.start ≡ s)
  first_row (end {s = s} {r = r} x n) = (r, [], refl, (placed m P w t s r x).starts)
  first_row (more {s = s} {r = r} {rs = rest} s' x n z) = (r, rest, refl, (placed m P w t s r x).starts)

  -- rows stay within the text
  row_small : (s : ℕ) (r : Row) → length t ≤ 4096 → RowFrom m P w t s r → Small r
  row_small s r h (whole q z f p) = rw p (omega (arith, z.from, z.within), omega (arith, z.within), omega (arith, z.within))
  row_small s r h (wrapped q o e z v b p) = rw p (omega (arith, z.from, z.within), omega (arith, b.upto, v.before, z.within), omega (arith, b.upto, v.before, z.within))
  row_small s r h (cut q o z v l x p) = rw p (omega (arith, z.from, z.within), omega (arith, v.before, z.within), omega (arith, v.before, z.within))
  row_small s r h (single q z v l p) = rw p (omega (arith, z.within), omega (arith, z.within), omega (arith, z.within))
  row_small s r h (lone q z v l p) = rw p (omega (arith, z.within), omega (arith, z.within), omega (arith, z.within))

  rows_small : length t ≤ 4096 → {s : ℕ} {rs : List Row} → RowsFrom m P w t s rs → AllByRecursion Small rs
  rows_small h (end {s = s} {r = r} x n) = (row_small s r h x, tt)
  rows_small h (more {s = s} {r = r} s' x n z) = (row_small s r h x, rows_small h z)

  module _ (e : Edit) (old new done : List Row) (s : ℕ) (u : Underway m P w t e old new done s) where
    abbrev misses : Row → Bool
    misses r = not (meets e old r)

    rest_is : drop (length done) new ≡ u.rest
    rest_is = sym (ap (drop (length done)) u.joins) ∙ drop_at done u.rest (length done) refl

    meeting_in : (rs : List Row) → u.rest ≡ rs → meeting e old new ≡ length done + prefix_len misses rs
    meeting_in rs q = leading_past misses new (length done) u.unmet ∙ ap (λ (x : List Row). length done + prefix_len misses x) (rest_is ∙ q)

    -- one more row that meets none
    pub goes_on : (r : Row) (s' : ℕ) → RowFrom m P w t s r → meets e old r ≡ false → following r ≡ Some s' → Underway m P w t e old new (done ++ r ∷ []) s'
    goes_on r s' x n o =
        let p = next_rows u.follows r s' x o in
        let k = meeting_in (r ∷ p.0) p.1 in
        let l = leading_yes misses r p.0 (not_from_false (meets e old r) n) in
        record {
          rest = p.0;
          joins = append_assoc done (r ∷ []) p.0 ∙ ap (λ (y : List Row). done ++ y) (sym p.1) ∙ u.joins;
          follows = p.2;
          unmet = omega (arith, length_push done r);
        }

    -- the last row, if it meets none
    pub ends : (r : Row) → RowFrom m P w t s r → meets e old r ≡ false → following r ≡ None → Resumes e old new (done ++ r ∷ []) (length old)
    ends r x n o =
        let p = only_row u.follows r x o in
        let k = meeting_in (r ∷ []) p in
        let l = leading_yes misses r [] (not_from_false (meets e old r) n) in
        record {
          joins = ap (λ (y : List Row). (done ++ r ∷ []) ++ map (resumed e.del e.ins) y) (drop_all (length old) old (omega arith))
              ∙ append-nil (done ++ r ∷ []) ∙ ap (λ (y : List Row). done ++ y) (sym p) ∙ u.joins;
          met = omega (arith, length_push done r);
        }

    -- the next row meets an old one
    pub resumes_at : Changed m P w t e old new → (j : ℕ) → Met e old s j → Resumes e old new done j
    resumes_at c j h =
        let p = first_row u.follows in
        let k = meeting_in (p.0 ∷ p.1) p.2 in
        let l = leading_no misses p.0 p.1 (not_from_true (meets e old p.0) (meets_some e old s j h p.0 p.3)) in
        let y = subst (RowsFrom m P w t s) (sym rest_is) u.follows in
        record {
          joins = ap (λ (y : List Row). done ++ y) (sym (c.laws.resumes (length done) j s p.0 y h.behind h.among (h.there p.0)) ∙ rest_is) ∙ u.joins;
          met = omega arith;
        }

    -- one more row at least
    pub longer : length done < length new
    longer =
        let p = first_row u.follows in
        omega (arith, ap length u.joins, length-append done u.rest, ap length p.2)

    pub starts_within : s ≤ length t
    starts_within = rows_within m P w t u.follows

  -- the old rows from j on, moved, are new rows, and so within the text
  pub resumed_small : (e : Edit) (old new done : List Row) (j s : ℕ) → length t ≤ 4096 → RowsFrom m P w t s new → Resumes e old new done j → AllByRecursion (λ (r : Row). Small (resumed e.del e.ins r)) (drop j old)
  resumed_small e old new done j s h y x =
      let f = resumed e.del e.ins in
      all_unmap Small f (drop j old) (all_behind Small done (map f (drop j old)) (subst (AllByRecursion Small) (sym x.joins) (rows_small h y)))

-- what is known at the outset of the text t' after the edit e, with the old rows
pub record Begun (m : Meaning) (P : Rules) (w : ℕ) (t' : List ℕ) (e : Edit) (old : List Row) : Type 0 where
  pub changed : Changed m P w t' e old (rows_of m P w t')
  pub anew : RowsFrom m P w t' 0 (rows_of m P w t')
  -- the rows before the first that the edit reaches are there
  pub long : first_reaching e old ≤ length (rows_of m P w t')
  -- and the new rows go on behind them
  pub restarts : (d : Row) (s : ℕ) → s ≡ min (get_or old (first_reaching e old) d).start (length t') → Underway m P w t' e old (rows_of m P w t') (take (first_reaching e old) old) s

module _ (m : Meaning) (P : Rules) (w : ℕ) (t' : List ℕ) (e : Edit) (old : List Row) (y : RowsFrom m P w t' 0 (rows_of m P w t')) (c : Changed m P w t' e old (rows_of m P w t')) where
  abbrev new : List Row
  new = rows_of m P w t'

  abbrev n : ℕ
  n = first_reaching e old

  carried_long : n ≤ length new
  carried_long =
      let l = c.laws.reaches in
      let a = length-take-le n old (omega arith) in
      let b = length-take n new in
      let f = ap length c.laws.carried in
      omega arith

  restarted : (d : Row) (s : ℕ) → s ≡ min (get_or old n d).start (length t') → Underway m P w t' e old new (take n old) s
  restarted d s q =
      let x = c.laws.restarts d in
      let f : (get_or old n d).start ≡ s = omega (arith, rows_within m P w t' x) in
      record {
        rest = drop n new;
        joins = ap (λ (z : List Row). z ++ drop n new) (sym c.laws.carried) ∙ take-append-drop n new;
        follows = subst (λ (i : ℕ). RowsFrom m P w t' i (drop n new)) f x;
        unmet = omega (arith, c.laws.unmet, length-take-le n old (omega (arith, c.laws.reaches)));
      }

  begun_with : Begun m P w t' e old
  begun_with = record { changed = c; anew = y; long = carried_long; restarts = restarted }

pub begun : (m : Meaning) (P : Rules) (w : ℕ) (t ins : List ℕ) (e : Edit) → Editing m P w t ins e → (t' : List ℕ) (old : List Row)
    → t' ≡ edited t e.at e.del ins → old ≡ rows_of m P w t → Begun m P w t' e old
begun m P w t ins e g t' old p q =
    let t'' = edited t e.at e.del ins in
    let b = begun_with m P w t'' e (rows_of m P w t) (all_rows m P w t'' g.covers) (record { covers = g.covers; laws = edits_lay_anew m P w t ins e g }) in
    subst (λ (x : List ℕ). Begun m P w x e old) (sym p) (subst (λ (o : List Row). Begun m P w t'' e o) (sym q) b)

-- rows are broken from where the first row that the edit reaches started
pub under_way : (m : Meaning) (P : Rules) (w : ℕ) (t : List ℕ) (e : Edit) (old : List Row) → Begun m P w t e old → (n s : ℕ) (done : List Row) → n ≡ first_reaching e old → done ≡ take n old
    → (n < length old → (d : Row) → s ≡ min (get_or old n d).start (length t)) → Underway m P w t e old (rows_of m P w t) done s
under_way m P w t e old b n s done p q v =
    let l : n < length old = omega (arith, b.changed.laws.reaches) in
    let x = b.restarts zero_row s (v l zero_row ∙ ap (λ (k : ℕ). min (get_or old k zero_row).start (length t)) p) in
    subst (λ (y : List Row). Underway m P w t e old (rows_of m P w t) y s) (ap (λ (k : ℕ). take k old) (sym p) ∙ sym q) x

-- the record, of rows that are the new ones
pub painted_anew : (e : Edit) (old rows new : List Row) (p : Repaint) (met broken : ℕ) → (met ≡ meeting e old rows → broken ≡ met - first_reaching e old → p ≡ repaint_of e old rows)
    → rows ≡ new → met ≡ meeting e old new → broken ≡ met - first_reaching e old → p ≡ repaint_of e old new
painted_anew e old rows new p met broken f q a b = f (a ∙ ap (meeting e old) (sym q)) b ∙ ap (repaint_of e old) q

-- How a clean sheet shows a row, and that the worked one shows the same.
use Rattle.std.proofs.Common.{◌≡◌, ℕ, zero, suc, ◌-◌, ◌<◌, ◌≤◌, leb, min, List, ◌∷◌, length, Some, None, Option, Ok, Err, Result, sym, refl, ap, ◌∙◌, subst, inl, inr, arith}
use Rattle.std.proofs.lemmas.Bool.{cases_Bool, cases_lt, le-leb, lt-leb}
use Rattle.std.specs.List.{slice_get}
use Rattle.std.specs.Option.{option_map}
use Rattle.metrics.specs.Meaning.{Meaning}
use Rattle.page.specs.Policies.{Rules}
use Rattle.page.specs.declared.row.Row.{Row}
use Rattle.layout.proofs.Following.{placed}
use Rattle.layout.specs.Covers.{Covered}
use Rattle.layout.specs.FirstFit.{RowFrom, RowsFrom}
use Rattle.layout.specs.FirstFit.RowsFrom.{end, more}
use Rattle.layout.specs.Styles.{Style}
use Rattle.reflow.proofs.AllRows.{all_rows}
use Rattle.reflow.proofs.ScreenBack.{row_upto}
use Rattle.reflow.specs.Screens.{painted}
use Rattle.sheet.specs.Clean.{Making, Clean, clean_rows, show_by, copied}
use Rattle.sheet.specs.Clean.Call.{row}
use Rattle.sheet.specs.Faults.{row_answer}
use Rattle.sheet.specs.Fitting.{fitted, within}
use Rattle.sheet.specs.Histories.{History, State, Follows, clean_after, clean_screen, screen_after, due, event, follows}
use Rattle.sheet.specs.Laid.{Laid}
use Rattle.sheet.specs.declared.fault.RowFault.{RowFault}
use Rattle.sheet.specs.declared.fault.RowFault.TheVariants.{ShortBuffer}
use Rattle.sheet.proofs.Continuing.{as_it_was, goes_on_by, keeps_up}

-- a row lies within its text
pub record Inside (t : List ℕ) (r : Row) : Type 0 where
  pub forward : r.start ≤ r.end
  pub within : r.end ≤ length t

module _ (m : Meaning) (P : Rules) (w : ℕ) (t : List ℕ) where
  row_inside : (s : ℕ) (r : Row) → RowFrom m P w t s r → Inside t r
  row_inside s r f = record { forward = row_upto m P w t s r f; within = (placed m P w t s r f).ends }

  rows_inside : {s : ℕ} {rs : List Row} → RowsFrom m P w t s rs → (i : ℕ) (r : Row) → slice_get rs i ≡ Some r → Inside t r
  rows_inside (end {s = s} {r = r} f n) zero r' e = let is : r ≡ r' = cc in subst (Inside t) is (row_inside s r f)
  rows_inside (end f n) (suc i) r' e = let z : ◌≡◌ {A = ℕ} 0 1 = cc in absurd (omega arith)
  rows_inside (more {s = s} {r = r} s' f n fs) zero r' e = let is : r ≡ r' = cc in subst (Inside t) is (row_inside s r f)
  rows_inside (more s' f n fs) (suc i) r' e = rows_inside fs i r' e

-- the rows of a laid text are its rows by first fit
pub in_rows : {k : Style} {t : List ℕ} {rows : List Row} → Laid k t rows → RowsFrom k.meaning k.rules k.measure t 0 rows
in_rows {k = k} {t = t} laid = subst (RowsFrom k.meaning k.rules k.measure t 0) (sym laid.first_fit) (all_rows k.meaning k.rules k.measure t laid.covered)

-- each row of a laid text lies within it
pub inside : {k : Style} {t : List ℕ} {rows : List Row} → Laid k t rows → (i : ℕ) (r : Row) → slice_get rows i ≡ Some r → Inside t r
inside {k = k} {t = t} {rows = rows} laid i r e = rows_inside k.meaning k.rules k.measure t (in_rows laid) i r e

-- and so do the rows of a clean sheet
module _ (k : Making) (c : Clean) (v : Covered k.meaning c.text) (i : ℕ) where
  pub inside_clean : (r : Row) → slice_get (clean_rows k c) i ≡ Some r → Inside c.text r
  inside_clean r e = inside {k = record { meaning = k.meaning; rules = k.rules; measure = c.measure }} (record { covered = v; first_fit = refl }) i r e

  -- so that nothing of them is cut
  uncut : (o : Option Row) → slice_get (clean_rows k c) i ≡ o → option_map (within (length c.text)) o ≡ o
  uncut None e = refl
  uncut (Some r) e =
      let lies = inside_clean r e in
      let from : min r.start (min r.end (length c.text)) ≡ r.start = omega (arith, lies.forward, lies.within) in
      let to : min r.end (length c.text) ≡ r.end = omega (arith, lies.within) in
      λ j. Some (record { start = from j; end = to j; ending = r.ending; width = r.width; reach = r.reach })

-- the row that a sheet finds is the clean sheet's
pub as_clean : (k : Making) (h : History) (s : State) → Follows k h s → (i room : ℕ) → fitted room (option_map (within (length s.text)) (slice_get s.rows i)) ≡ fitted room (slice_get (clean_rows k (clean_after k h)) i)
as_clean k h s f i room =
    let c = clean_after k h in
    (λ j. fitted room (option_map (within (length (f.text j))) (slice_get (f.rows j) i)))
    ∙ ap (fitted room) (uncut k c f.covered i (slice_get (clean_rows k c) i) refl)

-- a row is found where there is room for it, and only there
pub has_room : (room : ℕ) (r : Row) → r.end - r.start ≤ room → Ok r ≡ fitted room (Some r)
has_room room r l = cc (le-leb (r.end - r.start) room l)

pub lacks_room : (room : ℕ) (r : Row) → room < r.end - r.start → Err ShortBuffer ≡ fitted room (Some r)
lacks_room room r l = cc (lt-leb (r.end - r.start) room l)

-- a row that was found is there, and there is room for it
pub found : (room : ℕ) (o : Option Row) (r : Row) → Ok r ≡ fitted room o → (o ≡ Some r) × (r.end - r.start ≤ room)
found room None r e = let z : ◌≡◌ {A = ℕ} 0 1 = cc in absurd (omega arith)
found room (Some x) r e = elim (cases_lt room (x.end - x.start)) [
  | inl l ↦ let z : ◌≡◌ {A = ℕ} 0 1 = cc (lt-leb (x.end - x.start) room l) in absurd (omega arith)
  | inr l ↦ let is : x ≡ r = cc (le-leb (x.end - x.start) room l) in (ap Some is, subst (λ (y : Row). y.end - y.start ≤ room) is l)
]

-- what a call that finds a row leaves in the caller's buffer, where it puts what `put` says of the row
abbrev pub left : (Row → List ℕ → List ℕ) → Result Row RowFault → List ℕ → List ℕ
left put (Ok r) b = put r b
left put (Err e) b = b

-- how a clean sheet shows a row
shows : (c : Clean) (b : List ℕ) (o : Option Row) → show_by c o b ≡ record { next = c; answer = row_answer (fitted (length b) o) (left (copied c.text) (fitted (length b) o) b) }
shows c b None = refl
shows c b (Some r) = elim (cases_Bool (leb (r.end - r.start) (length b))) [ inl t ↦ cc t | inr t ↦ cc t ]

module _ (k : Making) (h : History) (s : State) (f : Follows k h s) (i : ℕ) (b : List ℕ) where
  pub shown_row : (x : Result Row RowFault) → x ≡ fitted (length b) (option_map (within (length s.text)) (slice_get s.rows i)) → (b' : List ℕ) → b' ≡ left (copied s.text) x b
      → Follows k (event (row i b) (row_answer x b') s ∷ h) s
  shown_row x found b' is =
      let c = clean_after k h in
      goes_on_by k h s s (row i b) (row_answer x b') _ (shows c b (slice_get (clean_rows k c) i)) f
      (ap (row_answer x) (is ∙ ap (λ (t : List ℕ). left (copied t) x b) f.text) ∙ ap (λ (y : Result Row RowFault). row_answer y (left (copied c.text) y b)) (found ∙ as_clean k h s f i (length b)))
      (keeps_up k h s s f s.owed c.owed (as_it_was s) f.owed)
      (elim x as (λ (y : Result Row RowFault). due c.owed (clean_screen k c) (follows (row_answer y b') (painted k.meaning s.text s.rows) (screen_after k h)) ≡ clean_screen k c) [ Ok r ↦ f.screen | Err e ↦ f.screen ])

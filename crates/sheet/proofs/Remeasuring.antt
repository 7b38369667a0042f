-- How a clean sheet answers a remeasure, and that a sheet which lays its text again goes on following it.
use Rattle.std.proofs.Common.{◌≡◌, ℕ, ◌+◌, ◌-◌, ◌%◌, ◌^◌, ◌<◌, ◌≤◌, true, false, List, [], ◌∷◌, length, is_some, is_err, Some, None, Ok, Err, Result, sym, refl, ap, ◌∙◌, subst, ap₂, add-zero, arith, le-leb}
use borrow.Author.Tests.{lt-leb}
use Rattle.metrics.specs.Meaning.{Meaning}
use Rattle.page.specs.Policies.{Rules}
use Rattle.page.specs.declared.row.Row.{Row}
use Rattle.layout.proofs.LayoutTheorems.{layout_laws}
use Rattle.layout.proofs.Settling.{laid_few}
use Rattle.layout.specs.Covers.{Covered}
use Rattle.layout.specs.Layouts.{laid, broken_for, missed, most_rows}
use Rattle.layout.specs.declared.laying.LayFault.{LayFault}
use Rattle.layout.specs.declared.laying.LayFault.TheVariants.{NoGlyph, TooManyRows}
use Rattle.reflow.proofs.AllRows.{all_rows}
use Rattle.reflow.specs.Edits.{rows_of}
use Rattle.reflow.specs.Repaints.{repaint_all}
use Rattle.reflow.specs.declared.repaint.Repaint.{Repaint}
use Rattle.sheet.specs.Clean.{Making, Clean, clean_rows, refuse, remeasured, remeasure_step}
use Rattle.sheet.specs.Clean.Answer.{accepted, refused}
use Rattle.sheet.specs.Clean.Call.{remeasure}
use Rattle.sheet.specs.Histories.{History, State, Follows, clean_after, event}
use Rattle.sheet.proofs.Continuing.{Owes, goes_on_by, refused_call}
use Rattle.sheet.proofs.Replacing.{some_owed}

-- a layout that was not refused has all rows
module _ (m : Meaning) (P : Rules) (w : ℕ) (t : List ℕ) (v : Covered m t) where
  pub laid_all : (laid m P w t).answer ≡ Ok tt → (laid m P w t).rows ≡ rows_of m P w t
  laid_all e = (layout_laws m P w).only_one t 0 (laid m P w t).rows (rows_of m P w t) ((layout_laws m P w).are_first_fit t most_rows 0 (omega arith) e) (all_rows m P w t v)

  pub all_few : (laid m P w t).answer ≡ Ok tt → length (rows_of m P w t) ≤ most_rows
  all_few e = subst (λ (rs : List Row). length rs ≤ most_rows) (laid_all e) (laid_few m P w t most_rows 0)

  -- and one that was refused has too many
  pub refused_layout : (a : Result (Unit {0}) LayFault) → (laid m P w t).answer ≡ a → is_err a ≡ true → most_rows < length (rows_of m P w t)
  refused_layout (Ok x) e i = let z : ◌≡◌ {A = ℕ} 0 1 = cc in absurd (omega arith)
  refused_layout (Err (NoGlyph u)) e i = absurd ((layout_laws m P w).covered t most_rows 0 u v e)
  refused_layout (Err TooManyRows) e i = (layout_laws m P w).too_many t most_rows 0 (rows_of m P w t) (all_rows m P w t v) e

module _ (k : Making) (c : Clean) (w : ℕ) where
  at_owed : (p : Repaint) → c.owed ≡ Some p → remeasure_step k c w ≡ refuse c (1 ∷ [])
  unfolding remeasure_step
  at_owed p o = cc

  too_many : c.owed ≡ None → most_rows < length (clean_rows k (remeasured k c w)) → remeasure_step k c w ≡ refuse c (5 ∷ [])
  unfolding remeasure_step
  too_many o h = cc (lt-leb (length (clean_rows k (remeasured k c w))) most_rows h)

  accepts : c.owed ≡ None → length (clean_rows k (remeasured k c w)) ≤ most_rows → remeasure_step k c w ≡ record { next = remeasured k c w; answer = accepted }
  unfolding remeasure_step
  accepts o h = cc (le-leb (length (clean_rows k (remeasured k c w))) most_rows h)

-- what a sheet has to show once its text is laid at the measure w
pub record Relays (s s' : State) (w : ℕ) (p : Repaint) : Type 0 where
  pub meaning : s'.meaning ≡ s.meaning
  pub rules : s'.rules ≡ s.rules
  pub sound : s.sound → s'.sound
  pub measure : s'.measure ≡ w
  pub text : s'.text ≡ s.text
  pub rows : s'.rows ≡ rows_of s.meaning s.rules w s.text
  pub few_rows : length (rows_of s.meaning s.rules w s.text) ≤ most_rows
  pub owed : s'.owed ≡ Some p
  pub painted : p ≡ repaint_all (length s.rows) (length (rows_of s.meaning s.rules w s.text))

module _ (k : Making) (h : History) (s s' : State) (f : Follows k h s) (w : ℕ) where
  same_rows : rows_of s.meaning s.rules w s.text ≡ clean_rows k (remeasured k (clean_after k h) w)
  same_rows = λ i. rows_of (f.meaning i) (f.rules i) w (f.text i)

  pub remeasured_call : (p : Repaint) → s.owed ≡ None → Relays s s' w p → Follows k (event (remeasure w) accepted s' ∷ h) s'
  unfolding same_rows
  remeasured_call p none l =
      let c = clean_after k h in
      let few : length (clean_rows k (remeasured k c w)) ≤ most_rows = subst (λ (rs : List Row). length rs ≤ most_rows) same_rows l.few_rows in
      goes_on_by k h s s' (remeasure w) accepted (record { next = remeasured k c w; answer = accepted })
      (accepts k c w (sym f.owed ∙ none) few) f refl
      (record {
        meaning = l.meaning;
        rules = l.rules;
        sound = l.sound;
        measure = l.measure;
        text = l.text ∙ f.text;
        owed = l.owed ∙ ap Some (l.painted ∙ ap₂ (λ (a b : List Row). repaint_all (length a) (length b)) f.rows same_rows);
        rows = l.rows ∙ same_rows;
        covered = f.covered;
        few_rows = few;
        few = f.few;
      })
      refl

  pub refused_owed : is_some s.owed ≡ true → Owes s s' s.owed → Follows k (event (remeasure w) (refused (1 ∷ [])) s' ∷ h) s'
  refused_owed e o =
      let p = some_owed s.owed e in
      refused_call k h s s' f (remeasure w) (1 ∷ []) (at_owed k (clean_after k h) w p.0 (sym f.owed ∙ p.1)) o

  pub refused_many : s.owed ≡ None → most_rows < length (rows_of s.meaning s.rules w s.text) → Owes s s' s.owed → Follows k (event (remeasure w) (refused (5 ∷ [])) s' ∷ h) s'
  unfolding same_rows
  refused_many none many o =
      refused_call k h s s' f (remeasure w) (5 ∷ []) (too_many k (clean_after k h) w (sym f.owed ∙ none) (subst (λ (rs : List Row). most_rows < length rs) same_rows many)) o

pub laid_right : (a : Result (Unit {0}) LayFault) → is_err a ≡ false → a ≡ Ok tt
laid_right (Ok x) e = refl
laid_right (Err f) e = cc

-- as many rows were broken as there are
pub broken_all : (m : Meaning) (P : Rules) (w : ℕ) (t : List ℕ) → Covered m t → (laid m P w t).answer ≡ Ok tt → broken_for (laid m P w t) ≡ length (rows_of m P w t)
broken_all m P w t v e = ap₂ (λ (rs : List Row) (a : Result (Unit {0}) LayFault). length rs + missed a) (laid_all m P w t v e) e ∙ add-zero (length (rows_of m P w t))

-- what a tally grew by
pub grown : (e a n : ℕ) → e < 2 ^ 64 → n ≤ 1024 → a ≡ (e + n) % 2 ^ 64 → (a + (2 ^ 64 - e)) % 2 ^ 64 ≡ n
grown e a n h few is = omega arith

-- all rows of a text are in the list, and the tally counts them
pub record AllLaid (m : Meaning) (P : Rules) (w : ℕ) (t : List ℕ) (rows : List Row) (before after : ℕ) : Type 0 where
  pub items : rows ≡ rows_of m P w t
  pub few : length (rows_of m P w t) ≤ most_rows
  pub counted : after ≡ (before + length (rows_of m P w t)) % 2 ^ 64
  pub broken : (after + (2 ^ 64 - before)) % 2 ^ 64 ≡ length (rows_of m P w t)

-- and so it is after a layout that was not refused
pub laid_whole : (m : Meaning) (P : Rules) (w : ℕ) (t : List ℕ) → Covered m t → (a : Result (Unit {0}) LayFault) (rows : List Row) (before after : ℕ) → before < 2 ^ 64
    → is_err a ≡ false → a ≡ (laid m P w t).answer → rows ≡ (laid m P w t).rows → after ≡ (before + broken_for (laid m P w t)) % 2 ^ 64 → AllLaid m P w t rows before after
laid_whole m P w t v a rows before after fits right is items counted =
    let ok : (laid m P w t).answer ≡ Ok tt = sym is ∙ laid_right a right in
    let few = all_few m P w t v ok in
    let told : after ≡ (before + length (rows_of m P w t)) % 2 ^ 64 = counted ∙ ap (λ (n : ℕ). (before + n) % 2 ^ 64) (broken_all m P w t v ok) in
    record { items = items ∙ laid_all m P w t v ok; few = few; counted = told; broken = grown before after (length (rows_of m P w t)) fits few told }

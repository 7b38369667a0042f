-- What holds of the rows before and after an edit.
use Rattle.std.specs.Prelude.{◌≡◌, ℕ, ◌+◌, ◌-◌, ◌<◌, ◌≤◌, List, map, length, take, drop, slice_index_or}
use Rattle.metrics.specs.Meaning.{Meaning}
use Rattle.page.specs.Policies.{Rules}
use Rattle.page.specs.declared.row.Row.{Row}
use Rattle.layout.specs.Covers.{Covered}
use Rattle.layout.specs.FirstFit.{RowsFrom}
use Rattle.reflow.specs.declared.edit.Edit.{Edit}
use Rattle.page.specs.Texts.{edited}
use Rattle.reflow.specs.Edits.{rows_of, resumed}
use Rattle.reflow.specs.Repaints.{first_reaching, meeting, repaint_of}
use Rattle.reflow.specs.Screens.{painted, followed}

module _ (m : Meaning) (P : Rules) (w : ℕ) where
  -- the rows of a covered text are the rows by first fit
  abbrev pub AllRows : Type 0
  AllRows = (t : List ℕ) → Covered m t → RowsFrom m P w t 0 (rows_of m P w t)

  -- an edit of t, at a place within it, after which the text is covered as before
  pub record Editing (t ins : List ℕ) (e : Edit) : Type 0 where
    pub within : e.at + e.del ≤ length t
    pub long : e.ins ≡ length ins
    pub covered : Covered m t
    pub covers : Covered m (edited t e.at e.del ins)

  -- the old rows, of the text before the edit, and the new ones, of the text t' after it
  pub record EditLaws (t' : List ℕ) (e : Edit) (old new : List Row) : Type 0 where
    -- some old row reaches the edit
    pub reaches : first_reaching e old < length old
    -- the rows before it are the new ones too
    pub carried : take (first_reaching e old) new ≡ take (first_reaching e old) old
    -- the new rows go on where it started
    pub restarts : (d : Row) → RowsFrom m P w t' (slice_index_or old (first_reaching e old) d).start (drop (first_reaching e old) new)
    -- no new row before that meets the old ones
    pub unmet : first_reaching e old ≤ meeting e old new
    -- old rows start one behind the other
    pub ascend : (j k : ℕ) (d : Row) → j < k → k < length old → (slice_index_or old j d).start < (slice_index_or old k d).start
    -- once a new row starts at or behind the insertion's end where the old row j started, the rest are
    -- the old rows from j on, moved
    pub resumes : (k j s' : ℕ) (d : Row) → RowsFrom m P w t' s' (drop k new) → e.at + e.ins ≤ s'
        → j < length old → (slice_index_or old j d).start ≡ s' - e.ins + e.del → drop k new ≡ map (resumed e.del e.ins) (drop j old)

  abbrev pub EditsLayAnew : Type 0
  EditsLayAnew = (t ins : List ℕ) (e : Edit) → Editing t ins e
      → EditLaws (edited t e.at e.del ins) e (rows_of m P w t) (rows_of m P w (edited t e.at e.del ins))

  -- a screen that shows the old rows and follows the record shows the new ones
  abbrev pub RecordsRepaint : Type 0
  RecordsRepaint = (t ins : List ℕ) (e : Edit) → Editing t ins e
      → followed (repaint_of e (rows_of m P w t) (rows_of m P w (edited t e.at e.del ins)))
      (painted m (edited t e.at e.del ins) (rows_of m P w (edited t e.at e.del ins)))
      (painted m t (rows_of m P w t))
      ≡ painted m (edited t e.at e.del ins) (rows_of m P w (edited t e.at e.del ins))

  -- what holds of every text and every edit of it
  pub record ReflowLaws : Type 0 where
    pub all_rows : AllRows
    pub lay_anew : EditsLayAnew
    pub repaint : RecordsRepaint

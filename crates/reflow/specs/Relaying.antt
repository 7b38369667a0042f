-- Laying a text again after an edit: what is known on the way, and what comes of it.
use Rattle.std.specs.Prelude.{◌≡◌, ℕ, ◌+◌, ◌-◌, ◌%◌, ◌^◌, ◌<◌, ◌≤◌, false, List, ◌++◌, map, length, drop, Result, MatchResult, slice_index_or}
use Rattle.metrics.specs.Meaning.{Meaning}
use Rattle.page.specs.Policies.{Rules}
use Rattle.page.specs.declared.row.Row.{Row}
use Rattle.layout.specs.Covers.{Covered}
use Rattle.layout.specs.FirstFit.{RowsFrom}
use Rattle.layout.specs.Layouts.{most_rows}
use Rattle.layout.specs.declared.laying.LayFault.{LayFault}
use Rattle.layout.specs.declared.laying.LayFault.TheVariants.{TooManyRows}
use Rattle.reflow.specs.declared.edit.Edit.{Edit}
use Rattle.reflow.specs.declared.repaint.Repaint.{Repaint}
use Rattle.page.specs.Texts.{edited}
use Rattle.reflow.specs.Edits.{rows_of, resumed}
use Rattle.reflow.specs.Repaints.{meets, meeting, repaint_of}
use Rattle.reflow.specs.Theorems.{Editing, EditLaws}

-- rows start one behind the other
abbrev pub Ascending : List Row → Type 0
Ascending rs = (j k : ℕ) (d : Row) → j < k → k < length rs → (slice_index_or rs j d).start < (slice_index_or rs k d).start

-- the rows before row j start before s
abbrev pub Before : List Row → ℕ → ℕ → Type 0
Before rs j s = (i : ℕ) (d : Row) → i < j → i < length rs → (slice_index_or rs i d).start < s

-- a new row that starts at s meets the old row j
pub record Met (e : Edit) (old : List Row) (s j : ℕ) : Type 0 where
  pub behind : e.at + e.ins ≤ s
  pub among : j < length old
  pub there : (d : Row) → (slice_index_or old j d).start ≡ s - e.ins + e.del

-- a new row that starts at s meets none, and the old rows before row j can be passed over
pub record Unmet (e : Edit) (old : List Row) (s j : ℕ) : Type 0 where
  pub meets_none : (r : Row) → r.start ≡ s → meets e old r ≡ false
  pub passed : Before old j (s - e.ins + e.del)

-- the new rows are `done` and then the old ones from row j on, moved; none before that meets the old ones
pub record Resumes (e : Edit) (old new done : List Row) (j : ℕ) : Type 0 where
  pub joins : done ++ map (resumed e.del e.ins) (drop j old) ≡ new
  pub met : meeting e old new ≡ length done

-- the rows in the list, the record and the tally, once the new rows are laid
pub record RelaidTo (e : Edit) (old new : List Row) (p : Repaint) (rows : List Row) (before after : ℕ) : Type 0 where
  pub items : rows ≡ new
  pub painted : p ≡ repaint_of e old new
  pub counted : after ≡ (before + p.broken) % 2 ^ 64
  pub few : length new ≤ most_rows

module _ (m : Meaning) (P : Rules) (w : ℕ) where
  -- t' is a covered text after an edit, with the old rows and the new ones
  pub record Changed (t' : List ℕ) (e : Edit) (old new : List Row) : Type 0 where
    pub covers : Covered m t'
    pub laws : EditLaws m P w t' e old new

  -- `done` are the first of the new rows, the rest start at s, and none so far meets the old ones
  pub record Underway (t' : List ℕ) (e : Edit) (old new done : List Row) (s : ℕ) : Type 0 where
    pub rest : List Row
    pub joins : done ++ rest ≡ new
    pub follows : RowsFrom m P w t' s rest
    pub unmet : length done ≤ meeting e old new

  -- what comes of laying t' again, where it is an old text after the edit e and `old` are the rows of that: the
  -- rows of t', or a refusal if they are too many
  abbrev pub Relaid : List ℕ → Edit → List Row → Result Repaint LayFault → List Row → ℕ → ℕ → Type 0
  Relaid t' e old r rows before after = (t ins : List ℕ) → t' ≡ edited t e.at e.del ins → Editing m P w t ins e → old ≡ rows_of m P w t
      → MatchResult r (λ p. RelaidTo e old (rows_of m P w t') p rows before after) (λ f. (f ≡ TooManyRows) × (most_rows < length (rows_of m P w t')))

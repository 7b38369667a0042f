-- What is painted again after an edit.
use Rattle.std.specs.Prelude.{ℕ, ◌+◌, ◌-◌, min, Bool, true, false, not, ◌&&◌, ◌||◌, leb, List, [], ◌∷◌, length, ◌==◌, nat_le}
use Rattle.std.specs.List.{prefix_len, common_prefix_len}
use Rattle.page.specs.Endings.{letter_of}
use Rattle.page.specs.declared.row.Row.{Row}
use Rattle.reflow.specs.declared.edit.Edit.{Edit}
use Rattle.reflow.specs.declared.repaint.Repaint.{Repaint}

-- r, the first old row whose reach exceeds the place of the edit
abbrev pub first_reaching : Edit → List Row → ℕ
first_reaching e old = prefix_len (λ (r : Row). leb r.reach e.at) old

-- whether one of the rows starts at s
abbrev pub starts_at : List Row → ℕ → Bool
starts_at [] s = false
starts_at (r ∷ rs) s = r.start == s || starts_at rs s

-- a new row meets the old ones if it starts at or behind the insertion's end, where an old row started
abbrev pub meets : Edit → List Row → Row → Bool
meets e old r = nat_le (e.at + e.ins) r.start && starts_at old (r.start - e.ins + e.del)

-- m, the first new row that meets the old ones; the number of new rows if there is none
abbrev pub meeting : Edit → List Row → List Row → ℕ
meeting e old new = prefix_len (λ (r : Row). not (meets e old r)) new

-- two records share start, end and ending, and end at or before the edit
abbrev pub kept : ℕ → Row → Row → Bool
kept at r r' = r.start == r'.start && (r.end == r'.end && (letter_of r.ending == letter_of r'.ending && nat_le r.end at))

-- the number of leading rows that are kept
abbrev pub front : ℕ → List Row → List Row → ℕ
front at old new = common_prefix_len (kept at) old new

-- the number of rows at the end that need no paint
abbrev pub back : Edit → List Row → List Row → ℕ
back e old new = min (length new - meeting e old new) (min (length new - front e.at old new) (length old - front e.at old new))

-- the record of an edit
abbrev pub repaint_of : Edit → List Row → List Row → Repaint
repaint_of e old new = record {
  whole = false;
  from = front e.at old new;
  removed = length old - front e.at old new - back e old new;
  put = length new - front e.at old new - back e old new;
  broken = meeting e old new - first_reaching e old;
}

-- the record after every row was laid again
abbrev pub repaint_all : ℕ → ℕ → Repaint
repaint_all old new = record { whole = true; from = 0; removed = old; put = new; broken = new }

-- the record of a repaint for its own sake
abbrev pub repaint_same : ℕ → Repaint
repaint_same rows = record { whole = true; from = 0; removed = rows; put = rows; broken = 0 }

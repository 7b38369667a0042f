-- The clean sheet: it is fed only the arguments of the making and of the calls, and lays all its rows anew.
use Rattle.std.specs.Prelude.{ℕ, ◌+◌, ◌-◌, true, false, ◌&&◌, List, [], ◌∷◌, ◌++◌, length, drop, Some, None, Option, nat_le}
use Rattle.std.specs.List.{slice_get}
use Rattle.page.specs.Texts.{edited, part, most_characters}
use Rattle.page.specs.declared.ending.Ending.TheVariants.{End}
use Rattle.page.specs.declared.row.Row.{Row}
use Rattle.layout.specs.Covers.{first_uncovered, told}
use Rattle.layout.specs.Layouts.{most_rows}
use Rattle.layout.specs.Styles.{Style}
use Rattle.reflow.specs.Edits.{rows_of}
use Rattle.reflow.specs.Repaints.{repaint_of, repaint_all, repaint_same}
use Rattle.reflow.specs.declared.edit.Edit.{Edit}
use Rattle.reflow.specs.declared.repaint.Repaint.{Repaint}

-- what a sheet is made from: the style that its text is set in at first
abbrev pub Making : Type 0
Making = Style

-- a text, a measure, and the record that is owed
pub record Clean : Type 0 where
  pub text : List ℕ
  pub measure : ℕ
  pub owed : Option Repaint

pub data Call : Type 0 where
  -- a place, how many characters go, and those that come
  replace : ℕ → ℕ → List ℕ → Call
  remeasure : ℕ → Call
  refresh : Call
  settle : Call
  -- a row's number, and what the caller's buffer holds
  row : ℕ → List ℕ → Call

pub data Answer : Type 0 where
  accepted : Answer
  -- the number, and then what is told
  refused : List ℕ → Answer
  settled : Repaint → Answer
  -- a row's record, and what the buffer holds now
  shown : Row → List ℕ → Answer

-- how a call leaves a clean sheet, and its answer
pub record Step : Type 0 where
  pub next : Clean
  pub answer : Answer

abbrev pub refuse : Clean → List ℕ → Step
refuse c told = record { next = c; answer = refused told }

abbrev pub fresh : Making → Clean
fresh k = record { text = []; measure = k.measure; owed = None }

-- the one row of an empty text
abbrev pub empty_row : Row
empty_row = record { start = 0; end = 0; ending = End; width = 0; reach = 1 }

-- the rows by first fit
abbrev pub clean_rows : Making → Clean → List Row
clean_rows k c = rows_of k.meaning k.rules c.measure c.text

abbrev pub edit_of : ℕ → ℕ → List ℕ → Edit
edit_of at del ins = record { at = at; del = del; ins = length ins }

-- the sheet after the insertion is put in place
abbrev pub replaced : Making → Clean → ℕ → ℕ → List ℕ → Clean
replaced k c at del ins =
    let t' = edited c.text at del ins in
    record {
      text = t';
      measure = c.measure;
      owed = Some (repaint_of (edit_of at del ins) (clean_rows k c) (rows_of k.meaning k.rules c.measure t'));
    }

unfoldable pub replace_step : Making → Clean → ℕ → ℕ → List ℕ → Step
replace_step k c at del ins =
    elim c.owed [
      | Some _ ↦ refuse c (1 ∷ [])
      | None ↦ elim (nat_le at (length c.text) && nat_le del (length c.text - at)) [
        | false ↦ refuse c (2 ∷ [])
        | true ↦ elim (nat_le (length c.text - del + length ins) most_characters) [
          | false ↦ refuse c (3 ∷ [])
          | true ↦ elim (first_uncovered k.meaning 0 ins) [
            | Some u ↦ refuse c (told u)
            | None ↦ elim (nat_le (length (clean_rows k (replaced k c at del ins))) most_rows) [
              | false ↦ refuse c (5 ∷ [])
              | true ↦ record { next = replaced k c at del ins; answer = accepted }
            ]
          ]
        ]
      ]
    ]

-- the sheet at another measure
abbrev pub remeasured : Making → Clean → ℕ → Clean
remeasured k c w = record {
  text = c.text;
  measure = w;
  owed = Some (repaint_all (length (clean_rows k c)) (length (rows_of k.meaning k.rules w c.text)));
}

unfoldable pub remeasure_step : Making → Clean → ℕ → Step
remeasure_step k c w =
    elim c.owed [
      | Some _ ↦ refuse c (1 ∷ [])
      | None ↦ elim (nat_le (length (clean_rows k (remeasured k c w))) most_rows) [
        | false ↦ refuse c (5 ∷ [])
        | true ↦ record { next = remeasured k c w; answer = accepted }
      ]
    ]

abbrev pub refresh_step : Making → Clean → Step
refresh_step k c = record {
  next = record { text = c.text; measure = c.measure; owed = Some (repaint_same (length (clean_rows k c))) };
  answer = accepted;
}

abbrev pub settle_by : Clean → Option Repaint → Step
settle_by c None = refuse c (7 ∷ [])
settle_by c (Some p) = record { next = record { text = c.text; measure = c.measure; owed = None }; answer = settled p }

abbrev pub settle_step : Clean → Step
settle_step c = settle_by c c.owed

-- a row's characters at the front of the buffer
abbrev pub copied : List ℕ → Row → List ℕ → List ℕ
copied t r buffer = part t r.start r.end ++ drop (r.end - r.start) buffer

abbrev pub show_by : Clean → Option Row → List ℕ → Step
show_by c None buffer = refuse c (8 ∷ [])
show_by c (Some r) buffer = elim (nat_le (r.end - r.start) (length buffer)) [
  | false ↦ refuse c (9 ∷ [])
  | true ↦ record { next = c; answer = shown r (copied c.text r buffer) }
]

abbrev pub row_step : Making → Clean → ℕ → List ℕ → Step
row_step k c i buffer = show_by c (slice_get (clean_rows k c) i) buffer

abbrev pub step : Making → Clean → Call → Step
step k c (replace at del ins) = replace_step k c at del ins
step k c (remeasure w) = remeasure_step k c w
step k c refresh = refresh_step k c
step k c settle = settle_step c
step k c (row i buffer) = row_step k c i buffer

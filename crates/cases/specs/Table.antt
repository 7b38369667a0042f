-- Labels worked out by hand. A row reads start, end, ending, width, reach.
use Rattle.std.specs.Prelude.{◌≡◌, ℕ, false, List, [], ◌∷◌, length, replicate, None, Ok, codes}
use Rattle.metrics.specs.Cells.{cells_meaning}
use Rattle.metrics.specs.Meaning.{Meaning}
use Rattle.fonts.specs.Pile.{worked as kerned}
use Rattle.page.specs.Policies.{Rules, spaces, anywhere}
use Rattle.page.specs.Texts.{edited}
use Rattle.layout.specs.Settings.{setting_of}
use Rattle.reflow.specs.Edits.{rows_of}
use Rattle.reflow.specs.Repaints.{repaint_of}
use Rattle.reflow.specs.declared.repaint.Repaint.{Repaint}
use Rattle.page.specs.declared.ending.Ending.{Ending}
use Rattle.page.specs.declared.ending.Ending.TheVariants.{Wrapped, Cut, Newline, End}
use Rattle.page.specs.declared.row.Row.{Row}
use Rattle.sheet.specs.Clean.{Making, Answer, fresh, replace_step}
use Rattle.sheet.specs.Clean.Answer.{accepted, refused}
use Rattle.runner.specs.Runs.{run_script}

pub record Case : Type 0 where
  pub meaning : Meaning
  pub rules : Rules
  pub measure : ℕ
  pub text : List ℕ
  pub rows : List Row

abbrev row : ℕ → ℕ → Ending → ℕ → ℕ → Row
row s e g w r = record { start = s; end = e; ending = g; width = w; reach = r }

abbrev label : Meaning → Rules → ℕ → List ℕ → List Row → Case
label m P w t rs = record { meaning = m; rules = P; measure = w; text = t; rows = rs }

-- most labels are in cells of 500
abbrev in_cells : Rules → ℕ → List ℕ → List Row → Case
in_cells P w t rs = label (cells_meaning 500) P w t rs

abbrev pub worked : List Case
worked =
    -- an empty text
    in_cells spaces 5000 (codes "") (row 0 0 End 0 1 ∷ [])
    -- ten characters that fit exactly
    ∷ in_cells spaces 5000 (codes "abcdefghij") (row 0 10 End 5000 11 ∷ [])
    -- eleven are cut
    ∷ in_cells spaces 5000 (codes "abcdefghijk") (row 0 10 Cut 5000 11 ∷ row 10 11 End 500 12 ∷ [])
    -- two spaces hang
    ∷ in_cells spaces 5000 (codes "abcdefghij  ") (row 0 12 End 5000 13 ∷ [])
    -- each character is wider than the measure
    ∷ in_cells spaces 499 (codes "ab") (row 0 1 Cut 500 2 ∷ row 1 2 End 500 3 ∷ [])
    -- a newline
    ∷ in_cells spaces 5000 (10 ∷ []) (row 0 0 Newline 0 1 ∷ row 1 1 End 0 2 ∷ [])
    -- a wrap at the last allowed place
    ∷ in_cells spaces 5000 (codes "the red ink") (row 0 8 Wrapped 3500 11 ∷ row 8 11 End 1500 12 ∷ [])
    -- the same where a row may end anywhere
    ∷ in_cells anywhere 5000 (codes "the red ink") (row 0 10 Wrapped 5000 11 ∷ row 10 11 End 500 12 ∷ [])
    -- space 100, a 600, b 1200, c 300, and b after a space drawn back by 1200: the kern counts only
    -- inside a row
    ∷ label kerned spaces 1000 (codes "a bcc") (row 0 2 Wrapped 600 5 ∷ row 2 3 Cut 1200 4 ∷ row 3 5 End 600 6 ∷ [])
    ∷ []

-- the label comes out as the table says
abbrev pub Holds : Case → Type 0
Holds c = setting_of c.meaning c.rules c.measure c.text ≡ Ok c.rows

abbrev pub AllHold : List Case → Type 0
AllHold [] = Unit {0}
AllHold (c ∷ cs) = Holds c × AllHold cs

-- An edit of a label: the rows that it has then, and the record of what to repaint.
pub record EditCase : Type 0 where
  pub before : Case
  pub at : ℕ
  pub del : ℕ
  pub ins : List ℕ
  pub after : List Row
  pub repaint : Repaint

abbrev record_of : ℕ → ℕ → ℕ → ℕ → Repaint
record_of from removed put broken = record { whole = false; from = from; removed = removed; put = put; broken = broken }

abbrev pub edits : List EditCase
edits =
    -- deleting the last c lets the kern pull three rows into one
    record {
      before = label kerned spaces 1000 (codes "a bcc") (row 0 2 Wrapped 600 5 ∷ row 2 3 Cut 1200 4 ∷ row 3 5 End 600 6 ∷ []);
      at = 4;
      del = 1;
      ins = [];
      after = row 0 4 End 1000 5 ∷ [];
      repaint = record_of 0 3 1 1;
    }
    -- the first text of a label
    ∷ record {
      before = in_cells spaces 5000 [] (row 0 0 End 0 1 ∷ []);
      at = 0;
      del = 0;
      ins = codes "the red ink";
      after = row 0 8 Wrapped 3500 11 ∷ row 8 11 End 1500 12 ∷ [];
      repaint = record_of 0 1 2 2;
    }
    -- two rows become one
    ∷ record {
      before = in_cells spaces 4000 (codes "the red ink") (row 0 8 Wrapped 3500 9 ∷ row 8 11 End 1500 12 ∷ []);
      at = 4;
      del = 4;
      ins = [];
      after = row 0 7 End 3500 8 ∷ [];
      repaint = record_of 0 2 1 1;
    }
    -- a row put in front leaves the other alone
    ∷ record {
      before = in_cells spaces 4000 (codes "the ink") (row 0 7 End 3500 8 ∷ []);
      at = 0;
      del = 0;
      ins = 97 ∷ 10 ∷ [];
      after = row 0 1 Newline 500 2 ∷ row 2 9 End 3500 10 ∷ [];
      repaint = record_of 0 0 1 1;
    }
    ∷ []

-- before, after and the record are as the table says
pub record EditHolds (c : EditCase) : Type 0 where
  pub old : rows_of c.before.meaning c.before.rules c.before.measure c.before.text ≡ c.before.rows
  pub new : rows_of c.before.meaning c.before.rules c.before.measure (edited c.before.text c.at c.del c.ins) ≡ c.after
  pub painted : repaint_of (record { at = c.at; del = c.del; ins = length c.ins }) c.before.rows c.after ≡ c.repaint

abbrev pub EditsHold : List EditCase → Type 0
EditsHold [] = Unit {0}
EditsHold (c ∷ cs) = EditHolds c × EditsHold cs

-- 1,023 newlines make as many rows as a layout may have, and 1,024 one too many
pub record Newlines : Type 0 where
  pub fit : length (rows_of (cells_meaning 500) spaces 5000 (replicate 1023 10)) ≡ 1024
  pub over : length (rows_of (cells_meaning 500) spaces 5000 (replicate 1024 10)) ≡ 1025

-- most sheets are made so
abbrev usual : Making
usual = record { meaning = cells_meaning 500; rules = spaces; measure = 5000 }

-- what a new sheet answers when so many characters of one code are put in
abbrev put_in : ℕ → ℕ → Answer
put_in n code = (replace_step usual (fresh usual) 0 0 (replicate n code)).answer

-- the limits of a sheet: characters and rows
pub record Limits : Type 0 where
  pub most_characters : put_in 4096 32 ≡ accepted
  pub one_more : put_in 4097 97 ≡ refused (3 ∷ [])
  pub most_rows : put_in 1023 10 ≡ accepted
  pub one_row_more : put_in 1024 10 ≡ refused (5 ∷ [])

-- a script, with a space at the end of its third line
abbrev worked_script : List ℕ
worked_script = codes "R 0 0 the red ink\nM 4000\nR 4 4 \nR 9 0 z\nR 0 0 a\\n\nS 1\n"

abbrev worked_list : List ℕ
worked_list = codes "1 0 0 1 2 2 2\n2 1 0 2 2 2 2\n3 0 0 2 1 1 1\n4 ! 2\n5 0 0 0 1 1 2\n6 = 2 9 E 3500 10\n"

-- its list, where there is room
pub record Script : Type 0 where
  pub list : (run_script usual 60000 [] (fresh usual) worked_script).list ≡ worked_list
  pub all : (run_script usual 60000 [] (fresh usual) worked_script).out ≡ None

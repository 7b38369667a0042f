-- What came of a sheet's calls, call by call. The worked sheet is the one in the code, beside the clean one.
use Rattle.std.specs.Prelude.{◌≡◌, ℕ, ◌+◌, ◌%◌, ◌^◌, ◌≤◌, List, [], ◌∷◌, ◌++◌, length, Some, None, Option}
use Rattle.metrics.specs.Meaning.{Meaning}
use Rattle.page.specs.Policies.{Rules}
use Rattle.page.specs.Texts.{most_characters}
use Rattle.page.specs.declared.row.Row.{Row}
use Rattle.layout.specs.Covers.{Covered}
use Rattle.layout.specs.FirstFit.{RowsFrom}
use Rattle.layout.specs.Layouts.{most_rows}
use Rattle.reflow.specs.Screens.{Shown, painted, blank, followed}
use Rattle.reflow.specs.declared.repaint.Repaint.{Repaint}
use Rattle.sheet.specs.Clean.{Making, Clean, Call, Answer, fresh, clean_rows, step}
use Rattle.sheet.specs.Clean.Answer.{accepted, refused, settled, shown}
use Rattle.sheet.specs.Laid.{Laid}

-- a call, its answer, and the text and rows of the worked sheet after it
pub record Event : Type 0 where
  pub call : Call
  pub answer : Answer
  pub text : List ℕ
  pub rows : List Row

-- the newest event first
abbrev pub History : Type 0
History = List Event

-- the clean sheet after the calls; it sees nothing else of them
abbrev pub clean_after : Making → History → Clean
clean_after k [] = fresh k
clean_after k (e ∷ h) = (step k (clean_after k h) e.call).next

-- a settled record is followed, painting from the worked sheet
abbrev pub follows : Answer → List Shown → List Shown → List Shown
follows (settled p) sheet screen = followed p sheet screen
follows accepted sheet screen = screen
follows (refused told) sheet screen = screen
follows (shown r buffer) sheet screen = screen

abbrev pub screen_after : Making → History → List Shown
screen_after k [] = blank
screen_after k (e ∷ h) = follows e.answer (painted k.meaning e.text e.rows) (screen_after k h)

-- the rows of a clean sheet, painted
abbrev pub clean_screen : Making → Clean → List Shown
clean_screen k c = painted k.meaning c.text (clean_rows k c)

-- one event is as the clean sheet has it
pub record AgreesAt (k : Making) (e : Event) (h : History) : Type 0 where
  -- the call is answered as the clean sheet answers it
  pub answer : e.answer ≡ (step k (clean_after k h) e.call).answer
  -- the worked sheet's text and rows are the clean sheet's, and those are the rows by first fit
  pub text : e.text ≡ (clean_after k (e ∷ h)).text
  pub rows : e.rows ≡ clean_rows k (clean_after k (e ∷ h))
  pub first_fit : RowsFrom k.meaning k.rules (clean_after k (e ∷ h)).measure (clean_after k (e ∷ h)).text 0 e.rows
  -- where nothing is owed, the screen shows the clean sheet's rows
  pub screen : (clean_after k (e ∷ h)).owed ≡ None → screen_after k (e ∷ h) ≡ clean_screen k (clean_after k (e ∷ h))

-- and so is every event of a history
abbrev pub Agrees : Making → History → Type 0
Agrees k [] = Unit {0}
Agrees k (e ∷ h) = AgreesAt k e h × Agrees k h

-- what the screen shows once the owed record, if there is one, is followed
abbrev pub due : Option Repaint → List Shown → List Shown → List Shown
due None sheet screen = screen
due (Some p) sheet screen = followed p sheet screen

-- what a worked sheet is; the tally is how many rows it broke, modulo 2^64
pub record State : Type 1 where
  pub meaning : Meaning
  pub rules : Rules
  pub sound : Type 0
  pub measure : ℕ
  pub text : List ℕ
  pub rows : List Row
  pub owed : Option Repaint
  pub tally : ℕ

-- nothing of it is another, and it is as sound as it was
pub record Unchanged (s s' : State) : Type 0 where
  pub meaning : s'.meaning ≡ s.meaning
  pub rules : s'.rules ≡ s.rules
  pub sound : s.sound → s'.sound
  pub measure : s'.measure ≡ s.measure
  pub text : s'.text ≡ s.text
  pub rows : s'.rows ≡ s.rows
  pub owed : s'.owed ≡ s.owed
  pub tally : s'.tally ≡ s.tally

-- the tally counts the rows that the owed record says were broken
abbrev pub Counted : State → State → Type 0
Counted s s' = (p : Repaint) → s'.owed ≡ Some p → s'.tally ≡ (s.tally + p.broken) % 2 ^ 64

-- a sheet that was made so and has had these calls
pub record Follows (k : Making) (h : History) (s : State) : Type 0 where
  pub meaning : s.meaning ≡ k.meaning
  pub rules : s.rules ≡ k.rules
  pub sound : s.sound
  pub measure : s.measure ≡ (clean_after k h).measure
  pub text : s.text ≡ (clean_after k h).text
  pub owed : s.owed ≡ (clean_after k h).owed
  pub rows : s.rows ≡ clean_rows k (clean_after k h)
  pub covered : Covered k.meaning (clean_after k h).text
  pub few_rows : length (clean_rows k (clean_after k h)) ≤ most_rows
  pub few : length (clean_after k h).text ≤ most_characters
  pub agrees : Agrees k h
  pub screen : due (clean_after k h).owed (clean_screen k (clean_after k h)) (screen_after k h) ≡ clean_screen k (clean_after k h)

-- an event, by the call, its answer and the sheet after it
abbrev pub event : Call → Answer → State → Event
event call answer s = record { call = call; answer = answer; text = s.text; rows = s.rows }

-- whatever calls a sheet has had, it has had this one too, answered so
abbrev pub Continues : State → Call → Answer → State → Type 0
Continues s call answer s' = (k : Making) (h : History) → Follows k h s → Follows k (event call answer s' ∷ h) s'

-- Whatever sequence of calls a sheet has had, accepted or refused: at each of them it answered as the clean
-- sheet does, its text and rows were the clean sheet's, and where nothing was owed, the screen that follows
-- its records showed them.
abbrev pub Lawful : State → Type 0
Lawful s = (k : Making) (h later earlier : History) (e : Event) → Follows k h s → h ≡ later ++ (e ∷ earlier) → AgreesAt k e earlier

-- Whatever calls a sheet has had, its text stands in its rows at its measure.
abbrev pub StaysLaid : State → Type 0
StaysLaid s = (k : Making) (h : History) → Follows k h s → Laid (record { meaning = s.meaning; rules = s.rules; measure = s.measure }) s.text s.rows

-- What typing comes to, over the clean sheet.
use Rattle.std.specs.Prelude.{◌≡◌, ℕ, ◌+◌, ◌%◌, ◌^◌, List, [], ◌∷◌, ◌++◌, length, take, Some, None, Ok, Err, Option, Result}
use Rattle.std.specs.List.{slice_get}
use Rattle.reflow.specs.Screens.{Shown}
use Rattle.reflow.specs.declared.repaint.Repaint.{Repaint}
use Rattle.sheet.specs.Clean.{Making, Clean, Step, clean_rows, replace_step, settle_step}
use Rattle.sheet.specs.Clean.Answer.{accepted, refused}
use Rattle.sheet.specs.Faults.{replace_told}
use Rattle.sheet.specs.Histories.{History, State, Follows, clean_after, clean_screen, screen_after}
use Rattle.typing.specs.declared.fault.KeyFault.{KeyFault}
use Rattle.typing.specs.declared.fault.KeyFault.TheVariants.{Refused, Unsettled, Memory}
use Rattle.typing.specs.declared.fault.Stopped.{Stopped}
use Rattle.typing.specs.declared.keys.Effort.{Effort}

-- one more character at the end of the text
abbrev pub typed : Making → Clean → ℕ → Step
typed k c x = replace_step k c (length c.text) 0 (x ∷ [])

-- the sheet once that is settled
abbrev pub settled_after : Step → Clean
settled_after s = (settle_step s.next).next

abbrev pub rows_broken : Option Repaint → ℕ
rows_broken None = 0
rows_broken (Some p) = p.broken

-- the sheet after all these characters
unfoldable pub typed_text : Making → Clean → List ℕ → Clean
typed_text k c [] = c
typed_text k c (x ∷ xs) = typed_text k (settled_after (typed k c x)) xs

-- the rows broken for them, by the records
unfoldable pub rows_broken_for : Making → Clean → List ℕ → ℕ
rows_broken_for k c [] = 0
rows_broken_for k c (x ∷ xs) = rows_broken (typed k c x).next.owed + rows_broken_for k (settled_after (typed k c x)) xs

-- the rows of the layout after each of them
unfoldable pub rows_laid_for : Making → Clean → List ℕ → ℕ
rows_laid_for k c [] = 0
rows_laid_for k c (x ∷ xs) = length (clean_rows k (settled_after (typed k c x))) + rows_laid_for k (settled_after (typed k c x)) xs

-- further calls have led the sheet to where the clean sheet is c, and the screen with it
pub record Led (k : Making) (h : History) (s : State) (screen : List Shown) (c : Clean) : Type 0 where
  pub later : History
  pub follows : Follows k (later ++ h) s
  pub clean : clean_after k (later ++ h) ≡ c
  pub screen_is : screen ≡ screen_after k (later ++ h)
  pub right : c.owed ≡ None → screen ≡ clean_screen k c

-- the end of one key: the character stands behind the text, or is refused as the clean sheet refuses it
abbrev pub Key : Making → History → ℕ → Result ℕ KeyFault → State → List Shown → Type 0
Key k h x (Ok broken) s screen =
    let t = typed k (clean_after k h) x in
    (t.answer ≡ accepted) × (t.next.text ≡ (clean_after k h).text ++ (x ∷ [])) × (broken ≡ rows_broken t.next.owed) × Led k h s screen (settled_after t)
Key k h x (Err (Refused e)) s screen = ((typed k (clean_after k h) x).answer ≡ refused (replace_told e)) × Led k h s screen (clean_after k h)
Key k h x (Err (Unsettled e)) s screen = ⊥
Key k h x (Err Memory) s screen = Unit {0}

-- the end of many: all stand behind the text, or those before the one that is refused
abbrev pub Ended : Making → History → List ℕ → ℕ → KeyFault → State → List Shown → Type 0
Ended k h xs place (Refused e) s screen =
    let c = typed_text k (clean_after k h) (take place xs) in
    (x : ℕ) × (slice_get xs place ≡ Some x) × ((typed k c x).answer ≡ refused (replace_told e)) × Led k h s screen c
Ended k h xs place (Unsettled e) s screen = ⊥
Ended k h xs place Memory s screen = Unit {0}

abbrev pub Keys : Making → History → List ℕ → Result Effort Stopped → State → List Shown → Type 0
Keys k h xs (Ok e) s screen =
    let c = clean_after k h in
    Led k h s screen (typed_text k c xs) × ((typed_text k c xs).text ≡ c.text ++ xs) × (e.broken ≡ rows_broken_for k c xs % 2 ^ 64) × (e.anew ≡ rows_laid_for k c xs % 2 ^ 64)
Keys k h xs (Err f) s screen = Ended k h xs f.place f.fault s screen

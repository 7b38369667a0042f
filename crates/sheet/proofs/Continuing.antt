-- A sheet that follows a clean one goes on following it.
use Rattle.std.proofs.Common.{◌≡◌, ℕ, ◌≤◌, List, [], ◌∷◌, ◌++◌, length, Some, None, Option, sym, refl, ap, ◌∙◌, subst, ap₂, subst₂}
use Rattle.page.specs.Texts.{most_characters}
use Rattle.page.specs.declared.row.Row.{Row}
use Rattle.layout.specs.Covers.{Covered}
use Rattle.layout.specs.FirstFit.{RowsFrom}
use Rattle.layout.specs.Layouts.{most_rows}
use Rattle.reflow.proofs.AllRows.{all_rows}
use Rattle.reflow.specs.Edits.{rows_of}
use Rattle.reflow.specs.Repaints.{repaint_same}
use Rattle.reflow.specs.Screens.{painted, followed}
use Rattle.reflow.specs.declared.repaint.Repaint.{Repaint}
use Rattle.sheet.specs.Clean.{Making, Clean, Call, Answer, Step, clean_rows, step, refuse, settle_by}
use Rattle.sheet.specs.Clean.Answer.{accepted, refused, settled}
use Rattle.sheet.specs.Clean.Call.{refresh, settle}
use Rattle.sheet.specs.Laid.{Laid}
use Rattle.sheet.specs.Histories.{Event, History, State, Follows, Agrees, AgreesAt, Lawful, clean_after, screen_after, clean_screen, due, event, follows}

-- what the worked sheet has to show after a call, n being the clean sheet after it
pub record KeepsUp (k : Making) (n : Clean) (s s' : State) : Type 0 where
  pub meaning : s'.meaning ≡ s.meaning
  pub rules : s'.rules ≡ s.rules
  pub sound : s.sound → s'.sound
  pub measure : s'.measure ≡ n.measure
  pub text : s'.text ≡ n.text
  pub owed : s'.owed ≡ n.owed
  pub rows : s'.rows ≡ clean_rows k n
  pub covered : Covered k.meaning n.text
  pub few_rows : length (clean_rows k n) ≤ most_rows
  pub few : length n.text ≤ most_characters

module _ (k : Making) (h : History) (s s' : State) (call : Call) (answer : Answer) where
  pub goes_on : Follows k h s → answer ≡ (step k (clean_after k h) call).answer → KeepsUp k (step k (clean_after k h) call).next s s'
      → due (step k (clean_after k h) call).next.owed (clean_screen k (step k (clean_after k h) call).next) (follows answer (painted k.meaning s'.text s'.rows) (screen_after k h)) ≡ clean_screen k (step k (clean_after k h) call).next
      → Follows k (event call answer s' ∷ h) s'
  goes_on f a up shows = record {
    meaning = up.meaning ∙ f.meaning;
    rules = up.rules ∙ f.rules;
    sound = up.sound f.sound;
    measure = up.measure;
    text = up.text;
    owed = up.owed;
    rows = up.rows;
    covered = up.covered;
    few_rows = up.few_rows;
    few = up.few;
    agrees = (
      record {
        answer = a;
        text = up.text;
        rows = up.rows;
        first_fit = subst (RowsFrom k.meaning k.rules (step k (clean_after k h) call).next.measure (step k (clean_after k h) call).next.text 0) (sym up.rows) (all_rows k.meaning k.rules (step k (clean_after k h) call).next.measure (step k (clean_after k h) call).next.text up.covered);
        screen = λ none. ap (λ (o : Option Repaint). due o (clean_screen k (step k (clean_after k h) call).next) (follows answer (painted k.meaning s'.text s'.rows) (screen_after k h))) (sym none) ∙ shows;
      },
      f.agrees,
    );
    screen = shows;
  }

  -- the same, where the clean sheet's step is known by another name
  pub goes_on_by : (st : Step) → step k (clean_after k h) call ≡ st → Follows k h s → answer ≡ st.answer → KeepsUp k st.next s s'
      → due st.next.owed (clean_screen k st.next) (follows answer (painted k.meaning s'.text s'.rows) (screen_after k h)) ≡ clean_screen k st.next
      → Follows k (event call answer s' ∷ h) s'
  goes_on_by st e f a up shows = goes_on f
      (a ∙ ap (λ (x : Step). x.answer) (sym e))
      (subst (λ (x : Step). KeepsUp k x.next s s') (sym e) up)
      (subst (λ (x : Step). due x.next.owed (clean_screen k x.next) (follows answer (painted k.meaning s'.text s'.rows) (screen_after k h)) ≡ clean_screen k x.next) (sym e) shows)

-- s' is s, owing o
pub record Owes (s s' : State) (o : Option Repaint) : Type 0 where
  pub meaning : s'.meaning ≡ s.meaning
  pub rules : s'.rules ≡ s.rules
  pub sound : s.sound → s'.sound
  pub measure : s'.measure ≡ s.measure
  pub text : s'.text ≡ s.text
  pub rows : s'.rows ≡ s.rows
  pub owed : s'.owed ≡ o

-- a sheet owes what it owes
pub as_it_was : (s : State) → Owes s s s.owed
as_it_was s = record { meaning = refl; rules = refl; sound = λ x. x; measure = refl; text = refl; rows = refl; owed = refl }

-- a sheet's text is covered, and its rows are the text's rows by first fit: it is laid
module _ (k : Making) (h : History) (s : State) (f : Follows k h s) where
  pub own_text : Covered s.meaning s.text
  own_text = subst₂ Covered (sym f.meaning) (sym f.text) f.covered

  pub own_rows : s.rows ≡ rows_of s.meaning s.rules s.measure s.text
  own_rows =
      let same : rows_of s.meaning s.rules s.measure s.text ≡ clean_rows k (clean_after k h) = λ i. rows_of (f.meaning i) (f.rules i) (f.measure i) (f.text i) in
      f.rows ∙ sym same

  pub laid_sheet : Laid (record { meaning = s.meaning; rules = s.rules; measure = s.measure }) s.text s.rows
  laid_sheet = record { covered = own_text; first_fit = own_rows }

module _ (k : Making) (h : History) (s s' : State) (f : Follows k h s) where
  pub keeps_up : (o o' : Option Repaint) → Owes s s' o → o ≡ o' → KeepsUp k (record { text = (clean_after k h).text; measure = (clean_after k h).measure; owed = o' }) s s'
  keeps_up o o' w e = record {
    meaning = w.meaning;
    rules = w.rules;
    sound = w.sound;
    measure = w.measure ∙ f.measure;
    text = w.text ∙ f.text;
    owed = w.owed ∙ e;
    rows = w.rows ∙ f.rows;
    covered = f.covered;
    few_rows = f.few_rows;
    few = f.few;
  }

  pub refreshed : (n : ℕ) → n ≡ length s.rows → Owes s s' (Some (repaint_same n)) → Follows k (event refresh accepted s' ∷ h) s'
  refreshed n e w = goes_on k h s s' refresh accepted f refl
      (keeps_up (Some (repaint_same n)) (Some (repaint_same (length (clean_rows k (clean_after k h))))) w (ap (λ (i : ℕ). Some (repaint_same i)) (e ∙ ap length f.rows)))
      refl

  -- a refused call changes nothing that the clean sheet has
  pub refused_call : (call : Call) (told : List ℕ) → step k (clean_after k h) call ≡ refuse (clean_after k h) told → Owes s s' s.owed → Follows k (event call (refused told) s' ∷ h) s'
  refused_call call told e w = goes_on_by k h s s' call (refused told) (refuse (clean_after k h) told) e f refl
      (keeps_up s.owed (clean_after k h).owed w f.owed)
      f.screen

  pub settled_call : (p : Repaint) → s.owed ≡ Some p → Owes s s' None → Follows k (event settle (settled p) s' ∷ h) s'
  settled_call p o w =
      let is : (clean_after k h).owed ≡ Some p = sym f.owed ∙ o in
      goes_on_by k h s s' settle (settled p) (settle_by (clean_after k h) (Some p)) (ap (settle_by (clean_after k h)) is) f refl
      (keeps_up None None w refl)
      (ap₂ (λ (t : List ℕ) (rs : List Row). followed p (painted k.meaning t rs) (screen_after k h)) (w.text ∙ f.text) (w.rows ∙ f.rows)
      ∙ ap (λ (x : Option Repaint). due x (clean_screen k (clean_after k h)) (screen_after k h)) (sym is) ∙ f.screen)

  pub unsettled_call : s.owed ≡ None → Owes s s' None → Follows k (event settle (refused (7 ∷ [])) s' ∷ h) s'
  unsettled_call o w =
      let is : (clean_after k h).owed ≡ None = sym f.owed ∙ o in
      refused_call settle (7 ∷ []) (ap (settle_by (clean_after k h)) is) (record { meaning = w.meaning; rules = w.rules; sound = w.sound; measure = w.measure; text = w.text; rows = w.rows; owed = w.owed ∙ sym o })

-- what agrees all along agrees at each event
agrees_at : (k : Making) (later earlier : History) (e : Event) → Agrees k (later ++ (e ∷ earlier)) → AgreesAt k e earlier
agrees_at k [] earlier e a = a.0
agrees_at k (x ∷ later) earlier e a = agrees_at k later earlier e a.1

pub lawful : (s : State) → Lawful s
lawful s k h later earlier e f is = agrees_at k later earlier e (subst (Agrees k) is f.agrees)

-- What leaves a sheet unchanged, one thing after another, and what it followed it follows still.
use Rattle.std.proofs.Common.{refl, ◌∙◌}
use Rattle.sheet.specs.Clean.{Making}
use Rattle.sheet.specs.Histories.{State, Unchanged, History, Follows}

pub unchanged : (s : State) → Unchanged s s
unchanged s = record { meaning = refl; rules = refl; sound = λ x. x; measure = refl; text = refl; rows = refl; owed = refl; tally = refl }

pub unchanged_then : {s s' s'' : State} → Unchanged s s' → Unchanged s' s'' → Unchanged s s''
unchanged_then u v = record {
  meaning = v.meaning ∙ u.meaning;
  rules = v.rules ∙ u.rules;
  sound = λ x. v.sound (u.sound x);
  measure = v.measure ∙ u.measure;
  text = v.text ∙ u.text;
  rows = v.rows ∙ u.rows;
  owed = v.owed ∙ u.owed;
  tally = v.tally ∙ u.tally;
}

pub still_follows : {s s' : State} → Unchanged s s' → (k : Making) (h : History) → Follows k h s → Follows k h s'
still_follows u k h f = record {
  meaning = u.meaning ∙ f.meaning;
  rules = u.rules ∙ f.rules;
  sound = u.sound f.sound;
  measure = u.measure ∙ f.measure;
  text = u.text ∙ f.text;
  owed = u.owed ∙ f.owed;
  rows = u.rows ∙ f.rows;
  covered = f.covered;
  few_rows = f.few_rows;
  few = f.few;
  agrees = f.agrees;
  screen = f.screen;
}

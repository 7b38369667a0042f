-- A screen whose rows are put in place as a record tells.
use Rattle.std.proofs.Common.{◌≡◌, ℕ, ◌+◌, ◌-◌, ◌^◌, ◌<◌, min, Bool, true, false, cond, List, ◌∷◌, ◌++◌, map, length, take, drop, sym, ap, ◌∙◌, ap₂, inl, inr, arith}
use Rattle.std.proofs.lemmas.List.{append-nil, map-append, take_all, take-map, drop_all, drop-map}
use Rattle.std.proofs.lemmas.Bool.{cases_lt}
use Rattle.reflow.specs.Screens.{Shown, painted, followed}
use Rattle.reflow.specs.declared.repaint.Repaint.{Repaint}
use Rattle.sheet.specs.Clean.{Making}
use Rattle.sheet.specs.Clean.Answer.{settled}
use Rattle.sheet.specs.Histories.{Event, History, State, Follows, clean_after, clean_screen, screen_after, follows}
use Rattle.sheet.proofs.Settled.{nothing_owed}
use Rattle.screen.specs.Views.{shown_row}
use Rattle.screen.specs.declared.shown_row.ShownRow.{ShownRow}

take_min : {X : Type 0} (xs : List X) (n : ℕ) → take (min n (length xs)) xs ≡ take n xs
take_min xs n = elim (cases_lt n (length xs)) [
  | inl l ↦ let e : min n (length xs) ≡ n = omega arith in ap (λ (i : ℕ). take i xs) e
  | inr l ↦ take_all (min n (length xs)) xs (omega arith) ∙ sym (take_all n xs l)
]

-- a sum that is cut lies beyond the list
drop_min : {X : Type 0} (xs : List X) (n : ℕ) → length xs < 2 ^ 64 → drop (min (min n (2 ^ 64 - 1)) (length xs)) xs ≡ drop n xs
drop_min xs n few = elim (cases_lt n (length xs)) [
  | inl l ↦ let e : min (min n (2 ^ 64 - 1)) (length xs) ≡ n = omega arith in ap (λ (i : ℕ). drop i xs) e
  | inr l ↦ drop_all (min (min n (2 ^ 64 - 1)) (length xs)) xs (omega arith) ∙ sym (drop_all n xs l)
]

-- `new` in place of the rows from `start` up to `end`
module _ (old new : List ShownRow) (few : length old < 2 ^ 64) (sheet : List Shown) (from removed put : ℕ) (is : map shown_row new ≡ take put (drop from sheet)) where
  pub put_in : map shown_row (take (min from (length old)) old ++ (new ++ drop (min (min (from + removed) (2 ^ 64 - 1)) (length old)) old))
      ≡ take from (map shown_row old) ++ (take put (drop from sheet) ++ drop (from + removed) (map shown_row old))
  put_in =
      ap₂ (λ (a b : List ShownRow). map shown_row (a ++ (new ++ b))) (take_min old from) (drop_min old (from + removed) few)
      ∙ map-append shown_row (take from old) (new ++ drop (from + removed) old)
      ∙ ap₂ (λ (a b : List Shown). a ++ b) (sym (take-map shown_row from old)) (map-append shown_row new (drop (from + removed) old))
      ∙ ap₂ (λ (a b : List Shown). take from (map shown_row old) ++ (a ++ b)) is (sym (drop-map shown_row (from + removed) old))

-- what a screen that follows the record then shows, by the numbers that it goes by
module _ (p : Repaint) (sheet screen : List Shown) where
  pub followed_whole : (rows shown : ℕ) → p.whole ≡ true → rows ≡ length sheet → shown ≡ length screen → take 0 screen ++ (take rows (drop 0 sheet) ++ drop (0 + shown) screen) ≡ followed p sheet screen
  followed_whole rows shown w a b =
      ap₂ (λ (xs ys : List Shown). xs ++ ys) (take_all rows sheet (omega arith)) (drop_all (0 + shown) screen (omega arith))
      ∙ append-nil sheet
      ∙ ap (λ (x : Bool). cond x sheet (take p.from screen ++ (take p.put (drop p.from sheet) ++ drop (p.from + p.removed) screen))) (sym w)

  pub followed_part : p.whole ≡ false → take p.from screen ++ (take p.put (drop p.from sheet) ++ drop (p.from + p.removed) screen) ≡ followed p sheet screen
  followed_part w = ap (λ (x : Bool). cond x sheet (take p.from screen ++ (take p.put (drop p.from sheet) ++ drop (p.from + p.removed) screen))) (sym w)

-- a screen that showed what the records told shows it again, which is the clean sheet's rows
module _ (k : Making) (h : History) (e : Event) (p : Repaint) (told : e.answer ≡ settled p) (s : State) (f : Follows k (e ∷ h) s) where
  pub goes_on : followed p (clean_screen k (clean_after k (e ∷ h))) (screen_after k h) ≡ screen_after k (e ∷ h)
  goes_on =
      ap₂ (λ t rs. followed p (painted k.meaning t rs) (screen_after k h)) (sym f.agrees.0.text) (sym f.agrees.0.rows)
      ∙ ap (λ a. follows a (painted k.meaning e.text e.rows) (screen_after k h)) (sym told)

  pub shows_clean : screen_after k (e ∷ h) ≡ clean_screen k (clean_after k (e ∷ h))
  shows_clean = f.agrees.0.screen (nothing_owed k (clean_after k h) p e.call (sym f.agrees.0.answer ∙ told))

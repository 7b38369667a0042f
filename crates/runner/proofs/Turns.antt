-- How a run goes on from line to line.
use Rattle.std.proofs.Common.{◌≡◌, ℕ, ◌+◌, ◌≤◌, true, false, leb, List, [], ◌∷◌, ◌++◌, length, drop, is_err, Some, None, Ok, Err, Result, sym, refl, ap, ◌∙◌, subst, ap₂, ⊎_elim, arith}
use Rattle.std.proofs.lemmas.Bool.{le-leb, cases_Bool, cond-true, cond-false}
use Rattle.std.specs.List.{slice_get}
use Rattle.listing.specs.Entries.{Outcome, outcome, added, entered}
use Rattle.listing.specs.declared.room.NoRoom.{NoRoom}
use Rattle.listing.specs.declared.word.Word.{Word}
use Rattle.script.specs.Lines.{lines}
use Rattle.sheet.specs.Clean.{Making, Clean}
use Rattle.sheet.specs.Histories.{History, State, Follows, clean_after}
use Rattle.runner.specs.Answers.{Took, Reaches, Ran}
use Rattle.runner.specs.Entries.{entry}
use Rattle.runner.specs.Runs.{Run, line_step, run_lines, run_script, most_bytes}
use Rattle.runner.specs.declared.fault.ListFull.{ListFull}
use Rattle.runner.proofs.Taking.{further}

-- a list by its first item
pub first_is : {X : Type 0} (xs : List X) (x : X) → Some x ≡ slice_get xs 0 → xs ≡ x ∷ drop 1 xs
first_is [] x e = let z : ◌≡◌ {A = ℕ} 0 1 = cc in absurd (omega arith)
first_is (y ∷ xs) x e = let is : x ≡ y = cc in ap (λ z. z ∷ xs) (sym is)

pub none_first : {X : Type 0} (xs : List X) → None ≡ slice_get xs 0 → xs ≡ []
none_first [] e = refl
none_first (y ∷ xs) e = let z : ◌≡◌ {A = ℕ} 0 1 = cc in absurd (omega arith)

-- an addition that is not refused, and one that is
module _ (room : ℕ) (list more list' : List ℕ) (r : Result (Unit {0}) NoRoom) (after : outcome list' r ≡ added room list more) where
  pub fits : is_err r ≡ false → (leb (length list + length more) room ≡ true) × (list' ≡ list ++ more)
  fits good = ⊎_elim
      (λ (is : leb (length list + length more) room ≡ true). (is, ap (λ (o : Outcome). o.bytes) (after ∙ cond-true (leb (length list + length more) room) (outcome (list ++ more) (Ok tt)) (outcome list (Err (record {}))) is)))
      (λ (is : leb (length list + length more) room ≡ false).
      let bad = ap (λ (o : Outcome). is_err o.answer) (after ∙ cond-false (leb (length list + length more) room) (outcome (list ++ more) (Ok tt)) (outcome list (Err (record {}))) is) in
      let z : ◌≡◌ {A = ℕ} 0 1 = cc in absurd (omega arith))
      (cases_Bool (leb (length list + length more) room))

  pub full : is_err r ≡ true → (leb (length list + length more) room ≡ false) × (list' ≡ list)
  full bad = ⊎_elim
      (λ (is : leb (length list + length more) room ≡ true).
      let good = ap (λ (o : Outcome). is_err o.answer) (after ∙ cond-true (leb (length list + length more) room) (outcome (list ++ more) (Ok tt)) (outcome list (Err (record {}))) is) in
      let z : ◌≡◌ {A = ℕ} 0 1 = cc in absurd (omega arith))
      (λ (is : leb (length list + length more) room ≡ false). (is, ap (λ (o : Outcome). o.bytes) (after ∙ cond-false (leb (length list + length more) room) (outcome (list ++ more) (Ok tt)) (outcome list (Err (record {}))) is)))
      (cases_Bool (leb (length list + length more) room))

-- the lines that are left, run from where calls have led the sheet, give the run
abbrev pub Going : Making → History → State → ℕ → List ℕ → ℕ → List (List ℕ) → Run → Type 0
Going k h s room list n ls run = (later : History) × Follows k (later ++ h) s × (run_lines k room list (clean_after k (later ++ h)) n ls ≡ run)

module _ (k : Making) (room : ℕ) (list : List ℕ) (c : Clean) (n : ℕ) where
  pub run_over : run_lines k room list c n [] ≡ record { list = list; out = None; left = c }
  unfolding run_lines
  run_over = refl

  module _ (l : List ℕ) (ls : List (List ℕ)) where
    run_on : leb (length list + length (entry k n (line_step k c l))) room ≡ true → run_lines k room list c n (l ∷ ls) ≡ run_lines k room (list ++ entry k n (line_step k c l)) (line_step k c l).next (n + 1) ls
    unfolding run_lines
    run_on is = cond-true _ _ _ is

    run_out : leb (length list + length (entry k n (line_step k c l))) room ≡ false → run_lines k room list c n (l ∷ ls) ≡ record { list = list; out = Some n; left = (line_step k c l).next }
    unfolding run_lines
    run_out is = cond-false _ _ _ is

-- a line's turn
module _ (k : Making) (h : History) (s s' : State) (room : ℕ) (list list' : List ℕ) (n : ℕ) (ls : List (List ℕ)) (l : List ℕ) (run : Run)
    (going : Going k h s room list n ls run) (ws : List Word) (r : Result (Unit {0}) NoRoom)
    (first : Some l ≡ slice_get ls 0)
    (took : Took k (going.0 ++ h) s' (line_step k (clean_after k (going.0 ++ h)) l) n ws)
    (after : outcome list' r ≡ entered room list ws) where
  there : Reaches k h s' (line_step k (clean_after k (going.0 ++ h)) l).next
  there = further k h going.0 s' (line_step k (clean_after k (going.0 ++ h)) l).next took.0

  added_entry : outcome list' r ≡ added room list (entry k n (line_step k (clean_after k (going.0 ++ h)) l))
  added_entry = after ∙ ap (entered room list) took.1

  gives : run_lines k room list (clean_after k (going.0 ++ h)) n (l ∷ drop 1 ls) ≡ run
  gives = ap (run_lines k room list (clean_after k (going.0 ++ h)) n) (sym (first_is ls l first)) ∙ going.2

  pub turn_again : is_err r ≡ false → (ls' : List (List ℕ)) → ls' ≡ drop 1 ls → Going k h s' room list' (n + 1) ls' run
  turn_again good ls' rest =
      let st = line_step k (clean_after k (going.0 ++ h)) l in
      let f = fits room list (entry k n st) list' r added_entry good in (
        there.0,
        there.1,
        ap (λ (c : Clean). run_lines k room list' c (n + 1) ls') there.2
            ∙ ap₂ (λ (x : List ℕ) (y : List (List ℕ)). run_lines k room x st.next (n + 1) y) f.1 rest
            ∙ sym (run_on k room list (clean_after k (going.0 ++ h)) n l (drop 1 ls) f.0)
            ∙ gives,
      )

  pub turn_full : is_err r ≡ true → Ran k h s' run (Err (record { line = n })) list'
  turn_full bad =
      let st = line_step k (clean_after k (going.0 ++ h)) l in
      let f = full room list (entry k n st) list' r added_entry bad in
      subst (λ (x : Run). Ran k h s' x (Err (record { line = n })) list') (sym (run_out k room list (clean_after k (going.0 ++ h)) n l (drop 1 ls) f.0) ∙ gives) (there, f.1, refl)

-- no line is left
pub turn_over : (k : Making) (h : History) (s : State) (room : ℕ) (list : List ℕ) (n : ℕ) (ls : List (List ℕ)) (run : Run) → Going k h s room list n ls run → None ≡ slice_get ls 0 → Ran k h s run (Ok tt) list
turn_over k h s room list n ls run going none =
    subst (λ (x : Run). Ran k h s x (Ok tt) list)
    (sym (run_over k room list (clean_after k (going.0 ++ h)) n) ∙ ap (run_lines k room list (clean_after k (going.0 ++ h)) n) (sym (none_first ls none)) ∙ going.2)
    ((going.0, going.1, refl), refl, refl)

-- a script that is not too long gives what its lines give
pub of_lines : (k : Making) (h : History) (s : State) (room : ℕ) (list list' : List ℕ) (script bytes : List ℕ) (r : Result (Unit {0}) ListFull) → length script ≤ most_bytes → bytes ≡ script
    → Ran k h s (run_lines k room list (clean_after k h) 1 (lines bytes)) r list' → Ran k h s (run_script k room list (clean_after k h) script) r list'
of_lines k h s room list list' script bytes r short same =
    subst (λ (x : Run). Ran k h s x r list')
    (ap (λ (b : List ℕ). run_lines k room list (clean_after k h) 1 (lines b)) same ∙ sym (cond-true (leb (length script) most_bytes) _ _ (le-leb (length script) most_bytes short)))

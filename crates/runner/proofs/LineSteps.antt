-- What the calls for a line of a script come to.
use Rattle.std.proofs.Common.{◌≡◌, ℕ, ◌-◌, true, false, ◌&&◌, leb, List, [], ◌∷◌, ◌++◌, length, Some, None, Option, sym, refl, ap, ◌∙◌, subst, ⊎_elim}
use Rattle.std.proofs.lemmas.Bool.{le-leb, leb-true, and_from, and_parts, cases_Bool, cond-true, cond-false}
use Rattle.std.specs.List.{slice_get}
use Rattle.page.specs.Measures.{Measures}
use Rattle.page.specs.declared.row.Row.{Row}
use Rattle.listing.specs.declared.word.Word.{Word}
use Rattle.script.specs.Commands.Command.{replace, remeasure, refresh, show}
use Rattle.script.specs.Reading.{command}
use Rattle.sheet.specs.Clean.{Making, Clean, Call, Answer, Step, clean_rows, step, refuse, replace_step, remeasure_step, refresh_step, settle_step, row_step, show_by, copied}
use Rattle.sheet.specs.Clean.Answer.{accepted, refused, shown}
use Rattle.sheet.specs.Clean.Call.{row}
use Rattle.sheet.specs.Histories.{History, State, Follows, clean_after, event}
use Rattle.runner.specs.Answers.{Took}
use Rattle.runner.specs.Entries.{words}
use Rattle.runner.specs.Runs.{settled_by, settled_after, carried_out, row_room, line_step}
use Rattle.runner.proofs.Taking.{answered, further, no_call, one_call}

-- the step of a line, by its command
module _ (k : Making) (c : Clean) (line : List ℕ) where
  pub no_line : command line ≡ None → line_step k c line ≡ refuse c (16 ∷ [])
  unfolding line_step
  no_line e = ap (carried_out k c row_room) e

  pub replace_line : (at del : ℕ) (ins : List ℕ) → command line ≡ Some (replace at del ins) → line_step k c line ≡ settled_after (replace_step k c at del ins)
  unfolding line_step
  replace_line at del ins e = ap (carried_out k c row_room) e

  pub measure_line : (w : ℕ) → command line ≡ Some (remeasure w) → Measures w → line_step k c line ≡ settled_after (remeasure_step k c w)
  unfolding line_step
  measure_line w e m = ap (carried_out k c row_room) e ∙ cond-true (leb 1 w && leb w 60000) (settled_after (remeasure_step k c w)) (refuse c (6 ∷ [])) (and_from (leb 1 w) (leb w 60000) (le-leb 1 w m.0) (le-leb w 60000 m.1))

  pub no_measure_line : (w : ℕ) → command line ≡ Some (remeasure w) → (Measures w → ⊥) → line_step k c line ≡ refuse c (6 ∷ [])
  unfolding line_step
  no_measure_line w e no_such = ap (carried_out k c row_room) e ∙ cond-false (leb 1 w && leb w 60000) (settled_after (remeasure_step k c w)) (refuse c (6 ∷ []))
      (⊎_elim (λ (is : (leb 1 w && leb w 60000) ≡ true). let both = and_parts (leb 1 w) (leb w 60000) is in absurd (no_such (leb-true 1 w both.0, leb-true w 60000 both.1))) (λ is. is) (cases_Bool (leb 1 w && leb w 60000)))

  pub refresh_line : command line ≡ Some refresh → line_step k c line ≡ settled_after (refresh_step k c)
  unfolding line_step
  refresh_line e = ap (carried_out k c row_room) e

  pub show_line : (i : ℕ) → command line ≡ Some (show i) → line_step k c line ≡ row_step k c i row_room
  unfolding line_step
  show_line i e = ap (carried_out k c row_room) e

module _ (k : Making) (h : History) (s : State) (line : List ℕ) (n : ℕ) (ws : List Word) where
  by_step : (x : Step) → line_step k (clean_after k h) line ≡ x → Took k h s x n ws → Took k h s (line_step k (clean_after k h) line) n ws
  by_step x e = subst (λ (y : Step). Took k h s y n ws) (sym e)

  -- nothing is asked of the sheet
  pub refused_line : (told : List ℕ) → Follows k h s → line_step k (clean_after k h) line ≡ refuse (clean_after k h) told → ws ≡ words n 0 (refused told) → Took k h s (line_step k (clean_after k h) line) n ws
  refused_line told f e w = by_step (refuse (clean_after k h) told) e ((no_call k h s n told f).0, w)

  -- a refused change
  pub refused_change : (call : Call) (told : List ℕ) → Follows k (event call (refused told) s ∷ h) s → line_step k (clean_after k h) line ≡ settled_after (step k (clean_after k h) call) → ws ≡ words n 0 (refused told) → Took k h s (line_step k (clean_after k h) line) n ws
  refused_change call told f e w =
      let st = step k (clean_after k h) call in
      by_step st (e ∙ ap (settled_by st) (sym (answered k h s call (refused told) f))) (one_call k h s call (refused told) f n ws w)

  -- an accepted change, and its settling
  pub settled_change : (call : Call) (s₁ : State) → Follows k (event call accepted s₁ ∷ h) s₁ → line_step k (clean_after k h) line ≡ settled_after (step k (clean_after k h) call) → Took k (event call accepted s₁ ∷ h) s (settle_step (step k (clean_after k h) call).next) n ws → Took k h s (line_step k (clean_after k h) line) n ws
  settled_change call s₁ f e t =
      let st = step k (clean_after k h) call in
      by_step (settle_step st.next) (e ∙ ap (settled_by st) (sym (answered k h s₁ call accepted f))) (further k h (event call accepted s₁ ∷ []) s (settle_step st.next).next t.0, t.1)

-- two steps that differ at most in what a buffer holds
record Alike (x y : Step) : Type 0 where
  next : x.next ≡ y.next
  same_words : (n rows : ℕ) → words n rows x.answer ≡ words n rows y.answer

alike : (x x' y y' : Step) → x ≡ x' → y ≡ y' → Alike x' y' → Alike x y
alike x x' y y' p q a = record {
  next = ap (λ (s : Step). s.next) p ∙ a.next ∙ ap (λ (s : Step). s.next) (sym q);
  same_words = λ n rows. ap (λ (s : Step). words n rows s.answer) p ∙ a.same_words n rows ∙ ap (λ (s : Step). words n rows s.answer) (sym q);
}

-- what a buffer holds changes neither the clean sheet nor the words, so long as its length stays
module _ (c : Clean) (r : Row) (b : List ℕ) where
  too_short : leb (r.end - r.start) (length b) ≡ false → show_by c (Some r) b ≡ refuse c (9 ∷ [])
  too_short is = cc

  shows_it : leb (r.end - r.start) (length b) ≡ true → show_by c (Some r) b ≡ record { next = c; answer = shown r (copied c.text r b) }
  shows_it is = cc

module _ (c : Clean) (b b' : List ℕ) (long : length b ≡ length b') where
  shown_alike : (o : Option Row) → Alike (show_by c o b) (show_by c o b')
  shown_alike None = record { next = refl; same_words = λ n rows. refl }
  shown_alike (Some r) =
      let same : leb (r.end - r.start) (length b') ≡ leb (r.end - r.start) (length b) = ap (leb (r.end - r.start)) (sym long) in
      ⊎_elim
      (λ (is : leb (r.end - r.start) (length b) ≡ true). alike _ _ _ _ (shows_it c r b is) (shows_it c r b' (same ∙ is)) (record { next = refl; same_words = λ n rows. refl }))
      (λ (is : leb (r.end - r.start) (length b) ≡ false). alike _ _ _ _ (too_short c r b is) (too_short c r b' (same ∙ is)) (record { next = refl; same_words = λ n rows. refl }))
      (cases_Bool (leb (r.end - r.start) (length b)))

-- a row that is shown in any buffer of that length, or refused
pub shown_line : (k : Making) (h : History) (s : State) (line : List ℕ) (n : ℕ) (ws : List Word) (i : ℕ) (b : List ℕ) (a : Answer) → length b ≡ length row_room → Follows k (event (row i b) a s ∷ h) s → line_step k (clean_after k h) line ≡ row_step k (clean_after k h) i row_room → ws ≡ words n (length s.rows) a → Took k h s (line_step k (clean_after k h) line) n ws
shown_line k h s line n ws i b a long f e w =
    let st = row_step k (clean_after k h) i b in
    let a' = shown_alike (clean_after k h) b row_room long (slice_get (clean_rows k (clean_after k h)) i) in
    let t = one_call k h s (row i b) a f n ws w in
    by_step k h s line n ws (row_step k (clean_after k h) i row_room) e (
      subst (λ (x : Clean). (later : History) × Follows k (later ++ h) s × (clean_after k (later ++ h) ≡ x)) a'.next t.0,
      t.1 ∙ a'.same_words n (length (clean_rows k st.next)) ∙ ap (λ (x : Clean). words n (length (clean_rows k x)) (row_step k (clean_after k h) i row_room).answer) a'.next,
    )

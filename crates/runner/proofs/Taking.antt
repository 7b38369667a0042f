-- What a call of a sheet comes to in a run.
use Rattle.std.proofs.Common.{◌≡◌, ℕ, List, [], ◌∷◌, ◌++◌, length, sym, refl, ap, ◌∙◌, subst}
use Rattle.std.proofs.lemmas.List.{append_assoc}
use Rattle.listing.specs.declared.word.Word.{Word}
use Rattle.sheet.specs.Clean.{Making, Clean, Call, Answer, step}
use Rattle.sheet.specs.Clean.Answer.{refused}
use Rattle.sheet.specs.Histories.{History, State, Follows, clean_after, event}
use Rattle.runner.specs.Answers.{Took, Reaches}
use Rattle.runner.specs.Entries.{words}

module _ (k : Making) (h : History) (s' : State) (call : Call) (a : Answer) (f : Follows k (event call a s' ∷ h) s') where
  -- a call is answered as the clean sheet answers it
  pub answered : a ≡ (step k (clean_after k h) call).answer
  answered = f.agrees.0.answer

  -- one call takes the sheet a step on
  pub one_call : (n : ℕ) (ws : List Word) → ws ≡ words n (length s'.rows) a → Took k h s' (step k (clean_after k h) call) n ws
  one_call n ws w = ((event call a s' ∷ [], f, refl), w ∙ (λ i. words n (length (f.rows i)) (answered i)))

-- nothing is asked of the sheet
pub no_call : (k : Making) (h : History) (s : State) (n : ℕ) (told : List ℕ) → Follows k h s → Took k h s (record { next = clean_after k h; answer = refused told }) n (words n 0 (refused told))
no_call k h s n told f = (([], f, refl), refl)

-- what is reached from where calls have led is reached from where they began
pub further : (k : Making) (h earlier : History) (s : State) (c : Clean) → Reaches k (earlier ++ h) s c → Reaches k h s c
further k h earlier s c r =
    let same : (r.0 ++ earlier) ++ h ≡ r.0 ++ (earlier ++ h) = append_assoc r.0 earlier h in
    (r.0 ++ earlier, subst (λ (x : History). Follows k x s) (sym same) r.1, ap (clean_after k) same ∙ r.2)

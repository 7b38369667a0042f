-- The leading rows that an edit keeps are shown as before.
use Rattle.std.proofs.Common.{◌≡◌, ℕ, ◌+◌, ◌≤◌, true, cond, ◌&&◌, eqb, leb, List, [], ◌∷◌, length, take, sym, refl, ap, ◌∙◌, one-add}
use Rattle.std.proofs.lemmas.Bool.{and_parts, eqb-true, leb-true, cond_both}
use Rattle.metrics.specs.Meaning.{Meaning}
use Rattle.page.specs.Endings.{letter_of}
use Rattle.page.specs.Texts.{part}
use Rattle.page.specs.declared.ending.Ending.{Ending}
use Rattle.page.specs.declared.ending.Ending.TheVariants.{Wrapped, Cut, Newline, End}
use Rattle.page.specs.declared.row.Row.{Row}
use Rattle.page.specs.Texts.{edited}
use Rattle.reflow.specs.Repaints.{kept, front}
use Rattle.reflow.specs.Screens.{Shown, shown, painted}
use Rattle.reflow.proofs.ScreenParts.{part_before, shown_alike}

-- the ending that a letter stands for
abbrev ending_of : ℕ → Ending
ending_of n = cond (eqb n 87) Wrapped (cond (eqb n 67) Cut (cond (eqb n 78) Newline End))

ending_of_letter : (g : Ending) → ending_of (letter_of g) ≡ g
ending_of_letter Wrapped = refl
ending_of_letter Cut = refl
ending_of_letter Newline = refl
ending_of_letter End = refl

same_ending : (g g' : Ending) → letter_of g ≡ letter_of g' → g ≡ g'
same_ending g g' e = sym (ending_of_letter g) ∙ ap ending_of e ∙ ending_of_letter g'

record Kept (at : ℕ) (r r' : Row) : Type 0 where
  starts : r.start ≡ r'.start
  ends : r.end ≡ r'.end
  ending : r.ending ≡ r'.ending
  before : r.end ≤ at

kept_parts : (at : ℕ) (r r' : Row) → kept at r r' ≡ true → Kept at r r'
kept_parts at r r' k =
    let a = and_parts (eqb r.start r'.start) (eqb r.end r'.end && (eqb (letter_of r.ending) (letter_of r'.ending) && leb r.end at)) k in
    let b = and_parts (eqb r.end r'.end) (eqb (letter_of r.ending) (letter_of r'.ending) && leb r.end at) a.1 in
    let c = and_parts (eqb (letter_of r.ending) (letter_of r'.ending)) (leb r.end at) b.1 in
    record {
      starts = eqb-true r.start r'.start a.0;
      ends = eqb-true r.end r'.end b.0;
      ending = same_ending r.ending r'.ending (eqb-true (letter_of r.ending) (letter_of r'.ending) c.0);
      before = leb-true r.end at c.1;
    }

module _ (m : Meaning) (t ins : List ℕ) (at del : ℕ) (within : at + del ≤ length t) where
  kept_shown : (r r' : Row) → kept at r r' ≡ true → shown m t r ≡ shown m (edited t at del ins) r'
  kept_shown r r' e =
      let k = kept_parts at r r' e in
      shown_alike m t (edited t at del ins) r r'
      (part_before t ins at del within r.start r.end k.before
      ∙ ap (λ (s : ℕ). part (edited t at del ins) s r.end) k.starts
      ∙ ap (part (edited t at del ins) r'.start) k.ends)
      k.ending

  pub front_shown : (old new : List Row) → take (front at old new) (painted m t old) ≡ take (front at old new) (painted m (edited t at del ins) new)
  front_shown [] new = refl
  front_shown (r ∷ rs) [] = refl
  front_shown (r ∷ rs) (r' ∷ rs') =
      let n = front at rs rs' in
      let h = front_shown rs rs' in
      cond_both (kept at r r') (1 + n) 0 (λ (k : ℕ). take k (painted m t (r ∷ rs)) ≡ take k (painted m (edited t at del ins) (r' ∷ rs')))
      (λ e. rw (one-add n) (ap (λ (x : Shown). x ∷ take n (painted m t rs)) (kept_shown r r' e) ∙ ap (λ (xs : List Shown). shown m (edited t at del ins) r' ∷ xs) h))
      (λ e. refl)

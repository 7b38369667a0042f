-- Reading line by line is reading all lines.
use Rattle.std.proofs.Common.{◌≡◌, ℕ, zero, suc, ◌+◌, ◌-◌, ◌<◌, ◌≤◌, min, true, false, cond, eqb, List, [], ◌∷◌, length, Ok, Err, Result, sym, refl, ap, ◌∙◌, arith, length-drop}
use Rattle.std.proofs.lemmas.Bool.{cond-true, cond-false, eq-eqb, ne_eqb}
use Rattle.afm.specs.Lines.{line_length, first_line, past_line, lines_in, lines}
use Rattle.afm.specs.Parts.{Part}
use Rattle.afm.specs.Reading.{Outcome, outcome, is_ended, read_lines}
use Rattle.afm.specs.Steps.{Progress, after, answer, line_step}
use Rattle.afm.specs.declared.fault.AfmFault.TheVariants.{At, Over}
use Rattle.afm.specs.declared.fault.LineFault.{LineFault}

-- ---- lines
pub length-past-line : (p : Part) → length (past_line p).text ≡ length p.text - min (line_length p + 1) (length p.text)
unfolding past_line
length-past-line p = length-drop _ p.text

lines_in_enough : (k m : ℕ) (p : Part) → length p.text ≤ k → length p.text ≤ m → lines_in k p ≡ lines_in m p
unfolding lines_in
lines_in_enough zero zero p h i = refl
lines_in_enough zero (suc m) p h i = sym (cond-true _ _ _ (eq-eqb (length p.text) 0 (omega arith)))
lines_in_enough (suc k) zero p h i = cond-true _ _ _ (eq-eqb (length p.text) 0 (omega arith))
lines_in_enough (suc k) (suc m) p h i =
    let e = length-past-line p in
    ap (λ ls. cond (eqb (length p.text) 0) [] (first_line p ∷ ls)) (lines_in_enough k m (past_line p) (omega arith) (omega arith))

pub lines_none : (p : Part) → length p.text ≡ 0 → lines p ≡ []
unfolding lines lines_in
lines_none p h = ap (λ n. lines_in n p) h

pub lines_more : (p : Part) → 0 < length p.text → lines p ≡ first_line p ∷ lines (past_line p)
unfolding lines lines_in
lines_more p h =
    let e = length-past-line p in
    lines_in_enough (length p.text) (suc (length p.text)) p (omega arith) (omega arith)
    ∙ cond-false _ _ _ (ne_eqb (length p.text) 0 (λ e0. omega arith))
    ∙ ap (λ ls. first_line p ∷ ls) (lines_in_enough (length p.text) (length (past_line p).text) (past_line p) (omega arith) (omega arith))

-- ---- steps
ok_after : {X E : Type 0} (x : X) (s : Result X E) → Ok tt ≡ answer s → s ≡ Ok (after x s)
ok_after x (Ok y) e = refl
ok_after x (Err f) e = let z : ◌≡◌ {A = ℕ} 0 1 = cc in absurd (omega arith)

err_after : {X E : Type 0} (x : X) (f : E) (s : Result X E) → Err f ≡ answer s → (s ≡ Err f) × (after x s ≡ x)
err_after x f (Ok y) e = let z : ◌≡◌ {A = ℕ} 0 1 = cc in absurd (omega arith)
err_after x f (Err g) e = (cc, refl)

module _ (file : List ℕ) (p : Progress) (n : ℕ) where
  pub read_ended : (ls : List Part) → is_ended p.at.section ≡ true → read_lines file p n ls ≡ outcome p (Ok tt)
  unfolding read_lines
  read_ended [] e = cond-true _ _ _ e
  read_ended (l ∷ ls) e = cond-true _ _ _ e

  module _ (on : is_ended p.at.section ≡ false) where
    pub read_over : (rest : Part) → length rest.text ≡ 0 → read_lines file p n (lines rest) ≡ outcome p (Err (Over n))
    unfolding read_lines
    read_over rest e = ap (read_lines file p n) (lines_none rest e) ∙ cond-false _ _ _ on

    module _ (rest l : Part) (some : 0 < length rest.text) (el : l ≡ first_line rest) where
      here : read_lines file p n (lines rest) ≡ read_lines file p n (l ∷ lines (past_line rest))
      here = ap (read_lines file p n) (lines_more rest some ∙ ap (λ k. k ∷ lines (past_line rest)) (sym el))

      pub read_on : (q : Progress) → Ok tt ≡ answer (line_step file p l) → q ≡ after p (line_step file p l) → read_lines file p n (lines rest) ≡ read_lines file q (n + 1) (lines (past_line rest))
      unfolding read_lines
      read_on q ok eq =
          here ∙ cond-false _ _ _ on
          ∙ ap (λ (s : Result Progress LineFault). elim s as (λ _. Outcome) [ Ok r ↦ read_lines file r (n + 1) (lines (past_line rest)) | Err f ↦ outcome p (Err (At n f)) ]) (ok_after p (line_step file p l) ok ∙ ap Ok (sym eq))

      pub read_refused : (q : Progress) (f : LineFault) → Err f ≡ answer (line_step file p l) → q ≡ after p (line_step file p l) → read_lines file p n (lines rest) ≡ outcome q (Err (At n f))
      unfolding read_lines
      read_refused q f err eq =
          here ∙ cond-false _ _ _ on
          ∙ ap (λ (s : Result Progress LineFault). elim s as (λ _. Outcome) [ Ok r ↦ read_lines file r (n + 1) (lines (past_line rest)) | Err g ↦ outcome p (Err (At n g)) ]) (err_after p f (line_step file p l) err).0
          ∙ ap (λ r. outcome r (Err (At n f))) (sym (eq ∙ (err_after p f (line_step file p l) err).1))

-- The steps of laying, behind the rows that are laid already.
use Rattle.std.proofs.Common.{◌≡◌, ℕ, zero, suc, ◌+◌, ◌-◌, ◌%◌, ◌^◌, ◌<◌, ◌≤◌, min, List, [], ◌∷◌, ◌++◌, length, Some, None, Ok, Err, Result, sym, refl, ap, ◌∙◌, append_assoc, append-nil, add-zero, arith}
use Rattle.std.proofs.lemmas.List.{length_push}
use Rattle.metrics.specs.Meaning.{Meaning}
use Rattle.layout.specs.Layouts.{Laid, laid_from, over, then_laid, broken_for}
use Rattle.page.specs.Policies.{Rules}
use Rattle.page.specs.Rows.{following}
use Rattle.layout.specs.Scans.{row_from}
use Rattle.layout.specs.declared.cover.Uncovered.{Uncovered}
use Rattle.layout.specs.declared.laying.LayFault.{LayFault}
use Rattle.layout.specs.declared.laying.LayFault.TheVariants.{NoGlyph, TooManyRows}
use Rattle.page.specs.declared.row.Row.{Row}
use Rattle.layout.proofs.Turns.{laid_full, laid_missing, laid_last, laid_on}

-- a layout behind rows that are laid already
abbrev pub behind : List Row → Laid → Laid
behind rs l = record { rows = rs ++ l.rows; answer = l.answer }

-- one row more behind those that are laid
pub behind_then : (rs : List Row) (r : Row) (l : Laid) → behind rs (then_laid r l) ≡ behind (rs ++ r ∷ []) l
behind_then rs r l = ap (λ (x : List Row). record { rows = x; answer = l.answer }) (sym (append_assoc rs (r ∷ []) l.rows))

-- how a layout came out, part by part
pub record Ended (L : Laid) (a : Result (Unit {0}) LayFault) (rs : List Row) (n : ℕ) : Type 0 where
  pub answer : L.answer ≡ a
  pub rows : L.rows ≡ rs
  pub broken : broken_for L ≡ n

-- what is known while a layout goes on: `done` is laid, and `start` comes next
module _ (m : Meaning) (P : Rules) (w : ℕ) (t : List ℕ) (whole : ℕ) (done : List Row) (start : ℕ) (L : Laid)
    (so_far : behind done (laid_from m P w t (whole - length done) start) ≡ L) where
  -- the same where there is room for one more
  with_room : length done < whole → behind done (laid_from m P w t (suc (whole - length done - 1)) start) ≡ L
  with_room h =
      let e : suc (whole - length done - 1) ≡ whole - length done = omega arith in
      ap (λ (k : ℕ). behind done (laid_from m P w t k start)) e ∙ so_far

  pub stopped_at_missing : (u : Uncovered) → length done < whole → row_from m P w t start ≡ Err u → Ended L (Err (NoGlyph u)) done (length done + 1)
  stopped_at_missing u h e =
      let is : L ≡ behind done (over (NoGlyph u)) = sym (with_room h) ∙ ap (behind done) (laid_missing m P w t (whole - length done - 1) start u e) in
      record {
        answer = ap (λ (l : Laid). l.answer) is;
        rows = ap (λ (l : Laid). l.rows) is ∙ append-nil done;
        broken = ap broken_for is ∙ ap (λ (x : List Row). length x + 1) (append-nil done);
      }

  pub stopped_at_end : (r : Row) → length done < whole → row_from m P w t start ≡ Ok r → following r ≡ None → Ended L (Ok tt) (done ++ r ∷ []) (length done + 1)
  stopped_at_end r h e n =
      let is : L ≡ behind done (record { rows = r ∷ []; answer = Ok tt }) = sym (with_room h) ∙ ap (behind done) (laid_last m P w t (whole - length done - 1) start r e n) in
      record {
        answer = ap (λ (l : Laid). l.answer) is;
        rows = ap (λ (l : Laid). l.rows) is;
        broken = ap broken_for is ∙ (simp length_push (omega arith));
      }

  pub goes_on : (r : Row) (s' : ℕ) → length done < whole → row_from m P w t start ≡ Ok r → following r ≡ Some s'
      → behind (done ++ r ∷ []) (laid_from m P w t (whole - length (done ++ r ∷ [])) s') ≡ L
  goes_on r s' h e n =
      let left : whole - length done - 1 ≡ whole - length (done ++ r ∷ []) = simp length_push (omega arith) in
      sym (behind_then done r (laid_from m P w t (whole - length (done ++ r ∷ [])) s'))
      ∙ ap (λ (k : ℕ). behind done (then_laid r (laid_from m P w t k s'))) (sym left)
      ∙ sym (ap (behind done) (laid_on m P w t (whole - length done - 1) start s' r e n))
      ∙ with_room h

  pub stopped_full : whole ≤ length done → Ended L (Err TooManyRows) done (length done)
  stopped_full h =
      let none : whole - length done ≡ 0 = omega arith in
      let is : L ≡ behind done (over TooManyRows) = sym so_far ∙ ap (λ (k : ℕ). behind done (laid_from m P w t k start)) none ∙ ap (behind done) (laid_full m P w t start) in
      record {
        answer = ap (λ (l : Laid). l.answer) is;
        rows = ap (λ (l : Laid). l.rows) is ∙ append-nil done;
        broken = ap broken_for is ∙ ap (λ (x : List Row). length x + 0) (append-nil done) ∙ add-zero (length done);
      }

-- one row more on the tally
pub counted_more : (e a b n : ℕ) → (n ≡ 0 → a ≡ e) → (0 < n → a ≡ (e + n) % 2 ^ 64) → b ≡ (a + 1) % 2 ^ 64 → b ≡ (e + (n + 1)) % 2 ^ 64
counted_more e a b zero first later step = let h : a ≡ e = first refl in omega arith
counted_more e a b (suc n) first later step = let h : a ≡ (e + suc n) % 2 ^ 64 = later (omega arith) in omega arith

-- a start within the text is not cut to its end
pub broke_at : {X : Type 0} (s n : ℕ) → s ≤ n → (F : ℕ → X) → F s ≡ F (min s n)
broke_at s n h F = let e : s ≡ min s n = omega arith in ap F e

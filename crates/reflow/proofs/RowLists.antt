-- Lists of rows by first fit: how long they are, where their rows start, and which of them reach a
-- place.
use Rattle.std.proofs.Common.{◌≡◌, ℕ, zero, suc, ◌+◌, ◌<◌, ◌≤◌, Bool, true, false, not, ◌&&◌, leb, List, [], ◌∷◌, length, get_or, take, drop, sym, subst, inl, inr, one-add, arith}
use Rattle.std.proofs.lemmas.Bool.{cases_Bool, leb-true, lt-leb, and_left, not_from_false}
use Rattle.std.specs.List.{prefix_len}
use Rattle.metrics.specs.Meaning.{Meaning}
use Rattle.page.specs.Policies.{Rules}
use Rattle.page.specs.declared.row.Row.{Row}
use Rattle.layout.specs.FirstFit.{RowFrom, RowsFrom}
use Rattle.layout.specs.FirstFit.RowsFrom.{end, more}
use Rattle.layout.specs.Theorems.{ReachWithin}
use Rattle.layout.proofs.Following.{placed}
use Rattle.reflow.proofs.Reaching.{reached}

-- a row that reaches at most to a place, and the number of leading rows that do
abbrev pub short : ℕ → Row → Bool
short at r = leb r.reach at

abbrev pub short_of : ℕ → List Row → ℕ
short_of at rs = prefix_len (short at) rs

-- a test of the first element
pub leading_yes : (p : Row → Bool) (r : Row) (rs : List Row) → p r ≡ true → prefix_len p (r ∷ rs) ≡ suc (prefix_len p rs)
leading_yes p r rs e = rw (e, one-add)

pub leading_no : (p : Row → Bool) (r : Row) (rs : List Row) → p r ≡ false → prefix_len p (r ∷ rs) ≡ 0
leading_no p r rs e = rw e

pub short_within : (at : ℕ) (rs : List Row) → ReachWithin at (take (short_of at rs) rs)
short_within at [] = tt
short_within at (r ∷ rs) = elim (cases_Bool (short at r)) [
  | inl b ↦ rw (leading_yes (short at) r rs b) (leb-true r.reach at b, short_within at rs)
  | inr b ↦ rw (leading_no (short at) r rs b) tt
]

module _ (m : Meaning) (P : Rules) (w : ℕ) where
  pub rows_within : (t : List ℕ) {s : ℕ} {rs : List Row} → RowsFrom m P w t s rs → s ≤ length t
  rows_within t (end {s = s} {r = r} x n) = (placed m P w t s r x).within
  rows_within t (more {s = s} {r = r} s' x n y) = (placed m P w t s r x).within

  -- each row passes at least one place
  pub rows_bound : (t : List ℕ) {s : ℕ} {rs : List Row} → RowsFrom m P w t s rs → s + length rs ≤ suc (length t)
  rows_bound t (end {s = s} {r = r} x n) = omega (arith, (placed m P w t s r x).within)
  rows_bound t (more {s = s} {r = r} s' x n y) = let l = (placed m P w t s r x).on s' n in omega (arith, rows_bound t y)

  -- the rows from row j on are those from its start on
  pub rows_later : (t : List ℕ) {s : ℕ} {rs : List Row} → RowsFrom m P w t s rs → (j : ℕ) (d : Row) → j < length rs → RowsFrom m P w t (get_or rs j d).start (drop j rs)
  rows_later t (end {s = s} {r = r} x n) zero d h = subst (λ (i : ℕ). RowsFrom m P w t i (r ∷ [])) (sym (placed m P w t s r x).starts) (end x n)
  rows_later t (end {s = s} {r = r} x n) (suc j) d h = absurd (omega arith)
  rows_later t (more {s = s} {r = r} {rs = rs} s' x n y) zero d h = subst (λ (i : ℕ). RowsFrom m P w t i (r ∷ rs)) (sym (placed m P w t s r x).starts) (more s' x n y)
  rows_later t (more {s = s} {r = r} s' x n y) (suc j) d h = rows_later t y j d (omega arith)

  -- no row starts before the first
  pub rows_start : (t : List ℕ) {s : ℕ} {rs : List Row} → RowsFrom m P w t s rs → (j : ℕ) (d : Row) → j < length rs → s ≤ (get_or rs j d).start
  rows_start t (end {s = s} {r = r} x n) zero d h = omega (arith, (placed m P w t s r x).starts)
  rows_start t (end {s = s} {r = r} x n) (suc j) d h = absurd (omega arith)
  rows_start t (more {s = s} {r = r} s' x n y) zero d h = omega (arith, (placed m P w t s r x).starts)
  rows_start t (more {s = s} {r = r} s' x n y) (suc j) d h =
      let l = (placed m P w t s r x).on s' n in omega (arith, rows_start t y j d (omega arith))

  pub rows_ascend : (t : List ℕ) {s : ℕ} {rs : List Row} → RowsFrom m P w t s rs → (j k : ℕ) (d : Row) → j < k → k < length rs → (get_or rs j d).start < (get_or rs k d).start
  rows_ascend t (end x n) j k d g h = absurd (omega arith)
  rows_ascend t (more x' x n y) j zero d g h = absurd (omega arith)
  rows_ascend t (more {s = s} {r = r} s' x n y) zero (suc k) d g h =
      let l = (placed m P w t s r x).on s' n in
      omega (arith, (placed m P w t s r x).starts, rows_start t y k d (omega arith))
  rows_ascend t (more x' x n y) (suc j) (suc k) d g h = rows_ascend t y j k d (omega arith) (omega arith)

  -- some row reaches past each place of the text
  pub some_reaches : (t : List ℕ) (at : ℕ) {s : ℕ} {rs : List Row} → RowsFrom m P w t s rs → at ≤ length t → short_of at rs < length rs
  some_reaches t at (end {s = s} {r = r} x n) h =
      let l = (reached m P w t s r x).last n in
      let e = leading_no (short at) r [] (lt-leb r.reach at (omega arith)) in omega arith
  some_reaches t at (more {s = s} {r = r} {rs = rs} s' x n y) h = elim (cases_Bool (short at r)) [
    | inl b ↦
        let e = leading_yes (short at) r rs b in
        let l = some_reaches t at y h in omega arith
    | inr b ↦ let e = leading_no (short at) r rs b in omega arith
  ]

  -- the first that does starts at the place or before
  pub reaching_start : (t : List ℕ) (at : ℕ) {s : ℕ} {rs : List Row} → RowsFrom m P w t s rs → s ≤ at → (d : Row) → short_of at rs < length rs → (get_or rs (short_of at rs) d).start ≤ at
  reaching_start t at (end {s = s} {r = r} x n) h d l = elim (cases_Bool (short at r)) [
    | inl b ↦ let e = leading_yes (short at) r [] b in absurd (omega arith)
    | inr b ↦ rw (leading_no (short at) r [] b) (omega (arith, (placed m P w t s r x).starts))
  ]
  reaching_start t at (more {s = s} {r = r} {rs = rs} s' x n y) h d l = elim (cases_Bool (short at r)) [
    | inl b ↦
        let e = leading_yes (short at) r rs b in
        let f = leb-true r.reach at b in
        let g = (reached m P w t s r x).next s' n in
        rw e (reaching_start t at y (omega arith) d (omega arith))
    | inr b ↦ rw (leading_no (short at) r rs b) (omega (arith, (placed m P w t s r x).starts))
  ]

  -- a row that reaches at most to a place starts before it, so not at b or later
  starts_before : (t : List ℕ) (at b s : ℕ) (X : Row → Bool) (r : Row) → at ≤ b → RowFrom m P w t s r → r.reach ≤ at → not (leb b r.start && X r) ≡ true
  starts_before t at b s X r a x k =
      let g = (reached m P w t s r x).past in
      let c : r.start < b = omega (arith, (placed m P w t s r x).starts) in
      not_from_false (leb b r.start && X r) (and_left (leb b r.start) (X r) (lt-leb b r.start c))

  pub none_starts : (t : List ℕ) (at b : ℕ) (X : Row → Bool) → at ≤ b → (n : ℕ) {s : ℕ} {rs : List Row} → RowsFrom m P w t s rs → ReachWithin at (take n rs) → n ≤ length rs
      → n ≤ prefix_len (λ (r : Row). not (leb b r.start && X r)) rs
  none_starts t at b X a zero y k l = omega arith
  none_starts t at b X a (suc n) (end {s = s} {r = r} x o) k l =
      let e = leading_yes (λ (r : Row). not (leb b r.start && X r)) r [] (starts_before t at b s X r a x k.0) in omega arith
  none_starts t at b X a (suc n) (more {s = s} {r = r} {rs = rs} s' x o y) k l =
      let e = leading_yes (λ (r : Row). not (leb b r.start && X r)) r rs (starts_before t at b s X r a x k.0) in
      let h = none_starts t at b X a n y k.1 (omega arith) in omega arith

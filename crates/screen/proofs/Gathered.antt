-- Rows that are painted one after another.
use Rattle.std.proofs.Common.{◌≡◌, ℕ, ◌+◌, ◌-◌, ◌^◌, ◌<◌, ◌≤◌, min, List, [], ◌∷◌, ◌++◌, map, length, get_or, take, drop, Some, None, sym, ap, ◌∙◌, inl, inr, arith, length-drop}
use Rattle.std.proofs.lemmas.List.{get_or-drop, map_push, take_all, take_more}
use Rattle.std.proofs.lemmas.Option.{slice_get-get_or, slice_get_past}
use Rattle.std.proofs.lemmas.Bool.{cases_lt}
use Rattle.std.specs.List.{slice_get}
use Rattle.reflow.specs.Screens.{Shown}
use Rattle.screen.specs.Views.{shown_row}
use Rattle.screen.specs.declared.shown_row.ShownRow.{ShownRow}

slice_get-within : {X : Type 0} (xs : List X) (i : ℕ) (x : X) → slice_get xs i ≡ Some x → i < length xs
slice_get-within xs i x e = elim (cases_lt i (length xs)) [
  | inl l ↦ l
  | inr l ↦ let z : ◌≡◌ {A = ℕ} 0 1 = cc (slice_get_past xs i l) in absurd (omega arith)
]

slice_get-none : {X : Type 0} (xs : List X) (i : ℕ) (d : X) → slice_get xs i ≡ None → length xs ≤ i
slice_get-none xs i d e = elim (cases_lt i (length xs)) [
  | inl l ↦ let z : ◌≡◌ {A = ℕ} 0 1 = cc (slice_get-get_or xs i d l) in absurd (omega arith)
  | inr l ↦ l
]

-- of all rows, those from `from` on
module _ (all : List Shown) (from : ℕ) where
  pub row_more : (i : ℕ) (done : List ShownRow) (r : ShownRow) → from ≤ i → map shown_row done ≡ take (i - from) (drop from all) → Some (shown_row r) ≡ slice_get all i
      → map shown_row (done ++ r ∷ []) ≡ take (i + 1 - from) (drop from all)
  row_more i done r l so there =
      let x = shown_row r in
      let within = slice_get-within all i x (sym there) in
      let inside : i - from < length (drop from all) = rw length-drop (omega arith) in
      let place : from + (i - from) ≡ i = omega arith in
      let next : i - from + 1 ≡ i + 1 - from = omega arith in
      let it : get_or (drop from all) (i - from) x ≡ x = get_or-drop from all (i - from) x ∙ ap (λ (j : ℕ). get_or all j x) place ∙ cc (slice_get-get_or all i x within) in
      map_push shown_row done r
      ∙ ap (λ (xs : List Shown). xs ++ x ∷ []) so
      ∙ ap (λ (y : Shown). take (i - from) (drop from all) ++ y ∷ []) (sym it)
      ∙ sym (take_more (drop from all) (i - from) x inside)
      ∙ ap (λ (j : ℕ). take j (drop from all)) next

  -- there is no row after those
  pub rows_end : (i put : ℕ) (d : Shown) → i - from ≤ put → None ≡ slice_get all i → take (i - from) (drop from all) ≡ take put (drop from all)
  rows_end i put d l none =
      let short = slice_get-none all i d (sym none) in
      take_all (i - from) (drop from all) (rw length-drop (omega arith)) ∙ sym (take_all put (drop from all) (rw length-drop (omega arith)))

  -- as many as were asked for; a sum that is cut lies beyond all rows
  pub rows_all : (i put : ℕ) → from < 2 ^ 64 → length all ≤ 1024 → i ≡ min (from + put) (2 ^ 64 - 1) → take (i - from) (drop from all) ≡ take put (drop from all)
  rows_all i put fits few is = elim (cases_lt (from + put) (2 ^ 64)) [
    | inl l ↦ let same : i - from ≡ put = omega arith in ap (λ (j : ℕ). take j (drop from all)) same
    | inr l ↦ take_all (i - from) (drop from all) (rw length-drop (omega arith)) ∙ sym (take_all put (drop from all) (rw length-drop (omega arith)))
  ]

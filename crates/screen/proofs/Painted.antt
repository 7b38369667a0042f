-- What a sheet answers of a row, and the row as the clean sheet shows it.
use Rattle.std.proofs.Common.{◌≡◌, ℕ, zero, suc, ◌+◌, ◌-◌, ◌≤◌, min, List, [], ◌∷◌, map, length, take, drop, Some, None, Option, sym, refl, ap, ◌∙◌, inl, inr, arith, length-drop, length-take, le-leb}
use borrow.Author.Tests.{lt-leb}
use Rattle.std.proofs.lemmas.List.{take_at}
use Rattle.std.proofs.lemmas.Bool.{cases_lt}
use Rattle.std.specs.List.{slice_get}
use Rattle.std.specs.Option.{option_map}
use Rattle.metrics.specs.Meaning.{Meaning}
use Rattle.page.specs.Texts.{part, most_characters}
use Rattle.page.specs.declared.row.Row.{Row}
use Rattle.layout.specs.Widths.{edges_from}
use Rattle.reflow.specs.Screens.{shown as shown_of}
use Rattle.sheet.specs.Clean.{Making, Clean, clean_rows, show_by, copied}
use Rattle.sheet.specs.Clean.Answer.{refused, shown}
use Rattle.sheet.specs.Edges.{edges_by, measured}
use Rattle.sheet.specs.Histories.{History, State, Follows, clean_after, clean_screen}
use Rattle.sheet.proofs.Showing.{Inside, inside_clean}

-- a row that was shown
module _ (c : Clean) (b : List ℕ) where
  row_found : (o : Option Row) (r : Row) (b' : List ℕ) → shown r b' ≡ (show_by c o b).answer → (o ≡ Some r) × (b' ≡ copied c.text r b)
  row_found None r b' e = let z : ◌≡◌ {A = ℕ} 0 1 = cc in absurd (omega arith)
  row_found (Some x) r b' e = elim (cases_lt (length b) (x.end - x.start)) [
    | inl l ↦ let z : ◌≡◌ {A = ℕ} 0 1 = cc (lt-leb (x.end - x.start) (length b) l) in absurd (omega arith)
    | inr l ↦
        let t = le-leb (x.end - x.start) (length b) l in
        let same : x ≡ r = cc in
        let holds : b' ≡ copied c.text x b = cc in
        (ap Some same, holds ∙ ap (λ (y : Row). copied c.text y b) same)
  ]

  -- and one that was not, though there was room for it
  row_lacking : (o : Option Row) (told : List ℕ) → refused told ≡ (show_by c o b).answer → ((r : Row) → o ≡ Some r → r.end - r.start ≤ length b) → o ≡ None
  row_lacking None told e room = refl
  row_lacking (Some x) told e room = let z : ◌≡◌ {A = ℕ} 0 1 = cc (le-leb (x.end - x.start) (length b) (room x refl)) in absurd (omega arith)

-- the same of its edges
module _ (k : Making) (c : Clean) (b : List ℕ) where
  edges_found : (o : Option Row) (r : Row) (b' : List ℕ) → shown r b' ≡ edges_by k c o b → (o ≡ Some r) × (b' ≡ measured k.meaning c.text r b)
  edges_found None r b' e = let z : ◌≡◌ {A = ℕ} 0 1 = cc in absurd (omega arith)
  edges_found (Some x) r b' e = elim (cases_lt (length b) (x.end - x.start)) [
    | inl l ↦ let z : ◌≡◌ {A = ℕ} 0 1 = cc (lt-leb (x.end - x.start) (length b) l) in absurd (omega arith)
    | inr l ↦
        let t = le-leb (x.end - x.start) (length b) l in
        let same : x ≡ r = cc in
        let holds : b' ≡ measured k.meaning c.text x b = cc in
        (ap Some same, holds ∙ ap (λ (y : Row). measured k.meaning c.text y b) same)
  ]

  edges_lacking : (o : Option Row) (told : List ℕ) → refused told ≡ edges_by k c o b → ((r : Row) → o ≡ Some r → r.end - r.start ≤ length b) → o ≡ None
  edges_lacking None told e room = refl
  edges_lacking (Some x) told e room = let z : ◌≡◌ {A = ℕ} 0 1 = cc (le-leb (x.end - x.start) (length b) (room x refl)) in absurd (omega arith)

slice_get-map : {X Y : Type 0} (f : X → Y) (xs : List X) (i : ℕ) → slice_get (map f xs) i ≡ option_map f (slice_get xs i)
slice_get-map f [] zero = refl
slice_get-map f [] (suc i) = refl
slice_get-map f (x ∷ xs) zero = refl
slice_get-map f (x ∷ xs) (suc i) = slice_get-map f xs i

length-edges : (m : Meaning) (e : ℕ) (p : Option ℕ) (cs : List ℕ) → length (edges_from m e p cs) ≡ length cs
length-edges m e p [] = refl
length-edges m e p (c ∷ cs) = ap suc (length-edges m (e + m.adv p c) (Some c) cs)

module _ (k : Making) (h : History) (s : State) (f : Follows k h s) (i : ℕ) where
  -- the row, where the clean sheet has it
  at_screen : (o : Option Row) → slice_get (clean_rows k (clean_after k h)) i ≡ o → slice_get (clean_screen k (clean_after k h)) i ≡ option_map (shown_of k.meaning (clean_after k h).text) o
  at_screen o e = slice_get-map (shown_of k.meaning (clean_after k h).text) (clean_rows k (clean_after k h)) i ∙ ap (option_map (shown_of k.meaning (clean_after k h).text)) e

  lies : (r : Row) → slice_get (clean_rows k (clean_after k h)) i ≡ Some r → Inside (clean_after k h).text r
  lies r e = inside_clean k (clean_after k h) f.covered i r e

  roomy : (b : List ℕ) → most_characters ≤ length b → (r : Row) → slice_get (clean_rows k (clean_after k h)) i ≡ Some r → r.end - r.start ≤ length b
  roomy b n r e = omega (arith, (lies r e).within, f.few)

  pub none_there : (b : List ℕ) (told : List ℕ) → most_characters ≤ length b → refused told ≡ (show_by (clean_after k h) (slice_get (clean_rows k (clean_after k h)) i) b).answer → None ≡ slice_get (clean_screen k (clean_after k h)) i
  none_there b told n e = sym (at_screen None (row_lacking (clean_after k h) b (slice_get (clean_rows k (clean_after k h)) i) told e (roomy b n)))

  pub none_measured : (b : List ℕ) (told : List ℕ) → most_characters ≤ length b → refused told ≡ edges_by k (clean_after k h) (slice_get (clean_rows k (clean_after k h)) i) b → None ≡ slice_get (clean_screen k (clean_after k h)) i
  none_measured b told n e = sym (at_screen None (edges_lacking k (clean_after k h) b (slice_get (clean_rows k (clean_after k h)) i) told e (roomy b n)))

  -- the characters and the edges that were written, as many as the row has
  pub painted_row : (b b' e e' : List ℕ) (r r' : Row) (n : ℕ)
      → shown r b' ≡ (show_by (clean_after k h) (slice_get (clean_rows k (clean_after k h)) i) b).answer
      → shown r' e' ≡ edges_by k (clean_after k h) (slice_get (clean_rows k (clean_after k h)) i) e
      → n ≡ min (r.end - r.start) most_characters
      → Some (record { chars = take n b'; edges = take n e'; ending = r.ending }) ≡ slice_get (clean_screen k (clean_after k h)) i
  painted_row b b' e e' r r' n shows tells is =
      let c = clean_after k h in
      let m = k.meaning in
      let t = c.text in
      let o = slice_get (clean_rows k c) i in
      let row = row_found c b o r b' shows in
      let edges = edges_found k c e o r' e' tells in
      let same : r' ≡ r = cc in
      let inside = lies r row.0 in
      let cs = part t r.start r.end in
      let whole : n ≡ r.end - r.start = omega (arith, inside.within, f.few) in
      let long : length cs ≡ n = simp (length-take, length-drop) (omega (arith, inside.within, inside.forward)) in
      let chars : take n b' ≡ cs = ap (take n) row.1 ∙ take_at cs (drop (r.end - r.start) b) n long in
      let behind : take n e' ≡ edges_from m 0 None cs = ap (take n) (edges.1 ∙ ap (λ (y : Row). measured m t y e) same) ∙ take_at (edges_from m 0 None cs) (drop (r.end - r.start) e) n (length-edges m 0 None cs ∙ long) in
      (λ j. Some (record { chars = chars j; edges = behind j; ending = r.ending })) ∙ sym (at_screen (Some r) row.0)

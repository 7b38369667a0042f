-- What an edit leaves of a text's parts, and rows that show the same.
use Rattle.std.proofs.Common.{◌≡◌, ℕ, ◌+◌, ◌-◌, ◌≤◌, List, ◌++◌, length, take, drop, sym, refl, ap, ◌∙◌, inl, inr, arith}
use Rattle.std.proofs.lemmas.List.{length-take-le, length-drop, take-append-drop, take-append-le, drop-append-le, drop-drop, drop_at}
use Rattle.std.proofs.lemmas.Bool.{cases_lt}
use Rattle.metrics.specs.Meaning.{Meaning}
use Rattle.page.specs.Texts.{part}
use Rattle.page.specs.declared.ending.Ending.{Ending}
use Rattle.page.specs.declared.row.Row.{Row}
use Rattle.page.specs.Texts.{edited}
use Rattle.layout.specs.Widths.{edges as edges_of}
use Rattle.reflow.specs.Screens.{shown}

-- a part that ends within the first of two lists
part_left : (a u : List ℕ) (s e : ℕ) → e ≤ length a → part (a ++ u) s e ≡ part a s e
part_left a u s e h = elim (cases_lt e s) [
  | inl l ↦ let z : e - s ≡ 0 = omega arith in rw z refl
  | inr l ↦
      let c : s ≤ length a = omega arith in
      let n : e - s ≤ length (drop s a) = simp length-drop (omega arith) in
      ap (take (e - s)) (drop-append-le s a u c) ∙ take-append-le (e - s) (drop s a) u n
]

module _ (t ins : List ℕ) (at del : ℕ) (within : at + del ≤ length t) where
  -- what ends at or before the edit stays
  pub part_before : (s e : ℕ) → e ≤ at → part t s e ≡ part (edited t at del ins) s e
  part_before s e h =
      let n : length (take at t) ≡ at = length-take-le at t (omega arith) in
      let k : e ≤ length (take at t) = omega arith in
      ap (λ (u : List ℕ). part u s e) (sym (take-append-drop at t))
      ∙ part_left (take at t) (drop at t) s e k
      ∙ sym (part_left (take at t) (ins ++ drop (at + del) t) s e k)

  -- what starts behind the deleted characters stays, from another place on
  drop_behind : (s : ℕ) → at + del ≤ s → drop (s - del + length ins) (edited t at del ins) ≡ drop s t
  drop_behind s h =
      let k = s - (at + del) in
      let n : length (take at t) ≡ at = length-take-le at t (omega arith) in
      let p : s - del + length ins ≡ at + (length ins + k) = omega arith in
      let q : at + del + k ≡ s = omega arith in
      ap (λ (i : ℕ). drop i (edited t at del ins)) p
      ∙ sym (drop-drop (length ins + k) at (edited t at del ins))
      ∙ ap (drop (length ins + k)) (drop_at (take at t) (ins ++ drop (at + del) t) at n)
      ∙ sym (drop-drop k (length ins) (ins ++ drop (at + del) t))
      ∙ ap (drop k) (drop_at ins (drop (at + del) t) (length ins) refl)
      ∙ drop-drop k (at + del) t
      ∙ ap (λ (i : ℕ). drop i t) q

  pub part_behind : (s e : ℕ) → at + del ≤ s → s ≤ e → part t s e ≡ part (edited t at del ins) (s - del + length ins) (e - del + length ins)
  part_behind s e h l =
      let n : e - s ≡ e - del + length ins - (s - del + length ins) = omega arith in
      ap (λ (i : ℕ). take i (drop s t)) n ∙ ap (take (e - del + length ins - (s - del + length ins))) (sym (drop_behind s h))

-- rows with the same characters and ending are shown alike
pub shown_alike : (m : Meaning) (t t' : List ℕ) (r r' : Row) → part t r.start r.end ≡ part t' r'.start r'.end → r.ending ≡ r'.ending → shown m t r ≡ shown m t' r'
shown_alike m t t' r r' p g =
    ap (λ (cs : List ℕ). record { chars = cs; edges = edges_of m cs; ending = r.ending }) p
    ∙ ap (λ (g : Ending). record { chars = part t' r'.start r'.end; edges = edges_of m (part t' r'.start r'.end); ending = g }) g

-- What one more character does to a part, its edge and its width.
use Rattle.std.proofs.Common.{◌≡◌, ℕ, zero, suc, ◌+◌, ◌-◌, ◌≤◌, cond, List, [], ◌∷◌, ◌++◌, reverse, take, drop, Some, None, Option, sym, refl, ap, ◌∙◌, inl, inr, add-zero, add_assoc, zero-add, arith}
use mathlib.Core.List.{reverse-append, reverse-reverse}
use Rattle.std.proofs.lemmas.Bool.{cases_Bool}
use Rattle.metrics.specs.Meaning.{Meaning}
use Rattle.page.specs.Policies.{Rules}
use Rattle.page.specs.Texts.{seen, part}
use Rattle.layout.specs.Widths.{sum_after, edge, unhung, trimmed, width}
use Rattle.page.proofs.Places.{seen_drop}

-- the last character, p if there is none
unfoldable pub last_after : Option ℕ → List ℕ → Option ℕ
last_after p [] = p
last_after p (c ∷ cs) = last_after (Some c) cs

pub last_more : (p : Option ℕ) (xs : List ℕ) (c : ℕ) → last_after p (xs ++ c ∷ []) ≡ Some c
unfolding last_after
last_more p [] c = refl
last_more p (x ∷ xs) c = last_more (Some x) xs c

pub sum_more : (m : Meaning) (p : Option ℕ) (xs : List ℕ) (c : ℕ) → sum_after m p (xs ++ c ∷ []) ≡ sum_after m p xs + m.adv (last_after p xs) c
unfolding sum_after last_after
sum_more m p [] c = add-zero (m.adv p c) ∙ sym (zero-add (m.adv p c))
sum_more m p (x ∷ xs) c = ap (λ n. m.adv p x + n) (sum_more m (Some x) xs c) ∙ sym (add_assoc (m.adv p x) (sum_after m (Some x) xs) (m.adv (last_after (Some x) xs) c))

unhung_more : (P : Rules) (xs : List ℕ) (c : ℕ) → unhung P (reverse (xs ++ c ∷ [])) ≡ cond (P.hangs c) (unhung P (reverse xs)) (c ∷ reverse xs)
unfolding unhung
unhung_more P xs c = ap (unhung P) (reverse-append xs (c ∷ []))

pub trimmed_more : (P : Rules) (xs : List ℕ) (c : ℕ) → trimmed P (xs ++ c ∷ []) ≡ cond (P.hangs c) (trimmed P xs) (xs ++ c ∷ [])
trimmed_more P xs c = elim (cases_Bool (P.hangs c)) [
  | inl e ↦ cc (unhung_more P xs c)
  | inr e ↦ cc (unhung_more P xs c, reverse-append xs (c ∷ []), reverse-reverse (xs ++ c ∷ []))
]

-- a hanging character adds nothing, and any other brings the width to the edge
pub width_more : (m : Meaning) (P : Rules) (xs : List ℕ) (c : ℕ) → width m P (xs ++ c ∷ []) ≡ cond (P.hangs c) (width m P xs) (edge m xs + m.adv (last_after None xs) c)
width_more m P xs c = elim (cases_Bool (P.hangs c)) [
  | inl e ↦ cc (trimmed_more P xs c)
  | inr e ↦ cc (trimmed_more P xs c, sum_more m None xs c)
]

take_seen : (u : List ℕ) (j c : ℕ) → seen u j ≡ Some c → take (suc j) u ≡ take j u ++ c ∷ []
take_seen [] j c e = let z : ◌≡◌ {A = ℕ} 0 1 = cc in absurd (omega arith)
take_seen (x ∷ u) zero c e = cc
take_seen (x ∷ u) (suc j) c e = ap (λ y. x ∷ y) (take_seen u j c e)

pub part_none : (t : List ℕ) (s : ℕ) → part t s s ≡ []
part_none t s = let e : s - s ≡ 0 = omega arith in rw e refl

pub part_more : (t : List ℕ) (s i c : ℕ) → s ≤ i → seen t i ≡ Some c → part t s (suc i) ≡ part t s i ++ c ∷ []
part_more t s i c h e =
    let p : suc i - s ≡ suc (i - s) = omega arith in
    let q : s + (i - s) ≡ i = omega arith in
    rw p (take_seen (drop s t) (i - s) c (seen_drop t s (i - s) ∙ ap (seen t) q ∙ e))

-- The characters of an edited text.
use Rattle.std.proofs.Common.{◌≡◌, ℕ, zero, suc, ◌+◌, ◌-◌, ◌<◌, ◌≤◌, List, [], ◌∷◌, ◌++◌, length, get_or, take, drop, Some, refl, ap, ◌∙◌, suc-add, zero-add, arith, length-take}
use Rattle.std.proofs.lemmas.List.{length-take-le}
use Rattle.std.proofs.lemmas.Option.{slice_get-get_or}
use Rattle.page.specs.Texts.{seen, edited}

seen_append_left : (xs ys : List ℕ) (i : ℕ) → i < length xs → seen (xs ++ ys) i ≡ seen xs i
seen_append_left [] ys i l = absurd (omega arith)
seen_append_left (x ∷ xs) ys zero l = refl
seen_append_left (x ∷ xs) ys (suc i) l = seen_append_left xs ys i (omega arith)

seen_append_right : (xs ys : List ℕ) (i : ℕ) → seen (xs ++ ys) (length xs + i) ≡ seen ys i
seen_append_right [] ys i = rw zero-add
seen_append_right (x ∷ xs) ys i = rw suc-add (seen_append_right xs ys i)

seen_take : (n : ℕ) (xs : List ℕ) (i : ℕ) → i < n → seen (take n xs) i ≡ seen xs i
seen_take zero xs i l = absurd (omega arith)
seen_take (suc n) [] i l = refl
seen_take (suc n) (x ∷ xs) zero l = refl
seen_take (suc n) (x ∷ xs) (suc i) l = seen_take n xs i (omega arith)

module _ (t : List ℕ) (at del : ℕ) (ins : List ℕ) (within : at + del ≤ length t) where
  pub seen_before : (i : ℕ) → i < at → seen (edited t at del ins) i ≡ seen t i
  seen_before i l =
      let n : i < length (take at t) = simp length-take (omega arith) in
      seen_append_left (take at t) (ins ++ drop (at + del) t) i n ∙ seen_take at t i l

  pub seen_inside : (i d : ℕ) → at ≤ i → i - at < length ins → seen (edited t at del ins) i ≡ Some (get_or ins (i - at) d)
  seen_inside i d f l =
      let n : length (take at t) ≡ at = length-take-le at t (omega arith) in
      let e : i ≡ length (take at t) + (i - at) = omega arith in
      ap (seen (edited t at del ins)) e
      ∙ seen_append_right (take at t) (ins ++ drop (at + del) t) (i - at)
      ∙ seen_append_left ins (drop (at + del) t) (i - at) l
      ∙ slice_get-get_or ins (i - at) d l

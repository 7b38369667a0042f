-- The words of a line, one after another.
use Rattle.std.proofs.Common.{◌≡◌, ℕ, zero, suc, ◌+◌, ◌<◌, ◌≤◌, List, [], ◌∷◌, ◌++◌, length, get_or, take, drop, sym, refl, ap, ◌∙◌, append_assoc, append-nil, arith, length-append}
use Rattle.std.proofs.lemmas.List.{take_more, take-append-drop, length-take-le}
use Rattle.listing.specs.Entries.{word_bytes, spaced}
use Rattle.listing.specs.declared.word.Word.{Word}

-- what stands before the i-th word
abbrev pub space : ℕ → List ℕ
space zero = []
space (suc i) = 32 ∷ []

pub space_none : (i : ℕ) → i ≤ 0 → space i ≡ []
space_none zero h = refl
space_none (suc i) h = absurd (omega arith)

pub space_one : (i : ℕ) → 0 < i → space i ≡ 32 ∷ []
space_one zero h = absurd (omega arith)
space_one (suc i) h = refl

spaced_append : (xs ys : List Word) → 0 < length ys → spaced (xs ++ ys) ≡ (spaced xs ++ space (length xs)) ++ spaced ys
spaced_append [] ys h = refl
spaced_append (x ∷ []) [] h = absurd (omega arith)
spaced_append (x ∷ []) (y ∷ ys) h = sym (append_assoc (word_bytes x) (32 ∷ []) (spaced (y ∷ ys)))
spaced_append (x ∷ x' ∷ xs) ys h =
    ap (λ (l : List ℕ). word_bytes x ++ (32 ∷ l)) (spaced_append (x' ∷ xs) ys h)
    ∙ sym (append_assoc (word_bytes x) (32 ∷ (spaced (x' ∷ xs) ++ (32 ∷ []))) (spaced ys))
    ∙ ap (λ (l : List ℕ). l ++ spaced ys) (sym (append_assoc (word_bytes x) (32 ∷ spaced (x' ∷ xs)) (32 ∷ [])))

spaced_grows : (xs ys : List Word) → length (spaced xs) ≤ length (spaced (xs ++ ys))
spaced_grows xs [] = rw append-nil (omega arith)
spaced_grows xs (y ∷ ys) = rw (spaced_append xs (y ∷ ys) (omega arith)) (simp length-append (omega arith))

module _ (ws : List Word) (i : ℕ) (w : Word) (h : i < length ws) where
  pub spaced_more : spaced (take (i + 1) ws) ≡ (spaced (take i ws) ++ space i) ++ word_bytes (get_or ws i w)
  spaced_more =
      ap spaced (take_more ws i w h) ∙ spaced_append (take i ws) (get_or ws i w ∷ []) (omega arith)
      ∙ ap (λ (k : ℕ). (spaced (take i ws) ++ space k) ++ word_bytes (get_or ws i w)) (length-take-le i ws (omega arith))

  -- a word does not reach beyond the line
  pub spaced_least : length (spaced (take i ws)) + length (space i) + length (word_bytes (get_or ws i w)) ≤ length (spaced ws)
  spaced_least =
      let whole = ap (λ (l : List Word). length (spaced l)) (take-append-drop (i + 1) ws) in
      let front = simp length-append at (ap length spaced_more) in
      omega (arith, spaced_grows (take (i + 1) ws) (drop (i + 1) ws))

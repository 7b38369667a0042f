-- What an edit leaves of a text, before it and behind it.
use Rattle.std.proofs.Common.{◌≡◌, ℕ, zero, suc, ◌+◌, ◌-◌, ◌<◌, ◌≤◌, List, [], ◌∷◌, ◌++◌, length, take, drop, refl, arith}
use Rattle.std.proofs.lemmas.List.{drop-drop, drop_at, length-take-le, length-append}
use Rattle.page.specs.Texts.{seen}
use Rattle.layout.specs.Theorems.{Agree}
use Rattle.page.specs.Texts.{edited}

seen_front : (n k : ℕ) (t u : List ℕ) → k < n → n ≤ length t → seen t k ≡ seen (take n t ++ u) k
seen_front zero k t u h l = absurd (omega arith)
seen_front (suc n) k [] u h l = absurd (omega arith)
seen_front (suc n) zero (x ∷ t) u h l = refl
seen_front (suc n) (suc k) (x ∷ t) u h l = seen_front n k t u (omega arith) (omega arith)

module _ (t ins : List ℕ) (at del : ℕ) (within : at + del ≤ length t) where
  pub edited_front : Agree t (edited t at del ins) 0 at
  edited_front k a h = seen_front at k t (ins ++ drop (at + del) t) h (omega arith)

  pub edited_reaches : at ≤ length (edited t at del ins)
  edited_reaches = omega (arith, length-append (take at t) (ins ++ drop (at + del) t), length-take-le at t (omega arith))

  -- behind the insertion stands what stood behind the deletion
  pub edited_back : (s : ℕ) → at + length ins ≤ s → drop (s - length ins + del) t ≡ drop s (edited t at del ins)
  edited_back s h =
      let k = s - (at + length ins) in
      let a : at + length ins + k ≡ s = omega arith in
      let b : at + del + k ≡ s - length ins + del = omega arith in
      cc (
        drop-drop k (at + length ins) (edited t at del ins),
        drop-drop (length ins) at (edited t at del ins),
        drop_at (take at t) (ins ++ drop (at + del) t) at (length-take-le at t (omega arith)),
        drop_at ins (drop (at + del) t) (length ins) refl,
        drop-drop k (at + del) t,
      )

-- Every place of a text has one stop.
use Rattle.std.proofs.Common.{◌≡◌, ℕ, zero, suc, ◌+◌, ◌-◌, ◌<◌, ◌≤◌, List, length, Some, None, Option, sym, refl, ap, ◌∙◌, inl, inr, arith, length-drop}
use Rattle.std.proofs.lemmas.Bool.{cases_eq, cases_lt}
use Rattle.layout.specs.FirstFit.{Stop}
use Rattle.page.specs.Texts.{seen, newline}
use Rattle.page.proofs.Places.{drop_unseen, seen_within}

pub unseen_past : (t : List ℕ) (i : ℕ) → seen t i ≡ None → length t ≤ i
unseen_past t i e = let h = sym (length-drop i t) ∙ ap length (drop_unseen t i e) in omega arith

module _ (t : List ℕ) where
  -- a stop further on serves, if no newline stands before it
  pub stop_back : (s i q : ℕ) → s ≤ i → ((k : ℕ) → s ≤ k → k < i → seen t k ≡ Some newline → ⊥) → Stop t i q → Stop t s q
  stop_back s i q h c z = record {
    from = omega arith;
    within = z.within;
    clear = λ k a b. elim (cases_lt k i) [ inl l ↦ c k a l | inr l ↦ z.clear k l b ];
    there = z.there;
  }

  -- n places are left
  stop_of : (n i : ℕ) → i + n ≡ length t → (q : ℕ) × Stop t i q
  stop_of zero i e = (i, record { from = omega arith; within = omega arith; clear = λ k a b. absurd (omega arith); there = inl (omega arith) })
  stop_of (suc n) i e = go (seen t i) refl (stop_of n (suc i) (omega arith))
    where
      go : (o : Option ℕ) → seen t i ≡ o → (q : ℕ) × Stop t (suc i) q → (q : ℕ) × Stop t i q
      go None u y = let h = unseen_past t i u in absurd (omega arith)
      go (Some c) u y = elim (cases_eq c newline) [
        | inl b ↦ (i, record { from = omega arith; within = omega arith; clear = λ k a b. absurd (omega arith); there = inr (u ∙ ap Some b) })
        | inr b ↦ (y.0, stop_back i (suc i) y.0 (omega arith) (λ k a l v. let f : k ≡ i = omega arith in b (cc)) y.1)
      ]

  pub stop_from : (i : ℕ) → i ≤ length t → (q : ℕ) × Stop t i q
  stop_from i h = stop_of (length t - i) i (omega arith)

  -- a stop lies behind a character that is no newline
  pub stop_behind : (s q i c : ℕ) → Stop t s q → s ≤ i → i ≤ q → seen t i ≡ Some c → (c ≡ newline → ⊥) → i < q
  stop_behind s q i c z a b e n = elim (cases_eq i q) [
    | inr d ↦ omega arith
    | inl d ↦ elim z.there [
      | inl l ↦ let h = seen_within t i c e in omega arith
      | inr l ↦ let f : c ≡ newline = cc in absurd (n f)
    ]
  ]

  stop_upto : (s q q' : ℕ) → Stop t s q → Stop t s q' → q' ≤ q
  stop_upto s q q' z z' = elim (cases_lt q q') [
    | inr h ↦ h
    | inl h ↦ elim z.there [
      | inl e ↦ omega (arith, z'.within)
      | inr e ↦ absurd (z'.clear q z.from h e)
    ]
  ]

  pub stop_unique : (s q q' : ℕ) → Stop t s q → Stop t s q' → q ≡ q'
  stop_unique s q q' z z' = omega (arith, stop_upto s q q' z z', stop_upto s q' q z' z)

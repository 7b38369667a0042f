-- First fit leaves no choice of a row.
use Rattle.std.proofs.Common.{◌≡◌, ℕ, suc, ◌+◌, ◌<◌, ◌≤◌, max, false, ◌⊎◌, List, sym, refl, ◌∙◌, inl, inr, arith}
use Rattle.std.proofs.lemmas.Bool.{cases_lt, both_ways}
use Rattle.metrics.specs.Meaning.{Meaning}
use Rattle.layout.specs.FirstFit.{Stop, at_stop, breakable, Over, LastBreak, row_to, RowFrom}
use Rattle.layout.specs.FirstFit.RowFrom.{whole, wrapped, cut, single, lone}
use Rattle.page.specs.Policies.{Rules}
use Rattle.page.specs.Texts.{seen, part}
use Rattle.layout.specs.Widths.{width}
use Rattle.page.specs.declared.ending.Ending.TheVariants.{Wrapped, Cut}
use Rattle.page.specs.declared.row.Row.{Row}
use Rattle.layout.proofs.Stops.{stop_unique}

module _ (m : Meaning) (P : Rules) (w : ℕ) (t : List ℕ) (s : ℕ) where
  over_upto : (q q' o o' : ℕ) → Over m P w t s q o → Over m P w t s q' o' → o' ≤ o
  over_upto q q' o o' v v' = elim (cases_lt o o') [
    | inr h ↦ h
    | inl h ↦ omega (arith, v.over, v'.first o v.from h)
  ]

  over_unique : (q q' o o' : ℕ) → Over m P w t s q o → Over m P w t s q' o' → o ≡ o'
  over_unique q q' o o' v v' = omega (arith, over_upto q q' o o' v v', over_upto q' q o' o v' v)

  break_upto : (o e e' : ℕ) → LastBreak m P w t s o e → LastBreak m P w t s o e' → e' ≤ e
  break_upto o e e' b b' = elim (cases_lt e e') [
    | inr h ↦ h
    | inl h ↦ absurd (both_ways (breakable P t e') (b.last e' h b'.upto) b'.here)
  ]

  break_unique : (o e e' : ℕ) → LastBreak m P w t s o e → LastBreak m P w t s o e' → e ≡ e'
  break_unique o e e' b b' = omega (arith, break_upto o e e' b b', break_upto o e' e b' b)

  -- where the row ends, once o is the first character that does not fit
  data Ends (q o : ℕ) (r : Row) : Type 0 where
    at_break : (e : ℕ) → LastBreak m P w t s o e → r ≡ row_to m P w t s e Wrapped (max o e + 1) → Ends q o r
    before_it : s < o → ((k : ℕ) → s < k → k ≤ o → breakable P t k ≡ false) → r ≡ row_to m P w t s o Cut (max o o + 1) → Ends q o r
    behind_it : o ≡ s → suc s < q → r ≡ row_to m P w t s (suc s) Cut (max s (suc s) + 1) → Ends q o r
    at_its_stop : o ≡ s → suc s ≡ q → r ≡ row_to m P w t s q (at_stop (seen t q)) (max s (suc s) + 1) → Ends q o r

  same_ends : (q o : ℕ) (r r' : Row) → Ends q o r → Ends q o r' → r ≡ r'
  same_ends q o r r' (at_break e b p) (at_break e' b' p') = cc (break_unique o e e' b b')
  same_ends q o r r' (at_break e b p) (before_it h n p') = absurd (both_ways (breakable P t e) (n e b.after b.upto) b.here)
  same_ends q o r r' (at_break e b p) (behind_it h l p') = absurd (omega arith)
  same_ends q o r r' (at_break e b p) (at_its_stop h l p') = absurd (omega arith)
  same_ends q o r r' (before_it h n p) (at_break e b p') = absurd (both_ways (breakable P t e) (n e b.after b.upto) b.here)
  same_ends q o r r' (before_it h n p) (before_it h' n' p') = p ∙ sym p'
  same_ends q o r r' (before_it h n p) (behind_it h' l p') = absurd (omega arith)
  same_ends q o r r' (before_it h n p) (at_its_stop h' l p') = absurd (omega arith)
  same_ends q o r r' (behind_it h l p) (at_break e b p') = absurd (omega arith)
  same_ends q o r r' (behind_it h l p) (before_it h' n p') = absurd (omega arith)
  same_ends q o r r' (behind_it h l p) (behind_it h' l' p') = p ∙ sym p'
  same_ends q o r r' (behind_it h l p) (at_its_stop h' l' p') = absurd (omega arith)
  same_ends q o r r' (at_its_stop h l p) (at_break e b p') = absurd (omega arith)
  same_ends q o r r' (at_its_stop h l p) (before_it h' n p') = absurd (omega arith)
  same_ends q o r r' (at_its_stop h l p) (behind_it h' l' p') = absurd (omega arith)
  same_ends q o r r' (at_its_stop h l p) (at_its_stop h' l' p') = p ∙ sym p'

  record Full (r : Row) : Type 0 where
    q : ℕ
    stop : Stop t s q
    fits : (k : ℕ) → s ≤ k → k < q → width m P (part t s (suc k)) ≤ w
    row : r ≡ row_to m P w t s q (at_stop (seen t q)) (q + 1)

  record Broken (r : Row) : Type 0 where
    q : ℕ
    o : ℕ
    stop : Stop t s q
    over : Over m P w t s q o
    ends : Ends q o r

  full_or_broken : (r : Row) → RowFrom m P w t s r → Full r ⊎ Broken r
  full_or_broken r (whole q z f p) = inl (record { q = q; stop = z; fits = f; row = p })
  full_or_broken r (wrapped q o e z v b p) = inr (record { q = q; o = o; stop = z; over = v; ends = at_break e b p })
  full_or_broken r (cut q o z v h n p) = inr (record { q = q; o = o; stop = z; over = v; ends = before_it h n p })
  full_or_broken r (single q z v h p) = inr (record { q = q; o = s; stop = z; over = v; ends = behind_it refl h p })
  full_or_broken r (lone q z v h p) = inr (record { q = q; o = s; stop = z; over = v; ends = at_its_stop refl h p })

  not_both : (r r' : Row) → Full r → Broken r' → ⊥
  not_both r r' a b =
      let e = stop_unique t s a.q b.q a.stop b.stop in
      let h : b.o < a.q = omega (arith, b.over.before) in
      omega (arith, a.fits b.o b.over.from h, b.over.over)

  same_full : (r r' : Row) → Full r → Full r' → r ≡ r'
  same_full r r' a b = cc (stop_unique t s a.q b.q a.stop b.stop, a.row, b.row)

  same_broken : (r r' : Row) → Broken r → Broken r' → r ≡ r'
  same_broken r r' a b =
      let e = stop_unique t s b.q a.q b.stop a.stop in
      let f = over_unique b.q a.q b.o a.o b.over a.over in
      same_ends a.q a.o r r' a.ends (rw (e, f) at b.ends)

  pub only_one : (r r' : Row) → RowFrom m P w t s r → RowFrom m P w t s r' → r ≡ r'
  only_one r r' x y = elim (full_or_broken r x) [
    | inl a ↦ elim (full_or_broken r' y) [ inl b ↦ same_full r r' a b | inr b ↦ absurd (not_both r r' a b) ]
    | inr a ↦ elim (full_or_broken r' y) [ inl b ↦ absurd (not_both r' r b a) | inr b ↦ same_broken r r' a b ]
  ]

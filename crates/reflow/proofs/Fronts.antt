-- The leading pairs of two lists of rows that are kept.
use Rattle.std.proofs.Common.{◌≡◌, ℕ, ◌+◌, cond, List, [], ◌∷◌, refl, ap}
use Rattle.std.specs.List.{prefix_len, zip}
use Rattle.page.specs.declared.row.Row.{Row}
use Rattle.reflow.specs.Repaints.{front, kept}

pub kept_pairs : (at : ℕ) (old new : List Row) → prefix_len (λ (x : Row × Row). kept at x.0 x.1) (zip old new) ≡ front at old new
kept_pairs at [] new = refl
kept_pairs at (r ∷ rs) [] = refl
kept_pairs at (r ∷ rs) (r' ∷ rs') = ap (λ (n : ℕ). cond (kept at r r') (1 + n) 0) (kept_pairs at rs rs')

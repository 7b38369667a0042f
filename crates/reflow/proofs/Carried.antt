-- Rows put into a list one by one, each as what became of it.
use Rattle.std.proofs.Common.{◌≡◌, List, [], ◌∷◌, map, refl, ap₂}
use Rattle.std.specs.List.{AllByRecursion, AllZip}
use Rattle.page.specs.declared.row.Row.{Row}

module _ (R : Row → Row → Type 0) (P : Row → Type 0) (f : Row → Row) (gives : (x y : Row) → R x y → P x → y ≡ f x) where
  pub all_became : (xs ys : List Row) → AllZip R xs ys → AllByRecursion P xs → ys ≡ map f xs
  all_became [] [] z a = refl
  all_became [] (y ∷ ys) z a = absurd z
  all_became (x ∷ xs) [] z a = absurd z
  all_became (x ∷ xs) (y ∷ ys) z a = ap₂ (λ (r : Row) (rs : List Row). r ∷ rs) (gives x y z.0 a.0) (all_became xs ys z.1 a.1)

-- A list of bytes, split at the first of one kind.
use Rattle.std.specs.Prelude.{ℕ, cond, List, [], ◌∷◌, Some, None, Option, ◌==◌}
use Rattle.std.specs.Borrow.{Bor}
use Rattle.std.specs.Option.{option_map}

-- what stands before a mark, and what follows it
pub record Split : Type 0 where
  pub before : List ℕ
  pub behind : List ℕ

-- the same with one more byte in front
abbrev pub longer : ℕ → Split → Split
longer b s = record { before = b ∷ s.before; behind = s.behind }

-- at the first mark, if there is one
unfoldable pub split_once : ℕ → List ℕ → Option Split
split_once mark [] = None
split_once mark (b ∷ bs) = cond (b == mark) (Some (record { before = []; behind = bs })) (option_map (longer b) (split_once mark bs))

-- two slices as such parts
abbrev pub parts : Option (Bor (List ℕ) × Bor (List ℕ)) → Option Split
parts = option_map (λ p. record { before = p.0.now; behind = p.1.now })

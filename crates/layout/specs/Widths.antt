-- Edges and widths of a row's characters.
use Rattle.std.specs.Prelude.{ℕ, ◌+◌, cond, List, [], ◌∷◌, reverse, Some, None, Option}
use Rattle.metrics.specs.Meaning.{Meaning}
use Rattle.page.specs.Policies.{Rules}

-- the running sum of the advances, the first after p
unfoldable pub sum_after : Meaning → Option ℕ → List ℕ → ℕ
sum_after m p [] = 0
sum_after m p (c ∷ cs) = m.adv p c + sum_after m (Some c) cs

-- the last edge: the sum of the advances, the first with an absent predecessor
abbrev pub edge : Meaning → List ℕ → ℕ
edge m cs = sum_after m None cs

-- the characters without the hanging ones in front
unfoldable pub unhung : Rules → List ℕ → List ℕ
unhung P [] = []
unhung P (c ∷ cs) = cond (P.hangs c) (unhung P cs) (c ∷ cs)

-- the characters without the hanging ones at the end
abbrev pub trimmed : Rules → List ℕ → List ℕ
trimmed P cs = reverse (unhung P (reverse cs))

-- the width: the last edge after dropping all hanging characters at the end
abbrev pub width : Meaning → Rules → List ℕ → ℕ
width m P cs = edge m (trimmed P cs)

-- the running sums of the advances behind an edge, the first after p
abbrev pub edges_from : Meaning → ℕ → Option ℕ → List ℕ → List ℕ
edges_from m e p [] = []
edges_from m e p (c ∷ cs) = (e + m.adv p c) ∷ edges_from m (e + m.adv p c) (Some c) cs

-- the edge behind each character of a row
abbrev pub edges : Meaning → List ℕ → List ℕ
edges m cs = edges_from m 0 None cs

-- Numbers as files write them: one to five digits.
use Rattle.std.specs.Prelude.{ℕ, ◌+◌, ◌-◌, ◌*◌, cond, ◌&&◌, List, [], ◌∷◌, length, Some, None, Option, nat_le, drop, ℤ, pos, neg_ℤ, ◌==◌, slice_index}
use Rattle.std.specs.Option.{option_map}

-- what the digits write after the value n of those before them; none where another byte stands
unfoldable pub digits : ℕ → List ℕ → Option ℕ
digits n [] = Some n
digits n (b ∷ bs) = cond (nat_le 48 b && nat_le b 57) (digits (n * 10 + (b - 48)) bs) None

abbrev pub magnitude : List ℕ → Option ℕ
magnitude text = cond (nat_le 1 (length text) && nat_le (length text) 5) (digits 0 text) None

-- a number with a minus before its digits or none
abbrev pub integer : List ℕ → Option ℤ
integer text = cond (slice_index text 0 == 45) (option_map (λ n. neg_ℤ (pos n)) (magnitude (drop 1 text))) (option_map pos (magnitude text))

-- Texts around a gap.
use Rattle.std.specs.Prelude.{◌≡◌, ℕ, ◌≤◌, List, ◌++◌, length, take, drop}
use Rattle.page.specs.Texts.{most_characters}

-- what stands before and behind the gap [start, end)
abbrev pub around : List ℕ → ℕ → ℕ → List ℕ
around bytes start end = take start bytes ++ drop end bytes

-- the gap lies within the memory, which has room for the longest text
pub record Gapped (bytes : List ℕ) (start end : ℕ) : Type 0 where
  pub full : length bytes ≡ most_characters
  pub forward : start ≤ end
  pub within : end ≤ most_characters

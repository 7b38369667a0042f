-- Kinds of bytes. Words stand between spaces or tabs, lines end at a newline.
use Rattle.std.specs.Prelude.{ℕ, Bool, not, ◌||◌, ◌==◌}

-- what parts words
abbrev pub is_blank : ℕ → Bool
is_blank b = b == 32 || b == 9

-- what words are made of
abbrev pub is_dark : ℕ → Bool
is_dark b = not (is_blank b)

-- what lines are made of
abbrev pub is_inline : ℕ → Bool
is_inline b = not (b == 10)

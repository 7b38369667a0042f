-- Fallback: a character belongs to the first measurer if that covers it, else to the second.
use Rattle.std.specs.Prelude.{ℕ, Bool, cond, not, ◌||◌, Some, None, Option}
use Rattle.metrics.specs.Meaning.{Meaning}
use Rattle.metrics.specs.Limits.{deeper}

-- the predecessor, if it belongs to an owner, else none
abbrev pub belonging : (ℕ → Bool) → Option ℕ → Option ℕ
belonging owns None = None
belonging owns (Some p) = cond (owns p) (Some p) None

-- the owner is asked both questions, with the predecessor if that belongs to it too
abbrev pub fallen_back : Meaning → Meaning → Meaning
fallen_back m n = record {
  covers = λ c. m.covers c || n.covers c;
  adv = λ p c. cond (m.covers c)
      (m.adv (belonging m.covers p) c)
      (n.adv (belonging (λ q. not (m.covers q)) p) c);
  depth = λ c. deeper (n.depth c);
}

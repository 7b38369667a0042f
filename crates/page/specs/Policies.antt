-- What a break policy means, the two policies, and the words that name them.
use Rattle.std.specs.Prelude.{◌≢◌, ◌≡◌, ℕ, Bool, true, false, not, ◌&&◌, ◌==◌, List, Result, MatchResult, codes}
use Rattle.page.specs.declared.policy.Breaks.{Breaks}
use Rattle.page.specs.declared.policy.Breaks.TheVariants as choice

pub record Rules : Type 0 where
  -- a row may end between two neighbours
  pub may : ℕ → ℕ → Bool
  -- a character at a row's end needs no width
  pub hangs : ℕ → Bool

-- a row may end after a space unless another follows, and spaces hang
abbrev pub spaces : Rules
spaces = record { may = λ p c. (p == 32) && not (c == 32); hangs = λ c. (c == 32) }

-- a row may end between any two characters, and nothing hangs
abbrev pub anywhere : Rules
anywhere = record { may = λ _ _. true; hangs = λ _. false }

-- the rules that are chosen
abbrev pub breaks_rules : Breaks → Rules
breaks_rules choice.Spaces = spaces
breaks_rules choice.Anywhere = anywhere

-- the word for a policy
abbrev pub breaks_name : Breaks → List ℕ
breaks_name choice.Spaces = codes "spaces"
breaks_name choice.Anywhere = codes "anywhere"

-- r is the policy that the word names, and an error where it names neither
abbrev pub NamesBreaks : {E : Type 0} → List ℕ → Result Breaks E → Type 0
NamesBreaks word r = MatchResult r (λ b. word ≡ breaks_name b) (λ _. (word ≢ codes "spaces") × (word ≢ codes "anywhere"))

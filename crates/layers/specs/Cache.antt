-- The advance cache: what it means, and what its slots hold.
use Rattle.std.specs.Prelude.{◌≡◌, ℕ, ◌-◌, ◌<◌, Bool, true, ◌||◌, ◌⊎◌, List, length, is_some, is_ok, is_err, Some, None, Option, Result, ◌≢◌, nat_lt, slice_index_or}
use Rattle.layers.specs.declared.cache.Held.{Held}
use Rattle.metrics.specs.declared.fault.MissingGlyph.{MissingGlyph}
use Rattle.metrics.specs.Limits.{deeper}
use Rattle.metrics.specs.Meaning.{Meaning}

-- covers and advances as the layer below
abbrev pub cached : Meaning → Meaning
cached m = record { covers = m.covers; adv = m.adv; depth = λ c. deeper (m.depth c) }

-- the greatest number of pairs held
abbrev pub most_held : ℕ
most_held = 64

-- a slot holds a pair with its advance, or nothing
abbrev pub Slots : Type 0
Slots = List (Option Held)

-- slot k holds the pair of p and c, with the advance a
abbrev pub At : Slots → ℕ → Option ℕ → ℕ → ℕ → Type 0
At s k p c a = slice_index_or s k None ≡ Some (record { before = p; code = c; advance = a })

-- the pair of p and c is held
abbrev pub Holds : Slots → Option ℕ → ℕ → Type 0
Holds s p c = (k : ℕ) × (a : ℕ) × At s k p c a

-- slot k holds a pair
abbrev pub filled : Slots → ℕ → Bool
filled s k = is_some (slice_index_or s k None)

-- as many pairs are held as can be
abbrev pub Full : Slots → Type 0
Full s = (k : ℕ) → k < most_held → filled s k ≡ true

-- the slots fill from the front: those before the next one are filled, and with the last one all
abbrev pub FillsInTurn : Slots → ℕ → Type 0
FillsInTurn s next = (k : ℕ) → k < most_held → filled s k ≡ (nat_lt k next || filled s (most_held - 1))

-- two slots hold the same pair
abbrev pub SamePair : Option Held → Option Held → Type 0
SamePair None o = ⊥
SamePair (Some g) None = ⊥
SamePair (Some g) (Some h) = (g.before ≡ h.before) × (g.code ≡ h.code)

-- no pair is held twice
abbrev pub Apart : Slots → Type 0
Apart s = (j k : ℕ) → SamePair (slice_index_or s j None) (slice_index_or s k None) → j ≡ k

-- every advance held is the one meant
abbrev pub Right : Meaning → Slots → Type 0
Right m s = (k : ℕ) (p : Option ℕ) (c a : ℕ) → At s k p c a → (m.covers c ≡ true) × (a ≡ m.adv p c)

-- a cache is sound if the layer below is, and every advance held is right
pub record SoundCache {B : Type 0} (sound : B → Type 0) (meaning : B → Meaning) (b : B) (s : Slots) : Type 0 where
  pub below : sound b
  pub right : Right (meaning b) s

-- What the question for the advance of c after p, answered by r, does to the slots, s before and s'
-- after, and to the layer below, b before and b' after.
pub record Keeps {B : Type 0} (s s' : Slots) (b b' : B) (p : Option ℕ) (c : ℕ)
    (r : Result ℕ MissingGlyph) : Type 0 where
  -- at most 64 pairs are held
  pub few : length s' ≡ most_held
  -- none of them twice
  pub apart : Apart s'
  -- the pair just answered is held
  pub answered : is_ok r ≡ true → Holds s' p c
  -- a refusal leaves the slots as they are
  pub refused : is_err r ≡ true → s' ≡ s
  -- a pair that was held is answered without asking below
  pub unasked : Holds s p c → (b' ≡ b) × (s' ≡ s)
  -- no other pair becomes held
  pub only : (q : Option ℕ) (d : ℕ) → Holds s' q d → Holds s q d ⊎ ((q ≡ p) × (d ≡ c))
  -- a pair goes only where 64 are held, and then at most the one of a single slot
  pub goes : ((q : Option ℕ) (d : ℕ) → Holds s q d → Holds s' q d)
      ⊎ (Full s × ((gone : ℕ) × ((k : ℕ) → (k ≢ gone) → slice_index_or s' k None ≡ slice_index_or s k None)))

use Rattle.std.proofs.Common.{◌≡◌, ℕ, take}
use Rattle.fonts.specs.Font.{Searchable, kern_at, kern_in}
use Rattle.fonts.proofs.font.kerns_by_pair.Given as goal

abbrev pub invariant-loop-pair : goal.invariant-loop-pair
invariant-loop-pair l = Searchable l.kerns × ((p c : ℕ) → kern_at l.kerns p c ≡ kern_in (take l.pair-index l.pairs) p c)

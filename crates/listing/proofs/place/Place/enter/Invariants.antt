use Rattle.std.proofs.Common.{take}
use Rattle.listing.specs.Entries.{spaced}
use Rattle.listing.proofs.Standing.{Stands}
use Rattle.listing.proofs.place.Place.enter.Given as goal

-- the words before the i-th stand
abbrev pub invariant-loop-i : goal.invariant-loop-i
invariant-loop-i l = Stands l.initial.guard l.initial.buffer (spaced (take l.i l.words)) l.guard l.buffer

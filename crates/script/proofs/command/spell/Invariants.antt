use Rattle.std.proofs.Common.{◌≡◌, ◌≤◌, length}
use Rattle.script.proofs.Spelling.{SpeltUpto}
use Rattle.script.proofs.command.spell.Given as goal

abbrev pub invariant-characters : goal.invariant-characters
invariant-characters l = (l.len ≤ 4096) × (length l.spelling ≡ 4096) × SpeltUpto l.written l.spelling l.len l.rest

abbrev pub decreases-characters : goal.decreases-characters
decreases-characters l = length l.rest

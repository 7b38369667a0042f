-- Bytes put behind others: when they fit, and what stands then.
use Rattle.std.proofs.Common.{◌≡◌, ℕ, ◌+◌, ◌<◌, ◌≤◌, Bool, true, false, cond, leb, List, ◌++◌, length, Ok, Err, sym, ap, arith, leb-false, leb-true}
use Rattle.std.proofs.lemmas.Bool.{cond-true, cond-false, le-leb, lt-leb}
use Rattle.listing.specs.Entries.{Outcome, outcome, added}
use Rattle.listing.specs.declared.room.NoRoom.{NoRoom}

module _ (room : ℕ) (before more : List ℕ) where
  pub added_fits : length before + length more ≤ room → outcome (before ++ more) (Ok tt) ≡ added room before more
  added_fits h = sym (cond-true _ _ _ (le-leb (length before + length more) room h))

  pub added_refused : room < length before + length more → outcome before (Err (record {})) ≡ added room before more
  added_refused h = sym (cond-false _ _ _ (lt-leb (length before + length more) room h))

  pub fits : (x : List ℕ) (u : Unit {0}) → outcome x (Ok u) ≡ added room before more → (length before + length more ≤ room) × (x ≡ before ++ more)
  fits x u e = by (leb (length before + length more) room) (leb-true (length before + length more) room) e
    where
      by : (t : Bool) → (t ≡ true → length before + length more ≤ room) → outcome x (Ok u) ≡ cond t (outcome (before ++ more) (Ok tt)) (outcome before (Err (record {}))) → (length before + length more ≤ room) × (x ≡ before ++ more)
      by true le e = (le cc, ap (λ (o : Outcome). o.bytes) e)
      by false le e = let a = ap (λ (o : Outcome). o.answer) e in let z : ◌≡◌ {A = ℕ} 0 1 = cc in absurd (omega arith)

  pub refused : (x : List ℕ) (n : NoRoom) → outcome x (Err n) ≡ added room before more → (room < length before + length more) × (x ≡ before)
  refused x n e = by (leb (length before + length more) room) (leb-false (length before + length more) room) e
    where
      by : (t : Bool) → (t ≡ false → room < length before + length more) → outcome x (Err n) ≡ cond t (outcome (before ++ more) (Ok tt)) (outcome before (Err (record {}))) → (room < length before + length more) × (x ≡ before)
      by true gt e = let a = ap (λ (o : Outcome). o.answer) e in let z : ◌≡◌ {A = ℕ} 0 1 = cc in absurd (omega arith)
      by false gt e = (gt cc, ap (λ (o : Outcome). o.bytes) e)

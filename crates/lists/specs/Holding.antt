-- What a bounded list holds: slots, of which a front is used.
use Rattle.std.specs.Prelude.{ℕ, ◌+◌, Bool, cond, List, length, take, Ok, Err, Result, nat_lt, slice_set}
use Rattle.lists.specs.declared.bounded.BoundedList.{BoundedList}
use Rattle.lists.specs.declared.full.Full.{Full}

pub record Holding (X : Type 0) : Type 0 where
  pub slots : List X
  pub used : ℕ

abbrev pub holding : {X : Type 0} → BoundedList X → Holding X
holding list = record { slots = list.slots.now; used = list.used }

abbrev pub empty : {X : Type 0} → List X → Holding X
empty slots = record { slots = slots; used = 0 }

-- the entries, oldest first
abbrev pub entries : {X : Type 0} → Holding X → List X
entries r = take r.used r.slots

abbrev pub has_room : {X : Type 0} → Holding X → Bool
has_room r = nat_lt r.used (length r.slots)

-- one entry more, if a slot is left
abbrev pub pushed : {X : Type 0} → Holding X → X → Holding X
pushed r entry = cond (has_room r) (record { slots = slice_set r.slots r.used entry; used = r.used + 1 }) r

abbrev pub push_answer : {X : Type 0} → Holding X → Result (Unit {0}) Full
push_answer r = cond (has_room r) (Ok tt) (Err (record {}))

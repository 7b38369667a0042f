-- The place that a list is written up to, and its guard.
use Rattle.std.specs.Prelude.{◌≡◌, ℕ, List, take}
use Rattle.listing.specs.declared.place.Guard.{Guard}
use Rattle.listing.specs.declared.place.Place.{Place}

-- the bytes before the place
abbrev pub front : Place → List ℕ → List ℕ
front place buffer = take place.at buffer

-- the guard is still that of the same place, and of the same entry
abbrev pub Kept : Guard → Guard → Type 0
Kept before after = (after.place.ghost_name ≡ before.place.ghost_name) × (after.began ≡ before.began)

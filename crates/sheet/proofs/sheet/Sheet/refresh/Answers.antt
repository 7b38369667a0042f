use Rattle.std.proofs.Common.{refl}
use Rattle.sheet.proofs.Continuing.{refreshed}
use Rattle.sheet.proofs.sheet.Sheet.refresh.Goals as goal

pub returns : goal.returns
returns g c = record {
  follows = λ k h f. refreshed k h _ _ f c.len-rows.result c.len-rows.ensures.value (record { meaning = refl; rules = refl; sound = λ x. x; measure = refl; text = refl; rows = refl; owed = refl });
  counted = refl;
}

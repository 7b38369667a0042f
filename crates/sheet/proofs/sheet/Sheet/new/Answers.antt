use Rattle.std.proofs.Common.{◌≡◌, ℕ, refl, arith}
use Rattle.layout.specs.Layouts.{laid_from}
use Rattle.layout.specs.Scans.{scan}
use Rattle.sheet.proofs.sheet.Sheet.new.Goals as goal

pub returns : goal.returns
unfolding laid_from scan
returns g c = record {
  counted = refl;
  follows = λ s. record {
    meaning = refl;
    rules = refl;
    sound = s;
    measure = refl;
    text = c.in_ok-text.ensures;
    owed = refl;
    rows = c.in_ok-rows.ensures;
    covered = λ k ch e n. (let z : ◌≡◌ {A = ℕ} 0 1 = cc in absurd (omega arith));
    few_rows = omega arith;
    few = omega arith;
    agrees = tt;
    screen = refl;
  };
}

-- What an option that is some was made from.
use Rattle.std.proofs.Common.{◌≡◌, ℕ, Some, None, Option, refl, arith}
use Rattle.std.specs.Option.{option_map}
use Rattle.script.specs.Reading.{◌>>=◌}

pub never : {A : Type 0} {y : A} {P : Type 0} → None ≡ Some y → P
never e = let z : ◌≡◌ {A = ℕ} 0 1 = cc in absurd (omega arith)

pub same : {A : Type 0} {x y : A} → Some x ≡ Some y → x ≡ y
same e = cc

pub bound : {X Y : Type 0} (o : Option X) (f : X → Option Y) (y : Y) → ◌>>=◌ o f ≡ Some y → (x : X) × (o ≡ Some x) × (f x ≡ Some y)
bound None f y e = never e
bound (Some x) f y e = (x, refl, e)

pub image : {X Y : Type 0} (f : X → Y) (o : Option X) (y : Y) → option_map f o ≡ Some y → (x : X) × (o ≡ Some x) × (f x ≡ y)
image f None y e = never e
image f (Some x) y e = (x, refl, same e)

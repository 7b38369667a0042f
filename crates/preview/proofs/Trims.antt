-- The hanging characters at a row's end, dropped one by one.
use Rattle.std.proofs.Common.{◌≡◌, ℕ, ◌+◌, ◌-◌, ◌<◌, true, false, List, [], ◌∷◌, ◌++◌, length, get_or, take, sym, refl, ap, ◌∙◌, arith}
use Rattle.std.proofs.lemmas.List.{take_more, take_all, nil_from_length}
use Rattle.page.specs.Policies.{Rules}
use Rattle.layout.specs.Widths.{unhung, trimmed}
use Rattle.layout.proofs.Widening.{trimmed_more}

last_apart : (cs : List ℕ) → 0 < length cs → cs ≡ take (length cs - 1) cs ++ get_or cs (length cs - 1) 0 ∷ []
last_apart cs some =
    let n = length cs in
    let e : n ≡ n - 1 + 1 = omega arith in
    sym (take_all n cs (omega arith)) ∙ ap (λ (k : ℕ). take k cs) e ∙ take_more cs (n - 1) 0 (omega arith)

pub trim_more : (P : Rules) (cs : List ℕ) → 0 < length cs → P.hangs (get_or cs (length cs - 1) 0) ≡ true → trimmed P (take (length cs - 1) cs) ≡ trimmed P cs
trim_more P cs some hangs =
    let e = last_apart cs some in
    let m = trimmed_more P (take (length cs - 1) cs) (get_or cs (length cs - 1) 0) in
    cc

pub trim_stop : (P : Rules) (cs : List ℕ) → 0 < length cs → P.hangs (get_or cs (length cs - 1) 0) ≡ false → trimmed P cs ≡ cs
trim_stop P cs some stays =
    let e = last_apart cs some in
    let m = trimmed_more P (take (length cs - 1) cs) (get_or cs (length cs - 1) 0) in
    cc

pub trim_none : (P : Rules) (cs : List ℕ) → length cs ≡ 0 → trimmed P cs ≡ cs
unfolding unhung
trim_none P cs none = rw (nil_from_length cs none) refl

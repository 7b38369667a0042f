-- What the digits of a number say of it.
use Rattle.std.proofs.Common.{◌≡◌, ℕ, zero, suc, ◌+◌, ◌-◌, ◌*◌, ◌/◌, ◌%◌, ◌^◌, ◌<◌, ◌≤◌, Bool, true, false, cond, ◌&&◌, leb, List, [], ◌∷◌, ◌++◌, length, get_or, Some, None, decimal, sym, refl, ap, ◌∙◌, arith}
use native.Mathlib.Nat.{pow-succ', div-div-eq-div-mul}
use Rattle.std.proofs.lemmas.Fmt.{decimal_digit, decimal_by_steps, first_decimal, decimal_nonempty}
use Rattle.std.proofs.lemmas.List.{length_push, reverse-append}
use Rattle.std.proofs.lemmas.Bool.{cond-true, and_from, le-leb}
use Rattle.numerals.specs.Reading.{digits}
use Rattle.numerals.specs.Writing.{ByPlaces, GivesBack, WithoutLeadingZero, Digits}

by_places : (n : ℕ) → n < 2 ^ 64 → ByPlaces n (decimal n)
by_places = decimal_by_steps ByPlaces one more
  where
    one : (n : ℕ) → n < 10 → ByPlaces n ((48 + n) ∷ [])
    one n h zero l = omega arith
    one n h (suc j) l = absurd (omega arith)

    more : (n : ℕ) (ds : List ℕ) → 10 ≤ n → ByPlaces (n / 10) ds → ByPlaces n (ds ++ ((48 + n % 10) ∷ []))
    more n ds h p zero l = ap (λ (x : List ℕ). get_or x 0 0) (reverse-append ds ((48 + n % 10) ∷ [])) ∙ omega arith
    more n ds h p (suc j) l =
        ap (λ (x : List ℕ). get_or x (suc j) 0) (reverse-append ds ((48 + n % 10) ∷ []))
        ∙ p j (omega (arith, length_push ds (48 + n % 10)))
        ∙ ap (λ (m : ℕ). 48 + m % 10) (div-div-eq-div-mul n 10 (10 ^ j) ∙ ap (λ (m : ℕ). n / m) (sym (pow-succ' 10 j)))

-- one digit more at the end
reads_on : (m : ℕ) (ds : List ℕ) (v c : ℕ) → 48 ≤ c → c ≤ 57 → digits m ds ≡ Some v → digits m (ds ++ (c ∷ [])) ≡ Some (v * 10 + (c - 48))
unfolding digits
reads_on m [] v c h k e = cond-true _ _ _ (and_from _ _ (le-leb 48 c h) (le-leb c 57 k)) ∙ cc
reads_on m (b ∷ bs) v c h k e = by (λ r. reads_on (m * 10 + (b - 48)) bs v c h k r) (leb 48 b && leb b 57) e
  where
    by : (digits (m * 10 + (b - 48)) bs ≡ Some v → digits (m * 10 + (b - 48)) (bs ++ (c ∷ [])) ≡ Some (v * 10 + (c - 48))) → (t : Bool) → cond t (digits (m * 10 + (b - 48)) bs) None ≡ Some v → cond t (digits (m * 10 + (b - 48)) (bs ++ (c ∷ []))) None ≡ Some (v * 10 + (c - 48))
    by on true e = on e
    by on false e = cc

gives_back : (n : ℕ) → n < 2 ^ 64 → GivesBack n (decimal n)
unfolding digits
gives_back = decimal_by_steps GivesBack one more
  where
    one : (n : ℕ) → n < 10 → GivesBack n ((48 + n) ∷ [])
    one n h = cond-true _ _ _ (and_from _ _ (le-leb 48 (48 + n) (omega arith)) (le-leb (48 + n) 57 (omega arith))) ∙ ap Some {x = 0 * 10 + (48 + n - 48)} {y = n} (omega arith)

    more : (n : ℕ) (ds : List ℕ) → 10 ≤ n → GivesBack (n / 10) ds → GivesBack n (ds ++ ((48 + n % 10) ∷ []))
    more n ds h e = reads_on 0 ds (n / 10) (48 + n % 10) (omega arith) (omega arith) e ∙ ap Some {x = n / 10 * 10 + (48 + n % 10 - 48)} {y = n} (omega arith)

without_leading_zero : (n : ℕ) → n < 2 ^ 64 → WithoutLeadingZero n (decimal n)
without_leading_zero n small = (decimal_nonempty n small, λ z. by n small z)
  where
    by : (n : ℕ) → n < 2 ^ 64 → get_or (decimal n) 0 0 ≡ 48 → (n ≡ 0) × (length (decimal n) ≡ 1)
    by zero small z = (refl, ap length (decimal_digit 0 (omega arith)))
    by (suc n) small z = absurd (omega (arith, first_decimal (suc n) (omega arith) small))

pub digits_of : (n : ℕ) → n < 2 ^ 64 → Digits n (decimal n)
digits_of n small = record { by_places = by_places n small; gives_back = gives_back n small; without_leading_zero = without_leading_zero n small }

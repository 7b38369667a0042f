-- The steps of a loop over digits.
use Rattle.std.proofs.Common.{◌≡◌, ℕ, ◌+◌, ◌-◌, ◌*◌, ◌^◌, ◌<◌, ◌≤◌, true, false, ◌&&◌, leb, List, length, get_or, take, drop, pos, neg_ℤ, Some, None, Option, sym, ap, ◌∙◌, pow-suc, add-one, arith, lit<}
use native.Mathlib.Nat.{pow-le-pow_right}
use Rattle.std.proofs.lemmas.List.{at_drop_more, at_drop_all, take_rest}
use Rattle.std.proofs.lemmas.Bool.{cond-true, cond-false, and_from, le-leb, eq-eqb}
use Rattle.std.specs.Option.{option_map}
use Rattle.numerals.specs.Reading.{digits, magnitude, integer}

pub digits_all : (n : ℕ) (xs : List ℕ) (i : ℕ) → length xs ≤ i → digits n (drop i xs) ≡ Some n
unfolding digits
digits_all n xs i h = at_drop_all (digits n) xs i h

module _ (n : ℕ) (xs : List ℕ) (i : ℕ) (h : i < length xs) where
  pub digits_more : (leb 48 (get_or xs i 0) && leb (get_or xs i 0) 57) ≡ true → digits n (drop i xs) ≡ digits (n * 10 + (get_or xs i 0 - 48)) (drop (i + 1) xs)
  unfolding digits
  digits_more e = at_drop_more (digits n) xs i 0 h ∙ cond-true _ _ _ e

  pub digits_none : (leb 48 (get_or xs i 0) && leb (get_or xs i 0) 57) ≡ false → digits n (drop i xs) ≡ None
  unfolding digits
  digits_none e = at_drop_more (digits n) xs i 0 h ∙ cond-false _ _ _ e

pub pow_more : (v d i : ℕ) → v < 10 ^ i → d < 10 → v * 10 + d < 10 ^ (i + 1)
pow_more v d i h k = rw (add-one, pow-suc) (omega arith)

pub magnitude_is : (xs : List ℕ) → 1 ≤ length xs → length xs ≤ 5 → magnitude xs ≡ digits 0 xs
magnitude_is xs h k = cond-true _ _ _ (and_from _ _ (le-leb 1 (length xs) h) (le-leb (length xs) 5 k))

pub pow_most : (v i : ℕ) → v < 10 ^ i → i ≤ 5 → v < 100000
pow_most v i h k = let p : 10 ^ i ≤ 10 ^ 5 = pow-le-pow_right (lit< tt) k in omega arith

-- `&text[1..]` holds the digits after a minus
pub integer_minus : (xs : List ℕ) (o : Option ℕ) → get_or xs 0 0 ≡ 45 → o ≡ magnitude (take (length xs - 1) (drop 1 xs)) → integer xs ≡ option_map (λ n. neg_ℤ (pos n)) o
integer_minus xs o e m =
    cond-true _ _ _ (eq-eqb _ _ e) ∙ ap (λ ys. option_map (λ n. neg_ℤ (pos n)) (magnitude ys)) (sym (take_rest xs 1))
    ∙ ap (option_map (λ n. neg_ℤ (pos n))) (sym m)

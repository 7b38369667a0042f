-- Splits at the first mark.
use Rattle.std.proofs.Common.{◌≡◌, ℕ, zero, suc, ◌<◌, Bool, true, false, eqb, List, [], ◌∷◌, ◌++◌, length, get_or, take, drop, Some, None, sym, refl, ap, ◌∙◌, arith}
use Rattle.std.proofs.lemmas.Bool.{cond-true, cond-false, eq-eqb, ne_eqb, eqb-true}
use Rattle.std.specs.Option.{option_map}
use Rattle.script.specs.Splits.{Split, longer, split_once}
use Rattle.script.proofs.Options.{never, same, image}

-- a split at a place where the mark stands, if it stands nowhere before
pub found : (mark : ℕ) (xs : List ℕ) (i : ℕ) → i < length xs → get_or xs i 0 ≡ mark → ((k : ℕ) → k < i → get_or xs k 0 ≡ mark → ⊥) → Some (record { before = take i xs; behind = drop (suc i) xs }) ≡ split_once mark xs
unfolding split_once
found mark [] i h e first = absurd (omega arith)
found mark (x ∷ xs) zero h e first = sym (cond-true _ _ _ (eq-eqb x mark e))
found mark (x ∷ xs) (suc i) h e first =
    ap (option_map (longer x)) (found mark xs i (omega arith) e (λ k l. first (suc k) (omega arith)))
    ∙ sym (cond-false _ _ _ (ne_eqb x mark (first 0 (omega arith))))

-- no split where it stands nowhere
pub nowhere : (mark : ℕ) (xs : List ℕ) → ((k : ℕ) → k < length xs → get_or xs k 0 ≡ mark → ⊥) → None ≡ split_once mark xs
unfolding split_once
nowhere mark [] none = refl
nowhere mark (x ∷ xs) none =
    ap (option_map (longer x)) (nowhere mark xs (λ k l. none (suc k) (omega arith)))
    ∙ sym (cond-false _ _ _ (ne_eqb x mark (none 0 (omega arith))))

-- the parts, with the mark between them
pub split_joins : (mark : ℕ) (xs : List ℕ) (s : Split) → split_once mark xs ≡ Some s → xs ≡ s.before ++ mark ∷ s.behind
unfolding split_once
split_joins mark [] s e = never e
split_joins mark (x ∷ xs) s e = go (eqb x mark) refl (split_joins mark xs)
  where
    go : (t : Bool) → eqb x mark ≡ t → ((r : Split) → split_once mark xs ≡ Some r → xs ≡ r.before ++ mark ∷ r.behind) → x ∷ xs ≡ s.before ++ mark ∷ s.behind
    go true p ih =
        let is : record { before = []; behind = xs } ≡ s = same (sym (cond-true _ _ _ p) ∙ e) in
        ap (λ (y : ℕ). y ∷ xs) (eqb-true x mark p) ∙ ap (λ (r : Split). r.before ++ mark ∷ r.behind) is
    go false p ih =
        let (r, found, is) = image (longer x) (split_once mark xs) s (sym (cond-false _ _ _ p) ∙ e) in
        ap (λ (l : List ℕ). x ∷ l) (ih r found) ∙ ap (λ (r : Split). r.before ++ mark ∷ r.behind) is

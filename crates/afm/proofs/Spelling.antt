-- A text and a keyword, byte for byte.
use Rattle.std.proofs.Common.{◌≡◌, ℕ, suc, Bool, true, false, ◌&&◌, eqb, List, [], ◌∷◌, length, get_or, sym, refl, ap, ◌∙◌}
use Rattle.std.proofs.Math.Dec.{eqb-zero-suc, eqb-suc-zero, eqb-suc-suc}
use Rattle.std.specs.Str.{bytes_eq}
use Rattle.afm.specs.Parts.{stands_at, is}

stands_past : (b i : ℕ) (w k : List ℕ) → stands_at (suc i) (b ∷ w) k ≡ stands_at i w k
stands_past b i w [] = refl
stands_past b i w (c ∷ k) = ap (λ t. eqb (get_or w i 0) c && t) (stands_past b (suc i) w k)

swapped : (x l s : Bool) → (x && (l && s)) ≡ (l && (x && s))
swapped true l s = refl
swapped false true s = refl
swapped false false s = refl

pub is_bytes_eq : (w k : List ℕ) → bytes_eq w k ≡ is w k
unfolding is
is_bytes_eq [] [] = refl
is_bytes_eq [] (c ∷ k) = simp eqb-zero-suc
is_bytes_eq (b ∷ w) [] = simp eqb-suc-zero
is_bytes_eq (b ∷ w) (c ∷ k) =
    ap (λ t. eqb b c && t) (is_bytes_eq w k) ∙ swapped (eqb b c) (eqb (length w) (length k)) (stands_at 0 w k)
    ∙ ap (λ t. eqb (length w) (length k) && (eqb b c && t)) (sym (stands_past b 0 w k)) ∙ simp eqb-suc-suc

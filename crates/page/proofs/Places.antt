-- A text by its places: what stands at one, and what is left from there.
use Rattle.std.proofs.Common.{◌≡◌, ℕ, zero, suc, ◌+◌, ◌-◌, ◌<◌, min, List, [], ◌∷◌, length, get_or, drop, Some, None, Option, sym, refl, ap, ◌∙◌, add-zero, suc-add, zero-add, add-one, arith, Bor}
use Rattle.std.proofs.lemmas.List.{same_lists, length-take, length-drop, get_or-take}
use Rattle.std.proofs.lemmas.Option.{slice_get_past, slice_get-get_or}
use Rattle.std.specs.Option.{option_map}
use Rattle.std.specs.Slice.{IsGetResult}
use Rattle.page.specs.Texts.{seen, part}

pub drop_seen : (t : List ℕ) (i c : ℕ) → seen t i ≡ Some c → drop i t ≡ c ∷ drop (i + 1) t
drop_seen [] i c e = let z : ◌≡◌ {A = ℕ} 0 1 = cc in absurd (omega arith)
drop_seen (x ∷ t) zero c e = let h : x ≡ c = cc in ap (λ y. y ∷ t) h
drop_seen (x ∷ t) (suc i) c e = rw add-one (rw add-one at (drop_seen t i c e))

pub drop_unseen : (t : List ℕ) (i : ℕ) → seen t i ≡ None → drop i t ≡ []
drop_unseen [] zero e = refl
drop_unseen [] (suc i) e = refl
drop_unseen (x ∷ t) zero e = let z : ◌≡◌ {A = ℕ} 0 1 = cc in absurd (omega arith)
drop_unseen (x ∷ t) (suc i) e = drop_unseen t i e

pub seen_drop : (t : List ℕ) (s i : ℕ) → seen (drop s t) i ≡ seen t (s + i)
seen_drop t zero i = rw zero-add
seen_drop [] (suc s) i = refl
seen_drop (x ∷ t) (suc s) i = rw suc-add (seen_drop t s i)

pub seen_next : (t : List ℕ) (s : ℕ) → seen (drop s t) 0 ≡ seen t s
seen_next t s = seen_drop t s 0 ∙ ap (seen t) (add-zero s)

pub seen_within : (t : List ℕ) (i c : ℕ) → seen t i ≡ Some c → i < length t
seen_within [] i c e = let z : ◌≡◌ {A = ℕ} 0 1 = cc in absurd (omega arith)
seen_within (x ∷ t) zero c e = omega arith
seen_within (x ∷ t) (suc i) c e = let h = seen_within t i c e in omega arith

-- what `get` of a slice finds
pub item_seen : (t : List ℕ) (i : ℕ) (r : Option (Bor ℕ)) → IsGetResult t i i r → option_map (λ x. x.now) r ≡ seen t i
item_seen t i None h = sym (slice_get_past t i h.3)
item_seen t i (Some x) h = sym (slice_get-get_or t i x.now h.3.0 ∙ ap Some (sym h.1))

-- a part that is cut to the text
pub part_within : (t : List ℕ) (s e : ℕ) → part t (min s (min e (length t))) (min e (length t)) ≡ part t s e
part_within t s e = same_lists (part t from to) (part t s e) (simp (length-take, length-drop) (omega arith)) (λ k d o.
    let long : length (part t from to) ≡ min (to - from) (length t - from) = length-take (to - from) (drop from t) ∙ ap (min (to - from)) (length-drop from t) in
    let in-from : k < to - from = omega arith in
    let in-s : k < e - s = omega arith in
    let same : from ≡ s = omega arith in
    get_or-take (to - from) (drop from t) k d in-from ∙ ap (λ (i : ℕ). get_or (drop i t) k d) same ∙ sym (get_or-take (e - s) (drop s t) k d in-s))
  where
    to : ℕ
    to = min e (length t)

    from : ℕ
    from = min s to

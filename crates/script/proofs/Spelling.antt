-- Spelling a written text out, character by character.
use Rattle.std.proofs.Common.{◌≡◌, ℕ, ◌+◌, ◌<◌, ◌≤◌, List, [], ◌∷◌, ◌++◌, length, get_or, take, drop, set, Some, None, Option, sym, refl, ap, ◌∙◌, arith}
use Rattle.std.proofs.lemmas.List.{append_assoc, append-nil, length-append, length-take-le, nil_from_length, take_more_set}
use Rattle.std.proofs.lemmas.Bool.{cond-true, cond-false, eq-eqb, ne_eqb, le-leb, lt-leb}
use Rattle.std.specs.Option.{option_map}
use Rattle.page.specs.Texts.{most_characters}
use Rattle.script.specs.Commands.{backslash}
use Rattle.script.specs.Reading.{escape, spelt, short, Begins}

-- ---- what is written first
pub begins_escape : (b c : ℕ) (w : List ℕ) (e : ℕ) → b ≡ backslash → escape c ≡ Some e → Begins (b ∷ c ∷ w) e w
unfolding spelt
begins_escape b c w e p q = record { spelt_on = rw (p, q); shorter = omega arith }

pub begins_itself : (b : ℕ) (w : List ℕ) → (b ≡ backslash → ⊥) → spelt (b ∷ w) ≡ option_map (λ t. b ∷ t) (spelt w)
unfolding spelt
begins_itself b [] ne = cond-false _ _ _ (ne_eqb b backslash ne)
begins_itself b (c ∷ w) ne = rw (ne_eqb b backslash ne, spelt)

pub lone : (b : ℕ) → b ≡ backslash → spelt (b ∷ []) ≡ None
unfolding spelt
lone b p = cond-true _ _ _ (eq-eqb b backslash p)

pub no_escape : (b c : ℕ) (w : List ℕ) → b ≡ backslash → escape c ≡ None → spelt (b ∷ c ∷ w) ≡ None
unfolding spelt
no_escape b c w p q = rw (p, q)

-- ---- the first character of a slice
pub escape_at : (xs : List ℕ) (e : ℕ) → 2 ≤ length xs → get_or xs 0 0 ≡ backslash → escape (get_or xs 1 0) ≡ Some e → Begins xs e (drop 2 xs)
escape_at [] e h p q = absurd (omega arith)
escape_at (b ∷ []) e h p q = absurd (omega arith)
escape_at (b ∷ c ∷ w) e h p q = begins_escape b c w e p q

pub itself_at : (xs : List ℕ) → 1 ≤ length xs → (get_or xs 0 0 ≡ backslash → ⊥) → Begins xs (get_or xs 0 0) (drop 1 xs)
itself_at [] h ne = absurd (omega arith)
itself_at (b ∷ w) h ne = record { spelt_on = begins_itself b w ne; shorter = omega arith }

pub lone_at : (xs : List ℕ) → 1 ≤ length xs → length xs < 2 → get_or xs 0 0 ≡ backslash → spelt xs ≡ None
lone_at [] h l p = absurd (omega arith)
lone_at (b ∷ []) h l p = lone b p
lone_at (b ∷ c ∷ w) h l p = absurd (omega arith)

pub stray_at : (xs : List ℕ) → 2 ≤ length xs → get_or xs 0 0 ≡ backslash → escape (get_or xs 1 0) ≡ None → spelt xs ≡ None
stray_at [] h p q = absurd (omega arith)
stray_at (b ∷ []) h p q = absurd (omega arith)
stray_at (b ∷ c ∷ w) h p q = no_escape b c w p q

-- ---- the characters spelt so far stand at the front of the buffer
abbrev pub SpeltUpto : List ℕ → List ℕ → ℕ → List ℕ → Type 0
SpeltUpto written buffer len rest = spelt written ≡ option_map (λ t. take len buffer ++ t) (spelt rest)

joined : (front : List ℕ) (c : ℕ) (o : Option (List ℕ)) → option_map (λ t. front ++ t) (option_map (λ t. c ∷ t) o) ≡ option_map (λ t. (front ++ c ∷ []) ++ t) o
joined front c None = refl
joined front c (Some t) = ap Some (sym (append_assoc front (c ∷ []) t))

pub spelt_nothing : spelt [] ≡ Some []
unfolding spelt
spelt_nothing = refl

too_long : (front : List ℕ) (c : ℕ) (o : Option (List ℕ)) → most_characters ≤ length front → short (option_map (λ t. front ++ t) (option_map (λ t. c ∷ t) o)) ≡ None
too_long front c None h = refl
too_long front c (Some t) h =
    let long : most_characters < length (front ++ c ∷ t) = rw length-append (omega arith) in
    cond-false _ _ _ (lt-leb _ _ long)

module _ (written buffer : List ℕ) (len : ℕ) (rest : List ℕ) (upto : SpeltUpto written buffer len rest) where
  pub upto_more : (c : ℕ) (rest' : List ℕ) → len < length buffer → spelt rest ≡ option_map (λ t. c ∷ t) (spelt rest') → SpeltUpto written (set buffer len c) (len + 1) rest'
  upto_more c rest' h b =
      upto ∙ ap (option_map (λ t. take len buffer ++ t)) b ∙ joined (take len buffer) c (spelt rest')
      ∙ ap (λ (l : List ℕ). option_map (λ t. l ++ t) (spelt rest')) (sym (take_more_set buffer len c h))

  pub upto_all : length rest ≡ 0 → len ≤ length buffer → len ≤ most_characters → Some (take len buffer) ≡ short (spelt written)
  upto_all e h l =
      let few : length (take len buffer) ≤ most_characters = rw length-take-le l in
      let all : spelt written ≡ Some (take len buffer) = upto ∙ ap (option_map (λ t. take len buffer ++ t)) (ap spelt (nil_from_length rest e) ∙ spelt_nothing) ∙ ap Some (append-nil (take len buffer)) in
      sym (ap short all ∙ cond-true _ _ _ (le-leb _ _ few))

  -- the buffer is full, and one more character is written
  pub upto_full : (c : ℕ) (rest' : List ℕ) → spelt rest ≡ option_map (λ t. c ∷ t) (spelt rest') → len ≤ length buffer → most_characters ≤ len → None ≡ short (spelt written)
  upto_full c rest' b h f = sym (ap short (upto ∙ ap (option_map (λ t. take len buffer ++ t)) b) ∙ too_long (take len buffer) c (spelt rest') (rw length-take-le f))

-- Reading a line, by its letter and part by part.
use Rattle.std.proofs.Common.{◌≡◌, ℕ, ◌<◌, ◌≤◌, Bool, true, false, cond, eqb, List, [], ◌∷◌, length, get_or, drop, Some, None, Option, sym, refl, ap, ◌∙◌, arith}
use Rattle.std.proofs.lemmas.Bool.{cond-true, cond-false, eq-eqb, ne_eqb}
use Rattle.std.specs.Option.{option_map}
use Rattle.numerals.specs.Reading.{magnitude}
use Rattle.script.specs.Commands.{Command}
use Rattle.script.specs.Commands.Command.{replace, remeasure, refresh, show}
use Rattle.script.specs.Reading.{◌>>=◌, numbered, spelt, short, replacing, by_letter, command}

-- ---- a replace
with_text : ℕ → ℕ → Option (List ℕ) → Option Command
with_text at del o = ◌>>=◌ o (λ text. Some (replace at del text))

with_count : ℕ → Option (ℕ × List ℕ) → Option Command
with_count at o = ◌>>=◌ o (λ q. with_text at q.0 (short (spelt q.1)))

with_place : Option (ℕ × List ℕ) → Option Command
with_place o = ◌>>=◌ o (λ p. with_count p.0 (numbered p.1))

replacing_is : (rest : List ℕ) → replacing rest ≡ with_place (numbered rest)
unfolding replacing with_place with_count with_text
replacing_is rest = refl

pub no_place : (rest : List ℕ) → None ≡ numbered rest → None ≡ replacing rest
unfolding with_place
no_place rest e = ap with_place e ∙ sym (replacing_is rest)

module _ (rest : List ℕ) (at : ℕ) (rest' : List ℕ) (placed : Some (at, rest') ≡ numbered rest) where
  placed_is : with_count at (numbered rest') ≡ replacing rest
  unfolding with_place
  placed_is = ap with_place placed ∙ sym (replacing_is rest)

  pub no_count : None ≡ numbered rest' → None ≡ replacing rest
  unfolding with_count
  no_count e = ap (with_count at) e ∙ placed_is

  module _ (del : ℕ) (written : List ℕ) (counted : Some (del, written) ≡ numbered rest') where
    counted_is : with_text at del (short (spelt written)) ≡ replacing rest
    unfolding with_count
    counted_is = ap (with_count at) counted ∙ placed_is

    pub no_text : None ≡ short (spelt written) → None ≡ replacing rest
    unfolding with_text
    no_text e = ap (with_text at del) e ∙ counted_is

    pub all_read : (text : List ℕ) → Some text ≡ short (spelt written) → Some (replace at del text) ≡ replacing rest
    unfolding with_text
    all_read text e = ap (with_text at del) e ∙ counted_is

-- ---- a line
lettered : (xs : List ℕ) (letter : ℕ) → 2 ≤ length xs → get_or xs 0 0 ≡ letter → get_or xs 1 0 ≡ 32 → command xs ≡ by_letter letter (drop 2 xs)
unfolding command
lettered [] letter h e s = absurd (omega arith)
lettered (c ∷ []) letter h e s = absurd (omega arith)
lettered (c ∷ b ∷ xs) letter h e s = cond-true _ _ _ (eq-eqb b 32 s) ∙ ap (λ (l : ℕ). by_letter l xs) e

module _ (xs : List ℕ) (two : 2 ≤ length xs) (space : get_or xs 1 0 ≡ 32) where
  pub r_at : get_or xs 0 0 ≡ 82 → replacing (drop 2 xs) ≡ command xs
  r_at e = sym (lettered xs 82 two e space)

  pub m_at : get_or xs 0 0 ≡ 77 → option_map remeasure (magnitude (drop 2 xs)) ≡ command xs
  m_at e = sym (lettered xs 77 two e space)

  pub s_at : get_or xs 0 0 ≡ 83 → option_map show (magnitude (drop 2 xs)) ≡ command xs
  s_at e = sym (lettered xs 83 two e space)

pub f_at : (xs : List ℕ) → length xs ≡ 1 → get_or xs 0 0 ≡ 70 → Some refresh ≡ command xs
unfolding command
f_at [] h e = absurd (omega arith)
f_at (c ∷ []) h e = sym (cond-true _ _ _ (eq-eqb c 70 e))
f_at (c ∷ b ∷ xs) h e = absurd (omega arith)

pub none_short : (xs : List ℕ) → length xs < 2 → (length xs ≡ 1 → get_or xs 0 0 ≡ 70 → ⊥) → None ≡ command xs
unfolding command
none_short [] h f = refl
none_short (c ∷ []) h f = sym (cond-false _ _ _ (ne_eqb c 70 (f refl)))
none_short (c ∷ b ∷ xs) h f = absurd (omega arith)

pub none_spaced : (xs : List ℕ) → 2 ≤ length xs → (get_or xs 1 0 ≡ 32 → ⊥) → None ≡ command xs
unfolding command
none_spaced [] h s = absurd (omega arith)
none_spaced (c ∷ []) h s = absurd (omega arith)
none_spaced (c ∷ b ∷ xs) h s = sym (cond-false _ _ _ (ne_eqb b 32 s))

pub none_lettered : (xs : List ℕ) → 2 ≤ length xs → (get_or xs 0 0 ≡ 82 → ⊥) → (get_or xs 0 0 ≡ 77 → ⊥) → (get_or xs 0 0 ≡ 83 → ⊥) → None ≡ command xs
unfolding command
none_lettered [] h r m s = absurd (omega arith)
none_lettered (c ∷ []) h r m s = absurd (omega arith)
none_lettered (c ∷ b ∷ xs) h r m s = go (eqb b 32)
  where
    none : by_letter c xs ≡ None
    none = cond-false _ _ _ (ne_eqb c 82 r) ∙ cond-false _ _ _ (ne_eqb c 77 m) ∙ cond-false _ _ _ (ne_eqb c 83 s)

    go : (t : Bool) → None ≡ cond t (by_letter c xs) None
    go true = sym none
    go false = refl

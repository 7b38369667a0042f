-- The lines of a script, and of what is left of one.
use Rattle.std.proofs.Common.{◌≡◌, ℕ, zero, suc, ◌≤◌, Bool, true, false, cond, eqb, List, [], ◌∷◌, ◌++◌, length, Some, None, Option, sym, refl, ap, ◌∙◌, subst, arith}
use Rattle.std.proofs.lemmas.List.{length-append}
use Rattle.std.proofs.lemmas.Bool.{cond-false, ne_eqb, eqb-true, eqb-false}
use Rattle.std.specs.Option.{option_map}
use Rattle.page.specs.Texts.{newline}
use Rattle.script.specs.Lines.{onto, lines, Plain, Lined}
use Rattle.script.specs.Lines.Lined.{over, ended, last}
use Rattle.script.specs.Splits.{Split, longer, split_once}
use Rattle.script.specs.Theorems.{LineLaws}

-- a last line, if it is not empty
abbrev pub whole : List ℕ → List (List ℕ)
whole [] = []
whole (b ∷ bs) = (b ∷ bs) ∷ []

-- the lines of xs are ls, by where its first newline stands
abbrev SplitLines : Option Split → List ℕ → List (List ℕ) → Type 0
SplitLines None xs ls = ls ≡ whole xs
SplitLines (Some s) xs ls = ls ≡ s.before ∷ lines s.behind

onto_whole : (b : ℕ) (bs : List ℕ) → onto b (whole bs) ≡ (b ∷ bs) ∷ []
onto_whole b [] = refl
onto_whole b (c ∷ bs) = refl

split_step : (t : Bool) (o : Option Split) (b : ℕ) (bs : List ℕ) → SplitLines o bs (lines bs) → SplitLines (cond t (Some (record { before = []; behind = bs })) (option_map (longer b) o)) (b ∷ bs) (cond t ([] ∷ lines bs) (onto b (lines bs)))
split_step true o b bs h = refl
split_step false None b bs h = ap (onto b) h ∙ onto_whole b bs
split_step false (Some s) b bs h = ap (onto b) h

split_lines : (xs : List ℕ) → SplitLines (split_once newline xs) xs (lines xs)
unfolding split_once lines
split_lines [] = refl
split_lines (b ∷ bs) = split_step (eqb b newline) (split_once newline bs) b bs (split_lines bs)

pub at_newline : (xs line rest : List ℕ) → Some (record { before = line; behind = rest }) ≡ split_once newline xs → lines xs ≡ line ∷ lines rest
at_newline xs line rest e = subst (λ (o : Option Split). SplitLines o xs (lines xs)) (sym e) (split_lines xs)

pub at_last : (xs : List ℕ) → None ≡ split_once newline xs → lines xs ≡ whole xs
at_last xs e = subst (λ (o : Option Split). SplitLines o xs (lines xs)) (sym e) (split_lines xs)

pub whole_some : (xs : List ℕ) → (length xs ≡ 0 → ⊥) → whole xs ≡ xs ∷ []
whole_some [] ne = absurd (ne refl)
whole_some (b ∷ bs) ne = refl

pub lines_none : lines [] ≡ []
unfolding lines
lines_none = refl

-- ---- how long, and how many
length-onto : (b : ℕ) (ls : List (List ℕ)) → length (onto b ls) ≤ suc (length ls)
length-onto b [] = omega arith
length-onto b (l ∷ ls) = omega arith

few : (xs : List ℕ) → length (lines xs) ≤ length xs
unfolding lines
few [] = omega arith
few (b ∷ bs) = go (eqb b newline) (few bs)
  where
    go : (t : Bool) → length (lines bs) ≤ length bs → length (cond t ([] ∷ lines bs) (onto b (lines bs))) ≤ suc (length bs)
    go true h = omega arith
    go false h = omega (arith, length-onto b (lines bs))

first_within : {xs line : List ℕ} {ls : List (List ℕ)} → Lined xs (line ∷ ls) → length line ≤ length xs
first_within (ended line rest ls p r) = simp length-append (omega arith)
first_within (last b bs p) = omega arith

-- ---- lines by their ends
plain_none : Plain []
plain_none k e = let z : ◌≡◌ {A = ℕ} 0 1 = cc in absurd (omega arith)

plain_more : (b : ℕ) (bs : List ℕ) → (b ≡ newline → ⊥) → Plain bs → Plain (b ∷ bs)
plain_more b bs ne p zero e = ne (cc)
plain_more b bs ne p (suc k) e = p k e

onto_lined : (b : ℕ) → (b ≡ newline → ⊥) → {bs : List ℕ} {ls : List (List ℕ)} → Lined bs ls → Lined (b ∷ bs) (onto b ls)
onto_lined b ne over = last b [] (plain_more b [] ne plain_none)
onto_lined b ne (ended line rest ls p r) = ended (b ∷ line) rest ls (plain_more b line ne p) r
onto_lined b ne (last c line p) = last b (c ∷ line) (plain_more b (c ∷ line) ne p)

by_ends : (xs : List ℕ) → Lined xs (lines xs)
unfolding lines
by_ends [] = over
by_ends (b ∷ bs) = go (eqb b newline) refl (by_ends bs)
  where
    go : (t : Bool) → eqb b newline ≡ t → Lined bs (lines bs) → Lined (b ∷ bs) (cond t ([] ∷ lines bs) (onto b (lines bs)))
    go true e r = subst (λ (b : ℕ). Lined (b ∷ bs) ([] ∷ lines bs)) (sym (eqb-true b newline e)) (ended [] bs (lines bs) plain_none r)
    go false e r = onto_lined b (eqb-false b newline e) r

-- what stands before a newline is a line
ended_is : (line rest : List ℕ) → Plain line → line ∷ lines rest ≡ lines (line ++ newline ∷ rest)
unfolding lines
ended_is [] rest p = refl
ended_is (b ∷ line) rest p = ap (onto b) (ended_is line rest (λ k. p (suc k))) ∙ sym (cond-false _ _ _ (ne_eqb b newline (λ e. p 0 (ap Some e))))

last_is : (b : ℕ) (line : List ℕ) → Plain (b ∷ line) → (b ∷ line) ∷ [] ≡ lines (b ∷ line)
unfolding lines
last_is b [] p = sym (cond-false _ _ _ (ne_eqb b newline (λ e. p 0 (ap Some e))))
last_is b (c ∷ line) p = ap (onto b) (last_is c line (λ k. p (suc k))) ∙ sym (cond-false _ _ _ (ne_eqb b newline (λ e. p 0 (ap Some e))))

only_one : {xs : List ℕ} {ls : List (List ℕ)} → Lined xs ls → ls ≡ lines xs
only_one over = sym lines_none
only_one (ended line rest ls p r) = ap (λ (ls : List (List ℕ)). line ∷ ls) (only_one r) ∙ ended_is line rest p
only_one (last b line p) = last_is b line p

pub line_laws : LineLaws
line_laws = record {
  by_ends = by_ends;
  only_one = λ script ls r. only_one r;
  few = few;
  bound = λ script line ls e. first_within (subst (Lined script) e (by_ends script));
}

-- A line is read as the grammar says.
use Rattle.std.proofs.Common.{◌≡◌, ℕ, ◌+◌, ◌-◌, ◌*◌, ◌≤◌, Bool, true, false, ◌&&◌, eqb, leb, ◌⊎◌, List, [], ◌∷◌, ◌++◌, length, Some, None, codes, Option, sym, refl, ap, ◌∙◌, subst, subst₂, inl, inr, arith}
use Rattle.std.proofs.lemmas.Bool.{cond-true, cond-false, ne_eqb, eqb-true, leb-true, le-leb, and_parts, cases_eq}
use Rattle.std.specs.Option.{option_map}
use Rattle.numerals.specs.Reading.{digits, magnitude}
use Rattle.page.specs.Texts.{most_characters, newline}
use Rattle.script.specs.Commands.{Command, Number, Written, Reads, backslash}
use Rattle.script.specs.Commands.Command.{replace, remeasure, show}
use Rattle.script.specs.Commands.Written.{nothing, itself, escaped_newline, escaped_backslash}
use Rattle.script.specs.Commands.Reads.{r_line, m_line, f_line, s_line}
use Rattle.script.specs.Reading.{◌>>=◌, numbered, spelt, short, replacing, by_letter, command}
use Rattle.script.specs.Splits.{Split, longer, split_once}
use Rattle.script.specs.Theorems.{CommandLaws}
use Rattle.script.proofs.Options.{never, same, bound, image}
use Rattle.script.proofs.ReadSteps.{all_read}
use Rattle.script.proofs.Spelling.{begins_escape, begins_itself, no_escape, lone, spelt_nothing}
use Rattle.script.proofs.Splitting.{split_joins}

-- ---- numbers and the space behind them
first_space : (ds rest : List ℕ) (v n : ℕ) → digits v ds ≡ Some n → split_once 32 (ds ++ 32 ∷ rest) ≡ Some (record { before = ds; behind = rest })
unfolding digits split_once
first_space [] rest v n e = refl
first_space (d ∷ ds) rest v n e = go (leb 48 d && leb d 57) refl (λ p. first_space ds rest (v * 10 + (d - 48)) n (sym (cond-true _ _ _ p) ∙ e))
  where
    go : (t : Bool) → (leb 48 d && leb d 57) ≡ t → ((leb 48 d && leb d 57) ≡ true → split_once 32 (ds ++ 32 ∷ rest) ≡ Some (record { before = ds; behind = rest })) → split_once 32 (d ∷ ds ++ 32 ∷ rest) ≡ Some (record { before = d ∷ ds; behind = rest })
    go true p ih =
        let low : 48 ≤ d = leb-true 48 d (and_parts _ _ p).0 in
        cond-false _ _ _ (ne_eqb d 32 (omega arith)) ∙ ap (option_map (longer d)) (ih p)
    go false p ih = never (sym (cond-false _ _ _ p) ∙ e)

number_digits : (ds : List ℕ) (n : ℕ) → Number ds n → digits 0 ds ≡ Some n
number_digits ds n e = go (leb 1 (length ds) && leb (length ds) 5) refl
  where
    go : (t : Bool) → (leb 1 (length ds) && leb (length ds) 5) ≡ t → digits 0 ds ≡ Some n
    go true p = sym (cond-true _ _ _ p) ∙ e
    go false p = never (sym (cond-false _ _ _ p) ∙ e)

numbered_from : (ds rest : List ℕ) (n : ℕ) → Number ds n → numbered (ds ++ 32 ∷ rest) ≡ Some (n, rest)
numbered_from ds rest n e =
    let split = first_space ds rest 0 n (number_digits ds n e) in
    ap (λ (o : Option Split). ◌>>=◌ o (λ s. ◌>>=◌ (magnitude s.before) (λ m. Some (m, s.behind)))) split
    ∙ ap (λ (o : Option ℕ). ◌>>=◌ o (λ m. Some (m, rest))) e

-- what a number and its space were read from
record Numbered (xs : List ℕ) (n : ℕ) (rest : List ℕ) : Type 0 where
  ds : List ℕ
  number : Number ds n
  joins : xs ≡ ds ++ 32 ∷ rest

numbered_to : (xs : List ℕ) (n : ℕ) (rest : List ℕ) → numbered xs ≡ Some (n, rest) → Numbered xs n rest
numbered_to xs n rest e =
    let (s, split, e') = bound (split_once 32 xs) (λ (s : Split). ◌>>=◌ (magnitude s.before) (λ m. Some (m, s.behind))) (n, rest) e in
    let (m, is, e'') = bound (magnitude s.before) (λ (m : ℕ). Some (m, s.behind)) (n, rest) e' in
    let pair : (m, s.behind) ≡ (n, rest) = same e'' in
    record {
      ds = s.before;
      number = is ∙ ap (λ (p : ℕ × List ℕ). Some p.0) pair;
      joins = split_joins 32 xs s split ∙ ap (λ (p : ℕ × List ℕ). s.before ++ 32 ∷ p.1) pair;
    }

-- ---- written texts
spelt_from : {w t : List ℕ} → Written w t → spelt w ≡ Some t
spelt_from nothing = spelt_nothing
spelt_from (itself {b} {written} ne r) = begins_itself b written ne ∙ ap (option_map (λ t. b ∷ t)) (spelt_from r)
spelt_from (escaped_newline {written} r) = (begins_escape backslash 110 written newline refl refl).spelt_on ∙ ap (option_map (λ t. newline ∷ t)) (spelt_from r)
spelt_from (escaped_backslash {written} r) = (begins_escape backslash backslash written backslash refl refl).spelt_on ∙ ap (option_map (λ t. backslash ∷ t)) (spelt_from r)

-- a first character, and what is written behind it
plain_to : (b : ℕ) (w t : List ℕ) → (b ≡ backslash → ⊥) → spelt (b ∷ w) ≡ Some t → ((t' : List ℕ) → spelt w ≡ Some t' → Written w t') → Written (b ∷ w) t
plain_to b w t ne e ih =
    let (t', found, is) = image (λ (t' : List ℕ). b ∷ t') (spelt w) t (sym (begins_itself b w ne) ∙ e) in
    subst (Written (b ∷ w)) is (itself ne (ih t' found))

escape_to : (c : ℕ) (w t : List ℕ) → spelt (backslash ∷ c ∷ w) ≡ Some t → ((t' : List ℕ) → spelt w ≡ Some t' → Written w t') → Written (backslash ∷ c ∷ w) t
escape_to c w t e ih = go (eqb c 110) refl (eqb c backslash) refl
  where
    go : (n : Bool) → eqb c 110 ≡ n → (b : Bool) → eqb c backslash ≡ b → Written (backslash ∷ c ∷ w) t
    go true p b q =
        let (t', found, is) = image (λ (t' : List ℕ). newline ∷ t') (spelt w) t (sym (begins_escape backslash c w newline refl (cond-true _ _ _ p)).spelt_on ∙ e) in
        subst₂ (λ (c : ℕ) (t : List ℕ). Written (backslash ∷ c ∷ w) t) (sym (eqb-true c 110 p)) is (escaped_newline (ih t' found))
    go false p true q =
        let (t', found, is) = image (λ (t' : List ℕ). backslash ∷ t') (spelt w) t (sym (begins_escape backslash c w backslash refl (cond-false _ _ _ p ∙ cond-true _ _ _ q)).spelt_on ∙ e) in
        subst₂ (λ (c : ℕ) (t : List ℕ). Written (backslash ∷ c ∷ w) t) (sym (eqb-true c backslash q)) is (escaped_backslash (ih t' found))
    go false p false q = never (sym (no_escape backslash c w refl (cond-false _ _ _ p ∙ cond-false _ _ _ q)) ∙ e)

spelt_to : (w t : List ℕ) → spelt w ≡ Some t → Written w t
spelt_to [] t e = subst (Written []) (same (sym spelt_nothing ∙ e)) nothing
spelt_to (b ∷ []) t e = go (cases_eq b backslash)
  where
    go : (b ≡ backslash) ⊎ (b ≡ backslash → ⊥) → Written (b ∷ []) t
    go (inl p) = never (sym (lone b p) ∙ e)
    go (inr ne) = plain_to b [] t ne e (λ t' e'. subst (Written []) (same (sym spelt_nothing ∙ e')) nothing)
spelt_to (b ∷ c ∷ w) t e = go (cases_eq b backslash) (spelt_to w) (spelt_to (c ∷ w))
  where
    go : (b ≡ backslash) ⊎ (b ≡ backslash → ⊥) → ((t' : List ℕ) → spelt w ≡ Some t' → Written w t') → ((t' : List ℕ) → spelt (c ∷ w) ≡ Some t' → Written (c ∷ w) t') → Written (b ∷ c ∷ w) t
    go (inl p) ih ih' = subst (λ (b : ℕ). Written (b ∷ c ∷ w) t) (sym p) (escape_to c w t (ap (λ (b : ℕ). spelt (b ∷ c ∷ w)) (sym p) ∙ e) ih)
    go (inr ne) ih ih' = plain_to b (c ∷ w) t ne e ih'

short_to : (o : Option (List ℕ)) (t : List ℕ) → short o ≡ Some t → (o ≡ Some t) × (length t ≤ most_characters)
short_to None t e = never e
short_to (Some s) t e = go (leb (length s) most_characters) refl
  where
    go : (b : Bool) → leb (length s) most_characters ≡ b → (Some s ≡ Some t) × (length t ≤ most_characters)
    go true p =
        let is = sym (cond-true _ (Some s) _ p) ∙ e in
        (is, subst (λ (l : List ℕ). length l ≤ most_characters) (same is) (leb-true _ _ p))
    go false p = never (sym (cond-false _ (Some s) _ p) ∙ e)

short_from : (t : List ℕ) → length t ≤ most_characters → short (Some t) ≡ Some t
short_from t h = cond-true _ _ _ (le-leb _ _ h)

-- ---- lines
line_from : (line : List ℕ) (c : Command) → Reads line c → command line ≡ Some c
unfolding command
line_from line c (r_line at del first second written text p q w l) =
    sym (all_read _ at _ (sym (numbered_from first _ at p)) del written (sym (numbered_from second written del q)) text (sym (ap short (spelt_from w) ∙ short_from text l)))
line_from line c (m_line units ds p) = ap (option_map remeasure) p
line_from line c f_line = refl
line_from line c (s_line row ds p) = ap (option_map show) p

replace_read : (rest : List ℕ) (at : ℕ) (rest' : List ℕ) (del : ℕ) (written text : List ℕ) → numbered rest ≡ Some (at, rest') → numbered rest' ≡ Some (del, written) → short (spelt written) ≡ Some text → Reads (codes "R " ++ rest) (replace at del text)
replace_read rest at rest' del written text e₁ e₂ e₃ =
    let n = numbered_to rest at rest' e₁ in
    let m = numbered_to rest' del written e₂ in
    let t = short_to (spelt written) text e₃ in
    subst (λ (l : List ℕ). Reads (codes "R " ++ l) (replace at del text)) (sym (n.joins ∙ ap (λ (l : List ℕ). n.ds ++ 32 ∷ l) m.joins))
    (r_line at del n.ds m.ds written text n.number m.number (spelt_to written text t.0) t.1)

replace_to : (rest : List ℕ) (c : Command) → replacing rest ≡ Some c → Reads (codes "R " ++ rest) c
unfolding replacing
replace_to rest c e =
    let (p, e₁, f₁) = bound (numbered rest) _ c e in
    let (q, e₂, f₂) = bound (numbered p.1) _ c f₁ in
    let (t, e₃, f₃) = bound (short (spelt q.1)) _ c f₂ in
    subst (Reads (codes "R " ++ rest)) (same f₃) (replace_read rest p.0 p.1 q.0 q.1 t e₁ e₂ e₃)

letter_to : (l : ℕ) (rest : List ℕ) (c : Command) → by_letter l rest ≡ Some c → Reads (l ∷ codes " " ++ rest) c
letter_to l rest c e = go (eqb l 82) refl (eqb l 77) refl (eqb l 83) refl
  where
    at : (k : ℕ) → eqb l k ≡ true → Reads (k ∷ codes " " ++ rest) c → Reads (l ∷ codes " " ++ rest) c
    at k p r = subst (λ (k : ℕ). Reads (k ∷ codes " " ++ rest) c) (sym (eqb-true l k p)) r

    go : (r : Bool) → eqb l 82 ≡ r → (m : Bool) → eqb l 77 ≡ m → (s : Bool) → eqb l 83 ≡ s → Reads (l ∷ codes " " ++ rest) c
    go true p m q s r = at 82 p (replace_to rest c (sym (cond-true _ _ _ p) ∙ e))
    go false p true q s r =
        let (n, is, same-c) = image remeasure (magnitude rest) c (sym (cond-false _ _ _ p ∙ cond-true _ _ _ q) ∙ e) in
        at 77 q (subst (Reads (codes "M " ++ rest)) same-c (m_line n rest is))
    go false p false q true r =
        let (n, is, same-c) = image show (magnitude rest) c (sym (cond-false _ _ _ p ∙ cond-false _ _ _ q ∙ cond-true _ _ _ r) ∙ e) in
        at 83 r (subst (Reads (codes "S " ++ rest)) same-c (s_line n rest is))
    go false p false q false r = never (sym (cond-false _ _ _ p ∙ cond-false _ _ _ q ∙ cond-false _ _ _ r) ∙ e)

line_to : (line : List ℕ) (c : Command) → command line ≡ Some c → Reads line c
unfolding command
line_to [] c e = never e
line_to (l ∷ []) c e = go (eqb l 70) refl
  where
    go : (t : Bool) → eqb l 70 ≡ t → Reads (l ∷ []) c
    go true p = subst₂ (λ (l : ℕ) (c : Command). Reads (l ∷ []) c) (sym (eqb-true l 70 p)) (same (sym (cond-true _ _ _ p) ∙ e)) f_line
    go false p = never (sym (cond-false _ _ _ p) ∙ e)
line_to (l ∷ b ∷ rest) c e = go (eqb b 32) refl
  where
    go : (t : Bool) → eqb b 32 ≡ t → Reads (l ∷ b ∷ rest) c
    go true p = subst (λ (b : ℕ). Reads (l ∷ b ∷ rest) c) (sym (eqb-true b 32 p)) (letter_to l rest c (sym (cond-true _ _ _ p) ∙ e))
    go false p = never (sym (cond-false _ _ _ p) ∙ e)

pub command_laws : CommandLaws
command_laws = record {
  by_grammar = line_to;
  all_read = line_from;
  only_one = λ line c c' r r'. same (sym (line_from line c r) ∙ line_from line c' r');
}

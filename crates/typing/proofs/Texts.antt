-- Characters that are typed one after another.
use Rattle.std.proofs.Common.{◌≡◌, ℕ, ◌+◌, ◌%◌, ◌^◌, ◌<◌, List, [], ◌∷◌, ◌++◌, length, get_or, take, Some, None, Ok, Err, Option, sym, refl, ap, ◌∙◌, subst, add_assoc, arith}
use native.Mathlib.Nat.{mod-add-mod}
use Rattle.std.proofs.lemmas.List.{append_assoc, append-nil, take_more}
use Rattle.std.proofs.lemmas.Option.{slice_get-get_or}
use Rattle.reflow.specs.Screens.{Shown}
use Rattle.reflow.specs.declared.repaint.Repaint.{Repaint}
use Rattle.sheet.specs.Clean.{Making, Clean, clean_rows, settle_by}
use Rattle.sheet.specs.Histories.{History, State, Follows, clean_after, clean_screen, screen_after, due}
use Rattle.typing.specs.Typing.{Led, Key, Keys, Ended, typed, settled_after, rows_broken, typed_text, rows_broken_for, rows_laid_for}
use Rattle.typing.specs.declared.fault.KeyFault.{KeyFault}
use Rattle.typing.specs.declared.fault.KeyFault.TheVariants.{Refused, Unsettled, Memory}
use Rattle.typing.specs.declared.keys.Effort.{Effort}

-- one more character
module _ (k : Making) (x : ℕ) where
  typed_more : (c : Clean) (xs : List ℕ) → typed_text k c (xs ++ x ∷ []) ≡ settled_after (typed k (typed_text k c xs) x)
  unfolding typed_text
  typed_more c [] = refl
  typed_more c (y ∷ xs) = typed_more (settled_after (typed k c y)) xs

  broken_more : (c : Clean) (xs : List ℕ) → rows_broken_for k c (xs ++ x ∷ []) ≡ rows_broken_for k c xs + rows_broken (typed k (typed_text k c xs) x).next.owed
  unfolding typed_text rows_broken_for
  broken_more c [] = omega arith
  broken_more c (y ∷ xs) =
      ap (λ (n : ℕ). rows_broken (typed k c y).next.owed + n) (broken_more (settled_after (typed k c y)) xs)
      ∙ sym (add_assoc (rows_broken (typed k c y).next.owed) (rows_broken_for k (settled_after (typed k c y)) xs) (rows_broken (typed k (typed_text k (settled_after (typed k c y)) xs) x).next.owed))

  laid_more : (c : Clean) (xs : List ℕ) → rows_laid_for k c (xs ++ x ∷ []) ≡ rows_laid_for k c xs + length (clean_rows k (settled_after (typed k (typed_text k c xs) x)))
  unfolding typed_text rows_laid_for
  laid_more c [] = omega arith
  laid_more c (y ∷ xs) =
      let c' = settled_after (typed k c y) in
      ap (λ (n : ℕ). length (clean_rows k c') + n) (laid_more c' xs)
      ∙ sym (add_assoc (length (clean_rows k c')) (rows_laid_for k c' xs) (length (clean_rows k (settled_after (typed k (typed_text k c' xs) x)))))

-- settling leaves the text
settled_text : (c : Clean) (o : Option Repaint) → (settle_by c o).next.text ≡ c.text
settled_text c None = refl
settled_text c (Some p) = refl

-- a sum modulo m, one term more
one_term_more : (m a n b : ℕ) → a ≡ n % m → (a + b) % m ≡ (n + b) % m
one_term_more m a n b e = ap (λ (i : ℕ). (i + b) % m) e ∙ mod-add-mod n m b

-- what is led on from where a sheet was led
led_on : (k : Making) (h : History) (s : State) (screen : List Shown) (c : Clean) (l : Led k h s screen c) (s' : State) (screen' : List Shown) (c' : Clean) → Led k (l.later ++ h) s' screen' c' → Led k h s' screen' c'
led_on k h s screen c l s' screen' c' m =
    let same : m.later ++ (l.later ++ h) ≡ (m.later ++ l.later) ++ h = sym (append_assoc m.later l.later h) in
    record {
      later = m.later ++ l.later;
      follows = subst (λ (x : History). Follows k x s') same m.follows;
      clean = subst (λ (x : History). clean_after k x ≡ c') same m.clean;
      screen_is = subst (λ (x : History). screen' ≡ screen_after k x) same m.screen_is;
      right = m.right;
    }

module _ (k : Making) (h : History) where
  -- before the first character
  pub none_typed : (xs : List ℕ) (s : State) (screen : List Shown) → Follows k h s → screen ≡ screen_after k h → Keys k h (take 0 xs) (Ok (record { broken = 0; anew = 0 })) s screen
  unfolding typed_text rows_broken_for rows_laid_for
  none_typed xs s screen f sees =
      let c = clean_after k h in (
        record {
          later = [];
          follows = f;
          clean = refl;
          screen_is = sees;
          right = λ none. sees ∙ ap (λ (o : Option Repaint). due o (clean_screen k c) (screen_after k h)) (sym none) ∙ f.screen;
        },
        sym (append-nil c.text),
        refl,
        refl,
      )

  -- from the characters before a place to the one that stands there
  module _ (xs : List ℕ) (place : ℕ) (within : place < length xs) (e : Effort) (s : State) (screen : List Shown) (so : Keys k h (take place xs) (Ok e) s screen) (s' : State) (screen' : List Shown) where
    abbrev before : Clean
    before = typed_text k (clean_after k h) (take place xs)

    abbrev x : ℕ
    x = get_or xs place 0

    pub one_more : (broken rows : ℕ) → Key k (so.0.later ++ h) (get_or xs place 0) (Ok broken) s' screen' → rows ≡ length s'.rows
        → Keys k h (take (place + 1) xs) (Ok (record { broken = (e.broken + broken) % 2 ^ 64; anew = (e.anew + rows) % 2 ^ 64 })) s' screen'
    one_more broken rows key long =
        let c = clean_after k h in
        let was = so.0.clean in
        let t = typed k (clean_after k (so.0.later ++ h)) x in
        let led = led_on k h s screen before so.0 s' screen' (settled_after t) key.3 in
        let is : settled_after t ≡ typed_text k c (take place xs ++ x ∷ []) = ap (λ (y : Clean). settled_after (typed k y x)) was ∙ sym (typed_more k x c (take place xs)) in
        let cost : broken ≡ rows_broken (typed k before x).next.owed = key.2 ∙ ap (λ (y : Clean). rows_broken (typed k y x).next.owed) was in
        let count : rows ≡ length (clean_rows k (settled_after (typed k before x))) = long ∙ ap length led.follows.rows ∙ ap (λ (y : Clean). length (clean_rows k y)) led.clean ∙ ap (λ (y : Clean). length (clean_rows k (settled_after (typed k y x)))) was in
        subst (λ (ys : List ℕ). Keys k h ys (Ok (record { broken = (e.broken + broken) % 2 ^ 64; anew = (e.anew + rows) % 2 ^ 64 })) s' screen') (sym (take_more xs place 0 within)) (
          subst (Led k h s' screen') is led,
          ap (λ (y : Clean). y.text) (sym is) ∙ settled_text t.next t.next.owed ∙ key.1 ∙ ap (λ (y : Clean). y.text ++ x ∷ []) was ∙ ap (λ (y : List ℕ). y ++ x ∷ []) so.1 ∙ append_assoc c.text (take place xs) (x ∷ []),
          ap (λ (n : ℕ). (e.broken + n) % 2 ^ 64) cost ∙ one_term_more (2 ^ 64) e.broken (rows_broken_for k c (take place xs)) _ so.2 ∙ ap (λ (n : ℕ). n % 2 ^ 64) (sym (broken_more k x c (take place xs))),
          ap (λ (n : ℕ). (e.anew + n) % 2 ^ 64) count ∙ one_term_more (2 ^ 64) e.anew (rows_laid_for k c (take place xs)) _ so.3 ∙ ap (λ (n : ℕ). n % 2 ^ 64) (sym (laid_more k x c (take place xs))),
        )

    pub stopped_there : (f : KeyFault) → Key k (so.0.later ++ h) (get_or xs place 0) (Err f) s' screen' → Ended k h xs place f s' screen'
    stopped_there (Refused r) key = (
      x,
      slice_get-get_or xs place 0 within,
      ap (λ (y : Clean). (typed k y x).answer) (sym so.0.clean) ∙ key.0,
      subst (Led k h s' screen') so.0.clean (led_on k h s screen before so.0 s' screen' (clean_after k (so.0.later ++ h)) key.1),
    )
    stopped_there (Unsettled r) key = key
    stopped_there Memory key = tt

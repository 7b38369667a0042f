-- What the slots of an advance cache hold, before and after one of them is filled.
use Rattle.std.proofs.Common.{◌≡◌, ℕ, zero, suc, ◌+◌, ◌%◌, ◌<◌, Bool, true, false, ◌||◌, ltb, length, get_or, set, replicate, is_some, Some, None, Ok, Option, sym, refl, ap, ◌∙◌, subst, inl, inr, ⊎_elim, arith, get_or-set_other, get_or-set_same}
use Rattle.std.proofs.lemmas.List.{length-set, get_or_past}
use Rattle.std.proofs.lemmas.Bool.{cases_eq, cases_Bool, cases_lt, true≢false, le-ltb, lt-ltb, or_from, or_left, or_right}
use Rattle.std.proofs.lemmas.Bool.Decides.{nat_tests}
use Rattle.layers.specs.declared.cache.Held.{Held}
use Rattle.metrics.specs.Meaning.{Meaning}
use Rattle.layers.specs.Cache.{Slots, At, Holds, filled, Full, FillsInTurn, SamePair, Apart, Right, Keeps}

-- ---- empty slots

none_at : (n k : ℕ) → get_or (replicate {A = Option Held} n None) k None ≡ None
none_at zero k = refl
none_at (suc n) zero = refl
none_at (suc n) (suc k) = none_at n k

pub apart_none : (n : ℕ) → Apart (replicate n None)
apart_none n j k same = absurd (subst (λ o. SamePair o (get_or (replicate n None) k None)) (none_at n j) same)

pub fills_none : FillsInTurn (replicate 64 None) 0
fills_none k lt = ap is_some (none_at 64 k) ∙ sym (or_from (ltb k 0) false (le-ltb k 0 (omega arith)) refl)

-- what a slot holds is one pair with one advance
same_held : {o : Option Held} (g h : Held) → o ≡ Some g → o ≡ Some h → g ≡ h
same_held g h e f = cc

-- ---- a search

pub at_none : (s : Slots) (k : ℕ) (p : Option ℕ) (c a : ℕ) → get_or s k None ≡ None → At s k p c a → ⊥
at_none s k p c a none at = true≢false (sym (ap is_some at) ∙ ap is_some none)

pub at_other : (s : Slots) (k : ℕ) (p : Option ℕ) (c a : ℕ) (h : Held) → get_or s k None ≡ Some h → ((h.before ≡ p) × (h.code ≡ c) → ⊥) → At s k p c a → ⊥
at_other s k p c a h holds other at =
    let same = same_held h (record { before = p; code = c; advance = a }) holds at in
    other (ap (λ (x : Held). x.before) same, ap (λ (x : Held). x.code) same)

-- no slot past the last one holds a pair
pub within_slots : (s : Slots) (k : ℕ) (p : Option ℕ) (c a : ℕ) → At s k p c a → k < length s
within_slots s k p c a at = ⊎_elim (λ lt. lt) (λ past. absurd (at_none s k p c a (get_or_past s k None past) at)) (cases_lt k (length s))

pub unheld_more : (s : Slots) (i : ℕ) (p : Option ℕ) (c : ℕ) → ((k a : ℕ) → k < i → At s k p c a → ⊥) → ((a : ℕ) → At s i p c a → ⊥)
    → (k a : ℕ) → k < i + 1 → At s k p c a → ⊥
unheld_more s i p c before here k a lt at =
    ⊎_elim (λ e. here a (ap (λ j. get_or s j None) (sym e) ∙ at)) (λ ne. before k a (omega arith) at) (cases_eq k i)

-- ---- one slot filled

-- slot n of s takes h
module _ (s : Slots) (n : ℕ) (h : Held) (room : n < length s) where
  here : (k : ℕ) → k ≡ n → get_or (set s n (Some h)) k None ≡ Some h
  here k e = ap (λ i. get_or (set s n (Some h)) i None) e ∙ get_or-set_same s n (Some h) None room

  there : (k : ℕ) → (k ≡ n → ⊥) → get_or (set s n (Some h)) k None ≡ get_or s k None
  there k ne = get_or-set_other s n k (Some h) None ne

same_at : {a a' b b' : Option Held} → a ≡ a' → b ≡ b' → SamePair a b → SamePair a' b'
same_at {a} {a'} {b} {b'} e f same = subst (λ x. SamePair x b') e (subst (λ y. SamePair a y) f same)

same_sym : (o : Option Held) (h : Held) → SamePair o (Some h) → SamePair (Some h) o
same_sym None h same = same
same_sym (Some g) h same = (sym same.0, sym same.1)

holds_by_pair : (s : Slots) (k : ℕ) (h : Held) (o : Option Held) → get_or s k None ≡ o → SamePair (Some h) o → Holds s h.before h.code
holds_by_pair s k h None e same = absurd same
holds_by_pair s k h (Some g) e same = (k, g.advance, rw (same.0, same.1) e)

pub apart_set : (s : Slots) (n : ℕ) (h : Held) → n < length s → (Holds s h.before h.code → ⊥) → Apart s → Apart (set s n (Some h))
apart_set s n h room new apart j k same =
    ⊎_elim
    (λ ej. ⊎_elim
    (λ ek. ej ∙ sym ek)
    (λ nk. absurd (new (holds_by_pair s k h _ refl (same_at (here s n h room j ej) (there s n h room k nk) same))))
    (cases_eq k n))
    (λ nj. ⊎_elim
    (λ ek. absurd (new (holds_by_pair s j h _ refl (same_sym _ h (same_at (there s n h room j nj) (here s n h room k ek) same)))))
    (λ nk. apart j k (same_at (there s n h room j nj) (there s n h room k nk) same))
    (cases_eq k n))
    (cases_eq j n)

-- f tells which slots are filled before slot n takes a pair, g after
turn_more : (f g : ℕ → Bool) (n : ℕ) → n < 64 → g n ≡ true → ((i : ℕ) → (i ≡ n → ⊥) → g i ≡ f i)
    → ((k : ℕ) → k < 64 → f k ≡ (ltb k n || f 63)) → (k : ℕ) → k < 64 → g k ≡ (ltb k ((n + 1) % 64) || g 63)
turn_more f g n lt at off fills k k_lt =
    ⊎_elim
    (λ last. let all : g k ≡ true = ⊎_elim (λ e. ap g e ∙ at) (λ ne. off k ne ∙ fills k k_lt ∙ or_left (ltb k n) (f 63) (lt-ltb k n (omega arith))) (cases_eq k n) in
    all ∙ sym (or_right (ltb k ((n + 1) % 64)) (g 63) (ap g (sym last) ∙ at)))
    (λ inner. let step : (n + 1) % 64 ≡ n + 1 = omega arith in
    let same : g 63 ≡ f 63 = off 63 (λ e. inner (sym e)) in
    ⊎_elim
    (λ e. ap g e ∙ at ∙ sym (or_left (ltb k ((n + 1) % 64)) (g 63) (lt-ltb k ((n + 1) % 64) (omega arith))))
    (λ ne. let test : ltb k n ≡ ltb k ((n + 1) % 64) = grind (arith, nat_tests) in off k ne ∙ fills k k_lt ∙ rw (same, test))
    (cases_eq k n))
    (cases_eq n 63)

pub fills_set : (s : Slots) (n : ℕ) (h : Held) → length s ≡ 64 → n < 64 → FillsInTurn s n → FillsInTurn (set s n (Some h)) ((n + 1) % 64)
fills_set s n h long lt fills =
    let room : n < length s = omega arith in
    turn_more (filled s) (filled (set s n (Some h))) n lt (ap is_some (here s n h room n refl)) (λ i ne. ap is_some (there s n h room i ne)) fills

full_at_next : (s : Slots) (n : ℕ) → n < 64 → FillsInTurn s n → filled s n ≡ true → Full s
full_at_next s n lt fills f k k_lt =
    let last : filled s 63 ≡ true = sym (ap (λ b. b || filled s 63) (le-ltb n n (omega arith))) ∙ sym (fills n lt) ∙ f in
    fills k k_lt ∙ or_right (ltb k n) (filled s 63) last

-- whatever advance is held with the pair, and whatever is answered
pub keeps_set : {B : Type 0} (s : Slots) (n : ℕ) (b b' : B) (p : Option ℕ) (c a a' : ℕ) → length s ≡ 64 → n < 64 → Apart s → FillsInTurn s n → (Holds s p c → ⊥)
    → Keeps s (set s n (Some (record { before = p; code = c; advance = a }))) b b' p c (Ok a')
keeps_set s n b b' p c a a' long lt apart fills new =
    let h : Held = record { before = p; code = c; advance = a } in
    let room : n < length s = omega arith in
    record {
      few = length-set s n (Some h) ∙ long;
      apart = apart_set s n h room new apart;
      answered = λ _. (n, a, here s n h room n refl);
      refused = λ e. absurd (true≢false (sym e));
      unasked = λ held. absurd (new held);
      only = λ q d held. ⊎_elim
          (λ e. let same = same_held (record { before = q; code = d; advance = held.1 }) h held.2 (here s n h room held.0 e) in
          inr (ap (λ (x : Held). x.before) same, ap (λ (x : Held). x.code) same))
          (λ ne. inl (held.0, held.1, sym (there s n h room held.0 ne) ∙ held.2))
          (cases_eq held.0 n);
      goes = ⊎_elim
          (λ full. inr (full_at_next s n lt fills full, (n, there s n h room)))
          (λ free. inl (λ q d held. (held.0, held.1, there s n h room held.0 (λ e. true≢false (sym (ap is_some (ap (λ i. get_or s i None) (sym e) ∙ held.2)) ∙ free)) ∙ held.2)))
          (cases_Bool (filled s n));
    }

-- ---- right advances

pub right_none : (m : Meaning) (n : ℕ) → Right m (replicate n None)
right_none m n k p c a at = absurd (at_none (replicate n None) k p c a (none_at n k) at)

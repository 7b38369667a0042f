-- The first entry counts: what one more entry at the end adds to a font's tables.
use Rattle.std.proofs.Common.{◌≡◌, ℕ, zero, suc, ◌<◌, Bool, true, false, cond, ◌&&◌, eqb, List, [], ◌∷◌, ◌++◌, length, set, replicate, ℤ, is_some, Some, None, Option, Ordering, Less, Equal, Greater, sym, refl, ap, ap₂, ◌∙◌, ⊎_elim, get_or-set_other, get_or-set_same}
use Rattle.std.proofs.lemmas.Bool.{cases_Bool, cases_eq, cond-true, cond-false, eq-eqb, eqb-true, and_parts, true≢false, both_ways}
use Rattle.std.specs.Cmp.{unsigned_tied, nat_eq_equiv}
use Rattle.std.specs.Ordering.{eq_by_cmp, is_eq, ordering_then, nat_cmp}
use Rattle.std.specs.BTreeMap.{BTreeMap, Updates}
use Rattle.metrics.specs.declared.entry.Glyph.{Glyph}
use Rattle.metrics.specs.declared.entry.KernPair.{KernPair}
use Rattle.fonts.specs.Font.{is_code, width_in, kern_in, width_at, kern_at, pair_cmp}

either : {V : Type 0} → Option V → Option V → Option V
either None o = o
either (Some v) o = Some v

either_none : {V : Type 0} (o : Option V) → either o None ≡ o
unfolding either
either_none None = refl
either_none (Some v) = refl

either_some : {V : Type 0} (o p : Option V) → is_some o ≡ true → either o p ≡ o
unfolding either
either_some None p e = absurd (true≢false (sym e))
either_some (Some v) p e = refl

either_absent : {V : Type 0} (o p : Option V) → is_some o ≡ false → either o p ≡ p
unfolding either
either_absent None p e = refl
either_absent (Some v) p e = absurd (true≢false e)

-- F finds the value of the first element that passes t
module _ {X V : Type 0} (F : List X → Option V) (t : X → Bool) (v : X → V) (none : F [] ≡ None)
    (more : (x : X) (xs : List X) → F (x ∷ xs) ≡ cond (t x) (Some (v x)) (F xs)) where
  first_step : (b : Bool) (w : V) (r s o : Option V) → r ≡ either s o → cond b (Some w) r ≡ either (cond b (Some w) s) o
  unfolding either
  first_step true w r s o e = refl
  first_step false w r s o e = e

  first_push : (xs : List X) (x : X) → F (xs ++ x ∷ []) ≡ either (F xs) (cond (t x) (Some (v x)) None)
  unfolding either
  first_push [] x = more x [] ∙ ap (cond (t x) (Some (v x))) none ∙ sym (ap (λ o. either o (cond (t x) (Some (v x)) None)) none)
  first_push (y ∷ ys) x =
      more y (ys ++ x ∷ [])
      ∙ first_step (t y) (v y) _ _ _ (first_push ys x)
      ∙ sym (ap (λ o. either o (cond (t x) (Some (v x)) None)) (more y ys))

  -- one more element changes nothing where it does not pass, or another one did
  first_kept : (xs : List X) (x : X) → (t x ≡ true → is_some (F xs) ≡ true) → F (xs ++ x ∷ []) ≡ F xs
  first_kept xs x h =
      first_push xs x
      ∙ ⊎_elim
      (λ yes. either_some (F xs) _ (h yes))
      (λ no. ap (either (F xs)) (cond-false (t x) (Some (v x)) None no) ∙ either_none (F xs))
      (cases_Bool (t x))

  first_new : (xs : List X) (x : X) → t x ≡ true → is_some (F xs) ≡ false → F (xs ++ x ∷ []) ≡ Some (v x)
  first_new xs x passes new = first_push xs x ∙ either_absent (F xs) _ new ∙ cond-true (t x) (Some (v x)) None passes

-- ---- widths

pub some_same : (k c : ℕ) → Some k ≡ Some c → k ≡ c
some_same k c e = cc

module _ (gs : List Glyph) (g : Glyph) (c : ℕ) where
  width_kept : (is_code g.code c ≡ true → is_some (width_in gs c) ≡ true) → width_in (gs ++ g ∷ []) c ≡ width_in gs c
  width_kept = first_kept (λ xs. width_in xs c) (λ x. is_code x.code c) (λ x. x.width) refl (λ x xs. refl) gs g

  width_new : is_code g.code c ≡ true → is_some (width_in gs c) ≡ false → width_in (gs ++ g ∷ []) c ≡ Some g.width
  width_new = first_new (λ xs. width_in xs c) (λ x. is_code x.code c) (λ x. x.width) refl (λ x xs. refl) gs g

is_code_some : (o : Option ℕ) (c : ℕ) → is_code o c ≡ true → o ≡ Some c
is_code_some None c e = absurd (true≢false (sym e))
is_code_some (Some d) c e = ap (λ n. Some n) (sym (eqb-true c d e))

-- a table of the widths of gs is one of those of gs and g
module _ (ws : List (Option ℕ)) (gs : List Glyph) (g : Glyph) (table : (c : ℕ) → width_at ws c ≡ width_in gs c) where
  pub widths_kept : ((k : ℕ) → g.code ≡ Some k → is_some (width_at ws k) ≡ true) → (c : ℕ) → width_at ws c ≡ width_in (gs ++ g ∷ []) c
  widths_kept there c = table c ∙ sym (width_kept gs g c (λ yes. sym (ap is_some (table c)) ∙ there c (is_code_some g.code c yes)))

  pub widths_set : (k : ℕ) → k < length ws → g.code ≡ Some k → is_some (width_at ws k) ≡ false
      → (c : ℕ) → width_at (set ws k (Some g.width)) c ≡ width_in (gs ++ g ∷ []) c
  widths_set k within coded free c =
      ⊎_elim
      (λ e.
      ap (width_at (set ws k (Some g.width))) e
      ∙ get_or-set_same ws k (Some g.width) None within
      ∙ sym (width_new gs g c (ap (λ o. is_code o c) coded ∙ eq-eqb c k e) (ap is_some (sym (table c) ∙ ap (width_at ws) e) ∙ free)))
      (λ ne.
      get_or-set_other ws k c (Some g.width) None ne
      ∙ table c
      ∙ sym (width_kept gs g c (λ yes. absurd (ne (sym (some_same k c (sym coded ∙ is_code_some g.code c yes)))))))
      (cases_eq c k)

-- ---- kerns

is_equal_then : (r s : Ordering) → is_eq (ordering_then r s) ≡ (is_eq r && is_eq s)
is_equal_then Less s = refl
is_equal_then Equal s = refl
is_equal_then Greater s = refl

tied_pairs : (p c q d : ℕ) → eq_by_cmp pair_cmp (p, c) (q, d) ≡ (eqb p q && eqb c d)
tied_pairs p c q d = is_equal_then (nat_cmp p q) (nat_cmp c d) ∙ ap (λ b. b && eq_by_cmp nat_cmp c d) (unsigned_tied p q) ∙ ap (λ b. eqb p q && b) (unsigned_tied c d)

module _ (ks : List KernPair) (k : KernPair) (p c : ℕ) where
  kern_kept : ((eqb p k.first && eqb c k.second) ≡ true → is_some (kern_in ks p c) ≡ true) → kern_in (ks ++ k ∷ []) p c ≡ kern_in ks p c
  kern_kept = first_kept (λ xs. kern_in xs p c) (λ x. eqb p x.first && eqb c x.second) (λ x. x.kern) refl (λ x xs. refl) ks k

  kern_new : (eqb p k.first && eqb c k.second) ≡ true → is_some (kern_in ks p c) ≡ false → kern_in (ks ++ k ∷ []) p c ≡ Some k.kern
  kern_new = first_new (λ xs. kern_in xs p c) (λ x. eqb p x.first && eqb c x.second) (λ x. x.kern) refl (λ x xs. refl) ks k

-- a map of the kerns of ks is, or becomes, one of those of ks and k
module _ (m : BTreeMap (ℕ × ℕ) ℤ) (ks : List KernPair) (k : KernPair) (table : (p c : ℕ) → kern_at m p c ≡ kern_in ks p c) where
  same_key : (p c : ℕ) → (eqb p k.first && eqb c k.second) ≡ true → (n : BTreeMap (ℕ × ℕ) ℤ) → kern_at n p c ≡ kern_at n k.first k.second
  same_key p c same n =
      let both = and_parts (eqb p k.first) (eqb c k.second) same in
      ap (λ q. kern_at n q c) (eqb-true p k.first both.0) ∙ ap (kern_at n k.first) (eqb-true c k.second both.1)

  pub kerns_kept : is_some (kern_at m k.first k.second) ≡ true → (p c : ℕ) → kern_at m p c ≡ kern_in (ks ++ k ∷ []) p c
  kerns_kept there p c = table p c ∙ sym (kern_kept ks k p c (λ yes. ap is_some (sym (table p c) ∙ same_key p c yes m) ∙ there))

  pub kerns_put : (n : BTreeMap (ℕ × ℕ) ℤ) (kern : ℤ) → kern ≡ k.kern → is_some (kern_at m k.first k.second) ≡ false
      → Updates pair_cmp m n (k.first, k.second) (Some kern) → (p c : ℕ) → kern_at n p c ≡ kern_in (ks ++ k ∷ []) p c
  kerns_put n kern same free put p c =
      ⊎_elim
      (λ yes. same_key p c yes n ∙ put.1 ∙ ap (λ z. Some z) same ∙ sym (kern_new ks k p c yes (ap is_some (sym (table p c) ∙ same_key p c yes m) ∙ free)))
      (λ no.
      put.2 (p, c) (tied_pairs k.first k.second p c ∙ ap₂ (λ a b. a && b) (nat_eq_equiv.symm k.first p) (nat_eq_equiv.symm k.second c) ∙ no)
      ∙ table p c
      ∙ sym (kern_kept ks k p c (λ yes. absurd (both_ways _ no yes))))
      (cases_Bool (eqb p k.first && eqb c k.second))

pub code_not_none : (o : Option ℕ) (k : ℕ) → o ≡ None → o ≡ Some k → ⊥
code_not_none o k none some = true≢false (sym (ap is_some some) ∙ ap is_some none)

pub no_widths : (n c : ℕ) → width_at (replicate n None) c ≡ None
no_widths zero c = refl
no_widths (suc n) zero = refl
no_widths (suc n) (suc c) = no_widths n c

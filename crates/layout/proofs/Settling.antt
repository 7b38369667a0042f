-- What an accepted and a refused text mean, from the definition of setting.
use Rattle.std.proofs.Common.{◌≡◌, ℕ, zero, suc, ◌+◌, ◌<◌, ◌≤◌, Bool, true, false, eqb, List, [], ◌∷◌, length, Some, None, Ok, Err, Option, Result, sym, refl, ap, ◌∙◌, add-zero, arith, eqb-true}
use borrow.Author.Tests.{eqb-false}
use Rattle.metrics.specs.Meaning.{Meaning, missing}
use Rattle.metrics.specs.declared.fault.MissingGlyph.{MissingGlyph}
use Rattle.layout.specs.Covers.{Covered, first_uncovered, lacking, cover_answer}
use Rattle.layout.specs.Layouts.{laid, laid_from, most_rows}
use Rattle.page.specs.Policies.{Rules}
use Rattle.layout.specs.Settings.{setting_of, Accepted, TellsFirst, RightlyRefused}
use Rattle.page.specs.Texts.{seen, newline}
use Rattle.layout.specs.Theorems.{LayoutLaws}
use Rattle.layout.specs.declared.cover.Uncovered.{Uncovered}
use Rattle.layout.specs.declared.laying.LayFault.{LayFault}
use Rattle.layout.specs.declared.laying.LayFault.TheVariants.{NoGlyph, TooManyRows}
use Rattle.page.specs.declared.row.Row.{Row}
use Rattle.layout.proofs.CoverSteps.{none_uncovered, next_uncovered, this_uncovered}
use Rattle.layout.proofs.Turns.{laid_full, laid_missing, laid_last, laid_on, turn}
use Rattle.layout.proofs.Turns.Turn.{misses, ends, goes_on}

-- a character lacks no glyph: it is a newline or covered
pub lacks_none : (m : Meaning) (c : ℕ) → lacking m c ≡ None → (c ≡ newline → ⊥) → m.covers c ≡ true
lacks_none m c e n = go (m.covers c) refl (eqb c newline) refl
  where
    go : (b : Bool) → m.covers c ≡ b → (q : Bool) → eqb c newline ≡ q → m.covers c ≡ true
    go true p q r = p
    go false p true r = absurd (n (eqb-true c newline r))
    go false p false r = cc

pub lacks_some : (m : Meaning) (c : ℕ) (g : MissingGlyph) → lacking m c ≡ Some g → (c ≡ newline → ⊥) × (m.covers c ≡ false) × (g ≡ missing m c)
lacks_some m c g e = go (m.covers c) refl (eqb c newline) refl
  where
    go : (b : Bool) → m.covers c ≡ b → (q : Bool) → eqb c newline ≡ q → (c ≡ newline → ⊥) × (m.covers c ≡ false) × (g ≡ missing m c)
    go true p true r = let z : ◌≡◌ {A = ℕ} 0 1 = cc in absurd (omega arith)
    go false p true r = let z : ◌≡◌ {A = ℕ} 0 1 = cc in absurd (omega arith)
    go true p false r = let z : ◌≡◌ {A = ℕ} 0 1 = cc in absurd (omega arith)
    go false p false r = (eqb-false c newline r, p, (cc))

-- no character is without a glyph
pub covered_from_none : (m : Meaning) (i : ℕ) (t : List ℕ) → first_uncovered m i t ≡ None → Covered m t
covered_from_none m i [] e = λ k c at n. let z : ◌≡◌ {A = ℕ} 0 1 = cc in absurd (omega arith)
covered_from_none m i (x ∷ t) e = go (λ q. covered_from_none m (i + 1) t (sym (next_uncovered m i x t q) ∙ e)) (lacking m x) refl
  where
    go : (lacking m x ≡ None → Covered m t) → (g : Option MissingGlyph) → lacking m x ≡ g → Covered m (x ∷ t)
    go rest (Some g) q k c at n = let h = this_uncovered m i x t g q in let z : ◌≡◌ {A = ℕ} 0 1 = cc in absurd (omega arith)
    go rest None q zero c at n = let h : x ≡ c = cc in rw (← h) (lacks_none m x q (λ o. n (sym h ∙ o)))
    go rest None q (suc k) c at n = rest q k c at n

-- where the first character without a glyph stands, if t begins at place i
record Found (m : Meaning) (i : ℕ) (t : List ℕ) (u : Uncovered) : Type 0 where
  at : ℕ
  code : ℕ
  place : u.offset ≡ i + at
  stands : seen t at ≡ Some code
  no_newline : code ≡ newline → ⊥
  uncovered : m.covers code ≡ false
  told : u.glyph ≡ missing m code
  first : (k c : ℕ) → k < at → seen t k ≡ Some c → (c ≡ newline → ⊥) → m.covers c ≡ true

found : (m : Meaning) (i : ℕ) (t : List ℕ) (u : Uncovered) → first_uncovered m i t ≡ Some u → Found m i t u
found m i [] u e = let h = none_uncovered m i in let z : ◌≡◌ {A = ℕ} 0 1 = cc in absurd (omega arith)
found m i (x ∷ t) u e = go (λ q. found m (i + 1) t u (sym (next_uncovered m i x t q) ∙ e)) (lacking m x) refl
  where
    go : (lacking m x ≡ None → Found m (i + 1) t u) → (g : Option MissingGlyph) → lacking m x ≡ g → Found m i (x ∷ t) u
    go rest (Some g) q =
        let h = this_uncovered m i x t g q in
        let is : u ≡ record { offset = i; glyph = g } = cc in
        let l = lacks_some m x g q in
        record {
          at = 0;
          code = x;
          place = ap (λ (v : Uncovered). v.offset) is ∙ sym (add-zero i);
          stands = refl;
          no_newline = l.0;
          uncovered = l.1;
          told = ap (λ (v : Uncovered). v.glyph) is ∙ l.2;
          first = λ k c h _ _. absurd (omega arith);
        }
    go rest None q =
        let f = rest q in
        record {
          at = suc f.at;
          code = f.code;
          place = let p = f.place in omega arith;
          stands = f.stands;
          no_newline = f.no_newline;
          uncovered = f.uncovered;
          told = f.told;
          first = before f.at f.first q;
        }
      where
        before : (j : ℕ) → ((k c : ℕ) → k < j → seen t k ≡ Some c → (c ≡ newline → ⊥) → m.covers c ≡ true) → lacking m x ≡ None
            → (k c : ℕ) → k < suc j → seen (x ∷ t) k ≡ Some c → (c ≡ newline → ⊥) → m.covers c ≡ true
        before j rest n zero c h e o = let is : x ≡ c = cc in rw (← is) (lacks_none m x n (λ p. o (sym is ∙ p)))
        before j rest n (suc k) c h e o = rest k c (omega arith) e o

pub tells_first : (m : Meaning) (t : List ℕ) (u : Uncovered) → first_uncovered m 0 t ≡ Some u → TellsFirst m t u
tells_first m t u e =
    let f = found m 0 t u e in
    let is : f.at ≡ u.offset = let p = f.place in omega arith in
    record {
      code = f.code;
      stands = rw is at f.stands;
      no_newline = f.no_newline;
      uncovered = f.uncovered;
      told = f.told;
      first = λ k c h. f.first k c (omega arith);
    }

-- a layout has at most as many rows as there is room for
pub laid_few : (m : Meaning) (P : Rules) (w : ℕ) (t : List ℕ) (room s : ℕ) → length (laid_from m P w t room s).rows ≤ room
laid_few m P w t zero s = rw (laid_full m P w t s) (omega arith)
laid_few m P w t (suc room) s = elim (turn m P w t s) [
  | misses u e ↦ rw (laid_missing m P w t room s u e) (omega arith)
  | ends r e n ↦ rw (laid_last m P w t room s r e n) (omega arith)
  | goes_on r s' e n ↦ rw (laid_on m P w t room s s' r e n) (let h = laid_few m P w t room s' in omega arith)
]

module _ (m : Meaning) (P : Rules) (w : ℕ) (t : List ℕ) where
  -- the cases of a set text, each with what was found on the way
  ways : (a : Result (List Row) LayFault) → setting_of m P w t ≡ a → (f : Option Uncovered) → first_uncovered m 0 t ≡ f → (l : Result (Unit {0}) LayFault) → (laid m P w t).answer ≡ l
      → a ≡ elim f as (λ _. Result (List Row) LayFault) [ Some u ↦ Err (NoGlyph u) | None ↦ elim l as (λ _. Result (List Row) LayFault) [ Ok _ ↦ Ok (laid m P w t).rows | Err e ↦ Err e ] ]
  ways a e (Some u) p l q = cc
  ways a e None p (Ok x) q = cc
  ways a e None p (Err x) q = cc

  pub accepted : LayoutLaws m P w → (rs : List Row) → setting_of m P w t ≡ Ok rs → Accepted m P w t rs
  unfolding ways
  accepted laws rs e = go (first_uncovered m 0 t) refl (laid m P w t).answer refl
    where
      go : (f : Option Uncovered) → first_uncovered m 0 t ≡ f → (l : Result (Unit {0}) LayFault) → (laid m P w t).answer ≡ l → Accepted m P w t rs
      go (Some u) p l q = let h = ways (Ok rs) e (Some u) p l q in let z : ◌≡◌ {A = ℕ} 0 1 = cc in absurd (omega arith)
      go None p (Err x) q = let h = ways (Ok rs) e None p (Err x) q in let z : ◌≡◌ {A = ℕ} 0 1 = cc in absurd (omega arith)
      go None p (Ok x) q =
          let h = ways (Ok rs) e None p (Ok x) q in
          let is : rs ≡ (laid m P w t).rows = cc in
          let right = laws.are_first_fit t most_rows 0 (omega arith) q in
          record {
            covered = covered_from_none m 0 t p;
            first_fit = rw is right;
            only = λ rs' o. laws.only_one t 0 rs' (laid m P w t).rows o right ∙ sym is;
            few = rw is (laid_few m P w t most_rows 0);
          }

  pub rightly_refused : LayoutLaws m P w → (x : LayFault) → setting_of m P w t ≡ Err x → RightlyRefused m P w t x
  unfolding ways
  rightly_refused laws x e = go (first_uncovered m 0 t) refl (laid m P w t).answer refl
    where
      go : (f : Option Uncovered) → first_uncovered m 0 t ≡ f → (l : Result (Unit {0}) LayFault) → (laid m P w t).answer ≡ l → RightlyRefused m P w t x
      go (Some u) p l q = let h = ways (Err x) e (Some u) p l q in let is : x ≡ NoGlyph u = cc in rw is (tells_first m t u p)
      go None p (Ok y) q = let h = ways (Err x) e None p (Ok y) q in let z : ◌≡◌ {A = ℕ} 0 1 = cc in absurd (omega arith)
      go None p (Err (NoGlyph u)) q = absurd (laws.covered t most_rows 0 u (covered_from_none m 0 t p) q)
      go None p (Err TooManyRows) q =
          let h = ways (Err x) e None p (Err TooManyRows) q in
          let is : x ≡ TooManyRows = cc in
          rw is (covered_from_none m 0 t p, λ rs o. laws.too_many t most_rows 0 rs o q)

-- what the question for cover told
pub told_some : (f : Option Uncovered) (u : Uncovered) → Err u ≡ cover_answer f → f ≡ Some u
told_some None u e = let z : ◌≡◌ {A = ℕ} 0 1 = cc in absurd (omega arith)
told_some (Some v) u e = cc

pub told_none : (f : Option Uncovered) (x : Unit {0}) → Ok x ≡ cover_answer f → f ≡ None
told_none None x e = refl
told_none (Some v) x e = cc

module _ (m : Meaning) (P : Rules) (w : ℕ) (t : List ℕ) where
  pub refused_for_glyph : (u : Uncovered) → first_uncovered m 0 t ≡ Some u → setting_of m P w t ≡ Err (NoGlyph u)
  refused_for_glyph u f = cc

  pub refused_by_layout : (e : LayFault) → first_uncovered m 0 t ≡ None → (laid m P w t).answer ≡ Err e → setting_of m P w t ≡ Err e
  refused_by_layout e f a = cc

  pub set_by_layout : (x : Unit {0}) → first_uncovered m 0 t ≡ None → (laid m P w t).answer ≡ Ok x → setting_of m P w t ≡ Ok (laid m P w t).rows
  set_by_layout x f a = cc

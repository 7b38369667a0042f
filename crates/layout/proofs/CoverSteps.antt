-- One law for each way that the look for an uncovered character goes on.
use Rattle.std.proofs.Common.{◌≡◌, ℕ, ◌+◌, Bool, true, false, ◌||◌, eqb, List, [], ◌∷◌, Some, None, Option, refl}
use Rattle.metrics.specs.Meaning.{Meaning}
use Rattle.metrics.specs.declared.fault.MissingGlyph.{MissingGlyph}
use Rattle.layout.specs.Covers.{first_uncovered, lacking}
use Rattle.page.specs.Texts.{newline}
use Rattle.layout.specs.declared.cover.Uncovered.{Uncovered}

pub none_uncovered : (m : Meaning) (i : ℕ) → first_uncovered m i [] ≡ None
unfolding first_uncovered
none_uncovered m i = refl

module _ (m : Meaning) (i c : ℕ) (cs : List ℕ) where
  ways : (b : Bool) → (eqb c newline || m.covers c) ≡ b → (g : Option MissingGlyph) → lacking m c ≡ g → first_uncovered m i (c ∷ cs) ≡ elim g as (λ _. Option Uncovered) [ None ↦ first_uncovered m (i + 1) cs | Some x ↦ Some (record { offset = i; glyph = x }) ]
  unfolding first_uncovered
  ways true e None q = cc
  ways true e (Some x) q = cc
  ways false e None q = cc
  ways false e (Some x) q = cc

  pub next_uncovered : lacking m c ≡ None → first_uncovered m i (c ∷ cs) ≡ first_uncovered m (i + 1) cs
  unfolding ways
  next_uncovered e = ways (eqb c newline || m.covers c) refl None e

  pub this_uncovered : (g : MissingGlyph) → lacking m c ≡ Some g → first_uncovered m i (c ∷ cs) ≡ Some (record { offset = i; glyph = g })
  unfolding ways
  this_uncovered g e = ways (eqb c newline || m.covers c) refl (Some g) e

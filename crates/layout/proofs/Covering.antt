-- A scan fails at the first character without a glyph, and over covered characters it does not.
use Rattle.std.proofs.Common.{◌≡◌, ℕ, suc, ◌+◌, true, false, eqb, List, [], ◌∷◌, drop, Some, Ok, Err, sym, refl, ◌∙◌, arith}
use Rattle.std.proofs.lemmas.Bool.{ne_eqb, both_ways, or_right}
use Rattle.metrics.specs.Meaning.{Meaning, missing}
use Rattle.layout.specs.Covers.{Covered, first_uncovered}
use Rattle.page.specs.Policies.{Rules}
use Rattle.page.specs.Texts.{seen, newline}
use Rattle.layout.specs.Scans.{scan, row_from, fresh, whole_row, over_row}
use Rattle.layout.specs.declared.cover.Uncovered.{Uncovered}
use Rattle.page.specs.declared.ending.Ending.TheVariants.{Newline, End}
use Rattle.page.specs.declared.row.Row.{Row}
use Rattle.layout.specs.declared.scan.Scan.{Scan}
use Rattle.page.proofs.Places.{seen_drop}
use Rattle.layout.proofs.Scanning.{scan_nil, scan_newline, scan_missing, scan_over, scan_on}
use Rattle.layout.proofs.Ways.{after, way}
use Rattle.layout.proofs.Ways.Way.{stops, misses, exceeds, goes_on}

pub covered_rest : (m : Meaning) (c : ℕ) (cs : List ℕ) → Covered m (c ∷ cs) → Covered m cs
covered_rest m c cs v = λ k. v (suc k)

pub covered_from : (m : Meaning) (t : List ℕ) (s : ℕ) → Covered m t → Covered m (drop s t)
covered_from m t s v = λ k c e. v (s + k) c (sym (seen_drop t s k) ∙ e)

-- one more character that has a glyph, or is a newline
pub first_uncovered_on : (m : Meaning) (i c : ℕ) (cs : List ℕ) → m.covers c ≡ true → first_uncovered m i (c ∷ cs) ≡ first_uncovered m (i + 1) cs
unfolding first_uncovered
first_uncovered_on m i c cs v = cc (or_right (eqb c newline) (m.covers c) v)

pub first_uncovered_here : (m : Meaning) (i c : ℕ) (cs : List ℕ) → (c ≡ newline → ⊥) → m.covers c ≡ false → first_uncovered m i (c ∷ cs) ≡ Some (record { offset = i; glyph = missing m c })
unfolding first_uncovered
first_uncovered_here m i c cs n u = cc (ne_eqb c newline n)

module _ (m : Meaning) (P : Rules) (w : ℕ) where
  pub scan_exists : (cs : List ℕ) (k : Scan) → Covered m cs → (r : Row) × (scan m P w k cs ≡ Ok r)
  scan_exists [] k v = (whole_row k End, scan_nil m P w k)
  scan_exists (c ∷ cs) k v = elim (way m P w k c) [
    | stops e ↦ (whole_row k Newline, scan_newline m P w k c cs e)
    | misses n u ↦ absurd (both_ways (m.covers c) u (v 0 c refl n))
    | exceeds n u h ↦ (over_row k (after m P k c) (seen cs 0), scan_over m P w k c cs n u h)
    | goes_on n u h ↦
        let p = scan_exists cs (after m P k c) (covered_rest m c cs v) in
        (p.0, scan_on m P w k c cs n u h ∙ p.1)
  ]

  pub scan_fails : (cs : List ℕ) (k : Scan) (u : Uncovered) → scan m P w k cs ≡ Err u → first_uncovered m k.place cs ≡ Some u
  scan_fails [] k u e = let z : ◌≡◌ {A = ℕ} 0 1 = cc (scan_nil m P w k) in absurd (omega arith)
  scan_fails (c ∷ cs) k u e = elim (way m P w k c) [
    | stops q ↦ let z : ◌≡◌ {A = ℕ} 0 1 = cc (scan_newline m P w k c cs q) in absurd (omega arith)
    | misses n a ↦ cc (scan_missing m P w k c cs n a, first_uncovered_here m k.place c cs n a)
    | exceeds n a h ↦ let z : ◌≡◌ {A = ℕ} 0 1 = cc (scan_over m P w k c cs n a h) in absurd (omega arith)
    | goes_on n a h ↦
        first_uncovered_on m k.place c cs a ∙ scan_fails cs (after m P k c) u (sym (scan_on m P w k c cs n a h) ∙ e)
  ]

  pub exists : (t : List ℕ) (s : ℕ) → Covered m t → (r : Row) × (row_from m P w t s ≡ Ok r)
  exists t s v = scan_exists (drop s t) (fresh s) (covered_from m t s v)

  pub fails_at_first : (t : List ℕ) (s : ℕ) (u : Uncovered) → row_from m P w t s ≡ Err u → first_uncovered m s (drop s t) ≡ Some u
  fails_at_first t s u e = scan_fails (drop s t) (fresh s) u e

-- A scan looks at no character from its row's reach on.
use Rattle.std.proofs.Common.{◌≡◌, ℕ, suc, ◌+◌, ◌<◌, Bool, true, false, eqb, List, [], ◌∷◌, drop, Some, None, Ok, Option, sym, refl, ap, ◌∙◌, inl, inr, arith}
use Rattle.std.proofs.lemmas.Bool.{cases_Bool}
use Rattle.metrics.specs.Meaning.{Meaning}
use Rattle.page.specs.Policies.{Rules}
use Rattle.page.specs.Texts.{seen}
use Rattle.layout.specs.Scans.{scan, row_from, fresh, whole_row, cut_row, broken_row, over_row}
use Rattle.layout.specs.Theorems.{Agree}
use Rattle.page.specs.declared.ending.Ending.TheVariants.{Newline, End}
use Rattle.page.specs.declared.row.Row.{Row}
use Rattle.layout.specs.declared.scan.Break.{Break}
use Rattle.layout.specs.declared.scan.Scan.{Scan}
use Rattle.page.proofs.Places.{seen_drop}
use Rattle.layout.proofs.Scanning.{scan_nil, scan_newline, scan_missing, scan_over, scan_on}
use Rattle.layout.proofs.Ways.{after, way}
use Rattle.layout.proofs.Ways.Way.{stops, misses, exceeds, goes_on}

-- a row reaches past the place that was looked at
cut_reach : (k : Scan) (o : ℕ) (f : Option ℕ) → k.place < (cut_row k o f).reach
cut_reach k o f = elim (cases_Bool (eqb k.place k.start)) [
  | inl e ↦ let q : (cut_row k o f).reach ≡ k.place + 2 = cc in omega arith
  | inr e ↦ let q : (cut_row k o f).reach ≡ k.place + 1 = cc in omega arith
]

broken_reach : (k : Scan) (l : Option Break) (o : ℕ) (f : Option ℕ) → k.place < (broken_row k l o f).reach
broken_reach k None o f = cut_reach k o f
broken_reach k (Some b) o f = omega arith

-- what stands behind bears on the row only if the row reaches there
cut_local : (k : Scan) (o : ℕ) (f g : Option ℕ) → (k.place + 1 < (cut_row k o f).reach → f ≡ g) → cut_row k o g ≡ cut_row k o f
cut_local k o f g h = go (eqb k.place k.start) refl
  where
    go : (b : Bool) → eqb k.place k.start ≡ b → cut_row k o g ≡ cut_row k o f
    go true e =
        let q : (cut_row k o f).reach ≡ k.place + 2 = cc in
        let p : f ≡ g = h (omega arith) in cc
    go false e = cc

broken_local : (k : Scan) (l : Option Break) (o : ℕ) (f g : Option ℕ) → (k.place + 1 < (broken_row k l o f).reach → f ≡ g) → broken_row k l o g ≡ broken_row k l o f
broken_local k None o f g h = cut_local k o f g h
broken_local k (Some b) o f g h = refl

nil_unseen : (cs : List ℕ) → None ≡ seen cs 0 → cs ≡ []
nil_unseen [] e = refl
nil_unseen (x ∷ cs) e = let z : ◌≡◌ {A = ℕ} 0 1 = cc in absurd (omega arith)

module _ (m : Meaning) (P : Rules) (w : ℕ) where
  pub scan_reach : (cs : List ℕ) (k : Scan) (r : Row) → scan m P w k cs ≡ Ok r → k.place < r.reach
  scan_reach [] k r e = let q : (whole_row k End).reach ≡ r.reach = cc (scan_nil m P w k) in omega arith
  scan_reach (c ∷ cs) k r e = elim (way m P w k c) [
    | stops n ↦ let q : (whole_row k Newline).reach ≡ r.reach = cc (scan_newline m P w k c cs n) in omega arith
    | misses n u ↦ let z : ◌≡◌ {A = ℕ} 0 1 = cc (scan_missing m P w k c cs n u) in absurd (omega arith)
    | exceeds n u h ↦
        let q : (over_row k (after m P k c) (seen cs 0)).reach ≡ r.reach = cc (scan_over m P w k c cs n u h) in
        omega (arith, broken_reach k (after m P k c).last (after m P k c).width (seen cs 0))
    | goes_on n u h ↦ let q = scan_reach cs (after m P k c) r (sym (scan_on m P w k c cs n u h) ∙ e) in omega arith
  ]

  pub scan_local : (cs cs' : List ℕ) (k : Scan) (r : Row) → scan m P w k cs ≡ Ok r → ((j : ℕ) → k.place + j < r.reach → seen cs j ≡ seen cs' j) → scan m P w k cs' ≡ Ok r
  scan_local [] cs' k r e a =
      let h = scan_reach [] k r e in
      ap (scan m P w k) (nil_unseen cs' (a 0 (omega arith))) ∙ e
  scan_local (c ∷ cs) [] k r e a =
      let h = scan_reach (c ∷ cs) k r e in
      let y = a 0 (omega arith) in
      let z : ◌≡◌ {A = ℕ} 0 1 = cc in absurd (omega arith)
  scan_local (c ∷ cs) (c' ∷ cs') k r e a =
      let l = scan_reach (c ∷ cs) k r e in
      let y = a 0 (omega arith) in
      let q : c ≡ c' = cc in
      ap (λ x. scan m P w k (x ∷ cs')) (sym q) ∙ elim (way m P w k c) [
        | stops n ↦ cc (scan_newline m P w k c cs n, scan_newline m P w k c cs' n)
        | misses n u ↦ let z : ◌≡◌ {A = ℕ} 0 1 = cc (scan_missing m P w k c cs n u) in absurd (omega arith)
        | exceeds n u h ↦
            let p = scan_over m P w k c cs n u h in
            let v : (over_row k (after m P k c) (seen cs 0)).reach ≡ r.reach = cc in
            let b = broken_local k (after m P k c).last (after m P k c).width (seen cs 0) (seen cs' 0) (λ g. a 1 (omega arith)) in
            cc (scan_over m P w k c cs' n u h)
        | goes_on n u h ↦
            scan_on m P w k c cs' n u h ∙ scan_local cs cs' (after m P k c) r (sym (scan_on m P w k c cs n u h) ∙ e) (λ j g. a (suc j) (omega arith))
      ]

  pub local : (t t' : List ℕ) (s : ℕ) (r : Row) → row_from m P w t s ≡ Ok r → Agree t t' s r.reach → row_from m P w t' s ≡ Ok r
  local t t' s r e a = scan_local (drop s t) (drop s t') (fresh s) r e (λ j h. seen_drop t s j ∙ a (s + j) (omega arith) h ∙ sym (seen_drop t' s j))

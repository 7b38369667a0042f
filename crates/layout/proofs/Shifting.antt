-- A scan that starts d places further on gives the same row, d places further on.
use Rattle.std.proofs.Common.{◌≡◌, ℕ, ◌+◌, true, false, cond, eqb, List, [], ◌∷◌, drop, Some, None, Option, sym, refl, ap, ◌∙◌, inl, inr, arith}
use Rattle.std.proofs.lemmas.Bool.{eq-eqb, ne_eqb, cases_eq, cases_Bool}
use Rattle.metrics.specs.Meaning.{Meaning}
use Rattle.page.specs.Policies.{Rules}
use Rattle.page.specs.Texts.{seen}
use Rattle.layout.specs.Scans.{scan, row_from, fresh, taken, may_before, last_break, whole_row, cut_row, broken_row, over_row}
use Rattle.layout.specs.Theorems.{moved, moved_answer}
use Rattle.page.specs.declared.ending.Ending.{Ending}
use Rattle.page.specs.declared.ending.Ending.TheVariants.{Newline, End}
use Rattle.layout.specs.declared.scan.Break.{Break}
use Rattle.layout.specs.declared.scan.Scan.{Scan}
use Rattle.layout.proofs.Scanning.{scan_nil, scan_newline, scan_missing, scan_over, scan_on}
use Rattle.layout.proofs.Ways.{after, way}
use Rattle.layout.proofs.Ways.Way.{stops, misses, exceeds, goes_on}

abbrev moved_break : ℕ → Option Break → Option Break
moved_break d None = None
moved_break d (Some b) = Some (record { place = b.place + d; width = b.width })

abbrev moved_scan : ℕ → Scan → Scan
moved_scan d k = record { start = k.start + d; place = k.place + d; before = k.before; edge = k.edge; width = k.width; last = moved_break d k.last }

swap_one : (a d : ℕ) → a + d + 1 ≡ a + 1 + d
swap_one a d = omega arith

swap_two : (a d : ℕ) → a + d + 2 ≡ a + 2 + d
swap_two a d = omega arith

eqb_moved : (a b d : ℕ) → eqb (a + d) (b + d) ≡ eqb a b
eqb_moved a b d = elim (cases_eq a b) [
  | inl e ↦ let f : a + d ≡ b + d = omega arith in eq-eqb (a + d) (b + d) f ∙ sym (eq-eqb a b e)
  | inr n ↦ let f : a + d ≡ b + d → ⊥ = λ g. n (omega arith) in ne_eqb (a + d) (b + d) f ∙ sym (ne_eqb a b n)
]

last_moved : (P : Rules) (d : ℕ) (k : Scan) (c : ℕ) → last_break P (moved_scan d k) c ≡ moved_break d (last_break P k c)
last_moved P d k c = elim (may_before P k.before c) as (λ b. cond b (Some (record { place = k.place + d; width = k.width })) (moved_break d k.last) ≡ moved_break d (cond b (Some (record { place = k.place; width = k.width })) k.last)) [ true ↦ refl | false ↦ refl ]

taken_moved : (P : Rules) (d : ℕ) (k : Scan) (c a : ℕ) → taken P (moved_scan d k) c a ≡ moved_scan d (taken P k c a)
taken_moved P d k c a = cc (swap_one k.place d, last_moved P d k c)

whole_moved : (d : ℕ) (k : Scan) (g : Ending) → whole_row (moved_scan d k) g ≡ moved d (whole_row k g)
whole_moved d k g = cc (swap_one k.place d)

cut_moved : (d : ℕ) (k : Scan) (o : ℕ) (f : Option ℕ) → cut_row (moved_scan d k) o f ≡ moved d (cut_row k o f)
cut_moved d k o f = elim (cases_Bool (eqb k.place k.start)) [
  | inl e ↦ cc (eqb_moved k.place k.start d, swap_one k.place d, swap_two k.place d)
  | inr e ↦ cc (eqb_moved k.place k.start d, swap_one k.place d)
]

broken_moved : (d : ℕ) (k : Scan) (l : Option Break) (o : ℕ) (f : Option ℕ) → broken_row (moved_scan d k) (moved_break d l) o f ≡ moved d (broken_row k l o f)
broken_moved d k None o f = cut_moved d k o f
broken_moved d k (Some b) o f = cc (swap_one k.place d)

over_moved : (d : ℕ) (k n : Scan) (f : Option ℕ) → over_row (moved_scan d k) (moved_scan d n) f ≡ moved d (over_row k n f)
over_moved d k n f = broken_moved d k n.last n.width f

module _ (m : Meaning) (P : Rules) (w : ℕ) where
  pub scan_moved : (d : ℕ) (cs : List ℕ) (k : Scan) → scan m P w (moved_scan d k) cs ≡ moved_answer d (scan m P w k cs)
  scan_moved d [] k = cc (scan_nil m P w k, scan_nil m P w (moved_scan d k), whole_moved d k End)
  scan_moved d (c ∷ cs) k = let k' = moved_scan d k in elim (way m P w k c) [
    | stops e ↦ cc (scan_newline m P w k c cs e, scan_newline m P w k' c cs e, whole_moved d k Newline)
    | misses n u ↦ cc (scan_missing m P w k c cs n u, scan_missing m P w k' c cs n u)
    | exceeds n u h ↦ cc (scan_over m P w k c cs n u h, scan_over m P w k' c cs n u h, taken_moved P d k c (m.adv k.before c), over_moved d k (after m P k c) (seen cs 0))
    | goes_on n u h ↦ cc (scan_on m P w k c cs n u h, scan_on m P w k' c cs n u h, taken_moved P d k c (m.adv k.before c), scan_moved d cs (after m P k c))
  ]

  pub shifts : (t t' : List ℕ) (s d : ℕ) → drop s t ≡ drop (s + d) t' → row_from m P w t' (s + d) ≡ moved_answer d (row_from m P w t s)
  shifts t t' s d e = ap (scan m P w (fresh (s + d))) (sym e) ∙ scan_moved d (drop s t) (fresh s)

-- One law for each way that a scan goes on.
use Rattle.std.proofs.Common.{◌≡◌, ℕ, ◌+◌, ◌<◌, ◌≤◌, Bool, true, false, List, [], ◌∷◌, drop, Some, None, Ok, Err, Option, refl, arith, le-ltb, lt-ltb, ne_eqb}
use Rattle.metrics.specs.Meaning.{Meaning, answer, missing}
use Rattle.metrics.specs.declared.fault.MissingGlyph.{MissingGlyph}
use Rattle.page.specs.Policies.{Rules}
use Rattle.page.specs.Texts.{seen, newline}
use Rattle.layout.specs.Scans.{scan, taken, whole_row, over_row}
use Rattle.page.specs.declared.ending.Ending.TheVariants.{Newline, End}
use Rattle.layout.specs.declared.scan.Scan.{Scan}
use Rattle.page.proofs.Places.{drop_seen, drop_unseen, seen_next}

pub answer_ok : (m : Meaning) (p : Option ℕ) (c a : ℕ) → answer m p c ≡ Ok a → (m.covers c ≡ true) × (m.adv p c ≡ a)
answer_ok m p c a e = go (m.covers c) refl
  where
    go : (b : Bool) → m.covers c ≡ b → (m.covers c ≡ true) × (m.adv p c ≡ a)
    go true q = (q, (cc))
    go false q = let z : ◌≡◌ {A = ℕ} 0 1 = cc in absurd (omega arith)

pub answer_err : (m : Meaning) (p : Option ℕ) (c : ℕ) (g : MissingGlyph) → answer m p c ≡ Err g → (m.covers c ≡ false) × (missing m c ≡ g)
answer_err m p c g e = go (m.covers c) refl
  where
    go : (b : Bool) → m.covers c ≡ b → (m.covers c ≡ false) × (missing m c ≡ g)
    go false q = (q, (cc))
    go true q = let z : ◌≡◌ {A = ℕ} 0 1 = cc in absurd (omega arith)

module _ (m : Meaning) (P : Rules) (w : ℕ) (k : Scan) where
  pub scan_nil : scan m P w k [] ≡ Ok (whole_row k End)
  unfolding scan
  scan_nil = refl

  pub scan_newline : (c : ℕ) (cs : List ℕ) → c ≡ newline → scan m P w k (c ∷ cs) ≡ Ok (whole_row k Newline)
  unfolding scan
  scan_newline c cs e = cc

  pub scan_missing : (c : ℕ) (cs : List ℕ) → (c ≡ newline → ⊥) → m.covers c ≡ false → scan m P w k (c ∷ cs) ≡ Err (record { offset = k.place; glyph = missing m c })
  unfolding scan
  scan_missing c cs e u = cc (ne_eqb c newline e)

  pub scan_over : (c : ℕ) (cs : List ℕ) → (c ≡ newline → ⊥) → m.covers c ≡ true → w < (taken P k c (m.adv k.before c)).width
      → scan m P w k (c ∷ cs) ≡ Ok (over_row k (taken P k c (m.adv k.before c)) (seen cs 0))
  unfolding scan
  scan_over c cs e u h = cc (ne_eqb c newline e, lt-ltb w (taken P k c (m.adv k.before c)).width h)

  pub scan_on : (c : ℕ) (cs : List ℕ) → (c ≡ newline → ⊥) → m.covers c ≡ true → (taken P k c (m.adv k.before c)).width ≤ w
      → scan m P w k (c ∷ cs) ≡ scan m P w (taken P k c (m.adv k.before c)) cs
  unfolding scan
  scan_on c cs e u h = cc (ne_eqb c newline e, le-ltb w (taken P k c (m.adv k.before c)).width h)

  -- the same over what is left of a text
  module _ (t : List ℕ) (i c : ℕ) (e : seen t i ≡ Some c) where
    pub at_newline : c ≡ newline → scan m P w k (drop i t) ≡ Ok (whole_row k Newline)
    at_newline n = rw (drop_seen t i c e) (scan_newline c (drop (i + 1) t) n)

    pub at_missing : (c ≡ newline → ⊥) → (g : MissingGlyph) → answer m k.before c ≡ Err g → scan m P w k (drop i t) ≡ Err (record { offset = k.place; glyph = g })
    at_missing n g a =
        let u = answer_err m k.before c g a in
        rw (drop_seen t i c e, ← u.1) (scan_missing c (drop (i + 1) t) n u.0)

    pub at_over : (c ≡ newline → ⊥) → (a : ℕ) → answer m k.before c ≡ Ok a → w < (taken P k c a).width → scan m P w k (drop i t) ≡ Ok (over_row k (taken P k c a) (seen t (i + 1)))
    at_over n a q h =
        let u = answer_ok m k.before c a q in
        rw (drop_seen t i c e, ← u.1, ← seen_next t (i + 1)) (scan_over c (drop (i + 1) t) n u.0 (rw u.1 h))

    pub at_on : (c ≡ newline → ⊥) → (a : ℕ) → answer m k.before c ≡ Ok a → (taken P k c a).width ≤ w → scan m P w k (drop i t) ≡ scan m P w (taken P k c a) (drop (i + 1) t)
    at_on n a q h =
        let u = answer_ok m k.before c a q in
        rw (drop_seen t i c e, ← u.1) (scan_on c (drop (i + 1) t) n u.0 (rw u.1 h))

  pub at_end : (t : List ℕ) (i : ℕ) → seen t i ≡ None → scan m P w k (drop i t) ≡ Ok (whole_row k End)
  at_end t i e = rw (drop_unseen t i e) scan_nil

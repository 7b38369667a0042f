-- A row by first fit starts in the text, and the next one starts behind its start, in the text too.
use Rattle.std.proofs.Common.{◌≡◌, ℕ, suc, ◌+◌, ◌<◌, ◌≤◌, List, length, Some, None, Option, refl, ap, arith}
use Rattle.metrics.specs.Meaning.{Meaning}
use Rattle.layout.specs.FirstFit.{Stop, at_stop, RowFrom}
use Rattle.layout.specs.FirstFit.RowFrom.{whole, wrapped, cut, single, lone}
use Rattle.page.specs.Policies.{Rules}
use Rattle.page.specs.Rows.{next_after, following}
use Rattle.page.specs.Texts.{seen}
use Rattle.layout.specs.Theorems.{moved}
use Rattle.page.specs.declared.ending.Ending.{Ending}
use Rattle.page.specs.declared.ending.Ending.TheVariants.{Wrapped, Cut, Newline, End}
use Rattle.page.specs.declared.row.Row.{Row}
use Rattle.page.proofs.Places.{seen_within}

pub record Placed (t : List ℕ) (s : ℕ) (r : Row) : Type 0 where
  pub starts : r.start ≡ s
  pub within : s ≤ length t
  pub ends : r.end ≤ length t
  pub on : (s' : ℕ) → following r ≡ Some s' → (s < s') × (s' ≤ length t)

-- after a row that ends at a stop
stop_next : (t : List ℕ) (s q s' : ℕ) → Stop t s q → (o : Option ℕ) → seen t q ≡ o → next_after (at_stop o) q ≡ Some s' → (s < s') × (s' ≤ length t)
stop_next t s q s' z None e n = let x : ◌≡◌ {A = ℕ} 0 1 = cc in absurd (omega arith)
stop_next t s q s' z (Some c) e n =
    let h = seen_within t q c e in
    let f : s' ≡ q + 1 = cc in (omega (arith, z.from), omega arith)

module _ (m : Meaning) (P : Rules) (w : ℕ) (t : List ℕ) where
  pub placed : (s : ℕ) (r : Row) → RowFrom m P w t s r → Placed t s r
  placed s r (whole q z f p) = record {
    starts = cc;
    within = omega (arith, z.from, z.within);
    ends = rw p z.within;
    on = λ s' n. stop_next t s q s' z (seen t q) refl (cc);
  }
  placed s r (wrapped q o e z v b p) = record {
    starts = cc;
    within = omega (arith, z.from, z.within);
    ends = rw p (omega (arith, b.upto, v.before, z.within));
    on = λ s' n. let f : s' ≡ e = cc in (omega (arith, b.after), omega (arith, b.upto, v.before, z.within));
  }
  placed s r (cut q o z v h x p) = record {
    starts = cc;
    within = omega (arith, z.from, z.within);
    ends = rw p (omega (arith, v.before, z.within));
    on = λ s' n. let f : s' ≡ o = cc in (omega arith, omega (arith, v.before, z.within));
  }
  placed s r (single q z v h p) = record {
    starts = cc;
    within = omega (arith, z.from, z.within);
    ends = rw p (omega (arith, z.within));
    on = λ s' n. let f : s' ≡ suc s = cc in (omega arith, omega (arith, z.within));
  }
  placed s r (lone q z v h p) = record {
    starts = cc;
    within = omega (arith, z.from, z.within);
    ends = rw p z.within;
    on = λ s' n. stop_next t s q s' z (seen t q) refl (cc);
  }

-- a place, d further on
abbrev pub moved_place : ℕ → Option ℕ → Option ℕ
moved_place d None = None
moved_place d (Some s) = Some (s + d)

next_moved : (d : ℕ) (g : Ending) (e : ℕ) → next_after g (e + d) ≡ moved_place d (next_after g e)
next_moved d Wrapped e = refl
next_moved d Cut e = refl
next_moved d Newline e = let f : e + d + 1 ≡ e + 1 + d = omega arith in ap Some f
next_moved d End e = refl

pub following_moved : (d : ℕ) (r : Row) → following (moved d r) ≡ moved_place d (following r)
following_moved d r = next_moved d r.ending r.end

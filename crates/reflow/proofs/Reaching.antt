-- How far a row by first fit reaches: past its start, to the start of the next, and of the last row
-- past the end of the text.
use Rattle.std.proofs.Common.{◌≡◌, ℕ, suc, ◌+◌, ◌<◌, ◌≤◌, List, length, Some, None, Option, refl, arith}
use Rattle.metrics.specs.Meaning.{Meaning}
use Rattle.page.specs.Policies.{Rules}
use Rattle.page.specs.Rows.{next_after, following}
use Rattle.page.specs.Texts.{seen}
use Rattle.page.specs.declared.row.Row.{Row}
use Rattle.layout.specs.FirstFit.{at_stop, RowFrom}
use Rattle.layout.specs.FirstFit.RowFrom.{whole, wrapped, cut, single, lone}
use Rattle.layout.proofs.Stops.{unseen_past}

pub record Reached (t : List ℕ) (s : ℕ) (r : Row) : Type 0 where
  pub past : s < r.reach
  pub next : (s' : ℕ) → following r ≡ Some s' → s' ≤ r.reach
  pub last : following r ≡ None → length t < r.reach

-- no row follows one that ends at a stop: the text ends there
stop_last : (t : List ℕ) (q : ℕ) (o : Option ℕ) → seen t q ≡ o → next_after (at_stop o) q ≡ None → length t ≤ q
stop_last t q None e n = unseen_past t q e
stop_last t q (Some c) e n = let z : ◌≡◌ {A = ℕ} 0 1 = cc in absurd (omega arith)

stop_next : (q s' : ℕ) (o : Option ℕ) → next_after (at_stop o) q ≡ Some s' → s' ≤ q + 1
stop_next q s' None n = let z : ◌≡◌ {A = ℕ} 0 1 = cc in absurd (omega arith)
stop_next q s' (Some c) n = let f : s' ≡ q + 1 = cc in omega arith

module _ (m : Meaning) (P : Rules) (w : ℕ) (t : List ℕ) where
  pub reached : (s : ℕ) (r : Row) → RowFrom m P w t s r → Reached t s r
  reached s r (whole q z f p) = record {
    past = rw p (omega (arith, z.from));
    next = λ s' n. let h = stop_next q s' (seen t q) (cc) in rw p h;
    last = λ n. let h = stop_last t q (seen t q) refl (cc) in rw p (omega arith);
  }
  reached s r (wrapped q o e z v b p) = record {
    past = rw p (omega (arith, v.from));
    next = λ s' n. let f : s' ≡ e = cc in rw p (omega arith);
    last = λ n. let x : ◌≡◌ {A = ℕ} 0 1 = cc in absurd (omega arith);
  }
  reached s r (cut q o z v h x p) = record {
    past = rw p (omega (arith, v.from));
    next = λ s' n. let f : s' ≡ o = cc in rw p (omega arith);
    last = λ n. let y : ◌≡◌ {A = ℕ} 0 1 = cc in absurd (omega arith);
  }
  reached s r (single q z v h p) = record {
    past = rw p (omega arith);
    next = λ s' n. let f : s' ≡ suc s = cc in rw p (omega arith);
    last = λ n. let y : ◌≡◌ {A = ℕ} 0 1 = cc in absurd (omega arith);
  }
  reached s r (lone q z v h p) = record {
    past = rw p (omega arith);
    next = λ s' n. let f = stop_next q s' (seen t q) (cc) in rw p (omega arith);
    last = λ n. let f = stop_last t q (seen t q) refl (cc) in rw p (omega arith);
  }

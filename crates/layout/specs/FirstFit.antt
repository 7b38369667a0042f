-- A row by first fit, as a relation in the typesetter's words.
use Rattle.std.specs.Prelude.{◌≡◌, ℕ, suc, pred, ◌+◌, ◌<◌, ◌≤◌, max, Bool, true, false, ◌⊎◌, List, [], ◌∷◌, length, Some, None, Option, ◌≢◌}
use Rattle.metrics.specs.Meaning.{Meaning}
use Rattle.page.specs.Policies.{Rules}
use Rattle.page.specs.Rows.{following}
use Rattle.page.specs.Texts.{seen, part, newline}
use Rattle.layout.specs.Widths.{width}
use Rattle.page.specs.declared.ending.Ending.{Ending}
use Rattle.page.specs.declared.ending.Ending.TheVariants.{Wrapped, Cut, Newline, End}
use Rattle.page.specs.declared.row.Row.{Row}

-- q is the first newline at or after s, or the end of the text
pub record Stop (t : List ℕ) (s q : ℕ) : Type 0 where
  pub from : s ≤ q
  pub within : q ≤ length t
  pub clear : (k : ℕ) → s ≤ k → k < q → seen t k ≢ Some newline
  pub there : (q ≡ length t) ⊎ (seen t q ≡ Some newline)

-- the ending of a row that ends at the stop q: a newline stands there, or the text ends
abbrev pub at_stop : Option ℕ → Ending
at_stop (Some c) = Newline
at_stop None = End

-- whether a row may end between two neighbours of the text
abbrev pub may_between : Rules → Option ℕ → Option ℕ → Bool
may_between P None c = false
may_between P (Some p) None = false
may_between P (Some p) (Some c) = P.may p c

-- whether a row may end at place e
abbrev pub breakable : Rules → List ℕ → ℕ → Bool
breakable P t e = may_between P (seen t (pred e)) (seen t e)

module _ (m : Meaning) (P : Rules) (w : ℕ) (t : List ℕ) where
  abbrev pub Fits : ℕ → ℕ → Type 0
  Fits s e = width m P (part t s e) ≤ w

  -- o is the smallest index before the stop q such that [s, o+1) does not fit
  pub record Over (s q o : ℕ) : Type 0 where
    pub from : s ≤ o
    pub before : o < q
    pub over : w < width m P (part t s (suc o))
    pub first : (k : ℕ) → s ≤ k → k < o → Fits s (suc k)

  -- e is the greatest place, s < e ≤ o, at which a row may end
  pub record LastBreak (s o e : ℕ) : Type 0 where
    pub after : s < e
    pub upto : e ≤ o
    pub here : breakable P t e ≡ true
    pub last : (k : ℕ) → e < k → k ≤ o → breakable P t k ≡ false

  -- the row [s, e) with its ending and reach
  abbrev pub row_to : ℕ → ℕ → Ending → ℕ → Row
  row_to s e g reach = record { start = s; end = e; ending = g; width = width m P (part t s e); reach = reach }

  -- the row of the text that starts at s
  pub data RowFrom (s : ℕ) (r : Row) : Type 0 where
    -- all of it fits: the row ends at the stop
    whole : (q : ℕ) → Stop t s q → ((k : ℕ) → s ≤ k → k < q → Fits s (suc k)) → r ≡ row_to s q (at_stop (seen t q)) (q + 1) → RowFrom s r
    -- it ends at the greatest allowed place
    wrapped : (q o e : ℕ) → Stop t s q → Over s q o → LastBreak s o e → r ≡ row_to s e Wrapped (max o e + 1) → RowFrom s r
    -- there is no allowed place: it ends before the character that does not fit
    cut : (q o : ℕ) → Stop t s q → Over s q o → s < o → ((k : ℕ) → s < k → k ≤ o → breakable P t k ≡ false) → r ≡ row_to s o Cut (max o o + 1) → RowFrom s r
    -- the first character alone does not fit, and more follow it before the stop
    single : (q : ℕ) → Stop t s q → Over s q s → suc s < q → r ≡ row_to s (suc s) Cut (max s (suc s) + 1) → RowFrom s r
    -- the first character alone does not fit, and the stop follows it
    lone : (q : ℕ) → Stop t s q → Over s q s → suc s ≡ q → r ≡ row_to s q (at_stop (seen t q)) (max s (suc s) + 1) → RowFrom s r

  -- the rows of the text from s on
  pub data RowsFrom : ℕ → List Row → Type 0 where
    end : {s : ℕ} {r : Row} → RowFrom s r → following r ≡ None → RowsFrom s (r ∷ [])
    more : {s : ℕ} {r : Row} {rs : List Row} (s' : ℕ) → RowFrom s r → following r ≡ Some s' → RowsFrom s' rs → RowsFrom s (r ∷ rs)

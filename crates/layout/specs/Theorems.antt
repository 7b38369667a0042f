-- What holds of rows by first fit, in words that name no scan.
use Rattle.std.specs.Prelude.{◌≡◌, ℕ, ◌+◌, ◌<◌, ◌≤◌, List, [], ◌∷◌, ◌++◌, map, length, drop, Some, Ok, Err, Result, ◌≢◌}
use Rattle.metrics.specs.Meaning.{Meaning}
use Rattle.layout.specs.Covers.{Covered, first_uncovered}
use Rattle.layout.specs.FirstFit.{RowFrom, RowsFrom}
use Rattle.layout.specs.Layouts.{laid_from}
use Rattle.page.specs.Policies.{Rules}
use Rattle.layout.specs.Scans.{row_from}
use Rattle.page.specs.Texts.{seen}
use Rattle.layout.specs.declared.cover.Uncovered.{Uncovered}
use Rattle.layout.specs.declared.laying.LayFault.TheVariants.{NoGlyph, TooManyRows}
use Rattle.page.specs.declared.row.Row.{Row}

-- what a broken row is, in the typesetter's words: the row by first fit, or what is told of the first
-- character from s on that has no glyph
abbrev pub RightlyBroken : Meaning → Rules → ℕ → List ℕ → ℕ → Result Row Uncovered → Type 0
RightlyBroken m P w t s (Ok r) = RowFrom m P w t s r
RightlyBroken m P w t s (Err u) = first_uncovered m s (drop s t) ≡ Some u

-- a row, d places further on
abbrev pub moved : ℕ → Row → Row
moved d r = record { start = r.start + d; end = r.end + d; ending = r.ending; width = r.width; reach = r.reach + d }

-- the same of a scan's answer
abbrev pub moved_answer : ℕ → Result Row Uncovered → Result Row Uncovered
moved_answer d (Ok r) = Ok (moved d r)
moved_answer d (Err u) = Err (record { offset = u.offset + d; glyph = u.glyph })

-- two texts agree on the places from s up to e, the end of a text counting as a place
abbrev pub Agree : List ℕ → List ℕ → ℕ → ℕ → Type 0
Agree t t' s e = (k : ℕ) → s ≤ k → k < e → seen t k ≡ seen t' k

-- every row of a list reaches at most to e
abbrev pub ReachWithin : ℕ → List Row → Type 0
ReachWithin e [] = Unit {0}
ReachWithin e (r ∷ rs) = (r.reach ≤ e) × ReachWithin e rs

module _ (m : Meaning) (P : Rules) (w : ℕ) where
  pub record RowLaws : Type 0 where
    -- what the scan finds is a row by first fit
    pub is_first_fit : (t : List ℕ) (s : ℕ) (r : Row) → s ≤ length t → row_from m P w t s ≡ Ok r → RowFrom m P w t s r
    -- first fit leaves no choice
    pub only_one : (t : List ℕ) (s : ℕ) (r r' : Row) → RowFrom m P w t s r → RowFrom m P w t s r' → r ≡ r'
    -- a covered text has a row at each of its places
    pub exists : (t : List ℕ) (s : ℕ) → Covered m t → (r : Row) × (row_from m P w t s ≡ Ok r)
    -- a scan that fails tells the first character from its start on that has no glyph
    pub fails_at_first : (t : List ℕ) (s : ℕ) (u : Uncovered) → row_from m P w t s ≡ Err u → first_uncovered m s (drop s t) ≡ Some u
    -- a row depends on nothing before its start or from its reach on
    pub local : (t t' : List ℕ) (s : ℕ) (r : Row) → row_from m P w t s ≡ Ok r → Agree t t' s r.reach → row_from m P w t' s ≡ Ok r
    -- equal characters from there on give the same row, moved along
    pub shifts : (t t' : List ℕ) (s d : ℕ) → drop s t ≡ drop (s + d) t' → row_from m P w t' (s + d) ≡ moved_answer d (row_from m P w t s)

  pub record LayoutLaws : Type 0 where
    -- what is laid are the rows by first fit
    pub are_first_fit : (t : List ℕ) (room s : ℕ) → s ≤ length t → (laid_from m P w t room s).answer ≡ Ok tt → RowsFrom m P w t s (laid_from m P w t room s).rows
    -- first fit leaves no choice
    pub only_one : (t : List ℕ) (s : ℕ) (rs rs' : List Row) → RowsFrom m P w t s rs → RowsFrom m P w t s rs' → rs ≡ rs'
    -- a covered text has rows from each of its places on
    pub exist : (t : List ℕ) (s : ℕ) → s ≤ length t → Covered m t → (rs : List Row) × RowsFrom m P w t s rs
    -- a layout is refused for its rows only if there are more of them than there is room for
    pub too_many : (t : List ℕ) (room s : ℕ) (rs : List Row) → RowsFrom m P w t s rs → (laid_from m P w t room s).answer ≡ Err TooManyRows → room < length rs
    -- a covered text is never refused for want of a glyph
    pub covered : (t : List ℕ) (room s : ℕ) (u : Uncovered) → Covered m t → (laid_from m P w t room s).answer ≢ Err (NoGlyph u)
    -- leading rows that do not reach a change stay: the rows after them follow as in the changed text
    pub local : (t t' : List ℕ) (s s' e : ℕ) (front rest rest' : List Row) (r : Row) → Covered m t → s ≤ length t'
        → RowsFrom m P w t s (front ++ r ∷ rest) → ReachWithin e front → Agree t t' s e
        → r.start ≡ s' → RowsFrom m P w t' s' rest' → RowsFrom m P w t' s (front ++ rest')
    -- equal characters from there on give the same rows, moved along
    pub shift : (t t' : List ℕ) (s d : ℕ) (rs : List Row) → Covered m t → drop s t ≡ drop (s + d) t' → s + d ≤ length t' → RowsFrom m P w t s rs → RowsFrom m P w t' (s + d) (map (moved d) rs)

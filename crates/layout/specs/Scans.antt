-- The row from s on, found in one scan over the characters behind s.
use Rattle.std.specs.Prelude.{ℕ, ◌+◌, Bool, true, false, cond, List, [], ◌∷◌, drop, Some, None, Ok, Err, Option, Result, ◌==◌, nat_lt}
use Rattle.metrics.specs.Meaning.{Meaning, missing}
use Rattle.page.specs.Policies.{Rules}
use Rattle.page.specs.Texts.{seen, newline}
use Rattle.layout.specs.declared.cover.Uncovered.{Uncovered}
use Rattle.page.specs.declared.ending.Ending.{Ending}
use Rattle.page.specs.declared.ending.Ending.TheVariants.{Wrapped, Cut, Newline, End}
use Rattle.page.specs.declared.row.Row.{Row}
use Rattle.layout.specs.declared.scan.Break.{Break}
use Rattle.layout.specs.declared.scan.Scan.{Scan}

-- nothing is taken into the row yet
abbrev pub fresh : ℕ → Scan
fresh s = record { start = s; place = s; before = None; edge = 0; width = 0; last = None }

-- whether a row may end before c
abbrev pub may_before : Rules → Option ℕ → ℕ → Bool
may_before P None c = false
may_before P (Some p) c = P.may p c

-- the last allowed break, once c comes next
abbrev pub last_break : Rules → Scan → ℕ → Option Break
last_break P k c = cond (may_before P k.before c) (Some (record { place = k.place; width = k.width })) k.last

-- c, of advance a, is taken into the row
abbrev pub taken : Rules → Scan → ℕ → ℕ → Scan
taken P k c a = record {
  start = k.start;
  place = k.place + 1;
  before = Some c;
  edge = k.edge + a;
  width = cond (P.hangs c) k.width (k.edge + a);
  last = last_break P k c;
}

-- all that was taken is the row
abbrev pub whole_row : Scan → Ending → Row
whole_row k g = record { start = k.start; end = k.place; ending = g; width = k.width; reach = k.place + 1 }

-- the ending of a row of one character that is wider than the measure, by what follows it
abbrev pub ending_before : Option ℕ → Ending
ending_before None = End
ending_before (Some c) = cond (c == newline) Newline Cut

-- the row without an allowed break: cut before the character that does not fit, or that one alone
abbrev pub cut_row : Scan → ℕ → Option ℕ → Row
cut_row k over follows = cond (k.place == k.start)
    (record { start = k.start; end = k.place + 1; ending = ending_before follows; width = over; reach = k.place + 2 })
    (record { start = k.start; end = k.place; ending = Cut; width = k.width; reach = k.place + 1 })

-- the row that ends at a break, where there is one
abbrev pub broken_row : Scan → Option Break → ℕ → Option ℕ → Row
broken_row k None over follows = cut_row k over follows
broken_row k (Some b) over follows = record { start = k.start; end = b.place; ending = Wrapped; width = b.width; reach = k.place + 1 }

-- the row, once the character after k does not fit and n is the scan with it
abbrev pub over_row : Scan → Scan → Option ℕ → Row
over_row k n follows = broken_row k n.last n.width follows

-- the scan from k on over the characters left
unfoldable pub scan : Meaning → Rules → ℕ → Scan → List ℕ → Result Row Uncovered
scan m P w k [] = Ok (whole_row k End)
scan m P w k (c ∷ cs) =
    let n = taken P k c (m.adv k.before c) in
    elim (c == newline) [
      | true ↦ Ok (whole_row k Newline)
      | false ↦ elim (m.covers c) [
        | false ↦ Err (record { offset = k.place; glyph = missing m c })
        | true ↦ elim (nat_lt w n.width) [
          | true ↦ Ok (over_row k n (seen cs 0))
          | false ↦ scan m P w n cs
        ]
      ]
    ]

-- the row of the text t that starts at s; the first character that it would need and that has no
-- glyph is told
abbrev pub row_from : Meaning → Rules → ℕ → List ℕ → ℕ → Result Row Uncovered
row_from m P w t s = scan m P w (fresh s) (drop s t)

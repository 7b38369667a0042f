-- Only a settling tells a record, and nothing is owed after it.
use Rattle.std.proofs.Common.{◌≡◌, ℕ, ◌+◌, ◌-◌, leb, List, length, Some, None, Option, sym, refl, subst, inl, inr, arith}
use Rattle.std.proofs.lemmas.Bool.{cases_Bool, cases_lt}
use Rattle.std.specs.List.{slice_get}
use Rattle.page.specs.Texts.{most_characters}
use Rattle.page.specs.declared.row.Row.{Row}
use Rattle.layout.specs.Covers.{first_uncovered}
use Rattle.layout.specs.Layouts.{most_rows}
use Rattle.layout.specs.declared.cover.Uncovered.{Uncovered}
use Rattle.reflow.specs.declared.repaint.Repaint.{Repaint}
use Rattle.sheet.specs.Clean.{Making, Clean, Call, Answer, Step, clean_rows, step, replaced, replace_step, remeasured, remeasure_step, settle_by, show_by}
use Rattle.sheet.specs.Clean.Answer.{accepted, refused, settled, shown}
use Rattle.sheet.specs.Clean.Call.{replace, remeasure, refresh, settle, row}
use Rattle.sheet.proofs.Replacing.{at_owed, out_of_text, too_long, no_glyph, too_many, accepts}

-- no record is told
abbrev TellsNone : Answer → Type 0
TellsNone accepted = Unit {0}
TellsNone (refused told) = Unit {0}
TellsNone (settled p) = ⊥
TellsNone (shown r b) = Unit {0}

module _ (k : Making) (c : Clean) (p : Repaint) where
  never : (a : Answer) → TellsNone a → a ≡ settled p → ⊥
  never a n e = subst TellsNone e n

  by : {st st' : Step} → st ≡ st' → TellsNone st'.answer → TellsNone st.answer
  by q n = subst (λ (x : Step). TellsNone x.answer) (sym q) n

  -- a replace is accepted or refused
  replace_tells_none : (at del : ℕ) (ins : List ℕ) (o : Option Repaint) (u : Option Uncovered) → c.owed ≡ o → first_uncovered k.meaning 0 ins ≡ u → TellsNone (replace_step k c at del ins).answer
  replace_tells_none at del ins (Some x) u o f = by (at_owed k c at del ins x o) tt
  replace_tells_none at del ins None u o f = elim (cases_lt (length c.text) at) [
    | inl l ↦ by (out_of_text k c at del ins o (λ a b. omega arith)) tt
    | inr a ↦ elim (cases_lt (length c.text - at) del) [
      | inl l ↦ by (out_of_text k c at del ins o (λ a b. omega arith)) tt
      | inr b ↦ elim (cases_lt most_characters (length c.text - del + length ins)) [
        | inl l ↦ by (too_long k c at del ins o a b l) tt
        | inr d ↦ elim u as (λ x. first_uncovered k.meaning 0 ins ≡ x → TellsNone (replace_step k c at del ins).answer) [
          | Some x ↦ λ g. by (no_glyph k c at del ins o a b d x g) tt
          | None ↦ λ g. elim (cases_lt most_rows (length (clean_rows k (replaced k c at del ins)))) [
            | inl l ↦ by (too_many k c at del ins o a b d g l) tt
            | inr l ↦ by (accepts k c at del ins o a b d g l) tt
          ]
        ] f
      ]
    ]
  ]

  remeasure_tells_none : (w : ℕ) (o : Option Repaint) → c.owed ≡ o → (remeasure_step k c w).answer ≡ settled p → ⊥
  unfolding remeasure_step
  remeasure_tells_none w (Some x) o e = let z : ◌≡◌ {A = ℕ} 0 1 = cc in omega arith
  remeasure_tells_none w None o e = elim (cases_Bool (leb (length (clean_rows k (remeasured k c w))) most_rows)) [
    | inl t ↦ let z : ◌≡◌ {A = ℕ} 0 1 = cc in omega arith
    | inr t ↦ let z : ◌≡◌ {A = ℕ} 0 1 = cc in omega arith
  ]

  row_tells_none : (b : List ℕ) (o : Option Row) → (show_by c o b).answer ≡ settled p → ⊥
  row_tells_none b None e = let z : ◌≡◌ {A = ℕ} 0 1 = cc in omega arith
  row_tells_none b (Some r) e = elim (cases_Bool (leb (r.end - r.start) (length b))) [
    | inl t ↦ let z : ◌≡◌ {A = ℕ} 0 1 = cc in omega arith
    | inr t ↦ let z : ◌≡◌ {A = ℕ} 0 1 = cc in omega arith
  ]

  settles : (o : Option Repaint) → (settle_by c o).answer ≡ settled p → (settle_by c o).next.owed ≡ None
  settles None e = let z : ◌≡◌ {A = ℕ} 0 1 = cc in absurd (omega arith)
  settles (Some x) e = refl

  pub nothing_owed : (call : Call) → (step k c call).answer ≡ settled p → (step k c call).next.owed ≡ None
  nothing_owed (replace at del ins) e = absurd (never (replace_step k c at del ins).answer (replace_tells_none at del ins c.owed (first_uncovered k.meaning 0 ins) refl refl) e)
  nothing_owed (remeasure w) e = absurd (remeasure_tells_none w c.owed refl e)
  nothing_owed refresh e = let z : ◌≡◌ {A = ℕ} 0 1 = cc in absurd (omega arith)
  nothing_owed settle e = settles c.owed e
  nothing_owed (row i b) e = absurd (row_tells_none b (slice_get (clean_rows k c) i) e)

-- The four ways that a scan goes on at a character, as cases.
use Rattle.std.proofs.Common.{◌≡◌, ℕ, ◌<◌, ◌≤◌, true, false, inl, inr}
use Rattle.std.proofs.lemmas.Bool.{cases_Bool, cases_lt, cases_eq}
use Rattle.metrics.specs.Meaning.{Meaning}
use Rattle.page.specs.Policies.{Rules}
use Rattle.page.specs.Texts.{newline}
use Rattle.layout.specs.Scans.{taken}
use Rattle.layout.specs.declared.scan.Scan.{Scan}

-- the scan with c taken
abbrev pub after : Meaning → Rules → Scan → ℕ → Scan
after m P k c = taken P k c (m.adv k.before c)

pub data Way (m : Meaning) (P : Rules) (w : ℕ) (k : Scan) (c : ℕ) : Type 0 where
  stops : c ≡ newline → Way m P w k c
  misses : (c ≡ newline → ⊥) → m.covers c ≡ false → Way m P w k c
  exceeds : (c ≡ newline → ⊥) → m.covers c ≡ true → w < (after m P k c).width → Way m P w k c
  goes_on : (c ≡ newline → ⊥) → m.covers c ≡ true → (after m P k c).width ≤ w → Way m P w k c

pub way : (m : Meaning) (P : Rules) (w : ℕ) (k : Scan) (c : ℕ) → Way m P w k c
way m P w k c = elim (cases_eq c newline) [
  | inl e ↦ stops e
  | inr n ↦ elim (cases_Bool (m.covers c)) [
    | inr u ↦ misses n u
    | inl v ↦ elim (cases_lt w (after m P k c).width) [
      | inl h ↦ exceeds n v h
      | inr h ↦ goes_on n v h
    ]
  ]
]

-- One character at the end of the text: how the clean sheet takes it, and where that leads.
use Rattle.std.proofs.Common.{◌≡◌, ℕ, ◌+◌, ◌-◌, ◌≤◌, ◌⊎◌, List, [], ◌∷◌, ◌++◌, length, Some, None, Ok, Err, Option, sym, refl, ap, ◌∙◌, ap₂, inl, inr, arith}
use Rattle.std.proofs.lemmas.List.{append-nil, take_all, drop_all}
use Rattle.std.proofs.lemmas.Bool.{cases_lt}
use Rattle.page.specs.Texts.{edited, most_characters}
use Rattle.layout.specs.Covers.{first_uncovered}
use Rattle.layout.specs.Layouts.{most_rows}
use Rattle.layout.specs.declared.cover.Uncovered.{Uncovered}
use Rattle.reflow.specs.Screens.{Shown}
use Rattle.reflow.specs.declared.repaint.Repaint.{Repaint}
use Rattle.sheet.specs.Clean.{Making, Clean, Answer, Step, clean_rows, refuse, replaced, replace_step, settle_by, settle_step}
use Rattle.sheet.specs.Clean.Answer.{accepted, refused, settled}
use Rattle.sheet.specs.Clean.Call.{replace, settle}
use Rattle.sheet.specs.Faults.{replace_told}
use Rattle.sheet.specs.Histories.{Event, History, State, Follows, clean_after, clean_screen, screen_after, due, event}
use Rattle.sheet.specs.declared.fault.ReplaceFault.{ReplaceFault}
use Rattle.sheet.proofs.Replacing.{at_owed, out_of_text, too_long, no_glyph, too_many, accepts}
use Rattle.typing.specs.Typing.{Key, typed, settled_after, rows_broken}
use Rattle.typing.specs.declared.fault.KeyFault.TheVariants.{Refused}

-- a replace puts the insertion in place, or leaves the sheet
abbrev Goes : Making → Clean → ℕ → ℕ → List ℕ → Type 0
Goes k c at del ins =
    (replace_step k c at del ins ≡ record { next = replaced k c at del ins; answer = accepted })
    ⊎ ((told : List ℕ) × (replace_step k c at del ins ≡ refuse c told))

module _ (k : Making) (c : Clean) (at del : ℕ) (ins : List ℕ) where
  goes_by : (o : Option Repaint) (u : Option Uncovered) → c.owed ≡ o → first_uncovered k.meaning 0 ins ≡ u → Goes k c at del ins
  goes_by (Some x) u o f = inr (_, at_owed k c at del ins x o)
  goes_by None u o f = elim (cases_lt (length c.text) at) [
    | inl l ↦ inr (_, out_of_text k c at del ins o (λ a b. omega arith))
    | inr a ↦ elim (cases_lt (length c.text - at) del) [
      | inl l ↦ inr (_, out_of_text k c at del ins o (λ a b. omega arith))
      | inr b ↦ elim (cases_lt most_characters (length c.text - del + length ins)) [
        | inl l ↦ inr (_, too_long k c at del ins o a b l)
        | inr d ↦ elim u as (λ x. first_uncovered k.meaning 0 ins ≡ x → Goes k c at del ins) [
          | Some x ↦ λ g. inr (_, no_glyph k c at del ins o a b d x g)
          | None ↦ λ g. elim (cases_lt most_rows (length (clean_rows k (replaced k c at del ins)))) [
            | inl l ↦ inr (_, too_many k c at del ins o a b d g l)
            | inr l ↦ inl (accepts k c at del ins o a b d g l)
          ]
        ] f
      ]
    ]
  ]

  goes : Goes k c at del ins
  goes = goes_by c.owed (first_uncovered k.meaning 0 ins) refl refl

  put : (replace_step k c at del ins).answer ≡ accepted → (replace_step k c at del ins).next ≡ replaced k c at del ins
  put a = elim goes [
    | inl e ↦ ap (λ (s : Step). s.next) e
    | inr e ↦ let z : ◌≡◌ {A = ℕ} 0 1 = cc e.1 in absurd (omega arith)
  ]

  left : (told : List ℕ) → (replace_step k c at del ins).answer ≡ refused told → (replace_step k c at del ins).next ≡ c
  left told a = elim goes [
    | inl e ↦ let z : ◌≡◌ {A = ℕ} 0 1 = cc in absurd (omega arith)
    | inr e ↦ ap (λ (s : Step). s.next) e.1
  ]

-- an edit at the end
at_the_end : (t ins : List ℕ) → edited t (length t) 0 ins ≡ t ++ ins
at_the_end t ins =
    let end : length t ≤ length t + 0 = omega arith in
    ap₂ (λ (a b : List ℕ). a ++ (ins ++ b)) (take_all (length t) t (omega arith)) (drop_all (length t + 0) t end)
    ∙ ap (λ (a : List ℕ). t ++ a) (append-nil ins)

-- a settling tells what was owed, and is refused only where nothing was
tells : (c : Clean) (o : Option Repaint) (p : Repaint) → settled p ≡ (settle_by c o).answer → p.broken ≡ rows_broken o
tells c None p e = let z : ◌≡◌ {A = ℕ} 0 1 = cc in absurd (omega arith)
tells c (Some q) p e = cc

never_refused : (c : Clean) (p : Repaint) (told : List ℕ) → c.owed ≡ Some p → refused told ≡ (settle_step c).answer → ⊥
never_refused c p told o e = let z : ◌≡◌ {A = ℕ} 0 1 = cc in omega arith

-- the two events of a key: the character is put at a place, and that is settled
abbrev pub put_event : ℕ → ℕ → Answer → State → Event
put_event at x answer s = event (replace at 0 (x ∷ [])) answer s

abbrev pub settle_event : Answer → State → Event
settle_event answer s = event settle answer s

module _ (k : Making) (h : History) (x at : ℕ) (end : at ≡ length (clean_after k h).text) where
  same : replace_step k (clean_after k h) at 0 (x ∷ []) ≡ typed k (clean_after k h) x
  same = ap (λ (i : ℕ). replace_step k (clean_after k h) i 0 (x ∷ [])) end

  -- the sheet refuses it, and stays
  pub refused_key : (s : State) (screen : List Shown) (fault : ReplaceFault) → Follows k h s → screen ≡ screen_after k h
      → (s₁ : State) → Follows k (put_event at x (refused (replace_told fault)) s₁ ∷ h) s₁ → Key k h x (Err (Refused fault)) s₁ screen
  refused_key s screen fault f sees s₁ f₁ =
      let c = clean_after k h in
      let a : (replace_step k c at 0 (x ∷ [])).answer ≡ refused (replace_told fault) = sym f₁.agrees.0.answer in (
        ap (λ (t : Step). t.answer) (sym same) ∙ a,
        record {
          later = put_event at x (refused (replace_told fault)) s₁ ∷ [];
          follows = f₁;
          clean = left k c at 0 (x ∷ []) (replace_told fault) a;
          screen_is = sees;
          right = λ none. sees ∙ ap (λ (o : Option Repaint). due o (clean_screen k c) (screen_after k h)) (sym none) ∙ f.screen;
        },
      )

  module _ (s₁ : State) (f₁ : Follows k (put_event at x accepted s₁ ∷ h) s₁) where
    taken : (typed k (clean_after k h) x).answer ≡ accepted
    taken = ap (λ (t : Step). t.answer) (sym same) ∙ sym f₁.agrees.0.answer

    becomes : (typed k (clean_after k h) x).next ≡ replaced k (clean_after k h) (length (clean_after k h).text) 0 (x ∷ [])
    becomes = put k (clean_after k h) (length (clean_after k h).text) 0 (x ∷ []) taken

    -- a record is owed then, so that the settling is not refused
    pub never_unsettled : (s₂ : State) (told : List ℕ) → Follows k (settle_event (refused told) s₂ ∷ (put_event at x accepted s₁ ∷ h)) s₂ → ⊥
    never_unsettled s₂ told f₂ = never_refused (replace_step k (clean_after k h) at 0 (x ∷ [])).next _ told (ap (λ (t : Step). t.next.owed) same ∙ ap (λ (n : Clean). n.owed) becomes) f₂.agrees.0.answer

    -- the screen follows that record
    pub taken_key : (s₂ s : State) (p : Repaint) (screen : List Shown) → Follows k (settle_event (settled p) s₂ ∷ (put_event at x accepted s₁ ∷ h)) s
        → screen ≡ screen_after k (settle_event (settled p) s₂ ∷ (put_event at x accepted s₁ ∷ h))
        → screen ≡ clean_screen k (clean_after k (settle_event (settled p) s₂ ∷ (put_event at x accepted s₁ ∷ h)))
        → Key k h x (Ok p.broken) s screen
    taken_key s₂ s p screen f₂ sees shows =
        let c = clean_after k h in
        let was = (replace_step k c at 0 (x ∷ [])).next in
        let clean : settled_after (replace_step k c at 0 (x ∷ [])) ≡ settled_after (typed k c x) = ap settled_after same in (
          taken,
          ap (λ (n : Clean). n.text) becomes ∙ at_the_end c.text (x ∷ []),
          tells was was.owed p f₂.agrees.0.answer ∙ ap (λ (t : Step). rows_broken t.next.owed) same,
          record {
            later = settle_event (settled p) s₂ ∷ (put_event at x accepted s₁ ∷ []);
            follows = f₂;
            clean = clean;
            screen_is = sees;
            right = λ none. shows ∙ ap (clean_screen k) clean;
          },
        )

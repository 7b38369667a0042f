-- How a clean sheet answers a replace, and that a sheet which lays the edited text goes on following it.
use Rattle.std.proofs.Common.{◌≡◌, ℕ, zero, suc, ◌+◌, ◌-◌, ◌<◌, ◌≤◌, true, false, ◌&&◌, leb, List, [], ◌∷◌, ◌++◌, length, take, drop, is_some, Some, None, Option, Result, MatchResult, sym, refl, ap, ◌∙◌, subst, ap₂, subst₂, inl, inr, arith, le-leb}
use borrow.Author.Tests.{lt-leb}
use Rattle.std.proofs.lemmas.List.{length-append, length-take, length-drop}
use Rattle.std.proofs.lemmas.Bool.{and_from, and_left, and_right, cases_lt}
use Rattle.metrics.specs.Meaning.{Meaning}
use Rattle.page.specs.Policies.{Rules}
use Rattle.page.specs.Texts.{edited, most_characters}
use Rattle.page.specs.declared.row.Row.{Row}
use Rattle.layout.proofs.Covering.{covered_from}
use Rattle.layout.proofs.Settling.{covered_from_none}
use Rattle.layout.specs.Covers.{Covered, first_uncovered, told}
use Rattle.layout.specs.Layouts.{most_rows}
use Rattle.layout.specs.declared.cover.Uncovered.{Uncovered}
use Rattle.layout.specs.declared.laying.LayFault.{LayFault}
use Rattle.layout.specs.declared.laying.LayFault.TheVariants.{NoGlyph, TooManyRows}
use Rattle.reflow.proofs.ReflowTheorems.{reflow_laws}
use Rattle.reflow.specs.Edits.{rows_of}
use Rattle.reflow.specs.Repaints.{repaint_of}
use Rattle.reflow.specs.Screens.{Shown, followed}
use Rattle.reflow.specs.Relaying.{Relaid, RelaidTo}
use Rattle.reflow.specs.declared.repaint.Repaint.{Repaint}
use Rattle.sheet.specs.Carried.{replace_fault}
use Rattle.sheet.specs.Faults.{Early}
use Rattle.sheet.specs.Clean.{Making, Clean, clean_rows, refuse, replaced, replace_step, edit_of}
use Rattle.sheet.specs.Clean.Answer.{accepted, refused}
use Rattle.sheet.specs.Clean.Call.{replace}
use Rattle.sheet.specs.Laid.{Laid}
use Rattle.sheet.specs.Histories.{History, State, Follows, clean_after, screen_after, clean_screen, due, event}
use Rattle.sheet.proofs.Continuing.{Owes, laid_sheet, goes_on_by, refused_call}

covered_append : (m : Meaning) (xs ys : List ℕ) → Covered m xs → Covered m ys → Covered m (xs ++ ys)
covered_append m [] ys a b = b
covered_append m (x ∷ xs) ys a b = go (covered_append m xs ys (λ k. a (suc k)) b)
  where
    go : Covered m (xs ++ ys) → Covered m (x ∷ (xs ++ ys))
    go rest zero c e n = a zero c e n
    go rest (suc k) c e n = rest k c e n

covered_take : (m : Meaning) (n : ℕ) (t : List ℕ) → Covered m t → Covered m (take n t)
covered_take m zero t v = λ k c e n. (let z : ◌≡◌ {A = ℕ} 0 1 = cc in absurd (omega arith))
covered_take m (suc i) [] v = λ k c e n. (let z : ◌≡◌ {A = ℕ} 0 1 = cc in absurd (omega arith))
covered_take m (suc i) (x ∷ t) v = go (covered_take m i t (λ k. v (suc k)))
  where
    go : Covered m (take i t) → Covered m (x ∷ take i t)
    go rest zero c e n = v zero c e n
    go rest (suc k) c e n = rest k c e n

pub covered_edited : (m : Meaning) (t : List ℕ) (at del : ℕ) (ins : List ℕ) → Covered m t → first_uncovered m 0 ins ≡ None → Covered m (edited t at del ins)
covered_edited m t at del ins v e =
    covered_append m (take at t) (ins ++ drop (at + del) t) (covered_take m at t v)
    (covered_append m ins (drop (at + del) t) (covered_from_none m 0 ins e) (covered_from m t (at + del) v))

-- each way of a replace, on the clean sheet
module _ (k : Making) (c : Clean) (at del : ℕ) (ins : List ℕ) where
  pub at_owed : (p : Repaint) → c.owed ≡ Some p → replace_step k c at del ins ≡ refuse c (1 ∷ [])
  unfolding replace_step
  at_owed p o = cc

  outside : (at ≤ length c.text → del ≤ length c.text - at → ⊥) → (leb at (length c.text) && leb del (length c.text - at)) ≡ false
  outside out = elim (cases_lt (length c.text) at) [
    | inl h ↦ and_left (leb at (length c.text)) (leb del (length c.text - at)) (lt-leb at (length c.text) h)
    | inr h ↦ elim (cases_lt (length c.text - at) del) [
      | inl g ↦ and_right (leb at (length c.text)) (leb del (length c.text - at)) (lt-leb del (length c.text - at) g)
      | inr g ↦ absurd (out h g)
    ]
  ]

  pub out_of_text : c.owed ≡ None → (at ≤ length c.text → del ≤ length c.text - at → ⊥) → replace_step k c at del ins ≡ refuse c (2 ∷ [])
  unfolding replace_step
  out_of_text o out = cc (outside out)

  module _ (o : c.owed ≡ None) (in-text : at ≤ length c.text) (in_rest : del ≤ length c.text - at) where
    within : (leb at (length c.text) && leb del (length c.text - at)) ≡ true
    within = and_from (leb at (length c.text)) (leb del (length c.text - at)) (le-leb at (length c.text) in-text) (le-leb del (length c.text - at) in_rest)

    pub too_long : most_characters < length c.text - del + length ins → replace_step k c at del ins ≡ refuse c (3 ∷ [])
    unfolding replace_step
    too_long h = cc (within, lt-leb (length c.text - del + length ins) most_characters h)

    module _ (fits : length c.text - del + length ins ≤ most_characters) where
      pub no_glyph : (u : Uncovered) → first_uncovered k.meaning 0 ins ≡ Some u → replace_step k c at del ins ≡ refuse c (told u)
      unfolding replace_step
      no_glyph u e = cc (within, le-leb (length c.text - del + length ins) most_characters fits)

      pub too_many : first_uncovered k.meaning 0 ins ≡ None → most_rows < length (clean_rows k (replaced k c at del ins)) → replace_step k c at del ins ≡ refuse c (5 ∷ [])
      unfolding replace_step
      too_many e h = cc (within, le-leb (length c.text - del + length ins) most_characters fits, lt-leb (length (clean_rows k (replaced k c at del ins))) most_rows h)

      pub accepts : first_uncovered k.meaning 0 ins ≡ None → length (clean_rows k (replaced k c at del ins)) ≤ most_rows → replace_step k c at del ins ≡ record { next = replaced k c at del ins; answer = accepted }
      unfolding replace_step
      accepts e h = cc (within, le-leb (length c.text - del + length ins) most_characters fits, le-leb (length (clean_rows k (replaced k c at del ins))) most_rows h)

-- what a sheet has to show once the edited text is laid
pub record Lays (s s' : State) (at del : ℕ) (ins : List ℕ) (p : Repaint) : Type 0 where
  pub meaning : s'.meaning ≡ s.meaning
  pub rules : s'.rules ≡ s.rules
  pub sound : s.sound → s'.sound
  pub measure : s'.measure ≡ s.measure
  pub text : s'.text ≡ edited s.text at del ins
  pub rows : s'.rows ≡ rows_of s.meaning s.rules s.measure (edited s.text at del ins)
  pub few_rows : length (rows_of s.meaning s.rules s.measure (edited s.text at del ins)) ≤ most_rows
  pub owed : s'.owed ≡ Some p
  pub painted : p ≡ repaint_of (edit_of at del ins) s.rows (rows_of s.meaning s.rules s.measure (edited s.text at del ins))

-- an edit within the text, of whose insertion all characters have glyphs, and after which the text is not too long
pub record Admits (m : Meaning) (t : List ℕ) (at del : ℕ) (ins : List ℕ) : Type 0 where
  pub in_text : at ≤ length t
  pub in_rest : del ≤ length t - at
  pub fits : length t - del + length ins ≤ most_characters
  pub glyphs : first_uncovered m 0 ins ≡ None

-- what relaying a laid text after an edit comes to. The insertion was looked over before, which left the
-- meaning m as it was
pub laid_anew : {m m' : Meaning} {P : Rules} {w : ℕ} {t t' : List ℕ} {old old' : List Row} {at del : ℕ} {ins : List ℕ} (r : Result Repaint LayFault) (rows : List Row) (before after : ℕ)
    → Laid (record { meaning = m; rules = P; measure = w }) t old → m' ≡ m → Admits m t at del ins
    → t' ≡ edited t at del ins → old' ≡ old → Relaid m' P w t' (edit_of at del ins) old' r rows before after
    → MatchResult r (λ p. RelaidTo (edit_of at del ins) old (rows_of m P w (edited t at del ins)) p rows before after) (λ f. (f ≡ TooManyRows) × (most_rows < length (rows_of m P w (edited t at del ins))))
laid_anew {m = m} {P = P} {w = w} {t = t} {old = old} {at = at} {del = del} {ins = ins} r rows before after laid same a becomes is relaid =
    let to : Relaid m P w (edited t at del ins) (edit_of at del ins) old r rows before after =
    coe 0 1 (i. Relaid (same i) P w (becomes i) (edit_of at del ins) (is i) r rows before after) relaid in
    to t ins refl (record { within = omega (arith, a.in_text, a.in_rest); long = refl; covered = laid.covered; covers = covered_edited m t at del ins laid.covered a.glyphs }) laid.first_fit

-- and what relaying a sheet's text comes to
module _ (k : Making) (h : History) (s : State) (f : Follows k h s) (at del : ℕ) (ins : List ℕ) (a : Admits s.meaning s.text at del ins) where
  pub sheet_anew : {m' : Meaning} {t' : List ℕ} {old' : List Row} (r : Result Repaint LayFault) (rows : List Row) (before after : ℕ)
      → m' ≡ s.meaning → t' ≡ edited s.text at del ins → old' ≡ s.rows → Relaid m' s.rules s.measure t' (edit_of at del ins) old' r rows before after
      → MatchResult r (λ p. RelaidTo (edit_of at del ins) s.rows (rows_of s.meaning s.rules s.measure (edited s.text at del ins)) p rows before after) (λ e. (e ≡ TooManyRows) × (most_rows < length (rows_of s.meaning s.rules s.measure (edited s.text at del ins))))
  sheet_anew r rows before after same becomes is relaid = laid_anew r rows before after (laid_sheet k h s f) same a becomes is relaid

module _ (k : Making) (h : History) (s s' : State) (f : Follows k h s) (at del : ℕ) (ins : List ℕ) (none : s.owed ≡ None) (a : Admits s.meaning s.text at del ins) where
  at_clean : Admits k.meaning (clean_after k h).text at del ins
  at_clean = subst₂ (λ (m : Meaning) (t : List ℕ). Admits m t at del ins) f.meaning f.text a

  same_rows : rows_of s.meaning s.rules s.measure (edited s.text at del ins) ≡ clean_rows k (replaced k (clean_after k h) at del ins)
  same_rows = λ i. rows_of (f.meaning i) (f.rules i) (f.measure i) (edited (f.text i) at del ins)

  pub refused_many : most_rows < length (rows_of s.meaning s.rules s.measure (edited s.text at del ins)) → Owes s s' s.owed → Follows k (event (replace at del ins) (refused (5 ∷ [])) s' ∷ h) s'
  unfolding same_rows
  refused_many many w =
      let a' = at_clean in
      refused_call k h s s' f (replace at del ins) (5 ∷ [])
      (too_many k (clean_after k h) at del ins (sym f.owed ∙ none) a'.in_text a'.in_rest a'.fits a'.glyphs (subst (λ (rs : List Row). most_rows < length rs) same_rows many)) w

  pub replaced_call : (p : Repaint) → Lays s s' at del ins p → Follows k (event (replace at del ins) accepted s' ∷ h) s'
  unfolding same_rows
  replaced_call p l =
      let c = clean_after k h in
      let a' = at_clean in
      let owes : c.owed ≡ None = sym f.owed ∙ none in
      let few : length (clean_rows k (replaced k c at del ins)) ≤ most_rows = subst (λ (rs : List Row). length rs ≤ most_rows) same_rows l.few_rows in
      let covers : Covered k.meaning (edited c.text at del ins) = covered_edited k.meaning c.text at del ins f.covered a'.glyphs in
      let shown-so-far : screen_after k h ≡ clean_screen k c = ap (λ (o : Option Repaint). due o (clean_screen k c) (screen_after k h)) (sym owes) ∙ f.screen in
      goes_on_by k h s s' (replace at del ins) accepted (record { next = replaced k c at del ins; answer = accepted })
      (accepts k c at del ins owes a'.in_text a'.in_rest a'.fits a'.glyphs few) f refl
      (record {
        meaning = l.meaning;
        rules = l.rules;
        sound = l.sound;
        measure = l.measure ∙ f.measure;
        text = l.text ∙ ap (λ (t : List ℕ). edited t at del ins) f.text;
        owed = l.owed ∙ ap Some (l.painted ∙ ap₂ (repaint_of (edit_of at del ins)) f.rows same_rows);
        rows = l.rows ∙ same_rows;
        covered = covers;
        few_rows = few;
        few = long_enough c a'.in_text a'.in_rest a'.fits;
      })
      (ap (λ (x : List Shown). followed (repaint_of (edit_of at del ins) (clean_rows k c) (clean_rows k (replaced k c at del ins))) (clean_screen k (replaced k c at del ins)) x) shown-so-far
      ∙ (reflow_laws k.meaning k.rules c.measure).repaint c.text ins (edit_of at del ins) (record { within = omega (arith, a'.in_text, a'.in_rest); long = refl; covered = f.covered; covers = covers }))
    where
      long_enough : (c : Clean) → at ≤ length c.text → del ≤ length c.text - at → length c.text - del + length ins ≤ most_characters → length (edited c.text at del ins) ≤ most_characters
      long_enough c a b e = simp (length-append, length-take, length-drop) (omega arith)

pub some_owed : (o : Option Repaint) → is_some o ≡ true → (p : Repaint) × (o ≡ Some p)
some_owed None e = let z : ◌≡◌ {A = ℕ} 0 1 = cc in absurd (omega arith)
some_owed (Some p) e = (p, refl)

pub none_owed : (o : Option Repaint) → is_some o ≡ false → o ≡ None
none_owed None e = refl
none_owed (Some p) e = cc

-- each refusal of a replace, on the worked sheet
module _ (k : Making) (h : History) (s s' : State) (f : Follows k h s) (at del : ℕ) (ins : List ℕ) (w : Owes s s' s.owed) where
  pub refused_owed : is_some s.owed ≡ true → Follows k (event (replace at del ins) (refused (1 ∷ [])) s' ∷ h) s'
  refused_owed e =
      let p = some_owed s.owed e in
      refused_call k h s s' f (replace at del ins) (1 ∷ []) (at_owed k (clean_after k h) at del ins p.0 (sym f.owed ∙ p.1)) w

  module _ (none : s.owed ≡ None) where
    free : (clean_after k h).owed ≡ None
    free = sym f.owed ∙ none

    pub refused_out : (at ≤ length s.text → del ≤ length s.text - at → ⊥) → Follows k (event (replace at del ins) (refused (2 ∷ [])) s' ∷ h) s'
    refused_out out =
        refused_call k h s s' f (replace at del ins) (2 ∷ [])
        (out_of_text k (clean_after k h) at del ins free (subst (λ (t : List ℕ). at ≤ length t → del ≤ length t - at → ⊥) f.text out)) w

    module _ (in-text : at ≤ length s.text) (in_rest : del ≤ length s.text - at) where
      in_text' : at ≤ length (clean_after k h).text
      in_text' = subst (λ (t : List ℕ). at ≤ length t) f.text in-text

      in_rest' : del ≤ length (clean_after k h).text - at
      in_rest' = subst (λ (t : List ℕ). del ≤ length t - at) f.text in_rest

      pub refused_long : most_characters < length s.text - del + length ins → Follows k (event (replace at del ins) (refused (3 ∷ [])) s' ∷ h) s'
      refused_long long =
          refused_call k h s s' f (replace at del ins) (3 ∷ [])
          (too_long k (clean_after k h) at del ins free in_text' in_rest' (subst (λ (t : List ℕ). most_characters < length t - del + length ins) f.text long)) w

      module _ (fits : length s.text - del + length ins ≤ most_characters) where
        fits' : length (clean_after k h).text - del + length ins ≤ most_characters
        fits' = subst (λ (t : List ℕ). length t - del + length ins ≤ most_characters) f.text fits

        pub refused_glyph : (u : Uncovered) → first_uncovered s.meaning 0 ins ≡ Some u → Follows k (event (replace at del ins) (refused (told u)) s' ∷ h) s'
        refused_glyph u e =
            refused_call k h s s' f (replace at del ins) (told u)
            (no_glyph k (clean_after k h) at del ins free in_text' in_rest' fits' u (ap (λ (m : Meaning). first_uncovered m 0 ins) (sym f.meaning) ∙ e)) w

-- a fault of the layout is no early one
pub never_early : (e : LayFault) → Early (replace_fault e) → ⊥
never_early (NoGlyph u) x = x
never_early TooManyRows x = x

-- What a scan finds is a row by first fit.
use Rattle.std.proofs.Common.{◌≡◌, ℕ, suc, pred, ◌+◌, ◌<◌, ◌≤◌, max, true, false, List, [], ◌∷◌, ◌++◌, length, drop, Some, None, Ok, Option, sym, refl, ap, ◌∙◌, inl, inr, add-one, arith, length-drop}
use Rattle.std.proofs.lemmas.List.{drop-drop}
use Rattle.std.proofs.lemmas.Bool.{cases_eq, cases_lt, cond_both, eq-eqb, ne_eqb}
use Rattle.metrics.specs.Meaning.{Meaning}
use Rattle.layout.specs.FirstFit.{Stop, at_stop, may_between, breakable, Over, row_to, RowFrom}
use Rattle.layout.specs.FirstFit.RowFrom.{whole, wrapped, cut, single, lone}
use Rattle.page.specs.Policies.{Rules}
use Rattle.page.specs.Texts.{seen, part, newline}
use Rattle.layout.specs.Widths.{sum_after, edge, unhung, width}
use Rattle.layout.specs.Scans.{scan, row_from, fresh, may_before, last_break, whole_row, ending_before, over_row}
use Rattle.page.specs.declared.row.Row.{Row}
use Rattle.layout.specs.declared.scan.Break.{Break}
use Rattle.layout.specs.declared.scan.Scan.{Scan}
use Rattle.page.proofs.Places.{seen_next, seen_within}
use Rattle.layout.proofs.Scanning.{scan_nil, scan_newline, scan_missing, scan_over, scan_on}
use Rattle.layout.proofs.Stops.{unseen_past, stop_back, stop_from, stop_behind}
use Rattle.layout.proofs.Ways.{after, way}
use Rattle.layout.proofs.Ways.Way.{stops, misses, exceeds, goes_on}
use Rattle.layout.proofs.Widening.{last_after, last_more, sum_more, width_more, part_none, part_more}

-- what is left from i on begins with what stands at i
drop_head : (t cs : List ℕ) (i c : ℕ) → drop i t ≡ c ∷ cs → seen t i ≡ Some c
drop_head t cs i c e = sym (seen_next t i) ∙ ap (λ u. seen u 0) e

drop_tail : (t cs : List ℕ) (i c : ℕ) → drop i t ≡ c ∷ cs → drop (i + 1) t ≡ cs
drop_tail t cs i c e = sym (drop-drop 1 i t) ∙ ap (drop 1) e

drop_nil : (t : List ℕ) (i : ℕ) → i ≤ length t → drop i t ≡ [] → i ≡ length t
drop_nil t i h e = let l = sym (length-drop i t) ∙ ap length e in omega arith

may_alike : (P : Rules) (p : Option ℕ) (c : ℕ) → may_between P p (Some c) ≡ may_before P p c
may_alike P None c = refl
may_alike P (Some p) c = refl

module _ (m : Meaning) (P : Rules) (w : ℕ) (t : List ℕ) (s : ℕ) where
  -- b is the greatest break before i
  record Held (i : ℕ) (b : Break) : Type 0 where
    behind : s < b.place
    upto : b.place < i
    here : breakable P t b.place ≡ true
    last : (j : ℕ) → b.place < j → j < i → breakable P t j ≡ false
    wide : b.width ≡ width m P (part t s b.place)

  -- the greatest break before i, if there is one
  abbrev Known : ℕ → Option Break → Type 0
  Known i None = (j : ℕ) → s < j → j < i → breakable P t j ≡ false
  Known i (Some b) = Held i b

  -- what holds of the text while [s, k.place) is taken
  record State (k : Scan) : Type 0 where
    starts : k.start ≡ s
    from : s ≤ k.place
    within : k.place ≤ length t
    before_is : k.before ≡ last_after None (part t s k.place)
    none_before : k.place ≡ s → k.before ≡ None
    one_before : s < k.place → k.before ≡ seen t (pred k.place)
    edge_is : k.edge ≡ edge m (part t s k.place)
    width_is : k.width ≡ width m P (part t s k.place)
    clear : (j : ℕ) → s ≤ j → j < k.place → seen t j ≡ Some newline → ⊥
    fits : (j : ℕ) → s ≤ j → j < k.place → width m P (part t s (suc j)) ≤ w
    known : Known k.place k.last

  state_fresh : s ≤ length t → State (fresh s)
  unfolding last_after sum_after unhung
  state_fresh h = record {
    starts = refl;
    from = omega arith;
    within = h;
    before_is = rw (part_none t s) refl;
    none_before = λ e. refl;
    one_before = λ l. absurd (omega arith);
    edge_is = rw (part_none t s) refl;
    width_is = rw (part_none t s) refl;
    clear = λ j a b. absurd (omega arith);
    fits = λ j a b. absurd (omega arith);
    known = λ j a b. absurd (omega arith);
  }

  -- the place i is no break: what was known stays
  known_on : (i : ℕ) (l : Option Break) → (s < i → breakable P t i ≡ false) → Known i l → Known (suc i) l
  known_on i None f z = λ j a b. elim (cases_lt j i) [
    | inl h ↦ z j a h
    | inr h ↦ let e : j ≡ i = omega arith in ap (breakable P t) e ∙ f (omega arith)
  ]
  known_on i (Some b) f z = record {
    behind = z.behind;
    upto = omega arith;
    here = z.here;
    last = λ j a l. elim (cases_lt j i) [
      | inl h ↦ z.last j a h
      | inr h ↦ let e : j ≡ i = omega arith in ap (breakable P t) e ∙ f (omega (arith, z.behind))
    ];
    wide = z.wide;
  }

  module _ (k : Scan) (z : State k) (c : ℕ) (e : seen t k.place ≡ Some c) where
    more : part t s (suc k.place) ≡ part t s k.place ++ c ∷ []
    more = part_more t s k.place c z.from e

    width_after : (after m P k c).width ≡ width m P (part t s (suc k.place))
    width_after = cc (more, width_more m P (part t s k.place) c, z.edge_is, z.width_is, z.before_is)

    break_here : s < k.place → breakable P t k.place ≡ may_before P k.before c
    break_here h = cc (z.one_before h, e, may_alike P k.before c)

    known_more : Known (suc k.place) (last_break P k c)
    known_more = cond_both (may_before P k.before c) (Some (record { place = k.place; width = k.width })) k.last (λ l. Known (suc k.place) l) (λ q. yes_here q) (λ q. not_here q)
      where
        yes_here : may_before P k.before c ≡ true → Held (suc k.place) (record { place = k.place; width = k.width })
        yes_here q = elim (cases_eq k.place s) [
          | inl a ↦ let y = z.none_before a in let x : ◌≡◌ {A = ℕ} 0 1 = cc in absurd (omega arith)
          | inr a ↦
              let l : s < k.place = omega (arith, z.from) in
              record { behind = l; upto = omega arith; here = break_here l ∙ q; last = λ j x y. absurd (omega arith); wide = z.width_is }
        ]

        not_here : may_before P k.before c ≡ false → Known (suc k.place) k.last
        not_here q = known_on k.place k.last (λ l. break_here l ∙ q) z.known

    state_more : (c ≡ newline → ⊥) → (after m P k c).width ≤ w → State (after m P k c)
    state_more n h = record {
      starts = z.starts;
      from = omega (arith, z.from);
      within = omega (arith, seen_within t k.place c e);
      before_is = cc (add-one k.place, more, last_more None (part t s k.place) c);
      none_before = λ a. absurd (omega (arith, z.from));
      one_before = λ a. let p : pred (k.place + 1) ≡ k.place = omega arith in sym e ∙ ap (seen t) (sym p);
      edge_is = cc (add-one k.place, more, sum_more m None (part t s k.place) c, z.edge_is, z.before_is);
      width_is = cc (add-one k.place, width_after);
      clear = λ j a b y. elim (cases_lt j k.place) [
        | inl l ↦ z.clear j a l y
        | inr l ↦ let f : j ≡ k.place = omega arith in let g : c ≡ newline = cc in n g
      ];
      fits = λ j a b. elim (cases_lt j k.place) [
        | inl l ↦ z.fits j a l
        | inr l ↦
            let f : j ≡ k.place = omega arith in
            let g : width m P (part t s (suc j)) ≡ (after m P k c).width = cc (width_after) in omega arith
      ];
      known = rw (add-one k.place) known_more;
    }

    -- the next character does not fit
    stop_over : (c ≡ newline → ⊥) → w < (after m P k c).width → (q : ℕ) × Stop t s q × Over m P w t s q k.place
    stop_over n h =
        let p = stop_from t k.place z.within in
        let y = stop_back t s k.place p.0 z.from z.clear p.1 in (
          p.0,
          y,
          record {
            from = z.from;
            before = stop_behind t s p.0 k.place c y z.from p.1.from e n;
            over = rw width_after at h;
            first = z.fits;
          },
        )

  -- the first character alone does not fit
  alone : (q : ℕ) (r : Row) (f : Option ℕ) → seen t (suc s) ≡ f → Stop t s q → Over m P w t s q s → r ≡ row_to m P w t s (suc s) (ending_before f) (max s (suc s) + 1) → RowFrom m P w t s r
  alone q r None y z v p =
      let l = unseen_past t (suc s) y in
      let a : suc s ≡ q = omega (arith, z.within, v.before) in
      lone q z v a (cc)
  alone q r (Some c) y z v p = elim (cases_eq c newline) [
    | inl b ↦ elim (cases_lt (suc s) q) [
      | inl l ↦ absurd (z.clear (suc s) (omega arith) l (y ∙ ap Some b))
      | inr l ↦
          let a : suc s ≡ q = omega (arith, v.before) in
          lone q z v a (cc)
    ]
    | inr b ↦ single q z v (stop_behind t s q (suc s) c z (omega arith) v.before y b) (cc (ne_eqb c newline b))
  ]

  whole_fits : (k : Scan) (r : Row) (o : Option ℕ) → State k → seen t k.place ≡ o → Stop t s k.place → r ≡ whole_row k (at_stop o) → RowFrom m P w t s r
  whole_fits k r o z e y p = whole k.place y z.fits (cc (z.starts, z.width_is))

  -- the row ends at the last break, if there is one
  ends_over : (k : Scan) (r : Row) (c q : ℕ) (z : State k) (e : seen t k.place ≡ Some c) → Stop t s q → Over m P w t s q k.place
      → r ≡ over_row k (after m P k c) (seen t (k.place + 1)) → (l : Option Break) → last_break P k c ≡ l → Known (suc k.place) l → RowFrom m P w t s r
  ends_over k r c q z e y v p (Some b) a d =
      let x : max k.place b.place ≡ k.place = omega (arith, d.upto) in
      wrapped q k.place b.place y v (record { after = d.behind; upto = omega (arith, d.upto); here = d.here; last = λ j i l. d.last j i (omega arith) })
      (cc (z.starts, d.wide, x, p, a))
  ends_over k r c q z e y v p None a d = elim (cases_eq k.place s) [
    | inr i ↦
        let x : max k.place k.place ≡ k.place = omega arith in
        let u : k.place ≡ k.start → ⊥ = λ o. i (o ∙ z.starts) in
        cut q k.place y v (omega (arith, z.from)) (λ j b l. d j b (omega arith)) (cc (z.starts, z.width_is, x, p, a, ne_eqb k.place k.start u))
    | inl i ↦
        let u : k.place ≡ k.start = i ∙ sym z.starts in
        let x : max s (suc s) + 1 ≡ k.place + 2 = omega arith in
        let x' : k.place + 1 ≡ suc s = omega arith in
        alone q r (seen t (suc s)) refl y (rw i at v) (cc (z.starts, width_after k z c e, x, x', p, a, i, eq-eqb k.place k.start u))
  ]

  over_fits : (k : Scan) (r : Row) (c : ℕ) → State k → seen t k.place ≡ Some c → (c ≡ newline → ⊥) → w < (after m P k c).width
      → r ≡ over_row k (after m P k c) (seen t (k.place + 1)) → RowFrom m P w t s r
  over_fits k r c z e n h p =
      let o = stop_over k z c e n h in
      ends_over k r c o.0 z e o.1 o.2 p (last_break P k c) refl (known_more k z c e)

  fits_from : (cs : List ℕ) (k : Scan) (r : Row) → drop k.place t ≡ cs → State k → scan m P w k cs ≡ Ok r → RowFrom m P w t s r
  fits_from [] k r d z e =
      let l = drop_nil t k.place z.within d in
      let u : seen t k.place ≡ None = sym (seen_next t k.place) ∙ ap (λ x. seen x 0) d in
      whole_fits k r None z u (record { from = z.from; within = z.within; clear = z.clear; there = inl l }) (cc (scan_nil m P w k))
  fits_from (c ∷ cs) k r d z e =
      let a = drop_head t cs k.place c d in
      let b = drop_tail t cs k.place c d in
      elim (way m P w k c) [
        | stops q ↦ whole_fits k r (Some c) z a (record { from = z.from; within = z.within; clear = z.clear; there = inr (a ∙ ap Some q) }) (cc (scan_newline m P w k c cs q))
        | misses n u ↦ let x : ◌≡◌ {A = ℕ} 0 1 = cc (scan_missing m P w k c cs n u) in absurd (omega arith)
        | exceeds n u h ↦ over_fits k r c z a n h (cc (scan_over m P w k c cs n u h, seen_next t (k.place + 1)))
        | goes_on n u h ↦ fits_from cs (after m P k c) r b (state_more k z c a n h) (sym (scan_on m P w k c cs n u h) ∙ e)
      ]

  pub is_first_fit : (r : Row) → s ≤ length t → row_from m P w t s ≡ Ok r → RowFrom m P w t s r
  is_first_fit r h e = fits_from (drop s t) (fresh s) r refl (state_fresh h) e

-- Whether a new row meets the old ones, by where the old ones start.
use Rattle.std.proofs.Common.{◌≡◌, ℕ, zero, suc, ◌+◌, ◌-◌, ◌<◌, ◌≤◌, Bool, true, false, eqb, leb, List, [], ◌∷◌, length, get_or, drop, refl, ap, ◌∙◌, inl, inr, arith}
use Rattle.std.proofs.lemmas.Bool.{cases_Bool, cases_lt, cases_order, eq-eqb, ne_eqb, le-leb, lt-leb, and_from, and_left, and_right, or_from, or_left, or_right}
use Rattle.std.specs.List.{prefix_len}
use Rattle.page.specs.declared.ending.Ending.TheVariants.{Wrapped}
use Rattle.page.specs.declared.row.Row.{Row}
use Rattle.reflow.specs.declared.edit.Edit.{Edit}
use Rattle.reflow.specs.Relaying.{Ascending, Before, Met, Unmet}
use Rattle.reflow.specs.Repaints.{starts_at, meets}
use Rattle.reflow.proofs.RowLists.{leading_yes, leading_no}

-- some row, to be read past the end of a list, so nowhere
abbrev pub zero_row : Row
zero_row = record { start = 0; end = 0; ending = Wrapped; width = 0; reach = 0 }

starts_none : (rs : List Row) (s : ℕ) → ((i : ℕ) (d : Row) → i < length rs → (get_or rs i d).start ≡ s → ⊥) → starts_at rs s ≡ false
starts_none [] s h = refl
starts_none (r ∷ rs) s h = or_from (eqb r.start s) (starts_at rs s) (ne_eqb r.start s (λ e. h zero r (omega arith) e)) (starts_none rs s (λ i d l e. h (suc i) d (omega arith) e))

starts_some : (rs : List Row) (s j : ℕ) (d : Row) → j < length rs → (get_or rs j d).start ≡ s → starts_at rs s ≡ true
starts_some [] s j d h e = absurd (omega arith)
starts_some (r ∷ rs) s zero d h e = or_left (eqb r.start s) (starts_at rs s) (eq-eqb r.start s e)
starts_some (r ∷ rs) s (suc j) d h e = or_right (eqb r.start s) (starts_at rs s) (starts_some rs s j d (omega arith) e)

pub meets_some : (e : Edit) (old : List Row) (s j : ℕ) → Met e old s j → (r : Row) → r.start ≡ s → meets e old r ≡ true
meets_some e old s j h r q =
    let there : (get_or old j r).start ≡ r.start - e.ins + e.del = omega (arith, h.there r) in
    and_from (leb (e.at + e.ins) r.start) (starts_at old (r.start - e.ins + e.del)) (le-leb (e.at + e.ins) r.start (omega (arith, h.behind)))
    (starts_some old (r.start - e.ins + e.del) j r h.among there)

-- a row that starts before the insertion's end meets none
pub unmet_before : (e : Edit) (old : List Row) (s from : ℕ) → s < e.at + e.ins → Before old from (s - e.ins + e.del) → Unmet e old s from
unmet_before e old s from h b = record {
  meets_none = λ r q. and_left (leb (e.at + e.ins) r.start) (starts_at old (r.start - e.ins + e.del)) (lt-leb (e.at + e.ins) r.start (omega arith));
  passed = b;
}

-- where a search from row `from` on stopped: the rows that it passed start before s
abbrev Sought : List Row → ℕ → ℕ → ℕ → Type 0
Sought old from j s = (i : ℕ) (d : Row) → from ≤ i → i < j → i < length old → (get_or old i d).start < s

module _ (old : List Row) (from j s : ℕ) (a : Ascending old) (b : Before old from s) (c : Sought old from j s) where
  sought_before : Before old j s
  sought_before i d h l = elim (cases_lt i from) [ inl p ↦ b i d p l | inr p ↦ c i d p h l ]

  none_there : ((d : Row) → j < length old → s < (get_or old j d).start) → (i : ℕ) (d : Row) → i < length old → (get_or old i d).start ≡ s → ⊥
  none_there past i d l e = elim (cases_order i j) [
    | inl p ↦ let q : j < length old = omega arith in let f : (get_or old i d).start ≡ (get_or old j d).start = ap (λ (k : ℕ). (get_or old k d).start) p in omega (arith, past d q)
    | inr (inl p) ↦ omega (arith, sought_before i d p l)
    | inr (inr p) ↦ let q : j < length old = omega arith in omega (arith, past d q, a j i d p l)
  ]

pub unmet_between : (e : Edit) (old : List Row) (s from j : ℕ) → Ascending old → Before old from (s - e.ins + e.del) → Sought old from j (s - e.ins + e.del)
    → ((d : Row) → j < length old → s - e.ins + e.del < (get_or old j d).start) → Unmet e old s j
unmet_between e old s from j a b c past = record {
  meets_none = λ r q.
      let f : r.start - e.ins + e.del ≡ s - e.ins + e.del = omega arith in
      and_right (leb (e.at + e.ins) r.start) (starts_at old (r.start - e.ins + e.del))
      (ap (starts_at old) f ∙ starts_none old (s - e.ins + e.del) (none_there old from j (s - e.ins + e.del) a b c past));
  passed = sought_before old from j (s - e.ins + e.del) a b c;
}

-- a later place has as many old rows before it
pub before_later : (old : List Row) (j s s' : ℕ) → s ≤ s' → Before old j s → Before old j s'
before_later old j s s' h b i d l k = omega (arith, b i d l k)

-- a test that passes on the first k elements goes on behind them
pub leading_past : (p : Row → Bool) (xs : List Row) (k : ℕ) → k ≤ prefix_len p xs → prefix_len p xs ≡ k + prefix_len p (drop k xs)
leading_past p xs zero h = omega arith
leading_past p [] (suc k) h = absurd (omega arith)
leading_past p (x ∷ xs) (suc k) h = elim (cases_Bool (p x)) [
  | inl b ↦ let e = leading_yes p x xs b in let l : k ≤ prefix_len p xs = omega arith in omega (arith, leading_past p xs k l)
  | inr b ↦ let e = leading_no p x xs b in absurd (omega arith)
]

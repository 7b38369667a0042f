-- Each way out is a way of the clean sheet's remeasure.
use Rattle.std.proofs.Common.{◌≡◌, ℕ, ◌+◌, ◌%◌, ◌^◌, ◌<◌, true, length, Some, sym, refl, ap, ◌∙◌, arith}
use Rattle.buffer.specs.Held.{held}
use Rattle.layout.specs.Styles.{Style}
use Rattle.layout.specs.declared.row_list.RowList.{RowList}
use Rattle.reflow.specs.Edits.{rows_of}
use Rattle.reflow.specs.declared.repaint.Repaint.{Repaint}
use Rattle.sheet.specs.Clean.{Making}
use Rattle.sheet.specs.Histories.{History, Follows}
use Rattle.sheet.specs.States.{state}
use Rattle.sheet.proofs.Remeasuring.{laid_whole, refused_layout, remeasured_call, refused_owed, refused_many}
use Rattle.sheet.proofs.Continuing.{as_it_was, own_text}
use Rattle.sheet.proofs.Replacing.{none_owed}
use Rattle.sheet.proofs.sheet.Sheet.remeasure.Goals as goal

pub returns-then-is_some : goal.returns-then-is_some
returns-then-is_some g c = record {
  follows = λ k h f. refused_owed k h _ _ f c.args.measure (sym c.if-is_some.ensures) (as_it_was _);
  counted = λ k h f. tt;
  early = λ _. refl;
}

pub returns-then-is_err : goal.returns-then-is_err
returns-then-is_err g c =
    let none = none_owed c.args.self.now.owed (sym c.is_some.ensures ∙ c.if-is_some.false) in
    let m = g.M.Measurer.meaning c.args.self.now.setter.measurer in
    let P = g.P.Policy.rules c.args.self.now.setter.policy in
    let w = c.args.measure in
    let t = held c.args.self.now.text in
    record {
      follows = λ k h f.
          refused_many k h _ _ f w none
          (refused_layout m P w t (own_text k h _ f) c.lay-laid.result (sym (c.lay-laid.ensures.value f.sound)) (sym c.if-is_err.ensures.value))
          (record { meaning = ap (λ (x : Style). x.meaning) c.lay-laid.ensures.kept; rules = ap (λ (x : Style). x.rules) c.lay-laid.ensures.kept; sound = c.lay-laid.ensures.stays; measure = refl; text = refl; rows = refl; owed = refl });
      counted = λ k h f. tt;
      early = λ x. absurd x;
    }

pub returns : goal.returns
returns g c =
    let none = none_owed c.args.self.now.owed (sym c.is_some.ensures ∙ c.if-is_some.false) in
    let m = g.M.Measurer.meaning c.args.self.now.setter.measurer in
    let P = g.P.Policy.rules c.args.self.now.setter.policy in
    let w = c.args.measure in
    let t = held c.args.self.now.text in
    let told = c.lay-laid.ensures in
    let fits : c.args.self.now.setter.tally < 2 ^ 64 = omega arith in
    let swapped = ap (λ (l : RowList). l.rows.items) c.swap.ensures.x_after in
    let all = λ (k : Making) (h : History) (f : Follows k h (state g.M.Measurer.meaning g.M.Measurer.sound g.P.Policy.rules c.args.self.now)).
    laid_whole m P w t (own_text k h _ f) _ _ c.args.self.now.setter.tally c.lay-laid.new.self.tally fits (sym c.is_err.ensures.value ∙ c.if-is_err.false) (told.value f.sound) (told.items f.sound) (told.counted f.sound) in
    record {
      follows = λ k h f.
          let x = all k h f in
          let put : c.len-2.result ≡ length (rows_of m P w t) = c.len-2.ensures.value ∙ ap length (swapped ∙ x.items) in
          let removed : c.len.result ≡ length c.args.self.now.rows.rows.items = c.len.ensures.value ∙ ap (λ (l : RowList). length l.rows.items) c.swap.ensures.y_after in
          remeasured_call k h _ _ f w _ none (record {
            meaning = ap (λ (x : Style). x.meaning) told.kept;
            rules = ap (λ (x : Style). x.rules) told.kept;
            sound = told.stays;
            measure = ap (λ (x : Style). x.measure) told.kept;
            text = refl;
            rows = swapped ∙ x.items;
            few_rows = x.few;
            owed = refl;
            painted = λ i. record { whole = true; from = 0; removed = removed i; put = put i; broken = x.broken i };
          });
      counted = λ k h f p is.
          let x = all k h f in
          x.counted ∙ ap (λ (n : ℕ). (c.args.self.now.setter.tally + n) % 2 ^ 64) (sym x.broken ∙ broken_of p is);
      early = tt;
    }
  where
    broken_of : {x : Repaint} (p : Repaint) → Some x ≡ Some p → x.broken ≡ p.broken
    broken_of {x} p e = let q : x ≡ p = cc in ap (λ (y : Repaint). y.broken) q

use Rattle.std.proofs.Common.{◌≡◌, ℕ, min, take, Some, vec_items, ap, ◌∙◌, arith}
use native.Mathlib.Nat.{sub-zero}
use Rattle.sheet.proofs.Unchanging.{unchanged}
use Rattle.screen.proofs.Painted.{none_there, none_measured, painted_row}
use Rattle.screen.proofs.painting.paint_row.Goals as goal

pub returns-in_default : goal.returns-in_default
returns-in_default g c = record {
  same = unchanged _;
  value = λ k h f. none_there k h _ f c.args.number _ _ (omega arith) (c.in_default.ensures.follows k h f).agrees.0.answer;
}

pub returns-in_default-edges : goal.returns-in_default-edges
returns-in_default-edges g c = record {
  same = c.edges.ensures.same;
  value = λ k h f. none_measured k h _ f c.args.number _ _ (omega arith) (c.in_default-edges.ensures.value k h f);
}

pub returns : goal.returns
returns g c = record {
  same = c.edges.ensures.same;
  value = λ k h f.
      let n = c.min-len.result in
      let told = (c.in-Ok.ensures.follows k h f).agrees.0.answer in
      let behind = c.in-Ok-edges.ensures.value k h f in
      let chars : vec_items c.in_ok-from_slice.field-0 ≡ take n c.row.new.buffer = c.in_ok-from_slice.ensures.items ∙ ap (λ (i : ℕ). take i c.row.new.buffer) (sub-zero n) in
      let edges : vec_items c.in_ok-from_slice-2.field-0 ≡ take n c.edges.new.edges = c.in_ok-from_slice-2.ensures.items ∙ ap (λ (i : ℕ). take i c.edges.new.edges) (sub-zero n) in
      (λ j. Some (record { chars = chars j; edges = edges j; ending = c.in-Ok.row.ending }))
      ∙ painted_row k h _ f c.args.number _ c.row.new.buffer _ c.edges.new.edges c.in-Ok.row c.in-Ok-edges.field-0 n told behind (c.min-len.ensures ∙ ap (λ (i : ℕ). min i 4096) c.saturating_sub.ensures);
}

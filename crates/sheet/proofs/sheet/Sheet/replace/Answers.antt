-- Each way out is a way of the clean sheet's replace.
use Rattle.std.proofs.Common.{◌≡◌, ◌+◌, ◌-◌, ◌%◌, ◌^◌, ◌<◌, ◌≤◌, length, Ok, Err, Result, MatchResult, sym, refl, ap, ◌∙◌, arith}
use Rattle.std.proofs.lemmas.Result.{err_from_is_err_and}
use Rattle.page.specs.Texts.{edited}
use Rattle.buffer.specs.Held.{held}
use Rattle.layout.proofs.Settling.{told_some, told_none}
use Rattle.layout.specs.Styles.{Style}
use Rattle.layout.specs.Covers.{first_uncovered}
use Rattle.layout.specs.Layouts.{most_rows}
use Rattle.layout.specs.declared.row_list.RowList.{RowList}
use Rattle.reflow.specs.Edits.{rows_of}
use Rattle.reflow.specs.Relaying.{Relaid, RelaidTo}
use Rattle.layout.specs.declared.laying.LayFault.{LayFault}
use Rattle.layout.specs.declared.laying.LayFault.TheVariants.{TooManyRows}
use Rattle.reflow.specs.declared.repaint.Repaint.{Repaint}
use Rattle.sheet.specs.Clean.{Making, edit_of}
use Rattle.sheet.specs.Histories.{History, Follows}
use Rattle.sheet.specs.States.{state}
use Rattle.sheet.proofs.Continuing.{as_it_was}
use Rattle.sheet.proofs.Replacing.{Admits, sheet_anew, none_owed, never_early, replaced_call, refused_owed, refused_out, refused_long, refused_glyph, refused_many}
use Rattle.sheet.proofs.sheet.Sheet.replace.Given.{Over}
use Rattle.sheet.proofs.sheet.Sheet.replace.Goals as goal
use Rattle.sheet.proofs.sheet.Sheet.replace.Goals.{After-relay, then-at-len-via-then-at-len, then-at-len-via-else-at-len+then-del-len}

pub returns-then-is_some : goal.returns-then-is_some
returns-then-is_some g c = record {
  follows = λ k h f. refused_owed k h _ _ f c.args.at c.args.del c.args.ins.now (as_it_was _) (sym c.if-is_some.ensures);
  counted = λ k h f. tt;
  early = λ _. refl;
}

pub returns-then-at-len : goal.returns-then-at-len
returns-then-at-len g c =
    let none = none_owed c.args.self.now.owed (sym c.is_some.ensures ∙ c.if-is_some.false) in
    let n = c.len-len.ensures.value in
    let out : c.args.at ≤ length (held c.args.self.now.text) → c.args.del ≤ length (held c.args.self.now.text) - c.args.at → ⊥ = elim c.then-at-len.branch [
      | then-at-len-via-then-at-len w ↦ λ a b. omega (arith, w.if-at-len.true)
      | then-at-len-via-else-at-len+then-del-len w ↦ λ a b. omega (arith, w.if-del-len.true)
    ] in
    record {
      follows = λ k h f. refused_out k h _ _ f c.args.at c.args.del c.args.ins.now (as_it_was _) none out;
      counted = λ k h f. tt;
      early = λ _. refl;
    }

pub returns-then-ins-len-clause-early : goal.returns-then-ins-len-clause-early
returns-then-ins-len-clause-early g c = λ _. refl

pub returns-then-ins-len-clause-follows : goal.returns-then-ins-len-clause-follows
returns-then-ins-len-clause-follows g c =
    let none = none_owed c.args.self.now.owed (sym c.is_some.ensures ∙ c.if-is_some.false) in
    let n = c.len-len.ensures.value in
    let few = c.len-len.ensures.few in
    λ k h f. refused_long k h _ _ f c.args.at c.args.del c.args.ins.now (as_it_was _) none (omega arith) (omega arith) (omega arith)

pub returns-in_err-check_cover : goal.returns-in_err-check_cover
returns-in_err-check_cover g c =
    let none = none_owed c.args.self.now.owed (sym c.is_some.ensures ∙ c.if-is_some.false) in
    let n = c.len-len.ensures.value in
    let few = c.len-len.ensures.few in
    let told = c.in_err-check_cover.ensures in
    let u = c.in_err-check_cover.field-0.0 in
    let m = g.M.Measurer.meaning c.args.self.now.setter.measurer in
    let p = err_from_is_err_and c.from_residual.result c.from_residual.ensures.1 in
    record {
      follows = λ k h f. rw (p.1, p.2) (refused_glyph k h _ _ f c.args.at c.args.del c.args.ins.now
          (record { meaning = told.same; rules = refl; sound = told.stays; measure = refl; text = refl; rows = refl; owed = refl })
          none (omega arith) (omega arith) (omega arith) u (told_some (first_uncovered m 0 c.args.ins.now) u (told.value f.sound)));
      counted = λ k h f. rw p.1 tt;
      early = rw (p.1, p.2) (λ x. absurd x);
    }

-- what relaying came to, and that the edit was admitted before
relayed : (g : Over) (c : After-relay g) (k : Making) (h : History) → Follows k h (state g.M.Measurer.meaning g.M.Measurer.sound g.P.Policy.rules c.args.self.now) → (r : Result Repaint LayFault)
    → let s = c.args.self.now in let m = g.M.Measurer.meaning s.setter.measurer in let P = g.P.Policy.rules s.setter.policy in let w = s.setter.measure in
    (g.M.Measurer.sound c.check_cover.new.measurer → Relaid (g.M.Measurer.meaning c.check_cover.new.measurer) P w (edited (held c.new-view.result.text.now) c.new-view.result.at c.new-view.result.del c.new-view.result.ins.now) (edit_of c.args.at c.args.del c.args.ins.now) c.as_slice.result.now r c.relay.new.rows.rows.items s.setter.tally c.relay.new.setter.tally)
    → Admits m (held s.text) c.args.at c.args.del c.args.ins.now
    × MatchResult r (λ p. RelaidTo (edit_of c.args.at c.args.del c.args.ins.now) s.rows.rows.items (rows_of m P w (edited (held s.text) c.args.at c.args.del c.args.ins.now)) p c.relay.new.rows.rows.items s.setter.tally c.relay.new.setter.tally) (λ e. (e ≡ TooManyRows) × (most_rows < length (rows_of m P w (edited (held s.text) c.args.at c.args.del c.args.ins.now))))
relayed g c k h f r relaid =
    let n = c.len-len.ensures.value in
    let few = c.len-len.ensures.few in
    let checked = c.in_ok-check_cover.ensures in
    let a : Admits (g.M.Measurer.meaning c.args.self.now.setter.measurer) (held c.args.self.now.text) c.args.at c.args.del c.args.ins.now =
    record { in_text = omega arith; in_rest = omega arith; fits = omega arith; glyphs = told_none (first_uncovered (g.M.Measurer.meaning c.args.self.now.setter.measurer) 0 c.args.ins.now) tt (checked.value f.sound) } in
    (a, sheet_anew k h _ f c.args.at c.args.del c.args.ins.now a r _ _ _ checked.same c.new-view.ensures c.as_slice.ensures.value (relaid (checked.stays f.sound)))

pub returns-in_err-record : goal.returns-in_err-record
returns-in_err-record g c =
    let none = none_owed c.args.self.now.owed (sym c.is_some.ensures ∙ c.if-is_some.false) in
    let checked = c.in_ok-check_cover.ensures in
    let told = c.in_err-record.ensures in
    let p = err_from_is_err_and c.from_residual-in_err-record.result c.from_residual-in_err-record.ensures.1 in
    record {
      follows = λ k h f.
          let x = relayed g (goal.at.returns-in_err-record g c).After-relay k h f (Err c.in_err-record.field-0.0) told.relaid in
          rw (p.1, p.2, x.1.0) (refused_many k h _ _ f c.args.at c.args.del c.args.ins.now none x.0 x.1.1
          (record { meaning = ap (λ (x : Style). x.meaning) told.kept ∙ checked.same; rules = ap (λ (x : Style). x.rules) told.kept; sound = λ s. told.stays (checked.stays s); measure = ap (λ (x : Style). x.measure) told.kept; text = refl; rows = refl; owed = refl }));
      counted = λ k h f. rw p.1 tt;
      early = rw (p.1, p.2) (λ x. absurd (never_early c.in_err-record.field-0.0 x));
    }

pub returns : goal.returns
returns g c =
    let none = none_owed c.args.self.now.owed (sym c.is_some.ensures ∙ c.if-is_some.false) in
    let checked = c.in_ok-check_cover.ensures in
    let told = c.in_ok-record.ensures in
    record {
      follows = λ k h f.
          let x = relayed g (goal.at.returns g c).After-relay k h f (Ok c.in_ok-record.record) told.relaid in
          replaced_call k h _ _ f c.args.at c.args.del c.args.ins.now none x.0 c.in_ok-record.record (record {
            meaning = ap (λ (x : Style). x.meaning) told.kept ∙ checked.same;
            rules = ap (λ (x : Style). x.rules) told.kept;
            sound = λ s. told.stays (checked.stays s);
            measure = ap (λ (x : Style). x.measure) told.kept;
            text = c.replace.ensures;
            rows = ap (λ (l : RowList). l.rows.items) c.swap.ensures.x_after ∙ x.1.items;
            few_rows = x.1.few;
            owed = refl;
            painted = x.1.painted;
          });
      counted = λ k h f q is.
          let x = relayed g (goal.at.returns g c).After-relay k h f (Ok c.in_ok-record.record) told.relaid in
          let same : c.in_ok-record.record ≡ q = cc in
          x.1.counted ∙ ap (λ (y : Repaint). (c.args.self.now.setter.tally + y.broken) % 2 ^ 64) same;
      early = tt;
    }

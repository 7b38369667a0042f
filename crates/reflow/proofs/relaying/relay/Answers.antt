-- Each way out is known from what the parts ensure.
use Rattle.std.proofs.Common.{◌≡◌, ◌+◌, ◌-◌, ◌%◌, ◌^◌, ◌<◌, ◌≤◌, List, ◌++◌, map, length, take, drop, sym, refl, ap, ◌∙◌, subst, arith}
use Rattle.std.proofs.lemmas.List.{length-append, length-map, length-take, length-take-le, take_rest}
use Rattle.std.proofs.lemmas.Result.{err_from_is_err_and}
use Rattle.std.proofs.lemmas.List.Sums.{prefix_len-le-length}
use Rattle.std.specs.List.{AllByRecursion}
use Rattle.page.specs.declared.row.Row.{Row}
use Rattle.layout.specs.Layouts.{most_rows}
use Rattle.layout.specs.Styles.{style}
use Rattle.reflow.specs.declared.repaint.Repaint.{Repaint}
use Rattle.reflow.specs.Edits.{rows_of, resumed, Small}
use Rattle.reflow.specs.Repaints.{first_reaching, meeting, repaint_of}
use Rattle.reflow.proofs.RelaySteps.{begun, under_way, resumed_small, painted_anew}
use Rattle.reflow.proofs.ReflowTheorems.{reflow_laws}
use Rattle.reflow.proofs.RowLists.{short}
use Rattle.reflow.proofs.relaying.relay.Goals as goal

pub slice_bounds-carry-end : goal.slice_bounds-carry-end
slice_bounds-carry-end g c =
    let old = c.args.old.now in
    let n = c.first_reaching-first.result in
    sym (length-take-le n old (omega (arith, c.first_reaching-first.ensures, prefix_len-le-length (short c.args.edit.at) old)))

pub returns-in_err-carry : goal.returns-in_err-carry
returns-in_err-carry g c =
    let k = style g.M.Measurer.meaning g.P.Policy.rules c.args.setter.now in
    let t = g.T.Characters.chars c.args.text.now in
    let old = c.args.old.now in
    let n = c.first_reaching-first.result in
    let told : most_rows < length c.clear.new.self.rows.items + length (take n old) = c.in_err-carry.ensures in
    let none : length c.clear.new.self.rows.items ≡ 0 = ap length c.clear.ensures in
    let p = err_from_is_err_and c.from_residual.result c.from_residual.ensures.1 in
    record {
      kept = refl;
      lenders = refl;
      stays = λ sound. sound;
      policy = refl;
      laws = reflow_laws k.meaning k.rules k.measure;
      relaid = λ sound before ins q ed o.
          let b = begun k.meaning k.rules k.measure before ins c.args.edit ed t old q o in
          rw p.1 (p.2, omega (arith, b.long, c.first_reaching-first.ensures, length-take n old));
    }

pub returns-in_err-resumed : goal.returns-in_err-resumed
returns-in_err-resumed g c =
    let k = style g.M.Measurer.meaning g.P.Policy.rules c.args.setter.now in
    let t = g.T.Characters.chars c.args.text.now in
    let e = c.args.edit in
    let old = c.args.old.now in
    let n = c.first_reaching-first.result in
    let told = c.in_err-resumed.ensures in
    let carried : c.carry.new.rows.rows.items ≡ take n old = c.in_ok-carry.ensures ∙ ap (λ (x : List Row). x ++ take n old) c.clear.ensures in
    let p = err_from_is_err_and c.from_residual-in_err-resumed.result c.from_residual-in_err-resumed.ensures.1 in
    record {
      kept = told.kept;
      lenders = told.lenders;
      stays = told.stays;
      policy = told.policy;
      laws = reflow_laws k.meaning k.rules k.measure;
      relaid = λ sound before ins q ed o.
          let b = begun k.meaning k.rules k.measure before ins e ed t old q o in
          let u = under_way k.meaning k.rules k.measure t e old b n c.restart-start.result c.carry.new.rows.rows.items c.first_reaching-first.ensures carried c.restart-start.ensures.value in
          let x = told.met sound (rows_of k.meaning k.rules k.measure t) b.changed u in
          rw p.1 (p.2 ∙ x.0, x.1);
    }

pub returns-in_err-resume : goal.returns-in_err-resume
returns-in_err-resume g c =
    let k = style g.M.Measurer.meaning g.P.Policy.rules c.args.setter.now in
    let t = g.T.Characters.chars c.args.text.now in
    let e = c.args.edit in
    let old = c.args.old.now in
    let n = c.first_reaching-first.result in
    let j = c.in_ok-resumed.resumed in
    let f = resumed e.del e.ins in
    let done = c.break_until_met.new.rows.rows.items in
    let laid = c.in_ok-resumed.ensures in
    let told : most_rows < length c.break_until_met.new.rows.rows.items + length (take (length old - j) (drop j old)) = c.in_err-resume.ensures in
    let carried : c.carry.new.rows.rows.items ≡ take n old = c.in_ok-carry.ensures ∙ ap (λ (x : List Row). x ++ take n old) c.clear.ensures in
    let p = err_from_is_err_and c.from_residual-in_err-resume.result c.from_residual-in_err-resume.ensures.1 in
    record {
      kept = laid.kept;
      lenders = laid.lenders;
      stays = laid.stays;
      policy = laid.policy;
      laws = reflow_laws k.meaning k.rules k.measure;
      relaid = λ sound before ins q ed o.
          let b = begun k.meaning k.rules k.measure before ins e ed t old q o in
          let u = under_way k.meaning k.rules k.measure t e old b n c.restart-start.result c.carry.new.rows.rows.items c.first_reaching-first.ensures carried c.restart-start.ensures.value in
          let x = laid.met sound (rows_of k.meaning k.rules k.measure t) b.changed u in
          rw p.1 (p.2, omega (arith, ap length x.joins, length-append done (map f (drop j old)), length-map (drop j old) f, ap length (take_rest old j)));
    }

pub returns : goal.returns
returns g c =
    let k = style g.M.Measurer.meaning g.P.Policy.rules c.args.setter.now in
    let t = g.T.Characters.chars c.args.text.now in
    let e = c.args.edit in
    let old = c.args.old.now in
    let n = c.first_reaching-first.result in
    let j = c.in_ok-resumed.resumed in
    let f = resumed e.del e.ins in
    let done = c.break_until_met.new.rows.rows.items in
    let rows = c.resume.new.rows.rows.items in
    let tail = take (length old - j) (drop j old) in
    let laid = c.in_ok-resumed.ensures in
    let told : AllByRecursion (λ (r : Row). Small (f r)) tail → rows ≡ done ++ map f tail = c.in_ok-resume.ensures in
    let carried : c.carry.new.rows.rows.items ≡ take n old = c.in_ok-carry.ensures ∙ ap (λ (x : List Row). x ++ take n old) c.clear.ensures in
    let fits : c.args.setter.now.tally < 2 ^ 64 = omega arith in
    record {
      kept = laid.kept;
      lenders = laid.lenders;
      stays = laid.stays;
      policy = laid.policy;
      laws = reflow_laws k.meaning k.rules k.measure;
      relaid = λ sound before ins q ed o.
          let new = rows_of k.meaning k.rules k.measure t in
          let b = begun k.meaning k.rules k.measure before ins e ed t old q o in
          let u = under_way k.meaning k.rules k.measure t e old b n c.restart-start.result c.carry.new.rows.rows.items c.first_reaching-first.ensures carried c.restart-start.ensures.value in
          let x = laid.met sound new b.changed u in
          let small = resumed_small k.meaning k.rules k.measure t e old new done j 0 c.restart-start.ensures.few b.anew x in
          let is : rows ≡ new = told (subst (AllByRecursion (λ (r : Row). Small (f r))) (sym (take_rest old j)) small) ∙ ap (λ (y : List Row). done ++ map f y) (take_rest old j) ∙ x.joins in
          let met : c.len-met.result ≡ meeting e old new = omega (arith, c.len-met.ensures.value, x.met) in
          let first : length c.carry.new.rows.rows.items ≡ first_reaching e old = omega (arith, ap length carried, length-take-le n old (omega (arith, b.changed.laws.reaches, c.first_reaching-first.ensures)), c.first_reaching-first.ensures) in
          let counted : c.break_until_met.new.setter.tally ≡ (c.args.setter.now.tally + (meeting e old new - first_reaching e old)) % 2 ^ 64 = omega (arith, laid.counted.1 fits, x.met) in
          let few : length done ≤ 1024 = omega (arith, c.len-met.ensures.few) in
          let painted : c.repainted.result ≡ repaint_of e old new = painted_anew e old c.as_slice.result.now new c.repainted.result c.len-met.result _ c.repainted.ensures (c.as_slice.ensures.value ∙ is) met (omega (arith, x.met)) in
          record {
            items = is;
            painted = painted;
            counted = counted ∙ ap (λ (y : Repaint). (c.args.setter.now.tally + y.broken) % 2 ^ 64) (sym painted);
            few = omega (arith, ap length is, c.as_slice.ensures.few);
          };
    }

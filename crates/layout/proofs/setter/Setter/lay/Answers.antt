-- Each way out of the loop is one way that a layout goes on.
use Rattle.std.proofs.Common.{◌≡◌, ℕ, ◌+◌, ◌-◌, ◌%◌, ◌^◌, ◌<◌, ◌≤◌, min, List, [], ◌∷◌, ◌++◌, length, Some, Ok, Err, sym, ap, ◌∙◌, arith}
use Rattle.std.proofs.lemmas.List.{length_push}
use Rattle.std.proofs.lemmas.Result.{err_from_is_err_and}
use Rattle.layout.specs.Layouts.{laid, laid_from, most_rows}
use Rattle.page.specs.Rows.{following}
use Rattle.layout.specs.Scans.{row_from}
use Rattle.layout.specs.Styles.{Style, style}
use Rattle.layout.specs.declared.laying.LayFault.TheVariants.{NoGlyph, TooManyRows}
use Rattle.page.specs.declared.row.Row.{Row}
use Rattle.layout.proofs.Following.{placed}
use Rattle.layout.proofs.RowTheorems.{row_laws}
use Rattle.layout.proofs.LayoutTheorems.{layout_laws}
use Rattle.layout.proofs.LayoutSteps.{Ended, behind, broke_at, stopped_at_missing, stopped_at_end, goes_on, stopped_full, counted_more}
use Rattle.layout.proofs.setter.Setter.lay.Goals as goal

pub returns-in_err-row : goal.returns-in_err-row
returns-in_err-row g c =
    let inv = c.rows.invariant in
    let told = c.in_err-row.ensures in
    let k = style g.M.Measurer.meaning g.P.Policy.rules c.args.self.now in
    let t = g.T.Characters.chars c.args.text.now in
    let done = c.rows.rows.rows.items in
    let u = c.in_err-row.field-0.0 in
    let short : length done < most_rows = omega (arith, c.rows-test.true, c.len.ensures.value) in
    let p = err_from_is_err_and c.from_residual.result c.from_residual.ensures.1 in
    let ended : (s : g.M.Measurer.sound c.args.self.now.measurer) → Ended (laid k.meaning k.rules k.measure t) (Err (NoGlyph u)) done (length done + 1) = λ s.
    stopped_at_missing k.meaning k.rules k.measure t most_rows done c.rows.start (laid k.meaning k.rules k.measure t) (inv.3 s) u short
    (broke_at c.rows.start (length t) (inv.2 s) (row_from k.meaning k.rules k.measure t) ∙ ap (λ (x : Style). row_from x.meaning x.rules x.measure t (min c.rows.start (length t))) (sym inv.0) ∙ sym (told.value (inv.1 s))) in
    record {
      kept = told.kept ∙ inv.0;
      lenders = told.lenders ∙ inv.7;
      policy = told.policy ∙ inv.6;
      stays = λ s. told.stays (inv.1 s);
      value = λ s. p.1 ∙ ap Err p.2 ∙ sym (ended s).answer;
      items = λ s. sym (ended s).rows;
      laws = layout_laws k.meaning k.rules k.measure;
      counted = λ s. counted_more c.args.self.now.tally c.rows.self.tally _ (length done) inv.4 inv.5 told.counted ∙ ap (λ (n : ℕ). (c.args.self.now.tally + n) % 2 ^ 64) (sym (ended s).broken);
    }

pub returns-in_default : goal.returns-in_default
returns-in_default g c =
    let inv = c.rows.invariant in
    let told = c.in_ok-row.ensures in
    let k = style g.M.Measurer.meaning g.P.Policy.rules c.args.self.now in
    let t = g.T.Characters.chars c.args.text.now in
    let done = c.rows.rows.rows.items in
    let r = c.in_ok-row.row in
    let short : length done < most_rows = omega (arith, c.rows-test.true, c.len.ensures.value) in
    let found : (s : g.M.Measurer.sound c.args.self.now.measurer) → row_from k.meaning k.rules k.measure t c.rows.start ≡ Ok r = λ s.
    broke_at c.rows.start (length t) (inv.2 s) (row_from k.meaning k.rules k.measure t) ∙ ap (λ (x : Style). row_from x.meaning x.rules x.measure t (min c.rows.start (length t))) (sym inv.0) ∙ sym (told.value (inv.1 s)) in
    let within : (s : g.M.Measurer.sound c.args.self.now.measurer) → r.end ≤ 4096 = λ s.
    let e = (placed k.meaning k.rules k.measure t c.rows.start r ((row_laws k.meaning k.rules k.measure).is_first_fit t c.rows.start r (inv.2 s) (found s))).ends in let few = told.few in omega arith in
    let ended : (s : g.M.Measurer.sound c.args.self.now.measurer) → Ended (laid k.meaning k.rules k.measure t) (Ok tt) (done ++ r ∷ []) (length done + 1) = λ s.
    stopped_at_end k.meaning k.rules k.measure t most_rows done c.rows.start (laid k.meaning k.rules k.measure t) (inv.3 s) r short (found s) (sym (c.in_default.ensures (within s))) in
    record {
      kept = told.kept ∙ inv.0;
      lenders = told.lenders ∙ inv.7;
      policy = told.policy ∙ inv.6;
      stays = λ s. told.stays (inv.1 s);
      value = λ s. sym (ended s).answer;
      items = λ s. c.in_ok-push.ensures.value ∙ sym (ended s).rows;
      laws = layout_laws k.meaning k.rules k.measure;
      counted = λ s. counted_more c.args.self.now.tally c.rows.self.tally _ (length done) inv.4 inv.5 told.counted ∙ ap (λ (n : ℕ). (c.args.self.now.tally + n) % 2 ^ 64) (sym (ended s).broken);
    }

pub rows-smaller : goal.rows-smaller
rows-smaller g c =
    let long = ap length c.in_ok-push.ensures.value ∙ length_push c.rows.rows.rows.items c.in_ok-row.row in
    omega (arith, long, c.rows-test.true, c.len.ensures.value)

pub rows-preserved : goal.rows-preserved
rows-preserved g c =
    let inv = c.rows.invariant in
    let told = c.in_ok-row.ensures in
    let k = style g.M.Measurer.meaning g.P.Policy.rules c.args.self.now in
    let t = g.T.Characters.chars c.args.text.now in
    let done = c.rows.rows.rows.items in
    let more = c.push.new.self.rows.items in
    let r = c.in_ok-row.row in
    let s' = c.in-Some.next in
    let pushed : more ≡ done ++ r ∷ [] = c.in_ok-push.ensures.value in
    let long : length more ≡ length done + 1 = ap length pushed ∙ length_push done r in
    let short : length done < most_rows = omega (arith, c.rows-test.true, c.len.ensures.value) in
    let found : (s : g.M.Measurer.sound c.args.self.now.measurer) → row_from k.meaning k.rules k.measure t c.rows.start ≡ Ok r = λ s.
    broke_at c.rows.start (length t) (inv.2 s) (row_from k.meaning k.rules k.measure t) ∙ ap (λ (x : Style). row_from x.meaning x.rules x.measure t (min c.rows.start (length t))) (sym inv.0) ∙ sym (told.value (inv.1 s)) in
    let within : (s : g.M.Measurer.sound c.args.self.now.measurer) → r.end ≤ 4096 = λ s.
    let e = (placed k.meaning k.rules k.measure t c.rows.start r ((row_laws k.meaning k.rules k.measure).is_first_fit t c.rows.start r (inv.2 s) (found s))).ends in let few = told.few in omega arith in
    let next : (s : g.M.Measurer.sound c.args.self.now.measurer) → following r ≡ Some s' = λ s. sym (c.in-Some.ensures (within s)) in (
      told.kept ∙ inv.0,
      (λ s. told.stays (inv.1 s)),
      (λ s. ((placed k.meaning k.rules k.measure t c.rows.start r ((row_laws k.meaning k.rules k.measure).is_first_fit t c.rows.start r (inv.2 s) (found s))).on s' (next s)).1),
      (λ s. ap (λ (x : List Row). behind x (laid_from k.meaning k.rules k.measure t (most_rows - length x) s')) pushed ∙ goes_on k.meaning k.rules k.measure t most_rows done c.rows.start (laid k.meaning k.rules k.measure t) (inv.3 s) r s' short (found s) (next s)),
      (λ z. absurd (omega arith)),
      (λ _. counted_more c.args.self.now.tally c.rows.self.tally _ (length done) inv.4 inv.5 told.counted ∙ ap (λ (n : ℕ). (c.args.self.now.tally + n) % 2 ^ 64) (sym long)),
      told.policy ∙ inv.6,
      told.lenders ∙ inv.7,
    )

pub returns : goal.returns
returns g c =
    let inv = c.rows.invariant in
    let k = style g.M.Measurer.meaning g.P.Policy.rules c.args.self.now in
    let t = g.T.Characters.chars c.args.text.now in
    let done = c.rows.rows.rows.items in
    let full : most_rows ≤ length done = omega (arith, c.rows-test.false, c.len.ensures.value) in
    let ended : (s : g.M.Measurer.sound c.args.self.now.measurer) → Ended (laid k.meaning k.rules k.measure t) (Err TooManyRows) done (length done) = λ s.
    stopped_full k.meaning k.rules k.measure t most_rows done c.rows.start (laid k.meaning k.rules k.measure t) (inv.3 s) full in
    record {
      kept = inv.0;
      lenders = inv.7;
      policy = inv.6;
      stays = inv.1;
      value = λ s. sym (ended s).answer;
      items = λ s. sym (ended s).rows;
      laws = layout_laws k.meaning k.rules k.measure;
      counted = λ s. inv.5 (omega arith) ∙ ap (λ (n : ℕ). (c.args.self.now.tally + n) % 2 ^ 64) (sym (ended s).broken);
    }

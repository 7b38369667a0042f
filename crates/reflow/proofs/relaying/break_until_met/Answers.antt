-- Each way out of the loop is one step of laying again.
use Rattle.std.proofs.Common.{◌≡◌, ◌+◌, ◌-◌, ◌≤◌, min, [], ◌∷◌, ◌++◌, length, Some, None, sym, refl, ap, ◌∙◌, arith}
use Rattle.std.proofs.lemmas.List.{length_push}
use Rattle.std.proofs.lemmas.Result.{err_from_is_err_and}
use Rattle.page.specs.Rows.{following}
use Rattle.layout.specs.FirstFit.{RowFrom}
use Rattle.layout.specs.Layouts.{most_rows}
use Rattle.layout.specs.Styles.{style}
use Rattle.layout.proofs.Following.{placed}
use Rattle.reflow.proofs.Meetings.{before_later}
use Rattle.reflow.proofs.RelaySteps.{counted_on, broken_at, never_missing, goes_on, ends, resumes_at, longer, starts_within}
use Rattle.reflow.proofs.relaying.break_until_met.Goals as goal

pub returns-in-Ok : goal.returns-in-Ok
returns-in-Ok g c =
    let inv = c.rows.invariant in
    let k = style g.M.Measurer.meaning g.P.Policy.rules c.args.setter.now in
    let t = g.T.Characters.chars c.args.text.now in
    let met = c.in-Ok.ensures in
    record {
      kept = inv.0;
      lenders = inv.6;
      stays = inv.7;
      policy = inv.5;
      within = omega (arith, met.among);
      counted = (inv.1, inv.2);
      met = λ sound new ch u. resumes_at k.meaning k.rules k.measure t c.args.edit c.args.old.now new c.rows.rows.rows.items c.rows.start (inv.3 sound new ch u) ch c.in-Ok.met met;
    }

pub returns-in_err-row : goal.returns-in_err-row
returns-in_err-row g c =
    let inv = c.rows.invariant in
    let told = c.in_err-row.ensures in
    let k = style g.M.Measurer.meaning g.P.Policy.rules c.args.setter.now in
    let k' = style g.M.Measurer.meaning g.P.Policy.rules c.rows.setter in
    let t = g.T.Characters.chars c.args.text.now in
    let p = err_from_is_err_and c.from_residual.result c.from_residual.ensures.1 in
    record {
      kept = told.kept ∙ inv.0;
      lenders = told.lenders ∙ inv.6;
      stays = λ sound. told.stays (inv.7 sound);
      policy = told.policy ∙ inv.5;
      within = rw p.1 tt;
      counted = rw p.1 tt;
      met = λ sound new ch u. absurd (never_missing k k' t (min c.rows.start (length t)) c.in_err-row.field-0.0 inv.0 ch.covers (told.value (inv.7 sound)));
    }

pub returns-in_default : goal.returns-in_default
returns-in_default g c =
    let inv = c.rows.invariant in
    let told = c.in_ok-row.ensures in
    let k = style g.M.Measurer.meaning g.P.Policy.rules c.args.setter.now in
    let k' = style g.M.Measurer.meaning g.P.Policy.rules c.rows.setter in
    let t = g.T.Characters.chars c.args.text.now in
    let e = c.args.edit in
    let old = c.args.old.now in
    let first = c.args.rows.now.rows.items in
    let done = c.rows.rows.rows.items in
    let more = c.push.new.self.rows.items in
    let start = c.rows.start in
    let r = c.in_ok-row.row in
    let pushed : more ≡ done ++ r ∷ [] = c.in_ok-push.ensures.value in
    let long : length more ≡ length done + 1 = ap length pushed ∙ length_push done r in
    record {
      kept = told.kept ∙ inv.0;
      lenders = told.lenders ∙ inv.6;
      stays = λ sound. told.stays (inv.7 sound);
      policy = told.policy ∙ inv.5;
      within = omega arith;
      counted = (omega arith, (λ f. counted_on c.args.setter.now.tally c.rows.setter.tally _ (length done - length first) (length more - length first) (inv.2 f) told.counted (omega arith)));
      met = λ sound new ch u.
          let so_far = inv.3 sound new ch u in
          let unmet = c.in-Err.ensures ch.laws.ascend (inv.4 sound new ch u) in
          let x : RowFrom k.meaning k.rules k.measure t start r = broken_at k k' t start r inv.0 (starts_within k.meaning k.rules k.measure t e old new done start so_far) (told.first_fit (inv.7 sound)) in
          let at = placed k.meaning k.rules k.measure t start r x in
          let few = told.few in
          let last : following r ≡ None = sym (c.in_default.ensures (omega (arith, at.ends))) in
          rw pushed (ends k.meaning k.rules k.measure t e old new done start so_far r x (unmet.meets_none r at.starts) last);
    }

pub rows-smaller : goal.rows-smaller
rows-smaller g c =
    let long = ap length c.in_ok-push.ensures.value ∙ length_push c.rows.rows.rows.items c.in_ok-row.row in
    omega (arith, long, c.rows-test.true, c.len.ensures.value)

pub rows-preserved : goal.rows-preserved
rows-preserved g c =
    let inv = c.rows.invariant in
    let told = c.in_ok-row.ensures in
    let k = style g.M.Measurer.meaning g.P.Policy.rules c.args.setter.now in
    let k' = style g.M.Measurer.meaning g.P.Policy.rules c.rows.setter in
    let t = g.T.Characters.chars c.args.text.now in
    let e = c.args.edit in
    let old = c.args.old.now in
    let first = c.args.rows.now.rows.items in
    let done = c.rows.rows.rows.items in
    let more = c.push.new.self.rows.items in
    let start = c.rows.start in
    let s' = c.in-Some.next in
    let r = c.in_ok-row.row in
    let pushed : more ≡ done ++ r ∷ [] = c.in_ok-push.ensures.value in
    let long : length more ≡ length done + 1 = ap length pushed ∙ length_push done r in (
      told.kept ∙ inv.0,
      omega arith,
      (λ f. counted_on c.args.setter.now.tally c.rows.setter.tally _ (length done - length first) (length more - length first) (inv.2 f) told.counted (omega arith)),
      (λ sound new ch u.
          let so_far = inv.3 sound new ch u in
          let unmet = c.in-Err.ensures ch.laws.ascend (inv.4 sound new ch u) in
          let x : RowFrom k.meaning k.rules k.measure t start r = broken_at k k' t start r inv.0 (starts_within k.meaning k.rules k.measure t e old new done start so_far) (told.first_fit (inv.7 sound)) in
          let at = placed k.meaning k.rules k.measure t start r x in
          let few = told.few in
          let next : following r ≡ Some s' = sym (c.in-Some.ensures (omega (arith, at.ends))) in
          rw pushed (goes_on k.meaning k.rules k.measure t e old new done start so_far r s' x (unmet.meets_none r at.starts) next)),
      (λ sound new ch u.
          let so_far = inv.3 sound new ch u in
          let unmet = c.in-Err.ensures ch.laws.ascend (inv.4 sound new ch u) in
          let x : RowFrom k.meaning k.rules k.measure t start r = broken_at k k' t start r inv.0 (starts_within k.meaning k.rules k.measure t e old new done start so_far) (told.first_fit (inv.7 sound)) in
          let at = placed k.meaning k.rules k.measure t start r x in
          let few = told.few in
          let next : following r ≡ Some s' = sym (c.in-Some.ensures (omega (arith, at.ends))) in
          before_later old c.in-Err.next (start - e.ins + e.del) (s' - e.ins + e.del) (omega (arith, (at.on s' next).0)) unmet.passed),
      told.policy ∙ inv.5,
      told.lenders ∙ inv.6,
      (λ sound. told.stays (inv.7 sound)),
    )

pub returns : goal.returns
returns g c =
    let inv = c.rows.invariant in
    let k = style g.M.Measurer.meaning g.P.Policy.rules c.args.setter.now in
    let t = g.T.Characters.chars c.args.text.now in
    let done = c.rows.rows.rows.items in
    let full : most_rows ≤ length done = omega (arith, c.rows-test.false, c.len.ensures.value) in
    record {
      kept = inv.0;
      lenders = inv.6;
      stays = inv.7;
      policy = inv.5;
      within = tt;
      counted = tt;
      met = λ sound new ch u. (refl, omega (arith, longer k.meaning k.rules k.measure t c.args.edit c.args.old.now new done c.rows.start (inv.3 sound new ch u)));
    }

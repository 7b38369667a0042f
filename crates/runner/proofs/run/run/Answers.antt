use Rattle.std.proofs.Common.{rules, tests, is_err, true, false, ◌≡◌, ℕ, ◌+◌, List, [], ◌++◌, length, Ok, Err, inl, sym, subst, refl, ap, ◌∙◌, drop, arith}
use Rattle.std.specs.List.{slice_get}
use Rattle.std.specs.declared.iter.Enumerate.{Enumerate}
use Rattle.listing.specs.Entries.{entered}
use Rattle.listing.specs.Writers.{written, room}
use Rattle.script.specs.Lines.{lines}
use Rattle.script.specs.declared.lines.Lines.{Lines}
use Rattle.sheet.specs.Histories.{clean_after}
use Rattle.sheet.specs.States.{state}
use Rattle.runner.specs.Answers.{outcome_words}
use Rattle.runner.specs.Runs.{run_lines}
use Rattle.runner.proofs.Turns.{Going, turn_again, turn_full, turn_over, of_lines}
use Rattle.runner.proofs.run.run.Goals as goal

-- the lines of a script, none of which is read
module _ {l : Lines} {e e' : Enumerate Lines} (taken : e' ≡ e) (source : e.iter ≡ l) (count : e.count ≡ 0) where
  whole : e'.iter ≡ l
  whole = ap (λ (x : Enumerate Lines). x.iter) taken ∙ source

  none_read : e'.count ≡ 0
  none_read = ap (λ (x : Enumerate Lines). x.count) taken ∙ count

pub lines-init-derived : goal.lines-init-derived
lines-init-derived g c =
    let few = c.new.ensures.laws.few c.new.result.rest.now in
    let same = ap length c.new.ensures.start in
    let made = c.enumerate-before-items.ensures in
    let from = ap (λ (s : Lines). length (lines s.rest.now)) (whole c.into_iter-before-iterator.ensures.into_iter_gives made.source made.count) in
    let begins = none_read c.into_iter-before-iterator.ensures.into_iter_gives made.source made.count in
    ((tt, tt, inl (omega (arith, few, same, from, begins))), tt)

pub lines-init : goal.lines-init
lines-init g c =
    let few = c.new.ensures.laws.few c.new.result.rest.now in
    let same = ap length c.new.ensures.start in
    let made = c.enumerate-before-items.ensures in
    let from = ap (λ (s : Lines). length (lines s.rest.now)) (whole c.into_iter-before-iterator.ensures.into_iter_gives made.source made.count) in
    let begins = none_read c.into_iter-before-iterator.ensures.into_iter_gives made.source made.count in (
      λ k h f. ([], f, ap (λ (n : ℕ). run_lines k (room c.args.list.now) (written c.args.list.now) (clean_after k h) (n + 1) (lines c.into_iter-before-iterator.result.iter.rest.now)) begins),
      refl,
      refl,
      omega (arith, few, same, from, begins),
    )

pub returns-then-script-gt-MAX_SCRIPT-clause-ran : goal.returns-then-script-gt-MAX_SCRIPT-clause-ran
returns-then-script-gt-MAX_SCRIPT-clause-ran g c k h f = search (rules, tests)

pub returns-in_err-map_err : goal.returns-in_err-map_err
returns-in_err-map_err g c =
    let s = state g.M.Measurer.meaning g.M.Measurer.sound g.P.Policy.rules c.lines.sheet in
    let s' = state g.M.Measurer.meaning g.M.Measurer.sound g.P.Policy.rules c.run_line-reply.new.sheet in
    let R = room c.args.list.now in
    let n = c.in-Some.before + 1 in
    let steps = c.in-Some.ensures.steps in
    let ws = outcome_words n c.run_line-reply.result in
    let bad : is_err c.enter-in-lines.result ≡ true = search (rules, tests) in
    let told : c.from_residual.result ≡ Err (record { line = n }) = search (rules, tests) in
    record {
      lender = c.enter-in-lines.ensures.lender ∙ c.lines.invariant.1;
      room = c.enter-in-lines.ensures.room ∙ c.lines.invariant.2;
      ran = λ k h f.
          let run = run_lines k R (written c.args.list.now) (clean_after k h) 1 (lines c.into_iter-before-iterator.result.iter.rest.now) in
          let going = subst (λ (m : ℕ). Going k h s R (written c.lines.list) (m + 1) (lines c.lines.before-iterator.iter.rest.now) run) (sym steps.1) (c.lines.invariant.0 k h f) in
          of_lines k h s' R (written c.args.list.now) (written c.enter-in-lines.new.list) c.args.script.now c.into_iter-before-iterator.result.iter.rest.now c.from_residual.result (omega arith) (ap (λ (l : Lines). l.rest.now) (whole c.into_iter-before-iterator.ensures.into_iter_gives c.enumerate-before-items.ensures.source c.enumerate-before-items.ensures.count) ∙ c.new.ensures.start)
          (rw told (turn_full k h s s' R (written c.lines.list) (written c.enter-in-lines.new.list) n (lines c.lines.before-iterator.iter.rest.now) c.in-Some.line.now _ going ws c.enter-in-lines.result
          (ap (λ (xs : List (List ℕ)). slice_get xs 0) (sym c.in-Some.ensures.steps.0))
          (c.run_line-reply.ensures k (going.0 ++ h) going.1)
          (c.enter-in-lines.ensures.after ∙ ap (λ (x : ℕ). entered x (written c.lines.list) ws) c.lines.invariant.2)
          bad));
    }

pub lines-preserved : goal.lines-preserved
lines-preserved g c =
    let s = state g.M.Measurer.meaning g.M.Measurer.sound g.P.Policy.rules c.lines.sheet in
    let s' = state g.M.Measurer.meaning g.M.Measurer.sound g.P.Policy.rules c.run_line-reply.new.sheet in
    let R = room c.args.list.now in
    let n = c.in-Some.before + 1 in
    let steps = c.in-Some.ensures.steps in
    let ls = lines c.lines.before-iterator.iter.rest.now in
    let ws = outcome_words n c.run_line-reply.result in
    let good : is_err c.enter-in-lines.result ≡ false = search (rules, tests) in (
      λ k h f.
          let run = run_lines k R (written c.args.list.now) (clean_after k h) 1 (lines c.into_iter-before-iterator.result.iter.rest.now) in
          let going = subst (λ (m : ℕ). Going k h s R (written c.lines.list) (m + 1) (lines c.lines.before-iterator.iter.rest.now) run) (sym steps.1) (c.lines.invariant.0 k h f) in
          subst (λ (m : ℕ). Going k h s' R (written c.enter-in-lines.new.list) (m + 1) (lines c.next.new.self.iter.rest.now) run) (ap (λ (m : ℕ). m + 1) steps.1 ∙ sym steps.2) (turn_again k h s s' R (written c.lines.list) (written c.enter-in-lines.new.list) n ls c.in-Some.line.now _ going ws c.enter-in-lines.result
          (ap (λ (xs : List (List ℕ)). slice_get xs 0) (sym c.in-Some.ensures.steps.0))
          (c.run_line-reply.ensures k (going.0 ++ h) going.1)
          (c.enter-in-lines.ensures.after ∙ ap (λ (x : ℕ). entered x (written c.lines.list) ws) c.lines.invariant.2)
          good
          (lines c.next.new.self.iter.rest.now)
          (sym (ap (drop 1) c.in-Some.ensures.steps.0))),
      c.enter-in-lines.ensures.lender ∙ c.lines.invariant.1,
      c.enter-in-lines.ensures.room ∙ c.lines.invariant.2,
      omega (arith, c.lines.invariant.3, c.in-Some.ensures.steps.2, ap (length {A = List ℕ}) c.in-Some.ensures.steps.0),
    )

pub returns : goal.returns
returns g c =
    let s = state g.M.Measurer.meaning g.M.Measurer.sound g.P.Policy.rules c.lines.sheet in
    let R = room c.args.list.now in
    record {
      lender = c.lines.invariant.1;
      room = c.lines.invariant.2;
      ran = λ k h f.
          of_lines k h s R (written c.args.list.now) (written c.lines.list) c.args.script.now c.into_iter-before-iterator.result.iter.rest.now (Ok tt) (omega arith) (ap (λ (l : Lines). l.rest.now) (whole c.into_iter-before-iterator.ensures.into_iter_gives c.enumerate-before-items.ensures.source c.enumerate-before-items.ensures.count) ∙ c.new.ensures.start)
          (turn_over k h s R (written c.lines.list) (c.lines.before-iterator.count + 1) (lines c.lines.before-iterator.iter.rest.now) _ (c.lines.invariant.0 k h f) (ap (λ (xs : List (List ℕ)). slice_get xs 0) (sym c.in-None.ensures.steps.0.0)));
    }

-- Each way out is a way of the line's step.
use Rattle.std.proofs.Common.{ℕ, [], ◌∷◌, Some, sym, refl, ap, ◌∙◌}
use Rattle.std.proofs.lemmas.Result.{err_from_is_err_and}
use Rattle.script.specs.Asked.{asked}
use Rattle.script.specs.declared.command.Command as code
use Rattle.script.specs.declared.command.Command.TheVariants.{Measure}
use Rattle.sheet.specs.Clean.Answer.{accepted, refused, shown}
use Rattle.sheet.specs.Clean.Call.{replace, remeasure, refresh}
use Rattle.sheet.specs.Faults.{replace_told, remeasure_told, row_told}
use Rattle.sheet.specs.Histories.{clean_after, event}
use Rattle.sheet.specs.States.{state}
use Rattle.runner.proofs.LineSteps.{no_line, replace_line, measure_line, no_measure_line, refresh_line, show_line, refused_line, refused_change, settled_change, shown_line}
use Rattle.runner.proofs.carrying.carry_out.Goals as goal

pub returns-in_err-at : goal.returns-in_err-at
returns-in_err-at g c =
    let p = err_from_is_err_and c.from_residual.result c.from_residual.ensures.1 in
    let s = state g.M.Measurer.meaning g.M.Measurer.sound g.P.Policy.rules c.args.sheet.now in
    let line = c.args.line.now in
    λ k h n f. rw (p.1, p.2) (refused_line k h s line n _ (16 ∷ []) f (no_line k (clean_after k h) line (sym c.in_err-at.ensures.value)) refl)

pub returns-in_err-slip-in-Replace : goal.returns-in_err-slip-in-Replace
returns-in_err-slip-in-Replace g c =
    let p = err_from_is_err_and c.from_residual-in_err-slip-in-Replace.result c.from_residual-in_err-slip-in-Replace.ensures.1 in
    let s = state g.M.Measurer.meaning g.M.Measurer.sound g.P.Policy.rules c.replace.new.self in
    let line = c.args.line.now in
    let told = c.in_err-slip-in-Replace.ensures in
    let at = c.in-Replace.at in
    let del = c.in-Replace.del in
    let ins = c.in-Replace.text.now in
    let is = sym c.in_ok-at.ensures.value ∙ ap (λ (x : code.Command). Some (asked x)) c.in-Replace.is in
    λ k h n f. rw (p.1, p.2) (refused_change k h s line n _ (replace at del ins) (replace_told c.in_err-slip-in-Replace.field-0.0) (told.follows k h f) (replace_line k (clean_after k h) line at del ins is) refl)

pub returns-in_err-new-in-Measure : goal.returns-in_err-new-in-Measure
returns-in_err-new-in-Measure g c =
    let p = err_from_is_err_and c.from_residual-in_err-new-in-Measure.result c.from_residual-in_err-new-in-Measure.ensures.1 in
    let s = state g.M.Measurer.meaning g.M.Measurer.sound g.P.Policy.rules c.args.sheet.now in
    let line = c.args.line.now in
    let is = sym c.in_ok-at.ensures.value ∙ ap (λ (x : code.Command). Some (asked x)) c.in-Measure.is in
    λ k h n f. rw (p.1, p.2) (refused_line k h s line n _ (6 ∷ []) f (no_measure_line k (clean_after k h) line c.in-Measure.units is c.in_err-new-in-Measure.ensures) refl)

pub returns-in_err-slip-in-Measure : goal.returns-in_err-slip-in-Measure
returns-in_err-slip-in-Measure g c =
    let p = err_from_is_err_and c.from_residual-in_err-slip-in-Measure.result c.from_residual-in_err-slip-in-Measure.ensures.1 in
    let s = state g.M.Measurer.meaning g.M.Measurer.sound g.P.Policy.rules c.remeasure.new.self in
    let line = c.args.line.now in
    let told = c.in_err-slip-in-Measure.ensures in
    let made = c.in_ok-new-in-Measure.ensures in
    let w = c.in_ok-new-in-Measure.field-0 in
    let is = sym c.in_ok-at.ensures.value ∙ ap (λ (x : code.Command). Some (asked x)) c.in-Measure.is ∙ ap (λ (u : ℕ). Some (asked (Measure u))) (sym made.1) in
    λ k h n f. rw (p.1, p.2) (refused_change k h s line n _ (remeasure w) (remeasure_told c.in_err-slip-in-Measure.field-0.0) (told.follows k h f) (measure_line k (clean_after k h) line w is (rw made.1 made.0)) refl)

pub returns-in_err-row-in-Show : goal.returns-in_err-row-in-Show
returns-in_err-row-in-Show g c =
    let p = err_from_is_err_and c.from_residual-in_err-row-in-Show.result c.from_residual-in_err-row-in-Show.ensures.1 in
    let s = state g.M.Measurer.meaning g.M.Measurer.sound g.P.Policy.rules c.args.sheet.now in
    let line = c.args.line.now in
    let told = c.in_err-row-in-Show.ensures in
    let i = c.in-Show.number in
    let is = sym c.in_ok-at.ensures.value ∙ ap (λ (x : code.Command). Some (asked x)) c.in-Show.is in
    λ k h n f. rw (p.1, p.2) (shown_line k h s line n _ i c.args.row.now (refused (row_told c.in_err-row-in-Show.field-0.0)) c.told-row (told.follows k h f) (show_line k (clean_after k h) line i is) refl)

pub returns-in_ok-slip-in-Replace : goal.returns-in_ok-slip-in-Replace
returns-in_ok-slip-in-Replace g c =
    let s₁ = state g.M.Measurer.meaning g.M.Measurer.sound g.P.Policy.rules c.replace.new.self in
    let s = state g.M.Measurer.meaning g.M.Measurer.sound g.P.Policy.rules c.settle.new.sheet in
    let line = c.args.line.now in
    let told = c.in_ok-slip-in-Replace.ensures in
    let at = c.in-Replace.at in
    let del = c.in-Replace.del in
    let ins = c.in-Replace.text.now in
    let is = sym c.in_ok-at.ensures.value ∙ ap (λ (x : code.Command). Some (asked x)) c.in-Replace.is in
    λ k h n f. settled_change k h s line n _ (replace at del ins) s₁ (told.follows k h f) (replace_line k (clean_after k h) line at del ins is) (c.settle.ensures k (event (replace at del ins) accepted s₁ ∷ h) n (told.follows k h f))

pub returns-in_ok-slip-in-Measure : goal.returns-in_ok-slip-in-Measure
returns-in_ok-slip-in-Measure g c =
    let s₁ = state g.M.Measurer.meaning g.M.Measurer.sound g.P.Policy.rules c.remeasure.new.self in
    let s = state g.M.Measurer.meaning g.M.Measurer.sound g.P.Policy.rules c.settle-in-Measure.new.sheet in
    let line = c.args.line.now in
    let told = c.in_ok-slip-in-Measure.ensures in
    let made = c.in_ok-new-in-Measure.ensures in
    let w = c.in_ok-new-in-Measure.field-0 in
    let is = sym c.in_ok-at.ensures.value ∙ ap (λ (x : code.Command). Some (asked x)) c.in-Measure.is ∙ ap (λ (u : ℕ). Some (asked (Measure u))) (sym made.1) in
    λ k h n f. settled_change k h s line n _ (remeasure w) s₁ (told.follows k h f) (measure_line k (clean_after k h) line w is (rw made.1 made.0)) (c.settle-in-Measure.ensures k (event (remeasure w) accepted s₁ ∷ h) n (told.follows k h f))

pub returns-in-Refresh : goal.returns-in-Refresh
returns-in-Refresh g c =
    let s₁ = state g.M.Measurer.meaning g.M.Measurer.sound g.P.Policy.rules c.refresh-slip.new.self in
    let s = state g.M.Measurer.meaning g.M.Measurer.sound g.P.Policy.rules c.settle-in-Refresh.new.sheet in
    let line = c.args.line.now in
    let told = c.refresh-slip.ensures in
    let is = sym c.in_ok-at.ensures.value ∙ ap (λ (x : code.Command). Some (asked x)) c.in-Refresh.is in
    λ k h n f. settled_change k h s line n _ refresh s₁ (told.follows k h f) (refresh_line k (clean_after k h) line is) (c.settle-in-Refresh.ensures k (event refresh accepted s₁ ∷ h) n (told.follows k h f))

pub returns-in_ok-row-in-Show : goal.returns-in_ok-row-in-Show
returns-in_ok-row-in-Show g c =
    let s = state g.M.Measurer.meaning g.M.Measurer.sound g.P.Policy.rules c.args.sheet.now in
    let line = c.args.line.now in
    let told = c.in_ok-row-in-Show.ensures in
    let i = c.in-Show.number in
    let is = sym c.in_ok-at.ensures.value ∙ ap (λ (x : code.Command). Some (asked x)) c.in-Show.is in
    λ k h n f. shown_line k h s line n _ i c.args.row.now (shown c.in_ok-row-in-Show.field-0 c.row.new.buffer) c.told-row (told.follows k h f) (show_line k (clean_after k h) line i is) refl

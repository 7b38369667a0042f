-- The answer is the definition's, and the theorems on layouts say what that means.
use Rattle.std.proofs.Common.{◌≡◌, ℕ, List, Ok, Err, sym, refl, ap, ◌∙◌}
use Rattle.std.proofs.lemmas.Result.{err_from_is_err_and}
use Rattle.metrics.specs.Meaning.{Meaning}
use Rattle.layout.specs.Covers.{first_uncovered, cover_answer}
use Rattle.layout.specs.Layouts.{laid}
use Rattle.layout.specs.Settings.{setting_of}
use Rattle.layout.specs.declared.laying.LayFault.TheVariants.{NoGlyph}
use Rattle.layout.proofs.Keeping.{still}
use Rattle.layout.proofs.LayoutTheorems.{layout_laws}
use Rattle.layout.proofs.Settling.{accepted, rightly_refused, told_some, told_none, refused_for_glyph, refused_by_layout, set_by_layout}
use Rattle.layout.proofs.setter.Setter.set_text.Goals as goal

pub returns-in_err-check_cover : goal.returns-in_err-check_cover
returns-in_err-check_cover g c =
    let told = c.in_err-check_cover.ensures in
    let m = g.M.Measurer.meaning c.args.self.now.measurer in
    let P = g.P.Policy.rules c.args.self.now.policy in
    let w = c.args.self.now.measure in
    let t = c.args.text.now in
    let u = c.in_err-check_cover.field-0.0 in
    let p = err_from_is_err_and c.from_residual.result c.from_residual.ensures.1 in
    let is : g.M.Measurer.sound c.args.self.now.measurer → setting_of m P w t ≡ Err (NoGlyph u) = λ s.
    refused_for_glyph m P w t u (told_some (first_uncovered m 0 t) u (told.value s ∙ ap (λ (x : List ℕ). cover_answer (first_uncovered m 0 x)) c.as_slice.ensures.value)) in
    record {
      kept = still told.same refl;
      lenders = told.lenders;
      policy = refl;
      counted = refl;
      stays = told.stays;
      value = λ s. rw (p.1, p.2) (is s);
      first_fit = λ s. rw (p.1, p.2) (rightly_refused m P w t (layout_laws m P w) (NoGlyph u) (is s));
    }

pub returns-in_err-laid : goal.returns-in_err-laid
returns-in_err-laid g c =
    let checked = c.in_ok-check_cover.ensures in
    let told = c.in_err-laid.ensures in
    let m = g.M.Measurer.meaning c.args.self.now.measurer in
    let P = g.P.Policy.rules c.args.self.now.policy in
    let w = c.args.self.now.measure in
    let t = c.args.text.now in
    let e = c.in_err-laid.field-0.0 in
    let p = err_from_is_err_and c.from_residual-in_err-laid.result c.from_residual-in_err-laid.ensures.1 in
    let is : g.M.Measurer.sound c.args.self.now.measurer → setting_of m P w t ≡ Err e = λ s.
    refused_by_layout m P w t e
    (told_none (first_uncovered m 0 t) tt (checked.value s ∙ ap (λ (x : List ℕ). cover_answer (first_uncovered m 0 x)) c.as_slice.ensures.value))
    (ap (λ (x : Meaning). (laid x P w t).answer) (sym checked.same) ∙ sym (told.value (checked.stays s))) in
    record {
      kept = told.kept ∙ still checked.same refl;
      lenders = told.lenders ∙ checked.lenders;
      policy = told.policy;
      counted = refl;
      stays = λ s. told.stays (checked.stays s);
      value = λ s. rw (p.1, p.2) (is s);
      first_fit = λ s. rw (p.1, p.2) (rightly_refused m P w t (layout_laws m P w) e (is s));
    }

pub returns : goal.returns
returns g c =
    let checked = c.in_ok-check_cover.ensures in
    let told = c.in_ok-laid.ensures in
    let m = g.M.Measurer.meaning c.args.self.now.measurer in
    let P = g.P.Policy.rules c.args.self.now.policy in
    let w = c.args.self.now.measure in
    let t = c.args.text.now in
    let is : g.M.Measurer.sound c.args.self.now.measurer → setting_of m P w t ≡ Ok c.lay-laid.new.rows.rows.items = λ s.
    set_by_layout m P w t tt
    (told_none (first_uncovered m 0 t) tt (checked.value s ∙ ap (λ (x : List ℕ). cover_answer (first_uncovered m 0 x)) c.as_slice.ensures.value))
    (ap (λ (x : Meaning). (laid x P w t).answer) (sym checked.same) ∙ sym (told.value (checked.stays s)))
    ∙ ap Ok (ap (λ (x : Meaning). (laid x P w t).rows) (sym checked.same) ∙ sym (told.items (checked.stays s))) in
    record {
      kept = told.kept ∙ still checked.same refl;
      lenders = told.lenders ∙ checked.lenders;
      policy = told.policy;
      counted = refl;
      stays = λ s. told.stays (checked.stays s);
      value = is;
      first_fit = λ s. accepted m P w t (layout_laws m P w) _ (is s);
    }

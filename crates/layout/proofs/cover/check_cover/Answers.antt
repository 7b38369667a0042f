-- Each way is one law of the look for the first uncovered character.
use Rattle.std.proofs.Common.{◌≡◌, ◌+◌, get_or, drop, Some, None, sym, ap, ◌∙◌}
use Rattle.std.proofs.lemmas.List.{drop_more, drop_all}
use Rattle.metrics.specs.Meaning.{Meaning}
use Rattle.layout.specs.Covers.{first_uncovered, cover_answer, lacking}
use Rattle.layout.proofs.CoverSteps.{none_uncovered, next_uncovered, this_uncovered}
use Rattle.layout.proofs.cover.check_cover.Goals as goal

pub returns-in-Some : goal.returns-in-Some
returns-in-Some g c =
    let inv = c.loop-offset.invariant in
    let m = g.M.Measurer.meaning c.args.measurer.now in
    let t = c.args.chars.now in
    let i = c.loop-offset.offset in
    let told = c.in-Some.ensures in
    record {
      same = told.same ∙ inv.0;
      lenders = told.lenders ∙ inv.3;
      stays = λ s. told.stays (inv.1 s);
      value = λ s.
          let said : lacking m (get_or t i 0) ≡ Some c.in-Some.glyph = ap (λ (n : Meaning). lacking n (get_or t i 0)) (sym inv.0) ∙ sym (told.value (inv.1 s)) in
          ap cover_answer (sym (this_uncovered m i (get_or t i 0) (drop (i + 1) t) c.in-Some.glyph said) ∙ ap (first_uncovered m i) (sym (drop_more t i 0 c.loop-offset-test.true)) ∙ inv.2 s);
    }

pub loop-offset-preserved : goal.loop-offset-preserved
loop-offset-preserved g c =
    let inv = c.loop-offset.invariant in
    let m = g.M.Measurer.meaning c.args.measurer.now in
    let t = c.args.chars.now in
    let i = c.loop-offset.offset in
    let told = c.in_default.ensures in (
      told.same ∙ inv.0,
      (λ s. told.stays (inv.1 s)),
      (λ s.
          let said : lacking m (get_or t i 0) ≡ None = ap (λ (n : Meaning). lacking n (get_or t i 0)) (sym inv.0) ∙ sym (told.value (inv.1 s)) in
          sym (next_uncovered m i (get_or t i 0) (drop (i + 1) t) said) ∙ ap (first_uncovered m i) (sym (drop_more t i 0 c.loop-offset-test.true)) ∙ inv.2 s),
      told.lenders ∙ inv.3,
    )

pub returns : goal.returns
returns g c =
    let inv = c.loop-offset.invariant in
    let m = g.M.Measurer.meaning c.args.measurer.now in
    let t = c.args.chars.now in
    let i = c.loop-offset.offset in
    record {
      same = inv.0;
      lenders = inv.3;
      stays = inv.1;
      value = λ s. ap cover_answer (sym (none_uncovered m i) ∙ ap (first_uncovered m i) (sym (drop_all i t c.loop-offset-test.false)) ∙ inv.2 s);
    }

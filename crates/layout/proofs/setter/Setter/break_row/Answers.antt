-- Each way out of the scan is one law of the scan at the place that the text was read at.
use Rattle.std.proofs.lemmas.Result.{err_from_is_err_and}
use Rattle.std.proofs.Common.{◌≡◌, ◌+◌, ◌<◌, ◌≤◌, min, length, Ok, Err, sym, refl, ap, ◌∙◌, ap₂, arith, rules}
use Rattle.metrics.specs.Meaning.{answer}
use Rattle.layout.specs.Scans.{row_from, taken, over_row}
use Rattle.layout.specs.Styles.{Style, style}
use Rattle.page.specs.Texts.{seen}
use Rattle.layout.specs.declared.scan.Scan.{Scan}
use Rattle.page.proofs.Places.{seen_within}
use Rattle.layout.proofs.Keeping.{still}
use Rattle.layout.proofs.RowTheorems.{row_laws, rightly_broken}
use Rattle.layout.proofs.Scanning.{at_newline, at_missing, at_over, at_on, at_end}
use Rattle.layout.proofs.setter.Setter.break_row.Goals as goal

pub scan-init : goal.scan-init
scan-init g c = rw (c.new-scan.ensures, c.min.ensures, c.len.ensures.value) (omega arith, omega arith, refl, refl, (λ _. refl), refl, refl, (λ sound. sound))

pub returns-then-c-eq-NEWLINE : goal.returns-then-c-eq-NEWLINE
returns-then-c-eq-NEWLINE g c =
    let inv = c.scan.invariant in
    let k = style g.M.Measurer.meaning g.P.Policy.rules c.args.self.now in
    let t = g.T.Characters.chars c.args.text.now in
    let s = c.scan.scan in
    let found : g.M.Measurer.sound c.args.self.now.measurer → Ok c.whole.result ≡ row_from k.meaning k.rules k.measure t (min c.args.start (length t)) =
    λ sound. ap Ok c.whole.ensures ∙ sym (at_newline _ _ _ s t _ _ (sym c.in-Some.ensures) c.if-c-eq-NEWLINE.true) ∙ inv.4 sound in
    record {
      kept = inv.2;
      lenders = inv.6;
      policy = inv.5;
      stays = inv.7;
      value = found;
      first_fit = λ sound. rightly_broken k.meaning k.rules k.measure t (min c.args.start (length t)) _ (omega arith) (found sound);
      laws = row_laws k.meaning k.rules k.measure;
      few = c.len.ensures.few;
      counted = inv.3;
    }

pub returns-in_err-advance : goal.returns-in_err-advance
returns-in_err-advance g c =
    let inv = c.scan.invariant in
    let k = style g.M.Measurer.meaning g.P.Policy.rules c.args.self.now in
    let t = g.T.Characters.chars c.args.text.now in
    let s = c.scan.scan in
    let asked : g.M.Measurer.meaning c.scan.self.measurer ≡ k.meaning = ap (λ (x : Style). x.meaning) inv.2 in
    let e = c.in_err-advance.field-0.0 in
    let told : c.advance.result ≡ Err e.glyph = search rules in
    let is : e ≡ record { offset = s.place; glyph = e.glyph } = search rules in
    let p = err_from_is_err_and c.from_residual.result c.from_residual.ensures.1 in
    let found : g.M.Measurer.sound c.args.self.now.measurer → Err (record { offset = s.place; glyph = e.glyph }) ≡ row_from k.meaning k.rules k.measure t (min c.args.start (length t)) =
    λ sound. sym (at_missing _ _ _ s t _ _ (sym c.in-Some.ensures) c.if-c-eq-NEWLINE.false _ (ap (λ m. answer m s.before c.in-Some.c) (sym asked) ∙ sym (c.advance.ensures.value (inv.7 sound)) ∙ told)) ∙ inv.4 sound in
    record {
      kept = still c.advance.ensures.same inv.2;
      lenders = c.advance.ensures.lenders ∙ inv.6;
      policy = inv.5;
      stays = λ sound. c.advance.ensures.stays (inv.7 sound);
      value = λ sound. p.1 ∙ ap Err (p.2 ∙ is) ∙ found sound;
      first_fit = λ sound. rw (p.1, p.2 ∙ is) (rightly_broken k.meaning k.rules k.measure t (min c.args.start (length t)) _ (omega arith) (found sound));
      laws = row_laws k.meaning k.rules k.measure;
      few = c.len.ensures.few;
      counted = inv.3;
    }

pub taken-next-requires : goal.taken-next-requires
taken-next-requires g c =
    let t = g.T.Characters.chars c.args.text.now in
    let within : c.scan.scan.place < length t = seen_within t _ _ (sym c.in-Some.ensures) in
    let few = c.len.ensures.few in
    record { room = omega arith; edge_fits = omega arith }

pub over-requires : goal.over-requires
over-requires g c =
    let t = g.T.Characters.chars c.args.text.now in
    let within : c.scan.scan.place < length t = seen_within t _ _ (sym c.in-Some.ensures) in
    let few = c.len.ensures.few in
    record { room = omega arith; one_further = ap (λ (x : Scan). x.place) c.taken-next.ensures }

pub returns-then-next-units : goal.returns-then-next-units
returns-then-next-units g c =
    let inv = c.scan.invariant in
    let k = style g.M.Measurer.meaning g.P.Policy.rules c.args.self.now in
    let t = g.T.Characters.chars c.args.text.now in
    let s = c.scan.scan in
    let asked : g.M.Measurer.meaning c.scan.self.measurer ≡ k.meaning = ap (λ (x : Style). x.meaning) inv.2 in
    let told : c.advance.result ≡ Ok c.in_ok-advance.advance = search rules in
    let said : g.M.Measurer.sound c.args.self.now.measurer → answer k.meaning s.before c.in-Some.c ≡ Ok c.in_ok-advance.advance = λ sound. ap (λ m. answer m s.before c.in-Some.c) (sym asked) ∙ sym (c.advance.ensures.value (inv.7 sound)) ∙ told in
    let n = taken k.rules s c.in-Some.c c.in_ok-advance.advance in
    let is-n : c.taken-next.result ≡ n = c.taken-next.ensures ∙ ap (λ (x : Style). taken x.rules s c.in-Some.c c.in_ok-advance.advance) inv.2 in
    let units : c.units.result ≡ k.measure = c.units.ensures.value ∙ ap (λ (x : Style). x.measure) inv.2 in
    let wide : k.measure < n.width = rw (is-n, units) at c.if-next-units.true in
    let follows : c.get-then-next-units.result ≡ seen t (s.place + 1) = c.get-then-next-units.ensures ∙ ap (λ (x : Scan). seen t x.place) is-n in
    let found : g.M.Measurer.sound c.args.self.now.measurer → Ok c.over.result ≡ row_from k.meaning k.rules k.measure t (min c.args.start (length t)) =
    λ sound. ap Ok (c.over.ensures ∙ ap₂ (over_row s) is-n follows) ∙ sym (at_over k.meaning k.rules k.measure s t _ _ (sym c.in-Some.ensures) c.if-c-eq-NEWLINE.false _ (said sound) wide) ∙ inv.4 sound in
    record {
      kept = still c.advance.ensures.same inv.2;
      lenders = c.advance.ensures.lenders ∙ inv.6;
      policy = inv.5;
      stays = λ sound. c.advance.ensures.stays (inv.7 sound);
      value = found;
      first_fit = λ sound. rightly_broken k.meaning k.rules k.measure t (min c.args.start (length t)) _ (omega arith) (found sound);
      laws = row_laws k.meaning k.rules k.measure;
      few = c.len.ensures.few;
      counted = inv.3;
    }

pub scan-smaller : goal.scan-smaller
scan-smaller g c =
    let t = g.T.Characters.chars c.args.text.now in
    let within : c.scan.scan.place < length t = seen_within t _ _ (sym c.in-Some.ensures) in
    let on : c.taken-next.result.place ≡ c.scan.scan.place + 1 = ap (λ (x : Scan). x.place) c.taken-next.ensures in
    omega arith

pub scan-preserved : goal.scan-preserved
scan-preserved g c =
    let inv = c.scan.invariant in
    let k = style g.M.Measurer.meaning g.P.Policy.rules c.args.self.now in
    let t = g.T.Characters.chars c.args.text.now in
    let s = c.scan.scan in
    let asked : g.M.Measurer.meaning c.scan.self.measurer ≡ k.meaning = ap (λ (x : Style). x.meaning) inv.2 in
    let told : c.advance.result ≡ Ok c.in_ok-advance.advance = search rules in
    let said : g.M.Measurer.sound c.args.self.now.measurer → answer k.meaning s.before c.in-Some.c ≡ Ok c.in_ok-advance.advance = λ sound. ap (λ m. answer m s.before c.in-Some.c) (sym asked) ∙ sym (c.advance.ensures.value (inv.7 sound)) ∙ told in
    let n = taken k.rules s c.in-Some.c c.in_ok-advance.advance in
    let is-n : c.taken-next.result ≡ n = c.taken-next.ensures ∙ ap (λ (x : Style). taken x.rules s c.in-Some.c c.in_ok-advance.advance) inv.2 in
    let units : c.units.result ≡ k.measure = c.units.ensures.value ∙ ap (λ (x : Style). x.measure) inv.2 in
    let fits : n.width ≤ k.measure = rw (is-n, units) at c.if-next-units.false in
    let within : s.place < length t = seen_within t _ _ (sym c.in-Some.ensures) in
    let on : c.taken-next.result.place ≡ s.place + 1 = ap (λ (x : Scan). x.place) is-n in
    let sum : c.taken-next.result.edge ≡ s.edge + c.in_ok-advance.advance = ap (λ (x : Scan). x.edge) is-n in (
      omega arith,
      omega arith,
      still c.advance.ensures.same inv.2,
      inv.3,
      (λ sound. rw is-n (sym (at_on k.meaning k.rules k.measure s t _ _ (sym c.in-Some.ensures) c.if-c-eq-NEWLINE.false _ (said sound) fits) ∙ inv.4 sound)),
      inv.5,
      c.advance.ensures.lenders ∙ inv.6,
      (λ sound. c.advance.ensures.stays (inv.7 sound)),
    )

pub returns : goal.returns
returns g c =
    let inv = c.scan.invariant in
    let k = style g.M.Measurer.meaning g.P.Policy.rules c.args.self.now in
    let t = g.T.Characters.chars c.args.text.now in
    let s = c.scan.scan in
    let found : g.M.Measurer.sound c.args.self.now.measurer → Ok c.whole-2.result ≡ row_from k.meaning k.rules k.measure t (min c.args.start (length t)) =
    λ sound. ap Ok c.whole-2.ensures ∙ sym (at_end _ _ _ s t _ (sym c.in_default.ensures)) ∙ inv.4 sound in
    record {
      kept = inv.2;
      lenders = inv.6;
      policy = inv.5;
      stays = inv.7;
      value = found;
      first_fit = λ sound. rightly_broken k.meaning k.rules k.measure t (min c.args.start (length t)) _ (omega arith) (found sound);
      laws = row_laws k.meaning k.rules k.measure;
      few = c.len.ensures.few;
      counted = inv.3;
    }

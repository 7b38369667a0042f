use Rattle.std.proofs.Common.{◌≡◌, ◌+◌, length, Ok, Err, sym, refl, ap, ◌∙◌, arith, rules}
use Rattle.std.proofs.lemmas.Result.{err_from_is_err_and}
use Rattle.std.proofs.lemmas.Bool.{eqb-true, eqb-false}
use Rattle.lists.specs.Holding.{holding}
use Rattle.afm.proofs.Runs.{read_ended, read_over}
use Rattle.afm.proofs.Turns.{Turn, told_at, told_by, turn_again, turn_refused, turn_file, turn_less}
use Rattle.afm.specs.Lines.{rest_of, lines}
use Rattle.afm.specs.Parts.{line}
use Rattle.afm.specs.Reading.{Outcome, read_lines, read_font}
use Rattle.afm.specs.Steps.{Place, Standing, progress, rest}
use Rattle.afm.specs.declared.fault.AfmFault.TheVariants.{Over}
use Rattle.afm.proofs.font.read_font.Goals as goal

pub lines-init : goal.lines-init
unfolding read_font
lines-init c = (
  ap (λ (q : Place). read_lines c.args.file.now (progress c.new-reader.result c.args.glyphs.now c.args.kerns.now) (q.line + 1) (lines (rest_of q.file q.at))) c.new-reader.ensures.place
      ∙ ap (λ (a : Standing). read_lines c.args.file.now (record { at = a; glyphs = holding c.args.glyphs.now; kerns = holding c.args.kerns.now }) 1 (lines (rest_of c.args.file.now 0))) c.new-reader.ensures.standing,
  ap (λ (q : Place). q.file) c.new-reader.ensures.place,
  refl,
  refl,
)

pub returns-then-is_over : goal.returns-then-is_over
returns-then-is_over c =
    let told = sym c.lines.invariant.0 ∙ read_over c.args.file.now (progress c.lines.reader c.lines.glyphs c.lines.kerns) (c.lines.reader.line + 1) (sym c.lines-test.ensures) (rest c.lines.reader) (eqb-true _ _ (sym c.if-is_over.ensures)) in
    record {
      glyph_lender = c.lines.invariant.2;
      kern_lender = c.lines.invariant.3;
      glyphs = sym (ap (λ (o : Outcome). o.glyphs) told);
      kerns = sym (ap (λ (o : Outcome). o.kerns) told);
      answer = ap (λ n. Err (Over (n + 1))) c.lines_read.ensures.value ∙ sym (ap (λ (o : Outcome). o.answer) told);
    }

refused_turn : (c : goal.After-from_residual) → Turn c.args.file.now c.lines.reader c.next_line-line.new.self c.take_line.new.self c.lines.glyphs c.take_line.new.glyphs c.lines.kerns c.take_line.new.kerns (line c.next_line-line.result)
refused_turn c =
    let long = eqb-false (length (rest c.lines.reader).text) 0 (sym c.if-is_over.ensures) in
    record {
      same = c.lines.invariant.1;
      on = sym c.lines-test.ensures;
      some = omega (arith, long);
      cut = c.next_line-line.ensures.value;
      left = c.next_line-line.ensures.rest;
      count = c.next_line-line.ensures.count;
      kept = c.next_line-line.ensures.file;
      stays = c.next_line-line.ensures.standing;
      there = c.take_line.ensures.place;
      moved = c.take_line.ensures.after;
    }

pub returns-in_err-map_err : goal.returns-in_err-map_err
returns-in_err-map_err c =
    let same = told_by c.lines_read-number.result c.take_line.result c.map_err.result (λ f e made. search rules) c.map_err.ensures.cases in
    let e = c.in_err-map_err.field-0.0 in
    let p = err_from_is_err_and c.from_residual.result c.from_residual.ensures.1 in
    let told = sym c.lines.invariant.0 ∙ turn_refused (refused_turn c) c.take_line.result e c.take_line.ensures.answer (ap (λ n. told_at n c.take_line.result) (sym c.lines_read-number.ensures.value) ∙ sym same ∙ c.in_err-map_err.was) in
    record {
      glyph_lender = c.take_line.ensures.glyph_lender ∙ c.lines.invariant.2;
      kern_lender = c.take_line.ensures.kern_lender ∙ c.lines.invariant.3;
      glyphs = sym (ap (λ (o : Outcome). o.glyphs) told);
      kerns = sym (ap (λ (o : Outcome). o.kerns) told);
      answer = p.1 ∙ ap Err p.2 ∙ sym (ap (λ (o : Outcome). o.answer) told);
    }

taken_turn : (c : goal.In_ok-map_err) → Turn c.args.file.now c.lines.reader c.next_line-line.new.self c.take_line.new.self c.lines.glyphs c.take_line.new.glyphs c.lines.kerns c.take_line.new.kerns (line c.next_line-line.result)
taken_turn c =
    let long = eqb-false (length (rest c.lines.reader).text) 0 (sym c.if-is_over.ensures) in
    record {
      same = c.lines.invariant.1;
      on = sym c.lines-test.ensures;
      some = omega (arith, long);
      cut = c.next_line-line.ensures.value;
      left = c.next_line-line.ensures.rest;
      count = c.next_line-line.ensures.count;
      kept = c.next_line-line.ensures.file;
      stays = c.next_line-line.ensures.standing;
      there = c.take_line.ensures.place;
      moved = c.take_line.ensures.after;
    }

pub lines-smaller : goal.lines-smaller
lines-smaller c = turn_less (taken_turn c)

pub lines-preserved : goal.lines-preserved
lines-preserved c = (
  turn_again (taken_turn c) (let told : c.take_line.result ≡ Ok tt = search rules in sym told ∙ c.take_line.ensures.answer) ∙ c.lines.invariant.0,
  turn_file (taken_turn c),
  c.take_line.ensures.glyph_lender ∙ c.lines.invariant.2,
  c.take_line.ensures.kern_lender ∙ c.lines.invariant.3,
)

pub returns : goal.returns
returns c =
    let told = sym c.lines.invariant.0 ∙ read_ended c.args.file.now (progress c.lines.reader c.lines.glyphs c.lines.kerns) (c.lines.reader.line + 1) (lines (rest c.lines.reader)) (sym c.lines-test.ensures) in
    record {
      glyph_lender = c.lines.invariant.2;
      kern_lender = c.lines.invariant.3;
      glyphs = sym (ap (λ (o : Outcome). o.glyphs) told);
      kerns = sym (ap (λ (o : Outcome). o.kerns) told);
      answer = sym (ap (λ (o : Outcome). o.answer) told);
    }

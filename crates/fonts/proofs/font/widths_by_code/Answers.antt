use Rattle.std.proofs.Common.{◌≡◌, ◌<◌, length, get_or, take, is_some, Some, None, sym, refl, ap, ◌∙◌, rules}
use Rattle.std.proofs.lemmas.List.{length-set, take_more, take_all}
use Rattle.metrics.specs.declared.entry.Glyph.{Glyph}
use Rattle.fonts.specs.Font.{width_at, width_in}
use Rattle.fonts.proofs.Entries.{widths_kept, widths_set, no_widths, some_same, code_not_none}
use Rattle.fonts.proofs.font.widths_by_code.Goals as goal
use Rattle.fonts.proofs.font.widths_by_code.Goals.{in-Some+then-is_none, in_default, in_default-via-in-None-1, in_default-via-in-Some+else-is_none}

abbrev blank : Glyph
blank = record { name = record { at = 0; len = 0 }; code = None; width = 0 }

pub loop-glyph-init : goal.loop-glyph-init
loop-glyph-init c = (refl, no_widths 256)

pub loop-glyph-preserved : goal.loop-glyph-preserved
loop-glyph-preserved c =
    let gs = c.args.glyphs.now in
    let i = c.loop-glyph.glyph-index in
    let ws = c.loop-glyph.widths in
    let g = get_or gs i blank in
    let inv = c.loop-glyph.invariant in
    let more = take_more gs i blank c.loop-glyph-test.true in
    elim c.match-glyph.branch [
      | in-Some+then-is_none w ↦ (
        ap length w.widths-is ∙ length-set ws w.in-Some.code (Some g.width) ∙ inv.0,
        λ k. let within : w.in-Some.code < length ws = search rules in
            ap (λ x. width_at x k) w.widths-is
            ∙ widths_set ws (take i gs) g inv.1 w.in-Some.code within w.in-Some.is w.if-is_none.ensures k
            ∙ sym (ap (λ x. width_in x k) more),
      )
      | in_default w ↦ (
        ap length w.widths-is ∙ inv.0,
        λ k. ap (λ x. width_at x k) w.widths-is
            ∙ widths_kept ws (take i gs) g inv.1
            (λ d coded. elim w.in_default.branch [
              | in_default-via-in-None-1 w' ↦ let none : g.code ≡ None = search rules in absurd (code_not_none g.code d none coded)
              | in_default-via-in-Some+else-is_none w' ↦
                  ap (λ x. is_some (width_at ws x)) (some_same d w'.in-Some.code (sym coded ∙ w'.in-Some.is)) ∙ w'.if-is_none.ensures
            ])
            k
            ∙ sym (ap (λ x. width_in x k) more),
      )
    ]

pub returns : goal.returns
returns c k =
    c.loop-glyph.invariant.1 k ∙ ap (λ x. width_in x k) (take_all c.loop-glyph.glyph-index c.args.glyphs.now c.loop-glyph-test.false)

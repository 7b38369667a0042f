use Rattle.std.proofs.Common.{get_or, take, pos, sym, ap, ◌∙◌, subst, w16, SFits, to_z, of_z, rules}
use Rattle.std.proofs.lemmas.List.{take_more}
use Rattle.std.proofs.lemmas.Int.{to_z-of_z}
use Rattle.metrics.specs.declared.entry.KernPair.{KernPair}
use Rattle.fonts.specs.Font.{Searchable, kern_at, kern_in}
use Rattle.fonts.proofs.Entries.{kerns_kept, kerns_put}
use Rattle.fonts.proofs.font.kerns_by_pair.Goals as goal
use Rattle.fonts.proofs.font.kerns_by_pair.Goals.{then-not-contains_key+in_ok-insert, else-not-contains_key}

abbrev blank : KernPair
blank = record { first = 0; second = 0; kern = pos 0 }

pub loop-pair-preserved : goal.loop-pair-preserved
loop-pair-preserved c =
    let ks = c.args.pairs.now in
    let i = c.loop-pair.pair-index in
    let k = get_or ks i blank in
    let inv = c.loop-pair.invariant in
    let more = take_more ks i blank c.loop-pair-test.true in
    let m = c.loop-pair.kerns in
    elim c.if-not-contains_key.branch [
      | then-not-contains_key+in_ok-insert w ↦
          let n = w.insert.new.self in
          let free = sym w.if-not-contains_key.ensures in
          let fits : SFits w16 k.kern = search rules in
          let kern = to_z w16 (of_z w16 k.kern) in (
            subst Searchable (sym w.kerns-is) w.in_ok-insert.ensures.ordered,
            λ p q. ap (λ x. kern_at x p q) w.kerns-is ∙ kerns_put m (take i ks) k inv.1 n kern (to_z-of_z w16 k.kern fits) free w.in_ok-insert.ensures.updates p q ∙ sym (ap (λ x. kern_in x p q) more),
          )
      | else-not-contains_key w ↦
          let there = sym w.if-not-contains_key.ensures in (
            subst Searchable (sym w.kerns-is) inv.0,
            λ p q. ap (λ x. kern_at x p q) w.kerns-is ∙ kerns_kept m (take i ks) k inv.1 there p q ∙ sym (ap (λ x. kern_in x p q) more),
          )
    ]

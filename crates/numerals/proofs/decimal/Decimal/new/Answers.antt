use Rattle.std.proofs.Common.{◌≡◌, ℕ, List, ◌++◌, decimal, drop, replicate, sym, ap, ◌∙◌, subst, append-nil, arith, rules}
use Rattle.std.proofs.lemmas.Fmt.{length-decimal-le}
use Rattle.std.proofs.lemmas.List.{drop_all}
use Rattle.numerals.specs.Writing.{Digits}
use Rattle.numerals.proofs.Figures.{digits_of}
use Rattle.numerals.proofs.decimal.Decimal.new.Goals as goal

pub write_digits-start-requires : goal.write_digits-start-requires
write_digits-start-requires c = search (rules, length-decimal-le 20)

pub returns : goal.returns
returns c =
    let n = c.args.n in
    let w = c.write_digits-start in
    let e : drop w.result w.new.buf ≡ decimal n = w.ensures.written ∙ ap (λ (x : List ℕ). decimal n ++ x) (drop_all 20 (replicate 20 48) (omega arith)) ∙ append-nil (decimal n) in
    record { value = e; digits = subst (Digits n) (sym e) (digits_of n (omega arith)) }

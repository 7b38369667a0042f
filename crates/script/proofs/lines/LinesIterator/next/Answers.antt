use Rattle.std.proofs.Common.{◌≡◌, ℕ, List, [], ◌∷◌, length, sym, ap, ◌∙◌, arith, eqb-true}
use borrow.Author.Tests.{eqb-false}
use Rattle.script.specs.Lines.{lines}
use Rattle.std.proofs.lemmas.List.{nil_from_length}
use Rattle.script.proofs.LineSteps.{line_laws, at_newline, at_last, whole_some, lines_none}
use Rattle.script.proofs.lines.LinesIterator.next.Goals as goal

pub returns-in-Some : goal.returns-in-Some
returns-in-Some c =
    let here : lines c.args.self.now.rest.now ≡ c.in-Some.line.now ∷ lines c.in-Some.rest.now = at_newline _ _ _ c.in-Some.ensures in
    let n = ap length here in
    record {
      steps = here;
      goes = record { on = λ _. (tt, tt, omega arith); keeps = tt; rests = λ _. tt };
      bound = line_laws.bound c.args.self.now.rest.now _ _ here;
      few = line_laws.few c.args.self.now.rest.now;
    }

pub returns-in-None : goal.returns-in-None
returns-in-None c =
    let none : lines c.args.self.now.rest.now ≡ [] = ap lines (nil_from_length _ (eqb-true _ _ (sym c.if-is_empty.ensures))) ∙ lines_none in
    record { steps = (none, none); goes = record { on = λ _. tt; keeps = tt; rests = λ _. tt }; bound = tt; few = line_laws.few c.args.self.now.rest.now }

pub returns-in-None-2 : goal.returns-in-None-2
returns-in-None-2 c =
    let xs = c.args.self.now.rest.now in
    let here : lines xs ≡ xs ∷ lines [] = at_last xs c.in-None-2.ensures ∙ whole_some xs (eqb-false _ _ (sym c.if-is_empty.ensures)) ∙ ap (λ (ls : List (List ℕ)). xs ∷ ls) (sym lines_none) in
    let n = ap length here in
    record {
      steps = here;
      goes = record { on = λ _. (tt, tt, omega arith); keeps = tt; rests = λ _. tt };
      bound = omega arith;
      few = line_laws.few xs;
    }

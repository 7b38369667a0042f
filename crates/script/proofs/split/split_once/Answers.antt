use Rattle.std.proofs.Common.{◌≡◌, ℕ, ◌+◌, Some, None, List, take, drop, ap, ◌∙◌, add-one, rules}
use borrow.Author.Tests.{tests}
use Rattle.std.proofs.lemmas.Iterator.{IsFirst-from_position, YieldsList-from_slice}
use Rattle.std.proofs.lemmas.List.{take_rest}
use Rattle.script.proofs.Splitting.{found, nowhere}
use Rattle.script.proofs.split.split_once.Goals as goal

pub returns-in_err-place : goal.returns-in_err-place
returns-in_err-place c =
    let xs = c.args.bytes.now in
    let mark = c.args.mark in
    let none = IsFirst-from_position _ _ None (λ b. b ≡ mark) (λ b. b ≡ mark → ⊥) c.in_err-place.ensures.ran (YieldsList-from_slice xs (search rules)) (λ x q k. search (rules, tests)) (λ x q k. search (rules, tests)) in
    let h = nowhere mark xs (λ k l. none k 0 (search rules) l) in
    search rules

pub returns : goal.returns
returns c =
    let xs = c.args.bytes.now in
    let mark = c.args.mark in
    let place = c.in_ok-place.place in
    let first = IsFirst-from_position _ _ (Some place) (λ b. b ≡ mark) (λ b. b ≡ mark → ⊥) c.in_ok-place.ensures.ran (YieldsList-from_slice xs (search rules)) (λ x q k. search (rules, tests)) (λ x q k. search (rules, tests)) in
    ap (λ (l : List ℕ). Some (record { before = take place xs; behind = l })) (take_rest xs (place + 1) ∙ ap (λ n. drop n xs) (add-one place))
    ∙ found mark xs place first.0 (first.1 0) (λ k l. first.2 k 0 (search rules) l)

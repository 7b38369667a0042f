use Rattle.std.proofs.Common.{◌≡◌, Some, None, refl, rules}
use Rattle.std.proofs.lemmas.Result.{err_from_is_err_and}
use Rattle.sheet.proofs.Continuing.{settled_call, unsettled_call}
use Rattle.sheet.proofs.sheet.Sheet.settle.Goals as goal

pub returns : goal.returns
returns g c =
    let is : c.args.self.now.owed ≡ Some c.in_ok-owed.owed = search rules in
    record {
      follows = λ k h f. settled_call k h _ _ f c.in_ok-owed.owed is (record { meaning = refl; rules = refl; sound = λ x. x; measure = refl; text = refl; rows = refl; owed = c.take.ensures.after });
      counted = refl;
      kept = tt;
    }

pub returns-in_err-owed : goal.returns-in_err-owed
returns-in_err-owed g c =
    let is : c.args.self.now.owed ≡ None = search rules in
    let p = err_from_is_err_and c.from_residual.result c.from_residual.ensures.1 in
    record {
      follows = λ k h f. rw p.1 (unsettled_call k h _ _ f is (record { meaning = refl; rules = refl; sound = λ x. x; measure = refl; text = refl; rows = refl; owed = c.take.ensures.after }));
      counted = refl;
      kept = rw p.1 refl;
    }

use Rattle.std.proofs.Common.{[], sym}
use Rattle.std.proofs.lemmas.Result.{err_from_is_err_and}
use Rattle.layout.specs.Styles.{style}
use Rattle.runner.proofs.replay.replay.Goals as goal

pub returns-in_err-run : goal.returns-in_err-run
returns-in_err-run g c =
    let p = err_from_is_err_and c.from_residual-in_err-run.result c.from_residual-in_err-run.ensures.1 in
    record {
      lender = c.run.ensures.lender;
      room = c.run.ensures.room;
      ran = λ sound.
          let ran = c.in_err-run.ensures.ran (style g.M.Measurer.meaning g.P.Policy.rules c.args.setter) [] (c.in_ok-sheet.ensures.follows sound) in
          rw (p.1, p.2) (ran.1, sym ran.2);
    }

pub returns : goal.returns
returns g c =
    record {
      lender = c.run.ensures.lender;
      room = c.run.ensures.room;
      ran = λ sound.
          let ran = c.in_ok-run.ensures.ran (style g.M.Measurer.meaning g.P.Policy.rules c.args.setter) [] (c.in_ok-sheet.ensures.follows sound) in
          (ran.1, sym ran.2);
    }

use Rattle.std.proofs.Common.{[], map, vec_items, sym, ap, ◌∙◌, arith}
use Rattle.std.proofs.lemmas.List.{length-map}
use Rattle.std.specs.Option.{option_map}
use Rattle.page.specs.declared.ending.Ending.TheVariants.{End}
use Rattle.reflow.specs.Screens.{Shown}
use Rattle.sheet.specs.Histories.{clean_after, clean_screen}
use Rattle.sheet.proofs.Unchanging.{unchanged_then, still_follows}
use Rattle.screen.specs.Views.{shown_row}
use Rattle.screen.proofs.Gathered.{row_more, rows_end, rows_all}
use Rattle.screen.proofs.painting.paint_rows.Goals as goal
use Rattle.screen.proofs.painting.paint_rows.Goals.{else-rows-test, then-rows-test+in_ok-row+in_default}

pub rows-preserved : goal.rows-preserved
rows-preserved g c =
    let inv = c.rows.invariant in
    let told = c.in_ok-row.ensures in (
      unchanged_then inv.0 told.same,
      (λ k h f.
          ap (map shown_row) c.in_ok-push.ensures.items
          ∙ row_more (clean_screen k (clean_after k h)) c.args.from c.rows.number (vec_items c.rows.painted) c.in-Some.row (omega arith) (inv.1 k h f) (ap (option_map shown_row) (sym c.in-Some.is) ∙ told.value k h (still_follows inv.0 k h f))),
    )

pub returns : goal.returns
returns g c =
    let inv = c.rows.invariant in
    elim c.rows-test.branch [
      | else-rows-test w ↦
          record {
            same = rw w.sheet-is inv.0;
            value = λ k h f. inv.1 k h f ∙ rows_all (clean_screen k (clean_after k h)) c.args.from c.rows.number c.args.put (omega arith) (rw length-map f.few_rows) (let up = c.rows.auto.number-end (omega arith) in omega arith);
          }
      | then-rows-test+in_ok-row+in_default w ↦
          let told = w.in_ok-row.ensures in
          record {
            same = rw w.sheet-is (unchanged_then inv.0 told.same);
            value = λ k h f. inv.1 k h f ∙ rows_end (clean_screen k (clean_after k h)) c.args.from c.rows.number c.args.put empty (omega arith) (ap (option_map shown_row) (sym w.in_default.is) ∙ told.value k h (still_follows inv.0 k h f));
          }
    ]
  where
    empty : Shown
    empty = record { chars = []; edges = []; ending = End }

-- What was painted stands in place of what the record removes, and that is how a screen follows it.
use Rattle.std.proofs.Common.{◌≡◌, ℕ, ◌+◌, ◌-◌, ◌^◌, ◌<◌, min, List, ◌∷◌, ◌++◌, map, length, take, drop, vec_items, sym, ap, ◌∙◌, ap₂, arith}
use Rattle.std.proofs.IntoIterSteps.{All-taken}
use Rattle.std.proofs.lemmas.List.{length-map}
use Rattle.reflow.specs.Screens.{Shown, followed}
use Rattle.sheet.specs.Clean.{Making}
use Rattle.sheet.specs.Histories.{Follows, History, clean_after, clean_screen}
use Rattle.sheet.specs.States.{state}
use Rattle.screen.specs.Views.{shown_row}
use Rattle.screen.proofs.Followed.{put_in, followed_whole, followed_part, goes_on, shows_clean}
use Rattle.screen.proofs.screen.Screen.follow.Goals as goal
use Rattle.screen.proofs.screen.Screen.follow.Goals.{then-record, else-record}

-- the three numbers of a record, and what they come to
abbrev placed : List Shown → List Shown → ℕ × ℕ × ℕ → List Shown
placed sheet screen x = take x.0 screen ++ (take x.2 (drop x.0 sheet) ++ drop (x.0 + x.1) screen)

pub returns : goal.returns
returns g c =
    let old = vec_items c.args.self.now.rows in
    let new = vec_items c.in_ok-painted.painted in
    let put = c.in_ok-_gone.ensures.items in
    let x = c.if-record.from in
    let long : c.len-shown.result ≡ length old = c.len-shown.ensures ∙ c.args.self.now.rows.ok.0 in
    let few : length old < 2 ^ 64 = omega arith in
    let start : c.min-start.result ≡ min x.0 (length old) = c.min-start.ensures ∙ ap (min x.0) long in
    let stop : c.min-end.result ≡ min (min (x.0 + x.1) (2 ^ 64 - 1)) (length old) = c.min-end.ensures ∙ ap₂ min c.saturating_add.ensures long in
    let taken : put.1 ≡ new = All-taken put.0 put.1 put.3 ∙ put.2.0 in
    let now : vec_items c.splice.new.self ≡ take (min x.0 (length old)) old ++ (new ++ drop (min (min (x.0 + x.1) (2 ^ 64 - 1)) (length old)) old) = put.4 ∙ (λ j. take (start j) old ++ (taken j ++ drop (stop j) old)) in
    let painted : (k : Making) (h : History) → Follows k h (state g.M.Measurer.meaning g.M.Measurer.sound g.P.Policy.rules c.args.sheet.now) → map shown_row (vec_items c.splice.new.self) ≡ followed c.args.record.now (clean_screen k (clean_after k h)) (map shown_row old) = λ k h f.
    let sheet = clean_screen k (clean_after k h) in
    let screen = map shown_row old in
    let so : map shown_row (vec_items c.splice.new.self) ≡ placed sheet screen x = ap (map shown_row) now ∙ put_in old new few sheet x.0 x.1 x.2 (c.in_ok-painted.ensures.value k h f) in
    elim c.if-record.branch [
      | then-record w ↦
          let rows : w.row_count.result ≡ length sheet = w.row_count.ensures.value ∙ ap length f.rows ∙ sym (length-map _ _) in
          so ∙ ap (placed sheet screen) w.from-is ∙ followed_whole c.args.record.now sheet screen w.row_count.result c.len-shown.result w.if-record.true rows (long ∙ sym (length-map old shown_row))
      | else-record w ↦ so ∙ ap (placed sheet screen) w.from-is ∙ followed_part c.args.record.now sheet screen w.if-record.false
    ] in
    record {
      painted = painted;
      shows = λ k h e told f was.
          let on = painted k (e ∷ h) f ∙ ap (followed c.args.record.now (clean_screen k (clean_after k (e ∷ h)))) was ∙ goes_on k h e c.args.record.now told _ f in
          (on, on ∙ shows_clean k h e c.args.record.now told _ f);
      kept = tt;
      same = c.paint_rows.ensures.same;
    }

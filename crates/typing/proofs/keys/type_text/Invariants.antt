use Rattle.std.proofs.Common.{◌≡◌, take, Ok}
use Rattle.screen.specs.Views.{view}
use Rattle.sheet.specs.Clean.{Making}
use Rattle.sheet.specs.Histories.{Follows, History, screen_after}
use Rattle.sheet.specs.States.{state}
use Rattle.typing.specs.Typing.{Keys}
use Rattle.typing.proofs.keys.type_text.Given as goal

-- The characters before this place are typed.
abbrev pub invariant-keys : goal.invariant-keys
invariant-keys g l =
    (k : Making) (h : History)
    → Follows k h (state g.M.Measurer.meaning g.M.Measurer.sound g.P.Policy.rules l.initial.sheet)
    → view l.initial.screen ≡ screen_after k h
    → Keys k h (take l.place-counter l.text) (Ok l.effort) (state g.M.Measurer.meaning g.M.Measurer.sound g.P.Policy.rules l.sheet) (view l.screen)

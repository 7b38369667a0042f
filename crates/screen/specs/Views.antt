-- What a screen shows.
use Rattle.std.specs.Prelude.{List, map, vec_items}
use Rattle.reflow.specs.Screens.{Shown}
use Rattle.screen.specs.declared.screen.Screen.{Screen}
use Rattle.screen.specs.declared.shown_row.ShownRow.{ShownRow}

abbrev pub shown_row : ShownRow → Shown
shown_row r = record { chars = vec_items r.chars; edges = vec_items r.edges; ending = r.ending }

-- its rows, from the top
abbrev pub view : Screen → List Shown
view s = map shown_row (vec_items s.rows)

-- The entries of a list.
use Rattle.std.specs.Prelude.{ℕ, cond, List, [], ◌∷◌, map, length}
use Rattle.page.specs.Endings.{letter_of}
use Rattle.listing.specs.Entries.{entry_bytes}
use Rattle.listing.specs.declared.word.Word.{Word}
use Rattle.listing.specs.declared.word.Word.TheVariants.{Number, Letter}
use Rattle.sheet.specs.Clean.{Making, Answer, Step, clean_rows}
use Rattle.sheet.specs.Clean.Answer.{accepted, refused, settled, shown}

-- the words for what line n answers, where there are so many rows then; no line answers mere acceptance,
-- since changes are settled
abbrev pub words : ℕ → ℕ → Answer → List Word
words n rows (settled p) = Number n ∷ Number (cond p.whole 1 0) ∷ Number p.from ∷ Number p.removed ∷ Number p.put ∷ Number p.broken ∷ Number rows ∷ []
words n rows (shown r buffer) = Number n ∷ Letter 61 ∷ Number r.start ∷ Number r.end ∷ Letter (letter_of r.ending) ∷ Number r.width ∷ Number r.reach ∷ []
words n rows (refused told) = Number n ∷ Letter 33 ∷ map Number told
words n rows accepted = Number n ∷ []

-- the entry of line n
abbrev pub entry : Making → ℕ → Step → List ℕ
entry k n s = entry_bytes (words n (length (clean_rows k s.next)) s.answer)

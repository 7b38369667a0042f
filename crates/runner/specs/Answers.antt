-- What the code answers, in the words of a list, and where its calls lead.
use Rattle.std.specs.Prelude.{◌≡◌, ℕ, cond, List, [], ◌∷◌, ◌++◌, map, length, Some, None, Ok, Err, Option, Result}
use Rattle.page.specs.Endings.{letter_of}
use Rattle.listing.specs.declared.word.Word.{Word}
use Rattle.listing.specs.declared.word.Word.TheVariants.{Number, Letter}
use Rattle.script.specs.Faults.{command_told}
use Rattle.script.specs.declared.fault.CommandFault.{CommandFault}
use Rattle.script.specs.declared.fault.ScriptFault.{ScriptFault}
use Rattle.sheet.specs.Clean.{Making, Clean, Step, clean_rows}
use Rattle.sheet.specs.Histories.{History, State, Follows, clean_after}
use Rattle.runner.specs.Entries.{words}
use Rattle.runner.specs.Runs.{Run}
use Rattle.runner.specs.declared.fault.ListFull.{ListFull}
use Rattle.runner.specs.declared.reply.Reply.{Reply}
use Rattle.runner.specs.declared.reply.Reply.TheVariants.{Painted, Shown}

-- the words for a reply to line n
abbrev pub reply_words : ℕ → Reply → List Word
reply_words n (Painted p rows) = Number n ∷ Number (cond p.whole 1 0) ∷ Number p.from ∷ Number p.removed ∷ Number p.put ∷ Number p.broken ∷ Number rows ∷ []
reply_words n (Shown r) = Number n ∷ Letter 61 ∷ Number r.start ∷ Number r.end ∷ Letter (letter_of r.ending) ∷ Number r.width ∷ Number r.reach ∷ []

-- and for its refusal
abbrev pub fault_words : ℕ → CommandFault → List Word
fault_words n e = Number n ∷ Letter 33 ∷ map Number (command_told e)

abbrev pub answer_words : ℕ → Result Reply CommandFault → List Word
answer_words n (Ok r) = reply_words n r
answer_words n (Err e) = fault_words n e

abbrev pub outcome_words : ℕ → Result Reply ScriptFault → List Word
outcome_words n (Ok r) = reply_words n r
outcome_words n (Err e) = fault_words e.line e.fault

-- further calls have led the sheet to where the clean sheet is c
abbrev pub Reaches : Making → History → State → Clean → Type 0
Reaches k h s c = (later : History) × Follows k (later ++ h) s × (clean_after k (later ++ h) ≡ c)

-- line n is answered in the words of the step, and leads there
abbrev pub Took : Making → History → State → Step → ℕ → List Word → Type 0
Took k h s step n ws = Reaches k h s step.next × (ws ≡ words n (length (clean_rows k step.next)) step.answer)

-- where the list ran out of room
abbrev pub out_of : Result (Unit {0}) ListFull → Option ℕ
out_of (Ok _) = None
out_of (Err e) = Some e.line

-- the list, where it ran out of room, and the sheet are those of the run
abbrev pub Ran : Making → History → State → Run → Result (Unit {0}) ListFull → List ℕ → Type 0
Ran k h s run r list = Reaches k h s run.left × (list ≡ run.list) × (out_of r ≡ run.out)

use Rattle.std.proofs.Common.{sym, rules}
use Rattle.std.proofs.lemmas.List.{take_rest}
use Rattle.script.proofs.Spelling.{escape_at, itself_at, lone_at, stray_at}
use Rattle.script.proofs.command.first_character.Goals as goal

pub returns-in_err-escape-in-len2-up : goal.returns-in_err-escape-in-len2-up
returns-in_err-escape-in-len2-up c =
    rw c.from_residual.ensures (stray_at c.args.written.now (search rules) c.if-c-ne-BACKSLASH.false (sym c.in_err-escape-in-len2-up.ensures))

pub returns-in-len1-up : goal.returns-in-len1-up
returns-in-len1-up c = simp take_rest (itself_at c.args.written.now c.requires c.if-c-ne-BACKSLASH.true)

pub returns-in_ok-escape-in-len2-up : goal.returns-in_ok-escape-in-len2-up
returns-in_ok-escape-in-len2-up c =
    simp take_rest (escape_at c.args.written.now _ (search rules) c.if-c-ne-BACKSLASH.false (sym c.in_ok-escape-in-len2-up.ensures))

pub returns-in-len1 : goal.returns-in-len1
returns-in-len1 c = lone_at c.args.written.now c.requires (search rules) c.if-c-ne-BACKSLASH.false

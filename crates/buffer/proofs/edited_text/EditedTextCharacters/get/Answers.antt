use Rattle.std.proofs.Common.{sym, ◌∙◌, arith}
use Rattle.buffer.specs.Held.{held}
use Rattle.buffer.proofs.Insertions.{seen_before, seen_inside}
use Rattle.buffer.proofs.edited_text.EditedTextCharacters.get.Goals as goal

pub returns-then-at-self : goal.returns-then-at-self
returns-then-at-self c =
    let e = c.args.self.now in
    c.get.ensures ∙ sym (seen_before (held e.text.now) e.at e.del e.ins.now e.within c.args.at c.if-at-self.true)

pub returns-then-at-self-2 : goal.returns-then-at-self-2
returns-then-at-self-2 c =
    let e = c.args.self.now in
    sym (seen_inside (held e.text.now) e.at e.del e.ins.now e.within c.args.at 0 (omega arith) (omega arith))

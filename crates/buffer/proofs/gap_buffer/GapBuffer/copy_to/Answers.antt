use Rattle.std.proofs.Common.{◌≡◌, ◌+◌, ◌-◌, ◌++◌, length, drop, ap, ap₂, ◌∙◌, arith}
use Rattle.std.specs.List.{between}
use Rattle.std.proofs.lemmas.List.Edits.{length-between}
use Rattle.buffer.proofs.Gaps.{length-around, parted, joined}
use Rattle.buffer.proofs.gap_buffer.GapBuffer.copy_to.Goals as goal

pub returns : goal.returns
returns c =
    let g = c.args.self.now in
    let xs = g.bytes.items in
    let start = c.args.start in
    let end = c.args.end in
    let out = c.args.out.now in
    let middle = c.clamp-middle.result in
    let gap = g.gap_end - g.gap_start in
    let text = length-around xs g.gap_start g.gap_end g.gapped.forward (omega arith) in
    let n = length-between xs start middle (omega arith) in
    let front : c.copy_from_slice.new.self ≡ between start middle xs = c.copy_from_slice.ensures.after ∙ ap (between start middle) c.deref.ensures.value in
    let back : c.copy_from_slice-2.new.self ≡ between (middle + gap) (end + gap) xs = c.copy_from_slice-2.ensures.after ∙ ap (between (middle + gap) (end + gap)) c.deref-2.ensures.value in
    joined c.copy_from_slice.new.self c.copy_from_slice-2.new.self out (middle - start) (end - start) (ap length front ∙ n) (omega arith)
    ∙ ap (λ l. l ++ drop (end - start) out) (
    ap₂ ◌++◌ front back ∙ parted xs g.gap_start g.gap_end start middle end g.gapped.forward (omega arith) c.requires.forward (omega arith) c.clamp-middle.ensures)

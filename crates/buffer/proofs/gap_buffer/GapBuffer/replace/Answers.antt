use Rattle.std.proofs.Common.{◌≡◌, ◌+◌, ◌-◌, length, ap, ◌∙◌, arith, length-append, length-take, length-drop}
use borrow.Rule.Slice.PartMut.{put_mid}
use Rattle.std.proofs.lemmas.List.{with_items_is}
use Rattle.page.specs.Texts.{edited}
use Rattle.buffer.specs.Gaps.{around}
use Rattle.buffer.proofs.Gaps.{length-around, written}
use Rattle.buffer.proofs.gap_buffer.GapBuffer.replace.Goals as goal

pub returns : goal.returns
returns c =
    let at = c.args.at in
    let del = c.args.del in
    let ins = c.args.ins.now in
    let g = c.args.self.now in
    let bytes = c.move_gap-end.new.bytes in
    let end = c.move_gap-end.result in
    let k = at + length ins - at in
    let put = put_mid at k c.deref_mut.result.now c.copy_from_slice.new.self in
    let is : put ≡ put_mid at k bytes.items ins =
    ap (λ l. put_mid at k l c.copy_from_slice.new.self) c.deref_mut.ensures.value ∙ ap (put_mid at k bytes.items) c.copy_from_slice.ensures.after
    in
    let text = length-around g.bytes.items g.gap_start g.gap_end g.gapped.forward (omega arith) in
    let long : length put ≡ bytes.len = simp (length-append, length-take, length-drop) (omega arith) in
    ap (λ l. around l (at + length ins) (end + del)) (with_items_is bytes put long ∙ is)
    ∙ written bytes.items ins at end del k (omega arith) (omega arith) (omega arith) (omega arith) (omega arith)
    ∙ ap (λ t. edited t at del ins) c.move_gap-end.ensures.same

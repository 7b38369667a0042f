-- The text in a gap buffer.
use Rattle.std.specs.Prelude.{ℕ, List}
use Rattle.buffer.specs.Gaps.{around}
use Rattle.buffer.specs.declared.gap_buffer.GapBuffer.{GapBuffer}

abbrev pub held : GapBuffer → List ℕ
held g = around g.bytes.items g.gap_start g.gap_end

-- What a list writer has written, and how much room its buffer has.
use Rattle.std.specs.Prelude.{ℕ, List, length}
use Rattle.listing.specs.Places.{front}
use Rattle.listing.specs.declared.writer.ListWriter.{ListWriter}

-- the front of the buffer, up to the place
abbrev pub written : ListWriter → List ℕ
written w = front w.place w.buffer.now

abbrev pub room : ListWriter → ℕ
room w = length w.buffer.now

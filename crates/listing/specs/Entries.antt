-- The bytes of a list's entries.
use Rattle.std.specs.Prelude.{ℕ, ◌+◌, cond, List, [], ◌∷◌, ◌++◌, length, Ok, Err, decimal, Result, nat_le}
use Rattle.std.proofs.Math.Utf8.{encode}
use Rattle.listing.specs.declared.room.NoRoom.{NoRoom}
use Rattle.listing.specs.declared.word.Word.{Word}
use Rattle.listing.specs.declared.word.Word.TheVariants.{Number, Letter}

-- a number in decimal digits, a letter in UTF-8: its one byte where it is ASCII
abbrev pub word_bytes : Word → List ℕ
word_bytes (Number n) = decimal n
word_bytes (Letter c) = encode c

-- words with single spaces between them
abbrev pub spaced : List Word → List ℕ
spaced [] = []
spaced (w ∷ []) = word_bytes w
spaced (w ∷ v ∷ ws) = word_bytes w ++ (32 ∷ spaced (v ∷ ws))

-- the words of a line and its end
abbrev pub entry_bytes : List Word → List ℕ
entry_bytes ws = spaced ws ++ (10 ∷ [])

-- the bytes that stand after an addition, and whether it was refused
pub record Outcome : Type 0 where
  pub bytes : List ℕ
  pub answer : Result (Unit {0}) NoRoom

abbrev pub outcome : List ℕ → Result (Unit {0}) NoRoom → Outcome
outcome bytes answer = record { bytes = bytes; answer = answer }

-- more bytes behind those that stand, if there is room for all of them
abbrev pub added : ℕ → List ℕ → List ℕ → Outcome
added room before more = cond (nat_le (length before + length more) room) (outcome (before ++ more) (Ok tt)) (outcome before (Err (record {})))

-- an entry more
abbrev pub entered : ℕ → List ℕ → List Word → Outcome
entered room before words = added room before (entry_bytes words)

-- Parts of a file: a text, and the place where it begins.
use Rattle.std.specs.Prelude.{ℕ, zero, suc, ◌+◌, Bool, true, ◌&&◌, List, [], ◌∷◌, length, take, drop, ◌==◌, slice_index}
use Rattle.std.specs.List.{prefix_len}
use Rattle.afm.specs.Kinds.{is_blank, is_dark}
use Rattle.afm.specs.declared.part.Word.{Word}
use Rattle.afm.specs.declared.part.Line.{Line}

pub record Part : Type 0 where
  pub text : List ℕ
  pub at : ℕ

abbrev pub word : Word → Part
word w = record { text = w.text.now; at = w.at }

abbrev pub line : Line → Part
line l = record { text = l.rest.now; at = l.at }

abbrev pub front : ℕ → Part → Part
front n p = record { text = take n p.text; at = p.at }

abbrev pub past : ℕ → Part → Part
past n p = record { text = drop n p.text; at = p.at + n }

-- as many bytes as stand in front and are of one kind
abbrev pub front_of : (ℕ → Bool) → Part → Part
front_of kind p = front (prefix_len kind p.text) p

abbrev pub past_of : (ℕ → Bool) → Part → Part
past_of kind p = past (prefix_len kind p.text) p

-- the first word of a line, which is empty if there is none, and what follows it
unfoldable pub first_word : Part → Part
first_word p = front_of is_dark (past_of is_blank p)

unfoldable pub past_word : Part → Part
past_word p = past_of is_dark (past_of is_blank p)

-- what follows the first n words
abbrev pub past_words : ℕ → Part → Part
past_words zero p = p
past_words (suc n) p = past_word (past_words n p)

-- word n of a line, counted from 0
abbrev pub nth_word : ℕ → Part → Part
nth_word n p = first_word (past_words n p)

-- the bytes of a keyword stand in a text from place i on
abbrev pub stands_at : ℕ → List ℕ → List ℕ → Bool
stands_at i text [] = true
stands_at i text (b ∷ keyword) = slice_index text i == b && stands_at (suc i) text keyword

-- byte for byte
unfoldable pub is : List ℕ → List ℕ → Bool
is text keyword = length text == length keyword && stands_at 0 text keyword

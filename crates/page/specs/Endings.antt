-- The letters of a row's endings: W, C, N and E.
use Rattle.std.specs.Prelude.{ℕ}
use Rattle.page.specs.declared.ending.Ending.{Ending}
use Rattle.page.specs.declared.ending.Ending.TheVariants.{Wrapped, Cut, Newline, End}

abbrev pub letter_of : Ending → ℕ
letter_of Wrapped = 87
letter_of Cut = 67
letter_of Newline = 78
letter_of End = 69

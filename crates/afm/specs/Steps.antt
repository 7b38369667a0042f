-- What one line does: to the entries, to the count, to the section.
use Rattle.std.specs.Prelude.{ℕ, ◌+◌, Bool, false, cond, ◌||◌, List, ℤ, is_some, Some, None, Ok, Err, Option, Result, ◌==◌}
use Rattle.lists.specs.Holding.{Holding, holding, entries, has_room, pushed}
use Rattle.lists.specs.declared.bounded.BoundedList.{BoundedList}
use Rattle.metrics.specs.declared.entry.Glyph.{Glyph}
use Rattle.metrics.specs.declared.entry.KernPair.{KernPair}
use Rattle.afm.specs.Entries.{Pair, glyph_of, pair_of}
use Rattle.afm.specs.Fields.{count_of}
use Rattle.afm.specs.Lines.{rest_of}
use Rattle.afm.specs.Lookups.{text_at, named, coded, paired}
use Rattle.afm.specs.Parts.{Part, first_word, past_word}
use Rattle.afm.specs.Sections.{role}
use Rattle.afm.specs.declared.fault.LineFault.{LineFault}
use Rattle.afm.specs.declared.fault.LineFault.TheVariants.{Misplaced as misplaced, Field, Again, UnknownName, NoSlot, Count}
use Rattle.afm.specs.declared.reader.Reader.{Reader}
use Rattle.afm.specs.declared.section.Role.{Role}
use Rattle.afm.specs.declared.section.Role.TheVariants.{Enters, Opens, Glyph as glyph, Pair as pair, Closes, Skipped, Misplaced}
use Rattle.afm.specs.declared.section.Section.{Section}

-- a step that is refused leaves all as it was
abbrev pub after : {X E : Type 0} → X → Result X E → X
after x (Ok y) = y
after x (Err e) = x

abbrev pub answer : {X E : Type 0} → Result X E → Result (Unit {0}) E
answer (Ok y) = Ok tt
answer (Err e) = Err e

-- a new entry, if there is one, and a slot is left for it
abbrev pub kept : {X : Type 0} → Holding X → Option X → Result (Holding X) LineFault
kept r None = Ok r
kept r (Some entry) = cond (has_room r) (Ok (pushed r entry)) (Err (NoSlot (record {})))

-- ---- glyphs
abbrev pub code_given : Option ℕ → List Glyph → Bool
code_given None glyphs = false
code_given (Some code) glyphs = coded code glyphs

-- whether a glyph has this one's name or its code
abbrev pub glyph_given : List ℕ → Glyph → List Glyph → Bool
glyph_given file g glyphs = is_some (named file (text_at file g.name) glyphs) || code_given g.code glyphs

abbrev pub fresh_glyph : List ℕ → List Glyph → Option Glyph → Result Glyph LineFault
fresh_glyph file glyphs None = Err Field
fresh_glyph file glyphs (Some g) = cond (glyph_given file g glyphs) (Err Again) (Ok g)

-- the glyph of a line, after the line's first word
unfoldable pub new_glyph : List ℕ → List Glyph → Part → Result Glyph LineFault
new_glyph file glyphs line = fresh_glyph file glyphs (glyph_of line)

abbrev pub glyph_kept : Holding Glyph → Result Glyph LineFault → Result (Holding Glyph) LineFault
glyph_kept r (Ok g) = kept r (Some g)
glyph_kept r (Err e) = Err e

abbrev pub take_glyph : List ℕ → Holding Glyph → Part → Result (Holding Glyph) LineFault
take_glyph file r line = glyph_kept r (new_glyph file (entries r) line)

-- ---- pairs
-- a pair is kept only if both its glyphs have a code
abbrev pub fresh_codes : List KernPair → Option ℕ → Option ℕ → ℤ → Result (Option KernPair) LineFault
fresh_codes kerns None b kern = Ok None
fresh_codes kerns (Some a) None kern = Ok None
fresh_codes kerns (Some a) (Some b) kern = cond (paired a b kerns) (Err Again) (Ok (Some (record { first = a; second = b; kern = kern })))

abbrev pub fresh_names : List KernPair → Option Glyph → Option Glyph → ℤ → Result (Option KernPair) LineFault
fresh_names kerns None b kern = Err UnknownName
fresh_names kerns (Some a) None kern = Err UnknownName
fresh_names kerns (Some a) (Some b) kern = fresh_codes kerns a.code b.code kern

abbrev pub fresh_pair : List ℕ → List Glyph → List KernPair → Option Pair → Result (Option KernPair) LineFault
fresh_pair file glyphs kerns None = Err Field
fresh_pair file glyphs kerns (Some p) = fresh_names kerns (named file p.first.text glyphs) (named file p.second.text glyphs) p.kern

-- the pair of a line, after the line's first word
unfoldable pub new_pair : List ℕ → List Glyph → List KernPair → Part → Result (Option KernPair) LineFault
new_pair file glyphs kerns line = fresh_pair file glyphs kerns (pair_of line)

abbrev pub pair_kept : Holding KernPair → Result (Option KernPair) LineFault → Result (Holding KernPair) LineFault
pair_kept r (Ok new) = kept r new
pair_kept r (Err e) = Err e

abbrev pub take_pair : List ℕ → List Glyph → Holding KernPair → Part → Result (Holding KernPair) LineFault
take_pair file glyphs r line = pair_kept r (new_pair file glyphs (entries r) line)

-- ---- sections
-- the section, the entry lines it announced and those seen in it
pub record Standing : Type 0 where
  pub section : Section
  pub announced : ℕ
  pub seen : ℕ

-- where the reader is in its file
pub record Place : Type 0 where
  pub file : List ℕ
  pub at : ℕ
  pub line : ℕ

abbrev pub place : Reader → Place
place r = record { file = r.file.now; at = r.at; line = r.line }

abbrev pub standing : Reader → Standing
standing r = record { section = r.section; announced = r.announced; seen = r.seen }

-- what is left of the file
abbrev pub rest : Reader → Part
rest r = rest_of r.file.now r.at

abbrev pub enter : Section → Standing → Standing
enter section s = record { section = section; announced = s.announced; seen = s.seen }

abbrev pub see : Standing → Standing
see s = record { section = s.section; announced = s.announced; seen = s.seen + 1 }

-- an entry line counts if it is not refused
abbrev pub see_after : {X E : Type 0} → Standing → Result X E → Standing
see_after s (Ok x) = see s
see_after s (Err e) = s

abbrev pub announce : Section → Option ℕ → Result Standing LineFault
announce section None = Err Field
announce section (Some n) = Ok (record { section = section; announced = n; seen = 0 })

-- the count stands after the first word
unfoldable pub open_section : Section → Part → Result Standing LineFault
open_section section line = announce section (count_of (first_word line).text)

abbrev pub close_section : Section → Standing → Result Standing LineFault
close_section section s = cond (s.seen == s.announced) (Ok (enter section s)) (Err Count)

-- ---- lines
-- what is read so far
pub record Progress : Type 0 where
  pub at : Standing
  pub glyphs : Holding Glyph
  pub kerns : Holding KernPair

abbrev pub progress : Reader → BoundedList Glyph → BoundedList KernPair → Progress
progress r glyphs kerns = record { at = standing r; glyphs = holding glyphs; kerns = holding kerns }

abbrev pub with_standing : Progress → Result Standing LineFault → Result Progress LineFault
with_standing p (Ok s) = Ok (record { at = s; glyphs = p.glyphs; kerns = p.kerns })
with_standing p (Err e) = Err e

abbrev pub with_glyphs : Progress → Result (Holding Glyph) LineFault → Result Progress LineFault
with_glyphs p (Ok r) = Ok (record { at = see p.at; glyphs = r; kerns = p.kerns })
with_glyphs p (Err e) = Err e

abbrev pub with_kerns : Progress → Result (Holding KernPair) LineFault → Result Progress LineFault
with_kerns p (Ok r) = Ok (record { at = see p.at; glyphs = p.glyphs; kerns = r })
with_kerns p (Err e) = Err e

-- what a line of this role does; `line` is what follows its first word
abbrev pub act : Role → List ℕ → Progress → Part → Result Progress LineFault
act (Enters section) file p line = with_standing p (Ok (enter section p.at))
act (Opens section) file p line = with_standing p (open_section section line)
act glyph file p line = with_glyphs p (take_glyph file p.glyphs line)
act pair file p line = with_kerns p (take_pair file (entries p.glyphs) p.kerns line)
act (Closes section) file p line = with_standing p (close_section section p.at)
act Skipped file p line = Ok p
act Misplaced file p line = Err misplaced

unfoldable pub line_step : List ℕ → Progress → Part → Result Progress LineFault
line_step file p line = act (role p.at.section (first_word line).text) file p (past_word line)

-- One turn of the loop over lines, by what its calls ensure.
use Rattle.std.proofs.Common.{◌≡◌, ℕ, ◌+◌, ◌<◌, false, List, length, Ok, Err, Result, MatchResult, sym, ap, ◌∙◌, arith}
use Rattle.std.proofs.lemmas.Result.{err_from_is_err_and}
use Rattle.std.specs.Result.{IsErrAnd}
use Rattle.lists.specs.Holding.{holding}
use Rattle.lists.specs.declared.bounded.BoundedList.{BoundedList}
use Rattle.metrics.specs.declared.entry.Glyph.{Glyph}
use Rattle.metrics.specs.declared.entry.KernPair.{KernPair}
use Rattle.afm.proofs.Runs.{length-past-line, read_on, read_refused}
use Rattle.afm.specs.Lines.{rest_of, first_line, past_line, lines}
use Rattle.afm.specs.Parts.{Part}
use Rattle.afm.specs.Reading.{outcome, is_ended, read_lines}
use Rattle.afm.specs.Steps.{Place, Standing, after, answer, line_step, place, standing, rest, progress}
use Rattle.afm.specs.declared.fault.AfmFault.{AfmFault}
use Rattle.afm.specs.declared.fault.AfmFault.TheVariants.{At}
use Rattle.afm.specs.declared.fault.LineFault.{LineFault}
use Rattle.afm.specs.declared.reader.Reader.{Reader}

-- what is answered where a line's answer is a refusal or none
abbrev pub told_at : ℕ → Result (Unit {0}) LineFault → Result (Unit {0}) AfmFault
told_at n (Ok u) = Ok u
told_at n (Err f) = Err (At n f)

-- what `map_err` makes of it
pub told_by : {Q : LineFault → AfmFault → Type 0} (n : ℕ) (a : Result (Unit {0}) LineFault) (b : Result (Unit {0}) AfmFault) → ((f : LineFault) (e : AfmFault) → Q f e → e ≡ At n f)
    → MatchResult a (λ x. b ≡ Ok x) (λ f. IsErrAnd b (Q f)) → b ≡ told_at n a
told_by n (Ok u) b makes h = h
told_by n (Err f) b makes h = let p = err_from_is_err_and b h in p.1 ∙ ap Err (makes f p.0 p.2)

-- r is the reader before a line, s after the line was cut off, t after it was taken
pub record Turn (file : List ℕ) (r s t : Reader) (g h : BoundedList Glyph) (k m : BoundedList KernPair) (l : Part) : Type 0 where
  pub same : r.file.now ≡ file
  pub on : is_ended r.section ≡ false
  pub some : 0 < length (rest r).text
  pub cut : l ≡ first_line (rest r)
  pub left : rest s ≡ past_line (rest r)
  pub count : s.line ≡ r.line + 1
  pub kept : s.file.now ≡ r.file.now
  pub stays : standing s ≡ standing r
  pub there : place t ≡ place s
  pub moved : progress t h m ≡ after (progress s g k) (line_step s.file.now (progress s g k) l)

module _ {file : List ℕ} {r s t : Reader} {g h : BoundedList Glyph} {k m : BoundedList KernPair} {l : Part} (x : Turn file r s t g h k m l) where
  step : line_step s.file.now (progress s g k) l ≡ line_step file (progress r g k) l
  step =
      ap (λ f. line_step f (progress s g k) l) (x.kept ∙ x.same)
      ∙ ap (λ (a : Standing). line_step file (record { at = a; glyphs = holding g; kerns = holding k }) l) x.stays

  went : progress t h m ≡ after (progress r g k) (line_step file (progress r g k) l)
  went =
      x.moved ∙ ap (after (progress s g k)) step
      ∙ ap (λ (a : Standing). after (record { at = a; glyphs = holding g; kerns = holding k }) (line_step file (progress r g k) l)) x.stays

  pub turn_again : Ok tt ≡ answer (line_step s.file.now (progress s g k) l) → read_lines file (progress t h m) (t.line + 1) (lines (rest t)) ≡ read_lines file (progress r g k) (r.line + 1) (lines (rest r))
  turn_again ok =
      ap (λ (q : Place). read_lines file (progress t h m) (q.line + 1) (lines (rest_of q.file q.at))) x.there
      ∙ ap (λ n. read_lines file (progress t h m) (n + 1) (lines (rest s))) x.count
      ∙ ap (λ q. read_lines file (progress t h m) (r.line + 1 + 1) (lines q)) x.left
      ∙ sym (read_on file (progress r g k) (r.line + 1) x.on (rest r) l x.some x.cut (progress t h m) (ok ∙ ap answer step) went)

  pub turn_refused : (a : Result (Unit {0}) LineFault) (e : AfmFault) → a ≡ answer (line_step s.file.now (progress s g k) l) → told_at s.line a ≡ Err e
      → read_lines file (progress r g k) (r.line + 1) (lines (rest r)) ≡ outcome (progress t h m) (Err e)
  turn_refused (Ok u) e is told = let z : ◌≡◌ {A = ℕ} 0 1 = cc in absurd (omega arith)
  turn_refused (Err f) e is told =
      read_refused file (progress r g k) (r.line + 1) x.on (rest r) l x.some x.cut (progress t h m) f (is ∙ ap answer step) went
      ∙ ap (λ n. outcome (progress t h m) (Err (At n f))) (sym x.count)
      ∙ ap (outcome (progress t h m)) told

  pub turn_file : t.file.now ≡ file
  turn_file = ap (λ (q : Place). q.file) x.there ∙ x.kept ∙ x.same

  pub turn_less : length (rest t).text < length (rest r).text
  turn_less =
      let fewer = ap (λ (q : Place). length (rest_of q.file q.at).text) x.there ∙ ap (λ (q : Part). length q.text) x.left ∙ length-past-line (rest r) in
      let some = x.some in
      omega arith

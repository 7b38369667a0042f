use Rattle.std.proofs.Common.{ℕ, ◌+◌, ◌≤◌, List, [], ◌∷◌, ◌++◌, length, get_or, take, sym, refl, ap, ◌∙◌, append-nil, arith, length-append, rules}
use Rattle.std.proofs.lemmas.List.{take_all}
use Rattle.listing.specs.Entries.{word_bytes, spaced}
use Rattle.listing.specs.declared.word.Word.TheVariants.{Number}
use Rattle.listing.proofs.Spacing.{space, space_none, space_one, spaced_more, spaced_least}
use Rattle.listing.proofs.Standing.{Stands, stands_at, stands_more, entry_refused, entry_made, back_within}
use Rattle.listing.proofs.place.Place.enter.Goals as goal
use Rattle.listing.proofs.place.Place.enter.Goals.{then-i-gt0+in_ok-put, else-i-gt0}

pub loop-i-init : goal.loop-i-init
loop-i-init c = record {
  kept = (refl, refl);
  within = search rules;
  behind = sym (append-nil _);
}

pub returns-in_err-put : goal.returns-in_err-put
returns-in_err-put c =
    let e = c.in_err-put.ensures in
    let s = c.new-guard.result in
    let b₀ : List ℕ = c.args.buffer.now in
    let words = c.args.words.now in
    let i = c.loop-i.i in
    let part : length (spaced (take i words)) + 1 ≤ length (spaced words ++ (10 ∷ [])) =
    omega (arith, spaced_least words i (Number 0) c.loop-i-test.true, ap length (space_one i c.if-i-gt0.true), length-append (spaced words) (10 ∷ [])) in
    record {
      within = back_within c.args.self.now.at (length b₀) (search rules) c.requires (omega arith);
      after =
          entry_refused s b₀ (spaced (take i words)) c.loop-i.guard c.loop-i.buffer c.loop-i.invariant c.put.new.self c.put.new.buffer (32 ∷ []) e.kept e.within
          _ e.after c.args.self.now c.new-guard.ensures.same c.requires words (omega arith) part (search rules) c.from_residual.ensures.0;
    }

pub returns-in_err-put_word : goal.returns-in_err-put_word
returns-in_err-put_word c =
    let e = c.in_err-put_word.ensures in
    let s = c.new-guard.result in
    let b₀ : List ℕ = c.args.buffer.now in
    let words = c.args.words.now in
    let i = c.loop-i.i in
    let done : List ℕ = spaced (take i words) in
    let word : List ℕ = word_bytes (get_or words i (Number 0)) in
    let st : Stands s b₀ (done ++ space i) c.if-i-gt0.guard c.if-i-gt0.buffer = elim c.if-i-gt0.branch [
      | then-i-gt0+in_ok-put w ↦
          let f = w.in_ok-put.ensures in
          stands_at s b₀ (stands_more s b₀ done c.loop-i.guard c.loop-i.buffer c.loop-i.invariant w.put.new.self w.put.new.buffer (32 ∷ []) f.kept f.within _ f.after)
          (ap (λ (l : List ℕ). done ++ l) (space_one i w.if-i-gt0.true)) w.guard-is w.buffer-is
      | else-i-gt0 w ↦ stands_at s b₀ c.loop-i.invariant (ap (λ (l : List ℕ). done ++ l) (space_none i w.if-i-gt0.false) ∙ append-nil done) w.guard-is w.buffer-is
    ] in
    let part : length (done ++ space i) + length word ≤ length (spaced words ++ (10 ∷ [])) =
    omega (arith, spaced_least words i (Number 0) c.loop-i-test.true, length-append done (space i), length-append (spaced words) (10 ∷ [])) in
    record {
      within = back_within c.args.self.now.at (length b₀) (search rules) c.requires (omega arith);
      after =
          entry_refused s b₀ (done ++ space i) c.if-i-gt0.guard c.if-i-gt0.buffer st c.put_word.new.self c.put_word.new.buffer word e.kept e.within
          _ e.after c.args.self.now c.new-guard.ensures.same c.requires words (omega arith) part (search rules) c.from_residual-in_err-put_word.ensures.0;
    }

pub loop-i-preserved : goal.loop-i-preserved
loop-i-preserved c =
    let e = c.in_ok-put_word.ensures in
    let s = c.new-guard.result in
    let b₀ : List ℕ = c.args.buffer.now in
    let words = c.args.words.now in
    let i = c.loop-i.i in
    let done : List ℕ = spaced (take i words) in
    let word : List ℕ = word_bytes (get_or words i (Number 0)) in
    let st : Stands s b₀ (done ++ space i) c.if-i-gt0.guard c.if-i-gt0.buffer = elim c.if-i-gt0.branch [
      | then-i-gt0+in_ok-put w ↦
          let f = w.in_ok-put.ensures in
          stands_at s b₀ (stands_more s b₀ done c.loop-i.guard c.loop-i.buffer c.loop-i.invariant w.put.new.self w.put.new.buffer (32 ∷ []) f.kept f.within _ f.after)
          (ap (λ (l : List ℕ). done ++ l) (space_one i w.if-i-gt0.true)) w.guard-is w.buffer-is
      | else-i-gt0 w ↦ stands_at s b₀ c.loop-i.invariant (ap (λ (l : List ℕ). done ++ l) (space_none i w.if-i-gt0.false) ∙ append-nil done) w.guard-is w.buffer-is
    ] in
    stands_at s b₀ (stands_more s b₀ (done ++ space i) c.if-i-gt0.guard c.if-i-gt0.buffer st c.put_word.new.self c.put_word.new.buffer word e.kept e.within _ e.after)
    (spaced_more words i (Number 0) c.loop-i-test.true) refl refl

pub returns-in_err-put-2 : goal.returns-in_err-put-2
returns-in_err-put-2 c =
    let e = c.in_err-put-2.ensures in
    let s = c.new-guard.result in
    let b₀ : List ℕ = c.args.buffer.now in
    let words = c.args.words.now in
    let i = c.loop-i.i in
    let part : length (spaced (take i words)) + 1 ≤ length (spaced words ++ (10 ∷ [])) =
    omega (arith, ap (λ l. length (spaced l)) (take_all i words c.loop-i-test.false), length-append (spaced words) (10 ∷ [])) in
    record {
      within = back_within c.args.self.now.at (length b₀) (search rules) c.requires (omega arith);
      after =
          entry_refused s b₀ (spaced (take i words)) c.loop-i.guard c.loop-i.buffer c.loop-i.invariant c.put-2.new.self c.put-2.new.buffer (10 ∷ []) e.kept e.within
          _ e.after c.args.self.now c.new-guard.ensures.same c.requires words (omega arith) part (search rules) c.from_residual-in_err-put-2.ensures.0;
    }

pub returns : goal.returns
returns c =
    let e = c.in_ok-put-2.ensures in
    let s = c.new-guard.result in
    let b₀ : List ℕ = c.args.buffer.now in
    let words = c.args.words.now in
    let i = c.loop-i.i in
    let st = stands_more s b₀ (spaced (take i words)) c.loop-i.guard c.loop-i.buffer c.loop-i.invariant c.put-2.new.self c.put-2.new.buffer (10 ∷ []) e.kept e.within _ e.after in
    record {
      within = search rules;
      after =
          entry_made s b₀ c.args.self.now c.new-guard.ensures.same c.requires words (spaced (take i words) ++ (10 ∷ [])) c.put-2.new.self c.put-2.new.buffer st
          (ap (λ l. spaced l ++ (10 ∷ [])) (take_all i words c.loop-i-test.false)) (search rules) (omega arith);
    }

use Rattle.std.proofs.Common.{ℕ, ◌+◌, ◌-◌, List, ◌++◌, length, take, Ok, refl, ap, ◌∙◌, arith, rules}
use Rattle.std.proofs.lemmas.List.{length-take-le}
use Rattle.std.proofs.lemmas.Slice.{take-put_mid}
use Rattle.listing.specs.Entries.{outcome}
use Rattle.listing.proofs.Adding.{added_fits, added_refused}
use Rattle.listing.proofs.place.Guard.put.Goals as goal

pub returns : goal.returns
returns c =
    let at : ℕ = c.args.self.now.place.now.at in
    let b : List ℕ = c.args.buffer.now in
    let k : ℕ = length c.args.bytes.now in
    let e = c.copy_from_slice.ensures.after in
    let long = length-take-le at b c.requires in
    record {
      kept = (refl, refl);
      within = search rules;
      after =
          ap (λ (x : List ℕ). outcome x (Ok tt)) (take-put_mid at (at + k - at) b c.copy_from_slice.new.self (at + k) (omega (arith, ap length e)) c.requires ∙ ap (λ (x : List ℕ). take at b ++ x) e)
          ∙ added_fits (length b) (take at b) c.args.bytes.now (omega arith);
    }

pub returns-then-bytes-buffer : goal.returns-then-bytes-buffer
returns-then-bytes-buffer c =
    let at : ℕ = c.args.self.now.place.now.at in
    let b : List ℕ = c.args.buffer.now in
    let long = length-take-le at b c.requires in
    record {
      kept = (refl, refl);
      within = c.requires;
      after = added_refused (length b) (take at b) c.args.bytes.now (omega arith);
    }

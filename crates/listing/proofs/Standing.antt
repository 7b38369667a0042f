-- An open entry: what stands of it, after one put and the next, and what is left of one that is refused.
use Rattle.std.proofs.Common.{◌≡◌, ℕ, ◌+◌, ◌<◌, ◌≤◌, true, List, ◌++◌, length, take, is_err, Ok, Err, Result, sym, ap, ◌∙◌, subst, append_assoc, arith, length-append}
use Rattle.std.proofs.lemmas.List.{length-take-le, take-take, take_at}
use Rattle.listing.specs.Entries.{outcome, added, entry_bytes, entered}
use Rattle.listing.specs.Places.{front, Kept}
use Rattle.listing.specs.declared.place.Guard.{Guard}
use Rattle.listing.specs.declared.place.Place.{Place}
use Rattle.listing.specs.declared.room.NoRoom.{NoRoom}
use Rattle.listing.specs.declared.word.Word.{Word}
use Rattle.listing.proofs.Adding.{added_fits, added_refused, fits, refused}

-- s and b₀ are the guard and the buffer as the entry began, g and b as they are, and done is what stands of the entry
pub record Stands (s : Guard) (b₀ done : List ℕ) (g : Guard) (b : List ℕ) : Type 0 where
  pub kept : Kept s g
  pub within : g.place.now.at ≤ length b
  pub behind : front g.place.now b ≡ front s.place.now b₀ ++ done

-- the same, of equal guards, buffers and bytes
pub stands_at : (s : Guard) (b₀ : List ℕ) {done done' : List ℕ} {g g' : Guard} {b b' : List ℕ} → Stands s b₀ done g b → done' ≡ done → g' ≡ g → b' ≡ b → Stands s b₀ done' g' b'
stands_at s b₀ st d e f = subst (λ (x : List ℕ × Guard × List ℕ). Stands s b₀ x.0 x.1 x.2) (λ i. (sym d i, sym e i, sym f i)) st

module _ (s : Guard) (b₀ : List ℕ) (p : Place) (same : s.place.now ≡ p) (within : p.at ≤ length b₀) (words : List Word) (done : List ℕ) (g : Guard) (b : List ℕ) (was : Stands s b₀ done g b) where
  behind : front g.place.now b ≡ front p b₀ ++ done
  behind = was.behind ∙ ap (λ (q : Place). front q b₀ ++ done) same

  far : g.place.now.at ≡ p.at + length done
  far =
      let long = length-take-le g.place.now.at b was.within in
      omega (arith, simp length-append at (ap length behind), length-take-le p.at b₀ within)

  taken_back : (at : ℕ) → at ≡ p.at → take at b ≡ front p b₀
  taken_back at e =
      let begun : p.at ≤ g.place.now.at = omega (arith, far) in
      ap (λ (k : ℕ). take k b) e ∙ sym (take-take p.at g.place.now.at b begun)
      ∙ ap (take p.at) behind ∙ take_at (front p b₀) done p.at (length-take-le p.at b₀ within)

  -- all of the entry stands
  pub entry_made : {at : ℕ} → done ≡ entry_bytes words → at ≡ g.place.now.at → length b ≡ length b₀ → outcome (take at b) (Ok tt) ≡ entered (length b₀) (front p b₀) words
  entry_made {at} all e long =
      ap (λ (l : List ℕ). outcome l (Ok tt)) (ap (λ (k : ℕ). take k b) e ∙ behind ∙ ap (λ (l : List ℕ). front p b₀ ++ l) all)
      ∙ added_fits (length b₀) (front p b₀) (entry_bytes words) (let w = was.within in omega (arith, far, ap length all, length-take-le p.at b₀ within))

module _ (s : Guard) (b₀ done : List ℕ) (g : Guard) (b : List ℕ) (was : Stands s b₀ done g b) (g' : Guard) (b' more : List ℕ) (kept : Kept g g') (within : g'.place.now.at ≤ length b') where
  stands : (done' : List ℕ) → front g'.place.now b' ≡ front s.place.now b₀ ++ done' → Stands s b₀ done' g' b'
  stands done' e = record {
    kept = (kept.0 ∙ was.kept.0, kept.1 ∙ was.kept.1);
    within = within;
    behind = e;
  }

  -- one put more
  pub stands_more : (u : Unit {0}) → outcome (front g'.place.now b') (Ok u) ≡ added (length b) (front g.place.now b) more → Stands s b₀ (done ++ more) g' b'
  stands_more u e =
      stands (done ++ more) ((fits (length b) (front g.place.now b) more _ u e).1 ∙ ap (λ (l : List ℕ). l ++ more) was.behind ∙ append_assoc (front s.place.now b₀) done more)

  -- a put that finds no room, of an entry that is then taken back
  pub entry_refused : (n : NoRoom) → outcome (front g'.place.now b') (Err n) ≡ added (length b) (front g.place.now b) more → (p : Place) → s.place.now ≡ p → p.at ≤ length b₀ → (words : List Word) → length b ≡ length b₀ → length done + length more ≤ length (entry_bytes words) → {at : ℕ} {r : Result (Unit {0}) NoRoom} → at ≡ p.at → is_err r ≡ true → outcome (take at b') r ≡ entered (length b₀) (front p b₀) words
  entry_refused n e p is begun words long part {at} {r} back err = by r err
    where
      lacks : (length b < length (front g.place.now b) + length more) × (front g'.place.now b' ≡ front g.place.now b)
      lacks = refused (length b) (front g.place.now b) more _ n e

      stood : take at b' ≡ front p b₀
      stood = taken_back s b₀ p is begun words done g' b' (stands done (lacks.1 ∙ was.behind)) at back

      room : length b₀ < length (front p b₀) + length (entry_bytes words)
      room = omega (arith, lacks.0, simp length-append at (ap length (behind s b₀ p is begun words done g b was)))

      by : (r : Result (Unit {0}) NoRoom) → is_err r ≡ true → outcome (take at b') r ≡ entered (length b₀) (front p b₀) words
      by (Ok u) err = let z : ◌≡◌ {A = ℕ} 0 1 = cc in absurd (omega arith)
      by (Err m) err = ap (λ (l : List ℕ). outcome l (Err m)) stood ∙ added_refused (length b₀) (front p b₀) (entry_bytes words) room

-- taken back, the place lies within the buffer
pub back_within : {at n : ℕ} (m k : ℕ) → at ≡ m → m ≤ k → n ≡ k → at ≤ n
back_within m k e h l = omega arith

-- Texts around a gap, and moves of the gap.
use Rattle.std.proofs.Common.{◌≡◌, ℕ, ◌+◌, ◌-◌, ◌<◌, ◌≤◌, min, max, List, ◌++◌, length, get_or, take, drop, sym, refl, ap, ◌∙◌, inl, inr, arith, length-append, length-drop, length-take}
use borrow.Rule.Slice.PartMut.{put_mid}
use Rattle.std.specs.List.{between, copy_within}
use Rattle.std.proofs.lemmas.Bool.{cases_lt}
use Rattle.std.proofs.lemmas.List.{append_assoc, length-take-le, get_or_append_left, get_or-append_right, get_or-take, get_or-drop, take_at, drop_at, take-take, drop-take, drop-drop, take-append-drop, take-append-le, same_lists}
use Rattle.std.proofs.lemmas.List.Edits.{take-paste, drop-paste, length-between, get_or-between}
use Rattle.std.proofs.lemmas.Slice.{take-put_mid, drop-put_mid}
use Rattle.page.specs.Texts.{edited, part}
use Rattle.buffer.specs.Gaps.{around}

-- the characters from `at` up to the gap go behind it
pub moved_left : (xs : List ℕ) (start end at : ℕ) → at ≤ start → start ≤ end → end ≤ length xs → around (copy_within xs at start (at + (end - start))) at (at + (end - start)) ≡ around xs start end
moved_left xs start end at l f w =
    let moved = at + (end - start) in
    let gone = take (start - at) (drop at xs) in
    let rest = drop (moved + (start - at)) xs in
    let n = length-take-le moved xs (omega arith) in
    let front : take at ((take moved xs ++ gone) ++ rest) ≡ take at xs =
    take-append-le at (take moved xs ++ gone) rest (omega (arith, length-append (take moved xs) gone))
    ∙ take-append-le at (take moved xs) gone (omega arith)
    ∙ take-take at moved xs (omega arith)
    in
    let back : drop moved ((take moved xs ++ gone) ++ rest) ≡ gone ++ rest = ap (drop moved) (append_assoc (take moved xs) gone rest) ∙ drop_at (take moved xs) (gone ++ rest) moved n in
    let whole : take at xs ++ gone ≡ take start xs =
    let e : at + (start - at) ≡ start = omega arith in
    ap (λ l. l ++ gone) (sym (take-take at start xs l))
    ∙ ap (λ l. take at (take start xs) ++ l) (sym (drop-take at (start - at) xs) ∙ ap (λ k. drop at (take k xs)) e)
    ∙ take-append-drop at (take start xs)
    in
    let e : moved + (start - at) ≡ end = omega arith in
    ap (λ l. l ++ drop moved ((take moved xs ++ gone) ++ rest)) front
    ∙ ap (λ l. take at xs ++ l) back
    ∙ sym (append_assoc (take at xs) gone rest)
    ∙ ap (λ l. l ++ rest) whole
    ∙ ap (λ k. take start xs ++ drop k xs) e

-- the characters behind the gap go before it, until it starts at `at`
pub moved_right : (xs : List ℕ) (start end at : ℕ) → start ≤ at → start ≤ end → at + (end - start) ≤ length xs → around (copy_within xs end (at + (end - start)) start) at (at + (end - start)) ≡ around xs start end
moved_right xs start end at l f w =
    let moved = at + (end - start) in
    let n = moved - end in
    let behind = drop end xs in
    let come = take n behind in
    let ys = copy_within xs end moved start in
    let long : n ≤ length behind = simp length-drop (omega arith) in
    let e : start + n ≡ at = omega arith in
    let e' : at + (end - start) ≡ moved = refl in
    let e'' : end + n ≡ moved = omega arith in
    let front : take at ys ≡ take start xs ++ come = ap (λ k. take k ys) (sym e) ∙ take-paste xs start behind n (omega arith) long in
    let back : drop moved ys ≡ drop n behind =
    sym (drop-drop (end - start) at ys)
    ∙ ap (λ k. drop (end - start) (drop k ys)) (sym e)
    ∙ ap (drop (end - start)) (drop-paste xs start behind n (omega arith) long)
    ∙ ap (λ k. drop (end - start) (drop k xs)) e
    ∙ drop-drop (end - start) at xs
    ∙ ap (λ k. drop k xs) (sym e'')
    ∙ sym (drop-drop n end xs)
    in
    ap (λ l. l ++ drop moved ys) front
    ∙ ap (λ l. (take start xs ++ come) ++ l) back
    ∙ append_assoc (take start xs) come (drop n behind)
    ∙ ap (λ l. take start xs ++ l) (take-append-drop n behind)

-- an edit at the gap: what comes is written to its front, and what goes is left to it
pub written : (xs ins : List ℕ) (start end del k : ℕ) → k ≡ length ins → start + length ins ≤ end + del → end + del ≤ length xs → start + k ≤ length xs → start ≤ end → around (put_mid start k xs ins) (start + length ins) (end + del) ≡ edited (around xs start end) start del ins
written xs ins start end del k e f w fits l =
    let n = length-take-le start xs (omega arith) in
    let before = take start xs in
    ap (λ l. l ++ drop (end + del) (put_mid start k xs ins)) (take-put_mid start k xs ins (start + length ins) refl (omega arith))
    ∙ ap (λ l. (before ++ ins) ++ l) (drop-put_mid start k xs ins (end + del) (omega arith) (omega arith) (sym e))
    ∙ append_assoc before ins (drop (end + del) xs)
    ∙ sym (
    ap (λ l. l ++ (ins ++ drop (start + del) (around xs start end))) (take_at before (drop end xs) start n)
    ∙ ap (λ l. before ++ (ins ++ l)) (
    sym (drop-drop del start (around xs start end)) ∙ ap (drop del) (drop_at before (drop end xs) start n) ∙ drop-drop del end xs))

module _ (xs : List ℕ) (a b : ℕ) (f : a ≤ b) (w : b ≤ length xs) where
  pub length-around : length (around xs a b) ≡ length xs - (b - a)
  length-around = simp (length-append, length-take, length-drop) (omega arith)

  get_or-before : (i d : ℕ) → i < a → get_or (around xs a b) i d ≡ get_or xs i d
  get_or-before i d l =
      let n = length-take-le a xs (omega arith) in
      get_or_append_left (take a xs) (drop b xs) d i (omega arith) ∙ get_or-take a xs i d l

  get_or-behind : (i d : ℕ) → a ≤ i → get_or (around xs a b) i d ≡ get_or xs (i + (b - a)) d
  get_or-behind i d l =
      let n = length-take-le a xs (omega arith) in
      let e : b + (i - a) ≡ i + (b - a) = omega arith in
      get_or-append_right (take a xs) (drop b xs) a i d n l ∙ get_or-drop b xs (i - a) d ∙ ap (λ k. get_or xs k d) e

-- a part of the text is what stands of it before the gap, and what stands of it behind
pub parted : (xs : List ℕ) (a b s m e : ℕ) → a ≤ b → b ≤ length xs → s ≤ e → e + (b - a) ≤ length xs → m ≡ max s (min a e) → between s m xs ++ between (m + (b - a)) (e + (b - a)) xs ≡ part (around xs a b) s e
parted xs a b s m e f w fits room is =
    let text = around xs a b in
    let before = between s m xs in
    let behind = between (m + (b - a)) (e + (b - a)) xs in
    let long = length-around xs a b f w in
    let n : length before ≡ m - s = length-between xs s m (omega arith) in
    let k : length behind ≡ e + (b - a) - (m + (b - a)) = length-between xs (m + (b - a)) (e + (b - a)) (omega arith) in
    let p : length (part text s e) ≡ e - s = length-take-le (e - s) (drop s text) (simp length-drop (omega arith)) in
    same_lists _ _ (simp length-append (omega arith)) (λ i d h.
    let l : i < length before + length behind = simp length-append at h in
    let there : get_or (part text s e) i d ≡ get_or text (s + i) d = get_or-take (e - s) (drop s text) i d (omega arith) ∙ get_or-drop s text i d in
    elim (cases_lt i (m - s)) [
      | inl low ↦ get_or_append_left before behind d i (omega arith) ∙ get_or-between xs s m i d (omega arith) ∙ sym (there ∙ get_or-before xs a b f w (s + i) d (omega arith))
      | inr high ↦
          let e' : m + (b - a) + (i - (m - s)) ≡ s + i + (b - a) = omega arith in
          get_or-append_right before behind (m - s) i d n high
          ∙ get_or-between xs (m + (b - a)) (e + (b - a)) (i - (m - s)) d (omega arith)
          ∙ ap (λ j. get_or xs j d) e'
          ∙ sym (there ∙ get_or-behind xs a b f w (s + i) d (omega arith))
    ])

-- two parts written one behind the other
pub joined : (front back out : List ℕ) (m n : ℕ) → length front ≡ m → m ≤ n → put_mid m (n - m) (front ++ drop m out) back ≡ (front ++ back) ++ drop n out
joined front back out m n long f =
    let e : m + (n - m) ≡ n = omega arith in
    ap (λ l. l ++ (back ++ drop (n - m) (drop m (front ++ drop m out)))) (take_at front (drop m out) m long)
    ∙ ap (λ l. front ++ (back ++ l)) (ap (drop (n - m)) (drop_at front (drop m out) m long) ∙ drop-drop (n - m) m out ∙ ap (λ k. drop k out) e)
    ∙ sym (append_assoc front back (drop n out))

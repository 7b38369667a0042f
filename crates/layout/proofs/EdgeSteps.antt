-- The edges of a row, one after another.
use Rattle.std.proofs.Common.{◌≡◌, ℕ, zero, suc, ◌+◌, ◌-◌, ◌<◌, ◌≤◌, Bool, true, cond, List, [], ◌∷◌, ◌++◌, length, take, drop, set, Some, None, Ok, Err, Option, sym, refl, ap, ◌∙◌, arith, length-drop, length-take}
use Rattle.std.proofs.lemmas.List.{append_assoc, append-nil, take-append-drop, take_more_set, drop-drop, drop-set-lt, drop_all}
use Rattle.std.specs.Result.{result_unwrap_or}
use Rattle.metrics.specs.Meaning.{Meaning, missing, answer}
use Rattle.metrics.specs.declared.fault.MissingGlyph.{MissingGlyph}
use Rattle.page.proofs.Places.{drop_seen, seen_drop}
use Rattle.page.specs.Texts.{seen, part}
use Rattle.layout.specs.Widths.{edges_from}

seen_take : (n : ℕ) (xs : List ℕ) (i : ℕ) → i < n → seen (take n xs) i ≡ seen xs i
seen_take zero xs i l = absurd (omega arith)
seen_take (suc n) [] i l = refl
seen_take (suc n) (x ∷ xs) zero l = refl
seen_take (suc n) (x ∷ xs) (suc i) l = seen_take n xs i (omega arith)

-- a place of a part
pub seen_part : (t : List ℕ) (s e i : ℕ) → i < e - s → seen (part t s e) i ≡ seen t (s + i)
seen_part t s e i l = seen_take (e - s) (drop s t) i l ∙ seen_drop t s i

-- how long a part is that ends within the text
pub length_part : (t : List ℕ) (s e : ℕ) → e ≤ length t → length (part t s e) ≡ e - s
length_part t s e l = simp (length-take, length-drop) (omega arith)

-- the advance of a character that has a glyph
pub advance_given : (m : Meaning) (p : Option ℕ) (c : ℕ) → m.covers c ≡ true → result_unwrap_or (answer m p c) 0 ≡ m.adv p c
advance_given m p c v = ap (λ (b : Bool). result_unwrap_or {T = ℕ} {E = MissingGlyph} (cond b (Ok (m.adv p c)) (Err (missing m c))) 0) v

-- one more edge
pub edge_more : (m : Meaning) (cs out : List ℕ) (i c e a : ℕ) (p : Option ℕ) → i < length out → seen cs i ≡ Some c → a ≡ m.adv p c
    → take i out ++ edges_from m e p (drop i cs) ≡ edges_from m 0 None cs
    → take (i + 1) (set out i (e + a)) ++ edges_from m (e + a) (Some c) (drop (i + 1) cs) ≡ edges_from m 0 None cs
edge_more m cs out i c e a p l there is so =
    let rest = edges_from m (e + a) (Some c) (drop (i + 1) cs) in
    ap (λ (x : List ℕ). x ++ rest) (take_more_set out i (e + a) l)
    ∙ append_assoc (take i out) ((e + a) ∷ []) rest
    ∙ ap (λ (b : ℕ). take i out ++ ((e + b) ∷ edges_from m (e + b) (Some c) (drop (i + 1) cs))) is
    ∙ ap (λ (x : List ℕ). take i out ++ edges_from m e p x) (sym (drop_seen cs i c there))
    ∙ so

-- what lies behind the edges stays
pub rest_more : (out was : List ℕ) (i v : ℕ) → drop i out ≡ drop i was → drop (i + 1) (set out i v) ≡ drop (i + 1) was
rest_more out was i v e =
    drop-set-lt (i + 1) out i v (omega arith) ∙ sym (drop-drop 1 i out) ∙ ap (drop 1) e ∙ drop-drop 1 i was

-- all edges are written
pub edges_all : (m : Meaning) (cs out was : List ℕ) (i e : ℕ) (p : Option ℕ) → length cs ≤ i → drop i out ≡ drop i was
    → take i out ++ edges_from m e p (drop i cs) ≡ edges_from m 0 None cs
    → out ≡ edges_from m 0 None cs ++ drop i was
edges_all m cs out was i e p l rest so =
    let none : drop i cs ≡ [] = drop_all i cs l in
    let all : take i out ≡ edges_from m 0 None cs = sym (append-nil (take i out)) ∙ ap (λ (x : List ℕ). take i out ++ edges_from m e p x) (sym none) ∙ so in
    sym (take-append-drop i out) ∙ (λ j. all j ++ rest j)

-- A row drawn character by character.
use Rattle.std.proofs.Common.{◌≡◌, ℕ, ◌+◌, ◌-◌, ◌<◌, ◌≤◌, List, [], ◌∷◌, ◌++◌, length, get_or, drop, Some, None, codes, Option, unwrap_or, sym, refl, ap, ◌∙◌, add-zero, add-one, arith, Bor}
use lib.Utf8.{encode}
use Rattle.std.proofs.lemmas.List.{append_assoc, drop_more, drop_all, drop-drop, get_or-drop, get_or_past, length-append, length-drop, length-replicate}
use Rattle.std.proofs.lemmas.Bool.{lt-ltb, le-ltb}
use Rattle.std.proofs.lemmas.Str.{length-encode, len_utf8_bounds}
use Rattle.std.specs.Option.{option_map, MatchOption}
use Rattle.preview.specs.Drawings.{spaces, place, drawn, begins_of, mark}

drawn_more : (u n used : ℕ) (cs begins : List ℕ) (i : ℕ) → i < length cs → drawn u n used (drop i cs) (drop i begins) ≡ spaces (place u used (get_or begins i 0) - used) ++ (encode (get_or cs i 0) ++ drawn u n (place u used (get_or begins i 0) + 1) (drop (i + 1) cs) (drop (i + 1) begins))
unfolding drawn
drawn_more u n used cs begins i h =
    let first : get_or (drop i begins) 0 0 ≡ get_or begins i 0 = get_or-drop i begins 0 0 ∙ ap (λ (k : ℕ). get_or begins k 0) (add-zero i) in
    rw (drop_more cs i 0 h, first, drop-drop 1 i begins) refl

-- one character more on the line leaves the whole as it was
pub draw_more : (u n used : ℕ) (cs begins line whole : List ℕ) (i at : ℕ) → i < length cs → at ≡ place u used (get_or begins i 0) → line ++ drawn u n used (drop i cs) (drop i begins) ≡ whole → ((line ++ spaces (at - used)) ++ encode (get_or cs i 0)) ++ drawn u n (at + 1) (drop (i + 1) cs) (drop (i + 1) begins) ≡ whole
draw_more u n used cs begins line whole i at h e so_far =
    let gap = spaces (at - used) in
    let c = encode (get_or cs i 0) in
    let rest = drawn u n (at + 1) (drop (i + 1) cs) (drop (i + 1) begins) in
    append_assoc (line ++ gap) c rest
    ∙ append_assoc line gap (c ++ rest)
    ∙ ap (λ (x : List ℕ). line ++ x) (rw e (sym (drawn_more u n used cs begins i h)))
    ∙ so_far

-- behind the last character the frame is filled
pub draw_all : (u n used : ℕ) (cs begins line whole : List ℕ) (i : ℕ) → length cs ≤ i → line ++ drawn u n used (drop i cs) (drop i begins) ≡ whole → line ++ spaces (n - used) ≡ whole
unfolding drawn
draw_all u n used cs begins line whole i h so_far = ap (λ (x : List ℕ). line ++ x) (rw (drop_all i cs h) refl) ∙ so_far

-- a character takes at least a byte, so a line has more bytes than columns
pub draw_longer : (used at c : ℕ) (line : List ℕ) → used < length line → at + 1 < length ((line ++ spaces (at - used)) ++ encode c)
draw_longer used at c line h =
    let w = len_utf8_bounds c in
    simp (length-append, length-replicate, length-encode) (omega arith)

-- a character begins at the edge behind the one before
pub begins_more : (edges : List ℕ) (i : ℕ) → get_or (begins_of edges) (i + 1) 0 ≡ get_or edges i 0
begins_more edges i = rw (add-one i) refl

-- what the next call gives of the edges from i on, or 0, and what it leaves
pub next_edge : {S : Type 0} (rest : S → List ℕ) (edges : List ℕ) (i : ℕ) (s t : S) (r : Option (Bor ℕ)) → rest s ≡ drop i edges → MatchOption r ((length (rest s) ≡ 0) × (t ≡ s)) (λ x. rest s ≡ x.now ∷ rest t) → (unwrap_or (option_map (λ x. x.now) r) 0 ≡ get_or edges i 0) × (rest t ≡ drop (i + 1) edges)
next_edge rest edges i s t None e h =
    let past : length edges ≤ i = omega (arith, h.0, ap length e, length-drop i edges) in
    (sym (get_or_past edges i 0 past), ap rest h.1 ∙ e ∙ drop_all i edges past ∙ sym (drop_all (i + 1) edges (omega arith)))
next_edge rest edges i s t (Some x) e h =
    let first = sym h ∙ e in (
      ap (λ (l : List ℕ). get_or l 0 0) first ∙ get_or-drop i edges 0 0 ∙ ap (λ (k : ℕ). get_or edges k 0) (add-zero i),
      ap (drop 1) first ∙ drop-drop 1 i edges,
    )

pub mark_wider : (measure edge : ℕ) → measure < edge → mark measure edge ≡ codes " < wider than the label"
mark_wider measure edge h = rw (lt-ltb measure edge h) refl

pub mark_none : (measure edge : ℕ) → edge ≤ measure → mark measure edge ≡ []
mark_none measure edge h = rw (le-ltb measure edge h) refl

use Rattle.std.proofs.Common.{◌≡◌, ℕ, zero, suc, ◌<◌, List, ◌∷◌, ◌++◌, replicate, refl, ap, ◌∙◌}
use lib.Utf8.{encodes}
use Rattle.std.proofs.lemmas.Str.{encode_ascii}
use Rattle.std.proofs.lemmas.Iterator.Adapters.{YieldsList-from_repeat_n, items_from_extend}
use Rattle.preview.proofs.lines.push_times.Goals as goal

-- a character of ASCII takes the one byte that it is
encoded : (n c : ℕ) → c < 128 → encodes (replicate n c) ≡ replicate n c
encoded zero c l = refl
encoded (suc n) c l =
    ap (λ (e : List ℕ). e ++ encodes (replicate n c)) (encode_ascii c l) ∙ ap (λ (cs : List ℕ). c ∷ cs) (encoded n c l)

pub returns : goal.returns
returns c =
    let pushed = items_from_extend c.extend.result c.extend.ensures.ran (YieldsList-from_repeat_n (λ x y. y ≡ x) c.args.count c.args.c c.repeat_n.ensures.count c.repeat_n.ensures.item (λ y e. e)) in
    rw (← encoded c.args.count c.args.c c.requires) pushed

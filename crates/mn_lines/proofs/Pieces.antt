-- Pieces of text, appended one after another.
use Rattle.std.proofs.Common.{◌≡◌, ◌+◌, ◌<◌, ◌≤◌, ℕ, List, [], ◌∷◌, ◌++◌, length, drop, get_or, Bor, refl, ap, sym, ◌∙◌, append_assoc, append-nil, arith, take}
use Rattle.std.proofs.Common.{replicate, ◌-◌, length-append}
use Rattle.std.proofs.lemmas.List.{at_drop_more, at_drop_all, take_all, take_at, drop_all, length-drop, length-replicate}
use borrow.Rule.Slice.PartMut.{put_mid}
use Rattle.mn_lines.specs.Lines.{text, pieces_of}

pub text-cons : (piece : List ℕ) (pieces : List (List ℕ)) → text (piece ∷ pieces) ≡ piece ++ text pieces
text-cons piece [] = sym (append-nil piece)
text-cons piece (next ∷ pieces) = refl

-- one more piece
pub piece_put : (out new goal : List ℕ) (pieces : List (Bor (List ℕ))) (i : ℕ) (d : Bor (List ℕ)) → i < length pieces → new ≡ out ++ (get_or pieces i d).now
    → out ++ text (pieces_of (drop i pieces)) ≡ goal → new ++ text (pieces_of (drop (i + 1) pieces)) ≡ goal
piece_put out new goal pieces i d below then before =
    ap (λ l. l ++ text (pieces_of (drop (i + 1) pieces))) then
    ∙ append_assoc out (get_or pieces i d).now (text (pieces_of (drop (i + 1) pieces)))
    ∙ ap (λ l. out ++ l) (sym (text-cons (get_or pieces i d).now (pieces_of (drop (i + 1) pieces))))
    ∙ sym (ap (λ l. out ++ l) (at_drop_more (λ ps. text (pieces_of ps)) pieces i d below))
    ∙ before

-- no piece more
pub pieces_put : (out goal : List ℕ) (pieces : List (Bor (List ℕ))) (i : ℕ) → length pieces ≤ i → out ++ text (pieces_of (drop i pieces)) ≡ goal → out ≡ goal
pieces_put out goal pieces i past before =
    sym (append-nil out) ∙ sym (ap (λ l. out ++ l) (at_drop_all (λ ps. text (pieces_of ps)) pieces i past)) ∙ before

-- how many bytes they have from one on
pub pieces_from : (pieces : List (Bor (List ℕ))) (i : ℕ) (d : Bor (List ℕ)) → i < length pieces →
    length (text (pieces_of (drop i pieces))) ≡ length (get_or pieces i d).now + length (text (pieces_of (drop (i + 1) pieces)))
pieces_from pieces i d below =
    ap length (at_drop_more (λ ps. text (pieces_of ps)) pieces i d below ∙ text-cons (get_or pieces i d).now (pieces_of (drop (i + 1) pieces)))
    ∙ length-append (get_or pieces i d).now (text (pieces_of (drop (i + 1) pieces)))

pub no_pieces : (pieces : List (Bor (List ℕ))) (i : ℕ) → length pieces ≤ i → length (text (pieces_of (drop i pieces))) ≡ 0
no_pieces pieces i past = ap length (at_drop_all (λ ps. text (pieces_of ps)) pieces i past)

-- all of them stand
pub all_laid : (bytes goal : List ℕ) (at : ℕ) (pieces : List (Bor (List ℕ))) (i : ℕ) → length pieces ≤ i →
    take at bytes ++ text (pieces_of (drop i pieces)) ≡ goal → at + length (text (pieces_of (drop i pieces))) ≡ length bytes → bytes ≡ goal
all_laid bytes goal at pieces i past laid left =
    sym (take_all at bytes (let n = no_pieces pieces i past in omega (arith, n, left))) ∙ pieces_put (take at bytes) goal pieces i past laid

-- what stands behind the bytes of before, for which room was made
pub laid_behind : (old items R B goal rest : List ℕ) (at end m len : ℕ) → at ≡ length old → m ≡ length old → end ≡ at + length goal
    → items ≡ take end old ++ replicate (end - m) 0 → R ≡ items → B ≡ goal → len ≡ length items
    → old ++ goal ≡ take len (put_mid at (length R - at) R B ++ rest)
laid_behind old items R B goal rest at end m len here old_is ends items_are is laid whole =
    let zeros : List ℕ = replicate (end - m) 0 in
    let r : R ≡ old ++ zeros = is ∙ items_are ∙ ap (λ l. l ++ zeros) (take_all end old (omega (arith, here, ends))) in
    let front : take at R ≡ old = ap (take at) r ∙ take_at old zeros at (sym here) in
    let behind : drop (length R - at) (drop at R) ≡ [] = drop_all (length R - at) (drop at R) (let d = length-drop at R in omega (arith, d)) in
    let all : put_mid at (length R - at) R B ≡ old ++ goal =
    (λ i. front i ++ (B ++ behind i)) ∙ ap (λ l. old ++ l) (append-nil B) ∙ ap (λ l. old ++ l) laid in
    let n : length (put_mid at (length R - at) R B) ≡ len =
    (let li = ap length (sym is ∙ r) in
    let la = length-append old zeros in
    let lr : length zeros ≡ end - m = length-replicate (end - m) 0 in
    let lg = length-append old goal in
    let lx = ap length all in
    omega (arith, li, la, lr, lg, lx, whole, here, old_is, ends)) in
    sym (take_at (put_mid at (length R - at) R B) rest len n ∙ all)

-- one text behind another
pub text_then : (old mid new one two : List ℕ) → mid ≡ old ++ one → new ≡ mid ++ two → new ≡ old ++ (one ++ two)
text_then old mid new one two first then = then ∙ ap (λ l. l ++ two) first ∙ append_assoc old one two

-- the four parts of a packet's line
pub four_put : (old l1 l2 l3 new a space b word c feed : List ℕ) → l1 ≡ old ++ (a ++ space) → l2 ≡ l1 ++ (b ++ word) → l3 ≡ l2 ++ c → new ≡ l3 ++ feed
    → new ≡ old ++ (a ++ (space ++ (b ++ (word ++ (c ++ feed)))))
four_put old l1 l2 l3 new a space b word c feed h1 h2 h3 h4 =
    text_then old l1 new (a ++ space) ((b ++ word) ++ (c ++ feed)) h1 (text_then l1 l2 new (b ++ word) (c ++ feed) h2 (text_then l2 l3 new c feed h3 h4))
    ∙ ap (λ l. old ++ l) (append_assoc a space ((b ++ word) ++ (c ++ feed)) ∙ ap (λ l. a ++ (space ++ l)) (append_assoc b word (c ++ feed)))

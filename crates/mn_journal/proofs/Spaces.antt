-- Words after spaces, put one after another.
use Rattle.std.proofs.Common.{◌≡◌, ◌+◌, ◌<◌, ◌≤◌, ℕ, List, [], ◌∷◌, ◌++◌, length, drop, get_or, Bor, refl, ap, sym, ◌∙◌, append_assoc, append-nil, arith, take}
use Rattle.std.proofs.Common.{replicate, ◌-◌, length-append}
use Rattle.std.proofs.lemmas.List.{at_drop_more, at_drop_all, take_all, take_at, drop_all, length-drop, length-replicate}
use borrow.Rule.Slice.PartMut.{put_mid}
use Rattle.std.specs.Prelude.{OnOk, Result, Ok, Err, codes}
use Rattle.mn_journal.specs.Lines.{joined, spaced, texts, Grew}

pub grown : (old mid new part : List ℕ) → Grew old mid → new ≡ mid ++ part → Grew old new
grown old mid new part g is = record { more = g.more ++ part; new_is = is ∙ ap (λ xs. xs ++ part) g.new_is ∙ append_assoc old g.more part }

pub grown_same : (old mid new : List ℕ) → Grew old mid → new ≡ mid → Grew old new
grown_same old mid new g is = record { more = g.more; new_is = is ∙ g.new_is }

pub the_same : (old : List ℕ) → Grew old old
the_same old = record { more = []; new_is = sym (append-nil old) }

-- one more piece
pub piece_put : (out new goal : List ℕ) (pieces : List (Bor (List ℕ))) (i : ℕ) (d : Bor (List ℕ)) → i < length pieces → new ≡ out ++ (get_or pieces i d).now
    → out ++ joined (texts (drop i pieces)) ≡ goal → new ++ joined (texts (drop (i + 1) pieces)) ≡ goal
piece_put out new goal pieces i d below then before =
    ap (λ xs. xs ++ joined (texts (drop (i + 1) pieces))) then
    ∙ append_assoc out (get_or pieces i d).now (joined (texts (drop (i + 1) pieces)))
    ∙ sym (ap (λ xs. out ++ xs) (at_drop_more (λ ws. joined (texts ws)) pieces i d below))
    ∙ before

-- no piece more
pub pieces_put : (out goal : List ℕ) (pieces : List (Bor (List ℕ))) (i : ℕ) → length pieces ≤ i → out ++ joined (texts (drop i pieces)) ≡ goal → out ≡ goal
pieces_put out goal pieces i past before =
    sym (append-nil out) ∙ sym (ap (λ xs. out ++ xs) (at_drop_all (λ ws. joined (texts ws)) pieces i past)) ∙ before

-- how many bytes they have from one on
pub pieces_from : (pieces : List (Bor (List ℕ))) (i : ℕ) (d : Bor (List ℕ)) → i < length pieces →
    length (joined (texts (drop i pieces))) ≡ length (get_or pieces i d).now + length (joined (texts (drop (i + 1) pieces)))
pieces_from pieces i d below =
    ap length (at_drop_more (λ ws. joined (texts ws)) pieces i d below)
    ∙ length-append (get_or pieces i d).now (joined (texts (drop (i + 1) pieces)))

pub no_pieces : (pieces : List (Bor (List ℕ))) (i : ℕ) → length pieces ≤ i → length (joined (texts (drop i pieces))) ≡ 0
no_pieces pieces i past = ap length (at_drop_all (λ ws. joined (texts ws)) pieces i past)

-- all of them stand
pub all_laid : (bytes goal : List ℕ) (at : ℕ) (pieces : List (Bor (List ℕ))) (i : ℕ) → length pieces ≤ i →
    take at bytes ++ joined (texts (drop i pieces)) ≡ goal → at + length (joined (texts (drop i pieces))) ≡ length bytes → bytes ≡ goal
all_laid bytes goal at pieces i past laid left =
    sym (take_all at bytes (let n = no_pieces pieces i past in omega (arith, n, left))) ∙ pieces_put (take at bytes) goal pieces i past laid

-- what stands behind the bytes of before, for which room was made
pub laid_behind : (old items R B goal rest : List ℕ) (at end m len : ℕ) → at ≡ length old → m ≡ length old → end ≡ at + length goal
    → items ≡ take end old ++ replicate (end - m) 0 → R ≡ items → B ≡ goal → len ≡ length items
    → old ++ goal ≡ take len (put_mid at (length R - at) R B ++ rest)
laid_behind old items R B goal rest at end m len here old_is ends items_are is laid whole =
    let zeros : List ℕ = replicate (end - m) 0 in
    let r : R ≡ old ++ zeros = is ∙ items_are ∙ ap (λ l. l ++ zeros) (take_all end old (omega (arith, here, ends))) in
    let front : take at R ≡ old = ap (take at) r ∙ take_at old zeros at (sym here) in
    let behind : drop (length R - at) (drop at R) ≡ [] = drop_all (length R - at) (drop at R) (let d = length-drop at R in omega (arith, d)) in
    let all : put_mid at (length R - at) R B ≡ old ++ goal =
    (λ i. front i ++ (B ++ behind i)) ∙ ap (λ l. old ++ l) (append-nil B) ∙ ap (λ l. old ++ l) laid in
    let n : length (put_mid at (length R - at) R B) ≡ len =
    (let li = ap length (sym is ∙ r) in
    let la = length-append old zeros in
    let lr : length zeros ≡ end - m = length-replicate (end - m) 0 in
    let lg = length-append old goal in
    let lx = ap length all in
    omega (arith, li, la, lr, lg, lx, whole, here, old_is, ends)) in
    sym (take_at (put_mid at (length R - at) R B) rest len n ∙ all)

-- the same text in other words
pub put_as : {E : Type 0} (r : Result (Unit {0}) E) (new old a b : List ℕ) → a ≡ b → OnOk r (new ≡ old ++ a) → OnOk r (new ≡ old ++ b)
put_as (Ok x) new old a b e h = h ∙ ap (λ xs. old ++ xs) e
put_as (Err bad) new old a b e h = tt

pub damage_is : (word from to number f t n : List ℕ) → from ≡ f → to ≡ t → number ≡ n
    → spaced (codes "damage" ∷ word ∷ from ∷ to ∷ number ∷ []) ≡ spaced (codes "damage" ∷ word ∷ f ∷ t ∷ n ∷ [])
damage_is word from to number f t n is_from is_to is_number = rw (is_from, is_to, is_number) refl

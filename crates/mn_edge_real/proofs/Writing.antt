-- A piece that is written part by part.
use Rattle.std.proofs.Common.{◌≡◌, ◌≤◌, ◌+◌, ◌-◌, ℕ, List, ◌++◌, Option, Some, None, take, drop, ap, sym, ◌∙◌, subst, arith, length, length-drop}
use Rattle.std.specs.Option.{ForSome}
use Rattle.std.specs.Io.KnownBytes.{Appends, Keeps}
use Rattle.std.proofs.Math.Seq.{take-add}
use Rattle.std.proofs.lemmas.List.{append-nil, append_assoc, take_all}

-- what was written, where the writer tells it: so much of the piece behind what was there before
abbrev pub Wrote : Option (List ℕ) → Option (List ℕ) → List ℕ → ℕ → Type 0
Wrote first now piece done = ForSome first (λ before. now ≡ Some (before ++ take done piece))

pub nothing_yet : (first : Option (List ℕ)) (piece : List ℕ) → Wrote first first piece 0
nothing_yet first piece before is = is ∙ ap (λ (l : List ℕ). Some l) (sym (append-nil before))

appended : (new : Option (List ℕ)) (xs bs : List ℕ) → Appends (Some xs) new bs → new ≡ Some (xs ++ bs)
appended None xs bs never = absurd never
appended (Some ys) xs bs is = ap (λ (l : List ℕ). Some l) is

kept : (new : Option (List ℕ)) (xs : List ℕ) → Keeps (Some xs) new → new ≡ Some xs
kept None xs never = absurd never
kept (Some ys) xs is = ap (λ (l : List ℕ). Some l) is

pub wrote_more : (first now new : Option (List ℕ)) (piece : List ℕ) (done more : ℕ) → Wrote first now piece done
    → Appends now new (take more (drop done piece)) → Wrote first new piece (done + more)
wrote_more first now new piece done more so_far grew before is =
    appended new (before ++ take done piece) (take more (drop done piece))
    (subst (λ (o : Option (List ℕ)). Appends o new (take more (drop done piece))) (so_far before is) grew)
    ∙ ap (λ (l : List ℕ). Some l) (append_assoc before (take done piece) (take more (drop done piece))
    ∙ ap (λ (l : List ℕ). before ++ l) (sym (take-add done more piece)))

pub wrote_same : (first now new : Option (List ℕ)) (piece : List ℕ) (done : ℕ) → Wrote first now piece done → Keeps now new
    → Wrote first new piece done
wrote_same first now new piece done so_far same before is =
    kept new (before ++ take done piece) (subst (λ (o : Option (List ℕ)). Keeps o new) (so_far before is) same)

-- the rest of a piece, as a slice has it
pub rest_is : (done : ℕ) (piece : List ℕ) → take (length piece - done) (drop done piece) ≡ drop done piece
rest_is done piece = take_all (length piece - done) (drop done piece) (let d = length-drop done piece in omega (arith, d))

pub room_left : (done more : ℕ) (piece : List ℕ) → done ≤ length piece → more ≤ length (take (length piece - done) (drop done piece)) →
    done + more ≤ length piece
room_left done more piece within room =
    let d = length-drop done piece in
    let r = subst (λ (l : List ℕ). more ≤ length l) (rest_is done piece) room in
    omega (arith, d, r, within)

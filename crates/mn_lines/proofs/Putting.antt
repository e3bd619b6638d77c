-- Calls that put, one after another.
use Rattle.std.proofs.Common.{◌≡◌, ℕ, List, [], ◌++◌, Option, Some, refl, sym, ap, ◌∙◌, append_assoc, append-nil}
use Rattle.mn_lines.specs.Putting.{PutOn, PartPut, Puts, PutsPart}

-- before anything is put
pub begun : (before : List ℕ) (written : Option (List ℕ)) → written ≡ Some before → PutOn before [] [] written
begun before written is = record { part = []; told = is ∙ ap Some (sym (append-nil before)); whole = refl }

-- nothing waits any more: the text stands
pub ended : (before text : List ℕ) (written : Option (List ℕ)) → PutOn before text [] written → written ≡ Some (before ++ text)
ended before text written on = on.told ∙ ap (λ part. Some (before ++ part)) (sym (append-nil on.part) ∙ on.whole)

-- at every moment a first part stands
pub part_of : (before text waits : List ℕ) (written : Option (List ℕ)) → PutOn before text waits written → PartPut text before written
part_of before text waits written on = (on.part, (waits, on.whole), on.told)

-- of a first part of a text, more text may be wanted
pub part_of_more : (before text more : List ℕ) (written : Option (List ℕ)) → PartPut text before written → PartPut (text ++ more) before written
part_of_more before text more written p = (p.0, (p.1.0 ++ more, sym (append_assoc p.0 p.1.0 more) ∙ ap (λ l. l ++ more) p.1.1), p.2)

pub puts_nothing : (waits : List ℕ) (written : Option (List ℕ)) → Puts [] waits waits written written
puts_nothing waits written = λ before so_far on. record { part = on.part; told = on.told; whole = on.whole ∙ sym (append-nil so_far) }

-- one text behind the other
pub puts_then : (one two waits0 waits1 waits2 : List ℕ) (written0 written1 written2 : Option (List ℕ))
    → Puts one waits0 waits1 written0 written1 → Puts two waits1 waits2 written1 written2 → Puts (one ++ two) waits0 waits2 written0 written2
puts_then one two waits0 waits1 waits2 written0 written1 written2 first second = λ before so_far on.
    let then = second before (so_far ++ one) (first before so_far on) in
    record { part = then.part; told = then.told; whole = then.whole ∙ append_assoc so_far one two }

-- the first call was cut off, or the second
pub cut_in_first : (one two waits0 : List ℕ) (written0 written1 : Option (List ℕ)) → PutsPart one waits0 written0 written1 →
    PutsPart (one ++ two) waits0 written0 written1
cut_in_first one two waits0 written0 written1 first = λ before so_far on.
    let p = part_of_more before (so_far ++ one) two written1 (first before so_far on) in
    (p.0, (p.1.0, p.1.1 ∙ append_assoc so_far one two), p.2)

pub cut_in_second : (one two waits0 waits1 : List ℕ) (written0 written1 written2 : Option (List ℕ))
    → Puts one waits0 waits1 written0 written1 → PutsPart two waits1 written1 written2 → PutsPart (one ++ two) waits0 written0 written2
cut_in_second one two waits0 waits1 written0 written1 written2 first second = λ before so_far on.
    let p = second before (so_far ++ one) (first before so_far on) in
    (p.0, (p.1.0, p.1.1 ∙ append_assoc so_far one two), p.2)

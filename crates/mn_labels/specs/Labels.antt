-- The labels of a node: which it has given, and which its FECs have now: RFC 3031, section 3.14 (one space of labels for the
-- platform), and RFC 3032, section 2.1 (20 bits, of which the values 0 to 15 are reserved).
use Rattle.std.specs.Prelude.{◌≡◌, ◌↔◌, ℕ, ◌+◌, ◌-◌, ◌==◌, ◌&&◌, ◌||◌, Bool, true, false, not, max, if◌then◌else◌, List, [], ◌∷◌, ◌++◌, length, map, filter}
use Rattle.std.specs.Prelude.{Option, Some, None, unwrap_or, slice_index_or, slice_set, replicate}
use Rattle.std.specs.List.{Contains, list_any, range_with_len}
use Rattle.mn_base.specs.declared.numbers.NodeNo.{NodeNo}
use Rattle.mn_labels.specs.declared.meaning.Bind.{Bind}
use Rattle.mn_labels.specs.declared.meaning.Bind.TheVariants.{Fec, Site}
use Rattle.mn_labels.specs.declared.meaning.Given.{Given}

-- all givings in order, and by FEC the label that it has, whether it is offered or rests
pub record Labels : Type 0 where
  pub given : List Given
  pub fecs : List (Option ℕ)

-- what contracts see of the labels that a node has given
pub record LabelTable : Type 0 where
  pub labels : Labels
  pub me : ℕ  -- the node, whose own FEC has no label
  pub spare : ℕ  -- how many more can be given without memory

-- how many other nodes there are, each of which may be a FEC with a label
abbrev pub others : LabelTable → ℕ
others table = length table.labels.fecs - 1

-- nothing is given
abbrev pub none_given : ℕ → Labels
none_given nodes = record { given = []; fecs = replicate nodes None }

-- the label that a FEC has
abbrev pub label_now : Labels → ℕ → Option ℕ
label_now labels fec = slice_index_or labels.fecs fec None

-- by FEC the label that the node says: 3, implicit null, of its own (RFC 3032, section 2.1); 0, which is none of them, where it gave none
abbrev pub own_labels : ℕ → Labels → ℕ → ℕ
own_labels me labels fec = if me == fec then 3 else unwrap_or (label_now labels fec) 0

-- 1. Which label is given next

abbrev pub fec_of : ℕ → Bind
fec_of node = Fec (record { 0 = node })

abbrev pub attachment_of : ℕ → ℕ → Bind
attachment_of site number = Site (record { 0 = site }) number

abbrev pub is_attachment : Bind → Bool
is_attachment (Fec node) = false
is_attachment (Site site number) = true

abbrev pub attachments_in : List Given → ℕ
attachments_in given = length (filter (λ giving. is_attachment giving.what) given)

-- the greatest that was given, 15 where none was
abbrev pub greatest : List Given → ℕ
greatest [] = 15
greatest (giving ∷ givings) = max giving.label (greatest givings)

abbrev pub is_label : ℕ → Option ℕ → Bool
is_label label None = false
is_label label (Some other) = other == label

-- an attachment was given the label, which it keeps for good, or a FEC has it now
abbrev pub is_had : Labels → ℕ → Bool
is_had labels label = list_any (λ giving. is_attachment giving.what && (giving.label == label)) labels.given || list_any (is_label label) labels.fecs

abbrev pub first_or : ℕ → List ℕ → ℕ
first_or default [] = default
first_or default (label ∷ labels) = label

-- the least label of which neither holds
abbrev pub next_label : Labels → ℕ
next_label labels = first_or (greatest labels.given + 1) (filter (λ label. not (is_had labels label)) (range_with_len 16 (greatest labels.given - 15)))

-- 2. How labels are given and given up

-- an attachment is given one more than the greatest
abbrev pub attached : Labels → Bind → Labels
attached labels what = record labels { given = labels.given ++ record { label = greatest labels.given + 1; what = what } ∷ [] }

-- a FEC that has a label takes it up again, and else it is given the least
abbrev pub offered_one : Labels → ℕ → Labels
offered_one labels fec = elim (label_now labels fec) [
  | Some label ↦ labels
  | None ↦ record {
    given = labels.given ++ record { label = next_label labels; what = fec_of fec } ∷ [];
    fecs = slice_set labels.fecs fec (Some (next_label labels));
  }
]

abbrev pub offered_all : Labels → List ℕ → Labels
offered_all labels [] = labels
offered_all labels (fec ∷ fecs) = offered_all (offered_one labels fec) fecs

abbrev pub kept_from : (ℕ → Bool) → ℕ → List (Option ℕ) → List (Option ℕ)
kept_from free fec [] = []
kept_from free fec (label ∷ labels) = (if free fec then None else label) ∷ kept_from free (fec + 1) labels

-- the FECs that are free give up their labels
abbrev pub given_up : (ℕ → Bool) → Labels → Labels
given_up free labels = record labels { fecs = kept_from free 0 labels.fecs }

-- where FECs are newly offered those that are free give up their labels first; then each takes its label, in their order
abbrev pub offered : (ℕ → Bool) → Labels → List ℕ → Labels
offered free labels [] = labels
offered free labels (fec ∷ fecs) = offered_all (given_up free labels) (fec ∷ fecs)

abbrev pub numbers : List NodeNo → List ℕ
numbers nodes = map (λ node. node.0) nodes

-- the node is one of these
abbrev pub is_one_of : List NodeNo → ℕ → Bool
is_one_of nodes fec = list_any (λ node. node.0 == fec) nodes

-- 3. What a label means

-- a FEC while it has the label, and an attachment for good
abbrev pub Means : Labels → ℕ → Bind → Type 0
Means labels label (Fec node) = label_now labels node.0 ≡ Some label
Means labels label (Site site number) = Contains labels.given (record { label = label; what = Site site number })

abbrev pub fec_with : ℕ → ℕ → List (Option ℕ) → Option Bind
fec_with label fec [] = None
fec_with label fec (other ∷ others) = if is_label label other then Some (fec_of fec) else fec_with label (fec + 1) others

abbrev pub attachment_with : ℕ → List Given → Option Bind
attachment_with label [] = None
attachment_with label (giving ∷ givings) =
    if is_attachment giving.what && (giving.label == label) then Some giving.what else attachment_with label givings

abbrev pub or_attachment : Option Bind → ℕ → List Given → Option Bind
or_attachment (Some fec) label given = Some fec
or_attachment None label given = attachment_with label given

-- the same as a function: the FEC that has the label, and else the attachment that was given it
abbrev pub meaning_of : Labels → ℕ → Option Bind
meaning_of labels label = or_attachment (fec_with label 0 labels.fecs) label labels.given

-- both say the same, and so no label means two things
abbrev pub IsTold : Labels → Type 0
IsTold labels = (label : ℕ) (thing : Bind) → (meaning_of labels label ≡ Some thing) ↔ Means labels label thing

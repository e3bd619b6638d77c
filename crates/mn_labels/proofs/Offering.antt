-- What becomes of the labels that FECs have as others are offered.
use Rattle.std.proofs.Common.{ℕ, zero, suc, ◌≡◌, ◌≢◌, ◌+◌, ◌<◌, ◌⊎◌, inl, inr, Bool, true, false, List, [], ◌∷◌, ◌++◌, filter, length, map}
use Rattle.std.proofs.Common.{refl, arith, sym, ◌∙◌, ap, subst, length-append, length-set}
use Rattle.std.specs.Prelude.{Option, Some, None, slice_index_or, slice_set, if◌then◌else◌}
use Rattle.std.specs.List.{Contains}
use Rattle.std.proofs.lemmas.List.{get_or-set_same, get_or-set_other}
use Rattle.std.proofs.lemmas.List.Elements.{filter-append}
use Rattle.mn_base.proofs.Members.{In, in_append, in_front, in_contained, contained_in}
use Rattle.mn_labels.specs.declared.meaning.Bind.{Bind}
use Rattle.mn_labels.specs.declared.meaning.Bind.TheVariants.{Fec, Site}
use Rattle.mn_labels.specs.declared.meaning.Given.{Given}
use Rattle.mn_labels.specs.Labels.{Labels, label_now, fec_of, is_attachment, attachments_in, offered_one, offered_all, next_label, kept_from, given_up, offered}
use Rattle.mn_labels.proofs.GivingUp.{kept_length}
use Rattle.mn_labels.proofs.Lists.{set_back}

-- 1. One FEC

-- the FEC takes a label where it has none
abbrev taken : Labels → ℕ → Option ℕ → Labels
taken labels fec now = elim now as (λ _. Labels) [
  | Some label ↦ labels
  | None ↦ record {
    given = labels.given ++ record { label = next_label labels; what = fec_of fec } ∷ [];
    fecs = slice_set labels.fecs fec (Some (next_label labels));
  }
]

one_keeps : (labels : Labels) (fec p a : ℕ) → label_now labels p ≡ Some a → label_now (offered_one labels fec) p ≡ Some a
one_keeps labels fec p a h = by (label_now labels fec) refl
  where
    by : (o : Option ℕ) → label_now labels fec ≡ o → label_now (taken labels fec o) p ≡ Some a
    by (Some label) e = h
    by None e = get_or-set_other labels.fecs fec p (Some (next_label labels)) None (apart e) ∙ h
      where
        apart : label_now labels fec ≡ None → p ≢ fec
        apart e same = let no : None ≡ Some a = sym e ∙ ap (label_now labels) (sym same) ∙ h in cc

one_gives : (labels : Labels) (fec : ℕ) → fec < length labels.fecs → (a : ℕ) × (label_now (offered_one labels fec) fec ≡ Some a)
one_gives labels fec below = by (label_now labels fec) refl
  where
    by : (o : Option ℕ) → label_now labels fec ≡ o → (a : ℕ) × (label_now (taken labels fec o) fec ≡ Some a)
    by (Some label) e = (label, e)
    by None e = (next_label labels, get_or-set_same labels.fecs fec (Some (next_label labels)) None below)

-- a label that another FEC has then it had before
one_was : (labels : Labels) (fec p a : ℕ) → p ≢ fec → label_now (offered_one labels fec) p ≡ Some a → label_now labels p ≡ Some a
one_was labels fec p a d = by (label_now labels fec)
  where
    by : (o : Option ℕ) → label_now (taken labels fec o) p ≡ Some a → label_now labels p ≡ Some a
    by (Some label) h = h
    by None h = sym (get_or-set_other labels.fecs fec p (Some (next_label labels)) None d) ∙ h

one_long : (labels : Labels) (fec : ℕ) → length (offered_one labels fec).fecs ≡ length labels.fecs
one_long labels fec = by (label_now labels fec)
  where
    by : (o : Option ℕ) → length (taken labels fec o).fecs ≡ length labels.fecs
    by (Some label) = refl
    by None = length-set labels.fecs fec (Some (next_label labels))

one_given : (labels : Labels) (fec : ℕ) → ((offered_one labels fec).given ≡ labels.given) ⊎ ((label : ℕ) × ((offered_one labels fec).given ≡
    labels.given ++ record { label = label; what = fec_of fec } ∷ []))
one_given labels fec = by (label_now labels fec)
  where
    by : (o : Option ℕ) → ((taken labels fec o).given ≡ labels.given) ⊎ ((label : ℕ) × ((taken labels fec o).given ≡
        labels.given ++ record { label = label; what = fec_of fec } ∷ []))
    by (Some label) = inl refl
    by None = inr (next_label labels, refl)

-- 2. All of them

all_long : (labels : Labels) (fecs : List ℕ) → length (offered_all labels fecs).fecs ≡ length labels.fecs
all_long labels [] = refl
all_long labels (fec ∷ fecs) = all_long (offered_one labels fec) fecs ∙ one_long labels fec

all_keep : (labels : Labels) (fecs : List ℕ) (p a : ℕ) → label_now labels p ≡ Some a → label_now (offered_all labels fecs) p ≡ Some a
all_keep labels [] p a h = h
all_keep labels (fec ∷ fecs) p a h = all_keep (offered_one labels fec) fecs p a (one_keeps labels fec p a h)

all_give : (labels : Labels) (fecs : List ℕ) (p : ℕ) → p < length labels.fecs → In fecs p → (a : ℕ) × (label_now (offered_all labels fecs) p ≡ Some a)
all_give labels [] p below i = absurd i
all_give labels (fec ∷ fecs) p below i = elim i [
  | inl e ↦ let one = one_gives labels fec (subst (λ x. x < length labels.fecs) (sym e) below) in
      (one.0, all_keep (offered_one labels fec) fecs p one.0 (subst (λ q. label_now (offered_one labels fec) q ≡ Some one.0) e one.1))
  | inr j ↦ all_give (offered_one labels fec) fecs p (subst (λ x. p < x) (sym (one_long labels fec)) below) j
]

all_was : (labels : Labels) (fecs : List ℕ) (p a : ℕ) → (In fecs p → ⊥) → label_now (offered_all labels fecs) p ≡ Some a → label_now labels p ≡ Some a
all_was labels [] p a out h = h
all_was labels (fec ∷ fecs) p a out h =
    one_was labels fec p a (λ e. out (inl (sym e))) (all_was (offered_one labels fec) fecs p a (λ i. out (inr i)) h)

kept_was : (free : ℕ → Bool) (fec : ℕ) (xs : List (Option ℕ)) (p a : ℕ) → slice_index_or (kept_from free fec xs) p None ≡ Some a →
    slice_index_or xs p None ≡ Some a
kept_was free fec [] p a e = e
kept_was free fec (x ∷ xs) zero a e = by (free fec) e
  where
    by : (b : Bool) → (if b then None else x) ≡ Some a → x ≡ Some a
    by true f = cc
    by false f = f
kept_was free fec (x ∷ xs) (suc p) a e = kept_was free (fec + 1) xs p a e

-- what isn't free is kept
pub kept_at : (free : ℕ → Bool) (fec : ℕ) (xs : List (Option ℕ)) (p : ℕ) → free (fec + p) ≡ false →
    slice_index_or (kept_from free fec xs) p None ≡ slice_index_or xs p None
kept_at free fec [] p off = refl
kept_at free fec (x ∷ xs) zero off = ap (λ b. if b then None else x) (ap free same ∙ off)
  where
    same : fec ≡ fec + 0
    same = omega arith
kept_at free fec (x ∷ xs) (suc p) off = kept_at free (fec + 1) xs p (ap free same ∙ off)
  where
    same : fec + 1 + p ≡ fec + suc p
    same = omega arith

zero_and : {p : ℕ} → 0 + p ≡ p
zero_and = omega arith

pub offered_long : (free : ℕ → Bool) (labels : Labels) (fecs : List ℕ) → length (offered free labels fecs).fecs ≡ length labels.fecs
offered_long free labels [] = refl
offered_long free labels (fec ∷ fecs) = all_long (given_up free labels) (fec ∷ fecs) ∙ kept_length free 0 labels.fecs

pub offered_keeps : (free : ℕ → Bool) (labels : Labels) (fecs : List ℕ) (p a : ℕ) → free p ≡ false → label_now labels p ≡ Some a →
    label_now (offered free labels fecs) p ≡ Some a
offered_keeps free labels [] p a off h = h
offered_keeps free labels (fec ∷ fecs) p a off h =
    all_keep (given_up free labels) (fec ∷ fecs) p a (kept_at free 0 labels.fecs p (ap free zero_and ∙ off) ∙ h)

pub offered_gives : (free : ℕ → Bool) (labels : Labels) (fecs : List ℕ) (p : ℕ) → p < length labels.fecs → In fecs p →
    (a : ℕ) × (label_now (offered free labels fecs) p ≡ Some a)
offered_gives free labels [] p below i = absurd i
offered_gives free labels (fec ∷ fecs) p below i =
    all_give (given_up free labels) (fec ∷ fecs) p (subst (λ x. p < x) (sym (kept_length free 0 labels.fecs)) below) i

-- a FEC that isn't among those that are offered has no label that it hadn't before
pub offered_was : (free : ℕ → Bool) (labels : Labels) (fecs : List ℕ) (p a : ℕ) → (In fecs p → ⊥) → label_now (offered free labels fecs) p ≡ Some a →
    label_now labels p ≡ Some a
offered_was free labels [] p a out h = h
offered_was free labels (fec ∷ fecs) p a out h = kept_was free 0 labels.fecs p a (all_was (given_up free labels) (fec ∷ fecs) p a out h)

-- 3. Attachments stay

last_in : {A : Type 0} (xs : List A) (x y : A) → In (xs ++ x ∷ []) y → In xs y ⊎ (y ≡ x)
last_in xs x y i = elim (in_append xs (x ∷ []) y i) [ inl j ↦ inl j | inr j ↦ elim j [ inl e ↦ inr (sym e) | inr k ↦ absurd k ] ]

-- the same attachments were given
abbrev pub SameSites : List Given → List Given → Type 0
SameSites given then_given = (g : Given) → is_attachment g.what ≡ true → (In given g → In then_given g) × (In then_given g → In given g)

one_sites : (given : List Given) (label fec : ℕ) → SameSites given (given ++ record { label = label; what = fec_of fec } ∷ [])
one_sites given label fec g h = (
  λ i. in_front given _ g i,
  λ i. elim (last_in given _ g i) [ inl j ↦ j | inr e ↦ absurd (no (sym h ∙ ap (λ (x : Given). is_attachment x.what) e)) ],
)
  where
    no : true ≡ false → ⊥
    no e = cc

sites_one : (labels : Labels) (fec : ℕ) → SameSites labels.given (offered_one labels fec).given
sites_one labels fec g h = elim (one_given labels fec) [
  | inl e ↦ subst (λ gs. (In labels.given g → In gs g) × (In gs g → In labels.given g)) (sym e) (λ i. i, λ i. i)
  | inr e ↦ subst (λ gs. (In labels.given g → In gs g) × (In gs g → In labels.given g)) (sym e.1) (one_sites labels.given e.0 fec g h)
]

sites_all : (labels : Labels) (fecs : List ℕ) → SameSites labels.given (offered_all labels fecs).given
sites_all labels [] g h = (λ i. i, λ i. i)
sites_all labels (fec ∷ fecs) g h =
    let one = sites_one labels fec g h in
    let rest = sites_all (offered_one labels fec) fecs g h in
    (λ i. rest.0 (one.0 i), λ i. one.1 (rest.1 i))

pub offered_sites : (free : ℕ → Bool) (labels : Labels) (fecs : List ℕ) → SameSites labels.given (offered free labels fecs).given
offered_sites free labels [] g h = (λ i. i, λ i. i)
offered_sites free labels (fec ∷ fecs) g h = sites_all (given_up free labels) (fec ∷ fecs) g h

-- and as many that pass a test that no FEC passes
module _ (p : Bind → Bool) (none : (fec : ℕ) → p (fec_of fec) ≡ false) where
  abbrev many : List Given → ℕ
  many given = length (filter (λ giving. p giving.what) given)

  many_more : (given : List Given) (label fec : ℕ) → many (given ++ record { label = label; what = fec_of fec } ∷ []) ≡ many given
  many_more given label fec =
      let g : Given = record { label = label; what = fec_of fec } in
      ap length (filter-append (λ (x : Given). p x.what) given (g ∷ []))
      ∙ length-append (filter (λ (x : Given). p x.what) given) (filter (λ (x : Given). p x.what) (g ∷ []))
      ∙ ap (λ b. many given + length {A = Given} (if b then record { label = label; what = fec_of fec } ∷ [] else [])) (none fec)
      ∙ nothing (many given)
    where
      nothing : (n : ℕ) → n + 0 ≡ n
      nothing n = omega arith

  many_one : (labels : Labels) (fec : ℕ) → many (offered_one labels fec).given ≡ many labels.given
  many_one labels fec = elim (one_given labels fec) [
    | inl e ↦ ap many e
    | inr e ↦ ap many e.1 ∙ many_more labels.given e.0 fec
  ]

  many_all : (labels : Labels) (fecs : List ℕ) → many (offered_all labels fecs).given ≡ many labels.given
  many_all labels [] = refl
  many_all labels (fec ∷ fecs) = many_all (offered_one labels fec) fecs ∙ many_one labels fec

  pub offered_many : (free : ℕ → Bool) (labels : Labels) (fecs : List ℕ) → many (offered free labels fecs).given ≡ many labels.given
  offered_many free labels [] = refl
  offered_many free labels (fec ∷ fecs) = many_all (given_up free labels) (fec ∷ fecs)

-- 4. Which FECs give up their labels is told by those that have one

abbrev HaveAlike : (ℕ → Bool) → (ℕ → Bool) → ℕ → List (Option ℕ) → Type 0
HaveAlike p q n xs = (k : ℕ) → k < length xs → (p (n + k) ≡ q (n + k)) ⊎ (slice_index_or xs k None ≡ None)

kept_same : (p q : ℕ → Bool) (n : ℕ) (xs : List (Option ℕ)) → HaveAlike p q n xs → kept_from p n xs ≡ kept_from q n xs
kept_same p q n [] h = refl
kept_same p q n (x ∷ xs) h =
    ap (λ y. y ∷ kept_from p (n + 1) xs) (first (h 0 (omega arith)))
    ∙ ap (λ ys. (if q n then None else x) ∷ ys) (kept_same p q (n + 1) xs (λ k g. subst (λ m. (p m ≡ q m) ⊎ (slice_index_or xs k None ≡ None)) (along k)
    (h (suc k) (omega (arith, g)))))
  where
    along : (k : ℕ) → n + suc k ≡ n + 1 + k
    along k = omega arith

    plain : n + 0 ≡ n
    plain = omega arith

    none : (b : Bool) → (if b then None else None) ≡ (let o : Option ℕ = None in o)
    none true = refl
    none false = refl

    first : (p (n + 0) ≡ q (n + 0)) ⊎ (x ≡ None) → (if p n then None else x) ≡ (if q n then None else x)
    first (inl e) = ap (λ b. if b then None else x) (subst (λ m. p m ≡ q m) plain e)
    first (inr e) = subst (λ y. (if p n then None else y) ≡ (if q n then None else y)) (sym e) (none (p n) ∙ sym (none (q n)))

pub offered_alike : (p q : ℕ → Bool) (labels : Labels) (fecs : List ℕ) → ((k : ℕ) → k < length labels.fecs → (p k ≡ q k) ⊎ (label_now labels k ≡ None)) →
    offered p labels fecs ≡ offered q labels fecs
offered_alike p q labels [] h = refl
offered_alike p q labels (fec ∷ fecs) h =
    ap (λ xs. offered_all (record labels { fecs = xs }) (fec ∷ fecs))
    (kept_same p q 0 labels.fecs (λ k g. subst (λ m. (p m ≡ q m) ⊎ (label_now labels k ≡ None)) (plain k) (h k g)))
  where
    plain : (k : ℕ) → k ≡ 0 + k
    plain k = omega arith

-- The labels that a node gives have 20 bits: no label is made for a FEC while one that nothing has is left.
use Rattle.std.proofs.Common.{ℕ, zero, suc, ◌≡◌, ◌≢◌, ◌+◌, ◌-◌, ◌<◌, ◌≤◌, ◌^◌, inl, inr, Bool, true, false, cond, List, [], ◌∷◌, ◌++◌, map, filter, length}
use Rattle.std.proofs.Common.{refl, arith, sym, ◌∙◌, ap, subst, length-append, length-set}
use Rattle.std.specs.Prelude.{Option, Some, None, slice_index_or, slice_set, replicate, ◌==◌, ◌&&◌, not, max, sum, if◌then◌else◌}
use Rattle.std.specs.List.{range_with_len, list_any}
use Rattle.std.proofs.lemmas.Bool.{or_cases}
use Rattle.std.proofs.lemmas.Bool.Decides.{leb_tells}
use Rattle.std.proofs.lemmas.List.{get_or-set_other, length-map, length-replicate}
use Rattle.std.proofs.lemmas.List.Elements.{filter-append}
use Rattle.mn_base.proofs.Bools.{clash, two_ways, and_left, and_right, same_numbers, same_test, other_numbers, other_test, less_tells, not_at_most_tells}
use Rattle.mn_base.proofs.Members.{In, AreApart, in_front, in_rest, in_filter, filter_in, in_range, map_in}
use Rattle.mn_labels.specs.declared.meaning.Given.{Given}
use Rattle.mn_labels.specs.Labels.{Labels, label_now, is_attachment, attachments_in, greatest, is_label, is_had, first_or, fec_of, attachment_of}
use Rattle.mn_labels.specs.Labels.{attached, offered_one, offered_all, given_up, kept_from, offered, next_label as least_free}
use Rattle.mn_labels.proofs.GivingUp.{kept_length}
use Rattle.mn_labels.proofs.Offering.{offered_long}
use Rattle.mn_wiring.specs.Wiring.{nodes_of}
use Rattle.mn_topo.specs.Network.{Network, wiring_of}
use Rattle.mn_topo.specs.Lawful.{IsLawful}
use Rattle.mn_topo.specs.Steps.{fits}
use Rattle.mn_topo.specs.declared.steps.Step.{Step}
use Rattle.mn_topo.specs.declared.steps.Step.TheVariants as step
use Rattle.mn_topo.specs.declared.steps.JournalEntry.{JournalEntry}
use Rattle.mn_base.specs.declared.numbers.SiteNo.{SiteNo}
use Rattle.mn_ledger.specs.Places.{home_of, sites_at}
use Rattle.mn_ledger.specs.World.{World, Config}
use Rattle.mn_ledger.specs.Packets.{Packets}
use Rattle.mn_ledger.specs.Ledger.{after, start, no_packets, next_of, left_by, packets_by, first_config, config_after, world_from, world_of}
use Rattle.mn_ledger.specs.Lawful.{IsLawfulFrom, IsLawfulJournal}
use Rattle.mn_ledger.specs.Refusal.{is_spent, labels_given}
use Rattle.mn_ledger.specs.Time.{clock_after}
use Rattle.mn_ledger.proofs.Refusals.{free}
use Rattle.mn_ledger_laws.proofs.There.{home_there}
use Rattle.mn_frame_laws.specs.Resting.{rested_after}
use Rattle.mn_frame_laws.specs.Labels.{begins_offer, new_offers, is_free, attached_in, labels_after, first_given, first_labels, labels_from}
use Rattle.mn_frame_laws.specs.Labels.{labels_of as node_labels}
use Rattle.mn_frame_laws.proofs.Labelling.{bounded}
use Rattle.mn_frame_laws.specs.Given.{given, label_in}
use Rattle.mn_frame_laws.specs.Numbers.{labels_of}
use Rattle.mn_frame_laws.proofs.Anew.{gives_to_no_other}
use Rattle.mn_frame_laws.proofs.Labels.{given_at}
use Rattle.mn_frame_laws.proofs.Ranges.{given_long}
use Rattle.mn_frame_laws.proofs.Spent.{total, total_is, step_gives, none_attached, as_many_given}
use Rattle.mn_bgp_spelling_laws.specs.Laws.{AreLabels}
use Rattle.mn_bgp_spelling_laws.proofs.Writable.{no_longer}
use Rattle.mn_routing_laws.specs.Labels.{next_label}

-- 1. A list that has unlike numbers is as long at least

range_apart : (a n : ℕ) → AreApart {A = ℕ} (λ x y. x ≡ y) (range_with_len a n)
range_apart a zero = tt
range_apart a (suc n) = (λ y i e. above (in_range (a + 1) n y i).0 e, range_apart (a + 1) n)
  where
    above : {a y : ℕ} → a + 1 ≤ y → a ≡ y → ⊥
    above h e = omega (arith, h, e)

without_shorter : (ys : List ℕ) (x : ℕ) → In ys x → length (filter (λ y. not (y == x)) ys) + 1 ≤ length ys
without_shorter [] x i = absurd i
without_shorter (y ∷ ys) x i = split (y == x) refl (without_shorter ys x) i
  where
    keeps : (zs : List ℕ) → length (filter (λ y. not (y == x)) zs) ≤ length zs
    keeps [] = omega arith
    keeps (z ∷ zs) = by (z == x) (keeps zs)
      where
        by : (b : Bool) → length (filter (λ y. not (y == x)) zs) ≤ length zs →
            length (cond (not b) (z ∷ filter (λ y. not (y == x)) zs) (filter (λ y. not (y == x)) zs)) ≤ length (z ∷ zs)
        by true h = omega (arith, h)
        by false h = omega (arith, h)

    split : (b : Bool) → (y == x) ≡ b → (In ys x → length (filter (λ y. not (y == x)) ys) + 1 ≤ length ys) → In (y ∷ ys) x →
        length (cond (not b) (y ∷ filter (λ z. not (z == x)) ys) (filter (λ z. not (z == x)) ys)) + 1 ≤ length (y ∷ ys)
    split true e more j = let k = keeps ys in omega (arith, k)
    split false e more j = elim j [
      | inl q ↦ absurd (other_numbers y x e q)
      | inr k ↦ let h = more k in omega (arith, h)
    ]

has_at_least : (xs ys : List ℕ) → AreApart {A = ℕ} (λ x y. x ≡ y) xs → ((x : ℕ) → In xs x → In ys x) → length xs ≤ length ys
has_at_least [] ys apart all = omega arith
has_at_least (x ∷ xs) ys apart all =
    let rest = has_at_least xs (filter (λ y. not (y == x)) ys) apart.1
    (λ y i. filter_in (λ y. not (y == x)) ys y (all y (inr i)) (ap not (other_test y x (λ e. apart.0 y i (sym e))))) in
    let fewer = without_shorter ys x (all x (inl refl)) in
    omega (arith, rest, fewer)

-- 2. The labels that FECs have

fec_labels : List (Option ℕ) → List ℕ
fec_labels [] = []
fec_labels (None ∷ xs) = fec_labels xs
fec_labels (Some label ∷ xs) = label ∷ fec_labels xs

in_fecs : (xs : List (Option ℕ)) (label : ℕ) → list_any (is_label label) xs ≡ true → In (fec_labels xs) label
unfolding fec_labels
in_fecs [] label h = absurd (clash (sym h))
in_fecs (None ∷ xs) label h = in_fecs xs label h
in_fecs (Some other ∷ xs) label h = elim (or_cases (other == label) (list_any (is_label label) xs) h) [
  | inl e ↦ inl (same_numbers other label e)
  | inr e ↦ inr (in_fecs xs label e)
]

no_more : (xs : List (Option ℕ)) → length (fec_labels xs) ≤ length xs
unfolding fec_labels
no_more [] = omega arith
no_more (None ∷ xs) = let rest = no_more xs in omega (arith, rest)
no_more (Some label ∷ xs) = let rest = no_more xs in omega (arith, rest)

one_less : (xs : List (Option ℕ)) (p : ℕ) → p < length xs → slice_index_or xs p None ≡ None → length (fec_labels xs) + 1 ≤ length xs
unfolding fec_labels
one_less [] p h e = absurd (omega (arith, h))
one_less (None ∷ xs) zero h e = let rest = no_more xs in omega (arith, rest)
one_less (Some label ∷ xs) zero h e = cc
one_less (None ∷ xs) (suc p) h e = let rest = one_less xs p (omega (arith, h)) e in omega (arith, rest)
one_less (Some label ∷ xs) (suc p) h e = let rest = one_less xs p (omega (arith, h)) e in omega (arith, rest)

two_less : (xs : List (Option ℕ)) (p q : ℕ) → p ≢ q → p < length xs → q < length xs → slice_index_or xs p None ≡ None → slice_index_or xs q None ≡ None →
    length (fec_labels xs) + 2 ≤ length xs
unfolding fec_labels
two_less [] p q d h g e f = absurd (omega (arith, h))
two_less (x ∷ xs) zero zero d h g e f = absurd (d refl)
two_less (None ∷ xs) zero (suc q) d h g e f = let rest = one_less xs q (omega (arith, g)) f in omega (arith, rest)
two_less (Some label ∷ xs) zero (suc q) d h g e f = cc
two_less (None ∷ xs) (suc p) zero d h g e f = let rest = one_less xs p (omega (arith, h)) e in omega (arith, rest)
two_less (Some label ∷ xs) (suc p) zero d h g e f = cc
two_less (None ∷ xs) (suc p) (suc q) d h g e f =
    let rest = two_less xs p q (λ s. d (ap suc s)) (omega (arith, h)) (omega (arith, g)) e f in omega (arith, rest)
two_less (Some label ∷ xs) (suc p) (suc q) d h g e f =
    let rest = two_less xs p q (λ s. d (ap suc s)) (omega (arith, h)) (omega (arith, g)) e f in omega (arith, rest)

-- 3. The greatest label

max_most : {a b m : ℕ} → a ≤ m → b ≤ m → max a b ≤ m
max_most h g = omega (arith, h, g)

pushed_most : (gs : List Given) (g : Given) (m : ℕ) → greatest gs ≤ m → g.label ≤ m → greatest (gs ++ g ∷ []) ≤ m
pushed_most [] g m h k = max_most k h
pushed_most (x ∷ gs) g m h k = max_most (below h (left x.label (greatest gs))) (pushed_most gs g m (below h (right x.label (greatest gs))) k)
  where
    below : {a b : ℕ} → b ≤ m → a ≤ b → a ≤ m
    below x y = omega (arith, x, y)

    left : (a b : ℕ) → a ≤ max a b
    left a b = omega arith

    right : (a b : ℕ) → b ≤ max a b
    right a b = omega arith

-- where each label up to the greatest is had, there are no more than attachments, and FECs that have one
site_labels : List Given → List ℕ
site_labels gs = map (λ (g : Given). g.label) (filter (λ (g : Given). is_attachment g.what) gs)

in_sites : (gs : List Given) (label : ℕ) → list_any (λ (g : Given). is_attachment g.what && (g.label == label)) gs ≡ true → In (site_labels gs) label
unfolding site_labels
in_sites [] label h = absurd (clash (sym h))
in_sites (g ∷ gs) label h = elim (or_cases (is_attachment g.what && (g.label == label))
    (list_any (λ (x : Given). is_attachment x.what && (x.label == label)) gs) h) [
      | inl e ↦ subst (In (site_labels (g ∷ gs))) (same_numbers g.label label (and_right (is_attachment g.what) (g.label == label) e))
          (map_in (λ (x : Given). x.label) (filter (λ (x : Given). is_attachment x.what) (g ∷ gs)) g
          (filter_in (λ (x : Given). is_attachment x.what) (g ∷ gs) g (inl refl) (and_left (is_attachment g.what) (g.label == label) e)))
      | inr e ↦ behind (is_attachment g.what) (in_sites gs label e)
    ]
  where
    behind : (b : Bool) → In (site_labels gs) label →
        In (map (λ (x : Given). x.label) (cond b (g ∷ filter (λ (x : Given). is_attachment x.what) gs) (filter (λ (x : Given). is_attachment x.what) gs))) label
    behind true i = inr i
    behind false i = i

length_numbers : (from size : ℕ) → length (range_with_len from size) ≡ size
length_numbers from zero = refl
length_numbers from (suc size) = ap suc (length_numbers (from + 1) size)

all_had : (labels : Labels) → ((x : ℕ) → In (range_with_len 16 (greatest labels.given - 15)) x → is_had labels x ≡ true) →
    greatest labels.given ≤ 15 + (attachments_in labels.given + length (fec_labels labels.fecs))
unfolding site_labels
all_had labels had =
    let many = has_at_least (range_with_len 16 (greatest labels.given - 15)) (site_labels labels.given ++ fec_labels labels.fecs)
    (range_apart 16 (greatest labels.given - 15)) (λ x i. elim (or_cases _ _ (had x i)) [
      | inl e ↦ in_front (site_labels labels.given) (fec_labels labels.fecs) x (in_sites labels.given x e)
      | inr e ↦ in_rest (site_labels labels.given) (fec_labels labels.fecs) x (in_fecs labels.fecs x e)
    ]) in
    let one = length_numbers 16 (greatest labels.given - 15) in
    let two = length-append (site_labels labels.given) (fec_labels labels.fecs) in
    let three = length-map (filter (λ (g : Given). is_attachment g.what) labels.given) (λ (g : Given). g.label) in
    omega (arith, many, one, two, three)

-- 4. Each change

-- no label is past this many, and the node's own FEC has none
record AreFew (node : ℕ) (labels : Labels) : Type 0 where
  few : greatest labels.given ≤ 15 + (attachments_in labels.given + (length labels.fecs - 1))
  own : label_now labels node ≡ None

more_attachments : (gs : List Given) (g : Given) → attachments_in (gs ++ g ∷ []) ≡ attachments_in gs + (if is_attachment g.what then 1 else 0)
more_attachments gs g =
    ap length (filter-append (λ (x : Given). is_attachment x.what) gs (g ∷ []))
    ∙ length-append (filter (λ (x : Given). is_attachment x.what) gs) (filter (λ (x : Given). is_attachment x.what) (g ∷ []))
    ∙ ap (λ n. attachments_in gs + n) (by (is_attachment g.what))
  where
    by : (b : Bool) → length (cond b (g ∷ []) []) ≡ (if b then 1 else 0)
    by true = refl
    by false = refl

attaches_few : (node : ℕ) (labels : Labels) (s k : ℕ) → AreFew node labels → AreFew node (attached labels (attachment_of s k))
attaches_few node labels s k h = record {
  few = pushed_most labels.given one _ (more (more_attachments labels.given one) h.few) (next (more_attachments labels.given one) h.few);
  own = h.own;
}
  where
    one : Given
    one = record { label = greatest labels.given + 1; what = attachment_of s k }

    more : attachments_in (labels.given ++ record { label = greatest labels.given + 1; what = attachment_of s k } ∷ []) ≡ attachments_in labels.given + 1 →
        greatest labels.given ≤ 15 + (attachments_in labels.given + (length labels.fecs - 1)) →
        greatest labels.given ≤ 15 + (attachments_in (labels.given ++ record {
          label = greatest labels.given + 1;
          what =
              attachment_of s k;
        } ∷ []) + (length labels.fecs - 1))
    more e f = omega (arith, e, f)

    next : attachments_in (labels.given ++ record { label = greatest labels.given + 1; what = attachment_of s k } ∷ []) ≡ attachments_in labels.given + 1 →
        greatest labels.given ≤ 15 + (attachments_in labels.given + (length labels.fecs - 1)) →
        greatest labels.given + 1 ≤ 15 + (attachments_in (labels.given ++ record {
          label = greatest labels.given + 1;
          what =
              attachment_of s k;
        } ∷ []) + (length labels.fecs - 1))
    next e f = omega (arith, e, f)

none_left : (q : ℕ → Bool) (xs : List ℕ) → filter (λ x. not (q x)) xs ≡ [] → (x : ℕ) → In xs x → q x ≡ true
none_left q xs e x i = elim (two_ways (q x)) [
  | inl on ↦ on
  | inr off ↦ absurd (subst (λ ys. In ys x) e (filter_in (λ y. not (q y)) xs x i (ap not off)))
]

-- the least that nothing has isn't past as many
least_few : (labels : Labels) (node p : ℕ) → node ≢ p → node < length labels.fecs → p < length labels.fecs → label_now labels p ≡ None → AreFew node labels →
    least_free labels ≤ 15 + (attachments_in labels.given + (length labels.fecs - 1))
least_few labels node p d inside below none h = by (filter (λ x. not (is_had labels x)) (range_with_len 16 (greatest labels.given - 15))) refl
  where
    by : (xs : List ℕ) → filter (λ x. not (is_had labels x)) (range_with_len 16 (greatest labels.given - 15)) ≡ xs →
        first_or (greatest labels.given + 1) xs ≤ 15 + (attachments_in labels.given + (length labels.fecs - 1))
    by [] e =
        let many = all_had labels (none_left (is_had labels) (range_with_len 16 (greatest labels.given - 15)) e) in
        let rest = two_less labels.fecs node p d inside below h.own none in
        omega (arith, many, rest)
    by (x ∷ xs) e =
        let i = in_range 16 (greatest labels.given - 15) x
        (in_filter (λ y. not (is_had labels y)) (range_with_len 16 (greatest labels.given - 15)) x (subst (λ ys. In ys x) (sym e) (inl refl))).0 in
        within i.0 i.1 h.few
      where
        within : 16 ≤ x → x < 16 + (greatest labels.given - 15) → greatest labels.given ≤ 15 + (attachments_in labels.given + (length labels.fecs - 1)) →
            x ≤ 15 + (attachments_in labels.given + (length labels.fecs - 1))
        within a b c = omega (arith, a, b, c)

offers_few : (node p : ℕ) (labels : Labels) → node ≢ p → node < length labels.fecs → p < length labels.fecs → AreFew node labels →
    AreFew node (offered_one labels p)
offers_few node p labels d inside below h = by (label_now labels p) refl
  where
    one : Given
    one = record { label = least_free labels; what = fec_of p }

    by : (o : Option ℕ) → label_now labels p ≡ o → AreFew node (elim o as (λ _. Labels) [
      | Some label ↦ labels
      | None ↦ record {
        given = labels.given ++ record { label = least_free labels; what = fec_of p } ∷ [];
        fecs = slice_set labels.fecs p (Some (least_free labels));
      }
    ])
    by (Some label) e = h
    by None e = record {
      few = pushed_most labels.given (record { label = least_free labels; what = fec_of p }) _ (same h.few) (same (least_few labels node p d inside below e h));
      own = get_or-set_other labels.fecs p node (Some (least_free labels)) None d ∙ h.own;
    }
      where
        same : {a : ℕ} → a ≤ 15 + (attachments_in labels.given + (length labels.fecs - 1)) →
            a ≤ 15 + (attachments_in (labels.given ++ record {
              label = least_free labels;
              what =
                  fec_of p;
            } ∷ []) + (length (slice_set labels.fecs p (Some (least_free labels))) - 1))
        same {a} q = let e = more_attachments labels.given one in let f = length-set labels.fecs p (Some (least_free labels)) in
            subst (λ n. a ≤ 15 + (attachments_in (labels.given ++ record { label = least_free labels; what = fec_of p } ∷ []) + (n - 1))) (sym f)
            (subst (λ n. a ≤ 15 + (n + (length labels.fecs - 1))) (sym (e ∙ plain (attachments_in labels.given))) q)
          where
            plain : (n : ℕ) → n + 0 ≡ n
            plain n = omega arith

one_long : (labels : Labels) (p : ℕ) → length (offered_one labels p).fecs ≡ length labels.fecs
one_long labels p = by (label_now labels p)
  where
    by : (o : Option ℕ) → length (elim o as (λ _. Labels) [
      | Some label ↦ labels
      | None ↦ record {
        given = labels.given ++ record { label = least_free labels; what = fec_of p } ∷ [];
        fecs = slice_set labels.fecs p (Some (least_free labels));
      }
    ]).fecs ≡ length labels.fecs
    by (Some label) = refl
    by None = length-set labels.fecs p (Some (least_free labels))

all_few : (node many : ℕ) (fecs : List ℕ) (labels : Labels) → ((p : ℕ) → In fecs p → (node ≢ p) × (p < many)) → node < many → length labels.fecs ≡ many →
    AreFew node labels → AreFew node (offered_all labels fecs)
all_few node many [] labels apart inside long h = h
all_few node many (fec ∷ fecs) labels apart inside long h =
    all_few node many fecs (offered_one labels fec) (λ p i. apart p (inr i)) inside (one_long labels fec ∙ long)
    (offers_few node fec labels (apart fec (inl refl)).0 (subst (λ m. node < m) (sym long) inside) (subst (λ m. fec < m) (sym long) (apart fec (inl refl)).1) h)

kept_none : (free : ℕ → Bool) (k : ℕ) (xs : List (Option ℕ)) (p : ℕ) → slice_index_or xs p None ≡ None → slice_index_or (kept_from free k xs) p None ≡ None
kept_none free k [] p e = refl
kept_none free k (x ∷ xs) zero e = by (free k)
  where
    by : (b : Bool) → (if b then None else x) ≡ None
    by true = refl
    by false = e
kept_none free k (x ∷ xs) (suc p) e = kept_none free (k + 1) xs p e

offered_few : (free : ℕ → Bool) (node many : ℕ) (fecs : List ℕ) (labels : Labels) → ((p : ℕ) → In fecs p → (node ≢ p) × (p < many)) → node < many →
    length labels.fecs ≡ many → AreFew node labels → AreFew node (offered free labels fecs)
offered_few free node many [] labels apart inside long h = h
offered_few free node many (fec ∷ fecs) labels apart inside long h =
    all_few node many (fec ∷ fecs) (given_up free labels) apart inside (kept_length free 0 labels.fecs ∙ long) (record {
      few = subst (λ n. greatest labels.given ≤ 15 + (attachments_in labels.given + (n - 1))) (sym (kept_length free 0 labels.fecs)) h.few;
      own = kept_none free 0 labels.fecs node h.own;
    })

-- 5. A journal

attached_few : (t : Network) (w : World) (s : Step) (node : ℕ) (labels : Labels) → AreFew node labels → AreFew node (attached_in t w s node labels)
attached_few t w (step.Attach site) node labels h = by (home_of t site.0 == node)
  where
    by : (b : Bool) → AreFew node (if b then attached labels (attachment_of site.0 (w.config.attaches site.0 + 2)) else labels)
    by true = attaches_few node labels site.0 (w.config.attaches site.0 + 2) h
    by false = h
attached_few t w _ node labels h = h

attached_long : (t : Network) (w : World) (s : Step) (node : ℕ) (labels : Labels) → length (attached_in t w s node labels).fecs ≡ length labels.fecs
attached_long t w (step.Attach site) node labels = by (home_of t site.0 == node)
  where
    by : (b : Bool) → length (if b then attached labels (attachment_of site.0 (w.config.attaches site.0 + 2)) else labels).fecs ≡ length labels.fecs
    by true = refl
    by false = refl
attached_long t w _ node labels = refl

offers_others : (t : Network) (w : World) (s : Step) (node p : ℕ) → In (new_offers t w s node) p → (node ≢ p) × (p < length t.loopbacks)
offers_others t w s node p i =
    let f = in_filter (begins_offer t w s node) (nodes_of (wiring_of t)) p i in
    (λ e. clash (sym (and_left (not (p == node)) _ f.1) ∙ ap not (ap (λ n. p == n) e ∙ same_test p)), below (in_range 0 (length t.loopbacks) p f.0).1)
  where
    below : p < 0 + length t.loopbacks → p < length t.loopbacks
    below h = omega (arith, h)

from_few : (t : Network) (node : ℕ) → node < length t.loopbacks → (es : List JournalEntry) (w : World) (rested : ℕ → ℕ) (labels : Labels) →
    length labels.fecs ≡ length t.loopbacks → AreFew node labels → AreFew node (labels_from t node w rested labels es)
from_few t node inside [] w rested labels long h = h
from_few t node inside (e ∷ es) w rested labels long h =
    from_few t node inside es (after t w e.step) (rested_after t w e.tick e.step node rested) (labels_after t w e.tick e.step node rested labels)
    (offered_long (is_free t w node rested e.tick) (attached_in t w e.step node labels) (new_offers t w e.step node) ∙ attached_long t w e.step node labels
    ∙ long)
    (offered_few (is_free t w node rested e.tick) node (length t.loopbacks) (new_offers t w e.step node) (attached_in t w e.step node labels)
    (offers_others t w e.step node) inside (attached_long t w e.step node labels ∙ long) (attached_few t w e.step node labels h))

first_most : (label : ℕ) (sites : List ℕ) (m : ℕ) → 15 ≤ m → label + length sites ≤ m + 1 → greatest (first_given label sites) ≤ m
first_most label [] m low h = low
first_most label (s ∷ ss) m low h = max_most (omega (arith, h)) (first_most (label + 1) ss m low (omega (arith, h)))

first_many : (label : ℕ) (sites : List ℕ) → attachments_in (first_given label sites) ≡ length sites
first_many label [] = refl
first_many label (s ∷ ss) = ap suc (first_many (label + 1) ss)

nothing_first : (many p : ℕ) → slice_index_or (replicate many None) p None ≡ (let o : Option ℕ = None in o)
nothing_first zero p = refl
nothing_first (suc many) zero = refl
nothing_first (suc many) (suc p) = nothing_first many p

pub greatest_few : (t : Network) (es : List JournalEntry) (node : ℕ) → node < length t.loopbacks →
    greatest (given t es node).given ≤ 15 + (attachments_in (given t es node).given + (length t.loopbacks - 1))
unfolding given node_labels
greatest_few t es node inside =
    subst (λ n. greatest (given t es node).given ≤ 15 + (attachments_in (given t es node).given + (n - 1))) (given_long t es node)
    (from_few t node inside es (start t) (λ fec. 0) (first_labels t node) (length-replicate (length t.loopbacks) None) (record {
      few = first_most 16 (sites_at t node) _ (omega arith) (enough (first_many 16 (sites_at t node)));
      own = nothing_first (length t.loopbacks) node;
    })).few
  where
    enough : attachments_in (first_given 16 (sites_at t node)) ≡ length (sites_at t node) →
        16 + length (sites_at t node) ≤ 15 + (attachments_in (first_labels t node).given + (length (first_labels t node).fecs - 1)) + 1
    enough e = omega (arith, e)

-- 6. As many as the ledger counts

pub next_fits : (t : Network) (es : List JournalEntry) (ps : List (List ℕ)) (s : Step) → IsLawful t → IsLawfulJournal t es ps → fits t s ≡ true →
    is_spent t (world_of t es).config s ≡ false → (site : SiteNo) → s ≡ step.Attach site → next_label t es site.0 < 2 ^ 20
next_fits t es ps s lawful journal fit unspent site is =
    let few = greatest_few t es (home_of t site.0) (home_there t site.0 lawful (less_tells site.0 (length t.sites) (sym (ap (fits t) is) ∙ fit))) in
    let many = as_many_given t es ps (home_of t site.0) journal in
    let left : labels_given t (world_of t es).config (home_of t site.0) < 1048560 =
    not_at_most_tells 1048560 (labels_given t (world_of t es).config (home_of t site.0)) (sym (ap (is_spent t (world_of t es).config) is) ∙ unspent) in
    omega (arith, few, many, left)

-- the ledger's count is never past the greatest label
abbrev AreWithin : Network → Config → Type 0
AreWithin t c = (node : ℕ) → labels_given t c node ≤ 1048560

first_within : (t : Network) → IsLawful t → AreWithin t (first_config t)
first_within t lawful node =
    let fewer : length (sites_at t node) ≤ length (range_with_len 0 (length t.sites)) =
    no_longer (λ s. home_of t s == node) (range_with_len 0 (length t.sites)) in
    let few : length (range_with_len 0 (length t.sites)) ≡ length t.sites = length_numbers 0 (length t.sites) in
    let sites : length t.sites ≤ 4096 = lawful.few_sites in
    let nodes : length t.loopbacks ≤ 256 = lawful.few_nodes in
    let none = total_is (λ s. 0) (sites_at t node) ∙ none_attached (sites_at t node) in
    omega (arith, fewer, few, sites, nodes, none)

within_step : (t : Network) (c : Config) (s : Step) → fits t s ≡ true → is_spent t c s ≡ false → AreWithin t c → AreWithin t (config_after c s)
within_step t c (step.Attach site) fit unspent h node = by (home_of t site.0 == node) refl (step_gives t node c (step.Attach site) fit)
  where
    was : sum (map c.attaches (sites_at t node)) ≡ total c.attaches (sites_at t node)
    was = total_is c.attaches (sites_at t node)

    now : sum (map (config_after c (step.Attach site)).attaches (sites_at t node)) ≡ total (config_after c (step.Attach site)).attaches (sites_at t node)
    now = total_is (config_after c (step.Attach site)).attaches (sites_at t node)

    by : (b : Bool) → (home_of t site.0 == node) ≡ b →
        total (config_after c (step.Attach site)).attaches (sites_at t node)
        ≡ length (if b then attachment_of site.0 (c.attaches site.0 + 2) ∷ [] else []) + total c.attaches (sites_at t node) →
        labels_given t (config_after c (step.Attach site)) node ≤ 1048560
    by false e gives = (let old = h node in omega (arith, gives, was, now, old))
    by true e gives =
        let left : labels_given t c (home_of t site.0) < 1048560 = not_at_most_tells 1048560 (labels_given t c (home_of t site.0)) unspent in
        let here : labels_given t c node < 1048560 = subst (λ n. labels_given t c n < 1048560) (same_numbers (home_of t site.0) node e) left in
        omega (arith, gives, was, now, here)
within_step t c _ fit unspent h node = h node

within_from : (t : Network) (es : List JournalEntry) (tick : ℕ) (w : World) (k : Packets) (n : ℕ) (ps : List (List ℕ)) → IsLawfulFrom t tick w k n es ps →
    AreWithin t w.config → AreWithin t (world_from t w es).config
within_from t [] tick w k n ps lawful h = h
within_from t (e ∷ es) tick w k n ps lawful h =
    let ok = free t w k n e.step (next_of ps) lawful.2 in
    within_from t es (clock_after e) (after t w e.step) (packets_by t (after t w e.step) k e (next_of ps)) (n + 1) (left_by e.step ps) lawful.3
    (within_step t w.config e.step lawful.0 ok.labels h)

pub all_small : (t : Network) (es : List JournalEntry) (ps : List (List ℕ)) → IsLawful t → IsLawfulJournal t es ps → AreLabels (labels_of t es)
unfolding labels_of
all_small t es ps lawful journal site k = elim (leb_tells 16 (label_in (given t es (home_of t site)) (attachment_of site k))) [
  | inl had ↦
      (let at = gives_to_no_other t es ps (home_of t site) site k journal had.1 in
      let few = greatest_few t es (home_of t site) (home_there t site lawful at.there) in
      let many = as_many_given t es ps (home_of t site) journal in
      let within = within_from t es 0 (start t) no_packets 0 ps journal (first_within t lawful) (home_of t site) in
      let most = bounded (given t es (home_of t site)).given _ (given_at (attachment_of site k) (given t es (home_of t site)).given had.1) in
      omega (arith, few, many, within, most))
  | inr low ↦ (let small = low.1 in omega (arith, small))
]

-- What is true of every node's labels stays so as one is given and given up.
use Rattle.std.proofs.Common.{ℕ, zero, suc, ◌≡◌, ◌≢◌, ◌+◌, ◌≤◌, ◌<◌, ◌⊎◌, inl, inr, Bool, true, false, cond, List, [], ◌∷◌, ◌++◌, filter, length, map, get_or}
use Rattle.std.proofs.Common.{set}
use Rattle.std.proofs.Common.{refl, arith, sym, ◌∙◌, ap, subst, length-append, length-set}
use Rattle.std.specs.Prelude.{Option, Some, None, IfSome, is_some, not, ◌==◌, ◌-◌, max}
use Rattle.std.specs.List.{range_with_len, Contains}
use Rattle.std.proofs.lemmas.List.{get_or-set_same, get_or-set_other, get_or_read, length-map}
use Rattle.std.proofs.lemmas.List.Elements.{filter-append}
use Rattle.mn_base.proofs.Bools.{no, same_numbers, other_numbers}
use Rattle.mn_base.proofs.Members.{In, in_append, in_front, in_rest, in_range, in_contained, contained_in, AreApart, apart_filter, apart_push}
use Rattle.mn_base.specs.Limits.{most_labels}
use Rattle.mn_base.specs.declared.numbers.NodeNo.{NodeNo}
use Rattle.mn_base.specs.declared.numbers.SiteNo.{SiteNo}
use Rattle.mn_labels.specs.declared.meaning.Bind.{Bind}
use Rattle.mn_labels.specs.declared.meaning.Bind.TheVariants.{Fec, Site}
use Rattle.mn_labels.specs.declared.meaning.Given.{Given}
use Rattle.mn_labels.specs.Labels.{greatest, is_attachment, attachments_in}
use Rattle.mn_labels.specs.Kept.{AreKept, IsMeaning, is_site, is_no_site}
use Rattle.mn_labels.proofs.Lists.{inside_at, grown, grown_below, grown_end, grown_back, set_back, filter_on, range_more, range_apart, has_at_least}
use Rattle.mn_labels.proofs.Having.{reused_in}

-- 1. One giving more

greatest_more : (given : List Given) (g : Given) → greatest (given ++ g ∷ []) ≡ max (greatest given) g.label
greatest_more [] g = omega arith
greatest_more (h ∷ hs) g = let e = greatest_more hs g in omega (arith, e)

attachments_more : (given : List Given) (g : Given) (n : ℕ) → cond (is_attachment g.what) 1 0 ≡ n → attachments_in (given ++ g ∷ []) ≡ attachments_in given + n
attachments_more given g n e =
    ap length (filter-append (λ (h : Given). is_attachment h.what) given (g ∷ []))
    ∙ length-append (filter (λ (h : Given). is_attachment h.what) given) (filter (λ (h : Given). is_attachment h.what) (g ∷ []))
    ∙ ap (λ k. attachments_in given + k) (by (is_attachment g.what) e)
  where
    by : (b : Bool) → cond b 1 0 ≡ n → length (cond b (g ∷ []) []) ≡ n
    by true e = e
    by false e = e

last_in : {A : Type 0} (xs : List A) (x y : A) → In (xs ++ x ∷ []) y → In xs y ⊎ (x ≡ y)
last_in xs x y i = elim (in_append xs (x ∷ []) y i) [ inl j ↦ inl j | inr j ↦ elim j [ inl e ↦ inr e | inr k ↦ absurd k ] ]

contains_more : (given : List Given) (g h : Given) → Contains given h → Contains (given ++ g ∷ []) h
contains_more given g h c = contained_in (given ++ g ∷ []) h (in_front given (g ∷ []) h (in_contained given h c))

-- a giving of an attachment that stands there once more is one of before where this one is a FEC's
contains_back : (given : List Given) (label k : ℕ) (node : NodeNo) (site : SiteNo) (number : ℕ) →
    Contains (given ++ record { label = k; what = Fec node } ∷ []) (record { label = label; what = Site site number }) →
    Contains given (record { label = label; what = Site site number })
contains_back given label k node site number c = elim (last_in given _ _ (in_contained _ _ c)) [
  | inl j ↦ contained_in given _ j
  | inr e ↦ absurd (no (ap (λ (g : Given). is_attachment g.what) e))
]

-- 2. The numbers of FECs' labels

place_less : {x n : ℕ} → 16 ≤ x → x < 16 + n → x - 16 < n
place_less h g = omega (arith, h, g)

reused_grown : (meanings : List (Option Bind)) (x : Option Bind) → filter (is_no_site (meanings ++ x ∷ [])) (range_with_len 16 (length (meanings ++ x ∷ [])))
    ≡ filter (is_no_site meanings) (range_with_len 16 (length meanings)) ++ cond (not (is_site x)) ((16 + length meanings) ∷ []) []
reused_grown meanings x =
    ap (λ n. filter (is_no_site (meanings ++ x ∷ [])) (range_with_len 16 n)) (one_more (length-append meanings (x ∷ [])))
    ∙ ap (filter (is_no_site (meanings ++ x ∷ []))) (range_more 16 (length meanings))
    ∙ filter-append (is_no_site (meanings ++ x ∷ [])) (range_with_len 16 (length meanings)) ((16 + length meanings) ∷ [])
    ∙ ap (λ ys. ys ++ cond (is_no_site (meanings ++ x ∷ []) (16 + length meanings)) ((16 + length meanings) ∷ []) [])
    (filter_on (is_no_site (meanings ++ x ∷ [])) (is_no_site meanings) (range_with_len 16 (length meanings))
    (λ y i. let r = in_range 16 (length meanings) y i in ap (λ v. not (is_site v)) (grown_below meanings x (y - 16) (place_less r.0 r.1))))
    ∙ ap (λ v. filter (is_no_site meanings) (range_with_len 16 (length meanings)) ++ cond (not (is_site v)) ((16 + length meanings) ∷ []) [])
    (grown_end meanings x (16 + length meanings - 16) (plain (length meanings)))
  where
    one_more : {a b : ℕ} → a ≡ b + 1 → a ≡ suc b
    one_more e = omega (arith, e)

    plain : (n : ℕ) → 16 + n - 16 ≡ n
    plain n = omega arith

reused_set : (meanings : List (Option Bind)) (at : ℕ) (x : Option Bind) → at < length meanings → is_site (get_or meanings at None) ≡ false → is_site x ≡ false →
    filter (is_no_site (set meanings at x)) (range_with_len 16 (length (set meanings at x))) ≡ filter (is_no_site meanings)
    (range_with_len 16 (length meanings))
reused_set meanings at x inside was is =
    ap (λ n. filter (is_no_site (set meanings at x)) (range_with_len 16 n)) (length-set meanings at x)
    ∙ filter_on (is_no_site (set meanings at x)) (is_no_site meanings) (range_with_len 16 (length meanings)) (λ y i. by y ((y - 16) == at) refl)
  where
    by : (y : ℕ) (b : Bool) → ((y - 16) == at) ≡ b → is_no_site (set meanings at x) y ≡ is_no_site meanings y
    by y true e =
        let q = same_numbers (y - 16) at e in
        ap (λ n. not (is_site (get_or (set meanings at x) n None))) q
        ∙ ap (λ v. not (is_site v)) (get_or-set_same meanings at x None inside) ∙ ap not (is ∙ sym was)
        ∙ ap (λ n. not (is_site (get_or meanings n None))) (sym q)
    by y false e = ap (λ v. not (is_site v)) (get_or-set_other meanings at (y - 16) x None (other_numbers (y - 16) at e))

-- 3. An attachment is given a label

abbrev giving : ℕ → Bind → Given
giving label thing = record { label = label; what = thing }

place_is : {x n : ℕ} → 16 ≤ x → x - 16 ≡ n → x ≡ 16 + n
place_is h e = omega (arith, h, e)

pub attach_keeps : (given : List Given) (fecs : List (Option ℕ)) (meanings : List (Option Bind)) (reusable : List ℕ) (me : ℕ) →
    AreKept given fecs meanings reusable me → attachments_in given + length fecs ≤ most_labels → (site : SiteNo) (number : ℕ) →
    AreKept (given ++ record { label = 16 + length meanings; what = Site site number } ∷ []) fecs (meanings ++ Some (Site site number) ∷ []) reusable me
attach_keeps given fecs meanings reusable me kept few site number =
    let what : Bind = Site site number in
    let g : Given = record { label = 16 + length meanings; what = what } in
    let more = attachments_more given g 1 refl in
    let long = length-append meanings (Some what ∷ []) in
    record {
      fec = λ node label e. let h = kept.fec node label e in (h.0, grown meanings (Some what) (label - 16) (Fec node) h.1);
      site = λ s n label c. elim (last_in given g _ (in_contained _ _ c)) [
        | inl j ↦ let h = kept.site s n label (contained_in given _ j) in (h.0, grown meanings (Some what) (label - 16) (Site s n) h.1)
        | inr e ↦ subst (λ (x : Given). IsMeaning (meanings ++ Some what ∷ []) x.label x.what) e
            (above (length meanings), grown_end meanings (Some what) (16 + length meanings - 16) (plain (length meanings)))
      ];
      had_fec = λ node label h. elim (grown_back meanings (Some what) (label - 16) (Fec node) h.1) [
        | inl e ↦ kept.had_fec node label (h.0, e)
        | inr e ↦ absurd (let q : Some what ≡ Some (Fec node) = e.1 in cc)
      ];
      had_site = λ s n label h. elim (grown_back meanings (Some what) (label - 16) (Site s n) h.1) [
        | inl e ↦ contains_more given g _ (kept.had_site s n label (h.0, e))
        | inr e ↦ contained_in _ _ (in_rest given (g ∷ []) _ (inl (same label (Site s n) (place_is h.0 e.0) e.1)))
      ];
      last = let e = greatest_more given g in omega (arith, e, long, kept.last);
      reused = kept.reused ∙ nothing _ ∙ sym (reused_grown meanings (Some what));
      count = omega (arith, kept.count, more, long);
      few = omega (arith, more, few);
      others = kept.others;
      node = kept.node;
      own = kept.own;
    }
  where
    above : (n : ℕ) → 16 ≤ 16 + n
    above n = omega arith

    plain : (n : ℕ) → 16 + n - 16 ≡ n
    plain n = omega arith

    nothing : (xs : List ℕ) → xs ≡ xs ++ []
    nothing [] = refl
    nothing (x ∷ xs) = ap (λ ys. x ∷ ys) (nothing xs)

    same : (label : ℕ) (thing : Bind) → label ≡ 16 + length meanings → Some (Site site number) ≡ Some thing →
        giving (16 + length meanings) (Site site number) ≡ giving label thing
    same label thing e q = ap (λ n. giving n (Site site number)) (sym e) ∙ ap (giving label) (inner q)
      where
        inner : {a b : Bind} → Some a ≡ Some b → a ≡ b
        inner q = cc

-- 4. A FEC gives up its label

pub forget_keeps : (given : List Given) (fecs : List (Option ℕ)) (meanings : List (Option Bind)) (reusable : List ℕ) (me : ℕ) →
    AreKept given fecs meanings reusable me → (at : ℕ) (label : ℕ) → get_or fecs at None ≡ Some label →
    AreKept given (set fecs at None) (set meanings (label - 16) None) reusable me
forget_keeps given fecs meanings reusable me kept at label e =
    let had = kept.fec (record { 0 = at }) label e in
    let inside = inside_at meanings (label - 16) _ had.1 in
    let same_fecs = length-set fecs at None in
    let same_meanings = length-set meanings (label - 16) None in
    record {
      fec = λ node other f. elim (set_back fecs at None node.0 other f) [
        | inl q ↦ cc
        | inr q ↦
            let h = kept.fec node other q.1 in (
              h.0,
              get_or-set_other meanings (label - 16) (other - 16) None None (λ s. q.0 (which node (sym h.1 ∙ ap (λ k. get_or meanings k None) s ∙ had.1)))
                  ∙ h.1,
            )
      ];
      site = λ s n other c. let h = kept.site s n other c in (
        h.0,
        get_or-set_other meanings (label - 16) (other - 16) None None (λ q. unlike s n (sym had.1 ∙ ap (λ k. get_or meanings k None) (sym q) ∙ h.1))
            ∙ h.1,
      );
      had_fec = λ node other h. elim (set_back meanings (label - 16) None (other - 16) (Fec node) h.1) [
        | inl q ↦ cc
        | inr q ↦
            let f = kept.had_fec node other (h.0, q.1) in
            get_or-set_other fecs at node.0 None None (λ s. q.0 (ap (λ k. k - 16) (apart (sym f ∙ ap (λ k. get_or fecs k None) s ∙ e)))) ∙ f
      ];
      had_site = λ s n other h. elim (set_back meanings (label - 16) None (other - 16) (Site s n) h.1) [
        | inl q ↦ cc
        | inr q ↦ kept.had_site s n other (h.0, q.1)
      ];
      last = omega (arith, kept.last, same_meanings);
      reused = kept.reused ∙ sym (reused_set meanings (label - 16) None inside (ap is_site had.1) refl);
      count = omega (arith, kept.count, same_meanings);
      few = omega (arith, kept.few, same_fecs);
      others = omega (arith, kept.others, same_fecs);
      node = omega (arith, kept.node, same_fecs);
      own = by (me == at) refl;
    }
  where
    by : (b : Bool) → (me == at) ≡ b → get_or (set fecs at None) me None ≡ None
    by true q = ap (λ k. get_or (set fecs at None) k None) (same_numbers me at q) ∙ get_or-set_same fecs at None None (inside_at fecs at label e)
    by false q = get_or-set_other fecs at me None None (other_numbers me at q) ∙ kept.own

    unlike : (s : SiteNo) (n : ℕ) → Some (Fec (record { 0 = at })) ≡ Some (Site s n) → ⊥
    unlike s n q = cc

    which : (node : NodeNo) → Some (Fec node) ≡ Some (Fec (record { 0 = at })) → node.0 ≡ at
    which node q = ap (λ (m : NodeNo). m.0) (inner q)
      where
        inner : {a b : NodeNo} → Some (Fec a) ≡ Some (Fec b) → a ≡ b
        inner q = cc

    apart : {a b : ℕ} → Some a ≡ Some b → a ≡ b
    apart q = cc

pub attach_keeps_at : (given : List Given) (fecs : List (Option ℕ)) (meanings : List (Option Bind)) (reusable : List ℕ) (me : ℕ) →
    AreKept given fecs meanings reusable me → attachments_in given + length fecs ≤ most_labels → (site : SiteNo) (number n : ℕ) → n ≡ length meanings →
    AreKept (given ++ giving (16 + n) (Site site number) ∷ []) fecs (meanings ++ Some (Site site number) ∷ []) reusable me
attach_keeps_at given fecs meanings reusable me kept few site number n e =
    subst (λ k. AreKept (given ++ giving (16 + k) (Site site number) ∷ []) fecs (meanings ++ Some (Site site number) ∷ []) reusable me) (sym e)
    (attach_keeps given fecs meanings reusable me kept few site number)

-- 5. What is known of a label

pub label_fits : (given : List Given) (fecs : List (Option ℕ)) (meanings : List (Option Bind)) (reusable : List ℕ) (me : ℕ) →
    AreKept given fecs meanings reusable me → (at label : ℕ) → get_or fecs at None ≡ Some label →
    (16 ≤ label) × (label - 16 < length meanings) × (at < length fecs) × (label < 1048576)
label_fits given fecs meanings reusable me kept at label e =
    let had = kept.fec (record { 0 = at }) label e in
    let inside = inside_at meanings (label - 16) _ had.1 in
    (had.0, inside, inside_at fecs at label e, few _ _ _ _ _ had.0 inside kept.count kept.others kept.few)
  where
    few : (a m n r f : ℕ) → 16 ≤ a → a - 16 < m → m ≡ n + r → r + 1 ≤ f → n + f ≤ most_labels + 1 → a < 1048576
    few a m n r f h i c o q = omega (arith, h, i, c, o, q)

pub read_fits : (given : List Given) (fecs : List (Option ℕ)) (meanings : List (Option Bind)) (reusable : List ℕ) (me : ℕ) →
    AreKept given fecs meanings reusable me → (at : ℕ) (x : Option ℕ) → at < length fecs → x ≡ get_or fecs at x →
    IfSome x (λ label. (16 ≤ label) × (label < 1048576))
read_fits given fecs meanings reusable me kept at None h e = tt
read_fits given fecs meanings reusable me kept at (Some label) h e =
    let f = label_fits given fecs meanings reusable me kept at label (sym (get_or_read fecs at (Some label) h e None)) in
    (f.0, f.3)

-- 6. A FEC takes a label that nothing has

same_node : (a b : NodeNo) → a.0 ≡ b.0 → Some (Fec a) ≡ Some (Fec b)
same_node a b e = ap (λ k. Some (Fec (record { 0 = k }))) e

inner_node : (a b : NodeNo) → Some (Fec a) ≡ Some (Fec b) → a ≡ b
inner_node a b q = cc

inner_label : (a b : ℕ) → Some a ≡ Some b → a ≡ b
inner_label a b q = cc

nothing_there : {A : Type 0} (x : A) → Some x ≡ None → ⊥
nothing_there x q = cc

set_own : (fecs : List (Option ℕ)) (me at : ℕ) (x : Option ℕ) → at ≢ me → get_or fecs me None ≡ None → get_or (set fecs at x) me None ≡ None
set_own fecs me at x h own = get_or-set_other fecs at me x None (λ e. h (sym e)) ∙ own

pub reuse_keeps : (given : List Given) (fecs : List (Option ℕ)) (meanings : List (Option Bind)) (reusable : List ℕ) (me : ℕ) →
    AreKept given fecs meanings reusable me → (node : NodeNo) (label : ℕ) → node.0 < length fecs → node.0 ≢ me → get_or fecs node.0 None ≡ None →
    16 ≤ label → label < 16 + length meanings → get_or meanings (label - 16) None ≡ None →
    AreKept (given ++ giving label (Fec node) ∷ []) (set fecs node.0 (Some label)) (set meanings (label - 16) (Some (Fec node))) reusable me
reuse_keeps given fecs meanings reusable me kept node label there other none low high vacant =
    let inside = place_less low high in
    let same_fecs = length-set fecs node.0 (Some label) in
    let same_meanings = length-set meanings (label - 16) (Some (Fec node)) in
    let more = attachments_more given (giving label (Fec node)) 0 refl in
    record {
      fec = λ n a f. elim (set_back fecs node.0 (Some label) n.0 a f) [
        | inl q ↦ subst (λ x. IsMeaning (set meanings (label - 16) (Some (Fec node))) x (Fec n)) (inner_label label a q.1)
            (low, get_or-set_same meanings (label - 16) (Some (Fec node)) None inside ∙ same_node node n (sym q.0))
        | inr q ↦ let h = kept.fec n a q.1 in (h.0, stays (a - 16) (Fec n) h.1)
      ];
      site = λ s n a c. let h = kept.site s n a (contains_back given a label node s n c) in (h.0, stays (a - 16) (Site s n) h.1);
      had_fec = λ n a h. elim (set_back meanings (label - 16) (Some (Fec node)) (a - 16) (Fec n) h.1) [
        | inl q ↦ subst (λ (x : NodeNo). get_or (set fecs node.0 (Some label)) x.0 None ≡ Some a) (inner_node node n q.1)
            (get_or-set_same fecs node.0 (Some label) None there ∙ ap Some (one_label low h.0 q.0))
        | inr q ↦
            let f = kept.had_fec n a (h.0, q.1) in
            get_or-set_other fecs node.0 n.0 (Some label) None (λ e. nothing_there a (sym f ∙ ap (λ k. get_or fecs k None) e ∙ none)) ∙ f
      ];
      had_site = λ s n a h. elim (set_back meanings (label - 16) (Some (Fec node)) (a - 16) (Site s n) h.1) [
        | inl q ↦ absurd (unlike s n q.1)
        | inr q ↦ contains_more given _ _ (kept.had_site s n a (h.0, q.1))
      ];
      last = let e = greatest_more given (giving label (Fec node)) in omega (arith, e, kept.last, same_meanings, high);
      reused = kept.reused ∙ sym (reused_set meanings (label - 16) (Some (Fec node)) inside (ap is_site vacant) refl);
      count = omega (arith, kept.count, same_meanings, more);
      few = omega (arith, kept.few, same_fecs, more);
      others = omega (arith, kept.others, same_fecs);
      node = omega (arith, kept.node, same_fecs);
      own = set_own fecs me node.0 (Some label) other kept.own;
    }
  where
    stays : (k : ℕ) (thing : Bind) → get_or meanings k None ≡ Some thing → get_or (set meanings (label - 16) (Some (Fec node))) k None ≡ Some thing
    stays k thing e =
        get_or-set_other meanings (label - 16) k (Some (Fec node)) None (λ q. nothing_there thing (sym e ∙ ap (λ n. get_or meanings n None) q ∙ vacant)) ∙ e

    unlike : (s : SiteNo) (n : ℕ) → Some (Fec node) ≡ Some (Site s n) → ⊥
    unlike s n q = cc

    one_label : {a b : ℕ} → 16 ≤ a → 16 ≤ b → b - 16 ≡ a - 16 → a ≡ b
    one_label h g e = omega (arith, h, g, e)

-- 7. A FEC takes a new label

abbrev or_zero : Option ℕ → ℕ
or_zero None = 0
or_zero (Some label) = label

in_zeros : (fecs : List (Option ℕ)) (k : ℕ) (v : Option ℕ) → k < length fecs → get_or fecs k None ≡ v → In (map or_zero fecs) (or_zero v)
in_zeros [] k v h e = absurd (omega (arith, h))
in_zeros (f ∷ fecs) zero v h e = inl (ap or_zero e)
in_zeros (f ∷ fecs) (suc k) v h e = inr (in_zeros fecs k v (omega (arith, h)) e)

-- labels that FECs have, one by one, are fewer than there are nodes, since the node's own FEC has none
fewer_labels : (fecs : List (Option ℕ)) (me : ℕ) (labels : List ℕ) → me < length fecs → get_or fecs me None ≡ None →
    AreApart {A = ℕ} (λ x y. x ≡ y) labels → ((x : ℕ) → In labels x → 16 ≤ x) → ((x : ℕ) → In labels x → (k : ℕ) × (get_or fecs k None ≡ Some x)) →
    length labels + 1 ≤ length fecs
fewer_labels fecs me labels there own apart low had =
    let h = has_at_least (0 ∷ labels) (map or_zero fecs) (λ y i e. not_zero (low y i) e, apart)
    (λ x i. elim i [
      | inl e ↦ subst (In (map or_zero fecs)) e (in_zeros fecs me None there own)
      | inr j ↦ let k = had x j in in_zeros fecs k.0 (Some x) (inside_at fecs k.0 x k.1) k.1
    ]) in
    let e = length-map fecs or_zero in
    omega (arith, h, e)
  where
    not_zero : {y : ℕ} → 16 ≤ y → 0 ≡ y → ⊥
    not_zero h e = omega (arith, h, e)

pub make_keeps : (given : List Given) (fecs : List (Option ℕ)) (meanings : List (Option Bind)) (reusable : List ℕ) (me : ℕ) →
    AreKept given fecs meanings reusable me → (node : NodeNo) → node.0 < length fecs → node.0 ≢ me → get_or fecs node.0 None ≡ None →
    ((label : ℕ) → In reusable label → is_some (get_or meanings (label - 16) None) ≡ true) →
    AreKept (given ++ giving (16 + length meanings) (Fec node) ∷ []) (set fecs node.0 (Some (16 + length meanings))) (meanings ++ Some (Fec node) ∷ [])
    (reusable ++ (16 + length meanings) ∷ []) me
make_keeps given fecs meanings reusable me kept node there other none had =
    let label = 16 + length meanings in
    let what : Option Bind = Some (Fec node) in
    let same_fecs = length-set fecs node.0 (Some label) in
    let longer = length-append meanings (what ∷ []) in
    let more = attachments_more given (giving label (Fec node)) 0 refl in
    let one_more = length-append reusable (label ∷ []) in
    let own = set_own fecs me node.0 (Some label) other kept.own in
    let inside : me < length (set fecs node.0 (Some label)) = omega (arith, kept.node, same_fecs) in
    record {
      fec = λ n a f. elim (set_back fecs node.0 (Some label) n.0 a f) [
        | inl q ↦ subst (λ x. IsMeaning (meanings ++ what ∷ []) x (Fec n)) (inner_label label a q.1)
            (above (length meanings), grown_end meanings what (label - 16) (plain (length meanings)) ∙ same_node node n (sym q.0))
        | inr q ↦ let h = kept.fec n a q.1 in (h.0, grown meanings what (a - 16) (Fec n) h.1)
      ];
      site = λ s n a c. let h = kept.site s n a (contains_back given a label node s n c) in (h.0, grown meanings what (a - 16) (Site s n) h.1);
      had_fec = λ n a h. elim (grown_back meanings what (a - 16) (Fec n) h.1) [
        | inl e ↦ kept_on n.0 a (kept.had_fec n a (h.0, e))
        | inr e ↦ subst (λ (x : NodeNo). get_or (set fecs node.0 (Some label)) x.0 None ≡ Some a) (inner_node node n e.1)
            (get_or-set_same fecs node.0 (Some label) None there ∙ ap Some (sym (place_is h.0 e.0)))
      ];
      had_site = λ s n a h. elim (grown_back meanings what (a - 16) (Site s n) h.1) [
        | inl e ↦ contains_more given _ _ (kept.had_site s n a (h.0, e))
        | inr e ↦ absurd (unlike s n e.1)
      ];
      last = let e = greatest_more given (giving label (Fec node)) in omega (arith, e, kept.last, longer);
      reused = ap (λ xs. xs ++ label ∷ []) kept.reused ∙ sym (reused_grown meanings what);
      count = omega (arith, kept.count, longer, more, one_more);
      few = omega (arith, kept.few, same_fecs, more);
      others = fewer_labels (set fecs node.0 (Some label)) me (reusable ++ label ∷ []) inside own
          (apart_push (λ x y. x ≡ y) reusable label
          (subst (AreApart {A = ℕ} (λ x y. x ≡ y)) (sym kept.reused)
          (apart_filter (λ x y. x ≡ y) (is_no_site meanings) _ (range_apart 16 (length meanings))))
          (λ x i. below x (reused_in given fecs meanings reusable me kept x i).1))
          (λ x i. elim (last_in reusable label x i) [
            | inl j ↦ (reused_in given fecs meanings reusable me kept x j).0
            | inr e ↦ subst (λ n. 16 ≤ n) e (above (length meanings))
          ])
          (λ x i. elim (last_in reusable label x i) [
            | inl j ↦ fec_of_it x (get_or meanings (x - 16) None) refl (reused_in given fecs meanings reusable me kept x j).0 (had x j)
                (reused_in given fecs meanings reusable me kept x j).2
            | inr e ↦ (node.0, get_or-set_same fecs node.0 (Some label) None there ∙ ap Some e)
          ]);
      node = inside;
      own = own;
    }
  where
    above : (n : ℕ) → 16 ≤ 16 + n
    above n = omega arith

    plain : (n : ℕ) → 16 + n - 16 ≡ n
    plain n = omega arith

    below : (x : ℕ) → x < 16 + length meanings → x ≡ 16 + length meanings → ⊥
    below x h e = omega (arith, h, e)

    unlike : (s : SiteNo) (n : ℕ) → Some (Fec node) ≡ Some (Site s n) → ⊥
    unlike s n q = cc

    kept_on : (k a : ℕ) → get_or fecs k None ≡ Some a → get_or (set fecs node.0 (Some (16 + length meanings))) k None ≡ Some a
    kept_on k a f =
        get_or-set_other fecs node.0 k (Some (16 + length meanings)) None (λ e. nothing_there a (sym f ∙ ap (λ n. get_or fecs n None) e ∙ none)) ∙ f

    fec_of_it : (x : ℕ) (v : Option Bind) → get_or meanings (x - 16) None ≡ v → 16 ≤ x → is_some v ≡ true → not (is_site v) ≡ true →
        (k : ℕ) × (get_or (set fecs node.0 (Some (16 + length meanings))) k None ≡ Some x)
    fec_of_it x None e low h g = cc
    fec_of_it x (Some (Fec n)) e low h g = (n.0, kept_on n.0 x (kept.had_fec n x (low, e)))
    fec_of_it x (Some (Site s n)) e low h g = cc

pub make_keeps_at : (given : List Given) (fecs : List (Option ℕ)) (meanings : List (Option Bind)) (reusable : List ℕ) (me : ℕ) →
    AreKept given fecs meanings reusable me → (node : NodeNo) → node.0 < length fecs → node.0 ≢ me → get_or fecs node.0 None ≡ None →
    ((label : ℕ) → In reusable label → is_some (get_or meanings (label - 16) None) ≡ true) → (n : ℕ) → n ≡ length meanings →
    AreKept (given ++ giving (16 + n) (Fec node) ∷ []) (set fecs node.0 (Some (16 + n))) (meanings ++ Some (Fec node) ∷ []) (reusable ++ (16 + n) ∷ []) me
make_keeps_at given fecs meanings reusable me kept node there other none had n e =
    subst (λ k. AreKept (given ++ giving (16 + k) (Fec node) ∷ []) (set fecs node.0 (Some (16 + k))) (meanings ++ Some (Fec node) ∷ [])
    (reusable ++ (16 + k) ∷ []) me)
    (sym e) (make_keeps given fecs meanings reusable me kept node there other none had)

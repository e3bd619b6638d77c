-- A FEC that no event is of is used and offered as before, and so nothing is told of it.
use Rattle.std.proofs.Common.{ℕ, zero, suc, ◌≡◌, ◌≢◌, ◌+◌, ◌<◌, ◌≤◌, true, false, List, [], ◌∷◌, ◌++◌, length, map, drop, refl, arith, sym, ◌∙◌, ap, subst, inl}
use Rattle.std.proofs.Common.{inr, Option, Some, None, Bool, cond, append-nil}
use Rattle.std.specs.Prelude.{◌==◌, ◌||◌, ◌&&◌, not, is_some, slice_index_or, slice_set, ⊤}
use Rattle.std.specs.List.{flat_map, list_all, range_with_len}
use Rattle.std.specs.Option.{option_to_list}
use Rattle.std.proofs.lemmas.Bool.Decides.{eqb_tells, leb_tells}
use Rattle.std.proofs.lemmas.List.{append_assoc, drop_more, get_or-set_other, get_or_past, map-append}
use Rattle.std.proofs.lemmas.List.FromFn.{get_or-map-range_with_len}
use Rattle.mn_base.specs.declared.numbers.NodeNo.{NodeNo}
use Rattle.mn_base.proofs.Bools.{none_below, and_left, and_right}
use Rattle.mn_bindings.specs.declared.event.LibEvent.{LibEvent}
use Rattle.mn_bindings.specs.declared.event.LibEvent.TheVariants.{Opened, Closed, Map, Withdraw, Released, Next}
use Rattle.mn_bindings.specs.declared.event.Tell.{Tell}
use Rattle.mn_bindings.specs.declared.news.SoFar.{SoFar}
use Rattle.mn_bindings.specs.Bindings.{Bindings, nodes, is_open, row_of, label_learned, labelled, usable, usable_by, offers, with_label, after_event}
use Rattle.mn_bindings.specs.Bindings.{after_events, EventFits}
use Rattle.mn_bindings.specs.Bindings.{EventsFit}
use Rattle.mn_bindings.specs.Tells.{opens, told, tells_of, tell, mention, offered}
use Rattle.mn_bindings.specs.News.{fec_of, fecs_in, IsFrom, one_past, InOrder, so_far, so_far_in, told_since, AreBelow, Apart, AreAllNews, ended_of}
use Rattle.mn_bindings.specs.News.{ended_since, begun, begun_of, begun_since}
use Rattle.mn_bindings.proofs.Events.{nodes-after_event, nodes-after_events, told-same, told_of-same}
use Rattle.mn_bindings.proofs.Ranges.{flat_none}

-- 1. Other FECs stay as they were

abbrev IsApart : ℕ → Option ℕ → Type 0
IsApart fec None = ⊥
IsApart fec (Some other) = fec ≢ other

label-other : (r : Option (List (Option ℕ))) (q p : ℕ) (l : Option ℕ) → p ≢ q → label_learned (with_label r q l) p ≡ label_learned r p
label-other None q p l d = refl
label-other (Some row) q p l d = get_or-set_other row q p l None d

pub row-other : (rows : List (Option (List (Option ℕ)))) (k h q p : ℕ) (l : Option ℕ) → p ≢ q →
    label_learned (slice_index_or (slice_set rows k (with_label (slice_index_or rows k None) q l)) h None) p ≡ label_learned (slice_index_or rows h None) p
row-other [] k h q p l d = refl
row-other (r ∷ rows) zero zero q p l d = label-other r q p l d
row-other (r ∷ rows) zero (suc h) q p l d = refl
row-other (r ∷ rows) (suc k) zero q p l d = refl
row-other (r ∷ rows) (suc k) (suc h) q p l d = row-other rows k h q p l d

usable-heard : (b : Bindings) (rows : List (Option (List (Option ℕ)))) (p : ℕ) →
    ((h : ℕ) → label_learned (slice_index_or rows h None) p ≡ label_learned (row_of b h) p)
    → usable (record b { heard = rows }) p ≡ usable b p
usable-heard b rows p f = by (slice_index_or b.hops p None)
  where
    by : (o : Option NodeNo) → usable_by (record b { heard = rows }) p o ≡ usable_by b p o
    by None = refl
    by (Some hop) = ap (labelled hop) (f hop.0)

usable-hops : (b : Bindings) (hops : List (Option NodeNo)) (p : ℕ) → slice_index_or hops p None ≡ slice_index_or b.hops p None →
    usable (record b { hops = hops }) p ≡ usable b p
usable-hops b hops p e = ap (usable_by (record b { hops = hops }) p) e ∙ by (slice_index_or b.hops p None)
  where
    by : (o : Option NodeNo) → usable_by (record b { hops = hops }) p o ≡ usable_by b p o
    by None = refl
    by (Some hop) = refl

usable-other : (b : Bindings) (e : LibEvent) (p : ℕ) → IsApart p (fec_of e) → usable (after_event b e) p ≡ usable b p
usable-other b (Opened k) p d = absurd d
usable-other b (Closed k) p d = absurd d
usable-other b (Map k q l) p d =
    usable-heard b (slice_set b.heard k.0 (with_label (row_of b k.0) q.0 (Some l))) p (λ h. row-other b.heard k.0 h q.0 p (Some l) d)
usable-other b (Withdraw k q) p d = usable-heard b (slice_set b.heard k.0 (with_label (row_of b k.0) q.0 None)) p (λ h. row-other b.heard k.0 h q.0 p None d)
usable-other b (Released k q) p d = refl
usable-other b (Next q k) p d = usable-hops b (slice_set b.hops q.0 k) p (get_or-set_other b.hops q.0 p k None d)

apart-first : (least p : ℕ) (o : Option ℕ) (qs : List ℕ) → IsFrom least o → Apart p (option_to_list o ++ qs) → IsApart p o
apart-first least p None qs i a = absurd i
apart-first least p (Some q) qs i a = a.0

apart-rest : (p : ℕ) (o : Option ℕ) (qs : List ℕ) → Apart p (option_to_list o ++ qs) → Apart p qs
apart-rest p None qs a = a
apart-rest p (Some q) qs a = a.1

pub usable_stays : (b : Bindings) (es : List LibEvent) (least : ℕ) → InOrder least es →
    (p : ℕ) → Apart p (fecs_in es) → usable (after_events b es) p ≡ usable b p
usable_stays b [] least i p a = refl
usable_stays b (e ∷ es) least i p a =
    usable_stays (after_event b e) es (one_past (fec_of e)) i.1 p (apart-rest p (fec_of e) (fecs_in es) a)
    ∙ usable-other b e p (apart-first least p (fec_of e) (fecs_in es) i.0 a)

me-after_event : (b : Bindings) (e : LibEvent) → (after_event b e).me.0 ≡ b.me.0
me-after_event b (Opened k) = refl
me-after_event b (Closed k) = refl
me-after_event b (Map k q l) = refl
me-after_event b (Withdraw k q) = refl
me-after_event b (Released k q) = refl
me-after_event b (Next q k) = refl

me-after_events : (b : Bindings) (es : List LibEvent) → (after_events b es).me.0 ≡ b.me.0
me-after_events b [] = refl
me-after_events b (e ∷ es) = me-after_events (after_event b e) es ∙ me-after_event b e

offers_stays : (b : Bindings) (es : List LibEvent) → InOrder 0 es → (p : ℕ) → Apart p (fecs_in es) → offers b p ≡ offers (after_events b es) p
offers_stays b es i p a =
    ap (λ m. (m == p) || is_some (usable b p)) (sym (me-after_events b es))
    ∙ ap (λ u. ((after_events b es).me.0 == p) || is_some u) (sym (usable_stays b es 0 i p a))

opens-none : (least : ℕ) (es : List LibEvent) → InOrder least es → (h : ℕ) → opens es h ≡ false
opens-none least [] i h = refl
opens-none least (Opened k ∷ es) i h = absurd i.0
opens-none least (Closed k ∷ es) i h = absurd i.0
opens-none least (Map k q l ∷ es) i h = opens-none (q.0 + 1) es i.1 h
opens-none least (Withdraw k q ∷ es) i h = opens-none (q.0 + 1) es i.1 h
opens-none least (Released k q ∷ es) i h = opens-none (q.0 + 1) es i.1 h
opens-none least (Next q k ∷ es) i h = opens-none (q.0 + 1) es i.1 h

-- 2. Lists of FECs

-- from this FEC on, in node order
abbrev Ascend : ℕ → List ℕ → Type 0
Ascend least [] = ⊤
Ascend least (q ∷ qs) = (least ≤ q) × Ascend (q + 1) qs

ascends-all : (o : Option ℕ) (least : ℕ) (qs : List ℕ) → IsFrom least o → Ascend (one_past o) qs → Ascend least (option_to_list o ++ qs)
ascends-all None least qs i a = absurd i
ascends-all (Some q) least qs i a = (i, a)

ascends : (least : ℕ) (es : List LibEvent) → InOrder least es → Ascend least (fecs_in es)
ascends least [] i = tt
ascends least (e ∷ es) i = ascends-all (fec_of e) least (fecs_in es) i.0 (ascends (one_past (fec_of e)) es i.1)

pub below : (b : Bindings) (es : List LibEvent) → EventsFit b es → AreBelow (nodes b) (fecs_in es)
below b [] f = tt
below b (e ∷ es) f = one e f.0 (subst (λ n. AreBelow n (fecs_in es)) (nodes-after_event b e) (below (after_event b e) es f.1))
  where
    one : (x : LibEvent) → EventFits b x → AreBelow (nodes b) (fecs_in es) → AreBelow (nodes b) (option_to_list (fec_of x) ++ fecs_in es)
    one (Opened k) g r = r
    one (Closed k) g r = r
    one (Map k q l) g r = (g.2, r)
    one (Withdraw k q) g r = (g.2, r)
    one (Released k q) g r = (g.2, r)
    one (Next q k) g r = (g.0, r)

apart-before : (q least : ℕ) (qs : List ℕ) → q < least → Ascend least qs → Apart q qs
apart-before q least [] h a = tt
apart-before q least (x ∷ xs) h a = (differ q least x h a.0, apart-before q (x + 1) xs (less q least x h a.0) a.1)
  where
    differ : (q least x : ℕ) → q < least → least ≤ x → q ≢ x
    differ q least x h g e = omega (arith, h, g, e)

    less : (q least x : ℕ) → q < least → least ≤ x → q < x + 1
    less q least x h g = omega (arith, h, g)

pub flat_all : {A : Type 0} (f g : ℕ → List A) (n least : ℕ) →
    ((q : ℕ) → q < least + n → f q ≡ g q) → flat_map f (range_with_len least n) ≡ flat_map g (range_with_len least n)
flat_all f g zero least same = refl
flat_all f g (suc n) least same =
    ap (λ ys. ys ++ flat_map f (range_with_len (least + 1) n)) (same least (omega arith))
    ∙ ap (λ ys. g least ++ ys) (flat_all f g n (least + 1) (λ q h. same q (omega (arith, h))))

-- where a part is empty but for some, these make the whole
flat_some : {A : Type 0} (f g : ℕ → List A) (n least : ℕ) (qs : List ℕ) → Ascend least qs → AreBelow (least + n) qs
    → ((q : ℕ) → q < least + n → f q ≡ g q) → ((q : ℕ) → least ≤ q → q < least + n → Apart q qs → f q ≡ [])
    → flat_map f (range_with_len least n) ≡ flat_map g qs
flat_some f g zero least [] a h same none = refl
flat_some f g zero least (x ∷ xs) a h same none = absurd (past least x a.0 h.0)
  where
    past : (least x : ℕ) → least ≤ x → x < least + 0 → ⊥
    past least x i j = omega (arith, i, j)
flat_some f g (suc n) least [] a h same none =
    ap (λ ys. ys ++ flat_map f (range_with_len (least + 1) n)) (none least (omega arith) (omega arith) tt)
    ∙ flat_some f g n (least + 1) [] tt tt (λ q i. same q (omega (arith, i))) (λ q i j d. none q (omega (arith, i)) (omega (arith, j)) tt)
flat_some f g (suc n) least (x ∷ xs) a h same none = elim (eqb_tells least x) [
  | inl p ↦
      ap (λ ys. ys ++ flat_map f (range_with_len (least + 1) n)) (same least (omega arith) ∙ ap g p.1)
      ∙ ap (λ ys. g x ++ ys) (flat_some f g n (least + 1) xs (subst (λ k. Ascend (k + 1) xs) (sym p.1) a.1) (subst (λ k. AreBelow k xs) (one_more least n) h.1)
      (λ q i. same q (omega (arith, i))) (λ q i j d. none q (omega (arith, i)) (omega (arith, j)) (later least q x p.1 i, d)))
  | inr p ↦
      ap (λ ys. ys ++ flat_map f (range_with_len (least + 1) n))
      (none least (omega arith) (omega arith) (p.1, apart-before least (x + 1) xs (under least x a.0) a.1))
      ∙ flat_some f g n (least + 1) (x ∷ xs) (above least x a.0 p.1, a.1) (subst (λ k. AreBelow k (x ∷ xs)) (one_more least n) h)
      (λ q i. same q (omega (arith, i))) (λ q i j d. none q (omega (arith, i)) (omega (arith, j)) d)
]
  where
    one_more : (least n : ℕ) → least + suc n ≡ (least + 1) + n
    one_more least n = omega arith

    later : (least q x : ℕ) → least ≡ x → least + 1 ≤ q → q ≢ x
    later least q x e i d = omega (arith, e, i, d)

    under : (least x : ℕ) → least ≤ x → least < x + 1
    under least x i = omega (arith, i)

    above : (least x : ℕ) → least ≤ x → least ≢ x → least + 1 ≤ x
    above least x i d = omega (arith, i, d)

flat_since : {A : Type 0} (f : SoFar → List A) (g : ℕ → SoFar) (qs : List ℕ) → flat_map f (map g qs) ≡ flat_map (λ q. f (g q)) qs
flat_since f g [] = refl
flat_since f g (q ∷ qs) = ap (λ ys. f (g q) ++ ys) (flat_since f g qs)

below-all : (n : ℕ) (b : Bindings) (qs : List ℕ) → AreBelow n qs → (k : ℕ) (d : SoFar) → k < length (map (so_far b) qs) →
    (slice_index_or (map (so_far b) qs) k d).fec.0 < n
below-all n b [] h k d l = absurd (none_below k l)
below-all n b (q ∷ qs) h zero d l = h.0
below-all n b (q ∷ qs) h (suc k) d l = below-all n b qs h.1 k d (omega (arith, l))

below-range : (n least end : ℕ) → least + n ≤ end → AreBelow end (range_with_len least n)
below-range zero least end h = tt
below-range (suc n) least end h = (omega (arith, h), below-range n (least + 1) end (omega (arith, h)))

-- 3. What is told

-- what is told of a FEC by what was offered, and by what it is to be
pub was : (b a : Bindings) (es : List LibEvent) (q : ℕ) → q < nodes b → tells_of (slice_index_or (offered b) q false) a es q ≡ told_since a es (so_far b q)
was b a es q h = ap (λ o. tells_of o a es q) (get_or-map-range_with_len (offers b) 0 (nodes b) q q false h (omega arith))

pub not_ended : (x y : Bool) (q : ℕ) → x ≡ y → cond (x && not y) (q ∷ []) [] ≡ []
not_ended true true q e = refl
not_ended false y q e = refl
not_ended true false q e = cc

pub not_begun : (x y : Bool) (q : ℕ) → x ≡ y → cond (not x && y) (q ∷ []) [] ≡ []
not_begun true y q e = refl
not_begun false false q e = refl
not_begun false true q e = cc

pub every_is_news : (b : Bindings) (es : List LibEvent) → AreAllNews b es (map (so_far b) (range_with_len 0 (nodes b)))
every_is_news b es = record {
  below = below-all (nodes b) b (range_with_len 0 (nodes b)) (below-range (nodes b) 0 (nodes b) (omega arith));
  ends = sym (flat_since (ended_since (after_events b es)) (so_far b) (range_with_len 0 (nodes b)));
  begins = sym (flat_since (begun_since (after_events b es)) (so_far b) (range_with_len 0 (nodes b)));
  news =
      let a : Bindings = after_events b es in
      ap (λ n. flat_map (λ q. tells_of (slice_index_or (offered b) q false) a es q) (range_with_len 0 n)) (nodes-after_events b es)
      ∙ flat_all (λ q. tells_of (slice_index_or (offered b) q false) a es q) (λ q. told_since a es (so_far b q)) (nodes b) 0
      (λ q h. was b a es q (omega (arith, h)))
      ∙ sym (flat_since (told_since a es) (so_far b) (range_with_len 0 (nodes b)));
}

from_none : (n : ℕ) → n ≡ 0 + n
from_none n = omega arith

by_fecs : (b : Bindings) (es : List LibEvent) → EventsFit b es → InOrder 0 es → AreAllNews b es (map (so_far b) (fecs_in es))
by_fecs b es f i = record {
  below = below-all (nodes b) b (fecs_in es) (below b es f);
  ends =
      let a : Bindings = after_events b es in
      flat_some (ended_of b a) (λ q. ended_since a (so_far b q)) (nodes b) 0 (fecs_in es) (ascends 0 es i)
      (subst (λ n. AreBelow n (fecs_in es)) (from_none (nodes b)) (below b es f)) (λ q h. refl)
      (λ q low h d. not_ended (offers b q) (offers a q) q (offers_stays b es i q d))
      ∙ sym (flat_since (ended_since a) (so_far b) (fecs_in es));
  begins =
      let a : Bindings = after_events b es in
      flat_some (begun_of b a) (λ q. begun_since a (so_far b q)) (nodes b) 0 (fecs_in es) (ascends 0 es i)
      (subst (λ n. AreBelow n (fecs_in es)) (from_none (nodes b)) (below b es f)) (λ q h. refl)
      (λ q low h d. not_begun (offers b q) (offers a q) q (offers_stays b es i q d))
      ∙ sym (flat_since (begun_since a) (so_far b) (fecs_in es));
  news =
      let a : Bindings = after_events b es in
      ap (λ n. flat_map (λ q. tells_of (slice_index_or (offered b) q false) a es q) (range_with_len 0 n)) (nodes-after_events b es)
      ∙ flat_some (λ q. tells_of (slice_index_or (offered b) q false) a es q) (λ q. told_since a es (so_far b q)) (nodes b) 0 (fecs_in es) (ascends 0 es i)
      (subst (λ n. AreBelow n (fecs_in es)) (from_none (nodes b)) (below b es f))
      (λ q h. was b a es q (omega (arith, h)))
      (λ q low h d. was b a es q (omega (arith, h)) ∙ told_of-same (offers b q) a es q (opens-none 0 es i) (offers_stays b es i q d))
      ∙ sym (flat_since (told_since a es) (so_far b) (fecs_in es));
}

map_all : {X Y Z : Type 0} (g : Y → Z) (h : X → List Y) (xs : List X) → map g (flat_map h xs) ≡ flat_map (λ x. map g (h x)) xs
map_all g h [] = refl
map_all g h (x ∷ xs) = map-append g (h x) (flat_map h xs) ∙ ap (λ ys. map g (h x) ++ ys) (map_all g h xs)

pub named_are_news : (b : Bindings) (es : List LibEvent) → EventsFit b es → InOrder 0 es → AreAllNews b es (flat_map (so_far_in b) es)
named_are_news b es f i = subst (AreAllNews b es) (map_all (so_far b) (λ e. option_to_list (fec_of e)) es) (by_fecs b es f i)

-- where all that happens is that one neighbour opens, a FEC whose offer stayed is told to it alone
module _ (before : Bool) (a : Bindings) (k : NodeNo) (p : ℕ) (rows : length a.heard ≡ nodes a) (stays : before ≡ offers a p) where
  abbrev to_one : ℕ → List Tell
  to_one = told before a (Opened k ∷ []) p

  other : (h : ℕ) → h ≢ k.0 → opens (Opened k ∷ []) h ≡ false
  other h d = elim (eqb_tells k.0 h) [ inl q ↦ absurd (d (sym q.1)) | inr q ↦ ap (λ b. b || false) q.0 ]

  none-other : (h : ℕ) → h ≢ k.0 → to_one h ≡ []
  none-other h d =
      ap (λ o. cond (is_open a h) (map (λ kind. tell h kind p) (mention (before && not o) (offers a p))) []) (other h d)
      ∙ told-same before (offers a p) (is_open a h) h p stays

  none-past : nodes a ≤ k.0 → to_one k.0 ≡ []
  none-past past =
      ap (λ r. cond (is_some r) (map (λ kind. tell k.0 kind p) (mention (before && not (opens (Opened k ∷ []) k.0)) (offers a p))) [])
      (get_or_past a.heard k.0 None (subst (λ n. n ≤ k.0) (sym rows) past))

  pub told_of-opened : tells_of before a (Opened k ∷ []) p ≡ to_one k.0
  told_of-opened = elim (leb_tells (nodes a) k.0) [
    | inl q ↦ flat_none to_one (λ h. elim (eqb_tells k.0 h) [
      | inl e ↦ subst (λ x. to_one x ≡ []) e.1 (none-past q.1)
      | inr e ↦ none-other h (λ f. e.1 (sym f))
    ]) (range_with_len 0 (nodes a)) ∙ sym (none-past q.1)
    | inr q ↦ flat_some to_one to_one (nodes a) 0 (k.0 ∷ []) (omega arith, tt) (subst (λ n. k.0 < n) (from_none (nodes a)) q.1, tt) (λ h i. refl)
        (λ h i j d. none-other h d.0) ∙ append-nil (to_one k.0)
  ]

-- 4. Loops

-- one element more is done
pub rest_more : {X A : Type 0} (f : X → List A) (xs : List X) (i : ℕ) (d : X) (us vs whole : List A) → i < length xs → vs ≡ us ++ f (slice_index_or xs i d)
    → us ++ flat_map f (drop i xs) ≡ whole → vs ++ flat_map f (drop (i + 1) xs) ≡ whole
rest_more f xs i d us vs whole h e g =
    ap (λ ys. ys ++ flat_map f (drop (i + 1) xs)) e ∙ append_assoc us (f (slice_index_or xs i d)) (flat_map f (drop (i + 1) xs))
    ∙ sym (ap (λ ys. us ++ flat_map f ys) (drop_more xs i d h)) ∙ g

below_append : (n : ℕ) (o : Option ℕ) (qs : List ℕ) → AreBelow n (option_to_list o ++ qs) → AreBelow n qs
below_append n None qs h = h
below_append n (Some q) qs h = h.1

below_first : (n q : ℕ) (o : Option ℕ) (qs : List ℕ) → o ≡ Some q → AreBelow n (option_to_list o ++ qs) → q < n
below_first n q None qs e h = cc
below_first n q (Some x) qs e h = subst (λ k. k < n) (some-is x q e) h.0
  where
    some-is : (x q : ℕ) → Some x ≡ Some q → x ≡ q
    some-is x q e = cc

pub below_more : (n : ℕ) (es : List LibEvent) (i : ℕ) (d : LibEvent) → i < length es → AreBelow n (fecs_in (drop i es)) → AreBelow n (fecs_in (drop (i + 1) es))
below_more n es i d h b =
    below_append n (fec_of (slice_index_or es i d)) (fecs_in (drop (i + 1) es)) (subst (λ xs. AreBelow n (fecs_in xs)) (drop_more es i d h) b)

pub below_it : (n : ℕ) (es : List LibEvent) (i q : ℕ) (d : LibEvent) → i < length es → fec_of (slice_index_or es i d) ≡ Some q →
    AreBelow n (fecs_in (drop i es)) → q < n
below_it n es i q d h e b =
    below_first n q (fec_of (slice_index_or es i d)) (fecs_in (drop (i + 1) es)) e (subst (λ xs. AreBelow n (fecs_in xs)) (drop_more es i d h) b)

pub order_more : (least q : ℕ) (es : List LibEvent) (i : ℕ) (d : LibEvent) → i < length es → fec_of (slice_index_or es i d) ≡ Some q → least ≤ q
    → (InOrder least (drop i es) → InOrder 0 es) → InOrder (q + 1) (drop (i + 1) es) → InOrder 0 es
order_more least q es i d h e low f r =
    f (subst (InOrder least) (sym (drop_more es i d h))
    (subst (IsFrom least) (sym e) low, subst (λ o. InOrder (one_past o) (drop (i + 1) es)) (sym e) r))

pub fecs_more : (es : List LibEvent) (i q : ℕ) (d : LibEvent) → i < length es → fec_of (slice_index_or es i d) ≡ Some q →
    fecs_in (drop i es) ≡ q ∷ fecs_in (drop (i + 1) es)
fecs_more es i q d h e = ap fecs_in (drop_more es i d h) ∙ ap (λ o. option_to_list o ++ fecs_in (drop (i + 1) es)) e

pub fecs_none : (es : List LibEvent) (i : ℕ) (d : LibEvent) → i < length es → fec_of (slice_index_or es i d) ≡ None →
    fecs_in (drop i es) ≡ fecs_in (drop (i + 1) es)
fecs_none es i d h e = ap fecs_in (drop_more es i d h) ∙ ap (λ o. option_to_list o ++ fecs_in (drop (i + 1) es)) e

-- where each of these FECs is offered already no offer begins
pub none_begins : (a : Bindings) (all : List SoFar) → list_all (λ (one : SoFar). one.offered) all ≡ true → flat_map (begun_since a) all ≡ []
none_begins a [] h = refl
none_begins a (one ∷ all) h =
    let rest = list_all (λ (one : SoFar). one.offered) all in
    ap (λ x. cond (not x && offers a one.fec.0) (one.fec.0 ∷ []) [] ++ flat_map (begun_since a) all) (and_left one.offered rest h)
    ∙ none_begins a all (and_right one.offered rest h)

pub none_begins_by : (b : Bindings) (es : List LibEvent) (r : Bool) → EventsFit b es → InOrder 0 es →
    r ≡ list_all (λ (one : SoFar). one.offered) (flat_map (so_far_in b) es) → not r ≡ false → begun b (after_events b es) ≡ []
none_begins_by b es true f i e h = (named_are_news b es f i).begins ∙ none_begins (after_events b es) (flat_map (so_far_in b) es) (sym e)
none_begins_by b es false f i e h = cc

-- A node follows its view: the next hops of its bindings become those of the tree, and what it tells is its news.
use Rattle.std.proofs.Common.{ℕ, zero, suc, ◌≡◌, ◌≢◌, ◌+◌, ◌<◌, ◌≤◌, ◌⊎◌, inl, inr, Bool, true, false, List, [], ◌∷◌, ◌++◌, length, get_or, map, refl}
use Rattle.std.proofs.Common.{arith, sym, ◌∙◌, ap, subst, Option, Some, None}
use Rattle.std.specs.Prelude.{◌==◌, not, slice_set, if◌then◌else◌}
use Rattle.std.specs.List.{flat_map, range_with_len}
use Rattle.std.proofs.Math.ListN.{length-set}
use Rattle.std.proofs.lemmas.Bool.Decides.{eqb_tells}
use Rattle.std.proofs.lemmas.List.{get_or-set_same, get_or-set_other}
use Rattle.std.proofs.lemmas.List.FromFn.{length-map-range_with_len, get_or-map-range_with_len, fill_by_all}
use Rattle.mn_wiring.specs.Wiring.{Wiring, nodes_of, across, is_end, JoinsNodes, EndsDiffer, JoinsOnce}
use Rattle.mn_wiring.specs.Paths.{IsNext, next, next_by, dists_to}
use Rattle.mn_base.specs.declared.numbers.NodeNo.{NodeNo}
use Rattle.mn_base.proofs.Bools.{two_ways, or_ways, or_left, same_test, same_numbers}
use Rattle.mn_wiring.proofs.Next.{next_is}
use Rattle.mn_wiring.proofs.Dist.{dists_are_least}
use Rattle.mn_linkdb.proofs.OneTree.{next_computed}
use Rattle.mn_linkdb.specs.Trees.{IsTree, hop_alone}
use Rattle.mn_linkdb.specs.PathTable.{PathTable, next_at}
use Rattle.mn_bindings.specs.declared.event.LibEvent.{LibEvent}
use Rattle.mn_bindings.specs.declared.event.LibEvent.TheVariants as event
use Rattle.mn_bindings.specs.Bindings.{Bindings, nodes, HopFits, EventFits, EventsFit, after_event, after_events}
use Rattle.mn_bindings.specs.Bindings as lib
use Rattle.mn_bindings.specs.Tells as lib_tells
use Rattle.mn_bindings.specs.Tells.{opens, releases, changes, tells}
use Rattle.mn_node.specs.Ldp.{offers, offered}
use Rattle.mn_node.specs.Machine.{Learns, changed, said}
use Rattle.mn_node.proofs.Lists.{map_below}
use Rattle.mn_lsr.specs.Telling.{said_by_tell}
use Rattle.mn_lsr.proofs.Telling.{Agrees, telling}
use Rattle.mn_lsr.proofs.Tied.{across-below, across-other, offers_same}
use Rattle.mn_node.specs.Node.{Node, view_in, knowledge_in}
use Rattle.mn_lsr.specs.Ties.{AreTied}
use Rattle.mn_lsr.specs.Parts.{same_hop, stays, hop_event, hop_events}

-- 1. The events set the next hops

after-append : (b : Bindings) (xs ys : List LibEvent) → after_events b (xs ++ ys) ≡ after_events (after_events b xs) ys
after-append b [] ys = refl
after-append b (x ∷ xs) ys = after-append (after_event b x) xs ys

fit-append : (b : Bindings) (xs ys : List LibEvent) → EventsFit b xs → EventsFit (after_events b xs) ys → EventsFit b (xs ++ ys)
fit-append b [] ys h g = g
fit-append b (x ∷ xs) ys h g = (h.0, fit-append (after_event b x) xs ys h.1 g)

module _ (same : ℕ → Bool) (table : PathTable) where
  -- the next hops from this FEC on are the table's
  abbrev hops_from : List (Option NodeNo) → ℕ → ℕ → List (Option NodeNo)
  hops_from hs q zero = hs
  hops_from hs q (suc n) = hops_from (if same q then hs else slice_set hs q (next_at table q)) (q + 1) n

  one_event : (b : Bindings) (q : ℕ) → after_events b (hop_event same table q) ≡ record b {
    hops =
        if same q then b.hops else slice_set b.hops q (next_at table q);
  }
  one_event b q = by (same q)
    where
      by : (x : Bool) → after_events b (if x then [] else event.Next (record { 0 = q }) (next_at table q) ∷ []) ≡ record b {
        hops =
            if x then b.hops else slice_set b.hops q (next_at table q);
      }
      by true = refl
      by false = refl

  all_events : (n q : ℕ) (b : Bindings) → after_events b (flat_map (hop_event same table) (range_with_len q n)) ≡ record b { hops = hops_from b.hops q n }
  all_events zero q b = refl
  all_events (suc n) q b =
      after-append b (hop_event same table q) (flat_map (hop_event same table) (range_with_len (q + 1) n))
      ∙ ap (λ x. after_events x (flat_map (hop_event same table) (range_with_len (q + 1) n))) (one_event b q)
      ∙ all_events n (q + 1) (record b { hops = if same q then b.hops else slice_set b.hops q (next_at table q) })

  keeps-length : (n q : ℕ) (hs : List (Option NodeNo)) → length (hops_from hs q n) ≡ length hs
  keeps-length zero q hs = refl
  keeps-length (suc n) q hs = keeps-length n (q + 1) (if same q then hs else slice_set hs q (next_at table q)) ∙ by (same q)
    where
      by : (x : Bool) → length (if x then hs else slice_set hs q (next_at table q)) ≡ length hs
      by true = refl
      by false = length-set hs q (next_at table q)

  -- below these, and where the next hop is the same, nothing changes
  untouched : (n q k : ℕ) (hs : List (Option NodeNo)) → (k < q) ⊎ (same k ≡ true) → get_or (hops_from hs q n) k None ≡ get_or hs k None
  untouched zero q k hs h = refl
  untouched (suc n) q k hs h =
      untouched n (q + 1) k (if same q then hs else slice_set hs q (next_at table q)) (elim h [ inl p ↦ inl (omega (arith, p)) | inr p ↦ inr p ])
      ∙ by (same q) refl
    where
      by : (x : Bool) → (same q) ≡ x → get_or (if x then hs else slice_set hs q (next_at table q)) k None ≡ get_or hs k None
      by true e = refl
      by false e = get_or-set_other hs q k (next_at table q) None (differs e h)
        where
          clash : true ≡ false → ⊥
          clash f = cc

          differs : (same q) ≡ false → (k < q) ⊎ (same k ≡ true) → k ≢ q
          differs f (inl p) g = absurd (less k q p g)
            where
              less : (x y : ℕ) → x < y → x ≡ y → ⊥
              less x y a c = omega (arith, a, c)
          differs f (inr p) g = absurd (clash (sym p ∙ ap same g ∙ f))

  touched : (n q k : ℕ) (hs : List (Option NodeNo)) → q ≤ k → k < q + n → k < length hs → same k ≡ false → get_or (hops_from hs q n) k None ≡ next_at table k
  touched zero q k hs low high there d = absurd (omega (arith, low, high))
  touched (suc n) q k hs low high there d = elim (eqb_tells q k) [
    | inl p ↦ untouched n (q + 1) k (if same q then hs else slice_set hs q (next_at table q)) (inl (omega (arith, p.1))) ∙ here p.1 (same q) refl
    | inr p ↦ touched n (q + 1) k (if same q then hs else slice_set hs q (next_at table q)) (above q k low p.1) (omega (arith, high)) (still (same q)) d
  ]
    where
      above : (q k : ℕ) → q ≤ k → q ≢ k → q + 1 ≤ k
      above q k h g = omega (arith, h, g)

      still : (x : Bool) → k < length (if x then hs else slice_set hs q (next_at table q))
      still true = there
      still false = omega (arith, there, length-set hs q (next_at table q))

      here : q ≡ k → (x : Bool) → (same q) ≡ x → get_or (if x then hs else slice_set hs q (next_at table q)) k None ≡ next_at table k
      here e true f = absurd (clash (sym f ∙ ap same e ∙ d))
        where
          clash : true ≡ false → ⊥
          clash g = cc
      here e false f =
          ap (λ j. get_or (slice_set hs q (next_at table q)) j None) (sym e) ∙ get_or-set_same hs q (next_at table q) None (omega (arith, there, e))
          ∙ ap (next_at table) e

-- 2. They open nobody, withdraw nothing, and may be taken

pub opens-none : (same : ℕ → Bool) (table : PathTable) (h n q : ℕ) → opens (flat_map (hop_event same table) (range_with_len q n)) h ≡ false
opens-none same table h zero q = refl
opens-none same table h (suc n) q = by (same q) (opens-none same table h n (q + 1))
  where
    by : (x : Bool) → opens (flat_map (hop_event same table) (range_with_len (q + 1) n)) h ≡ false
        → opens ((if x then [] else event.Next (record { 0 = q }) (next_at table q) ∷ []) ++ flat_map (hop_event same table) (range_with_len (q + 1) n)) h ≡
        false
    by true i = i
    by false i = i

pub releases-none : (same : ℕ → Bool) (table : PathTable) (n q : ℕ) → releases (flat_map (hop_event same table) (range_with_len q n)) ≡ []
releases-none same table zero q = refl
releases-none same table (suc n) q = by (same q) (releases-none same table n (q + 1))
  where
    by : (x : Bool) → releases (flat_map (hop_event same table) (range_with_len (q + 1) n)) ≡ []
        → releases ((if x then [] else event.Next (record { 0 = q }) (next_at table q) ∷ []) ++ flat_map (hop_event same table) (range_with_len (q + 1) n)) ≡ []
    by true i = i
    by false i = i

fits-all : (same : ℕ → Bool) (me : ℕ) (table : PathTable) (n q : ℕ) (b : Bindings) → same me ≡ true → b.me.0 ≡ me → q + n ≤ nodes b →
    ((p : ℕ) → p < nodes b → p ≢ me → HopFits b (next_at table p))
    → EventsFit b (flat_map (hop_event same table) (range_with_len q n))
fits-all same me table zero q b own m h f = tt
fits-all same me table (suc n) q b own m h f =
    fit-append b (hop_event same table q) (flat_map (hop_event same table) (range_with_len (q + 1) n)) (first (same q) refl)
    (subst (λ x. EventsFit x (flat_map (hop_event same table) (range_with_len (q + 1) n))) (sym (one_event same table b q))
    (fits-all same me table n (q + 1) (record b { hops = if same q then b.hops else slice_set b.hops q (next_at table q) }) own m
    (omega (arith, h, as_many (same q)))
    (λ p g d. moved (same q) (next_at table p) (f p (omega (arith, g, as_many (same q))) d))))
  where
    clash : true ≡ false → ⊥
    clash g = cc

    apart : same q ≡ false → q ≢ me
    apart e g = clash (sym own ∙ ap same (sym g) ∙ e)

    first : (x : Bool) → (same q) ≡ x → EventsFit b (if x then [] else event.Next (record { 0 = q }) (next_at table q) ∷ [])
    first true e = tt
    first false e = ((omega (arith, h), λ g. apart e (g ∙ m), f q (omega (arith, h)) (apart e)), tt)

    as_many : (x : Bool) → length (if x then b.hops else slice_set b.hops q (next_at table q)) ≡ length b.hops
    as_many true = refl
    as_many false = length-set b.hops q (next_at table q)

    moved : (x : Bool) (o : Option NodeNo) → HopFits b o → HopFits (record b { hops = if x then b.hops else slice_set b.hops q (next_at table q) }) o
    moved x None g = g
    moved x (Some hop) g = (subst (λ k. hop.0 < k) (sym (as_many x)) g.0, g.1)

-- 3. A node learns

pub no_next : (w : Wiring) (view : List Bool) (me : ℕ) → next w view me me ≡ None
unfolding next
no_next w view me = by (me == me) (elim (eqb_tells me me) [ inl p ↦ p.0 | inr p ↦ absurd (p.1 refl) ])
  where
    by : (x : Bool) → x ≡ true → (elim x as (λ _. Option (ℕ × ℕ)) [ true ↦ None | false ↦ next_by w view (dists_to w view me) me ]) ≡ None
    by true e = refl
    by false e = cc

module _ (w : Wiring) (n : Node) (b : Bindings) (l : ℕ) (table : PathTable) (joins : JoinsNodes w) (differ : EndsDiffer w) (once : JoinsOnce w)
    (below : n.me < length w.loopbacks)
    (tied : AreTied w n b) (tree : IsTree w (view_in (changed w n (Learns l))) n.me table) where
  abbrev next_node : Node
  next_node = changed w n (Learns l)

  abbrev next_hop : ℕ → Option NodeNo
  next_hop p = hop_alone (next w (view_in (changed w n (Learns l))) n.me p)

  abbrev events : List LibEvent
  events = hop_events n.me b.hops table (length w.loopbacks)

  abbrev next_bindings : Bindings
  next_bindings = record b { hops = map (λ p. hop_alone (next w (view_in (changed w n (Learns l))) n.me p)) (nodes_of w) }

  in_tree : (p : ℕ) → p < length w.loopbacks → next_at table p ≡ next_hop p
  in_tree p h =
      next_computed w (view_in (changed w n (Learns l))) n.me below (λ to. dists_are_least w (view_in (changed w n (Learns l))) to joins n.me below)
      (λ to. next_is w (view_in (changed w n (Learns l))) to joins n.me below) p table tree h

  abbrev same : ℕ → Bool
  same = stays n.me b.hops table

  same_is : (one other : Option NodeNo) → same_hop one other ≡ true → one ≡ other
  same_is None None e = refl
  same_is None (Some other) e = cc
  same_is (Some one) None e = cc
  same_is (Some one) (Some other) e = ap (λ k. let o : Option NodeNo = Some (record { 0 = k }) in o) (same_numbers one.0 other.0 e)

  hop_before : (k : ℕ) → k < length w.loopbacks → get_or b.hops k None ≡ hop_alone (next w (view_in n) n.me k)
  hop_before k h =
      ap (λ hs. get_or hs k None) tied.hops ∙ get_or-map-range_with_len (λ p. hop_alone (next w (view_in n) n.me p)) 0 (length w.loopbacks) k k None h
      (omega arith)

  -- what stays is the next hop that is due
  stays-is : (k : ℕ) → k < length w.loopbacks → same k ≡ true → get_or b.hops k None ≡ next_hop k
  stays-is k h e = elim (or_ways (k == n.me) (same_hop (get_or b.hops k None) (next_at table k)) e) [
    | inl own ↦
        hop_before k h ∙ ap (λ j. hop_alone (next w (view_in n) n.me j)) (same_numbers k n.me own) ∙ ap hop_alone (no_next w (view_in n) n.me)
        ∙ sym (ap (λ j. next_hop j) (same_numbers k n.me own) ∙ ap hop_alone (no_next w (view_in (changed w n (Learns l))) n.me))
    | inr alike ↦ same_is (get_or b.hops k None) (next_at table k) alike ∙ in_tree k h
  ]

  own-stays : same n.me ≡ true
  own-stays = or_left (n.me == n.me) (same_hop (get_or b.hops n.me None) (next_at table n.me)) (same_test n.me)

  hops-is : hops_from same table b.hops 0 (length w.loopbacks) ≡ map next_hop (nodes_of w)
  hops-is =
      fill_by_all next_hop (hops_from same table b.hops 0 (length w.loopbacks)) (length w.loopbacks) None
      (keeps-length same table (length w.loopbacks) 0 b.hops ∙ tied.one_each)
      (λ k h. elim (two_ways (same k)) [
        | inl e ↦ untouched same table (length w.loopbacks) 0 k b.hops (inr e) ∙ stays-is k h e
        | inr e ↦ touched same table (length w.loopbacks) 0 k b.hops (omega arith) (omega (arith, h)) (omega (arith, h, tied.one_each)) e ∙ in_tree k h
      ])

  pub follows : after_events b events ≡ next_bindings
  follows = all_events same table (length w.loopbacks) 0 b ∙ ap (λ hs. let o : Bindings = record b { hops = hs } in o) hops-is

  pub still_tied : AreTied w next_node next_bindings
  still_tied = record {
    one_each = length-map-range_with_len next_hop 0 (length w.loopbacks);
    me = tied.me;
    hops = refl;
    open_is = tied.open_is;
    labels =
        tied.labels;
  }

  hop_fits : (p : ℕ) → p < length w.loopbacks → p ≢ n.me → HopFits b (next_at table p)
  hop_fits p h d =
      subst (HopFits b) (sym (in_tree p h))
      (of (next w (view_in (changed w n (Learns l))) n.me p) (next_is w (view_in (changed w n (Learns l))) p joins n.me below (λ e. d (sym e))))
    where
      of : (o : Option (ℕ × ℕ)) → IsNext w (view_in (changed w n (Learns l))) n.me p o → HopFits b (hop_alone o)
      of None i = tt
      of (Some hop) i = (
        omega (arith, i.0, across-below w hop.1 n.me joins i.1.there, tied.one_each),
        λ e. other hop.1 i.1.there i.1.at_node (sym i.0 ∙ e ∙ tied.me),
      )
        where
          other : (k : ℕ) → k < length w.ends → is_end w k n.me ≡ true → across w k n.me ≢ n.me
          other k there at_end e = across-other w k n.me (differ k there) at_end e

  pub may_follow : EventsFit b events
  may_follow =
      fits-all same n.me table (length w.loopbacks) 0 b own-stays tied.me (omega (arith, tied.one_each))
      (λ p h d. hop_fits p (omega (arith, h, tied.one_each)) d)

  agrees : Agrees w n.me events next_bindings (knowledge_in n) (knowledge_in next_node)
  agrees = record {
    nodes_is = length-map-range_with_len next_hop 0 (length w.loopbacks);
    open_is = tied.open_is;
    was_is = λ h k there j on. on ∙ sym (ap not (opens-none same table h (length w.loopbacks) 0));
    offers_is = λ p h. offers_same w next_node next_bindings joins once below still_tied p h;
  }

  offered-is : lib_tells.offered b ≡ offered w (knowledge_in n) n.me
  offered-is =
      ap (λ k. map (lib.offers b) (range_with_len 0 k)) tied.one_each
      ∙ map_below (lib.offers b) (offers w (knowledge_in n) n.me) (length w.loopbacks) 0
      (λ p low h. offers_same w n b joins once below tied p (omega (arith, h)))

  -- what it tells is what it says
  pub tells_news : flat_map (said_by_tell w n.me) (tells b events) ≡ said w n (Learns l)
  tells_news =
      ap (λ xs. flat_map (said_by_tell w n.me) (xs ++ changes (lib_tells.offered b) (after_events b events) events))
      (releases-none same table (length w.loopbacks) 0)
      ∙ ap (λ os. flat_map (said_by_tell w n.me) (changes os (after_events b events) events)) offered-is
      ∙ ap (λ a. flat_map (said_by_tell w n.me) (changes (offered w (knowledge_in n) n.me) a events)) follows
      ∙ telling w n.me events next_bindings (knowledge_in n) (knowledge_in next_node) once below agrees

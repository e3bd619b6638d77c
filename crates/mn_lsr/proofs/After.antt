-- The parts of a node to which something has happened: what it keeps and what it says are its machine's, and its parts hang
-- together again.
use Rattle.std.proofs.Common.{ℕ, zero, suc, ◌≡◌, ◌≢◌, ◌+◌, ◌<◌, ◌^◌, ◌≤◌, ◌⊎◌, inl, inr, Bool, true, false, cond, List, [], ◌∷◌, ◌++◌, length, map, filter}
use Rattle.std.proofs.Common.{refl, arith, sym}
use Rattle.std.proofs.Common.{◌∙◌, ap, subst, Option, Some, None}
use Rattle.std.specs.Prelude.{◌==◌, ◌&&◌, if◌then◌else◌, not, is_some, nat_le, slice_index_or, option_map}
use Rattle.std.specs.List.{flat_map, range_with_len}
use Rattle.std.proofs.Math.ListN.{length-set}
use Rattle.std.proofs.lemmas.List.{append_assoc, length-map}
use Rattle.std.proofs.lemmas.List.FromFn.{get_or-map-range_with_len}
use Rattle.std.proofs.lemmas.Grind.{flat_map-append}
use Rattle.mn_base.specs.declared.numbers.NodeNo.{NodeNo}
use Rattle.mn_base.proofs.Bools.{and_left}
use Rattle.mn_wiring.specs.Wiring.{Wiring, joining}
use Rattle.mn_linkdb.specs.Learned.{Learned}
use Rattle.mn_linkdb.specs.Changes.{is_odd}
use Rattle.mn_spf_inc.specs.Mended.{Mended}
use Rattle.mn_labels.specs.declared.meaning.Bind.{Bind}
use Rattle.mn_labels.specs.declared.meaning.Bind.TheVariants as bind
use Rattle.mn_labels.specs.Labels.{Labels, LabelTable, meaning_of, offered as offered_labels}
use Rattle.mn_labels.proofs.Offering.{offered_alike, offered_many}
use Rattle.mn_releases.specs.Rests.{Resting, count_in, is_over}
use Rattle.mn_lfib.specs.declared.answer.Use.{Use}
use Rattle.mn_lfib.specs.Uses.{use_of, fec_use, IsNextHop}
use Rattle.mn_bindings.specs.News.{begun, ended}
use Rattle.mn_bindings.specs.Known.{Known, is_free, rested_events, owed_for, all_stopped, known_after}
use Rattle.mn_bindings.proofs.Resting.{owed_for_owed}
use Rattle.mn_bindings.specs.declared.event.LibEvent.{LibEvent}
use Rattle.mn_bindings.specs.declared.event.LibEvent.TheVariants as event
use Rattle.mn_bindings.specs.declared.event.Tell.{Tell}
use Rattle.mn_bindings.specs.Bindings.{Bindings, nodes, is_open, EventsFit, after_event, after_events}
use Rattle.mn_bindings.specs.Bindings as lib
use Rattle.mn_bindings.specs.Tells as lib_tells
use Rattle.mn_bindings.specs.Tells.{tell, told, tells_of, changes, releases, tells, opens}
use Rattle.mn_bindings.proofs.Events.{nodes-after_events, told_of-same}
use Rattle.mn_bindings.proofs.Ranges.{flat_none}
use Rattle.mn_node.specs.Ldp.{Message, Said, said_on, is_operational, offers, offered, news}
use Rattle.mn_node.specs.Node.{Session, Node, session_at, hearing_in, knowledge_in}
use Rattle.mn_node.specs.Machine.{Event, with_count, counted_from, having_said, changed, answers, said, after_event as after}
use Rattle.mn_node.specs.Ldp.{messages_of}
use Rattle.mn_node.proofs.Lists.{map_below}
use Rattle.mn_node.proofs.News.{EachBy, by-append, by-said}
use Rattle.mn_node.proofs.Opening.{hearing-in}
use Rattle.mn_ldp_session.specs.Spelling.{pdus}
use Rattle.mn_lsr.specs.declared.parts.Open.{Open}
use Rattle.mn_lsr.specs.OwnEnds.{Listed}
use Rattle.mn_lsr.specs.declared.parts.Parts.{Parts}
use Rattle.mn_lsr.specs.Standing.{IsMendedFor, IsUseOf, is_of, session_in, session_label, way_to, state_in}
use Rattle.mn_lsr.specs.Message.{HasOne}
use Rattle.mn_lsr.specs.Turns.{Kept, is_free_at, new_offers, labels_then, rested_by_event, owed_for_said, resting_then, kept_then}
use Rattle.mn_lsr.specs.Ties.{AreTied}
use Rattle.mn_lsr.specs.Telling.{said_by_tell, message_of, as_number, MayTell}
use Rattle.mn_base.specs.declared.numbers.LinkNo.{LinkNo}
use Rattle.std.specs.Option.{option_to_list}
use Rattle.mn_lsr.specs.Parts.{FitsLabel, AreOwn, AreOwed, Owes, Nothing, AtMost, HaveLabels, machines_of, wiring_in, node_in, kept_of, Stands, MayFollow}
use Rattle.mn_lsr.specs.Parts.{bumped, pdus_by, ends_after}
use Rattle.mn_lsr.proofs.Owing.{IsJoined, ends-owe, all-told, all-owe, owed-apart, told-open, stopped-owes}
use Rattle.mn_lsr.proofs.Naming.{begun_is, ended_is}
use Rattle.mn_lsr.proofs.Changing.{leads}
use Rattle.mn_lsr.proofs.Telling.{Agrees, telling, flat_map_below}
use Rattle.std.proofs.lemmas.Bool.Decides.{eqb_tells}
use Rattle.mn_wiring.specs.Paths.{next}
use Rattle.mn_linkdb.specs.Trees.{hop_alone}
use Rattle.mn_node.specs.Ldp.{usable_over}
use Rattle.mn_node.specs.Node.{view_in}
use Rattle.mn_lsr.specs.Standing.{labelled, label_sent, FitsOuter}
use Rattle.mn_lsr.proofs.Following.{no_next}
use Rattle.mn_lsr.proofs.Tied.{offers_same, usable_same}
use Rattle.mn_lsr.proofs.Saying.{at-is, with_ends, pdus-by, having-by, pdus_by-append, ends_after-append}

-- 1. What is sent changes nothing that ties

counted-at : (ss : List (Option Session)) (q k me : ℕ) (xs : List Said) →
    slice_index_or (counted_from q me xs ss) k None ≡ option_map (with_count (length (messages_of (q + k) me xs))) (slice_index_or ss k None)
counted-at [] q k me xs = refl
counted-at (s ∷ ss) q zero me xs = ap (λ l. option_map (with_count (length (messages_of l me xs))) s) (none q)
  where
    none : (q : ℕ) → q ≡ q + 0
    none q = omega arith
counted-at (s ∷ ss) q (suc k) me xs =
    counted-at ss (q + 1) k me xs ∙ ap (λ l. option_map (with_count (length (messages_of l me xs))) (slice_index_or ss k None)) (more q k)
  where
    more : (q k : ℕ) → q + 1 + k ≡ q + suc k
    more q k = omega arith

hearing-counted : (c : ℕ) (s : Option Session) → hearing_in (option_map (with_count c) s) ≡ hearing_in s
hearing-counted c None = refl
hearing-counted c (Some s) = refl

label-counted : (c fec : ℕ) (s : Option Session) → session_label (option_map (with_count c) s) fec ≡ session_label s fec
label-counted c fec None = refl
label-counted c fec (Some s) = refl

pub tied-said : (w : Wiring) (n : Node) (b : Bindings) (xs : List Said) → AreTied w n b → AreTied w (having_said n xs) b
tied-said w n b xs tied = record {
  one_each = tied.one_each;
  me = tied.me;
  hops = tied.hops;
  open_is =
      λ h l below j. tied.open_is h l below j
      ∙ ap (λ x. x.alive && nat_le 2 x.count)
      (hearing-in n l
      ∙ sym (hearing-in (having_said n xs) l ∙ ap hearing_in (counted-at n.sessions 0 l n.me xs)
      ∙ hearing-counted (length (messages_of (0 + l) n.me xs)) (session_at n l)));
  labels = λ h l fec below j on. tied.labels h l fec below j on
      ∙ sym (ap (λ s. session_label s fec) (counted-at n.sessions 0 l n.me xs) ∙ label-counted (length (messages_of (0 + l) n.me xs)) fec (session_at n l));
}

by-links : (me : ℕ) (m : Message) (ls : List ℕ) → EachBy me (flat_map (λ l. said_on l me (m ∷ [])) ls)
by-links me m [] = tt
by-links me m (l ∷ ls) = (refl, by-links me m ls)

by-tells : (w : Wiring) (me : ℕ) (ts : List Tell) → EachBy me (flat_map (said_by_tell w me) ts)
by-tells w me [] = tt
by-tells w me (t ∷ ts) =
    by-append me (said_by_tell w me t) (flat_map (said_by_tell w me) ts) (by-links me (message_of t.kind t.fec.0) (joining w me t.to.0)) (by-tells w me ts)

pub length-machines : (ends : List (Option Open)) → length (machines_of ends) ≡ length ends
length-machines ends = length-map ends (option_map (λ (e : Open). e.session))

-- what is sent moves no state machine
machines-one : (ends : List (Option Open)) (l : ℕ) → machines_of (bumped ends l) ≡ machines_of ends
machines-one [] l = refl
machines-one (None ∷ ends) zero = refl
machines-one (Some end ∷ ends) zero = refl
machines-one (end ∷ ends) (suc l) = ap (λ xs. option_map (λ (e : Open). e.session) end ∷ xs) (machines-one ends l)

pub machines-after : (ends : List (Option Open)) (xs : List Said) → machines_of (ends_after ends xs) ≡ machines_of ends
machines-after ends [] = refl
machines-after ends (x ∷ xs) = machines-after (bumped ends x.link) xs ∙ machines-one ends x.link

-- 2. What may be told

may-append : (n me withdrawn : ℕ) (labels : Labels) (xs ys : List Tell) → MayTell n me labels withdrawn xs → MayTell n me labels withdrawn ys →
    MayTell n me labels withdrawn (xs ++ ys)
may-append n me withdrawn labels [] ys h g = g
may-append n me withdrawn labels (x ∷ xs) ys h g = (h.0, h.1, may-append n me withdrawn labels xs ys h.2 g)

may-flat : (n me withdrawn : ℕ) (labels : Labels) (f : ℕ → List Tell) (count q : ℕ) →
    ((k : ℕ) → k < q + count → MayTell n me labels withdrawn (f k)) → MayTell n me labels withdrawn (flat_map f (range_with_len q count))
may-flat n me withdrawn labels f zero q h = tt
may-flat n me withdrawn labels f (suc count) q h =
    may-append n me withdrawn labels (f q) (flat_map f (range_with_len (q + 1) count)) (h q (omega arith))
    (may-flat n me withdrawn labels f count (q + 1) (λ k b. h k (omega arith)))

may-told : (n me withdrawn : ℕ) (labels : Labels) (fec to : ℕ) (on was is : Bool) → fec < n → ((was ≡ true) ⊎ (is ≡ true) → HasOne me labels fec) →
    MayTell n me labels withdrawn (cond on (map (λ k. tell to k fec) (lib_tells.mention was is)) [])
may-told n me withdrawn labels fec to false was is h one = tt
may-told n me withdrawn labels fec to true true true h one = tt
may-told n me withdrawn labels fec to true false false h one = tt
may-told n me withdrawn labels fec to true false true h one = (h, one (inr refl), tt)
may-told n me withdrawn labels fec to true true false h one = (h, one (inl refl), tt)

may-changes : (me withdrawn : ℕ) (labels : Labels) (before : List Bool) (a : Bindings) (es : List LibEvent) →
    ((fec : ℕ) → fec < nodes a → (slice_index_or before fec false ≡ true) ⊎ (lib.offers a fec ≡ true) → HasOne me labels fec) →
    MayTell (nodes a) me labels withdrawn (changes before a es)
may-changes me withdrawn labels before a es one =
    may-flat (nodes a) me withdrawn labels (λ fec. tells_of (slice_index_or before fec false) a es fec) (nodes a) 0
    (λ fec h. may-flat (nodes a) me withdrawn labels (told (slice_index_or before fec false) a es fec) (nodes a) 0
    (λ to g. may-told (nodes a) me withdrawn labels fec to (is_open a to) (slice_index_or before fec false && not (opens es to)) (lib.offers a fec)
    (omega (arith, h)) (λ x. one fec (omega (arith, h)) (elim x [
      | inl e ↦ inl (and_left (slice_index_or before fec false) (not (opens es to)) e)
      | inr e ↦ inr e
    ]))))

pub may-tells : (n me withdrawn : ℕ) (labels : Labels) (b : Bindings) (es : List LibEvent) → nodes b ≡ n → MayTell n me labels withdrawn (releases es) →
    ((fec : ℕ) → fec < n → (lib.offers b fec ≡ true) ⊎ (lib.offers (after_events b es) fec ≡ true) → HasOne me labels fec) →
    MayTell n me labels withdrawn (tells b es)
may-tells n me withdrawn labels b es e h one =
    may-append n me withdrawn labels (releases es) (changes (lib_tells.offered b) (after_events b es) es) h
    (subst (λ k. MayTell k me labels withdrawn (changes (lib_tells.offered b) (after_events b es) es)) (nodes-after_events b es ∙ e)
    (may-changes me withdrawn labels (lib_tells.offered b) (after_events b es) es (λ fec g x.
    let below : fec < nodes b = omega (arith, g, nodes-after_events b es) in
    one fec (omega (arith, below, e)) (elim x [
      | inl f ↦ inl (sym (get_or-map-range_with_len (lib.offers b) 0 (nodes b) fec fec false below (omega arith)) ∙ f)
      | inr f ↦ inr f
    ]))))

-- without events nothing is told
pub no_tells : (b : Bindings) → tells b [] ≡ []
no_tells b =
    flat_map_below (λ fec. tells_of (slice_index_or (lib_tells.offered b) fec false) b [] fec) (λ fec. []) (nodes b) 0
    (λ fec low h. told_of-same (slice_index_or (lib_tells.offered b) fec false) b [] fec (λ to. refl)
    (get_or-map-range_with_len (lib.offers b) 0 (nodes b) fec fec false (omega (arith, h)) (omega arith)))
    ∙ flat_none (λ fec. []) (λ fec. refl) (range_with_len 0 (nodes b))

heard-one : (b : Bindings) (e : LibEvent) → length (after_event b e).heard ≡ length b.heard
heard-one b (event.Opened h) = length-set b.heard h.0 _
heard-one b (event.Closed h) = length-set b.heard h.0 _
heard-one b (event.Map h p l) = length-set b.heard h.0 _
heard-one b (event.Withdraw h p) = length-set b.heard h.0 _
heard-one b (event.Released h p) = refl
heard-one b (event.Next p h) = refl

pub heard-after : (b : Bindings) (es : List LibEvent) → length (after_events b es).heard ≡ length b.heard
heard-after b [] = refl
heard-after b (e ∷ es) = heard-after (after_event b e) es ∙ heard-one b e

-- next labels have 20 bits
pub next_fits : (b : Bindings) → ((h fec : ℕ) → FitsLabel (lib.label_learned (lib.row_of b h) fec)) → (fec : ℕ) → IsNextHop (lib.usable b fec)
next_fits b fit fec = by (slice_index_or b.hops fec None)
  where
    over : (hop : NodeNo) (label : Option ℕ) → FitsLabel label → IsNextHop (lib.labelled hop label)
    over hop None h = tt
    over hop (Some label) h = h

    by : (hop : Option NodeNo) → IsNextHop (lib.usable_by b fec hop)
    by None = tt
    by (Some hop) = over hop (lib.label_learned (lib.row_of b hop.0) fec) (fit hop.0 fec)

-- 3. All parts

-- what happens is these events of the bindings, after which the ends are these, and after these messages on a link what is told
pub record Happens (p : Parts) (e : Event) (counts : List ℕ) (es : List LibEvent) (ends : List (Option Open)) (l : ℕ) (pre : List Message) : Type 0 where
  pub is : with_ends (wiring_in p) p.me.0 (after_events p.lib.bindings es) counts ends ≡ changed (wiring_in p) (node_in p) e
  pub tied : AreTied (wiring_in p) (changed (wiring_in p) (node_in p) e) (after_events p.lib.bindings es)
  pub was : (h k : ℕ) → h < length p.loopbacks.items → joining (wiring_in p) p.me.0 h ≡ k ∷ [] →
      is_operational (knowledge_in (changed (wiring_in p) (node_in p) e)) k ≡ true
      → is_operational (knowledge_in (node_in p)) k ≡ not (opens es h)
  pub answered : answers (wiring_in p) (node_in p) e ≡ said_on l p.me.0 pre ++ flat_map (said_by_tell (wiring_in p) p.me.0) (releases es)
  pub own : AreOwn (wiring_in p) p.me.0 (machines_of ends)
  pub fit : (h fec : ℕ) → FitsLabel (lib.label_learned (lib.row_of (after_events p.lib.bindings es) h) fec)
  pub fits : EventsFit p.lib.bindings es
  pub short : length es ≤ 256
  pub rested : (tick : ℕ) → rested_events tick p.lib.resting es ≡ rested_by_event (wiring_in p) tick (node_in p) e p.lib.resting
  pub owed : (tick : ℕ) →
      AreOwed (wiring_in p) p.me.0 (record { bindings = after_events p.lib.bindings es; resting = rested_events tick p.lib.resting es }) ends
  pub quiet : (r : Resting) → owed_for_said (wiring_in p) p.me.0 r (said_on l p.me.0 pre) ≡ r

-- a neighbour is joined by one link at most
pub joined-by : (p : Parts) → Stands p → (to : ℕ) → IsJoined (wiring_in p) p.me.0 to
joined-by p st to = by (slice_index_or p.links.items to None) (st.links.join to)
  where
    by : (o : Option LinkNo) → joining (wiring_in p) p.me.0 to ≡ option_to_list (option_map as_number o) → IsJoined (wiring_in p) p.me.0 to
    by None e = inl e
    by (Some link) e = inr (link.0, e, leads (wiring_in p) p.me.0 to link.0 e)

-- a FEC's rest isn't told by the rows
stopped-owe : (w : Wiring) (me tick h : ℕ) (r : Resting) (fecs : List ℕ) (ends : List (Option Open)) → Owes w me r ends h →
    Owes w me (all_stopped tick r fecs) ends h
stopped-owe w me tick h r fecs ends (Nothing e) = Nothing (ap (λ rows. slice_index_or rows h None) (stopped-owes tick r fecs) ∙ e)
stopped-owe w me tick h r fecs ends (AtMost l end j at few) =
    AtMost l end j at (λ f. subst (λ rows. count_in (slice_index_or rows h None) f ≤ end.said) (sym (stopped-owes tick r fecs)) (few f))

module _ (p : Parts) (st : Stands p) (e : Event) (counts : List ℕ) (es : List LibEvent) (ends : List (Option Open)) (l : ℕ) (pre : List Message)
    (h : Happens p e counts es ends l pre) where
  abbrev pub w : Wiring
  w = wiring_in p

  abbrev pub n : Node
  n = node_in p

  abbrev pub b : Bindings
  b = after_events p.lib.bindings es

  abbrev pub words : List Said
  words = said_on l p.me.0 pre ++ flat_map (said_by_tell w p.me.0) (tells p.lib.bindings es)

  abbrev then_node : Node
  then_node = with_ends w p.me.0 b counts ends

  tied-there : AreTied w then_node b
  tied-there = subst (λ m. AreTied w m b) (sym h.is) h.tied

  offered-before : (fec : ℕ) → fec < length w.loopbacks → lib.offers p.lib.bindings fec ≡ offers w (knowledge_in n) p.me.0 fec
  offered-before fec below = offers_same w n p.lib.bindings st.wired.joins st.wired.once st.me st.tied fec below

  offered-after : (fec : ℕ) → fec < length w.loopbacks → lib.offers b fec ≡ offers w (knowledge_in (changed w n e)) p.me.0 fec
  offered-after fec below =
      offers_same w then_node b st.wired.joins st.wired.once st.me tied-there fec below ∙ ap (λ m. offers w (knowledge_in m) p.me.0 fec) h.is

  agrees : Agrees w p.me.0 es b (knowledge_in n) (knowledge_in then_node)
  agrees = record {
    nodes_is = tied-there.one_each;
    open_is = tied-there.open_is;
    was_is = λ g k below j on. h.was g k below j (subst (λ m. is_operational (knowledge_in m) k ≡ true) h.is on);
    offers_is = λ fec below. offers_same w then_node b st.wired.joins st.wired.once st.me tied-there fec below;
  }

  offered-is : lib_tells.offered p.lib.bindings ≡ offered w (knowledge_in n) p.me.0
  offered-is =
      ap (λ k. map (lib.offers p.lib.bindings) (range_with_len 0 k)) st.tied.one_each
      ∙ map_below (lib.offers p.lib.bindings) (offers w (knowledge_in n) p.me.0) (length w.loopbacks) 0
      (λ fec low below. offered-before fec (omega (arith, below)))

  told-is : flat_map (said_by_tell w p.me.0) (changes (lib_tells.offered p.lib.bindings) b es) ≡ news w (knowledge_in n) (knowledge_in (changed w n e)) p.me.0
  told-is =
      ap (λ os. flat_map (said_by_tell w p.me.0) (changes os b es)) offered-is
      ∙ telling w p.me.0 es b (knowledge_in n) (knowledge_in then_node) st.wired.once st.me agrees
      ∙ ap (λ m. news w (knowledge_in n) (knowledge_in m) p.me.0) h.is

  pub words-are : words ≡ said w n e
  words-are =
      ap (λ xs. said_on l p.me.0 pre ++ xs) (flat_map-append (said_by_tell w p.me.0) (releases es) (changes (lib_tells.offered p.lib.bindings) b es))
      ∙ sym (append_assoc (said_on l p.me.0 pre) (flat_map (said_by_tell w p.me.0) (releases es))
      (flat_map (said_by_tell w p.me.0) (changes (lib_tells.offered p.lib.bindings) b es)))
      ∙ ap (λ xs. xs ++ flat_map (said_by_tell w p.me.0) (changes (lib_tells.offered p.lib.bindings) b es)) (sym h.answered)
      ∙ ap (λ xs. answers w n e ++ xs) told-is

  by-me : EachBy p.me.0 words
  by-me = by-append p.me.0 (said_on l p.me.0 pre) (flat_map (said_by_tell w p.me.0) (tells p.lib.bindings es)) (by-said l p.me.0 pre)
      (by-tells w p.me.0 (tells p.lib.bindings es))

  pub node-then : with_ends w p.me.0 b counts (ends_after ends words) ≡ after w n e
  node-then = sym (having-by w p.me.0 b counts ends words by-me) ∙ ap (λ m. having_said m words) h.is ∙ ap (having_said (changed w n e)) words-are

  pub said-then : (own : ℕ → ℕ) (withdrawn : ℕ) → pdus_by w p.me.0 own withdrawn ends words ≡ pdus w own withdrawn (changed w n e) (said w n e)
  said-then own withdrawn =
      pdus-by w p.me.0 b own withdrawn counts ends words ∙ ap (λ m. pdus w own withdrawn m words) h.is ∙ ap (pdus w own withdrawn (changed w n e)) words-are

  -- first the answers are sent, and then what is told
  pub said-all : (own : ℕ → ℕ) (withdrawn : ℕ) →
      pdus_by w p.me.0 own withdrawn ends (said_on l p.me.0 pre) ++ pdus_by w p.me.0 own withdrawn (ends_after ends (said_on l p.me.0 pre))
      (flat_map (said_by_tell w p.me.0) (tells p.lib.bindings es))
      ≡ pdus w own withdrawn (changed w n e) (said w n e)
  said-all own withdrawn =
      sym (pdus_by-append w p.me.0 own withdrawn ends (said_on l p.me.0 pre) (flat_map (said_by_tell w p.me.0) (tells p.lib.bindings es)))
      ∙ said-then own withdrawn

  tied-then : AreTied w (with_ends w p.me.0 b counts (ends_after ends words)) b
  tied-then = subst (λ m. AreTied w m b) (having-by w p.me.0 b counts ends words by-me) (tied-said w then_node b words tied-there)

  -- the labels are those that the node is to have
  pub labels-then : (tick : ℕ) → offered_labels (is_free p.lib tick) p.labels.labels (begun p.lib.bindings b) ≡ labels_then w tick (kept_of p) e
  labels-then tick =
      ap (offered_labels (is_free p.lib tick) p.labels.labels)
      (begun_is w p.me.0 p.lib.bindings b (knowledge_in n) (knowledge_in (changed w n e)) st.tied.me st.tied.one_each offered-before offered-after)
      ∙ offered_alike (is_free p.lib tick) (is_free_at w tick (kept_of p)) p.labels.labels
      (new_offers w (knowledge_in n) (knowledge_in (changed w n e)) p.me.0)
      (λ k below. inl (ap (λ x. not x && is_over p.lib.resting tick k) (offered-before k (omega (arith, below, st.labels.long)))))

  -- and what is owed and rests is what is to be
  pub resting-then : (tick : ℕ) → (known_after p.lib es tick).resting ≡ resting_then w tick (kept_of p) e
  resting-then tick =
      let r : Resting = rested_events tick p.lib.resting es in
      let told : List Said = flat_map (said_by_tell w p.me.0) (tells p.lib.bindings es) in
      ap (λ x. all_stopped tick x (ended p.lib.bindings b))
      (all-told w p.me.0 (joined-by p st) r ends (tells p.lib.bindings es) (h.owed tick).each
      ∙ ap (λ x. owed_for_said w p.me.0 x told) (sym (h.quiet r))
      ∙ sym (owed-apart w p.me.0 r (said_on l p.me.0 pre) told)
      ∙ ap (owed_for_said w p.me.0 r) words-are
      ∙ ap (λ x. owed_for_said w p.me.0 x (said w n e)) (h.rested tick))
      ∙ ap (all_stopped tick (owed_for_said w p.me.0 (rested_by_event w tick n e p.lib.resting) (said w n e)))
      (ended_is w p.me.0 p.lib.bindings b (knowledge_in n) (knowledge_in (changed w n e)) st.tied.me st.tied.one_each offered-before offered-after)

  owed-then : (tick : ℕ) → AreOwed w p.me.0 (known_after p.lib es tick) (ends_after ends words)
  owed-then tick =
      let r : Resting = rested_events tick p.lib.resting es in
      let ts : List Tell = tells p.lib.bindings es in
      let fecs : List ℕ = ended p.lib.bindings b in
      let owes = h.owed tick in
      record {
        rows = ap length (stopped-owes tick (owed_for r ts) fecs) ∙ owed_for_owed r ts ∙ owes.rows;
        open_is = λ k. ap (λ rows. is_some (slice_index_or rows k None)) (stopped-owes tick (owed_for r ts) fecs) ∙ told-open r ts k ∙ owes.open_is k;
        each = λ k. stopped-owe w p.me.0 tick k (owed_for r ts) fecs (ends_after ends words)
            (subst (λ xs. Owes w p.me.0 (owed_for r ts) xs k) (sym (ends_after-append ends (said_on l p.me.0 pre) (flat_map (said_by_tell w p.me.0) ts)))
            (all-owe w p.me.0 (joined-by p st) r (ends_after ends (said_on l p.me.0 pre)) ts
            (λ j. ends-owe w p.me.0 r ends (said_on l p.me.0 pre) j (owes.each j)) k));
      }

  -- what the parts are then
  pub record IsThen (tick : ℕ) (v : Learned) (sessions : Listed) (known : Known) (table : LabelTable) : Type 0 where
    pub view_is : v ≡ record { nodes = p.view.nodes; ends = p.view.ends; counts = counts }
    pub known_is : known ≡ known_after p.lib es tick
    pub ends_are : sessions.items ≡ ends_after ends words
    pub labels_are : table.labels ≡ offered_labels (is_free p.lib tick) p.labels.labels (begun p.lib.bindings b)

  -- the parts stand again
  pub stands-then : (tick : ℕ) (v : Learned) (mended : Mended) (sessions : Listed) (known : Known) (table : LabelTable) (uses : List (ℕ × Use))
      → IsThen tick v sessions known table → length counts ≡ length p.view.counts → IsMendedFor w (map is_odd counts) p.me.0 mended →
      HaveLabels p.me.0 (length p.loopbacks.items) b table → ((label : ℕ) → IsUseOf (lib.usable b) (meaning_of table.labels label) (use_of uses label))
      → Stands (record p { view = v; mended = mended; sessions = sessions; lib = known; labels = table; lfib = uses })
  stands-then tick v mended sessions known table uses is as_many mended_is have stands =
      let of : Learned → Known → Parts = λ x y. record p { view = x; mended = mended; sessions = sessions; lib = y; labels = table; lfib = uses } in
      subst (λ x. Stands (of x known)) (sym is.view_is)
      (subst (λ y. Stands (of (record { nodes = p.view.nodes; ends = p.view.ends; counts = counts }) y)) (sym is.known_is) (record {
        view = record { network = st.view.network; one_each = as_many ∙ st.view.one_each };
        nodes = st.nodes;
        me = st.me;
        wired = st.wired;
        mended = mended_is;
        ends = subst (λ xs. AreOwn w p.me.0 (machines_of xs)) (sym is.ends_are) (subst (AreOwn w p.me.0) (sym (machines-after ends words)) h.own);
        rows = heard-after p.lib.bindings es ∙ st.rows;
        tied = subst (λ xs. AreTied w (with_ends w p.me.0 b counts xs) b) (sym is.ends_are) tied-then;
        fit = h.fit;
        labels = have;
        owed = subst (AreOwed w p.me.0 (known_after p.lib es tick)) (sym is.ends_are) (owed-then tick);
        attached = λ site. st.attached site
            ∙ sym (ap (λ (t : Labels). length (filter (λ giving. is_of site giving.what) t.given)) is.labels_are
            ∙ offered_many (is_of site) (λ fec. refl) (is_free p.lib tick) p.labels.labels (begun p.lib.bindings b));
        links = st.links;
        table = stands;
      }))

  pub kept-of : (tick : ℕ) (v : Learned) (mended : Mended) (sessions : Listed) (known : Known) (table : LabelTable) (uses : List (ℕ × Use))
      → IsThen tick v sessions known table
      → kept_of (record p { view = v; mended = mended; sessions = sessions; lib = known; labels = table; lfib = uses }) ≡ kept_then w tick (kept_of p) e
  kept-of tick v mended sessions known table uses is =
      let of : Node → Labels → Resting → Kept = λ x y z. record { node = x; labels = y; resting = z } in
      let node : node_in (record p { view = v; mended = mended; sessions = sessions; lib = known; labels = table; lfib = uses }) ≡ after w n e =
      ap (λ x. node_in (record p { view = x; mended = mended; sessions = sessions; lib = known; labels = table; lfib = uses })) is.view_is
      ∙ ap (λ (y : Known). with_ends w p.me.0 y.bindings counts sessions.items) is.known_is ∙ ap (with_ends w p.me.0 b counts) is.ends_are ∙ node-then in
      ap (λ x. of x table.labels known.resting) node ∙ ap (λ y. of (after w n e) y known.resting) (is.labels_are ∙ labels-then tick)
      ∙ ap (of (after w n e) (labels_then w tick (kept_of p) e)) (ap (λ (y : Known). y.resting) is.known_is ∙ resting-then tick)

  -- the events may be followed, whatever was sent before
  pub may-follow : (v : Learned) (mended : Mended) (sessions : Listed) (withdrawn : ℕ)
      → v ≡ record { nodes = p.view.nodes; ends = p.view.ends; counts = counts } → length sessions.items ≡ length p.view.ends →
      ((labels : Labels) → MayTell (length p.loopbacks.items) p.me.0 labels withdrawn (releases es))
      → MayFollow (record p { view = v; mended = mended; sessions = sessions }) withdrawn es
  may-follow v mended sessions withdrawn view_is as_many may =
      subst (λ x. MayFollow (record p { view = x; mended = mended; sessions = sessions }) withdrawn es) (sym view_is) (record {
        few = st.wired.spelled.few;
        me = st.me;
        joins = st.wired.joins;
        links = st.links;
        one_each = as_many;
        view_nodes = st.nodes;
        lib_nodes = st.tied.one_each;
        lib_me = st.tied.me;
        fit = h.fits;
        short = h.short;
        labels = st.labels;
        may = may;
        table = st.table;
        next = next_fits b h.fit;
      })

-- 4. What can be read off

pub way-is : (p : Parts) → Stands p → (fec : ℕ) → fec < length p.loopbacks.items → fec ≢ p.me.0 →
    lib.usable p.lib.bindings fec ≡ way_to (wiring_in p) (node_in p) fec
way-is p st fec h d = usable_same (wiring_in p) (node_in p) p.lib.bindings st.wired.joins st.wired.once st.me st.tied fec h (λ e. d (sym e))

pub state-at : (p : Parts) (l : ℕ) → state_in (session_at (node_in p) l) ≡ option_map (λ (e : Open). e.session.state) (slice_index_or p.sessions.items l None)
state-at p l = ap state_in (at-is (wiring_in p) p.me.0 p.lib.bindings p.sessions.items 0 l l (omega arith)) ∙ by (slice_index_or p.sessions.items l None)
  where
    by : (o : Option Open) → state_in (option_map (session_in (wiring_in p) p.me.0 p.lib.bindings l) o) ≡ option_map (λ (e : Open). e.session.state) o
    by None = refl
    by (Some end) = refl

-- to itself no way leads
pub way-any : (p : Parts) → Stands p → (fec : ℕ) → fec < length p.loopbacks.items → lib.usable p.lib.bindings fec ≡ way_to (wiring_in p) (node_in p) fec
way-any p st fec h = elim (eqb_tells fec p.me.0) [
  | inl e ↦ subst (λ k. lib.usable p.lib.bindings k ≡ way_to (wiring_in p) (node_in p) k) (sym e.1) (own ∙ sym none)
  | inr e ↦ way-is p st fec h e.1
]
  where
    none : way_to (wiring_in p) (node_in p) p.me.0 ≡ None
    none = ap (λ o. labelled (node_in p) p.me.0 (usable_over (knowledge_in (node_in p)) p.me.0 o)) (no_next (wiring_in p) (view_in (node_in p)) p.me.0)

    hop : slice_index_or p.lib.bindings.hops p.me.0 None ≡ None
    hop = ap (λ hs. slice_index_or hs p.me.0 None) st.tied.hops
        ∙ get_or-map-range_with_len (λ k. hop_alone (next (wiring_in p) (view_in (node_in p)) p.me.0 k)) 0
        (length p.loopbacks.items) p.me.0 p.me.0 None st.me (omega arith)
        ∙ ap hop_alone (no_next (wiring_in p) (view_in (node_in p)) p.me.0)

    own : lib.usable p.lib.bindings p.me.0 ≡ None
    own = ap (lib.usable_by p.lib.bindings p.me.0) hop

-- a label's use is that of what it means, by the node's way
pub tables-are : (p : Parts) → Stands p → (label : ℕ) → IsUseOf (way_to (wiring_in p) (node_in p)) (meaning_of p.labels.labels label) (use_of p.lfib label)
tables-are p st label = by (meaning_of p.labels.labels label) refl (st.table label)
  where
    inside : (xs : List (Option ℕ)) (k a : ℕ) → slice_index_or xs k None ≡ Some a → k < length xs
    inside [] k a e = cc
    inside (x ∷ xs) zero a e = omega arith
    inside (x ∷ xs) (suc k) a e = omega (arith, inside xs k a e)

    by : (m : Option Bind) → meaning_of p.labels.labels label ≡ m → IsUseOf (lib.usable p.lib.bindings) m (use_of p.lfib label) →
        IsUseOf (way_to (wiring_in p) (node_in p)) m (use_of p.lfib label)
    by None e h = h
    by (Some (bind.Fec fec)) e h =
        let below = inside p.labels.labels.fecs fec.0 label ((st.labels.told label (bind.Fec fec)).0 e) in
        h ∙ ap fec_use (way-any p st fec.0 (omega (arith, below, st.labels.long)))
    by (Some (bind.Site site k)) e h = h

-- a label that is sent has 20 bits
pub outer-fits : (p : Parts) → Stands p → (fec : ℕ) (hop : NodeNo) (label : ℕ) (sent : Option ℕ) → lib.usable p.lib.bindings fec ≡ Some (hop, label) →
    sent ≡ label_sent label → FitsOuter (Some (hop, sent))
outer-fits p st fec hop label sent e f = subst (λ (o : Option ℕ). FitsOuter (Some (hop, o))) (sym f) (by (label == 3))
  where
    small : label < 2 ^ 20
    small = subst IsNextHop e (next_fits p.lib.bindings st.fit fec)

    by : (b : Bool) → FitsOuter (let o : Option (NodeNo × Option ℕ) = Some (hop, if b then None else Some label) in o)
    by true = tt
    by false = small

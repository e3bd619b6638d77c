-- What is received aside changes no way, and so nothing is told of it.
use Rattle.std.proofs.Common.{ℕ, zero, suc, ◌≡◌, ◌≢◌, ◌+◌, Bool, true, false, List, [], ◌∷◌, Option, Some, None, refl, arith, sym, ◌∙◌, ap, inl, inr}
use Rattle.std.specs.Prelude.{◌==◌, ◌||◌, not, is_some, slice_index_or, slice_set}
use Rattle.std.specs.List.{flat_map, range_with_len}
use Rattle.std.proofs.lemmas.Bool.Decides.{eqb_tells}
use Rattle.std.proofs.lemmas.List.{get_or-set_other}
use Rattle.mn_base.specs.declared.numbers.NodeNo.{NodeNo}
use Rattle.mn_bindings.specs.declared.event.LibEvent.{LibEvent}
use Rattle.mn_bindings.specs.declared.event.LibEvent.TheVariants.{Opened, Closed, Map, Withdraw, Released, Next}
use Rattle.mn_bindings.specs.declared.event.Tell.{Tell}
use Rattle.mn_bindings.specs.Bindings.{Bindings, nodes, row_of, label_learned, labelled, usable, usable_by, offers, with_label, after_event, after_events}
use Rattle.mn_bindings.specs.Tells.{opens, tells, tells_of, changes, offered}
use Rattle.mn_bindings.specs.News.{begun, begun_of, ended, ended_of}
use Rattle.mn_bindings.specs.Known.{Known, known_after, all_stopped, owed_for}
use Rattle.mn_bindings.specs.Aside.{is_hop, is_aside}
use Rattle.mn_bindings.proofs.Events.{nodes-after_events, told_of-same}
use Rattle.mn_bindings.proofs.Staying.{row-other, flat_all, was, not_ended, not_begun}

-- 1. No way changes

-- the label of another FEC, or of another neighbour
label_aside : (b : Bindings) (from fec : NodeNo) (label h p : ℕ) → (p ≡ fec.0 → h ≢ from.0) →
    label_learned (slice_index_or (slice_set b.heard from.0 (with_label (row_of b from.0) fec.0 (Some label))) h None) p ≡ label_learned (row_of b h) p
label_aside b from fec label h p apart = elim (eqb_tells p fec.0) [
  | inl e ↦ ap (λ r. label_learned r p) (get_or-set_other b.heard from.0 h (with_label (row_of b from.0) fec.0 (Some label)) None (apart e.1))
  | inr e ↦ row-other b.heard from.0 h fec.0 p (Some label) e.1
]

not_this : (x : Bool) (h k : ℕ) → x ≡ (h == k) → not x ≡ true → h ≢ k
not_this true h k e n d = cc
not_this false h k e n d = elim (eqb_tells h k) [ inl q ↦ cc | inr q ↦ q.1 d ]

usable_aside : (b : Bindings) (from fec : NodeNo) (label p : ℕ) → not (is_hop (slice_index_or b.hops fec.0 None) from.0) ≡ true →
    usable (after_event b (Map from fec label)) p ≡ usable b p
usable_aside b from fec label p aside = by (slice_index_or b.hops p None) refl
  where
    by : (o : Option NodeNo) → slice_index_or b.hops p None ≡ o → usable_by (after_event b (Map from fec label)) p o ≡ usable_by b p o
    by None e = refl
    by (Some hop) e = ap (labelled hop) (label_aside b from fec label hop.0 p
        (λ q. not_this (hop.0 == from.0) hop.0 from.0 refl (ap (λ o. not (is_hop o from.0)) (sym e ∙ ap (λ k. slice_index_or b.hops k None) q) ∙ aside)))

pub ways_aside : (b : Bindings) (e : LibEvent) → is_aside b e ≡ true → (p : ℕ) → usable (after_events b (e ∷ [])) p ≡ usable b p
ways_aside b (Map from fec label) a p = usable_aside b from fec label p a
ways_aside b (Opened from) a p = cc
ways_aside b (Closed from) a p = cc
ways_aside b (Withdraw from fec) a p = cc
ways_aside b (Released from fec) a p = cc
ways_aside b (Next fec hop) a p = cc

pub offers_aside : (b : Bindings) (e : LibEvent) → is_aside b e ≡ true → (p : ℕ) → offers b p ≡ offers (after_events b (e ∷ [])) p
offers_aside b (Map from fec label) a p = ap (λ u. (b.me.0 == p) || is_some u) (sym (usable_aside b from fec label p a))
offers_aside b (Opened from) a p = cc
offers_aside b (Closed from) a p = cc
offers_aside b (Withdraw from fec) a p = cc
offers_aside b (Released from fec) a p = cc
offers_aside b (Next fec hop) a p = cc

-- 2. Nothing is told

opens_none : (b : Bindings) (e : LibEvent) → is_aside b e ≡ true → (h : ℕ) → opens (e ∷ []) h ≡ false
opens_none b (Map from fec label) a h = refl
opens_none b (Opened from) a h = cc
opens_none b (Closed from) a h = refl
opens_none b (Withdraw from fec) a h = refl
opens_none b (Released from fec) a h = refl
opens_none b (Next fec hop) a h = refl

none_of : {A : Type 0} (n least : ℕ) → (let f : ℕ → List A = λ q. [] in flat_map f (range_with_len least n)) ≡ []
none_of zero least = refl
none_of (suc n) least = none_of n (least + 1)

changes_none : (b : Bindings) (e : LibEvent) → is_aside b e ≡ true → changes (offered b) (after_events b (e ∷ [])) (e ∷ []) ≡ []
changes_none b e a =
    let c : Bindings = after_events b (e ∷ []) in
    ap (λ n. flat_map (λ q. tells_of (slice_index_or (offered b) q false) c (e ∷ []) q) (range_with_len 0 n)) (nodes-after_events b (e ∷ []))
    ∙ flat_all (λ q. tells_of (slice_index_or (offered b) q false) c (e ∷ []) q) (λ q. []) (nodes b) 0
    (λ q h. was b c (e ∷ []) q (omega (arith, h)) ∙ told_of-same (offers b q) c (e ∷ []) q (opens_none b e a) (offers_aside b e a q))
    ∙ none_of (nodes b) 0

pub tells_aside : (b : Bindings) (e : LibEvent) → is_aside b e ≡ true → tells b (e ∷ []) ≡ []
tells_aside b (Map from fec label) a = changes_none b (Map from fec label) a
tells_aside b (Opened from) a = cc
tells_aside b (Closed from) a = cc
tells_aside b (Withdraw from fec) a = cc
tells_aside b (Released from fec) a = cc
tells_aside b (Next fec hop) a = cc

pub begun_aside : (b : Bindings) (e : LibEvent) → is_aside b e ≡ true → begun b (after_events b (e ∷ [])) ≡ []
begun_aside b e a =
    flat_all (begun_of b (after_events b (e ∷ []))) (λ q. []) (nodes b) 0
    (λ q h. not_begun (offers b q) (offers (after_events b (e ∷ [])) q) q (offers_aside b e a q)) ∙ none_of (nodes b) 0

ended_aside : (b : Bindings) (e : LibEvent) → is_aside b e ≡ true → ended b (after_events b (e ∷ [])) ≡ []
ended_aside b e a =
    flat_all (ended_of b (after_events b (e ∷ []))) (λ q. []) (nodes b) 0
    (λ q h. not_ended (offers b q) (offers (after_events b (e ∷ [])) q) q (offers_aside b e a q)) ∙ none_of (nodes b) 0

-- nothing comes to rest by it
pub known_aside : (k : Known) (e : LibEvent) (tick : ℕ) → is_aside k.bindings e ≡ true →
    known_after k (e ∷ []) tick ≡ record { bindings = after_event k.bindings e; resting = k.resting }
known_aside k (Map from fec label) tick a =
    ap (λ (ts : List Tell). let o : Known = record {
      bindings = after_event k.bindings (Map from fec label);
      resting = all_stopped tick (owed_for k.resting ts) (ended k.bindings (after_events k.bindings (Map from fec label ∷ [])));
    } in o) (tells_aside k.bindings (Map from fec label) a)
    ∙ ap (λ qs. let o : Known = record {
      bindings = after_event k.bindings (Map from fec label);
      resting = all_stopped tick k.resting qs;
    } in o) (ended_aside k.bindings (Map from fec label) a)
known_aside k (Opened from) tick a = cc
known_aside k (Closed from) tick a = cc
known_aside k (Withdraw from fec) tick a = cc
known_aside k (Released from fec) tick a = cc
known_aside k (Next fec hop) tick a = cc

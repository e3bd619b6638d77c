-- Nodes are doubted one after another, and the tree when a link is turned.
use Rattle.std.proofs.Common.{ℕ, ◌≡◌, ◌≢◌, ◌+◌, ◌<◌, ◌≤◌, Bool, true, false, List, [], length, get_or, refl, arith, sym, ◌∙◌, ap, ◌⊎◌, inl, inr, subst}
use Rattle.std.specs.Prelude.{Option, Some, None, All, MatchBool, MatchOption, nat_lt}
use Rattle.std.specs.declared.cmp.Reverse.{Reverse}
use Rattle.std.proofs.lemmas.Bool.{eqb-true, lt-ltb}
use Rattle.std.proofs.lemmas.Bool.Decides.{eqb_tells}
use Rattle.std.proofs.lemmas.List.Elements.{All-nil}
use Rattle.mn_base.proofs.Bools.{clash, or_ways}
use Rattle.mn_wiring.specs.declared.links.LinkEnds.{LinkEnds}
use Rattle.mn_base.specs.declared.numbers.LinkNo.{LinkNo}
use Rattle.mn_base.specs.declared.numbers.NodeNo.{NodeNo}
use Rattle.mn_wiring.specs.Wiring.{link, is_up}
use Rattle.mn_linkdb.specs.Network.{IsNetwork, IsLink}
use Rattle.mn_linkdb.specs.Learned.{Learned, links_up}
use Rattle.mn_linkdb.specs.PathTable.{PathTable, dist_at}
use Rattle.mn_wiring.proofs.Dist.{cond_below}
use Rattle.mn_spf.specs.Ways.{wiring_of, goes, beyond, rank_at, rank_over, AreLinksAt}
use Rattle.mn_spf.proofs.Walks.{goes_at, all_true, beyond_below}
use Rattle.mn_spf.proofs.Best.{at_most_is}
use Rattle.mn_spf_inc.specs.declared.way.Way.{Way}
use Rattle.mn_spf_inc.specs.Ways.{rank_of, way_over, way_at}
use Rattle.mn_spf_inc.specs.Nets.{all_up, with_link}
use Rattle.mn_spf_inc.specs.Mended.{Makes}
use Rattle.mn_spf_inc.specs.Mending.{State, IsHeld, IsKnown, IsGrowing, IsMended, IsCutting, OneLink, NoneLate, HeldBy, HeldOver, HeldOverEither, IsPending}
use Rattle.mn_spf_inc.specs.Mending.{IsRelaxed}
use Rattle.mn_spf_inc.specs.Mending.{IsPassedOver, Queues, Doubts, DoubtsBeyond}
use Rattle.mn_spf_inc.proofs.Entries.{some_is, none_some, same_parts, known_way, no_way, over_rank, over_dearer, over_more, over_fits}
use Rattle.mn_spf_inc.proofs.Nets.{goes_other, goes_without, goes_with, up_there}
use Rattle.mn_spf_inc.proofs.Held.{all_relaxed}
use Rattle.mn_spf_inc.proofs.Places.{back, goes_back, next_place, no_place, first_place, none_left}
use Rattle.mn_spf_inc.proofs.Cutting.{eased, doubted, grows}
use Rattle.mn_spf_inc.proofs.Growing.{held_on}

end_is : (v : Learned) (node l : ℕ) → goes v node l ≡ true → (node ≡ (link (wiring_of v) l).a.0) ⊎ (node ≡ (link (wiring_of v) l).b.0)
end_is v node l g = elim (or_ways _ _ (goes_at v node l g).at_node) [ inl e ↦ inl (sym (eqb-true _ _ e)) | inr e ↦ inr (sym (eqb-true _ _ e)) ]

module _ (v : Learned) (root : ℕ) (net : IsNetwork v.nodes v.ends) where
  link_there : (l : ℕ) → l < length v.ends → IsLink v.nodes (link (wiring_of v) l)
  link_there l p = net.links l _ p

  pub far_below : (node l : ℕ) → l < length v.ends → beyond v node l < v.nodes
  far_below node l p = cond_below _ _ _ _ (link_there l p).to (link_there l p).from

  -- 1. A way that comes from a neighbour
  pub held_from : (s : State) (Late : ℕ → ℕ → Type 0) (way near : Way) (l : ℕ) → IsCutting v root Late s → way.to < v.nodes → goes v way.to l ≡ true →
      way_at s.table (beyond v way.to l) ≡ Some near → way_over root near (link (wiring_of v) l) ≡ way → IsHeld v root s.table way.to (rank_of way)
  held_from s Late way near l h there g e o =
      let far = beyond v way.to l in
      let below : far < v.nodes = beyond_below v net way.to l g in
      let k : IsKnown v root s.table near × (near.to ≡ far) = known_way v root s.table far near below (h.formed far below) h.root_cost e in
      record {
        from = far;
        l = l;
        near = rank_of near;
        there = below;
        goes_on = goes_back v way.to l g;
        leads = back v way.to l g;
        is_known = ap (rank_at s.table) (sym k.1) ∙ k.0.rank;
        no_worse = omega (arith, over_rank v root net s.table near k.0 l, ap rank_of o, ap (λ n. rank_over v root n (rank_of near) l) k.1);
      }

  -- 2. The nodes that one was holding
  module _ (w : Way) (links : List LinkNo) where
    pub held_first : (s : State) → AreLinksAt (all_up v.nodes v.ends) w.to links →
        IsCutting v root (λ node known. (l : ℕ) × (goes v w.to l ≡ true) × (beyond v w.to l ≡ node) × (rank_over v root w.to (rank_of w) l ≤ known)) s →
        IsCutting v root (HeldBy v root w links 0) s
    held_first s are h = eased v root _ (HeldBy v root w links 0) s h (λ n known p q r o. inl (o.0, o.1, first_place v w.to links are o.0 o.1, o.2, o.3))

    pub held_past : (s : State) (i : ℕ) → length links ≤ i → IsCutting v root (HeldBy v root w links i) s → IsCutting v root NoneLate s
    held_past s i e h = eased v root (HeldBy v root w links i) NoneLate s h (λ n known p q r o. absurd (no_place w.to links i w.to o.0 e o.2))

    pub held_down : (s : State) (i l : ℕ) (d : LinkNo) →
        (get_or links i d).0 ≡ l → is_up (links_up v) l ≡ false → IsCutting v root (HeldBy v root w links i) s →
        IsCutting v root (HeldBy v root w links (i + 1)) s
    held_down s i l d e u h =
        eased v root (HeldBy v root w links i) (HeldBy v root w links (i + 1)) s h
        (λ n known p q r o. elim (next_place w.to links i w.to o.0 l d e o.2) [
          | inl a ↦ inl (o.0, o.1, a, o.3, o.4)
          | inr a ↦ absurd (clash (sym (goes_at v w.to o.0 o.1).up ∙ ap (is_up (links_up v)) a.1 ∙ u))
        ])

    pub held_next : (t : PathTable) (s s' : State) (i l : ℕ) (d : LinkNo) → IsKnown v root t w →
        (get_or links i d).0 ≡ l → goes v w.to l ≡ true → IsCutting v root (HeldBy v root w links i) s →
        Doubts s s' (way_over root w (link (wiring_of v) l)) → IsCutting v root (HeldBy v root w links (i + 1)) s'
    held_next t s s' i l d k e g h o =
        doubted v root (HeldBy v root w links i) (HeldBy v root w links (i + 1)) s (way_over root w (link (wiring_of v) l)) h (beyond_below v net w.to l g)
        (omega (arith, over_more v root net t w k l g))
        (λ n known a. elim (next_place w.to links i w.to a.0 l d e a.2) [
          | inl b ↦ inl (a.0, a.1, b, a.3, a.4)
          | inr b ↦ inr (sym a.3 ∙ ap (beyond v w.to) b.1, omega (arith, over_rank v root net t w k l, ap (λ m. rank_over v root w.to (rank_of w) m) b.1, a.4))
        ])
        s' o

  -- 3. The node that was held over the lost link
  module _ (Late' : ℕ → ℕ → Type 0) (t : PathTable) (from l : ℕ) (s s' : State) (same : s.table ≡ t) (there : l < length v.ends) (below : from < v.nodes) where
    abbrev Late : ℕ → ℕ → Type 0
    Late node known = HeldOver v root t l from node known ⊎ Late' node known

    beyond_as : (o : Option Way) → IsCutting v root Late s → way_at s.table from ≡ o →
        MatchOption o (s' ≡ s) (λ way. Doubts s s' (way_over root way (link (wiring_of v) l))) → IsCutting v root Late' s'
    beyond_as None h e d =
        subst (IsCutting v root Late') (sym d)
        (eased v root Late Late' s h (λ n known p q r o. elim o [
          | inl a ↦ absurd (none_some a.0 (sym (no_way s.table from e) ∙ ap (λ x. rank_at x from) same ∙ a.1))
          | inr a ↦ inl a
        ]))
    beyond_as (Some w) h e d =
        let k = known_way v root s.table from w below (h.formed from below) h.root_cost e in
        doubted v root Late Late' s (way_over root w (link (wiring_of v) l)) h (far_below w.to l there)
        (omega (arith, over_dearer v root net s.table w k.0 l (link_there l there).positive))
        (λ n known o. elim o [
          | inl a ↦
              (let near : a.0 ≡ rank_of w = some_is (sym a.1 ∙ ap (λ x. rank_at x from) (sym same) ∙ ap (rank_at s.table) (sym k.1) ∙ k.0.rank) in
              inr (
                sym a.2
                    ∙ ap (λ x. beyond v x l) (sym k.1),
                omega (
                  arith,
                  over_rank v root net s.table w k.0 l,
                  ap (λ x. rank_over v root x (rank_of w) l) k.1,
                  ap
                      (λ x. rank_over v root from x l) near,
                  a.3,
                ),
              ))
          | inr a ↦ inl a
        ])
        s' d

    pub doubted_beyond : IsCutting v root Late s → DoubtsBeyond s s' root from (link (wiring_of v) l) → IsCutting v root Late' s'
    doubted_beyond h d = beyond_as _ h refl d

  doubts_same : (o : Option Way) (s s' : State) (over : Way) →
      MatchOption o (s' ≡ s) (λ known. MatchBool (nat_lt (rank_of known) (rank_of over)) (s' ≡ s) (Queues s s' known)) →
      (s'.table ≡ s.table) × (s'.cut ≡ s.cut)
  doubts_same None s s' over d = (ap (λ (x : State). x.table) d, ap (λ (x : State). x.cut) d)
  doubts_same (Some known) s s' over d = by (nat_lt (rank_of known) (rank_of over)) d
    where
      by : (b : Bool) → MatchBool b (s' ≡ s) (Queues s s' known) → (s'.table ≡ s.table) × (s'.cut ≡ s.cut)
      by true d = (ap (λ (x : State). x.table) d, ap (λ (x : State). x.cut) d)
      by false d = (d.table, d.cut)

  pub doubting_keeps : (o : Option Way) (s s' : State) (ends : LinkEnds) → MatchOption o (s' ≡ s) (λ way. Doubts s s' (way_over root way ends)) →
      (s'.table ≡ s.table) × (s'.cut ≡ s.cut)
  doubting_keeps None s s' ends d = (ap (λ (x : State). x.table) d, ap (λ (x : State). x.cut) d)
  doubting_keeps (Some w) s s' ends d = doubts_same _ s s' (way_over root w ends) d

-- 4. No node was held over it
pub nothing_lost : (v : Learned) (root : ℕ) (net : IsNetwork v.nodes v.ends) (here : root < v.nodes) (s : State) → IsCutting v root NoneLate s →
    s.queue ≡ [] → s.cut ≡ [] → IsMended v root s
nothing_lost v root net here s h q c =
    record { stands = none_left v root s.cut s c (grows v root net here s h q); no_ways = q; none_cut = c }

-- 5. A link is turned
module _ (v : Learned) (root : ℕ) (net : IsNetwork v.nodes v.ends) (here : root < v.nodes) (s : State) (m : IsMended v root s) (l : ℕ)
    (there : l < length v.counts) where
  goes_kept : (node k : ℕ) → goes v node k ≡ true → goes (with_link v l true) node k ≡ true
  goes_kept node k g =
      elim (eqb_tells k l) [
        | inl e ↦ all_true _ _ _ (ap (is_up (links_up (with_link v l true))) e.1 ∙ up_there v l true there) (goes_at v node k g).at_node
            (lt-ltb _ _ (goes_at v node k g).there)
        | inr e ↦ goes_other v l true node k e.1 ∙ g
      ]

  pub link_came : IsGrowing (with_link v l true) root (OneLink l) s
  link_came = assumption (held, relaxed, m.stands)
    where
      held : (n known : ℕ) → n < v.nodes → n ≢ root → rank_at s.table n ≡ Some known → IsHeld (with_link v l true) root s.table n known
      held n known p q r =
          let h = m.stands.held n known p q r in
          held_on v (with_link v l true).counts root s.table s.table n known h.near h (goes_kept h.from h.l h.goes_on) h.is_known h.no_worse

      relaxed : (n k known : ℕ) → n < v.nodes → goes (with_link v l true) n k ≡ true → rank_at s.table n ≡ Some known →
          OneLink l n k ⊎ (IsPending s n ⊎ IsRelaxed (with_link v l true) root s.table n known k)
      relaxed n k known p g r = elim (goes_with v l there n k g) [
        | inl e ↦ inl e
        | inr e ↦ inr (inr (all_relaxed v root net here s m n k known p e r))
      ]

  abbrev down : Learned
  down = with_link v l false

  held_over : (n known : ℕ) → IsHeld v root s.table n known →
      HeldOverEither down root s.table l (link (wiring_of v) l).a.0 (link (wiring_of v) l).b.0 n known ⊎ IsHeld down root s.table n known
  held_over n known h =
      elim (eqb_tells h.l l) [
        | inl e ↦
            (let leads : beyond v h.from l ≡ n = ap (beyond v h.from) (sym e.1) ∙ h.leads in
            let low : rank_over v root h.from h.near l ≤ known = subst (λ k. rank_over v root h.from h.near k ≤ known) e.1 h.no_worse in
            let from : (x : ℕ) → h.from ≡ x → HeldOver down root s.table l x n known =
            λ x f. (
              h.near,
              ap (rank_at s.table) (sym f) ∙ h.is_known,
              ap (λ y. beyond v y l) (sym f) ∙ leads,
              subst (λ y. rank_over v root y h.near l ≤ known) f low,
            ) in
            elim (end_is v h.from l (subst (λ k. goes v h.from k ≡ true) e.1 h.goes_on)) [
              | inl f ↦ inl (inl (from _ f))
              | inr f ↦ inl (inr (from _ f))
            ])
        | inr e ↦ inr
            (held_on v down.counts root s.table s.table n known h.near h (goes_other v l false h.from h.l e.1 ∙ h.goes_on) h.is_known h.no_worse)
      ]

  pub link_lost : IsCutting down root (HeldOverEither down root s.table l (link (wiring_of v) l).a.0 (link (wiring_of v) l).b.0) s
  link_lost =
      record {
        one_each = m.stands.one_each;
        root_cost = m.stands.root_cost;
        root_hop = m.stands.root_hop;
        formed = m.stands.formed;
        held = λ n known p q r. elim (held_over n known (m.stands.held n known p q r)) [ inl o ↦ inl o | inr o ↦ inr (inr o) ];
        relaxed = λ n k known p g r. inr (all_relaxed v root net here s m n k known p (goes_without v l there n k g).1 r);
        ways = subst (All (λ way. (way.0.to < v.nodes) × (way.0.to ≢ root))) (sym m.no_ways)
            (All-nil (λ (way : Reverse Way). (way.0.to < v.nodes) × (way.0.to ≢ root)));
        small = λ n cost p e. omega (arith, m.stands.bounded n cost p e);
        gone = subst (All (λ node. (node.0 < v.nodes) × (dist_at s.table node.0 ≡ None))) (sym m.none_cut)
            (All-nil (λ (node : NodeNo). (node.0 < v.nodes) × (dist_at s.table node.0 ≡ None)));
      }

  -- a link over which no least walk goes
  strictly : (a b : ℕ) → a ≤ b → (a ≡ b → ⊥) → a < b
  strictly a b p q = elim (eqb_tells a b) [ inl e ↦ absurd (q e.1) | inr e ↦ omega (arith, p, e.1) ]

  pub idle_over : (from : ℕ) → from < v.nodes → goes v from l ≡ true →
      (Makes s.table from (link (wiring_of v) l).cost (beyond v from l) → ⊥) → IsPassedOver root s.table from (link (wiring_of v) l)
  idle_over from p g idle = λ near e known f.
      let h = m.stands in
      let a = known_way v root s.table from near p (h.formed from p) h.root_cost e in
      let far : beyond v near.to l ≡ beyond v from l = ap (λ x. beyond v x l) a.1 in
      let below : beyond v from l < v.nodes = beyond_below v net from l g in
      let b = known_way v root s.table (beyond v near.to l) known (subst (λ x. x < v.nodes) (sym far) below)
      (h.formed (beyond v near.to l) (subst (λ x. x < v.nodes) (sym far) below)) h.root_cost f in
      let low : rank_of known ≤ rank_over v root from (rank_of near) l =
      at_most_is _ _ _ (ap (rank_at s.table) (sym far ∙ sym b.1) ∙ b.0.rank)
      (all_relaxed v root net here s m from l (rank_of near) p g (ap (rank_at s.table) (sym a.1) ∙ a.0.rank)) in
      let over : rank_of (way_over root near (link (wiring_of v) l)) ≡ rank_over v root from (rank_of near) l =
      over_rank v root net s.table near a.0 l ∙ ap (λ x. rank_over v root x (rank_of near) l) a.1 in
      strictly _ _ (omega (arith, low, over))
      (λ same. let parts =
      same_parts known.cost known.hop (way_over root near (link (wiring_of v) l)).cost (way_over root near (link (wiring_of v) l)).hop b.0.fits
      (over_fits v root net s.table near a.0 l (subst (λ x. goes v x l ≡ true) (sym a.1) g)) same in
      idle (
        near.cost,
        ap (dist_at s.table) (sym a.1) ∙ a.0.cost,
        ap (dist_at s.table) (sym far ∙ sym b.1) ∙ b.0.cost ∙ ap (λ (n : ℕ). let o : Option ℕ =
            Some n in o) parts.0,
      ))

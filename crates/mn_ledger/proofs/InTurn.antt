-- After every lawful journal each session is in turn.
use Rattle.std.proofs.Common.{ℕ, suc, ◌≡◌, ◌≢◌, ◌+◌, ◌<◌, ◌≤◌, inl, inr, true, false, cond, List, [], ◌∷◌, length, refl, arith, sym, ◌∙◌, ap, subst, None}
use Rattle.std.specs.Prelude.{◌==◌, ◌&&◌, not, nat_lt, slice_index_or}
use Rattle.std.proofs.lemmas.Bool.Decides.{eqb_tells, leb_tells}
use Rattle.mn_topo.specs.Wiring.{across, JoinsNodes, EndsDiffer}
use Rattle.mn_base.proofs.Bools.{no, and_right, less_tells, unlike_numbers}
use Rattle.mn_topo.specs.Network.{Network, wiring_of}
use Rattle.mn_topo.specs.Lawful.{IsLawful}
use Rattle.mn_topo.specs.VrfTable.{is_edge}
use Rattle.mn_topo.specs.Steps.{fits}
use Rattle.mn_topo.specs.declared.steps.Step.{Step}
use Rattle.mn_topo.specs.declared.steps.Step.TheVariants as step
use Rattle.mn_topo.specs.declared.steps.JournalEntry.{JournalEntry}
use Rattle.mn_ledger.specs.Tables.{put, put_pair}
use Rattle.mn_ledger.specs.World.{World, Views, Open}
use Rattle.mn_ledger.specs.Transport.{is_active}
use Rattle.mn_ledger.specs.Bgp.{peers_live}
use Rattle.mn_ledger.specs.Packets.{Packets, packets_after}
use Rattle.mn_ledger.specs.Time.{clock_after}
use Rattle.mn_ledger.specs.Ledger.{packets_by, after, start, no_packets, next_of, left_by, world_from, world_of}
use Rattle.mn_ledger.specs.Refusal.{is_empty, refusal_at}
use Rattle.mn_ledger.specs.Lawful.{IsLawfulFrom, IsLawfulJournal}
use Rattle.mn_ledger.specs.Turns.{IsInTurn, HasRows, has_bgp_row}
use Rattle.mn_ledger.proofs.Refusals.{free}
use Rattle.mn_ledger.proofs.Talk.{talk-nth, nth-row}
use Rattle.mn_ledger.proofs.Turning.{Apart, loopbacks_apart, across-end}
use Rattle.mn_ledger.proofs.GoingBy.{LinkIsThere, sessions_go, put_here, put_off, pair_here, pair_off, above}
use Rattle.mn_ledger.proofs.Peers.{AreInOrder, peers_go, peer-nth, peer-row, state_alive, live_sym}

-- 1. What a lawful step owes

pub not_empty : (t : Network) (w : World) (k : Packets) (i : ℕ) (s : Step) (b : List ℕ) → refusal_at t w k i s b ≡ None → is_empty t w k s ≡ false
not_empty t w k i s b h = (free t w k i s b h).there

pub link_there : (t : Network) (s : Step) → fits t s ≡ true → LinkIsThere t s
link_there t (step.HearLdp l dir) h = less_tells l.0 (length t.links) h
link_there t _ h = tt

pub in_order : (t : Network) (s : Step) → fits t s ≡ true → AreInOrder s
in_order t (step.BgpUp a b) h = less_tells a.0 b.0 (and_right (is_edge t.vrfs a.0 && is_edge t.vrfs b.0) (nat_lt a.0 b.0) h)
in_order t (step.BgpDown a b) h = less_tells a.0 b.0 (and_right (is_edge t.vrfs a.0 && is_edge t.vrfs b.0) (nat_lt a.0 b.0) h)
in_order t (step.HearBgp a b) h = unlike_numbers a.0 b.0 (and_right (is_edge t.vrfs a.0 && is_edge t.vrfs b.0) (not (a.0 == b.0)) h)
in_order t _ h = tt

-- 2. Nobody learns more than was changed

abbrev pub Learned : Views → Type 0
Learned v = (node l : ℕ) → v.learned node l ≤ v.changes l

turn_kept : (v : Views) (at : ℕ) → Learned v → Learned (record v { changes = put v.changes at (v.changes at + 1) })
turn_kept v at h node l = elim (eqb_tells l at) [
  | inl p ↦ subst (λ x. v.learned node l ≤ x) (sym (ap (put v.changes at (v.changes at + 1)) p.1 ∙ put_here v.changes at (v.changes at + 1)))
      (more (subst (λ x. v.learned node l ≤ v.changes x) p.1 (h node l)))
  | inr p ↦ subst (λ x. v.learned node l ≤ x) (sym (put_off v.changes at (v.changes at + 1) l p.1)) (h node l)
]
  where
    more : v.learned node l ≤ v.changes at → v.learned node l ≤ v.changes at + 1
    more g = omega (arith, g)

learn_kept : (v : Views) (who at : ℕ) → v.learned who at < v.changes at → Learned v →
    Learned (record v { learned = put_pair v.learned who at (v.learned who at + 1) })
learn_kept v who at less h node l = elim (eqb_tells node who) [
  | inr p ↦ subst (λ x. x ≤ v.changes l) (sym (pair_off v.learned who at (v.learned who at + 1) node l (inl p.1))) (h node l)
  | inl p ↦ elim (eqb_tells l at) [
    | inr q ↦ subst (λ x. x ≤ v.changes l) (sym (pair_off v.learned who at (v.learned who at + 1) node l (inr q.1))) (h node l)
    | inl q ↦ subst (λ x. x ≤ v.changes l)
        (sym (ap (λ x. put_pair v.learned who at (v.learned who at + 1) x l) p.1 ∙ ap (put_pair v.learned who at (v.learned who at + 1) who) q.1
        ∙ pair_here v.learned who at (v.learned who at + 1))) (subst (λ x. v.learned who at + 1 ≤ v.changes x) (sym q.1) (reach less))
  ]
]
  where
    reach : v.learned who at < v.changes at → v.learned who at + 1 ≤ v.changes at
    reach g = omega (arith, g)

learned_go : (t : Network) (w : World) (k : Packets) (s : Step) → is_empty t w k s ≡ false → Learned w.views → Learned (after t w s).views
learned_go t w k (step.LinkUp l) full h = turn_kept w.views l.0 h
learned_go t w k (step.LinkDown l) full h = turn_kept w.views l.0 h
learned_go t w k (step.Learn n l) full h = learn_kept w.views n.0 l.0 (above _ _ full) h
learned_go t w k _ full h = h

-- 3. Over a journal

pub goes_step : (t : Network) → Apart t → JoinsNodes (wiring_of t) → EndsDiffer (wiring_of t) →
    (w : World) (k : Packets) (s : Step) → fits t s ≡ true → is_empty t w k s ≡ false → IsInTurn t w → IsInTurn t (after t w s)
goes_step t apart joins differ w k s fit full g = record {
  ldp = sessions_go t w k s apart joins differ (link_there t s fit) full g.ldp;
  bgp = peers_go t w k s (in_order t s fit) full g.bgp;
  learned = learned_go t w k s full g.learned;
}

goes_on : (t : Network) → Apart t → JoinsNodes (wiring_of t) → EndsDiffer (wiring_of t) →
    (es : List JournalEntry) (tick : ℕ) (w : World) (k : Packets) (i : ℕ) (ps : List (List ℕ)) → IsLawfulFrom t tick w k i es ps → IsInTurn t w →
    IsInTurn t (world_from t w es)
goes_on t apart joins differ [] tick w k i ps lawful g = g
goes_on t apart joins differ (e ∷ es) tick w k i ps lawful g =
    goes_on t apart joins differ es (clock_after e) (after t w e.step) (packets_by t (after t w e.step) k e (next_of ps)) (i + 1) (left_by e.step ps) lawful.3
    (goes_step t apart joins differ w k e.step lawful.0 (not_empty t w k i e.step (next_of ps) lawful.2) g)

pub begins : (t : Network) → IsInTurn t (start t)
begins t = record {
  ldp = λ l node below at_end. record { heard = omega arith; silent = λ dead. (refl, refl); talk = λ on. absurd (no on) };
  bgp = λ edge peer d. record { heard = omega arith; silent = λ dead. (refl, refl); talk = λ on. absurd (never edge peer on) };
  learned = λ node l. omega arith;
}
  where
    never : (edge peer : ℕ) → peers_live (start t).config edge peer ≡ true → ⊥
    never edge peer on =
        elim (leb_tells (suc edge) peer) [
          | inl p ↦ no (sym (ap (λ b. cond b false false) p.0) ∙ on)
          | inr p ↦ no
              (sym (ap (λ b. cond b false false) p.0) ∙ on)
        ]

pub in_turn : (t : Network) (es : List JournalEntry) (ps : List (List ℕ)) → IsLawful t → IsLawfulJournal t es ps → IsInTurn t (world_of t es)
in_turn t es ps lawful journal = goes_on t (loopbacks_apart t lawful) lawful.joins_nodes lawful.ends_differ es 0 (start t) no_packets 0 ps journal (begins t)

pub rows : (t : Network) (w : World) → IsLawful t → IsInTurn t w → HasRows t w
rows t w lawful turn = record {
  ldp = λ l node below at_end alive more.
      let other = across-end (wiring_of t) l node (lawful.ends_differ l below) at_end in
      nth-row (is_active t l node) (w.sessions.heard l node) _
      (talk-nth (is_active t l (across (wiring_of t) l node)) (w.sessions.heard l (across (wiring_of t) l node))
      (w.sessions.said l (across (wiring_of t) l node)) (w.sessions.heard l node)
      ((turn.ldp l (across (wiring_of t) l node) below other.0).talk alive) more);
  bgp = λ edge peer d alive more.
      subst (λ st. has_bgp_row st (slice_index_or (w.peerings.told peer edge) (w.peerings.heard edge peer) Open) ≡ true)
      (sym (state_alive w.config w.peerings edge peer alive))
      (peer-row (w.peerings.heard edge peer) _
      (peer-nth (w.peerings.heard peer edge) (w.peerings.told peer edge) (w.peerings.heard edge peer)
      ((turn.bgp peer edge (λ e. d (sym e))).talk (live_back edge peer d alive)) more));
}
  where
    live_back : (edge peer : ℕ) → edge ≢ peer → peers_live w.config edge peer ≡ true → peers_live w.config peer edge ≡ true
    live_back edge peer d h = sym (live_sym w.config edge peer d) ∙ h

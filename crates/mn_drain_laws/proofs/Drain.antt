-- A drain takes no more steps than its bound.
use Rattle.std.proofs.Common.{ℕ, zero, suc, ◌≡◌, ◌≢◌, ◌+◌, ◌*◌, ◌<◌, ◌≤◌, inl, inr, Bool, true, false, List, [], ◌∷◌, ◌++◌, map, length, drop, arith, sym}
use Rattle.std.proofs.Common.{◌∙◌, ap, subst}
use Rattle.std.specs.Prelude.{◌==◌, ◌&&◌, ◌||◌, ◌%◌, not, nat_lt, nat_le, slice_index_or}
use Rattle.std.specs.List.{flat_map, list_all}
use Rattle.std.proofs.lemmas.Bool.Decides.{eqb_tells, leb_tells}
use Rattle.mn_wiring.specs.Wiring.{View, links_of, nodes_of, across, receiver}
use Rattle.mn_topo.specs.VrfTable.{is_edge}
use Rattle.mn_topo.specs.Network.{Network, wiring_of}
use Rattle.mn_topo.specs.Lawful.{IsLawful, is_vrf_of}
use Rattle.mn_base.specs.Numbers.{has_rd_form}
use Rattle.mn_base.proofs.Bools.{clash}
use Rattle.mn_topo.specs.declared.vrfs.VrfDef.{VrfDef}
use Rattle.mn_topo.specs.declared.steps.Step.{Step}
use Rattle.mn_topo.specs.declared.steps.Step.TheVariants as step
use Rattle.mn_topo.specs.declared.steps.JournalEntry.{JournalEntry}
use Rattle.mn_ledger.specs.World.{Config, Views, World, Address, Open, Telling}
use Rattle.mn_ledger.specs.Transport.{lives, is_active, state_by, view_of, knowledge_of, answer, said_on, news, ldp_counted, with_said, sessions_after}
use Rattle.mn_ledger.specs.Bgp as ledger_bgp
use Rattle.mn_ledger.specs.Exports.{exports_of}
use Rattle.mn_ledger.specs.Bgp.{peers_live, reply, told_to, with_told, peerings_after}
use Rattle.mn_ledger.specs.Places.{edges}
use Rattle.mn_ledger.specs.Ledger.{after, no_packets, world_of}
use Rattle.mn_ledger.specs.Lawful.{IsLawfulJournal}
use Rattle.mn_ledger.specs.Turns.{IsInTurn}
use Rattle.mn_ledger.proofs.Turning.{loopbacks_apart, dir_ends}
use Rattle.mn_ledger.proofs.GoingBy.{or_both, not_false, above}
use Rattle.mn_ledger.proofs.Peers.{live_sym, state_alive}
use Rattle.mn_ledger.proofs.InTurn.{goes_step, in_turn}
use Rattle.mn_drain_laws.specs.Sums.{total, where_so}
use Rattle.mn_drain_laws.specs.Ahead.{ahead}
use Rattle.mn_drain_laws.specs.Drain.{AllLearned, IsDrainStep, IsDrain, notices, ldp_messages, is_direction, bgp_messages, directions, all_exports, messages}
use Rattle.mn_drain_laws.specs.Drain.{bound_of, drain_bound, greeting_length, told_ahead, bgp_ahead}
use Rattle.mn_settled_laws.proofs.Offering.{ends_below}
use Rattle.mn_settled_laws.proofs.Ways.{same-map}
use Rattle.mn_drain_laws.proofs.Hearing.{hearing-lowers}
use Rattle.mn_drain_laws.proofs.Peering.{telling-lowers}
use Rattle.mn_drain_laws.proofs.Learning.{notices-fall, messages-grow}
use Rattle.mn_drain_laws.proofs.Flying.{notices-are, ldp-most, bgp-most-told}
use Rattle.mn_drain_laws.proofs.AheadMost.{ahead-most}
use Rattle.mn_drain_laws.proofs.Scale.{times-up, total-scale}
use Rattle.mn_drain_laws.proofs.Sums.{total-below, total-add, total-one}
pub use Rattle.mn_base.proofs.Bools.{other_test as differs}
pub use Rattle.mn_base.proofs.Bools.{and_parts as and-both}
pub use Rattle.mn_base.proofs.Bools.{unlike_numbers as unequal}
pub use Rattle.mn_base.proofs.Bools.{less_tells as less-is}

-- the links that all nodes take for up, once all have learned of all changes
abbrev known_view : Network → Views → View
known_view t v = map (λ l. v.changes l % 2 == 1) (links_of (wiring_of t))

one-view : (t : Network) (v : Views) (n : ℕ) → AllLearned t v → n < length t.loopbacks → view_of (wiring_of t) v n ≡ known_view t v
one-view t v n all h =
    same-map (λ l. v.learned n l % 2 == 1) (λ l. v.changes l % 2 == 1) 0 (length t.links) (λ l g. ap (λ i. i % 2 == 1) (all n l h (omega (arith, g))))

-- 1. A hearing of an LDP message

ldp-lowers : (t : Network) (w : World) (l : _) (dir : _) → IsLawful t → IsInTurn t w → IsDrainStep t w (step.HearLdp l dir)
    → ahead (wiring_of t) (known_view t w.views) w.config (after t w (step.HearLdp l dir)).sessions + 1
    ≤ ahead (wiring_of t) (known_view t w.views) w.config w.sessions
unfolding sessions_after
ldp-lowers t w l dir lawful g d =
    let there : l.0 < length t.links = less-is l.0 (length t.links) d.fitting in
    let ends = dir_ends (wiring_of t) l.0 dir (lawful.ends_differ l.0 there) in
    let n : ℕ = receiver (wiring_of t) l.0 dir in
    let parts = or_both _ _ d.there in
    let alive : lives w.config l.0 ≡ true = not_false _ parts.0 in
    let more : w.sessions.heard l.0 n < length (w.sessions.said l.0 (across (wiring_of t) l.0 n)) = subst (λ m. w.sessions.heard l.0 n < length
    (w.sessions.said l.0 m)) (sym ends.1) (above _ _ parts.1) in
    subst (λ m. ahead (wiring_of t) (known_view t w.views) w.config
    (with_said (ldp_counted t w.sessions (step.HearLdp l dir))
    (said_on l.0 n (answer (state_by (is_active t l.0 n) (w.sessions.heard l.0 n))
    (slice_index_or (w.sessions.said l.0 m) (w.sessions.heard l.0 n) Address))
    ++ flat_map (λ x. news (wiring_of t) (knowledge_of (wiring_of t) w.config w.views w.sessions x)
    (knowledge_of (wiring_of t) w.config w.views (ldp_counted t w.sessions (step.HearLdp l dir)) x) x) (nodes_of (wiring_of t)))) + 1
    ≤ ahead (wiring_of t) (known_view t w.views) w.config w.sessions) ends.1
    (hearing-lowers t lawful w.config w.views w.sessions (known_view t w.views) l.0 n there ends.0 alive more g.ldp
    (one-view t w.views n d.in_turn (ends_below t lawful.joins_nodes l.0 n there ends.0)))

-- 2. A hearing of a BGP message

at-node : (k : ℕ) (vs : List VrfDef) (e : ℕ) → list_all (is_vrf_of k) vs ≡ true → is_edge vs e ≡ true → e < k
at-node k [] e all h = absurd (clash (sym h))
at-node k (x ∷ vs) e all h = elim (eqb_tells e x.node.0) [
  | inl q ↦ subst (λ n. n < k) (sym q.1) (less-is x.node.0 k
      (and-both (nat_lt x.node.0 k) (has_rd_form x.rd.0) (and-both (is_vrf_of k x) (list_all (is_vrf_of k) vs) all).0).0)
  | inr q ↦ at-node k vs e (and-both (is_vrf_of k x) (list_all (is_vrf_of k) vs) all).1 (sym (ap (λ b. b || is_edge vs e) q.0) ∙ h)
]

edge-below : (t : Network) → IsLawful t → (e : ℕ) → is_edge t.vrfs e ≡ true → e < length t.loopbacks
edge-below t lawful e h = at-node (length t.loopbacks) t.vrfs e lawful.vrfs.formed h

direction-on : (t : Network) (c : Config) (a b : ℕ) → is_edge t.vrfs a ≡ true → is_edge t.vrfs b ≡ true → a ≢ b → peers_live c a b ≡ true
    → is_direction t c a b ≡ true
direction-on t c a b ea eb d live =
    ap (λ x. (x && is_edge t.vrfs b) && (not (a == b) && peers_live c a b)) ea ∙ ap (λ x. x && (not (a == b) && peers_live c a b)) eb
    ∙ ap (λ x. not x && peers_live c a b) (differs a b d) ∙ live

bgp-lowers : (t : Network) (w : World) (a b : _) → IsLawful t → IsInTurn t w → IsDrainStep t w (step.HearBgp a b)
    → bgp_ahead t w.config (after t w (step.HearBgp a b)).peerings + 1 ≤ bgp_ahead t w.config w.peerings
unfolding peerings_after
bgp-lowers t w a b lawful g d =
    let fit = and-both (is_edge t.vrfs a.0 && is_edge t.vrfs b.0) (not (a.0 == b.0)) d.fitting in
    let both = and-both (is_edge t.vrfs a.0) (is_edge t.vrfs b.0) fit.0 in
    let apart : a.0 ≢ b.0 = unequal a.0 b.0 fit.1 in
    let parts = or_both _ _ d.there in
    let alive : peers_live w.config a.0 b.0 ≡ true = not_false _ parts.0 in
    let back : peers_live w.config b.0 a.0 ≡ true = sym (live_sym w.config a.0 b.0 apart) ∙ alive in
    let message : Telling = slice_index_or (w.peerings.told a.0 b.0) (w.peerings.heard b.0 a.0) Open in
    subst (λ st. bgp_ahead t w.config (with_told (ledger_bgp.bgp_counted w.peerings (step.HearBgp a b))
    (told_to b.0 a.0 (reply st message (exports_of t w.config b.0))
    ++ flat_map (ledger_bgp.route_news t w.config w.peerings w.config (ledger_bgp.bgp_counted w.peerings (step.HearBgp a b))) (edges t))) + 1 ≤ bgp_ahead t
    w.config
    w.peerings)
    (sym (state_alive w.config w.peerings b.0 a.0 back))
    (telling-lowers t w.config w.peerings a.0 b.0 message apart (edge-below t lawful a.0 both.0) (edge-below t lawful b.0 both.1)
    (direction-on t w.config a.0 b.0 both.0 both.1 apart alive) (direction-on t w.config b.0 a.0 both.1 both.0 (λ e. apart (sym e)) back)
    (above _ _ parts.1) g.bgp)

-- 3. While messages are received

pub goes-on : (t : Network) (w : World) (s : Step) → IsLawful t → IsInTurn t w → IsDrainStep t w s → IsInTurn t (after t w s)
goes-on t w s lawful g d = goes_step t (loopbacks_apart t lawful) lawful.joins_nodes lawful.ends_differ w no_packets s d.fitting d.there g

abbrev hearings_ahead : Network → World → ℕ
hearings_ahead t w = ahead (wiring_of t) (known_view t w.views) w.config w.sessions + bgp_ahead t w.config w.peerings

nothing-less : (node l : ℕ) (v : Views) → v.learned node l ≡ v.changes l → nat_le (v.changes l) (v.learned node l) ≡ false → ⊥
nothing-less node l v e h = elim (leb_tells (v.changes l) (v.learned node l)) [ inl q ↦ clash (sym q.0 ∙ h) | inr q ↦ over e q.1 ]
  where
    over : v.learned node l ≡ v.changes l → v.learned node l < v.changes l → ⊥
    over a b = omega (arith, a, b)

pub hear-phase : (t : Network) (ss : List Step) (w : World) → IsLawful t → IsInTurn t w → AllLearned t w.views → IsDrain t w ss → length ss ≤ hearings_ahead t w
unfolding sessions_after peerings_after
hear-phase t [] w lawful g all d = omega arith
hear-phase t (step.Learn node l ∷ ss) w lawful g all d =
    let fit = and-both (nat_lt node.0 (length t.loopbacks)) (nat_lt l.0 (length t.links)) d.0.fitting in
    absurd (nothing-less node.0 l.0 w.views (all node.0 l.0 (less-is node.0 (length t.loopbacks) fit.0) (less-is l.0 (length t.links) fit.1)) d.0.there)
hear-phase t (step.HearLdp l dir ∷ ss) w lawful g all d =
    omega (
      arith,
      ldp-lowers t w l dir lawful g d.0,
      hear-phase t ss (after t w (step.HearLdp l dir)) lawful
          (goes-on t w (step.HearLdp l dir) lawful g d.0) all d.1,
    )
hear-phase t (step.HearBgp a b ∷ ss) w lawful g all d =
    omega (arith, bgp-lowers t w a b lawful g d.0, hear-phase t ss (after t w (step.HearBgp a b)) lawful (goes-on t w (step.HearBgp a b) lawful g d.0) all d.1)
hear-phase t (step.LinkUp l ∷ ss) w lawful g all d = absurd d.0.in_turn
hear-phase t (step.LinkDown l ∷ ss) w lawful g all d = absurd d.0.in_turn
hear-phase t (step.LdpAdmin l on ∷ ss) w lawful g all d = absurd d.0.in_turn
hear-phase t (step.BgpUp a b ∷ ss) w lawful g all d = absurd d.0.in_turn
hear-phase t (step.BgpDown a b ∷ ss) w lawful g all d = absurd d.0.in_turn
hear-phase t (step.AddRoute s p ∷ ss) w lawful g all d = absurd d.0.in_turn
hear-phase t (step.DelRoute s p ∷ ss) w lawful g all d = absurd d.0.in_turn
hear-phase t (step.Import v on x ∷ ss) w lawful g all d = absurd d.0.in_turn
hear-phase t (step.Export v on x ∷ ss) w lawful g all d = absurd d.0.in_turn
hear-phase t (step.Attach s ∷ ss) w lawful g all d = absurd d.0.in_turn
hear-phase t (step.Detach s ∷ ss) w lawful g all d = absurd d.0.in_turn
hear-phase t (step.Inject s n ∷ ss) w lawful g all d = absurd d.0.in_turn
hear-phase t (step.Carry l dir place ∷ ss) w lawful g all d = absurd d.0.in_turn
hear-phase t (step.Lose l dir place ∷ ss) w lawful g all d = absurd d.0.in_turn
hear-phase t (step.Tick ticks ∷ ss) w lawful g all d = absurd d.0.in_turn

-- 4. While notices are learned

-- what the whole drain takes at most, but for BGP
abbrev transport_bound : Network → World → ℕ
transport_bound t w =
    notices t w.views + ((ldp_messages t w.config w.sessions + notices t w.views * (length t.links * length t.loopbacks)) + length t.links * 2
    * (length t.loopbacks + 3)) * (2 + length t.loopbacks * (4 * length t.links))

learn-less : (q p m n e k z : ℕ) → p + 1 ≤ q → n ≤ m + e → p + ((n + p * e) + k) * z + 1 ≤ q + ((m + q * e) + k) * z
learn-less q p m n e k z h g = omega (arith, h, times-up ((n + p * e) + k) ((m + q * e) + k) z (omega (arith, g, times-up (p + 1) q e h, one-more)))
  where
    one-more : (p + 1) * e ≡ p * e + e
    one-more = grind arith

hear-less : (t : Network) (ss : List Step) (w : World) → IsLawful t → IsInTurn t w → AllLearned t w.views → IsDrain t w ss
    → length ss ≤ transport_bound t w + bgp_ahead t w.config w.peerings
hear-less t ss w lawful g all d = omega (
  arith,
  hear-phase t ss w lawful g all d,
  ahead-most t lawful (known_view t w.views) w.config w.sessions,
  times-up (ldp_messages t w.config w.sessions + length t.links * 2 * (length t.loopbacks + 3))
      ((ldp_messages t w.config w.sessions + notices t w.views * (length t.links * length t.loopbacks)) + length t.links * 2 * (length t.loopbacks + 3))
      (2 + length t.loopbacks * (4 * length t.links)) (omega arith),
)

drain-less : (t : Network) (ss : List Step) (w : World) → IsLawful t → IsInTurn t w → IsDrain t w ss
    → length ss ≤ transport_bound t w + bgp_ahead t w.config w.peerings
unfolding sessions_after peerings_after
drain-less t [] w lawful g d = omega arith
drain-less t (step.Learn node l ∷ ss) w lawful g d =
    let fit = and-both (nat_lt node.0 (length t.loopbacks)) (nat_lt l.0 (length t.links)) d.0.fitting in
    let less : w.views.learned node.0 l.0 < w.views.changes l.0 = above _ _ d.0.there in
    let hn : node.0 < length t.loopbacks = less-is node.0 (length t.loopbacks) fit.0 in
    let hl : l.0 < length t.links = less-is l.0 (length t.links) fit.1 in
    let then_world : World = after t w (step.Learn node l) in
    omega (
      arith,
      drain-less t ss (after t w (step.Learn node l)) lawful (goes-on t w (step.Learn node l) lawful g d.0) d.1,
      learn-less (notices t w.views) (notices t then_world.views) (ldp_messages t w.config w.sessions) (ldp_messages t w.config then_world.sessions)
          (length t.links * length t.loopbacks) (length t.links * 2 * (length t.loopbacks + 3)) (2 + length t.loopbacks * (4 * length t.links))
          (notices-fall t lawful w.config w.views w.sessions node.0 l.0 hn hl g.ldp less)
          (messages-grow t lawful w.config w.views w.sessions node.0 l.0 hn hl g.ldp),
    )
drain-less t (step.HearLdp l dir ∷ ss) w lawful g d = hear-less t (step.HearLdp l dir ∷ ss) w lawful g d.0.in_turn d
drain-less t (step.HearBgp a b ∷ ss) w lawful g d = hear-less t (step.HearBgp a b ∷ ss) w lawful g d.0.in_turn d
drain-less t (step.LinkUp l ∷ ss) w lawful g d = absurd d.0.in_turn
drain-less t (step.LinkDown l ∷ ss) w lawful g d = absurd d.0.in_turn
drain-less t (step.LdpAdmin l on ∷ ss) w lawful g d = absurd d.0.in_turn
drain-less t (step.BgpUp a b ∷ ss) w lawful g d = absurd d.0.in_turn
drain-less t (step.BgpDown a b ∷ ss) w lawful g d = absurd d.0.in_turn
drain-less t (step.AddRoute s p ∷ ss) w lawful g d = absurd d.0.in_turn
drain-less t (step.DelRoute s p ∷ ss) w lawful g d = absurd d.0.in_turn
drain-less t (step.Import v on x ∷ ss) w lawful g d = absurd d.0.in_turn
drain-less t (step.Export v on x ∷ ss) w lawful g d = absurd d.0.in_turn
drain-less t (step.Attach s ∷ ss) w lawful g d = absurd d.0.in_turn
drain-less t (step.Detach s ∷ ss) w lawful g d = absurd d.0.in_turn
drain-less t (step.Inject s n ∷ ss) w lawful g d = absurd d.0.in_turn
drain-less t (step.Carry l dir place ∷ ss) w lawful g d = absurd d.0.in_turn
drain-less t (step.Lose l dir place ∷ ss) w lawful g d = absurd d.0.in_turn
drain-less t (step.Tick ticks ∷ ss) w lawful g d = absurd d.0.in_turn

-- 5. The bound

greeting-most : (i e : ℕ) → greeting_length i e ≤ 1 + e
greeting-most zero e = omega arith
greeting-most (suc zero) e = omega arith
greeting-most (suc (suc i)) e = omega arith

where-both : (b : Bool) (x y k : ℕ) → x ≤ y + k → where_so b x ≤ where_so b y + where_so b 1 * k
where-both true x y k h = omega (arith, h)
where-both false x y k h = omega arith

bgp-most : (t : Network) (w : World) → bgp_ahead t w.config w.peerings
    ≤ bgp_messages t w.config w.peerings + directions t w.config * (all_exports t w.config + 2)
bgp-most t w = omega (
  arith,
  total-below (length t.loopbacks) (λ a. total (length t.loopbacks) (λ b. where_so (is_direction t w.config a b) (told_ahead t w.config w.peerings a b)))
      (λ a. total (length t.loopbacks) (heard_less a) + total (length t.loopbacks)
      (λ b. where_so (is_direction t w.config a b) 1) * (all_exports t w.config + 2)) row,
  total-add (length t.loopbacks) (λ a. total (length t.loopbacks) (heard_less a))
      (λ a. total (length t.loopbacks) (λ b. where_so (is_direction t w.config a b) 1) * (all_exports t w.config + 2)),
  total-scale (length t.loopbacks) (λ a. total (length t.loopbacks) (λ b. where_so (is_direction t w.config a b) 1)) (all_exports t w.config + 2),
)
  where
    heard_less : ℕ → ℕ → ℕ
    heard_less a b = where_so (is_direction t w.config a b) (length (drop (w.peerings.heard b a) (w.peerings.told a b)))

    row : (a : ℕ) → a < length t.loopbacks → total (length t.loopbacks) (λ b. where_so (is_direction t w.config a b) (told_ahead t w.config w.peerings a b))
        ≤ total (length t.loopbacks) (heard_less a) + total (length t.loopbacks) (λ b. where_so (is_direction t w.config a b) 1) * (all_exports t w.config + 2)
    row a h = omega (
      arith,
      total-below (length t.loopbacks) (λ b. where_so (is_direction t w.config a b) (told_ahead t w.config w.peerings a b))
          (λ b. heard_less a b + where_so (is_direction t w.config a b) 1 * (all_exports t w.config + 2))
          (λ b g. where-both (is_direction t w.config a b) (told_ahead t w.config w.peerings a b) (length (drop (w.peerings.heard b a) (w.peerings.told a b)))
          (all_exports t w.config + 2)
          (omega (
            arith,
            greeting-most (w.peerings.heard a b) (length (exports_of t w.config a)),
            total-one (length t.loopbacks) (λ e. length (exports_of t w.config e)) a h,
          ))),
      total-add (length t.loopbacks) (heard_less a) (λ b. where_so (is_direction t w.config a b) 1 * (all_exports t w.config + 2)),
      total-scale (length t.loopbacks) (λ b. where_so (is_direction t w.config a b) 1) (all_exports t w.config + 2),
    )

sum-most : (q m b l p x : ℕ) → (q + ((m + q * (l * p)) + l * 2 * (p + 3)) * (2 + p * (4 * l))) + (b + x)
    ≤ q + 2 * (m + b + q * p * l + 2 * l * (p + 3)) * (1 + 2 * l * p) + x
sum-most q m b l p x = omega (arith, regroup, more)
  where
    regroup : 2 * (m + b + q * p * l + 2 * l * (p + 3)) * (1 + 2 * l * p) ≡ ((m + q * (l * p)) + l * 2 * (p + 3)) * (2 + p * (4 * l)) + b * (2 + p * (4 * l))
    regroup = grind arith

    more : b ≤ b * (2 + p * (4 * l))
    more = grind arith

more-messages : (q m k l p x : ℕ) → m ≤ k → q + 2 * (m + q * p * l + 2 * l * (p + 3)) * (1 + 2 * l * p) + x
    ≤ q + 2 * (k + q * p * l + 2 * l * (p + 3)) * (1 + 2 * l * p) + x
more-messages q m k l p x h =
    omega (arith, times-up (2 * (m + q * p * l + 2 * l * (p + 3))) (2 * (k + q * p * l + 2 * l * (p + 3))) (1 + 2 * l * p) (omega (arith, h)))

pub drain_is_bounded : (t : Network) (es : List JournalEntry) (ps : List (List ℕ)) (ss : List Step) → IsLawful t → IsLawfulJournal t es ps
    → IsDrain t (world_of t es) ss → length ss ≤ drain_bound t (world_of t es)
drain_is_bounded t es ps ss lawful journal d =
    let w : World = world_of t es in
    let bgp : ℕ = directions t w.config * (all_exports t w.config + 2) in
    let own : ℕ = ldp_messages t w.config w.sessions + bgp_messages t w.config w.peerings in
    subst (λ q. length ss ≤ bound_of q (messages t w) (length t.links) (length t.loopbacks) (directions t w.config) (all_exports t w.config))
    (sym (notices-are t w.views))
    (omega (
      arith,
      drain-less t ss w lawful (in_turn t es ps lawful journal) d,
      bgp-most t w,
      sum-most (notices t w.views) (ldp_messages t w.config w.sessions) (bgp_messages t w.config w.peerings) (length t.links) (length t.loopbacks) bgp,
      more-messages (notices t w.views) own (messages t w) (length t.links) (length t.loopbacks) bgp
          (omega (arith, ldp-most t lawful w.config w.sessions, bgp-most-told t w.config w.peerings)),
    ))

-- As a session begins or ends, its two edges forget what they received from each other.
use Rattle.std.proofs.Common.{ℕ, suc, ◌≡◌, ◌≢◌, ◌<◌, ◌⊎◌, inl, inr, Bool, true, false, List, [], ◌++◌, map, length, take, refl, sym, ◌∙◌, ap}
use Rattle.std.specs.Prelude.{◌==◌, nat_lt, if◌then◌else◌}
use Rattle.std.specs.List.{range_with_len}
use Rattle.std.proofs.lemmas.Bool.Decides.{leb_tells}
use Rattle.mn_base.specs.declared.numbers.NodeNo.{NodeNo}
use Rattle.mn_wiring.specs.Wiring.{nodes_of}
use Rattle.mn_topo.specs.declared.sites.SiteDef.{SiteDef}
use Rattle.mn_topo.specs.Network.{Network, wiring_of}
use Rattle.mn_topo.specs.declared.steps.Step.{Step}
use Rattle.mn_topo.specs.declared.steps.Step.TheVariants as step
use Rattle.mn_ledger.specs.Tables.{put_pair}
use Rattle.mn_ledger.specs.Places.{vrfs_at}
use Rattle.mn_ledger.specs.World.{Config, Peerings}
use Rattle.mn_ledger.specs.Bgp.{peers_live, tellings_of, told_in, with_told, bgp_restarted, peerings_after}
use Rattle.mn_ledger.specs.Held.{heard_of}
use Rattle.mn_ledger.specs.Ledger.{config_after}
use Rattle.mn_ledger.proofs.GoingBy.{pair_here, pair_off}
use Rattle.mn_ledger.proofs.Peers.{Which, which}
use Rattle.mn_rib_in.specs.Heard.{Heard}
use Rattle.mn_pe.specs.Edge.{Edge, after_forget}
use Rattle.mn_bgp_spelling_laws.specs.Spelling.{Labels}
use Rattle.mn_routing_laws.specs.Standing.{vrf_in, site_label_now, heard_from, heard_in, edge_in}
use Rattle.mn_routing_laws.proofs.Tables.{map_same, map_numbers_set}
use Rattle.mn_routing_laws.proofs.Hearing.{IsInTurn, heard_same}

pub swap : {P Q : Type 0} → P ⊎ Q → Q ⊎ P
swap d = elim d [ inl p ↦ inr p | inr q ↦ inl q ]

less_or_not : (a b : ℕ) → (nat_lt a b ≡ true) ⊎ (nat_lt a b ≡ false)
less_or_not a b = elim (leb_tells (suc a) b) [ inl p ↦ inl p.0 | inr p ↦ inr p.0 ]

unfoldable pub with_session : Config → ℕ → ℕ → Bool → Config
with_session c a b on = record c { bgp_on = put_pair c.bgp_on a b on }

pub live_off : (c : Config) (a b edge peer : ℕ) (on : Bool) → (edge ≢ a) ⊎ (peer ≢ b) → (edge ≢ b) ⊎ (peer ≢ a) →
    peers_live (with_session c a b on) edge peer ≡ peers_live c edge peer
unfolding with_session
live_off c a b edge peer on d e = elim (less_or_not edge peer) [
  | inl p ↦ ap (λ x. if x then put_pair c.bgp_on a b on edge peer else put_pair c.bgp_on a b on peer edge) p ∙ pair_off c.bgp_on a b on edge peer d
      ∙ sym (ap (λ x. if x then c.bgp_on edge peer else c.bgp_on peer edge) p)
  | inr p ↦ ap (λ x. if x then put_pair c.bgp_on a b on edge peer else put_pair c.bgp_on a b on peer edge) p ∙ pair_off c.bgp_on a b on peer edge (swap e)
      ∙ sym (ap (λ x. if x then c.bgp_on edge peer else c.bgp_on peer edge) p)
]

-- nothing was received in a life that begins, or in none
nothing_heard : (t : Network) (l : Labels) (c : Config) (k : Peerings) (edge peer : ℕ) → k.heard edge peer ≡ 0 → heard_in t l c k edge peer ≡ []
nothing_heard t l c k edge peer h = ap (λ n. if peer == edge then [] else if peers_live c edge peer then heard_from t l peer
    (take n (k.told peer edge)) else []) h ∙ ap (λ xs. if peer == edge then [] else xs) (either (peers_live c edge peer)) ∙ neither (peer == edge)
  where
    neither : (b : Bool) → (let xs : List Heard = if b then [] else [] in xs) ≡ []
    neither true = refl
    neither false = refl

    either : (b : Bool) → (if b then heard_from t l peer [] else []) ≡ []
    either true = refl
    either false = refl

module _ (t : Network) (l : Labels) (c : Config) (p : Peerings) (a b : ℕ) (on : Bool) (s : Step) (turn : IsInTurn p) where
  after_it : Peerings
  after_it = let k : Peerings = bgp_restarted p a b in let new : Config = with_session c a b on in with_told k (told_in t c p new k s)

  with_heard : ℕ → List (List Heard) → Edge
  with_heard edge heard = record {
    vrfs = map (vrf_in t c) (vrfs_at t edge);
    sites = map (λ (def : SiteDef). def.vrf) t.sites;
    labels =
        map (site_label_now t l c edge) (range_with_len 0 (length t.sites));
    loopbacks = t.loopbacks;
    heard = heard;
  }

  -- a pair of others
  pair_kept : (edge peer : ℕ) → (edge ≢ a) ⊎ (peer ≢ b) → (edge ≢ b) ⊎ (peer ≢ a) →
      heard_in t l (with_session c a b on) after_it edge peer ≡ heard_in t l c p edge peer
  unfolding after_it
  pair_kept edge peer d e =
      let k : Peerings = bgp_restarted p a b in
      let new : Config = with_session c a b on in
      heard_same t l c new p (with_told k (told_in t c p new k s)) edge peer (tellings_of peer edge (told_in t c p new k s))
      (live_off c a b edge peer on d e)
      (pair_off (put_pair p.heard a b 0) b a 0 edge peer e ∙ pair_off p.heard a b 0 edge peer d)
      (ap (λ ms. ms ++ tellings_of peer edge (told_in t c p new k s))
      (pair_off (put_pair p.told a b []) b a [] peer edge (swap d) ∙ pair_off p.told a b [] peer edge (swap e)))
      (turn edge peer)

  first_heard : a ≢ b → heard_in t l (with_session c a b on) after_it a b ≡ []
  unfolding after_it
  first_heard d = nothing_heard t l (with_session c a b on) after_it a b (pair_off (put_pair p.heard a b 0) b a 0 a b (inl d) ∙ pair_here p.heard a b 0)

  second_heard : heard_in t l (with_session c a b on) after_it b a ≡ []
  unfolding after_it
  second_heard = nothing_heard t l (with_session c a b on) after_it b a (pair_here (put_pair p.heard a b 0) b a 0)

  first_edge : a ≢ b → b < length t.loopbacks → edge_in t l (with_session c a b on) after_it a ≡ after_forget (edge_in t l c p a) b
  unfolding with_session with_heard
  first_edge d below =
      ap (with_heard a) (map_numbers_set (heard_in t l c p a) (heard_in t l (with_session c a b on) after_it a) (length t.loopbacks) b [] below
      (first_heard d) (λ q e. pair_kept a q (inr e) (inl d)))

  second_edge : a ≢ b → a < length t.loopbacks → edge_in t l (with_session c a b on) after_it b ≡ after_forget (edge_in t l c p b) a
  unfolding with_session with_heard
  second_edge d below =
      ap (with_heard b) (map_numbers_set (heard_in t l c p b) (heard_in t l (with_session c a b on) after_it b) (length t.loopbacks) a [] below second_heard
      (λ q e. pair_kept b q (inl (λ f. d (sym f))) (inr e)))

  other_edge : (edge : ℕ) → edge ≢ a → edge ≢ b → edge_in t l (with_session c a b on) after_it edge ≡ edge_in t l c p edge
  unfolding with_session with_heard
  other_edge edge d e = ap (with_heard edge) (map_same (heard_in t l (with_session c a b on) after_it edge) (heard_in t l c p edge) (nodes_of (wiring_of t))
      (λ q i. pair_kept edge q (inl d) (inl e)))

  no_heard : (edge peer : ℕ) → peers_live c edge peer ≡ false → heard_in t l c p edge peer ≡ []
  no_heard edge peer off = ap (λ x. if peer == edge then [] else if x then heard_from t l peer (heard_of p edge peer) else []) off ∙ neither (peer == edge)
    where
      neither : (b : Bool) → (let xs : List Heard = if b then [] else [] in xs) ≡ []
      neither true = refl
      neither false = refl

  each_pair : a ≢ b → peers_live c a b ≡ false → peers_live c b a ≡ false → (edge peer : ℕ) →
      heard_in t l (with_session c a b on) after_it edge peer ≡ heard_in t l c p edge peer
  unfolding Which
  each_pair d off back edge peer = elim (which a b edge peer) [
    | inl q ↦ ap (λ x. heard_in t l (with_session c a b on) after_it x peer) q.0 ∙ ap (heard_in t l (with_session c a b on) after_it a) q.1 ∙ first_heard d
        ∙ sym (ap (λ x. heard_in t l c p x peer) q.0 ∙ ap (heard_in t l c p a) q.1 ∙ no_heard a b off)
    | inr r ↦ elim r [
      | inl q ↦ ap (λ x. heard_in t l (with_session c a b on) after_it x peer) q.0 ∙ ap (heard_in t l (with_session c a b on) after_it b) q.1 ∙ second_heard
          ∙ sym (ap (λ x. heard_in t l c p x peer) q.0 ∙ ap (heard_in t l c p b) q.1 ∙ no_heard b a back)
      | inr q ↦ pair_kept edge peer q.0 q.1
    ]
  ]

  each_same : a ≢ b → peers_live c a b ≡ false → peers_live c b a ≡ false → (edge : ℕ) →
      edge_in t l (with_session c a b on) after_it edge ≡ edge_in t l c p edge
  unfolding with_session with_heard
  each_same d off back edge = ap (with_heard edge) (map_same (heard_in t l (with_session c a b on) after_it edge) (heard_in t l c p edge)
      (nodes_of (wiring_of t)) (λ q i. each_pair d off back edge q))

-- where a session ends, each of its edges forgets the other
pub down_first : (t : Network) (l : Labels) (c : Config) (p : Peerings) (a b : NodeNo) → a.0 ≢ b.0 → b.0 < length t.loopbacks → IsInTurn p
    → edge_in t l (config_after c (step.BgpDown a b)) (peerings_after t c (config_after c (step.BgpDown a b)) p (step.BgpDown a b)) a.0 ≡ after_forget
    (edge_in t l c p a.0) b.0
unfolding peerings_after with_session after_it
down_first t l c p a b d below turn = first_edge t l c p a.0 b.0 false (step.BgpDown a b) turn d below

pub down_second : (t : Network) (l : Labels) (c : Config) (p : Peerings) (a b : NodeNo) → a.0 ≢ b.0 → a.0 < length t.loopbacks → IsInTurn p
    → edge_in t l (config_after c (step.BgpDown a b)) (peerings_after t c (config_after c (step.BgpDown a b)) p (step.BgpDown a b)) b.0 ≡ after_forget
    (edge_in t l c p b.0) a.0
unfolding peerings_after with_session after_it
down_second t l c p a b d below turn = second_edge t l c p a.0 b.0 false (step.BgpDown a b) turn d below

pub down_off : (t : Network) (l : Labels) (c : Config) (p : Peerings) (a b : NodeNo) (edge : ℕ) → edge ≢ a.0 → edge ≢ b.0 → IsInTurn p
    → edge_in t l (config_after c (step.BgpDown a b)) (peerings_after t c (config_after c (step.BgpDown a b)) p (step.BgpDown a b)) edge ≡ edge_in t l c p edge
unfolding peerings_after with_session after_it
down_off t l c p a b edge d e turn = other_edge t l c p a.0 b.0 false (step.BgpDown a b) turn edge d e

-- where one begins nothing changes, since nothing is received without a session
pub up_same : (t : Network) (l : Labels) (c : Config) (p : Peerings) (a b : NodeNo) (edge : ℕ) → a.0 ≢ b.0 → peers_live c a.0 b.0 ≡ false →
    peers_live c b.0 a.0 ≡ false → IsInTurn p
    → edge_in t l (config_after c (step.BgpUp a b)) (peerings_after t c (config_after c (step.BgpUp a b)) p (step.BgpUp a b)) edge ≡ edge_in t l c p edge
unfolding peerings_after with_session after_it
up_same t l c p a b edge d off back turn = each_same t l c p a.0 b.0 true (step.BgpUp a b) turn d off back edge

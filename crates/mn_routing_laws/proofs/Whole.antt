-- A message that is received changes the routes of a network as it changes one edge and one end of a session.
use Rattle.std.proofs.Common.{ℕ, ◌≡◌, ◌≢◌, ◌+◌, ◌<◌, ◌⊎◌, inl, inr, Bool, true, false, List, [], map, length, refl, sym, ◌∙◌, ap, Option, Some, None}
use Rattle.std.specs.Prelude.{if◌then◌else◌, slice_set, slice_index_or, option_map}
use Rattle.std.specs.List.{range_with_len}
use Rattle.mn_base.specs.declared.numbers.NodeNo.{NodeNo}
use Rattle.mn_states.specs.declared.states.BgpState.TheVariants.{Idle}
use Rattle.mn_wiring.specs.Wiring.{nodes_of}
use Rattle.mn_topo.specs.Network.{Network, wiring_of}
use Rattle.mn_topo.specs.VrfTable.{is_edge}
use Rattle.mn_topo.specs.declared.steps.Step.TheVariants as step
use Rattle.mn_bgp_session.specs.declared.session.BgpSession.{BgpSession}
use Rattle.mn_bgp_session.specs.Table as table
use Rattle.mn_ledger.specs.Places.{loopback}
use Rattle.mn_ledger.specs.World.{Config, Telling, Open, BgpKeepAlive, Announcement, Withdrawal, Peerings}
use Rattle.mn_ledger.specs.Bgp.{peers_live, state_heard, bgp_state_of, peerings_after}
use Rattle.mn_ledger.specs.Turns.{has_bgp_row}
use Rattle.mn_ledger.proofs.GoingBy.{pair_off}
use Rattle.mn_pe.specs.Edge.{Edge, after_message}
use Rattle.mn_bgp_spelling_laws.specs.Spelling.{Labels}
use Rattle.mn_routing_laws.specs.Standing.{says_of, edge_in}
use Rattle.mn_bgp_spelling_laws.specs.Spelling.{session_in, message_in}
use Rattle.mn_routing_laws.specs.Whole.{RoutesNow, edge_or_none, session_or_none, routes_in, update_of, after_hearing}
use Rattle.mn_routing_laws.proofs.Tables.{map_same, map_numbers_set, map_numbers_at}
use Rattle.mn_routing_laws.proofs.Hearing.{IsInTurn}
use Rattle.mn_routing_laws.proofs.Steps.{hear_here, hear_off}
use Rattle.mn_bgp_spelling_laws.proofs.Wire.{hears}

-- the update of what was sent
update_is : (t : Network) (l : Labels) (q : ℕ) (m : Telling) → update_of (message_in t l q m) ≡ says_of t l q m
update_is t l q Open = refl
update_is t l q BgpKeepAlive = refl
update_is t l q (Announcement e) = refl
update_is t l q (Withdrawal v p) = refl

pub mapped_if : {A B : Type 0} (f : A → B) (b : Bool) (x : A) → option_map f (if b then Some x else None) ≡ (if b then Some (f x) else None)
mapped_if f true x = refl
mapped_if f false x = refl

module _ (t : Network) (l : Labels) (c : Config) (p : Peerings) (a b : NodeNo) (apart : a.0 ≢ b.0) (first : a.0 < length t.loopbacks)
    (second : b.0 < length t.loopbacks) (alive : peers_live c b.0 a.0 ≡ true)
    (more : p.heard b.0 a.0 < length (p.told a.0 b.0)) (row : has_bgp_row (bgp_state_of c p b.0 a.0)
    (slice_index_or (p.told a.0 b.0) (p.heard b.0 a.0) Open) ≡ true) (turn : IsInTurn p) where
  heard : Telling
  heard = slice_index_or (p.told a.0 b.0) (p.heard b.0 a.0) Open

  after_it : Peerings
  after_it = peerings_after t c c p (step.HearBgp a b)

  edges_same : map (edge_or_none t l c after_it) (nodes_of (wiring_of t)) ≡ slice_set (map (edge_or_none t l c p) (nodes_of (wiring_of t))) b.0
      (option_map (λ now. after_message now a.0 (update_of (message_in t l a.0 heard)))
      (slice_index_or (map (edge_or_none t l c p) (nodes_of (wiring_of t))) b.0 None))
  unfolding after_it heard
  edges_same =
      map_numbers_set (edge_or_none t l c p) (edge_or_none t l c after_it) (length t.loopbacks) b.0 _ second
      (ap (λ e. if is_edge t.vrfs b.0 then Some e else None) (hear_here t l c p a b apart first alive more turn)
      ∙ ap (λ says. if is_edge t.vrfs b.0 then Some (after_message (edge_in t l c p b.0) a.0 says) else None) (sym (update_is t l a.0 heard))
      ∙ sym (mapped_if (λ now. after_message now a.0 (update_of (message_in t l a.0 heard))) (is_edge t.vrfs b.0) (edge_in t l c p b.0))
      ∙ ap (option_map (λ now. after_message now a.0 (update_of (message_in t l a.0 heard))))
      (sym (map_numbers_at (edge_or_none t l c p) (length t.loopbacks) b.0 None second)))
      (λ n d. ap (λ e. if is_edge t.vrfs n then Some e else None) (hear_off t l c p a b n d turn))

  row_of : Peerings → ℕ → List (Option BgpSession)
  row_of k node = map (session_or_none t c k node) (nodes_of (wiring_of t))

  session_off : (node peer : ℕ) → (node ≢ b.0) ⊎ (peer ≢ a.0) → session_or_none t c after_it node peer ≡ session_or_none t c p node peer
  unfolding after_it peerings_after
  session_off node peer d = ap in_state (pair_off p.heard b.0 a.0 (p.heard b.0 a.0 + 1) node peer d)
    where
      in_state : ℕ → Option BgpSession
      in_state n = if peers_live c node peer then Some (record {
        asn = t.asn;
        me = loopback t node;
        peer = loopback t peer;
        state =
            if peers_live c node peer then state_heard n else Idle;
      }) else None

  own_row : row_of after_it b.0 ≡ slice_set (row_of p b.0) a.0
      (option_map (λ session. table.after_message session (message_in t l a.0 heard)) (slice_index_or (row_of p b.0) a.0 None))
  unfolding after_it heard row_of
  own_row =
      map_numbers_set (session_or_none t c p b.0) (session_or_none t c after_it b.0) (length t.loopbacks) a.0 _ first
      (ap (λ s. if peers_live c b.0 a.0 then Some s else None) (hears t l c p a b alive row)
      ∙ sym (mapped_if (λ session. table.after_message session (message_in t l a.0 heard)) (peers_live c b.0 a.0) (session_in t c p b.0 a.0))
      ∙ ap (option_map (λ session. table.after_message session (message_in t l a.0 heard)))
      (sym (map_numbers_at (session_or_none t c p b.0) (length t.loopbacks) a.0 None first)))
      (λ q d. session_off b.0 q (inr d))

  sessions_same : map (row_of after_it) (nodes_of (wiring_of t)) ≡ slice_set (map (row_of p) (nodes_of (wiring_of t))) b.0
      (slice_set (slice_index_or (map (row_of p) (nodes_of (wiring_of t))) b.0 []) a.0
      (option_map (λ session. table.after_message session (message_in t l a.0 heard))
      (slice_index_or (slice_index_or (map (row_of p) (nodes_of (wiring_of t))) b.0 []) a.0 None)))
  unfolding row_of
  sessions_same =
      map_numbers_set (row_of p) (row_of after_it) (length t.loopbacks) b.0 _ second
      (own_row ∙ ap (λ xs. slice_set xs a.0 (option_map (λ session. table.after_message session (message_in t l a.0 heard)) (slice_index_or xs a.0 None)))
      (sym (map_numbers_at (row_of p) (length t.loopbacks) b.0 [] second)))
      (λ n d. map_same_all (session_or_none t c after_it n) (session_or_none t c p n) (range_with_len 0 (length t.loopbacks)) (λ q. session_off n q (inl d)))
    where
      map_same_all : (f g : ℕ → Option BgpSession) (xs : List ℕ) → ((x : ℕ) → f x ≡ g x) → map f xs ≡ map g xs
      map_same_all f g xs h = map_same f g xs (λ x i. h x)

  pub hears_whole : routes_in t l c (peerings_after t c c p (step.HearBgp a b)) ≡ after_hearing (routes_in t l c p) b.0 a.0
      (message_in t l a.0 (slice_index_or (p.told a.0 b.0) (p.heard b.0 a.0) Open))
  unfolding after_it heard row_of
  hears_whole = both _ _ _ _ edges_same sessions_same
    where
      both : (es fs : List (Option Edge)) (ss rs : List (List (Option BgpSession))) → es ≡ fs → ss ≡ rs →
          (let r : RoutesNow = record { edges = es; sessions = ss } in r) ≡ record { edges = fs; sessions = rs }
      both es fs ss rs e f = ap (λ xs. let r : RoutesNow = record { edges = xs; sessions = ss } in r) e
          ∙ ap (λ ys. let r : RoutesNow = record { edges = fs; sessions = ys } in r) f

-- Each routing step changes the routes of a network as it changes its edges and its sessions.
use Rattle.std.proofs.Common.{ℕ, ◌≡◌, ◌≢◌, ◌<◌, ◌⊎◌, inl, inr, Bool, true, false, List, [], map, length, refl, arith, sym, ◌∙◌, ap, Option, Some, None}
use Rattle.std.specs.Prelude.{if◌then◌else◌, option_map}
use Rattle.mn_base.proofs.Bools.{less_is, not_less}
use Rattle.mn_base.specs.declared.numbers.NodeNo.{NodeNo}
use Rattle.mn_base.specs.declared.numbers.VrfNo.{VrfNo}
use Rattle.mn_base.specs.declared.numbers.SiteNo.{SiteNo}
use Rattle.mn_base.specs.declared.numbers.Rt.{Rt}
use Rattle.mn_states.specs.declared.states.BgpState.TheVariants.{Idle}
use Rattle.mn_wiring.specs.Wiring.{nodes_of}
use Rattle.mn_prefix.specs.Prefix.{AddressBlock}
use Rattle.mn_topo.specs.Network.{Network, wiring_of}
use Rattle.mn_topo.specs.VrfTable.{is_edge}
use Rattle.mn_topo.specs.declared.steps.Step.{Step}
use Rattle.mn_topo.specs.declared.steps.Step.TheVariants as step
use Rattle.mn_ledger.specs.Tables.{put_pair}
use Rattle.mn_ledger.specs.Places.{loopback, edge_of, home_of, vrf_of}
use Rattle.mn_ledger.specs.World.{Config, Peerings}
use Rattle.mn_ledger.specs.Bgp.{peers_live, state_heard, bgp_restarted, told_in, with_told, peerings_after}
use Rattle.mn_ledger.specs.Ledger.{config_after}
use Rattle.mn_ledger.proofs.Members.{In}
use Rattle.mn_ledger.proofs.Statics.{HasStatics}
use Rattle.mn_ledger.proofs.GoingBy.{pair_here, pair_off}
use Rattle.mn_bgp_session.specs.declared.session.BgpSession.{BgpSession}
use Rattle.mn_bgp_spelling_laws.specs.Spelling.{Labels}
use Rattle.mn_targets.specs.Targets.{target_set}
use Rattle.mn_vrf.specs.Vrf.{with_imports, with_exports, with_static, without_static}
use Rattle.mn_pe.specs.Edge.{Edge, after_vrf, after_forget, after_attach, after_detach}
use Rattle.mn_routing_laws.specs.Labels.{labels_after}
use Rattle.mn_routing_laws.specs.Standing.{edge_in}
use Rattle.mn_routing_laws.specs.Whole.{RoutesNow, edge_or_none, session_or_none, routes_in, at_edge, after_opening, after_ending}
use Rattle.mn_routing_laws.proofs.Tables.{map_same, set_by, one_set, two_set}
use Rattle.mn_routing_laws.proofs.Hearing.{IsInTurn}
use Rattle.mn_routing_laws.proofs.Steps.{import_here, import_off, export_here, export_off, add_here, add_off}
use Rattle.mn_routing_laws.proofs.Attaching.{AllKnown, attach_here, attach_off, detach_here, detach_off}
use Rattle.mn_routing_laws.proofs.Removing.{del_here, del_off}
use Rattle.mn_routing_laws.proofs.Sessions.{with_session, live_off, down_first, down_second, down_off, up_same}
use Rattle.mn_routing_laws.proofs.Whole.{mapped_if}

both : (es fs : List (Option Edge)) (ss rs : List (List (Option BgpSession))) → es ≡ fs → ss ≡ rs →
    (let r : RoutesNow = record { edges = es; sessions = ss } in r) ≡ record { edges = fs; sessions = rs }
both es fs ss rs e f = ap (λ xs. let r : RoutesNow = record { edges = xs; sessions = ss } in r) e
    ∙ ap (λ ys. let r : RoutesNow = record { edges = fs; sessions = ys } in r) f

-- a table of all pairs of nodes stays
rows_same : (t : Network) (c new : Config) (p q : Peerings) → ((n m : ℕ) → session_or_none t new q n m ≡ session_or_none t c p n m)
    → map (λ n. map (session_or_none t new q n) (nodes_of (wiring_of t))) (nodes_of (wiring_of t)) ≡ map
    (λ n. map (session_or_none t c p n) (nodes_of (wiring_of t))) (nodes_of (wiring_of t))
rows_same t c new p q h =
    map_same (λ n. map (session_or_none t new q n) (nodes_of (wiring_of t))) (λ n. map (session_or_none t c p n) (nodes_of (wiring_of t)))
    (nodes_of (wiring_of t))
    (λ n i. map_same (session_or_none t new q n) (session_or_none t c p n) (nodes_of (wiring_of t)) (λ m j. h n m))

-- 1. A change of one edge

pub one_edge : (t : Network) (l k : Labels) (c new : Config) (p q : Peerings) (e : ℕ) (f : Edge → Edge) → e < length t.loopbacks
    → edge_in t k new q e ≡ f (edge_in t l c p e) → ((x : ℕ) → x ≢ e → edge_in t k new q x ≡ edge_in t l c p x) →
    ((n m : ℕ) → session_or_none t new q n m ≡ session_or_none t c p n m)
    → routes_in t k new q ≡ at_edge e f (routes_in t l c p)
unfolding set_by
one_edge t l k c new p q e f below here off same =
    both _ _ _ _
    (one_set (edge_or_none t l c p) (edge_or_none t k new q) (length t.loopbacks) e (option_map f) None below
    (ap (λ x. if is_edge t.vrfs e then Some x else None) here ∙ sym (mapped_if f (is_edge t.vrfs e) (edge_in t l c p e)))
    (λ x d. ap (λ y. if is_edge t.vrfs x then Some y else None) (off x d)))
    (rows_same t c new p q same)

pub import_whole : (t : Network) (l : Labels) (c : Config) (p : Peerings) (v : VrfNo) (target : Rt) (on : Bool) → edge_of t v.0 < length t.loopbacks →
    IsInTurn p
    → routes_in t l (config_after c (step.Import v on target)) (peerings_after t c (config_after c (step.Import v on target)) p (step.Import v on target))
    ≡ at_edge (edge_of t v.0) (λ now. after_vrf now v.0 (with_imports (target_set target on))) (routes_in t l c p)
unfolding peerings_after
import_whole t l c p v target on below turn =
    let s : Step = step.Import v on target in
    one_edge t l l c (config_after c s) p (peerings_after t c (config_after c s) p s) (edge_of t v.0)
    (λ now. after_vrf now v.0 (with_imports (target_set target on))) below
    (import_here t l c p v target on (edge_of t v.0) turn) (λ x d. import_off t l c p v target on x d turn) (λ n m. refl)

pub export_whole : (t : Network) (l : Labels) (c : Config) (p : Peerings) (v : VrfNo) (target : Rt) (on : Bool) → edge_of t v.0 < length t.loopbacks →
    IsInTurn p
    → routes_in t l (config_after c (step.Export v on target)) (peerings_after t c (config_after c (step.Export v on target)) p (step.Export v on target))
    ≡ at_edge (edge_of t v.0) (λ now. after_vrf now v.0 (with_exports (target_set target on))) (routes_in t l c p)
unfolding peerings_after
export_whole t l c p v target on below turn =
    let s : Step = step.Export v on target in
    one_edge t l l c (config_after c s) p (peerings_after t c (config_after c s) p s) (edge_of t v.0)
    (λ now. after_vrf now v.0 (with_exports (target_set target on))) below
    (export_here t l c p v target on (edge_of t v.0) turn) (λ x d. export_off t l c p v target on x d turn) (λ n m. refl)

pub add_whole : (t : Network) (l : Labels) (c : Config) (p : Peerings) (s : SiteNo) (prefix : AddressBlock) → home_of t s.0 < length t.loopbacks → IsInTurn p
    → routes_in t l (config_after c (step.AddRoute s prefix)) (peerings_after t c (config_after c (step.AddRoute s prefix)) p (step.AddRoute s prefix))
    ≡ at_edge (home_of t s.0) (λ now. after_vrf now (vrf_of t s.0) (with_static (record { prefix = prefix; site = s.0 }))) (routes_in t l c p)
unfolding peerings_after
add_whole t l c p s prefix below turn =
    let done : Step = step.AddRoute s prefix in
    one_edge t l l c (config_after c done) p (peerings_after t c (config_after c done) p done) (home_of t s.0)
    (λ now. after_vrf now (vrf_of t s.0) (with_static (record { prefix = prefix; site = s.0 }))) below
    (add_here t l c p s prefix (home_of t s.0) turn) (λ x d. add_off t l c p s prefix x d turn) (λ n m. refl)

pub del_whole : (t : Network) (l : Labels) (c : Config) (p : Peerings) (s : SiteNo) (prefix : AddressBlock) → home_of t s.0 < length t.loopbacks → IsInTurn p
    → HasStatics t c.statics → In c.statics (record { site = s.0; prefix = prefix })
    → routes_in t l (config_after c (step.DelRoute s prefix)) (peerings_after t c (config_after c (step.DelRoute s prefix)) p (step.DelRoute s prefix))
    ≡ at_edge (home_of t s.0) (λ now. after_vrf now (vrf_of t s.0) (without_static (record { prefix = prefix; site = s.0 }))) (routes_in t l c p)
unfolding peerings_after
del_whole t l c p s prefix below turn has there =
    let done : Step = step.DelRoute s prefix in
    one_edge t l l c (config_after c done) p (peerings_after t c (config_after c done) p done) (home_of t s.0)
    (λ now. after_vrf now (vrf_of t s.0) (without_static (record { prefix = prefix; site = s.0 }))) below
    (del_here t c s prefix l p (home_of t s.0) turn has there) (λ x d. del_off t c s prefix l p x d turn has there) (λ n m. refl)

pub attach_whole : (t : Network) (gives : ℕ → ℕ) (l : Labels) (c : Config) (p : Peerings) (s : SiteNo) → home_of t s.0 < length t.loopbacks →
    s.0 < length t.sites →
    IsInTurn p → AllKnown c p
    → routes_in t (labels_after gives c l (step.Attach s)) (config_after c (step.Attach s))
    (peerings_after t c (config_after c (step.Attach s)) p (step.Attach s))
    ≡ at_edge (home_of t s.0) (λ now. after_attach now s.0 (gives s.0)) (routes_in t l c p)
unfolding peerings_after
attach_whole t gives l c p s below there turn known =
    let done : Step = step.Attach s in
    one_edge t l (labels_after gives c l done) c (config_after c done) p (peerings_after t c (config_after c done) p done) (home_of t s.0)
    (λ now. after_attach now s.0 (gives s.0)) below
    (attach_here t gives l c p s turn known there) (λ x d. attach_off t gives l c p s turn known x d) (λ n m. refl)

pub detach_whole : (t : Network) (l : Labels) (c : Config) (p : Peerings) (s : SiteNo) → home_of t s.0 < length t.loopbacks → s.0 < length t.sites → IsInTurn p
    → routes_in t l (config_after c (step.Detach s)) (peerings_after t c (config_after c (step.Detach s)) p (step.Detach s))
    ≡ at_edge (home_of t s.0) (λ now. after_detach now s.0) (routes_in t l c p)
unfolding peerings_after
detach_whole t l c p s below there turn =
    let done : Step = step.Detach s in
    one_edge t l l c (config_after c done) p (peerings_after t c (config_after c done) p done) (home_of t s.0) (λ now. after_detach now s.0) below
    (detach_here t l c p s turn there) (λ x d. detach_off t l c p s turn x d) (λ n m. refl)

-- 2. A session opens or ends

-- whatever the step tells, after it the two ends have received nothing in the new life
later : Network → Config → Peerings → ℕ → ℕ → Bool → Step → Peerings
later t c p a b on s = with_told (bgp_restarted p a b) (told_in t c p (with_session c a b on) (bgp_restarted p a b) s)

module _ (t : Network) (c : Config) (p : Peerings) (a b : ℕ) (on : Bool) (s : Step) (first : a < b) where
  apart : a ≢ b
  apart e = omega (arith, first, e)

  abbrev row_before : ℕ → List (Option BgpSession)
  row_before n = map (session_or_none t c p n) (nodes_of (wiring_of t))

  abbrev row_later : ℕ → List (Option BgpSession)
  row_later n = map (session_or_none t (with_session c a b on) (later t c p a b on s) n) (nodes_of (wiring_of t))

  -- an end, by whether it lives and how much it has received
  end_as : ℕ → ℕ → Bool → ℕ → Option BgpSession
  end_as n m live heard = if live then Some (record {
    asn = t.asn;
    me = loopback t n;
    peer = loopback t m;
    state =
        if live then state_heard heard else Idle;
  }) else None

  session_off : (n m : ℕ) → (n ≢ a) ⊎ (m ≢ b) → (n ≢ b) ⊎ (m ≢ a) →
      session_or_none t (with_session c a b on) (later t c p a b on s) n m ≡ session_or_none t c p n m
  unfolding later end_as
  session_off n m d e =
      ap (λ live. end_as n m live (put_pair (put_pair p.heard a b 0) b a 0 n m)) (live_off c a b n m on d e)
      ∙ ap (end_as n m (peers_live c n m)) (pair_off (put_pair p.heard a b 0) b a 0 n m e ∙ pair_off p.heard a b 0 n m d)

  live_first : peers_live (with_session c a b on) a b ≡ on
  unfolding with_session
  live_first = ap (λ x. if x then put_pair c.bgp_on a b on a b else put_pair c.bgp_on a b on b a) (less_is a b first) ∙ pair_here c.bgp_on a b on

  live_second : peers_live (with_session c a b on) b a ≡ on
  unfolding with_session
  live_second = ap (λ x. if x then put_pair c.bgp_on a b on b a else put_pair c.bgp_on a b on a b) (not_less b a (omega (arith, first)))
      ∙ pair_here c.bgp_on a b on

  heard_first : (later t c p a b on s).heard a b ≡ 0
  unfolding later
  heard_first = pair_off (put_pair p.heard a b 0) b a 0 a b (inl apart) ∙ pair_here p.heard a b 0

  heard_second : (later t c p a b on s).heard b a ≡ 0
  unfolding later
  heard_second = pair_here (put_pair p.heard a b 0) b a 0

  end_first : session_or_none t (with_session c a b on) (later t c p a b on s) a b ≡ end_as a b on 0
  unfolding end_as
  end_first = ap (λ live. end_as a b live ((later t c p a b on s).heard a b)) live_first ∙ ap (end_as a b on) heard_first

  end_second : session_or_none t (with_session c a b on) (later t c p a b on s) b a ≡ end_as b a on 0
  unfolding end_as
  end_second = ap (λ live. end_as b a live ((later t c p a b on s).heard b a)) live_second ∙ ap (end_as b a on) heard_second

  -- the two rows with the two ends as they are then
  sessions_two : a < length t.loopbacks → b < length t.loopbacks
      → map row_later (nodes_of (wiring_of t))
      ≡ set_by b (set_by a (λ end. end_as b a on 0) None) [] (set_by a (set_by b (λ end. end_as a b on 0) None) [] (map row_before (nodes_of (wiring_of t))))
  sessions_two below_a below_b =
      two_set row_before row_later (length t.loopbacks) a b (set_by b (λ end. end_as a b on 0) None)
      (set_by a (λ end. end_as b a on 0) None) [] apart below_a below_b
      (one_set (session_or_none t c p a) (session_or_none t (with_session c a b on) (later t c p a b on s) a) (length t.loopbacks) b
      (λ end. end_as a b on 0) None below_b end_first
      (λ m d. session_off a m (inr d) (inl apart)))
      (one_set (session_or_none t c p b) (session_or_none t (with_session c a b on) (later t c p a b on s) b) (length t.loopbacks) a
      (λ end. end_as b a on 0) None below_a end_second
      (λ m d. session_off b m (inl (λ e. apart (sym e))) (inr d)))
      (λ n d e. map_same (session_or_none t (with_session c a b on) (later t c p a b on s) n) (session_or_none t c p n) (nodes_of (wiring_of t))
      (λ m i. session_off n m (inl d) (inl e)))

pub up_whole : (t : Network) (l : Labels) (c : Config) (p : Peerings) (a b : NodeNo) → a.0 < b.0 → b.0 < length t.loopbacks → peers_live c a.0 b.0 ≡ false →
    peers_live c b.0 a.0 ≡ false → IsInTurn p
    → routes_in t l (config_after c (step.BgpUp a b)) (peerings_after t c (config_after c (step.BgpUp a b)) p (step.BgpUp a b)) ≡ after_opening t
    (routes_in t l c p) a.0 b.0
unfolding peerings_after later end_as set_by with_session
up_whole t l c p a b first below off back turn =
    let s : Step = step.BgpUp a b in
    both _ _ _ _
    (map_same (edge_or_none t l (config_after c s) (peerings_after t c (config_after c s) p s)) (edge_or_none t l c p) (nodes_of (wiring_of t))
    (λ n i. ap (λ x. if is_edge t.vrfs n then Some x else None) (up_same t l c p a b n (apart t c p a.0 b.0 true s first) off back turn)))
    (sessions_two t c p a.0 b.0 true s first (omega (arith, first, below)) below)

pub down_whole : (t : Network) (l : Labels) (c : Config) (p : Peerings) (a b : NodeNo) → a.0 < b.0 → b.0 < length t.loopbacks → IsInTurn p
    → routes_in t l (config_after c (step.BgpDown a b)) (peerings_after t c (config_after c (step.BgpDown a b)) p (step.BgpDown a b)) ≡ after_ending
    (routes_in t l c p) a.0 b.0
unfolding peerings_after later end_as set_by with_session
down_whole t l c p a b first below turn =
    let s : Step = step.BgpDown a b in
    let new : Config = config_after c s in
    let q : Peerings = peerings_after t c new p s in
    let differ : a.0 ≢ b.0 = apart t c p a.0 b.0 false s first in
    both _ _ _ _
    (two_set (edge_or_none t l c p) (edge_or_none t l new q) (length t.loopbacks) a.0 b.0 (option_map (λ now. after_forget now b.0))
    (option_map (λ now. after_forget now a.0)) None differ
    (omega (arith, first, below)) below
    (ap (λ x. if is_edge t.vrfs a.0 then Some x else None) (down_first t l c p a b differ below turn)
    ∙ sym (mapped_if (λ now. after_forget now b.0) (is_edge t.vrfs a.0) (edge_in t l c p a.0)))
    (ap (λ x. if is_edge t.vrfs b.0 then Some x else None) (down_second t l c p a b differ (omega (arith, first, below)) turn)
    ∙ sym (mapped_if (λ now. after_forget now a.0) (is_edge t.vrfs b.0) (edge_in t l c p b.0)))
    (λ n d e. ap (λ x. if is_edge t.vrfs n then Some x else None) (down_off t l c p a b n d e turn)))
    (sessions_two t c p a.0 b.0 false s first (omega (arith, first, below)) below)

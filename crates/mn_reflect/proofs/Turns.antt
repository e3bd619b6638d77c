-- A node learns of a route, or forgets what a peer announced.
use Rattle.std.proofs.Common.{[], ℕ, zero, suc, ◌≡◌, ◌≢◌, ◌≤◌, ◌<◌, ◌+◌, ◌==◌, Bool, true, false, List, ◌∷◌, ◌++◌, length, refl, arith, sym, ap, subst, ◌∙◌}
use Rattle.std.proofs.Common.{Option, Some, None, inl, inr}
use Rattle.std.specs.Prelude.{◌||◌, cond, filter, slice_get, slice_set, slice_index_or, if◌then◌else◌}
use Rattle.std.specs.List.{AllByRecursion, flat_map}
use Rattle.std.proofs.Math.Path.{fun_ext}
use Rattle.std.proofs.lemmas.List.{append-nil, get_or-set_same, set-set}
use Rattle.std.proofs.lemmas.Bool.Decides.{eqb_tells}
use Rattle.mn_base.specs.declared.numbers.NodeNo.{NodeNo}
use Rattle.mn_base.specs.declared.numbers.VrfNo.{VrfNo}
use Rattle.mn_base.proofs.Bools.{test_same, other_test}
use Rattle.mn_prefix.specs.Prefix.{AddressBlock}
use Rattle.mn_topo.specs.Network.{Network}
use Rattle.mn_bgp_session.specs.declared.session.BgpSession.{BgpSession}
use Rattle.mn_ledger.specs.Places.{edge_of}
use Rattle.mn_bgp_wire.specs.Says.{Says}
use Rattle.mn_pe.specs.Edge.{Edge, after_update}
use Rattle.mn_mail.specs.Mail.{Letter, Mail}
use Rattle.mn_offers.specs.Heard.{Heard, heard_before, place_of}
use Rattle.mn_edges.specs.Changes.{working}
use Rattle.mn_routing_laws.specs.Doing.{edge_or_blank}
use Rattle.mn_edges.specs.Peers.{is_steady, peers_from}
use Rattle.mn_routing_laws.proofs.Opening.{set_same}
use Rattle.mn_reflect_ledger_laws.specs.Words.{Key}
use Rattle.mn_reflect_ledger_laws.specs.Picks.{is_reflector}
use Rattle.mn_reflect_world_laws.specs.Now.{ReflectNow}
use Rattle.mn_reflect_world_laws.specs.Choice.{Row, row_at, reflected_to, offered_of, names_in}
use Rattle.mn_reflect_world_laws.specs.Letters.{change_letters, reflector_news}
use Rattle.mn_reflect_world_laws.specs.Goes.{set_at, steady_of, edge_of_node, decide, decide_all, decision_says}
use Rattle.mn_reflect_telling.specs.Mentions.{numbers_of, Shows, AreNodes, row_in, row_with, key_of_heard}
use Rattle.mn_reflect_telling.specs.Names.{named}
use Rattle.mn_reflect_telling.specs.Passing.{IsPassable, IfPassable}
use Rattle.mn_reflect.specs.Shape.{IsShaped}
use Rattle.mn_reflect_telling.specs.Telling.{posted}
use Rattle.mn_reflect.specs.Doing.{MayTurn, IsEdgeAt, IsNamed, mentioned_in, with_row, with_letters, changed_edge, kept, decided_on, turned, route_heard}
use Rattle.mn_reflect.specs.Doing.{forgotten}
use Rattle.mn_reflect_telling.proofs.Kept.{row_passes}
use Rattle.mn_reflect.proofs.Shows.{kept_shows}
use Rattle.mn_reflect.proofs.Tables.{cell_same, cell_other, row_same}

-- 1. Nodes

pub peers_are : (t : Network) (k : ℕ) (ends : List (Option BgpSession)) → k + length ends ≤ length t.loopbacks → AreNodes t (peers_from k ends)
peers_are t k [] h = tt
peers_are t k (end ∷ ends) h = by (is_steady end) (omega (arith, h)) (peers_are t (k + 1) ends (omega (arith, h)))
  where
    by : (b : Bool) → k < length t.loopbacks → AreNodes t (peers_from (k + 1) ends) →
        AreNodes t (if b then record { 0 = k } ∷ peers_from (k + 1) ends else peers_from (k + 1) ends)
    by true below more = (below, more)
    by false below more = more

pub nodes_are : (t : Network) (nodes : List NodeNo) → AllByRecursion (λ node. node < length t.loopbacks) (numbers_of nodes) → AreNodes t nodes
nodes_are t [] h = tt
nodes_are t (node ∷ nodes) h = (h.0, nodes_are t nodes h.1)

-- the name of a route, as the code reads it
pub key_is : (route : Heard) (vrf : VrfNo) (prefix : AddressBlock) → vrf.0 ≡ route.vrf → prefix ≡ route.prefix → named vrf prefix ≡ key_of_heard route
key_is route vrf prefix v p =
    ap (λ n. let k : Key = record { vrf = n; prefix = prefix } in k) v ∙ ap (λ b. let k : Key = record { vrf = route.vrf; prefix = b } in k) p

-- 2. Rows

pub all_set : {A : Type 0} (P : A → Type 0) (xs : List A) (k : ℕ) (x : A) → AllByRecursion P xs → P x → AllByRecursion P (slice_set xs k x)
all_set P [] k x h new = tt
all_set P (y ∷ ys) zero x h new = (new, h.1)
all_set P (y ∷ ys) (suc k) x h new = (h.0, all_set P ys k x h.1 new)

all_filter : {A : Type 0} (P : A → Type 0) (p : A → Bool) (xs : List A) → AllByRecursion P xs → AllByRecursion P (filter p xs)
all_filter P p [] h = tt
all_filter P p (x ∷ xs) h = by (p x) (all_filter P p xs h.1)
  where
    by : (b : Bool) → AllByRecursion P (filter p xs) → AllByRecursion P (cond b (x ∷ filter p xs) (filter p xs))
    by true more = (h.0, more)
    by false more = more

all_both : {A : Type 0} (P : A → Type 0) (xs ys : List A) → AllByRecursion P xs → AllByRecursion P ys → AllByRecursion P (xs ++ ys)
all_both P [] ys h more = more
all_both P (x ∷ xs) ys h more = (h.0, all_both P xs ys h.1 more)

-- what is kept then can be passed on
pub kept_passes : (t : Network) (key : Key) (mention : Option Heard) (routes : List Heard) → IfPassable t mention → AllByRecursion (IsPassable t) routes →
    AllByRecursion (IsPassable t) (mentioned_in key mention routes)
kept_passes t key None routes new h =
    all_filter (IsPassable t) (λ y. heard_before y (place_of key.vrf key.prefix) || heard_before (place_of key.vrf key.prefix) y) routes h
kept_passes t key (Some route) routes new h =
    all_both (IsPassable t) (filter (λ y. heard_before y route) routes) (route ∷ filter (λ y. heard_before route y) routes)
    (all_filter (IsPassable t) (λ y. heard_before y route) routes h) (new, all_filter (IsPassable t) (λ y. heard_before route y) routes h)

pub shows_of : {heard : List (List Heard)} {key : Key} {peer : ℕ} {mention other : Option Heard} {row : Row} → mention ≡ other →
    Shows heard key peer mention row →
    Shows heard key peer other row
shows_of {heard = heard} {key = key} {peer = peer} {row = row} same shows = subst (λ m. Shows heard key peer m row) same shows

pub shows_at : {heard other : List (List Heard)} {key : Key} {peer : ℕ} {mention : Option Heard} {row : Row} → other ≡ heard →
    Shows heard key peer mention row →
    Shows other key peer mention row
shows_at {key = key} {peer = peer} {mention = mention} {row = row} same shows = subst (λ h. Shows h key peer mention row) (sym same) shows

-- 3. An edge that changes twice

below_length : {A : Type 0} (xs : List A) (k : ℕ) (x : A) → slice_get xs k ≡ Some x → k < length xs
below_length [] k x h = absurd (let none : None ≡ Some x → ⊥ = (λ e. cc) in none h)
below_length (y ∷ ys) zero x h = omega arith
below_length (y ∷ ys) (suc k) x h = omega (arith, below_length ys k x h)

got_set : {A : Type 0} (xs : List A) (k : ℕ) (x : A) → k < length xs → slice_get (slice_set xs k x) k ≡ Some x
got_set [] k x h = absurd (none k h)
  where
    none : (k : ℕ) → k < 0 → ⊥
    none k h = omega (arith, h)
got_set (y ∷ ys) zero x h = refl
got_set (y ∷ ys) (suc k) x h = got_set ys k x (omega (arith, h))

pub in_place : (now : ReflectNow) (node : ℕ) → IsEdgeAt now node → node < length now.edges
in_place now node there = below_length now.edges node _ there

pub it_became : (now : ReflectNow) (node : ℕ) (change : Edge → Edge) → IsEdgeAt now node →
    edge_of_node (changed_edge node change now).edges node ≡ change (edge_of_node now.edges node)
it_became now node change there =
    ap edge_or_blank (get_or-set_same now.edges node (Some (working (change (edge_of_node now.edges node)))) None (in_place now node there))

pub still_there : (now : ReflectNow) (node : ℕ) (change : Edge → Edge) → IsEdgeAt now node → IsEdgeAt (changed_edge node change now) node
still_there now node change there =
    got_set now.edges node (Some (working (change (edge_of_node now.edges node)))) (in_place now node there)
    ∙ ap (λ edge. Some (Some (working edge))) (sym (it_became now node change there))

pub changed_twice : (now : ReflectNow) (node : ℕ) (f g : Edge → Edge) → IsEdgeAt now node →
    changed_edge node g (changed_edge node f now) ≡ changed_edge node (λ edge. g (f edge)) now
changed_twice now node f g there =
    ap (λ edge. let r : ReflectNow = record now { edges = slice_set (changed_edge node f now).edges node (Some (working (g edge))) } in r)
    (it_became now node f there)
    ∙ ap (λ edges. let r : ReflectNow = record now { edges = edges } in r)
    (set-set now.edges node (Some (working (f (edge_of_node now.edges node)))) (Some (working (g (f (edge_of_node now.edges node))))))

-- where it stays as it is
pub not_changed : (now : ReflectNow) (node : ℕ) → IsEdgeAt now node → changed_edge node (λ edge. edge) now ≡ now
not_changed now node there = ap (λ edges. let r : ReflectNow = record now { edges = edges } in r) (set_same now.edges node _ there)

-- an edge decides on a route

decides : (t : Network) (rs : List ℕ) (row : Row) (node : ℕ) (key : Key) (edge : Edge) → (decide t rs row node key edge).loopbacks ≡ edge.loopbacks
decides t rs row node key edge = by (edge_of t key.vrf == node)
  where
    by : (b : Bool) → (let e : Edge =
        if b then edge else after_update edge (edge_of t key.vrf) (decision_says t key (reflected_to rs row node key)) in e).loopbacks
        ≡ edge.loopbacks
    by true = refl
    by false = refl

module _ (now : ReflectNow) (node : ℕ) (key : Key) where
  -- it takes nothing of its own routes
  pub stays_home : edge_of now.topology key.vrf ≡ node → IsEdgeAt now node → now ≡ decided_on node key now
  stays_home same there =
      sym (ap (λ b. changed_edge node (λ edge. if b then edge else after_update edge (edge_of now.topology key.vrf)
      (decision_says now.topology key (reflected_to now.reflectors (row_at now.heard node) node key))) now) (test_same (edge_of now.topology key.vrf) node same)
      ∙ not_changed now node there)

  pub takes_it : edge_of now.topology key.vrf ≢ node → (two : ReflectNow) (home : ℕ) (says : Says) → home ≡ edge_of now.topology key.vrf →
      says ≡ decision_says now.topology key (reflected_to now.reflectors (row_at now.heard node) node key) →
      two ≡ changed_edge node (λ edge. after_update edge home says) now → two ≡ decided_on node key now
  takes_it apart two home says at is told =
      told ∙ ap (λ h. changed_edge node (λ edge. after_update edge h says) now) at
      ∙ ap (λ u. changed_edge node (λ edge. after_update edge (edge_of now.topology key.vrf) u) now) is
      ∙ sym (ap (λ b. changed_edge node (λ edge. if b then edge else after_update edge (edge_of now.topology key.vrf)
      (decision_says now.topology key (reflected_to now.reflectors (row_at now.heard node) node key))) now)
      (other_test (edge_of now.topology key.vrf) node apart))

-- and on one after another
module _ (now one : ReflectNow) (node : ℕ) (same : one ≡ record now { edges = one.edges }) (isnt : is_reflector now.reflectors node ≡ false)
    (may : MayTurn one node) where
  pub isnt_then : is_reflector one.reflectors node ≡ false
  isnt_then = ap (λ (r : ReflectNow). is_reflector r.reflectors node) same ∙ isnt

  there : IsEdgeAt one node
  there = may.edge isnt_then

  module _ (two : ReflectNow) (key : Key) (decided : two ≡ decided_on node key one) where
    as_now : two ≡ changed_edge node (decide now.topology now.reflectors (row_at now.heard node) node key) one
    as_now = decided ∙ ap (λ (r : ReflectNow). changed_edge node (decide r.topology r.reflectors (row_at r.heard node) node key) one) same

    pub next_decided : (keys : List Key) (goal : ReflectNow) →
        changed_edge node (decide_all now.topology now.reflectors (row_at now.heard node) node (key ∷ keys)) one ≡ goal →
        changed_edge node (decide_all now.topology now.reflectors (row_at now.heard node) node keys) two ≡ goal
    next_decided keys goal was =
        ap (changed_edge node (decide_all now.topology now.reflectors (row_at now.heard node) node keys)) as_now
        ∙ changed_twice one node (decide now.topology now.reflectors (row_at now.heard node) node key)
        (decide_all now.topology now.reflectors (row_at now.heard node) node keys) there
        ∙ was

    pub edges_alone : two ≡ record now { edges = two.edges }
    edges_alone =
        decided ∙ ap (λ (r : ReflectNow). let x : ReflectNow = record r { edges = (decided_on node key one).edges } in x) same
        ∙ ap (λ edges. let x : ReflectNow = record now { edges = edges } in x) (sym (ap (λ (r : ReflectNow). r.edges) decided))

    pub may_next : MayTurn two node
    may_next = subst (λ (r : ReflectNow). MayTurn r node) (sym decided) (record {
      rows = may.rows;
      edge = λ no. still_there one node (decide one.topology one.reflectors (row_at one.heard node) node key) there;
      addresses = λ no.
          ap (λ (e : Edge). e.loopbacks) (it_became one node (decide one.topology one.reflectors (row_at one.heard node) node key) there)
          ∙ decides one.topology one.reflectors (row_at one.heard node) node key (edge_of_node one.edges node)
          ∙ may.addresses isnt_then;
    })

-- what a reflector tells, once it is in flight
module _ (was now : ReflectNow) (same : was ≡ now) (node : ℕ) (rs : List ℕ) (peers : List NodeNo) (heard : List (List Heard)) (later : Mail)
    (rs_are : rs ≡ now.reflectors)
    (steady : peers ≡ steady_of now.sessions node) (heard_is : heard ≡ slice_index_or now.heard node []) where
  told_all_by : (before after : List (List Heard) → Row) (keys : List Key) →
      later ≡ posted (reflector_news was.topology rs node peers (before heard) (after heard) keys) was.mail →
      (let r : ReflectNow = record was { mail = later } in r)
      ≡ with_letters (reflector_news now.topology now.reflectors node (steady_of now.sessions node) (before (slice_index_or now.heard node []))
      (after (slice_index_or now.heard node [])) keys) now
  told_all_by before after keys said =
      ap (λ m. let r : ReflectNow = record was { mail = m } in r) said
      ∙ ap (λ (x : ReflectNow). with_letters (reflector_news x.topology rs node peers (before heard) (after heard) keys) x) same
      ∙ ap (λ xs. with_letters (reflector_news now.topology xs node peers (before heard) (after heard) keys) now) rs_are
      ∙ ap (λ ps. with_letters (reflector_news now.topology now.reflectors node ps (before heard) (after heard) keys) now) steady
      ∙ ap (λ h. with_letters (reflector_news now.topology now.reflectors node (steady_of now.sessions node) (before h) (after h) keys) now) heard_is

  pub told_by : (key : Key) (row : Row) → later ≡ posted (flat_map (λ (other : NodeNo). change_letters was.topology node other.0 key
      (offered_of was.topology rs (row_in heard) node other.0 key) (offered_of was.topology rs row node other.0 key)) peers) was.mail →
      (let r : ReflectNow = record was { mail = later } in r)
      ≡ with_letters (reflector_news now.topology now.reflectors node (steady_of now.sessions node) (row_at now.heard node) row (key ∷ [])) now
  told_by key row said = told_all_by row_in (λ h. row) (key ∷ []) (said ∙ ap (λ ls. posted ls was.mail) (sym (append-nil _)))

  pub told_gone_by : (peer : ℕ) (gone : List Heard) →
      later ≡ posted (reflector_news was.topology rs node peers (row_with heard peer gone) (row_in heard) (names_in gone)) was.mail →
      (let r : ReflectNow = record was { mail = later } in r)
      ≡ with_letters (reflector_news now.topology now.reflectors node (steady_of now.sessions node) (row_with (slice_index_or now.heard node []) peer gone)
      (row_at now.heard node) (names_in gone)) now
  told_gone_by peer gone said = told_all_by (λ h. row_with h peer gone) row_in (names_in gone) said

-- 4. A route is received

-- as the row of a node changes, a reflector says so, and an edge decides
module _ (node : ℕ) (keys : List Key) (was now : ReflectNow) where
  abbrev by_test : Bool → ReflectNow
  by_test b = record now {
    mail = if b then posted (reflector_news now.topology now.reflectors node (steady_of now.sessions node) (row_at was.heard node) (row_at now.heard node) keys)
        now.mail
        else now.mail;
    edges = if b then now.edges else (changed_edge node (decide_all now.topology now.reflectors (row_at now.heard node) node keys) now).edges;
  }

  pub reflector_turned : is_reflector now.reflectors node ≡ true →
      with_letters (reflector_news now.topology now.reflectors node (steady_of now.sessions node) (row_at was.heard node) (row_at now.heard node) keys) now
      ≡ turned node keys was now
  reflector_turned is = sym (ap by_test is)

  pub edge_turned : is_reflector now.reflectors node ≡ false →
      changed_edge node (decide_all now.topology now.reflectors (row_at now.heard node) node keys) now ≡ turned node keys was now
  edge_turned is = sym (ap by_test is)

module _ (now : ReflectNow) (shape : IsShaped now) (node peer : ℕ) (below : node < length now.topology.loopbacks)
    (within : peer < length now.topology.loopbacks)
  where
    has_row : node < length now.heard
    has_row = subst (λ n. node < n) (sym shape.heard) below

    has_cell : peer < length (slice_index_or now.heard node [])
    has_cell = subst (λ n. peer < n) (sym (shape.peers node below)) within

    -- what the node needs stays

    pub may_still : (routes : List Heard) → MayTurn now node → AllByRecursion (IsPassable now.topology) routes → MayTurn (with_row node peer routes now) node
    may_still routes may passable = record {
      rows = subst (AllByRecursion (λ rs. AllByRecursion (IsPassable now.topology) rs)) (sym (row_same node peer routes now.heard has_row))
          (all_set (λ rs. AllByRecursion (IsPassable now.topology) rs) (slice_index_or now.heard node []) peer routes may.rows passable);
      edge = may.edge;
      addresses = may.addresses;
    }

    module _ (key : Key) (mention : Option Heard) (its_name : IsNamed key mention) where
      abbrev news : List Letter
      news = reflector_news now.topology now.reflectors node (steady_of now.sessions node) (row_at now.heard node)
          (row_at (set_at node peer (mentioned_in key mention (row_at now.heard node peer)) now.heard) node) (key ∷ [])

      pub may_keep : MayTurn now node → IfPassable now.topology mention → MayTurn (kept node peer key mention now) node
      may_keep may passable =
          may_still (mentioned_in key mention (row_at now.heard node peer)) may
          (kept_passes now.topology key mention (row_at now.heard node peer) passable
          (row_passes now.topology (slice_index_or now.heard node []) peer may.rows))

      pub as_told : (one : ReflectNow) → ((row : Row) → Shows (slice_index_or now.heard node []) key peer mention row →
          one ≡ with_letters (reflector_news now.topology now.reflectors node (steady_of now.sessions node) (row_at now.heard node) row (key ∷ [])) now) →
          one ≡ with_letters news now
      as_told one told = told _ (kept_shows now.heard node peer key mention its_name has_row has_cell)

      -- a reflector sends to its peers, and keeps it
      pub told_and_kept : is_reflector now.reflectors node ≡ true → (one two : ReflectNow) →
          ((row : Row) → Shows (slice_index_or now.heard node []) key peer mention row →
          one ≡ with_letters (reflector_news now.topology now.reflectors node (steady_of now.sessions node) (row_at now.heard node) row (key ∷ [])) now) →
          two ≡ kept node peer key mention one → two ≡ route_heard node peer key mention now
      told_and_kept is one two told then_kept =
          then_kept ∙ ap (kept node peer key mention) (as_told one told)
          ∙ reflector_turned node (key ∷ []) now (kept node peer key mention now) is

      -- an edge keeps it, and decides
      pub kept_and_decided : is_reflector now.reflectors node ≡ false → (one two : ReflectNow) → one ≡ kept node peer key mention now →
          two ≡ decided_on node key one →
          two ≡ route_heard node peer key mention now
      kept_and_decided is one two then_kept decided =
          decided ∙ ap (decided_on node key) then_kept
          ∙ edge_turned node (key ∷ []) now (kept node peer key mention now) is

    -- 5. All that a peer announced is forgotten

    -- what the reflector said of it as long as it was there
    was_so : (other : ℕ) → row_with (slice_index_or (set_at node peer [] now.heard) node []) peer (row_at now.heard node peer) other
        ≡ row_at now.heard node other
    was_so other = elim (eqb_tells other peer) [
      | inl e ↦
          ap (λ b. if b then row_at now.heard node peer else slice_index_or (slice_index_or (set_at node peer [] now.heard) node []) other []) e.0
          ∙ ap (row_at now.heard node) (sym e.1)
      | inr e ↦
          ap (λ b. if b then row_at now.heard node peer else slice_index_or (slice_index_or (set_at node peer [] now.heard) node []) other []) e.0
          ∙ cell_other node peer [] now.heard [] other has_row e.1
    ]

    pub none_left : slice_index_or (slice_index_or (set_at node peer [] now.heard) node []) peer [] ≡ []
    none_left = cell_same node peer [] now.heard [] has_row has_cell

    abbrev gone_keys : List Key
    gone_keys = names_in (row_at now.heard node peer)

    pub gone_and_told : is_reflector now.reflectors node ≡ true → (gone : List Heard) (one two : ReflectNow) → gone ≡ row_at now.heard node peer →
        one ≡ with_row node peer [] now →
        two ≡ with_letters (reflector_news one.topology one.reflectors node (steady_of one.sessions node)
        (row_with (slice_index_or one.heard node []) peer gone)
        (row_at one.heard node) (names_in gone)) one → two ≡ forgotten node peer now
    gone_and_told is gone one two its left told =
        told
        ∙ ap (λ (r : ReflectNow). with_letters
        (reflector_news r.topology r.reflectors node (steady_of r.sessions node) (row_with (slice_index_or r.heard node []) peer gone)
        (row_at r.heard node) (names_in gone)) r) left
        ∙ ap (λ routes. with_letters (reflector_news now.topology now.reflectors node (steady_of now.sessions node)
        (row_with (slice_index_or (set_at node peer [] now.heard) node []) peer routes) (row_at (set_at node peer [] now.heard) node) (names_in routes))
        (with_row node peer [] now)) its
        ∙ ap (λ (row : Row). with_letters (reflector_news now.topology now.reflectors node (steady_of now.sessions node) row
        (row_at (set_at node peer [] now.heard) node)
        gone_keys) (with_row node peer [] now)) (fun_ext was_so)
        ∙ reflector_turned node gone_keys now (with_row node peer [] now) is

    pub gone_and_decided : is_reflector now.reflectors node ≡ false → (gone : List Heard) (one two : ReflectNow) → gone ≡ row_at now.heard node peer →
        one ≡ with_row node peer [] now →
        two ≡ changed_edge node (decide_all one.topology one.reflectors (row_at one.heard node) node (names_in gone)) one → two ≡ forgotten node peer now
    gone_and_decided is gone one two its left decided =
        decided
        ∙ ap (λ (r : ReflectNow). changed_edge node (decide_all r.topology r.reflectors (row_at r.heard node) node (names_in gone)) r) left
        ∙ ap (λ routes. changed_edge node (decide_all now.topology now.reflectors (row_at (set_at node peer [] now.heard) node) node (names_in routes))
        (with_row node peer [] now)) its
        ∙ edge_turned node gone_keys now (with_row node peer [] now) is

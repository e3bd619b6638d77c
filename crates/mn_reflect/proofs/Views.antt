-- What is kept, as the code looks at one of its tables, and with another value in it.
use Rattle.std.proofs.Common.{[], ℕ, ◌≡◌, ◌<◌, ◌≤◌, List, map, length, arith, sym, ap, subst, ◌∙◌, Option, Vec, Global}
use Rattle.std.specs.Prelude.{slice_index_or}
use Rattle.std.specs.List.{AllByRecursion}
use Rattle.std.specs.BTreeMap.{BTreeMap}
use Rattle.mn_base.specs.declared.numbers.NodeNo.{NodeNo}
use Rattle.mn_base.specs.declared.numbers.VrfNo.{VrfNo}
use Rattle.mn_topo.specs.Network.{Network}
use Rattle.mn_bgp_session.specs.declared.session.BgpSession.{BgpSession}
use Rattle.mn_offers.specs.Heard.{Heard}
use Rattle.mn_edges.specs.Peers.{peers_from}
use Rattle.mn_reflect_world_laws.specs.Now.{ReflectNow}
use Rattle.mn_reflect_world_laws.specs.Goes.{set_at}
use Rattle.mn_reflect_telling.specs.Mentions.{AreKept, AreNodes, numbers_of}
use Rattle.mn_reflect_telling.specs.Passing.{IsPassable}
use Rattle.mn_reflect.specs.Shape.{IsShaped, IsWhole}
use Rattle.mn_reflect.specs.Doing.{MayTurn}
use Rattle.mn_reflect.proofs.Rows.{items_of, IsCell, its_row, its_cell}
use Rattle.mn_reflect.proofs.Shapes.{end_shape, row_shape}
use Rattle.mn_reflect.proofs.Turns.{nodes_are, peers_are}

-- 1. The two tables

abbrev pub sessions_of : ReflectNow → List (List (Option BgpSession))
sessions_of now = now.sessions

abbrev pub with_sessions : ReflectNow → List (List (Option BgpSession)) → ReflectNow
with_sessions now sessions = record now { sessions = sessions }

abbrev pub heard_of : ReflectNow → List (List (List Heard))
heard_of now = now.heard

abbrev pub with_heard : ReflectNow → List (List (List Heard)) → ReflectNow
with_heard now heard = record now { heard = heard }

-- a row of each, and a cell

pub ends_row : {was now : ReflectNow} → was ≡ now → IsShaped was → (rows : List (Vec (Option BgpSession) Global)) → map items_of rows ≡ was.sessions →
    {node i : ℕ} → i ≡ node → node < length now.topology.loopbacks → {row : Vec (Option BgpSession) Global} → row ≡ slice_index_or rows i row →
    row.items ≡ slice_index_or now.sessions node []
ends_row same shape rows are from below value = its_row sessions_of _ _ same shape.sessions shape.ends rows are _ _ from below _ value

pub heard_row : {was now : ReflectNow} → was ≡ now → IsShaped was → (rows : List (Vec (List Heard) Global)) → map items_of rows ≡ was.heard →
    {node i : ℕ} → i ≡ node → node < length now.topology.loopbacks → {row : Vec (List Heard) Global} → row ≡ slice_index_or rows i row →
    row.items ≡ slice_index_or now.heard node []
heard_row same shape rows are from below value = its_row heard_of _ _ same shape.heard shape.peers rows are _ _ from below _ value

pub end_cell : {was now : ReflectNow} → was ≡ now → IsShaped was → (rows : List (Vec (Option BgpSession) Global)) → map items_of rows ≡ was.sessions →
    {node peer i j : ℕ} → i ≡ node → node < length now.topology.loopbacks → {row : Vec (Option BgpSession) Global} → row ≡ slice_index_or rows i row →
    j ≡ peer → peer < length now.topology.loopbacks → IsCell sessions_of was now rows node peer i j row
end_cell same shape rows are from below value to within =
    its_cell sessions_of _ _ same shape.sessions shape.ends rows are _ _ from below _ value _ _ to within

pub heard_cell : {was now : ReflectNow} → was ≡ now → IsShaped was → (rows : List (Vec (List Heard) Global)) → map items_of rows ≡ was.heard →
    {node peer i j : ℕ} → i ≡ node → node < length now.topology.loopbacks → {row : Vec (List Heard) Global} → row ≡ slice_index_or rows i row →
    j ≡ peer → peer < length now.topology.loopbacks → IsCell heard_of was now rows node peer i j row
heard_cell same shape rows are from below value to within =
    its_cell heard_of _ _ same shape.heard shape.peers rows are _ _ from below _ value _ _ to within

-- 2. It stays whole with another value

module _ (vrfs : BTreeMap ℕ VrfNo) (now : ReflectNow) (h : IsWhole vrfs now) (node peer : ℕ) where
  pub ends_whole : (end : Option BgpSession) (sessions : List (List (Option BgpSession))) → sessions ≡ set_at node peer end now.sessions →
      IsWhole vrfs (with_sessions now sessions)
  ends_whole end sessions is =
      subst (λ xs. IsWhole vrfs (with_sessions now xs)) (sym is) (record { shape = end_shape now h.shape node peer end; finds = h.finds })

  pub rows_whole : (routes : List Heard) (heard : List (List (List Heard))) → heard ≡ set_at node peer routes now.heard → IsWhole vrfs (with_heard now heard)
  rows_whole routes heard is =
      subst (λ xs. IsWhole vrfs (with_heard now xs)) (sym is) (record { shape = row_shape now h.shape node peer routes; finds = h.finds })

-- 3. What a teller needs

module _ {was now : ReflectNow} (same : was ≡ now) (shape : IsShaped was) (node : ℕ) (below : node < length now.topology.loopbacks) where
  pub few_ends : (ends : List (Option BgpSession)) → ends ≡ slice_index_or now.sessions node [] → length was.topology.loopbacks ≤ 256 → length ends ≤ 65536
  few_ends ends is few =
      let many = ap length is ∙ (subst IsShaped same shape).ends node below ∙ ap (λ (x : ReflectNow). length x.topology.loopbacks) (sym same) in
      omega (arith, many, few)

  pub peers_there : (ends : List (Option BgpSession)) → ends ≡ slice_index_or now.sessions node [] → AreNodes now.topology (peers_from 0 ends)
  peers_there ends is =
      let many = ap length is ∙ (subst IsShaped same shape).ends node below in
      peers_are now.topology 0 ends (omega (arith, many))

  -- what it received can be passed on
  pub kept_there : MayTurn now node → (t : Network) → t ≡ now.topology → (heard : List (List Heard)) → heard ≡ slice_index_or now.heard node [] →
      AreKept t heard
  kept_there may t t_is heard is =
      subst (λ n. AreKept n heard) (sym t_is) (record {
        nodes = ap length is ∙ (subst IsShaped same shape).peers node below;
        each = subst (AllByRecursion (λ routes. AllByRecursion (IsPassable now.topology) routes)) (sym is) may.rows;
      })

-- the reflectors are nodes
pub reflectors_there : {was now : ReflectNow} → was ≡ now → IsShaped was → (t : Network) → t ≡ now.topology → (nodes : List NodeNo) →
    numbers_of nodes ≡ now.reflectors → AreNodes t nodes
reflectors_there {now = now} same shape t t_is nodes are =
    nodes_are t nodes (subst (λ rs. AllByRecursion (λ reflector. reflector < length t.loopbacks) rs) (sym are)
    (subst (λ (n : Network). AllByRecursion (λ reflector. reflector < length n.loopbacks) now.reflectors) (sym t_is) (subst IsShaped same shape).reflectors))

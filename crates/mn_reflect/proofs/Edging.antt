-- One edge changes, and tells its peers.
use Rattle.std.proofs.Common.{[], ℕ, ◌≡◌, ◌<◌, ◌+◌, Bool, true, false, List, ◌∷◌, ◌++◌, length, take, drop, sym, ap, ◌∙◌, subst, Option}
use Rattle.std.specs.Prelude.{slice_index_or, slice_set}
use Rattle.std.proofs.Math.Seq.{take-append_seam}
use Rattle.mn_base.specs.declared.numbers.NodeNo.{NodeNo}
use Rattle.mn_topo.specs.Network.{Network}
use Rattle.mn_ledger.specs.Places.{edge_of, home_of}
use Rattle.mn_pe.specs.Edge.{Edge}
use Rattle.mn_pe.specs.Held.{Exported}
use Rattle.mn_pe.specs.Pe.{PeNow}
use Rattle.mn_edges.specs.Changes.{edge_of_node, IsThere, edge_set, AreNews}
use Rattle.mn_edges.specs.Said.{AreSayable}
use Rattle.mn_reflect_world_laws.specs.Now.{ReflectNow}
use Rattle.mn_reflect_world_laws.specs.Letters.{edge_news}
use Rattle.mn_reflect_world_laws.specs.Goes.{steady_of, either_news}
use Rattle.mn_reflect.specs.Shape.{IsShaped}
use Rattle.mn_reflect.specs.Doing.{IsEdgeAt, changed_edge, with_letters}
use Rattle.mn_reflect.specs.Changing.{told_peers}
use Rattle.mn_reflect_telling.proofs.Posting.{any_default}

-- 1. The edge of a site, and the one of a VRF

pub home_so : {was now : ReflectNow} → was ≡ now → (site : ℕ) {k : ℕ} → k ≡ home_of was.topology site → k ≡ home_of now.topology site
home_so same site at = at ∙ ap (λ (x : ReflectNow). home_of x.topology site) same

pub edge_so : {was now : ReflectNow} → was ≡ now → (v : ℕ) {k : ℕ} → k ≡ edge_of was.topology v → k ≡ edge_of now.topology v
edge_so same v at = at ∙ ap (λ (x : ReflectNow). edge_of x.topology v) same

-- 2. The edges, as the code has them

module _ (was now : ReflectNow) (same : was ≡ now) (given : List (Option PeNow)) (from : given ≡ was.edges) where
  pub edges_so : given ≡ now.edges
  edges_so = from ∙ ap (λ (x : ReflectNow). x.edges) same

  pub there_so : {e home : ℕ} → e ≡ home → IsEdgeAt now home → IsThere given e
  there_so {e = e} at there = subst (λ xs. IsThere xs e) (sym edges_so) (subst (λ k. IsThere now.edges k) (sym at) there)

  pub edge_turned : {after : List (Option PeNow)} (edges : List (Option PeNow)) (e : ℕ) (change : Edge → Edge) → after ≡ edges →
      edges ≡ edge_set e (change (edge_of_node given e)) given → (let x : ReflectNow = record was { edges = after } in x) ≡ changed_edge e change now
  edge_turned edges e change written set =
      ap (λ es. let x : ReflectNow = record was { edges = es } in x) (written ∙ set ∙ ap (λ xs. edge_set e (change (edge_of_node xs e)) xs) from)
      ∙ ap (changed_edge e change) same

-- as they are after a call that had all of them lent
pub all_written : (len : ℕ) (new old : List (Option PeNow)) → length new ≡ len → take len (new ++ drop (length new) old) ≡ new
all_written len new old h = ap (λ n. take n (new ++ drop (length new) old)) (sym h) ∙ take-append_seam new (drop (length new) old)

-- how many attachments its sites have had
pub count_is : (was now : ReflectNow) → was ≡ now → IsShaped was → (k node count : ℕ) → count ≡ slice_index_or was.attachments k count → k ≡ node →
    node < length was.topology.loopbacks → count ≡ slice_index_or now.attachments node 0
count_is was now same shape k node count is at below =
    is
    ∙ any_default was.attachments k count 0 (subst (λ n. n < length was.attachments) (sym at) (subst (λ n. node < n) (sym shape.attachments) below))
    ∙ ap (λ n. slice_index_or was.attachments n 0) at ∙ ap (λ (x : ReflectNow). slice_index_or x.attachments node 0) same

-- one more
pub counted_on : (now one : ReflectNow) (e k count : ℕ) (change : ℕ → Edge → Edge) → one ≡ changed_edge e (change count) now → k ≡ e →
    count ≡ slice_index_or now.attachments e 0 → (let x : ReflectNow = record one { attachments = slice_set one.attachments k (count + 1) } in x)
    ≡ (let x : ReflectNow = record (changed_edge e (change (slice_index_or now.attachments e 0)) now) {
      attachments = slice_set now.attachments e (slice_index_or now.attachments e 0 + 1);
    } in x)
counted_on now one e k count change is at so =
    ap (λ (y : ReflectNow). let x : ReflectNow = record y { attachments = slice_set y.attachments k (count + 1) } in x) is
    ∙ ap (λ n. let x : ReflectNow = record (changed_edge e (change count) now) { attachments = slice_set now.attachments n (count + 1) } in x) at
    ∙ ap (λ n. let x : ReflectNow = record (changed_edge e (change n) now) { attachments = slice_set now.attachments e (n + 1) } in x) so

-- 3. What it tells

news_are : (t : Network) (node : ℕ) (peers : List NodeNo) (comes : Bool) (exports come went : List Exported) → AreNews comes exports come went →
    edge_news t node peers comes exports ≡ either_news t node peers come went
news_are t node peers comes exports [] went h = ap (λ b. edge_news t node peers b exports) h.0 ∙ ap (edge_news t node peers false) h.1
news_are t node peers comes exports (export ∷ come) went h = ap (λ b. edge_news t node peers b exports) h.0 ∙ ap (edge_news t node peers true) h.1

-- what it tells can be sent
pub either_sayable : (comes : Bool) (exports come went : List Exported) → AreNews comes exports come went → AreSayable come → AreSayable went →
    AreSayable exports
either_sayable comes exports [] went h came gone = subst AreSayable (sym h.1) gone
either_sayable comes exports (export ∷ come) went h came gone = subst AreSayable (sym h.1) came

-- with the edge's number as the code has it
module _ (one last : ReflectNow) (e home : ℕ) (at : e ≡ home) (exports : List Exported) (comes : Bool) (told : last ≡ told_peers e comes exports one) where
  pub told_so : (mid : ℕ → ReflectNow) (says : ℕ → List Exported) → one ≡ mid e → exports ≡ says e → last ≡ told_peers home comes (says home) (mid home)
  told_so mid says one_is says_is =
      told ∙ ap (λ xs. told_peers e comes xs one) says_is ∙ ap (told_peers e comes (says e)) one_is ∙ ap (λ k. told_peers k comes (says k) (mid k)) at

  pub told_either : (mid : ℕ → ReflectNow) (come went : ℕ → List Exported) → one ≡ mid e → AreNews comes exports (come e) (went e) →
      last ≡ with_letters (either_news (mid home).topology home (steady_of (mid home).sessions home) (come home) (went home)) (mid home)
  told_either mid come went one_is are =
      told ∙ ap (told_peers e comes exports) one_is
      ∙ ap (λ letters. with_letters letters (mid e)) (news_are (mid e).topology e (steady_of (mid e).sessions e) comes exports (come e) (went e) are)
      ∙ ap (λ k. with_letters (either_news (mid k).topology k (steady_of (mid k).sessions k) (come k) (went k)) (mid k)) at

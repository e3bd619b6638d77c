-- What a network that works tells of links and nodes.
use Rattle.std.proofs.Common.{ℕ, ◌≡◌, ◌<◌, Bool, true, false, List, [], ◌∷◌, length, map, refl, sym, ap, ◌∙◌, subst, Option, Some, None}
use Rattle.std.specs.Prelude.{◌&&◌, ◌||◌, ◌==◌, ◌%◌, if◌then◌else◌, slice_index, option_map}
use Rattle.mn_base.proofs.Bools.{no, same_test}
use Rattle.mn_wiring.specs.Wiring.{links_of, link, sender, is_end, across}
use Rattle.mn_wiring.specs.declared.links.Dir.{Dir}
use Rattle.mn_wiring.specs.declared.links.Dir.TheVariants.{Forth, Back}
use Rattle.mn_base.specs.declared.numbers.NodeNo.{NodeNo}
use Rattle.mn_linkdb.specs.Changes.{is_odd, is_link_up}
use Rattle.mn_linkdb.specs.PathTable.{PathTable}
use Rattle.mn_linkdb.specs.Trees.{IsTree}
use Rattle.mn_topo.specs.Network.{Network, wiring_of}
use Rattle.mn_topo.specs.Lawful.{IsLawful}
use Rattle.mn_topo.specs.declared.steps.JournalEntry.{JournalEntry}
use Rattle.mn_ledger.specs.Lawful.{IsLawfulJournal}
use Rattle.mn_ledger.specs.World.{World}
use Rattle.mn_ledger.specs.Ledger.{world_of}
use Rattle.mn_ledger.specs.Transport.{view_of}
use Rattle.mn_ledger_laws.proofs.Holding.{length_range}
use Rattle.mn_frame_laws.specs.Given.{Labelling}
use Rattle.mn_frame_laws.specs.Entries.{outer_over}
use Rattle.mn_lsr.specs.Standing.{Standing, state_in}
use Rattle.mn_node.specs.Node.{Session, Node, session_at, view_in}
use Rattle.mn_slice_laws.specs.Slice.{node_at, session_of}
use Rattle.mn_reuse_laws.specs.Relabelled.{session_with}
use Rattle.mn_reuse_laws.proofs.Over.{changes_once_free}
use Rattle.mn_transport_laws.specs.Stands.{IsNode, own_of}
use Rattle.mn_transport_laws.proofs.Goings.{session-with}
use Rattle.mn_routing_laws.proofs.Tables.{map_numbers_at}
use Rattle.mn_net_laws.specs.Now.{NetNow, IsNet, WorksAsNet}
use Rattle.mn_net_laws.specs.Told.{state_at, ChangedOnceFree}

-- 1. As a call's proof has it: the network by its fields

pub net_is : (view now : NetNow) → view ≡ now → WorksAsNet view → now.failed ≡ false → IsNet view
net_is view now same holds works = holds (ap (λ (n : NetNow). n.failed) same ∙ works)

pub node_in : (view now : NetNow) → view ≡ now → IsNet view → (node : ℕ) → node < length now.topology.loopbacks → node < length view.transport.nodes
node_in view now same is node below =
    subst (λ n. node < n) (sym is.stands.transport.each) (subst (λ (n : NetNow). node < length n.topology.loopbacks) (sym same) below)

pub changed_once_free : (net : NetNow) → IsNet net → IsLawful net.topology → (node : ℕ) → node < length net.topology.loopbacks →
    ChangedOnceFree net.topology net.journal node
changed_once_free net is lawful node below entries entry same =
    changes_once_free net.topology entries is.inputs entry node below lawful
    (subst (λ (journal : List JournalEntry). IsLawfulJournal net.topology journal is.inputs) same is.stands.stands.lawful)

pub link_in : (view now : NetNow) → view ≡ now → IsNet view → (l : ℕ) → l < length now.topology.links → l < length view.transport.changes
link_in view now same is l below =
    subst (λ n. l < n)
    (sym (ap length is.stands.transport.changes ∙ length_range (world_of view.topology view.journal).views.changes 0 (length view.topology.links)))
    (subst (λ (n : NetNow). l < length n.topology.links) (sym same) below)

pub link_of : (view now : NetNow) → view ≡ now → (l : ℕ) → l < length now.topology.links → l < length view.topology.links
link_of view now same l below = subst (λ (n : NetNow). l < length n.topology.links) (sym same) below

-- 2. Links

pub changes_told : (net : NetNow) → IsNet net → (l : ℕ) → l < length net.topology.links →
    slice_index net.transport.changes l ≡ (world_of net.topology net.journal).views.changes l
changes_told net is l there =
    ap (λ changes. slice_index changes l) is.stands.transport.changes
    ∙ map_numbers_at (world_of net.topology net.journal).views.changes (length net.topology.links) l 0 there

pub up_told : (net : NetNow) → IsNet net →
    (l : ℕ) → l < length net.topology.links → is_link_up net.transport.changes l ≡ (world_of net.topology net.journal).config.is_up l
up_told net is l there = ap is_odd (changes_told net is l there) ∙ is.stands.transport.up l there

-- 3. Nodes

odd_twice : (f : ℕ → ℕ) (xs : List ℕ) → map (λ count. count % 2 == 1) (map f xs) ≡ map (λ l. f l % 2 == 1) xs
odd_twice f [] = refl
odd_twice f (x ∷ xs) = ap (λ rest. (f x % 2 == 1) ∷ rest) (odd_twice f xs)

pub view_told : (t : Network) (w : World) (node : ℕ) → view_in (node_at t w node) ≡ view_of (wiring_of t) w.views node
view_told t w node = odd_twice (w.views.learned node) (links_of (wiring_of t))

pub tree_told : (t : Network) (g : Labelling) (rested : ℕ → ℕ → ℕ) (w : World) (node : ℕ) (standing : Standing) (tree : PathTable) →
    IsNode t g rested w node standing →
    (standing.failed ≡ false → IsTree standing.wiring (view_in standing.node) standing.node.me tree) →
    IsTree (wiring_of t) (view_of (wiring_of t) w.views node) node tree
tree_told t g rested w node standing tree h is =
    subst (λ v. IsTree (wiring_of t) v node tree) (view_told t w node)
    (subst (λ (n : Node). IsTree (wiring_of t) (view_in n) n.me tree) h.node_is
    (subst (λ wiring. IsTree wiring (view_in standing.node) standing.node.me tree) h.wiring (is h.works)))

pub hop_of : (g : Labelling) (edge : ℕ) (o : Option (ℕ × ℕ)) →
    option_map (λ (h : NodeNo × Option ℕ). h.0) (outer_over g edge o) ≡ option_map (λ (h : ℕ × ℕ). record { 0 = h.0 }) o
hop_of g edge None = refl
hop_of g edge (Some h) = refl

either : (x y : Bool) → y ≡ true → (x || y) ≡ true
either true y h = refl
either false y h = h

ends_so : (t : Network) (l : ℕ) (d : Dir) → is_end (wiring_of t) l (sender (wiring_of t) l d) ≡ true
ends_so t l Forth =
    ap (λ b. b || ((link (wiring_of t) l).b.0 == (link (wiring_of t) l).a.0)) (same_test (link (wiring_of t) l).a.0)
ends_so t l Back =
    either ((link (wiring_of t) l).a.0 == (link (wiring_of t) l).b.0) ((link (wiring_of t) l).b.0 == (link (wiring_of t) l).b.0)
    (same_test (link (wiring_of t) l).b.0)

state_by : (alive end : Bool) (session : Session) → end ≡ true →
    state_in (if alive && end then Some session else None) ≡ (if alive then Some session.state else None)
state_by true true session h = refl
state_by true false session h = absurd (no h)
state_by false end session h = refl

-- by whatever labels
state_with : (labels : ℕ → ℕ) (o : Option Session) → state_in (option_map (session_with labels) o) ≡ state_in o
state_with labels None = refl
state_with labels (Some session) = refl

pub state_told : (t : Network) (g : Labelling) (rested : ℕ → ℕ → ℕ) (w : World) (l end : ℕ) (d : Dir) (standing : Standing) →
    IsNode t g rested w end standing → end ≡ sender (wiring_of t) l d → l < length t.links →
    state_in (session_at standing.node l) ≡ state_at t w l (sender (wiring_of t) l d)
state_told t g rested w l end d standing h its there =
    ap (λ (n : Node). state_in (session_at n l)) h.node_is
    ∙ ap state_in (session-with (wiring_of t) (own_of g) (node_at t w end) l)
    ∙ state_with (own_of g (across (wiring_of t) l end)) (session_at (node_at t w end) l)
    ∙ ap (λ m. state_in (session_at (node_at t w m) l)) its
    ∙ ap state_in (map_numbers_at (session_of t w.config w.sessions (sender (wiring_of t) l d)) (length t.links) l None there)
    ∙ state_by _ _ _ (ends_so t l d)

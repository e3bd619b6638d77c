-- What the packets in transit stand for after a whole step.
use Rattle.std.proofs.Common.{ℕ, ◌≡◌, ◌<◌, ◌∷◌, [], List, length, refl, arith, sym, ◌∙◌, ap, subst, Some, None, zero, suc, true, false, eq-eqb}
use Rattle.std.specs.Prelude.{◌==◌, slice_get, slice_set}
use Rattle.mn_base.proofs.Bools.{no, none_below}
use Rattle.mn_drops.specs.declared.drops.Rule.TheVariants as rule
use Rattle.mn_wiring.specs.declared.links.Dir.{Dir}
use Rattle.mn_wiring.specs.declared.links.Dir.TheVariants.{Forth, Back}
use Rattle.mn_base.specs.declared.numbers.LinkNo.{LinkNo}
use Rattle.mn_base.specs.declared.numbers.NodeNo.{NodeNo}
use Rattle.mn_wiring.specs.Wiring.{receiver, sender}
use Rattle.mn_flight.specs.declared.Item.{Item}
use Rattle.mn_flight.specs.Flying.{IsFlight, on_channel, off_channel, without}
use Rattle.mn_flight_pool.proofs.Dropped.{off_without, off_all}
use Rattle.mn_lfib.specs.declared.answer.Use.{Use}
use Rattle.mn_topo.specs.Network.{Network, wiring_of}
use Rattle.mn_topo.specs.declared.steps.Step.{Step as StepOf}
use Rattle.mn_topo.specs.declared.steps.Step.TheVariants as Step
use Rattle.mn_ledger.specs.declared.verdict.Verdict.{Verdict}
use Rattle.mn_ledger.specs.declared.verdict.Verdict.TheVariants.{Dropped}
use Rattle.mn_ledger.specs.Parts.{is_moving}
use Rattle.mn_ledger.specs.Tables.{put}
use Rattle.mn_ledger.specs.World.{World}
use Rattle.mn_ledger.specs.Packets.{Token, Packets, channel, flying_on, without_place, taken, visited, arrive, carry, lose, drop_at, cut, cut_each}
use Rattle.mn_ledger.specs.Packets.{before_step, packets_after}
use Rattle.mn_frame_laws.specs.Given.{Labelling}
use Rattle.mn_frame_laws.specs.Tables.{AreMapped, TableStands}
use Rattle.mn_transit.specs.declared.flown.Flown.{Flown}
use Rattle.mn_paths.specs.Visits.{path_of, further}
use Rattle.mn_transit.specs.Moving.{Moving}
use Rattle.mn_transit.specs.Stands.{IsFlown, AreFlown, StandsFor}
use Rattle.mn_transit.proofs.Standing.{flown_at, stands_begun, stands_taken, stands_visited, stands_judged}

-- a frame was taken out of flight
pub record Takes (before after : Moving) (at place : ℕ) (item : Item Flown) : Type 0 where
  pub found : Some item ≡ slice_get (on_channel at before.flying) place
  pub left : after ≡ record before { flying = without (Some item) before.flying; spare = after.spare }
  pub flight : IsFlight before.channels before.flying

-- the ledger's packet whose frame it is
pub record Took (t : Network) (g : Labelling) (k : Packets) (l : ℕ) (dir : Dir) (place : ℕ) (item : Item Flown) (after : Moving) : Type 0 where
  pub token : Token
  pub there : slice_get (flying_on k l dir) place ≡ Some token
  pub flies : IsFlown t g (receiver (wiring_of t) l dir) item.item token
  pub stands : StandsFor t g after (taken k l dir place)

pub took : (t : Network) (g : Labelling) (before after : Moving) (k : Packets) (at place l : ℕ) (dir : Dir) (item : Item Flown) → at ≡ channel l dir →
    Takes before after at place item → StandsFor t g before k → Took t g k l dir place item after
took t g before after k at place l dir item e takes stands =
    let found : slice_get (on_channel (channel l dir) before.flying) place ≡ Some item =
    subst (λ c. slice_get (on_channel c before.flying) place ≡ Some item) e (sym takes.found) in
    let token = flown_at t g (receiver (wiring_of t) l dir) _ _ place item (stands.frames l dir) found in
    record {
      token = token.0;
      there = token.1;
      flies = token.2;
      stands = subst (λ n. StandsFor t g n (taken k l dir place)) (sym takes.left)
          (stands_taken t g before k l dir place after.spare item takes.flight stands found);
    }

-- no frame is at a place that isn't below their number
pub none_there : (xs : List (Item Flown)) (place : ℕ) → place < length xs → None ≡ slice_get xs place → ⊥
none_there [] place h e = none_below place h
none_there (x ∷ xs) zero h e = cc
none_there (x ∷ xs) (suc place) h e = none_there xs place (omega (arith, h)) e

-- the packet is judged at a node
pub ends : (t : Network) (g : Labelling) (m new : Moving) (k : Packets) (packet number node : ℕ) (at : NodeNo) (cause : rule.the_data) → number ≡ packet →
    at.0 ≡ node → new ≡ record m { verdicts = slice_set m.verdicts number (Dropped cause at) } → StandsFor t g m k →
    StandsFor t g new (drop_at k packet cause node)
ends t g m new k packet number node at cause e f is stands =
    subst (λ n. StandsFor t g n (drop_at k packet cause node)) (sym is)
    (subst (λ n. StandsFor t g (record m { verdicts = slice_set m.verdicts n (Dropped cause at) }) (drop_at k packet cause node)) (sym e)
    (subst (λ n. StandsFor t g (record m { verdicts = slice_set m.verdicts packet (Dropped cause at) }) (drop_at k packet cause n)) f
    (stands_judged t g m k packet (Dropped cause at) stands)))

-- a step that moves no packet begins, and that is all
quiet : (t : Network) (w : World) (k : Packets) (s : StepOf) (bytes : List ℕ) → is_moving s ≡ false → before_step k ≡ packets_after t w k s bytes
unfolding packets_after
quiet t w k (Step.LinkDown l) bytes h = absurd (no (sym h))
quiet t w k (Step.Inject s n) bytes h = absurd (no (sym h))
quiet t w k (Step.Carry l d n) bytes h = absurd (no (sym h))
quiet t w k (Step.Lose l d n) bytes h = absurd (no (sym h))
quiet t w k _ bytes h = refl

pub stands_quiet : (t : Network) (g : Labelling) (w : World) (m new : Moving) (k : Packets) (s : StepOf) (bytes : List ℕ) →
    new ≡ record m { delivered = None } → is_moving s ≡ false →
    StandsFor t g m k → StandsFor t g new (packets_after t w k s bytes)
stands_quiet t g w m new k s bytes begins h stands = subst (λ p. StandsFor t g new p) (quiet t w k s bytes h) (stands_begun t g m new k begins stands)

-- 1. Carry

pub stands_carried : (t : Network) (g : Labelling) (w : World) (m begun left there new : Moving) (k : Packets) (at place : ℕ) (link : LinkNo) (dir : Dir)
    (node : NodeNo) (item : Item Flown) (uses : List (ℕ × Use)) (bytes : List ℕ) →
    begun ≡ record m { delivered = None } → at ≡ channel link.0 dir → node.0 ≡ receiver (wiring_of t) link.0 dir → Takes begun left at place item →
    there ≡ record left { paths = slice_set left.paths item.item.packet (further (path_of left.paths item.item.packet) node) } →
    ((g : Labelling) (w : World) (k : Packets) (token : Token) → AreMapped t g w → TableStands t g w node.0 uses → StandsFor t g there k →
    IsFlown t g node.0 item.item token → StandsFor t g new (arrive t w k token node.0)) →
    AreMapped t g w → TableStands t g w (receiver (wiring_of t) link.0 dir) uses → StandsFor t g m k →
    StandsFor t g new (packets_after t w k (Step.Carry link dir place) bytes)
unfolding packets_after
stands_carried t g w m begun left there new k at place link dir node item uses bytes begins e f takes visits goes mapped table stands =
    let first : StandsFor t g begun (before_step k) = stands_begun t g m begun k begins stands in
    let done = took t g begun left (before_step k) at place link.0 dir item e takes first in
    let came : StandsFor t g there (visited (taken (before_step k) link.0 dir place) done.token.packet node.0) =
    subst (λ n. StandsFor t g there (visited (taken (before_step k) link.0 dir place) n node.0)) done.flies.packet
    (subst (λ n. StandsFor t g n (visited (taken (before_step k) link.0 dir place) item.item.packet node.0)) (sym visits)
    (stands_visited t g left _ item.item.packet node done.stands)) in
    let gone : StandsFor t g new (carry t w (taken (before_step k) link.0 dir place) node.0 (Some done.token)) =
    goes g w _ done.token mapped (subst (λ n. TableStands t g w n uses) (sym f) table) came
    (subst (λ n. IsFlown t g n item.item done.token) (sym f) done.flies) in
    subst (λ n. StandsFor t g new (carry t w (taken (before_step k) link.0 dir place) n (slice_get (flying_on (before_step k) link.0 dir) place))) f
    (subst (λ found. StandsFor t g new (carry t w (taken (before_step k) link.0 dir place) node.0 found)) (sym done.there) gone)

-- 2. Lose

pub stands_lost : (t : Network) (g : Labelling) (w : World) (m begun left new : Moving) (k : Packets) (at place : ℕ) (link : LinkNo) (dir : Dir)
    (node : NodeNo) (item : Item Flown) (bytes : List ℕ) →
    begun ≡ record m { delivered = None } → at ≡ channel link.0 dir → node.0 ≡ sender (wiring_of t) link.0 dir → Takes begun left at place item →
    new ≡ record left { verdicts = slice_set left.verdicts item.item.packet (Dropped rule.Lost node) } →
    StandsFor t g m k → StandsFor t g new (packets_after t w k (Step.Lose link dir place) bytes)
unfolding packets_after
stands_lost t g w m begun left new k at place link dir node item bytes begins e f takes judges stands =
    let first : StandsFor t g begun (before_step k) = stands_begun t g m begun k begins stands in
    let done = took t g begun left (before_step k) at place link.0 dir item e takes first in
    subst (λ found. StandsFor t g new (lose (taken (before_step k) link.0 dir place) (sender (wiring_of t) link.0 dir) found)) (sym done.there)
    (ends t g left new (taken (before_step k) link.0 dir place) done.token.packet item.item.packet
    (sender (wiring_of t) link.0 dir) node rule.Lost done.flies.packet f judges done.stands)

-- 3. A link that goes down

cut_first : (k : Packets) (at node : ℕ) (tokens : List Token) (token : Token) → slice_get tokens 0 ≡ Some token →
    cut_each (drop_at (record k { flying = put k.flying at (without_place 0 tokens) }) token.packet rule.LinkCut node) at node
    (without_place 0 tokens) ≡ cut_each k at node tokens
cut_first k at node [] token h = absurd (let none : None ≡ Some token → ⊥ = (λ e. cc) in none h)
cut_first k at node (x ∷ xs) token h =
    let same : x ≡ token = cc in
    ap (λ (y : Token). cut_each (drop_at (record k { flying = put k.flying at xs }) y.packet rule.LinkCut node) at node xs) (sym same)

-- what is left on the channel
pub put_here : {A : Type 0} (f : ℕ → A) (at : ℕ) (x : A) → put f at x at ≡ x
put_here f at x = let same : (at == at) ≡ true = eq-eqb at at refl in rw same refl

-- to cut what is left once the first is cut is to cut all
abbrev pub CutsTo : Network → Labelling → Moving → Packets → ℕ → Dir → Type 0
CutsTo t g new k l dir = (next : Packets) × StandsFor t g new next × (cut t next l dir ≡ cut t k l dir)

pub cuts_first : (t : Network) (g : Labelling) (before left new : Moving) (k : Packets) (at : ℕ) (link : LinkNo) (dir : Dir) (node : NodeNo)
    (item : Item Flown) →
    at ≡ channel link.0 dir → node.0 ≡ sender (wiring_of t) link.0 dir → Takes before left at 0 item →
    new ≡ record left { verdicts = slice_set left.verdicts item.item.packet (Dropped rule.LinkCut node) } →
    StandsFor t g before k → CutsTo t g new k link.0 dir
cuts_first t g before left new k at link dir node item e f takes judges stands =
    let done = took t g before left k at 0 link.0 dir item e takes stands in
    let next : Packets = drop_at (taken k link.0 dir 0) done.token.packet rule.LinkCut (sender (wiring_of t) link.0 dir) in (
      next,
      ends t g left new (taken k link.0 dir 0) done.token.packet item.item.packet
          (sender (wiring_of t) link.0 dir) node rule.LinkCut done.flies.packet f judges done.stands,
      ap (cut_each next (channel link.0 dir) (sender (wiring_of t) link.0 dir))
          (put_here k.flying (channel link.0 dir) (without_place 0 (flying_on k link.0 dir)))
          ∙ cut_first k (channel link.0 dir) (sender (wiring_of t) link.0 dir) (flying_on k link.0 dir) done.token done.there,
    )

empty : (items : List (Item Flown)) → None ≡ slice_get items 0 → items ≡ []
empty [] h = refl
empty (x ∷ xs) h = cc

none_flies : (t : Network) (g : Labelling) (to : ℕ) (items : List (Item Flown)) (tokens : List Token) → items ≡ [] → AreFlown t g to items tokens → tokens ≡ []
none_flies t g to [] [] e are = refl
none_flies t g to [] (k ∷ ks) e are = absurd are
none_flies t g to (x ∷ xs) ks e are = cc

-- where nothing flies there is nothing to cut
pub cuts_none : (t : Network) (g : Labelling) (m : Moving) (k : Packets) (at l : ℕ) (dir : Dir) → at ≡ channel l dir →
    None ≡ slice_get (on_channel at m.flying) 0 → StandsFor t g m k → cut t k l dir ≡ k
cuts_none t g m k at l dir e h stands =
    let bare : on_channel (channel l dir) m.flying ≡ [] = empty _ (subst (λ c. None ≡ slice_get (on_channel c m.flying) 0) e h) in
    ap (cut_each k (channel l dir) (sender (wiring_of t) l dir)) (none_flies t g (receiver (wiring_of t) l dir) _ _ bare (stands.frames l dir))

-- and the flight keeps what is on other channels
pub off_first : (m left new : Moving) (at : ℕ) (item : Item Flown) (verdicts : List Verdict) → Takes m left at 0 item →
    new ≡ record left { verdicts = verdicts } →
    off_channel at new.flying ≡ off_channel at m.flying
off_first m left new at item verdicts takes judges =
    ap (λ (n : Moving). off_channel at n.flying) judges ∙ ap (λ (n : Moving). off_channel at n.flying) takes.left
    ∙ off_without m.channels at m.flying takes.flight (Some item) takes.found

pub off_none : (m left : Moving) (at : ℕ) → IsFlight m.channels m.flying → None ≡ slice_get (on_channel at m.flying) 0 →
    left ≡ record m { spare = left.spare } → left.flying ≡ off_channel at m.flying
off_none m left at flight bare still = ap (λ (n : Moving). n.flying) still ∙ sym (off_all m.channels at m.flying flight bare)

pub stands_down : (t : Network) (g : Labelling) (w : World) (m begun forth new : Moving) (k : Packets) (link : LinkNo) (bytes : List ℕ) →
    begun ≡ record m { delivered = None } →
    ((g : Labelling) (k : Packets) → StandsFor t g begun k → StandsFor t g forth (cut t k link.0 Forth)) →
    ((g : Labelling) (k : Packets) → StandsFor t g forth k → StandsFor t g new (cut t k link.0 Back)) →
    StandsFor t g m k → StandsFor t g new (packets_after t w k (Step.LinkDown link) bytes)
unfolding packets_after
stands_down t g w m begun forth new k link bytes begins one two stands = two g _ (one g _ (stands_begun t g m begun k begins stands))

-- nothing but the spare memory changed
pub stands_still : (t : Network) (g : Labelling) (m new : Moving) (k : Packets) (spare : ℕ) → new ≡ record m { spare = spare } → StandsFor t g m k →
    StandsFor t g new k
stands_still t g m new k spare is stands =
    subst (λ n. StandsFor t g n k) (sym is)
    (let still : StandsFor t g (record m { spare = spare }) k =
    record { verdicts = stands.verdicts; paths = stands.paths; copies = stands.copies; delivered = stands.delivered; frames = stands.frames } in still)

-- What the packets in transit stand for as they move.
use Rattle.std.proofs.Common.{ℕ, zero, suc, ◌≡◌, ◌≢◌, true, false, List, [], ◌∷◌, ◌++◌, map, refl, arith, sym, ◌∙◌, ap, subst, Some, None, eq-eqb, inl, inr}
use Rattle.std.specs.Prelude.{◌==◌, slice_get, slice_set, slice_index_or}
use Rattle.std.proofs.lemmas.Bool.Decides.{nat_tests, eqb_tells}
use Rattle.mn_wiring.specs.Wiring.{receiver}
use Rattle.mn_wiring.specs.declared.links.Dir.{Dir}
use Rattle.mn_base.specs.declared.numbers.NodeNo.{NodeNo}
use Rattle.mn_flight.specs.declared.Item.{Item}
use Rattle.mn_flight.specs.Flying.{IsFlight, on_channel, without}
use Rattle.mn_topo.specs.Network.{Network, wiring_of}
use Rattle.mn_ledger.specs.declared.verdict.Verdict.{Verdict}
use Rattle.mn_ledger.specs.declared.verdict.Verdict.TheVariants.{Flying}
use Rattle.mn_ledger.specs.Packets.{Token, Packets, channel, flying_on, judged, visited, without_place, taken, before_step}
use Rattle.mn_frame_laws.specs.Given.{Labelling}
use Rattle.mn_frame_laws.specs.Arrivals.{sent}
use Rattle.mn_transit.specs.declared.flown.Flown.{Flown}
use Rattle.mn_paths.specs.Visits.{Visits, path_of, further}
use Rattle.mn_transit.specs.Moving.{Moving}
use Rattle.mn_transit.specs.Stands.{IsFlown, AreFlown, StandsFor}
use Rattle.mn_flight.proofs.OnChannels.{without_at, left_on, left_off, one_more_on, one_more_off}
use Rattle.mn_ledger.proofs.Directions.{one_channel}

-- 1. Two lists in step

-- the frame at a place is that of the ledger's packet there
pub flown_at : (t : Network) (g : Labelling) (to : ℕ) (items : List (Item Flown)) (tokens : List Token) (n : ℕ) (item : Item Flown) →
    AreFlown t g to items tokens → slice_get items n ≡ Some item → (token : Token) × (slice_get tokens n ≡ Some token) × IsFlown t g to item.item token
flown_at t g to [] [] n item are h = absurd (let no : None ≡ Some item → ⊥ = (λ e. cc) in no h)
flown_at t g to [] (k ∷ ks) n item are h = absurd are
flown_at t g to (x ∷ xs) [] n item are h = absurd are
flown_at t g to (x ∷ xs) (k ∷ ks) zero item are h = (k, refl, subst (λ (i : Item Flown). IsFlown t g to i.item k) (let e : x ≡ item = cc in e) are.0)
flown_at t g to (x ∷ xs) (k ∷ ks) (suc n) item are h = flown_at t g to xs ks n item are.1 h

flown_without : (t : Network) (g : Labelling) (to : ℕ) (items : List (Item Flown)) (tokens : List Token) (n : ℕ) → AreFlown t g to items tokens →
    AreFlown t g to (without_at n items) (without_place n tokens)
flown_without t g to [] [] n are = are
flown_without t g to [] (k ∷ ks) n are = absurd are
flown_without t g to (x ∷ xs) [] n are = absurd are
flown_without t g to (x ∷ xs) (k ∷ ks) zero are = are.1
flown_without t g to (x ∷ xs) (k ∷ ks) (suc n) are = (are.0, flown_without t g to xs ks n are.1)

flown_more : (t : Network) (g : Labelling) (to : ℕ) (items : List (Item Flown)) (tokens : List Token) (item : Item Flown) (token : Token) →
    AreFlown t g to items tokens → IsFlown t g to item.item token → AreFlown t g to (items ++ item ∷ []) (tokens ++ token ∷ [])
flown_more t g to [] [] item token are is = (is, tt)
flown_more t g to [] (k ∷ ks) item token are is = absurd are
flown_more t g to (x ∷ xs) [] item token are is = absurd are
flown_more t g to (x ∷ xs) (k ∷ ks) item token are is = (are.0, flown_more t g to xs ks item token are.1 is)

-- 2. Each way of moving

-- nothing was delivered yet
pub stands_begun : (t : Network) (g : Labelling) (m new : Moving) (k : Packets) → new ≡ record m { delivered = None } → StandsFor t g m k →
    StandsFor t g new (before_step k)
stands_begun t g m new k is stands =
    subst (λ n. StandsFor t g n (before_step k)) (sym is)
    (let begun : StandsFor t g (record m { delivered = None }) (before_step k) =
    record { verdicts = stands.verdicts; paths = stands.paths; copies = stands.copies; delivered = refl; frames = stands.frames } in begun)

-- a frame is taken out of flight
pub stands_taken : (t : Network) (g : Labelling) (m : Moving) (k : Packets) (l : ℕ) (dir : Dir) (n spare : ℕ) (item : Item Flown) →
    IsFlight m.channels m.flying → StandsFor t g m k → slice_get (on_channel (channel l dir) m.flying) n ≡ Some item →
    StandsFor t g (record m { flying = without (Some item) m.flying; spare = spare }) (taken k l dir n)
stands_taken t g m k l dir n spare item flight stands h = record {
  verdicts = stands.verdicts;
  paths = stands.paths;
  copies = stands.copies;
  delivered = stands.delivered;
  frames = frames;
}
  where
    frames : (o : ℕ) (to : Dir) →
        AreFlown t g (receiver (wiring_of t) o to) (on_channel (channel o to) (without (Some item) m.flying)) (flying_on (taken k l dir n) o to)
    frames o to = elim (eqb_tells (channel o to) (channel l dir)) [
      | inl q ↦ (let one = one_channel o l to dir q.1 in
          rw (q.0, ap (λ c. on_channel c (without (Some item) m.flying)) q.1 ∙ left_on (channel l dir) m.flying n item flight.ascending h)
          (subst (λ d. AreFlown t g (receiver (wiring_of t) d to) (without_at n (on_channel (channel l dir) m.flying))
          (without_place n (flying_on k l dir))) (sym one.0)
          (subst (λ d. AreFlown t g (receiver (wiring_of t) l d) (without_at n (on_channel (channel l dir) m.flying)) (without_place n (flying_on k l dir)))
          (sym one.1)
          (flown_without t g (receiver (wiring_of t) l dir) _ _ n (stands.frames l dir)))))
      | inr q ↦ rw (q.0, left_off (channel l dir) (channel o to) m.flying n item flight.ascending h q.0) (stands.frames o to)
    ]

numbers_more : (path : List NodeNo) (node : NodeNo) → map (λ n. n.0) (path ++ node ∷ []) ≡ map (λ n. n.0) path ++ node.0 ∷ []
numbers_more [] node = refl
numbers_more (x ∷ xs) node = ap (λ l. x.0 ∷ l) (numbers_more xs node)

-- the paths as the ledger has them
abbrev pub numbers : List Visits → List (List ℕ)
numbers paths = map (λ path. map (λ n. n.0) path.nodes) paths

path_more : (paths : List Visits) (n : ℕ) (node : NodeNo) →
    numbers (slice_set paths n (further (path_of paths n) node)) ≡ slice_set (numbers paths) n (slice_index_or (numbers paths) n [] ++ node.0 ∷ [])
path_more [] n node = refl
path_more (p ∷ ps) zero node = ap (λ l. l ∷ numbers ps) (numbers_more p.nodes node)
path_more (p ∷ ps) (suc n) node = ap (λ l. map (λ n. n.0) p.nodes ∷ l) (path_more ps n node)

-- the packet is at one node more
pub stands_visited : (t : Network) (g : Labelling) (m : Moving) (k : Packets) (packet : ℕ) (node : NodeNo) → StandsFor t g m k →
    StandsFor t g (record m { paths = slice_set m.paths packet (further (path_of m.paths packet) node) }) (visited k packet node.0)
stands_visited t g m k packet node stands = record {
  verdicts = stands.verdicts;
  paths = path_more m.paths packet node ∙ ap (λ ps. slice_set ps packet (slice_index_or ps packet [] ++ node.0 ∷ [])) stands.paths;
  copies = stands.copies;
  delivered = stands.delivered;
  frames = stands.frames;
}

pub stands_judged : (t : Network) (g : Labelling) (m : Moving) (k : Packets) (packet : ℕ) (verdict : Verdict) → StandsFor t g m k →
    StandsFor t g (record m { verdicts = slice_set m.verdicts packet verdict }) (judged k packet verdict)
stands_judged t g m k packet verdict stands = record {
  verdicts = ap (λ vs. slice_set vs packet verdict) stands.verdicts;
  paths = stands.paths;
  copies = stands.copies;
  delivered = stands.delivered;
  frames = stands.frames;
}

-- a packet takes the last place of a direction
module _ (t : Network) (g : Labelling) (m : Moving) (k : Packets) (token : Token) (l : ℕ) (dir : Dir) (item : Item Flown) (at : item.channel ≡ channel l dir)
    (stands : StandsFor t g m k) (is : IsFlown t g (receiver (wiring_of t) l dir) item.item token) where
  there : (item.channel == channel l dir) ≡ true
  there = eq-eqb item.channel (channel l dir) at

  elsewhere : (o : ℕ) (to : Dir) → (channel o to ≢ channel l dir) → (item.channel == channel o to) ≡ false
  elsewhere o to apart = rw at (grind (arith, nat_tests, apart))

  last : (o : ℕ) (to : Dir) → (o ≡ l) × (to ≡ dir) →
      AreFlown t g (receiver (wiring_of t) o to) (on_channel (channel l dir) m.flying ++ item ∷ []) (flying_on k l dir ++ token ∷ [])
  last o to one =
      subst (λ n. AreFlown t g n (on_channel (channel l dir) m.flying ++ item ∷ []) (flying_on k l dir ++ token ∷ []))
      (ap (λ n. receiver (wiring_of t) n dir) (sym one.0) ∙ ap (receiver (wiring_of t) o) (sym one.1))
      (flown_more t g (receiver (wiring_of t) l dir) _ _ item token (stands.frames l dir) is)

  frames_sent : (o : ℕ) (to : Dir) →
      AreFlown t g (receiver (wiring_of t) o to) (on_channel (channel o to) (m.flying ++ item ∷ [])) (flying_on (sent k token l dir) o to)
  frames_sent o to = elim (eqb_tells (channel o to) (channel l dir)) [
    | inl q ↦ rw (q.0, ap (λ c. on_channel c (m.flying ++ item ∷ [])) q.1 ∙ one_more_on (channel l dir) m.flying item there)
        (last o to (one_channel o l to dir q.1))
    | inr q ↦ rw (q.0, one_more_off (channel o to) m.flying item (elsewhere o to q.1)) (stands.frames o to)
  ]

pub stands_sent : (t : Network) (g : Labelling) (m : Moving) (k : Packets) (token : Token) (l : ℕ) (dir : Dir) (spare due number : ℕ) (flown : Flown) →
    StandsFor t g m k → IsFlown t g (receiver (wiring_of t) l dir) flown token →
    StandsFor t g (record m {
      flying = m.flying ++ record { channel = channel l dir; due = due; number = number; item = flown } ∷ [];
      spare =
          spare;
      verdicts = slice_set m.verdicts token.packet (Flying (record { 0 = l }) dir);
    }) (sent k token l dir)
stands_sent t g m k token l dir spare due number flown stands is = record {
  verdicts = ap (λ vs. slice_set vs token.packet (Flying (record { 0 = l }) dir)) stands.verdicts;
  paths = stands.paths;
  copies = stands.copies;
  delivered = stands.delivered;
  frames = frames_sent t g m k token l dir (record { channel = channel l dir; due = due; number = number; item = flown }) refl stands is;
}

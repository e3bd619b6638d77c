-- Where nothing refuses a damage its session lives, so nothing refuses the step that ends it.
use Rattle.std.specs.Prelude.{ℕ, ◌≡◌, ◌≢◌, ◌<◌, ◌≤◌, ◌==◌, ◌&&◌, ◌||◌, Bool, true, false, not, nat_lt, nat_le, if◌then◌else◌, List, [], ◌∷◌, refl, Option, Some}
use Rattle.std.specs.Prelude.{None}
use Rattle.std.proofs.Common.{arith}
use Rattle.mn_base.proofs.Bools.{no, clash, and_on, and_left, and_right, or_off, not_false, unlike_numbers, less_is, not_less_tells}
use Rattle.mn_base.specs.declared.numbers.NodeNo.{NodeNo}
use Rattle.mn_base.specs.Limits.{most_steps}
use Rattle.mn_wiring.specs.declared.links.Dir.TheVariants as dir
use Rattle.mn_topo.specs.Network.{Network}
use Rattle.mn_topo.specs.VrfTable.{is_edge}
use Rattle.mn_topo.specs.Steps.{has_link, are_edges, are_edges_in_order}
use Rattle.mn_topo.specs.declared.steps.Step.{Step}
use Rattle.mn_topo.specs.declared.steps.Step.TheVariants.{LdpAdmin, HearLdp, BgpDown, HearBgp}
use Rattle.mn_topo.specs.declared.steps.Damage.{Damage}
use Rattle.mn_topo.specs.declared.steps.Damage.TheVariants.{Ldp, Bgp}
use Rattle.mn_topo.specs.declared.steps.Damaged.TheVariants as mark
use Rattle.mn_ledger.specs.declared.refused.Refused.{Refused}
use Rattle.mn_ledger.specs.declared.refused.Refused.TheVariants.{Unchanged, Empty, StillReads, TooManySteps}
use Rattle.mn_ledger.specs.Bgp.{peers_live}
use Rattle.mn_ledger.specs.Transport.{lives}
use Rattle.mn_ledger.specs.World.{Config, World}
use Rattle.mn_ledger.specs.Packets.{Packets}
use Rattle.mn_ledger.specs.Refusal.{first_cause, where_holds, is_empty, limits}
use Rattle.mn_damage.specs.Damages.{lesser, greater, damage_fits}
use Rattle.mn_entry.proofs.Told.{ordered}
use Rattle.mn_damage.specs.Refusals.{still_reads, damage_refusal_at, Ends, IsInOrder}

-- 1. What nothing refuses

-- the first two causes don't hold, and no later one
split : (e s : Bool) (rest : List (Option Refused)) → first_cause (where_holds e Empty ∷ where_holds s StillReads ∷ rest) ≡ None →
    (e ≡ false) × (first_cause rest ≡ None)
split true s rest h = cc
split false true rest h = cc
split false false rest h = (refl, h)

joined : (u e : Bool) (rest : List (Option Refused)) → u ≡ false → e ≡ false → first_cause rest ≡ None →
    first_cause (where_holds u Unchanged ∷ where_holds e Empty ∷ rest) ≡ None
joined true e rest h g f = absurd (clash h)
joined false true rest h g f = absurd (clash g)
joined false false rest h g f = f

lived : (alive b : Bool) → (not alive || b) ≡ false → alive ≡ true
lived alive b h = not_false alive (or_off (not alive) b h).0

turned : (b : Bool) → b ≡ true → not b ≡ false
turned true h = refl
turned false h = absurd (no h)

-- LDP is on where a session lives
on_there : (config : Config) (l : ℕ) → lives config l ≡ true → not (config.ldp_on l) ≡ false
on_there config l h = turned (config.ldp_on l) (and_right (config.is_up l) (config.ldp_on l) h)

-- and the session of two edges by their order
peered : (config : Config) (a b : NodeNo) (x : Bool) → nat_lt a.0 b.0 ≡ x →
    (if x then config.bgp_on a.0 b.0 else config.bgp_on b.0 a.0) ≡ true →
    not (config.bgp_on (if x then a else b).0 (if x then b else a).0) ≡ false
peered config a b true h e = turned (config.bgp_on a.0 b.0) e
peered config a b false h e = turned (config.bgp_on b.0 a.0) e

pub ends : (t : Network) (w : World) (k : Packets) (n : ℕ) (d : Damage) (bytes : List ℕ) → damage_fits t d ≡ true →
    damage_refusal_at t w k n d bytes ≡ None → Ends t w k n d
ends t w k n (Ldp l dir m) bytes fit h =
    let parts = split (is_empty t w k (HearLdp l dir)) (still_reads (Ldp l dir m) bytes) (limits t w k n (LdpAdmin l false) []) h in
    record {
      fitting = and_left (has_link t l) (nat_le 1 m) fit;
      unrefused = λ other. joined (not (w.config.ldp_on l.0)) false (limits t w k n (LdpAdmin l false) other)
          (on_there w.config l.0 (lived (lives w.config l.0) _ parts.0)) refl parts.1;
    }
ends t w k n (Bgp a b m) bytes fit h =
    let down : Step = BgpDown (lesser a b) (greater a b) in
    let parts = split (is_empty t w k (HearBgp a b)) (still_reads (Bgp a b m) bytes) (limits t w k n down []) h in
    record {
      fitting = ordered t a b (nat_lt a.0 b.0) refl (and_left (are_edges t a b) (nat_le 1 m) fit);
      unrefused = λ other. joined (not (w.config.bgp_on (lesser a b).0 (greater a b).0)) false (limits t w k n down other)
          (peered w.config a b (nat_lt a.0 b.0) refl (lived (peers_live w.config a.0 b.0) _ parts.0)) refl parts.1;
    }

-- 2. In which order it is refused

other_than : (b : Bool) → first_cause (where_holds b TooManySteps ∷ []) ≡ Some Empty → ⊥
other_than true h = cc
other_than false h = cc

is_there : (e b : Bool) → first_cause (where_holds e Empty ∷ None ∷ None ∷ None ∷ None ∷ where_holds b TooManySteps ∷ []) ≡ Some Empty → e ≡ true
is_there true b h = refl
is_there false b h = absurd (other_than b h)

not_there : (e b : Bool) → (first_cause (where_holds e Empty ∷ None ∷ None ∷ None ∷ None ∷ where_holds b TooManySteps ∷ []) ≡ Some Empty → ⊥) → e ≡ false
not_there true b h = absurd (h refl)
not_there false b h = refl

empty_first : (e s : Bool) (rest : List (Option Refused)) → e ≡ true → first_cause (where_holds e Empty ∷ where_holds s StillReads ∷ rest) ≡ Some Empty
empty_first true s rest h = refl
empty_first false s rest h = absurd (no h)

reads_next : (e s : Bool) (rest : List (Option Refused)) → e ≡ false → s ≡ true →
    first_cause (where_holds e Empty ∷ where_holds s StillReads ∷ rest) ≡ Some StillReads
reads_next false true rest h g = refl
reads_next true s rest h g = absurd (clash h)
reads_next false false rest h g = absurd (no g)

rest_last : (e s u : Bool) (rest : List (Option Refused)) → e ≡ false → s ≡ false → u ≡ false →
    first_cause (where_holds e Empty ∷ where_holds s StillReads ∷ rest) ≡ first_cause (where_holds u Unchanged ∷ None ∷ rest)
rest_last false false false rest h g f = refl
rest_last true s u rest h g f = absurd (clash h)
rest_last false true u rest h g f = absurd (clash g)
rest_last false false true rest h g f = absurd (clash f)

pub in_turn : (t : Network) (w : World) (k : Packets) (n : ℕ) (d : Damage) (bytes : List ℕ) → IsInOrder t w k n d bytes
in_turn t w k n (Ldp l dir m) bytes =
    let hear : Step = HearLdp l dir in
    let rest : List (Option Refused) = limits t w k n (LdpAdmin l false) [] in
    record {
      empty = λ h. empty_first (is_empty t w k hear) (still_reads (Ldp l dir m) bytes) rest (is_there (is_empty t w k hear) (nat_le most_steps n) h);
      reads = λ h r. reads_next (is_empty t w k hear) (still_reads (Ldp l dir m) bytes) rest (not_there (is_empty t w k hear) (nat_le most_steps n) h) r;
      rest = λ h r. let there = not_there (is_empty t w k hear) (nat_le most_steps n) h in
          rest_last (is_empty t w k hear) (still_reads (Ldp l dir m) bytes) (not (w.config.ldp_on l.0)) rest there r
          (on_there w.config l.0 (lived (lives w.config l.0) _ there));
    }
in_turn t w k n (Bgp a b m) bytes =
    let hear : Step = HearBgp a b in
    let down : Step = BgpDown (lesser a b) (greater a b) in
    let rest : List (Option Refused) = limits t w k n down [] in
    record {
      empty = λ h. empty_first (is_empty t w k hear) (still_reads (Bgp a b m) bytes) rest (is_there (is_empty t w k hear) (nat_le most_steps n) h);
      reads = λ h r. reads_next (is_empty t w k hear) (still_reads (Bgp a b m) bytes) rest (not_there (is_empty t w k hear) (nat_le most_steps n) h) r;
      rest = λ h r. let there = not_there (is_empty t w k hear) (nat_le most_steps n) h in
          rest_last (is_empty t w k hear) (still_reads (Bgp a b m) bytes) (not (w.config.bgp_on (lesser a b).0 (greater a b).0)) rest there r
          (peered w.config a b (nat_lt a.0 b.0) refl (lived (peers_live w.config a.0 b.0) _ there));
    }

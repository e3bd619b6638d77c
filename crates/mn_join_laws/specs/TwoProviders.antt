-- Two networks of two links each, joined at site b of the first and site a of the second; each leads 10.9.0.0/16 to its site b.
--
--     site a --- pe1 --- p --- pe2 --- b = a --- pe1 --- p --- pe2 --- site b
use Rattle.std.specs.Prelude.{◌≡◌, ℕ, List, [], ◌∷◌, ◌++◌, Some, None}
use Rattle.mn_wiring.specs.declared.links.Dir.TheVariants.{Forth}
use Rattle.mn_drops.specs.declared.drops.Rule.TheVariants as rule
use Rattle.mn_topo.specs.declared.steps.Step.TheVariants.{AddRoute, HearBgp, Inject, Carry}
use Rattle.mn_script.specs.declared.command.Command.TheVariants.{Do, Flush}
use Rattle.mn_ledger.specs.declared.verdict.Verdict.TheVariants.{Delivered, Dropped}
use Rattle.mn_ledger.proofs.TwoLinks.{two_links, settling, at_start, link_no, site_no, node_no}
use Rattle.mn_join_laws.specs.declared.leg.Which.TheVariants.{First, Second}
use Rattle.mn_join_laws.specs.Pairing.{Pairing, Side, Both, Travel, packets_in}
use Rattle.mn_join_laws.specs.Course.{stepped, played}

abbrev pub pairing : Pairing
pairing = record { first = two_links; second = two_links; joints = record { first = 1; second = 0 } ∷ [] }

-- the route is added at site b, and the network settles
abbrev pub settled_side : Side
settled_side = record {
  past = record {
    clock = 0;
    entries = at_start (AddRoute (site_no 1) (record { address = 168361984; length = 16 })) ∷ settling ++ at_start (HearBgp (node_no 2) (node_no 0)) ∷ [];
  };
  inputs = [];
  owners = [];
}

abbrev pub settled : Both
settled = record { first = settled_side; second = settled_side; travels = [] }

-- to 10.9.0.1, with this TTL, and the high byte of the checksum that is right for it
abbrev pub packet : ℕ → ℕ → List ℕ
packet ttl high = 69 ∷ 0 ∷ 0 ∷ 28 ∷ 0 ∷ 0 ∷ 0 ∷ 0 ∷ ttl ∷ 17 ∷ high ∷ 198 ∷ 10 ∷ 1 ∷ 0 ∷ 1 ∷ 10 ∷ 9 ∷ 0 ∷ 1 ∷ 0 ∷ 53 ∷ 0 ∷ 53 ∷ 0 ∷ 8 ∷ 0 ∷ 0 ∷ []

-- sent at site a of the first, and carried over both links of the first and then of the second
abbrev pub crossing : ℕ → ℕ → Both
crossing ttl high =
    let sent : Both = (stepped pairing First settled (Inject (site_no 0) 1) (packet ttl high)).both in
    let at_p : Both = (stepped pairing First sent (Carry (link_no 0) Forth 0) []).both in
    let joined : Both = (stepped pairing First at_p (Carry (link_no 1) Forth 0) []).both in
    let at_second_p : Both = (stepped pairing Second joined (Carry (link_no 0) Forth 0) []).both in
    (stepped pairing Second at_second_p (Carry (link_no 1) Forth 0) []).both

-- the same by lines: sent, and then each network flushed
abbrev pub by_lines : Both
by_lines =
    let sent : Both = (played pairing First settled (Do (Inject (site_no 0) 1)) (packet 64 102)).both in
    let joined : Both = (played pairing First sent Flush []).both in
    (played pairing Second joined Flush []).both

abbrev pub two_legs : Travel
two_legs = record { number = 1; legs = record { which = First; packet = 0 } ∷ record { which = Second; packet = 0 } ∷ []; refused = None }

pub record TheyAreJoined : Type 0 where
  pub legs : (crossing 64 102).travels ≡ two_legs ∷ []
  pub leaves : (packets_in pairing (crossing 64 102) First).verdicts ≡ Delivered 61 (site_no 1) 1 ∷ []
  pub arrives : (packets_in pairing (crossing 64 102) Second).verdicts ≡ Delivered 58 (site_no 1) 1 ∷ []
  pub delivered : (packets_in pairing (crossing 64 102) Second).delivered ≡ Some (packet 58 108)
  pub lines : by_lines.travels ≡ two_legs ∷ []
  pub arrives_by_lines : (packets_in pairing by_lines Second).verdicts ≡ Delivered 58 (site_no 1) 1 ∷ []
  pub with_ttl_7 : (packets_in pairing (crossing 7 159) Second).verdicts ≡ Delivered 1 (site_no 1) 1 ∷ []
  pub with_ttl_6 : (packets_in pairing (crossing 6 160) Second).verdicts ≡ Dropped rule.TtlExpired (node_no 2) ∷ []

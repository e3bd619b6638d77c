-- Two providers joined, computed from the definitions.
use Rattle.std.proofs.Common.{refl}
use Rattle.mn_wiring.specs.Paths.{next}
use Rattle.mn_ipv4.specs.Header.{is_not_ipv4, is_malformed, is_truncated, has_bad_checksum, good, checksum_for, with_ttl, aged}
use Rattle.mn_ledger.specs.Transport.{knowledge_of, news, sessions_after}
use Rattle.mn_ledger.specs.Bgp.{peerings_after}
use Rattle.mn_ledger.specs.Held.{held}
use Rattle.mn_ledger.specs.Packets.{packets_after}
use Rattle.mn_ledger.specs.Refusal.{in_flight, bytes_flying}
use Rattle.mn_course_laws.specs.Course.{all}
use Rattle.mn_join_laws.specs.Course.{handed_on}
use Rattle.mn_join_laws.specs.TwoProviders.{TheyAreJoined}

pub they_are_joined : TheyAreJoined
unfolding next knowledge_of news sessions_after peerings_after held packets_after is_not_ipv4 is_malformed is_truncated has_bad_checksum good checksum_for
    with_ttl aged in_flight bytes_flying all handed_on
they_are_joined = record {
  legs = refl;
  leaves = refl;
  arrives = refl;
  delivered = refl;
  lines = refl;
  arrives_by_lines = refl;
  with_ttl_7 = refl;
  with_ttl_6 =
      refl;
}

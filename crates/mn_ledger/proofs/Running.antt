-- What the run of a journal computes with, named once: a proof that computes a run says `unfolding a_run`.
use Rattle.mn_topo.specs.Paths.{next}
use Rattle.mn_ipv4.specs.Header.{is_not_ipv4, is_malformed, is_truncated, has_bad_checksum, good, checksum_for, with_ttl, aged}
use Rattle.mn_ledger.specs.Transport.{knowledge_of, news, sessions_after}
use Rattle.mn_ledger.specs.Bgp.{peerings_after}
use Rattle.mn_ledger.specs.Held.{held}
use Rattle.mn_ledger.specs.Packets.{packets_after}
use Rattle.mn_ledger.specs.Refusal.{in_flight, bytes_flying}

unfoldable pub a_run : Unit {0}
unfolding next knowledge_of news sessions_after peerings_after held packets_after is_not_ipv4 is_malformed is_truncated has_bad_checksum good checksum_for
    with_ttl aged in_flight bytes_flying
a_run = tt

use Rattle.std.proofs.Common.{◌≡◌, ◌+◌, ◌<◌, ◌≤◌, ◌^◌, ◌++◌, ℕ, List, length, take, drop}
use Rattle.mn_pcap.specs.Scans.{Keeps}
use Rattle.mn_pcap.proofs.scan.Scan.feed.Given as goal

abbrev pub invariant-pieces : goal.invariant-pieces
invariant-pieces l = record {
  taken : ℕ;
  within : taken ≤ length l.piece;
  rest_is : l.rest ≡ drop taken l.piece;
  room : l.self.cursor.fed + length l.rest < 2 ^ 63;
  keeps : (bytes : List ℕ) → Keeps l.initial.self bytes → Keeps l.self (bytes ++ take taken l.piece);
}

abbrev pub decreases-pieces : goal.decreases-pieces
decreases-pieces l = length l.rest

-- The laws of rest, after every lawful journal.
use Rattle.std.proofs.Common.{ℕ, List}
use Rattle.mn_topo.specs.Network.{Network}
use Rattle.mn_topo.specs.Lawful.{IsLawful}
use Rattle.mn_topo.specs.declared.steps.JournalEntry.{JournalEntry}
use Rattle.mn_ledger.specs.World.{World}
use Rattle.mn_ledger.specs.Packets.{Packets}
use Rattle.mn_ledger.specs.Ledger.{world_of, packets_of}
use Rattle.mn_ledger.specs.Lawful.{IsLawfulJournal}
use Rattle.mn_ledger.proofs.InTurn.{in_turn, link_there}
use Rattle.mn_ledger.proofs.Refusals.{free}
use Rattle.mn_settled_laws.proofs.Offering.{says_its_offers}
use Rattle.mn_reuse_laws.specs.Laws.{RestsByTurns, BlocksTheWay, AreForgotten}
use Rattle.mn_reuse_laws.proofs.Answering.{released, released_step}
use Rattle.mn_reuse_laws.proofs.Blocking.{rest_blocks, resting}
use Rattle.mn_reuse_laws.proofs.Resting.{rest_begins}
use Rattle.mn_reuse_laws.proofs.ByTurns.{are_answered}
use Rattle.mn_reuse_laws.proofs.Waking.{rest_stays}

pub rests : (t : Network) (es : List JournalEntry) (ps : List (List ℕ)) → IsLawful t → IsLawfulJournal t es ps → RestsByTurns t es ps
rests t es ps lawful journal =
    let w : World = world_of t es in
    let k : Packets = packets_of t es ps in
    let turn = in_turn t es ps lawful journal in
    let all = released t es ps lawful journal in record {
      begins = λ step count bytes node fec fit fine before rests.
          let may = free t w k count step bytes fine in
          rest_begins t w k step node fec lawful.ends_differ (link_there t step fit) may.changes may.there turn.ldp all before rests;
      stays = λ step count bytes node fec fit fine inside rest off.
          let may = free t w k count step bytes fine in
          rest_stays t w k step node fec lawful.joins_nodes lawful.ends_differ fit turn.ldp
          (released_step t w k step lawful.ends_differ (link_there t step fit) may.there turn.ldp all) inside rest off;
    }

pub blocks : (t : Network) (es : List JournalEntry) (ps : List (List ℕ)) → IsLawful t → IsLawfulJournal t es ps → BlocksTheWay t (world_of t es)
blocks t es ps lawful journal node from fec hop below inside apart rest way =
    rest_blocks t (world_of t es) node from fec hop lawful.joins_nodes lawful.ends_differ below apart inside (says_its_offers t es ps lawful journal)
    (released t es ps lawful journal) rest way

pub are_forgotten : (t : Network) (es : List JournalEntry) (ps : List (List ℕ)) → IsLawful t → IsLawfulJournal t es ps → AreForgotten t (world_of t es)
are_forgotten t es ps lawful journal node fec l below e inside rest =
    let quiet = resting t (world_of t es) node fec rest in
    let answer = are_answered t es ps lawful journal l node fec below e inside in
    let gone = answer.forgotten quiet.0 (quiet.1 l below e) in
    record { kept = gone.0; mentions = gone.1; releases = gone.2 }

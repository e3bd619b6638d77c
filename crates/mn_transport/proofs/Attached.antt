-- What the transport stands for once an edge has attached a site.
use Rattle.std.proofs.Common.{ℕ, ◌≡◌, ◌+◌, ◌<◌, List, length, get_or}
use Rattle.std.specs.Prelude.{slice_set}
use Rattle.mn_base.specs.declared.numbers.SiteNo.{SiteNo}
use Rattle.mn_labels.specs.Labels.{greatest}
use Rattle.mn_topo.specs.Network.{Network}
use Rattle.mn_topo.specs.Lawful.{IsLawful}
use Rattle.mn_topo.specs.declared.steps.Step.TheVariants.{Attach}
use Rattle.mn_topo.specs.declared.steps.JournalEntry.{JournalEntry}
use Rattle.mn_ledger.specs.Places.{home_of}
use Rattle.mn_ledger.specs.Ledger.{world_of}
use Rattle.mn_frame_laws.specs.Given.{given, label_at}
use Rattle.mn_timetable_laws.specs.Steps.{pushed}
use Rattle.mn_lsr.specs.Standing.{Standing}
use Rattle.mn_transport_laws.specs.Carried.{Carried}
use Rattle.mn_transport_laws.specs.Stands.{IsTransport}
use Rattle.mn_transport_laws.specs.Steps.{HasTurn}
use Rattle.mn_transport_laws.proofs.Attaching.{IsAttached}
use Rattle.mn_transport_laws.proofs.Sited.{attached-goes, attached-label, attached-next}

-- after any journal for which the transport stood, and after which the site had its turn
pub record Attached (t : Network) (s : SiteNo) (seen new : Carried) (l : ℕ) : Type 0 where
  pub goes : (journal : List JournalEntry) (tick : ℕ) → IsTransport t journal seen → HasTurn t journal (Attach s) →
      IsTransport t (pushed journal tick (Attach s)) new
  pub label : (journal : List JournalEntry) (tick : ℕ) → IsTransport t journal seen → HasTurn t journal (Attach s) →
      l ≡ label_at (given t (pushed journal tick (Attach s))) (home_of t s.0) s.0 ((world_of t journal).config.attaches s.0 + 2)
  pub next : (journal : List JournalEntry) → IsTransport t journal seen → HasTurn t journal (Attach s) →
      l ≡ greatest (given t journal (home_of t s.0)).given + 1

pub attached-at : (t : Network) → IsLawful t → (old seen : Carried) → old ≡ seen → (s : SiteNo) (node index : ℕ) → node ≡ home_of t s.0 → index ≡ node →
    node < length t.loopbacks → (x : Standing) → x ≡ get_or old.nodes index x → (now : Standing) (label place : ℕ) → place ≡ s.0 → IsAttached s x now label →
    Attached t s seen (record old { nodes = slice_set old.nodes index now; labels = slice_set old.labels place label }) label
attached-at t lawful old seen view_is s node index home from below x value now label place to did = record {
  goes = λ journal tick stands turn. attached-goes t lawful old seen view_is s node index home from below x value now label place to did journal stands turn
      tick;
  label = λ journal tick stands turn. attached-label t lawful old seen view_is s node index home from below x value now label place to did journal stands turn
      tick;
  next = λ journal stands turn. attached-next t lawful old seen view_is s node index home from below x value now label place to did journal stands turn;
}

-- A network that stands for the ledger refuses what the ledger refuses, for the same cause; and the same comes next.
use Rattle.std.specs.Prelude.{◌≡◌, ℕ, true, List}
use Rattle.mn_topo.specs.Lawful.{IsLawful}
use Rattle.mn_topo.specs.Network.{Network}
use Rattle.mn_topo.specs.Steps.{fits}
use Rattle.mn_topo.specs.declared.steps.Step.{Step}
use Rattle.mn_topo.specs.declared.steps.JournalEntry.{JournalEntry}
use Rattle.mn_ledger.specs.Refusal.{refusal}
use Rattle.mn_course_laws.specs.declared.coming.Kind.{Kind}
use Rattle.mn_course_laws.specs.Coming.{coming}
use Rattle.mn_net_parts_laws.specs.Stands.{Packed, StandsFor}
use Rattle.mn_net_laws.specs.Seen.{Seen, Shows}
use Rattle.mn_net_laws.specs.Refusal.{refusal_seen}
use Rattle.mn_net_tally.specs.Laws.{TellsLosses}
use Rattle.mn_net_laws.specs.Coming.{coming_seen}

abbrev pub RefusesAlike : Type 0
RefusesAlike = (topology : Network) (journal : List JournalEntry) (inputs : List (List ℕ)) (seen : Seen) (step : Step) (bytes : List ℕ) →
    IsLawful topology → Shows topology journal inputs seen → fits topology step ≡ true →
    refusal_seen topology seen step bytes ≡ refusal topology journal inputs step bytes

abbrev pub ComesAlike : Type 0
ComesAlike = (topology : Network) (journal : List JournalEntry) (inputs : List (List ℕ)) (packed : Packed) (lossy : List ℕ) (kind : Kind) (limit : ℕ) →
    IsLawful topology → StandsFor topology journal packed inputs → TellsLosses topology journal inputs lossy →
    coming_seen topology packed lossy kind limit ≡ coming topology journal inputs kind limit

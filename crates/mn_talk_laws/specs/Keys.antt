-- The same ledger told by routes alone: in each step a node tells each peer, route by route, what changes of what it offers it, edges as
-- reflectors do. RFC 4456, section 6.
use Rattle.std.specs.Prelude.{◌<◌, ℕ, List, [], ◌∷◌, ◌++◌, length, slice_get}
use Rattle.std.specs.List.{flat_map}
use Rattle.mn_wiring.specs.Wiring.{nodes_of}
use Rattle.mn_topo.specs.Network.{Network, wiring_of}
use Rattle.mn_topo.specs.declared.steps.Step.{Step}
use Rattle.mn_topo.specs.declared.steps.Step.TheVariants as step
use Rattle.mn_ledger.specs.World.{Config}
use Rattle.mn_ledger.specs.Ledger.{config_after}
use Rattle.mn_reflect_ledger_laws.specs.Words.{Open}
use Rattle.mn_reflect_ledger_laws.specs.Picks.{Spoken}
use Rattle.mn_reflect_ledger_laws.specs.World.{says, reply, news}
use Rattle.mn_reflect_ledger_laws.specs.Quiet.{NamesNodes}
use Rattle.mn_talk_laws.specs.Talk.{Talks, seen, counted, with_spoken}

abbrev pub answers_by_keys : Network → List ℕ → Config → Talks → Talks → Step → List Spoken
answers_by_keys topology reflectors config talks new (step.BgpUp a b) = says a.0 b.0 (Open ∷ []) ++ says b.0 a.0 (Open ∷ [])
answers_by_keys topology reflectors config talks new (step.HearBgp a b) =
    says b.0 a.0 (reply topology reflectors (seen config new) b.0 a.0 (talks.heard b.0 a.0) (slice_get (talks.told a.0 b.0) (talks.heard b.0 a.0)))
answers_by_keys topology reflectors config talks new _ = []

abbrev pub spoken_by_keys : Network → List ℕ → Config → Talks → Config → Talks → Step → List Spoken
spoken_by_keys topology reflectors config talks new_config new done =
    answers_by_keys topology reflectors new_config talks new done
    ++ flat_map (news topology reflectors (seen config talks) (seen new_config new)) (nodes_of (wiring_of topology))

abbrev pub after_by_keys : Network → List ℕ → Config → Talks → Step → Talks
after_by_keys topology reflectors config talks done =
    with_spoken (counted talks done) (spoken_by_keys topology reflectors config talks (config_after config done) (counted talks done) done)

abbrev pub from_by_keys : Network → List ℕ → Config → Talks → List Step → Talks
from_by_keys topology reflectors config talks [] = talks
from_by_keys topology reflectors config talks (done ∷ steps) =
    from_by_keys topology reflectors (config_after config done) (after_by_keys topology reflectors config talks done) steps

-- what is received is there
abbrev pub IsThere : Talks → Step → Type 0
IsThere talks (step.HearBgp a b) = talks.heard b.0 a.0 < length (talks.told a.0 b.0)
IsThere talks _ = Unit {0}

abbrev pub AreThere : Network → List ℕ → Config → Talks → List Step → Type 0
AreThere topology reflectors config talks [] = Unit {0}
AreThere topology reflectors config talks (done ∷ steps) =
    NamesNodes topology done × IsThere talks done
    × AreThere topology reflectors (config_after config done) (after_by_keys topology reflectors config talks done) steps

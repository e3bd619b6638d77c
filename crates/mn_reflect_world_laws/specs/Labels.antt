-- The labels of attachments where routes are reflected: no FEC has one, so they go from 16 upward at each edge, first one for each of its
-- sites and then one for each later attachment.
use Rattle.std.specs.Prelude.{ℕ, ◌+◌, ◌==◌, ◌&&◌, nat_lt, List, [], ◌∷◌, map, filter, length, sum}
use Rattle.std.specs.List.{range_with_len}
use Rattle.mn_topo.specs.Network.{Network}
use Rattle.mn_topo.specs.declared.steps.Step.{Step}
use Rattle.mn_topo.specs.declared.steps.Step.TheVariants as step
use Rattle.mn_ledger.specs.Tables.{put_pair}
use Rattle.mn_ledger.specs.Places.{home_of, sites_at}
use Rattle.mn_ledger.specs.World.{Config}
use Rattle.mn_ledger.specs.Ledger.{first_config, config_after}
use Rattle.mn_bgp_spelling_laws.specs.Spelling.{Labels}

-- how many sites of the same edge come before this one
abbrev pub sites_before : Network → ℕ → ℕ
sites_before topology site = length (filter (λ s. (home_of topology s == home_of topology site) && nat_lt s site) (range_with_len 0 (length topology.sites)))

abbrev pub first_labels : Network → Labels
first_labels topology site attachment = 16 + sites_before topology site

-- how many attachments an edge's sites have had
abbrev pub attachments_at : Network → Config → ℕ → ℕ
attachments_at topology config edge = length (sites_at topology edge) + sum (map config.attaches (sites_at topology edge))

abbrev pub labels_after : Network → Config → Labels → Step → Labels
labels_after topology config labels (step.Attach s) =
    put_pair labels s.0 (config.attaches s.0 + 2) (16 + attachments_at topology config (home_of topology s.0))
labels_after topology config labels _ = labels

abbrev pub labels_from : Network → Config → Labels → List Step → Labels
labels_from topology config labels [] = labels
labels_from topology config labels (done ∷ steps) = labels_from topology (config_after config done) (labels_after topology config labels done) steps

abbrev pub labels_of : Network → List Step → Labels
labels_of topology steps = labels_from topology (first_config topology) (first_labels topology) steps

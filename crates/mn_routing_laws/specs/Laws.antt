-- What holds of every edge after every lawful journal.
use Rattle.std.specs.Prelude.{◌≡◌, ℕ, List, map, option_map}
use Rattle.mn_prefix.specs.Table.{longest_match}
use Rattle.mn_topo.specs.Network.{Network}
use Rattle.mn_topo.specs.Lawful.{IsLawful}
use Rattle.mn_topo.specs.declared.steps.JournalEntry.{JournalEntry}
use Rattle.mn_ledger.specs.Places.{edge_of, vrf_at}
use Rattle.mn_ledger.specs.World.{Export, World}
use Rattle.mn_ledger.specs.Exports as ledger_exports
use Rattle.mn_ledger.specs.Held as ledger_held
use Rattle.mn_ledger.specs.Ledger.{world_of}
use Rattle.mn_ledger.specs.Lawful.{IsLawfulJournal}
use Rattle.mn_pe.specs.Held.{Exported, exports_of, held_by}
use Rattle.mn_bgp_spelling_laws.specs.Spelling.{Labels, as_targets}
use Rattle.mn_routing_laws.specs.Standing.{vrf_in, edge_in}
use Rattle.mn_routing_laws.specs.Sources.{as_held}

-- an export as its edge has it
abbrev pub exported_in : Network → Labels → Export → Exported
exported_in t l x = record {
  vrf = x.vrf;
  rd = (vrf_at t x.vrf).rd;
  prefix = x.prefix;
  label = l x.site x.attachment;
  site = x.site;
  targets =
      as_targets x.targets;
}

-- the first longest match among what the VRF holds is the ledger's best
abbrev pub FindsTheBest : Network → Labels → World → ℕ → ℕ → ℕ → Type 0
FindsTheBest t l w edge v address = longest_match address (held_by (edge_in t l w.config w.peerings edge) (vrf_in t w.config v)) ≡ option_map (as_held l)
    (ledger_held.best (ledger_held.held t w.config w.peerings edge v) address)

-- the edge's exports are the ledger's, in the same order
abbrev pub ExportsAlike : Network → Labels → World → ℕ → Type 0
ExportsAlike t l w edge = map (exported_in t l) (ledger_exports.exports_of t w.config edge) ≡ exports_of (edge_in t l w.config w.peerings edge)

abbrev pub AllFindTheBest : Type 0
AllFindTheBest = (t : Network) (l : Labels) (entries : List JournalEntry) (inputs : List (List ℕ)) (edge v address : ℕ) → IsLawful t →
    IsLawfulJournal t entries inputs → edge_of t v ≡ edge → FindsTheBest t l (world_of t entries) edge v address

abbrev pub AllExportAlike : Type 0
AllExportAlike = (t : Network) (l : Labels) (entries : List JournalEntry) (inputs : List (List ℕ)) (edge : ℕ) → IsLawful t →
    IsLawfulJournal t entries inputs → ExportsAlike t l (world_of t entries) edge

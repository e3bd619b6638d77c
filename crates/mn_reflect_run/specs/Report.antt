-- The report of reflected routes.
use Rattle.std.specs.Prelude.{ℕ, Bool, true, false, cond, List, [], ◌∷◌, ◌++◌, filter, length, codes, Option, Some, None}
use Rattle.std.specs.List.{flat_map}
use Rattle.std.specs.Fmt.{decimal}
use Rattle.mn_text.specs.Addresses.{prefix_text}
use Rattle.mn_topo.specs.Network.{Network}
use Rattle.mn_topo.specs.declared.steps.Step.{Step}
use Rattle.mn_ledger.specs.Places.{edge_of}
use Rattle.mn_ledger.specs.Held.{HeldRoute, Source, Own, Near, Far}
use Rattle.mn_lines.specs.Lines.{text, refused_line, cause_text}
use Rattle.mn_output_laws.specs.Files.{node_name}
use Rattle.mn_ledger.specs.Heads.{prefixes_of, best_for}
use Rattle.mn_output_laws.specs.Tables.{vrf_name, site_name}
use Rattle.mn_bgp_spelling_laws.specs.Spelling.{Labels}
use Rattle.mn_reflect_ledger_laws.specs.World.{world_of}
use Rattle.mn_reflect_ledger_laws.specs.Quiet.{held}
use Rattle.mn_reflect_world_laws.specs.Labels.{labels_of}
use Rattle.mn_reflect_telling.specs.Mentions.{numbers_of}
use Rattle.mn_reflect_run.specs.Language.{Script}
use Rattle.mn_reflect_run.specs.Course.{Note, Refusal, Table, ReflectRun, run_of}

-- 1. The routes of a VRF

-- over its own site, another VRF of the edge, or another edge by the label that it gave the attachment
abbrev pub source_text : Network → Labels → HeldRoute → Source → List ℕ
source_text topology labels route Own = text (codes "site " ∷ site_name topology route.site ∷ [])
source_text topology labels route (Near v) = text (codes "vrf " ∷ vrf_name topology v ∷ codes " site " ∷ site_name topology route.site ∷ [])
source_text topology labels route (Far address rd) =
    text (codes "edge " ∷ node_name topology route.edge ∷ codes " label " ∷ decimal (labels route.site route.attachment) ∷ [])

abbrev pub route_line : Network → Labels → ℕ → Option HeldRoute → List ℕ
route_line topology labels v None = []
route_line topology labels v (Some route) =
    text (codes "route " ∷ vrf_name topology v ∷ codes " " ∷ prefix_text route.prefix ∷ codes " " ∷ source_text topology labels route route.source
    ∷ codes "\n" ∷ [])

-- of each prefix the best route, by address and then by length
abbrev pub route_lines : Network → Labels → ℕ → List HeldRoute → List ℕ
route_lines topology labels v routes = flat_map (λ prefix. route_line topology labels v (best_for routes prefix)) (prefixes_of routes)

-- what the VRF holds by reflection after these steps
abbrev pub table_text : Network → List ℕ → List Step → ℕ → List ℕ
table_text topology reflectors steps v =
    route_lines topology (labels_of topology steps) v (held topology reflectors (world_of topology reflectors steps) (edge_of topology v) v)

-- 2. What is reported, in the script's order

abbrev pub note_text : Network → List ℕ → Note → List ℕ
note_text topology reflectors (Refusal line cause) = refused_line line (cause_text topology.site_names cause)
note_text topology reflectors (Table v steps) = table_text topology reflectors steps v

abbrev pub is_refusal : Note → Bool
is_refusal (Refusal line cause) = true
is_refusal (Table v steps) = false

-- how many lines were refused
abbrev pub refusals : List Note → ℕ
refusals notes = length (filter is_refusal notes)

-- the last line
unfoldable pub total_line : ℕ → ℕ → ℕ → List ℕ
total_line steps refused flying =
    text (codes "total steps " ∷ decimal steps ∷ codes " refused " ∷ decimal refused ∷ codes " flying " ∷ decimal flying ∷ codes "\n" ∷ [])

-- a run that was stopped tells of the lines before, and says so
abbrev pub report : Network → List ℕ → ReflectRun → List ℕ
report topology reflectors run =
    flat_map (note_text topology reflectors) run.notes
    ++ cond run.is_stopped (codes "too large steps\n")
    (total_line (length run.steps) (refusals run.notes) (length (world_of topology reflectors run.steps).flying))

-- the course of a script over a topology
abbrev pub course_of : Network → Script → ReflectRun
course_of topology script = run_of topology (numbers_of script.reflectors) script.lines

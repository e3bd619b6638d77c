-- Lines from their pieces.
use Rattle.std.proofs.Common.{◌≡◌, ℕ, zero, suc, List, [], ◌∷◌, Some, refl, ap, ◌∙◌, append_assoc}
use Rattle.std.specs.Prelude.{codes, decimal, slice_get, slice_index_or}
use Rattle.mn_text.specs.Addresses.{prefix_text}
use Rattle.mn_topo.specs.Network.{Network}
use Rattle.mn_ledger.specs.Held.{HeldRoute, Far}
use Rattle.mn_lines.specs.Lines.{text}
use Rattle.mn_output_laws.specs.Files.{node_name}
use Rattle.mn_output_laws.specs.Tables.{vrf_name}
use Rattle.mn_bgp_spelling_laws.specs.Spelling.{Labels}
use Rattle.mn_reflect_run.specs.Report.{route_line, total_line}

pub total_row : (steps refused flying : ℕ) (a b d : List ℕ) → a ≡ decimal steps → b ≡ decimal refused → d ≡ decimal flying →
    text (codes "total steps " ∷ a ∷ codes " refused " ∷ b ∷ codes " flying " ∷ d ∷ codes "\n" ∷ []) ≡ total_line steps refused flying
unfolding total_line
total_row steps refused flying a b d is_a is_b is_d = rw (is_a, is_b, is_d) refl

-- a name that is there
pub name_there : (names : List (List ℕ)) (n : ℕ) (name : List ℕ) → slice_get names n ≡ Some name → name ≡ slice_index_or names n []
name_there [] n name is = cc
name_there (x ∷ names) zero name is = cc
name_there (x ∷ names) (suc n) name is = name_there names n name is

pub far_row : (topology : Network) (labels : Labels) (v : ℕ) (route : HeldRoute) (address rd edge label : ℕ) (a p m b : List ℕ) →
    a ≡ vrf_name topology v → p ≡ prefix_text route.prefix → m ≡ node_name topology edge → b ≡ decimal label →
    route.source ≡ Far address rd → edge ≡ route.edge → label ≡ labels route.site route.attachment →
    text (codes "route " ∷ a ∷ codes " " ∷ p ∷ codes " edge " ∷ m ∷ codes " label " ∷ b ∷ codes "\n" ∷ []) ≡ route_line topology labels v (Some route)
far_row topology labels v route address rd edge label a p m b is_a is_p is_m is_b is_far is_edge is_label =
    rw (is_a, is_p, is_m ∙ ap (node_name topology) is_edge, is_b ∙ ap decimal is_label, is_far) (simp append_assoc)

-- A line that begins with `inject` begins with no other word of a step.
use Rattle.std.specs.Prelude.{◌≡◌, true, List, ℕ, codes, if◌then◌else◌, Err}
use Rattle.std.specs.Str.{bytes_eq}
use Rattle.std.proofs.Common.{ap}
use Rattle.std.proofs.lemmas.Slice.Eq.{bytes_eq-Decides}
use Rattle.mn_topo.specs.Network.{Network}
use Rattle.mn_script.specs.declared.refusal.ScriptRule.TheVariants.{UnknownWord}
use Rattle.mn_script.specs.Words.{word_at, is_word}
use Rattle.mn_script.specs.Steps.{link_line, learn_line, ldp_line, hear_line, bgp_line, route_line, import_line}
use Rattle.mn_script.specs.Steps.{export_line, site_line, inject_line, carry_line, lose_line, tick_line, step_line}

begins : (ws : List (List ℕ)) → is_word ws 0 (codes "inject") ≡ true → word_at ws 0 ≡ codes "inject"
begins ws is = (bytes_eq-Decides (word_at ws 0) (codes "inject")).0 is

pub sending_step : (network : Network) (ws : List (List ℕ)) → is_word ws 0 (codes "inject") ≡ true → step_line network ws ≡ inject_line network ws
unfolding step_line
sending_step network ws is =
    ap (λ w. if bytes_eq w (codes "link") then link_line network ws
    else if bytes_eq w (codes "learn") then learn_line network ws
    else if bytes_eq w (codes "ldp") then ldp_line network ws
    else if bytes_eq w (codes "hear") then hear_line network ws
    else if bytes_eq w (codes "bgp") then bgp_line network ws
    else if bytes_eq w (codes "route") then route_line network ws
    else if bytes_eq w (codes "import") then import_line network ws
    else if bytes_eq w (codes "export") then export_line network ws
    else if bytes_eq w (codes "site") then site_line network ws
    else if bytes_eq w (codes "inject") then inject_line network ws
    else if bytes_eq w (codes "carry") then carry_line network ws
    else if bytes_eq w (codes "lose") then lose_line network ws
    else if bytes_eq w (codes "tick") then tick_line ws
    else Err UnknownWord) (begins ws is)

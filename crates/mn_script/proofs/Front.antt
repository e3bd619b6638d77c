-- A line of more than five words says what its first six words say.
use Rattle.std.proofs.Common.{◌≡◌, ◌<◌, ◌==◌, ℕ, false, List, [], ◌∷◌, length, take, refl, ap, sym, ◌∙◌, arith, lit<}
use Rattle.mn_topo.specs.Network.{Network}
use Rattle.std.specs.Prelude.{Ok}
use Rattle.mn_script.specs.Rules.{◌>>=◌}
use Rattle.mn_script.specs.Script.{numbered, command_says}
use Rattle.mn_script.specs.declared.command.Show.{Show}
use Rattle.mn_script.specs.declared.command.Show.TheVariants as table
use Rattle.mn_script.specs.Lines.{run_line, bounded_drain, drain_line, flush_line, plain_show, show_tree, show_vrf, show_frame, show_line}
use Rattle.mn_script.specs.Damages.{damage_line}
use Rattle.mn_script.specs.Lines.{table_line, do_line, damaged_line, command_line, line_says}
use Rattle.mn_script.specs.Steps.{link_line, learn_line, ldp_line, hear_line, bgp_line, route_line, target_operands, import_line}
use Rattle.mn_script.specs.Steps.{export_line, site_line, inject_line, frame_operands, carry_line, lose_line, tick_line, step_line}

-- six words and more
abbrev six : (a b c d e f : List ℕ) → List (List ℕ) → List (List ℕ)
six a b c d e f ws = a ∷ b ∷ c ∷ d ∷ e ∷ f ∷ ws

-- six words are more than five
many : (a b c d e f : List ℕ) (ws : List (List ℕ)) (k : ℕ) → k < 6 → (length (six a b c d e f ws) == k) ≡ false
many a b c d e f ws k few = grind arith

run_more : (a b c d e f : List ℕ) (ws : List (List ℕ)) → run_line (six a b c d e f ws) ≡ run_line (six a b c d e f [])
unfolding run_line
run_more a b c d e f ws = rw (many a b c d e f ws 2 (lit< tt)) refl

drain_more : (a b c d e f : List ℕ) (ws : List (List ℕ)) → drain_line (six a b c d e f ws) ≡ drain_line (six a b c d e f [])
unfolding drain_line bounded_drain
drain_more a b c d e f ws = rw (many a b c d e f ws 1 (lit< tt), many a b c d e f ws 2 (lit< tt)) refl

flush_more : (a b c d e f : List ℕ) (ws : List (List ℕ)) → flush_line (six a b c d e f ws) ≡ flush_line (six a b c d e f [])
unfolding flush_line
flush_more a b c d e f ws = rw (many a b c d e f ws 1 (lit< tt)) refl

plain_more : (a b c d e f : List ℕ) (ws : List (List ℕ)) (shown : Show) → plain_show (six a b c d e f ws) shown ≡ plain_show (six a b c d e f []) shown
unfolding plain_show
plain_more a b c d e f ws shown = rw (many a b c d e f ws 2 (lit< tt)) refl

tree_more : (network : Network) (a b c d e f : List ℕ) (ws : List (List ℕ)) → show_tree network (six a b c d e f ws) ≡ show_tree network (six a b c d e f [])
unfolding show_tree
tree_more network a b c d e f ws = rw (many a b c d e f ws 3 (lit< tt)) refl

vrf_more : (network : Network) (a b c d e f : List ℕ) (ws : List (List ℕ)) → show_vrf network (six a b c d e f ws) ≡ show_vrf network (six a b c d e f [])
unfolding show_vrf
vrf_more network a b c d e f ws = rw (many a b c d e f ws 3 (lit< tt)) refl

shown_frame_more : (network : Network) (a b c d e f : List ℕ) (ws : List (List ℕ))
    → show_frame network (six a b c d e f ws) ≡ show_frame network (six a b c d e f [])
unfolding show_frame
shown_frame_more network a b c d e f ws = rw (many a b c d e f ws 4 (lit< tt)) refl

link_more : (network : Network) (a b c d e f : List ℕ) (ws : List (List ℕ)) → link_line network (six a b c d e f ws) ≡ link_line network (six a b c d e f [])
unfolding link_line
link_more network a b c d e f ws = rw (many a b c d e f ws 1 (lit< tt), many a b c d e f ws 4 (lit< tt)) refl

learn_more : (network : Network) (a b c d e f : List ℕ) (ws : List (List ℕ)) → learn_line network (six a b c d e f ws) ≡ learn_line network (six a b c d e f [])
unfolding learn_line
learn_more network a b c d e f ws = rw (many a b c d e f ws 4 (lit< tt)) refl

ldp_more : (network : Network) (a b c d e f : List ℕ) (ws : List (List ℕ)) → ldp_line network (six a b c d e f ws) ≡ ldp_line network (six a b c d e f [])
unfolding ldp_line
ldp_more network a b c d e f ws = rw (many a b c d e f ws 1 (lit< tt), many a b c d e f ws 4 (lit< tt)) refl

hear_more : (network : Network) (a b c d e f : List ℕ) (ws : List (List ℕ)) → hear_line network (six a b c d e f ws) ≡ hear_line network (six a b c d e f [])
unfolding hear_line
hear_more network a b c d e f ws = rw (many a b c d e f ws 1 (lit< tt), many a b c d e f ws 4 (lit< tt)) refl

bgp_more : (network : Network) (a b c d e f : List ℕ) (ws : List (List ℕ)) → bgp_line network (six a b c d e f ws) ≡ bgp_line network (six a b c d e f [])
unfolding bgp_line
bgp_more network a b c d e f ws = rw (many a b c d e f ws 1 (lit< tt), many a b c d e f ws 4 (lit< tt)) refl

route_more : (network : Network) (a b c d e f : List ℕ) (ws : List (List ℕ)) → route_line network (six a b c d e f ws) ≡ route_line network (six a b c d e f [])
unfolding route_line
route_more network a b c d e f ws = rw (many a b c d e f ws 1 (lit< tt), many a b c d e f ws 4 (lit< tt)) refl

target_more : (network : Network) (a b c d e f : List ℕ) (ws : List (List ℕ))
    → target_operands network (six a b c d e f ws) ≡ target_operands network (six a b c d e f [])
unfolding target_operands
target_more network a b c d e f ws = rw (many a b c d e f ws 1 (lit< tt), many a b c d e f ws 4 (lit< tt)) refl

import_more : (network : Network) (a b c d e f : List ℕ) (ws : List (List ℕ)) →
    import_line network (six a b c d e f ws) ≡ import_line network (six a b c d e f [])
unfolding import_line
import_more network a b c d e f ws = rw (target_more network a b c d e f ws) refl

export_more : (network : Network) (a b c d e f : List ℕ) (ws : List (List ℕ)) →
    export_line network (six a b c d e f ws) ≡ export_line network (six a b c d e f [])
unfolding export_line
export_more network a b c d e f ws = rw (target_more network a b c d e f ws) refl

site_more : (network : Network) (a b c d e f : List ℕ) (ws : List (List ℕ)) → site_line network (six a b c d e f ws) ≡ site_line network (six a b c d e f [])
unfolding site_line
site_more network a b c d e f ws = rw (many a b c d e f ws 1 (lit< tt), many a b c d e f ws 3 (lit< tt)) refl

inject_more : (network : Network) (a b c d e f : List ℕ) (ws : List (List ℕ)) →
    inject_line network (six a b c d e f ws) ≡ inject_line network (six a b c d e f [])
unfolding inject_line
inject_more network a b c d e f ws = rw (many a b c d e f ws 3 (lit< tt)) refl

frame_more : (network : Network) (a b c d e f : List ℕ) (ws : List (List ℕ))
    → frame_operands network (six a b c d e f ws) ≡ frame_operands network (six a b c d e f [])
unfolding frame_operands
frame_more network a b c d e f ws = rw (many a b c d e f ws 4 (lit< tt)) refl

carry_more : (network : Network) (a b c d e f : List ℕ) (ws : List (List ℕ)) → carry_line network (six a b c d e f ws) ≡ carry_line network (six a b c d e f [])
unfolding carry_line
carry_more network a b c d e f ws = rw (frame_more network a b c d e f ws) refl

lose_more : (network : Network) (a b c d e f : List ℕ) (ws : List (List ℕ)) → lose_line network (six a b c d e f ws) ≡ lose_line network (six a b c d e f [])
unfolding lose_line
lose_more network a b c d e f ws = rw (frame_more network a b c d e f ws) refl

tick_more : (a b c d e f : List ℕ) (ws : List (List ℕ)) → tick_line (six a b c d e f ws) ≡ tick_line (six a b c d e f [])
unfolding tick_line
tick_more a b c d e f ws = rw (many a b c d e f ws 2 (lit< tt)) refl

step_more : (network : Network) (a b c d e f : List ℕ) (ws : List (List ℕ)) → step_line network (six a b c d e f ws) ≡ step_line network (six a b c d e f [])
unfolding step_line
step_more network a b c d e f ws =
    rw (
      link_more network a b c d e f ws,
      learn_more network a b c d e f ws,
      ldp_more network a b c d e f ws,
      hear_more network a b c d e f ws,
      bgp_more network a b c d e f ws,
      route_more network a b c d e f ws,
      import_more network a b c d e f ws,
      export_more network a b c d e f ws,
      site_more network a b c d e f ws,
      inject_more network a b c d e f ws,
      carry_more network a b c d e f ws,
      lose_more network a b c d e f ws,
      tick_more a b c d e f ws,
    )
    refl

show_more : (network : Network) (a b c d e f : List ℕ) (ws : List (List ℕ)) → show_line network (six a b c d e f ws) ≡ show_line network (six a b c d e f [])
unfolding show_line
show_more network a b c d e f ws =
    let links = plain_more a b c d e f ws table.Links in
    let ldp = plain_more a b c d e f ws table.Ldp in
    let bgp = plain_more a b c d e f ws table.Bgp in
    let flight = plain_more a b c d e f ws table.Flight in
    rw (
      many a b c d e f ws 1 (lit< tt),
      links,
      ldp,
      bgp,
      flight,
      tree_more network a b c d e f ws,
      vrf_more network a b c d e f ws,
      shown_frame_more network a b c d e f ws,
    ) refl

table_more : (network : Network) (a b c d e f : List ℕ) (ws : List (List ℕ)) → table_line network (six a b c d e f ws) ≡ table_line network (six a b c d e f [])
unfolding table_line
table_more network a b c d e f ws = rw (show_more network a b c d e f ws) refl

damage_more : (network : Network) (a b c d e f : List ℕ) (ws : List (List ℕ)) →
    damage_line network (six a b c d e f ws) ≡ damage_line network (six a b c d e f [])
unfolding damage_line
damage_more network a b c d e f ws = rw (many a b c d e f ws 1 (lit< tt), many a b c d e f ws 5 (lit< tt)) refl

damaged_more : (network : Network) (a b c d e f : List ℕ) (ws : List (List ℕ))
    → damaged_line network (six a b c d e f ws) ≡ damaged_line network (six a b c d e f [])
unfolding damaged_line
damaged_more network a b c d e f ws = rw (damage_more network a b c d e f ws) refl

do_more : (network : Network) (a b c d e f : List ℕ) (ws : List (List ℕ)) → do_line network (six a b c d e f ws) ≡ do_line network (six a b c d e f [])
unfolding do_line
do_more network a b c d e f ws = rw (step_more network a b c d e f ws) refl

command_more : (network : Network) (a b c d e f : List ℕ) (ws : List (List ℕ))
    → command_line network (six a b c d e f ws) ≡ command_line network (six a b c d e f [])
unfolding command_line
command_more network a b c d e f ws =
    rw (
      run_more a b c d e f ws,
      drain_more a b c d e f ws,
      flush_more a b c d e f ws,
      table_more network a b c d e f ws,
      damaged_more network a b c d e f ws,
      do_more network a b c d e f ws,
    ) refl

says_more : (network : Network) (a b c d e f : List ℕ) (ws : List (List ℕ)) → line_says network (six a b c d e f ws) ≡ line_says network (six a b c d e f [])
unfolding line_says
says_more network a b c d e f ws = rw (many a b c d e f ws 0 (lit< tt), command_more network a b c d e f ws) refl

-- six words are enough to know what a line says
pub says_by_six : (network : Network) (ws : List (List ℕ)) → line_says network (take 6 ws) ≡ line_says network ws
says_by_six network [] = refl
says_by_six network (a ∷ []) = refl
says_by_six network (a ∷ b ∷ []) = refl
says_by_six network (a ∷ b ∷ c ∷ []) = refl
says_by_six network (a ∷ b ∷ c ∷ d ∷ []) = refl
says_by_six network (a ∷ b ∷ c ∷ d ∷ e ∷ []) = refl
says_by_six network (a ∷ b ∷ c ∷ d ∷ e ∷ f ∷ ws) = sym (says_more network a b c d e f ws)

-- the first six of some words say what the words say
pub said_by_six : (network : Network) (first ws : List (List ℕ)) → first ≡ take 6 ws → line_says network first ≡ line_says network ws
said_by_six network first ws h = ap (line_says network) h ∙ says_by_six network ws

-- and so the command of a line with its number
pub command_says_by_six : (network : Network) (number : ℕ) (ws : List (List ℕ)) → command_says network number (take 6 ws) ≡ command_says network number ws
command_says_by_six network number ws = ap (λ said. said >>= (λ command. Ok (numbered number command))) (says_by_six network ws)

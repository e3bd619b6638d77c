-- A piece of more than seven words says what its first eight words say.
use Rattle.std.proofs.Common.{◌≡◌, ◌<◌, ◌==◌, ℕ, true, false, List, [], ◌∷◌, length, take, refl, ap, sym, ◌∙◌, arith, lit<}
use Rattle.std.specs.Prelude.{nat_lt}
use Rattle.std.proofs.lemmas.Bool.Decides.{nat_tests}
use Rattle.mn_topo.specs.Network.{Network}
use Rattle.mn_failures.specs.declared.command.Each.{Each}
use Rattle.mn_failures.specs.declared.command.Each.TheVariants as each
use Rattle.mn_failures.specs.Language.{link_part, ldp_part, bgp_part, node_part, part_says}
use Rattle.mn_failures.specs.Language.{one_of, all_links, links_between, links_line, each_line, sessions_line, resolve_as, resolve_line}
use Rattle.mn_failures.specs.Language.{losses_line, counts_line, ttl_line, is_lone}
use Rattle.mn_failures.specs.Language.{lone_line}

-- eight words and more
abbrev eight : (a b c d e f g h : List ℕ) → List (List ℕ) → List (List ℕ)
eight a b c d e f g h ws = a ∷ b ∷ c ∷ d ∷ e ∷ f ∷ g ∷ h ∷ ws

-- eight words are more than seven
many : (a b c d e f g h : List ℕ) (ws : List (List ℕ)) (k : ℕ) → k < 8 → (length (eight a b c d e f g h ws) == k) ≡ false
many a b c d e f g h ws k few = grind arith

there : (a b c d e f g h : List ℕ) (ws : List (List ℕ)) (k : ℕ) → k < 8 → nat_lt k (length (eight a b c d e f g h ws)) ≡ true
there a b c d e f g h ws k few = grind (arith, nat_tests)

link_more : (network : Network) (a b c d e f g h : List ℕ) (ws : List (List ℕ)) →
    link_part network (eight a b c d e f g h ws) ≡ link_part network (eight a b c d e f g h [])
unfolding link_part
link_more network a b c d e f g h ws = rw (there a b c d e f g h ws 1 (lit< tt), many a b c d e f g h ws 4 (lit< tt)) refl

ldp_more : (network : Network) (a b c d e f g h : List ℕ) (ws : List (List ℕ)) →
    ldp_part network (eight a b c d e f g h ws) ≡ ldp_part network (eight a b c d e f g h [])
unfolding ldp_part
ldp_more network a b c d e f g h ws = rw (there a b c d e f g h ws 1 (lit< tt), many a b c d e f g h ws 4 (lit< tt)) refl

bgp_more : (network : Network) (a b c d e f g h : List ℕ) (ws : List (List ℕ)) →
    bgp_part network (eight a b c d e f g h ws) ≡ bgp_part network (eight a b c d e f g h [])
unfolding bgp_part
bgp_more network a b c d e f g h ws = rw (there a b c d e f g h ws 1 (lit< tt), many a b c d e f g h ws 4 (lit< tt)) refl

node_more : (network : Network) (a b c d e f g h : List ℕ) (ws : List (List ℕ)) →
    node_part network (eight a b c d e f g h ws) ≡ node_part network (eight a b c d e f g h [])
unfolding node_part
node_more network a b c d e f g h ws = rw (there a b c d e f g h ws 1 (lit< tt), many a b c d e f g h ws 3 (lit< tt)) refl

part_more : (network : Network) (a b c d e f g h : List ℕ) (ws : List (List ℕ)) →
    part_says network (eight a b c d e f g h ws) ≡ part_says network (eight a b c d e f g h [])
unfolding part_says
part_more network a b c d e f g h ws =
    rw (
      many a b c d e f g h ws 0 (lit< tt),
      link_more network a b c d e f g h ws,
      ldp_more network a b c d e f g h ws,
      bgp_more network a b c d e f g h ws,
      node_more network a b c d e f g h ws,
    ) refl

-- eight words are enough to know what a part says
part_by_eight : (network : Network) (ws : List (List ℕ)) → part_says network (take 8 ws) ≡ part_says network ws
part_by_eight network [] = refl
part_by_eight network (a ∷ []) = refl
part_by_eight network (a ∷ b ∷ []) = refl
part_by_eight network (a ∷ b ∷ c ∷ []) = refl
part_by_eight network (a ∷ b ∷ c ∷ d ∷ []) = refl
part_by_eight network (a ∷ b ∷ c ∷ d ∷ e ∷ []) = refl
part_by_eight network (a ∷ b ∷ c ∷ d ∷ e ∷ f ∷ []) = refl
part_by_eight network (a ∷ b ∷ c ∷ d ∷ e ∷ f ∷ g ∷ []) = refl
part_by_eight network (a ∷ b ∷ c ∷ d ∷ e ∷ f ∷ g ∷ h ∷ ws) = sym (part_more network a b c d e f g h ws)

pub part_says_by_eight : (network : Network) (first ws : List (List ℕ)) → first ≡ take 8 ws → part_says network first ≡ part_says network ws
part_says_by_eight network first ws h = ap (part_says network) h ∙ part_by_eight network ws

one_more : (a b c d e f g h : List ℕ) (ws : List (List ℕ)) (found : Each) → one_of (eight a b c d e f g h ws) found ≡ one_of (eight a b c d e f g h []) found
unfolding one_of
one_more a b c d e f g h ws found = rw (many a b c d e f g h ws 2 (lit< tt)) refl

all_more : (a b c d e f g h : List ℕ) (ws : List (List ℕ)) → all_links (eight a b c d e f g h ws) ≡ all_links (eight a b c d e f g h [])
unfolding all_links
all_more a b c d e f g h ws = refl

between_more : (a b c d e f g h : List ℕ) (ws : List (List ℕ)) → links_between (eight a b c d e f g h ws) ≡ links_between (eight a b c d e f g h [])
unfolding links_between
between_more a b c d e f g h ws = rw (there a b c d e f g h ws 3 (lit< tt), there a b c d e f g h ws 5 (lit< tt), many a b c d e f g h ws 7 (lit< tt)) refl

links_more : (a b c d e f g h : List ℕ) (ws : List (List ℕ)) → links_line (eight a b c d e f g h ws) ≡ links_line (eight a b c d e f g h [])
unfolding links_line
links_more a b c d e f g h ws = rw (many a b c d e f g h ws 3 (lit< tt), between_more a b c d e f g h ws) refl

each_more : (a b c d e f g h : List ℕ) (ws : List (List ℕ)) → each_line (eight a b c d e f g h ws) ≡ each_line (eight a b c d e f g h [])
unfolding each_line
each_more a b c d e f g h ws =
    let link = one_more a b c d e f g h ws each.Link in
    let ldp = one_more a b c d e f g h ws each.Ldp in
    let node = one_more a b c d e f g h ws each.Node in
    let bgp = one_more a b c d e f g h ws each.Bgp in
    rw (many a b c d e f g h ws 1 (lit< tt), link, ldp, node, bgp, links_more a b c d e f g h ws) refl

sessions_more : (a b c d e f g h : List ℕ) (ws : List (List ℕ)) → sessions_line (eight a b c d e f g h ws) ≡ sessions_line (eight a b c d e f g h [])
unfolding sessions_line
sessions_more a b c d e f g h ws = rw (many a b c d e f g h ws 1 (lit< tt), many a b c d e f g h ws 2 (lit< tt)) refl

resolve_as_more : (a b c d e f g h : List ℕ) (ws : List (List ℕ)) → resolve_as (eight a b c d e f g h ws) ≡ resolve_as (eight a b c d e f g h [])
unfolding resolve_as
resolve_as_more a b c d e f g h ws = rw (many a b c d e f g h ws 1 (lit< tt)) refl

resolve_more : (a b c d e f g h : List ℕ) (ws : List (List ℕ)) → resolve_line (eight a b c d e f g h ws) ≡ resolve_line (eight a b c d e f g h [])
unfolding resolve_line
resolve_more a b c d e f g h ws = rw (resolve_as_more a b c d e f g h ws, many a b c d e f g h ws 2 (lit< tt)) refl

losses_more : (a b c d e f g h : List ℕ) (ws : List (List ℕ)) → losses_line (eight a b c d e f g h ws) ≡ losses_line (eight a b c d e f g h [])
unfolding losses_line
losses_more a b c d e f g h ws = rw (many a b c d e f g h ws 1 (lit< tt)) refl

counts_more : (a b c d e f g h : List ℕ) (ws : List (List ℕ)) → counts_line (eight a b c d e f g h ws) ≡ counts_line (eight a b c d e f g h [])
unfolding counts_line
counts_more a b c d e f g h ws = rw (many a b c d e f g h ws 1 (lit< tt)) refl

ttl_more : (a b c d e f g h : List ℕ) (ws : List (List ℕ)) → ttl_line (eight a b c d e f g h ws) ≡ ttl_line (eight a b c d e f g h [])
unfolding ttl_line
ttl_more a b c d e f g h ws = rw (many a b c d e f g h ws 2 (lit< tt)) refl

lone_more : (a b c d e f g h : List ℕ) (ws : List (List ℕ)) → lone_line (eight a b c d e f g h ws) ≡ lone_line (eight a b c d e f g h [])
unfolding lone_line
lone_more a b c d e f g h ws =
    rw (
      each_more a b c d e f g h ws,
      sessions_more a b c d e f g h ws,
      resolve_more a b c d e f g h ws,
      losses_more a b c d e f g h ws,
      counts_more a b c d e f g h ws,
      ttl_more a b c d e f g h ws,
    ) refl

-- and so any other line
lone_by_eight : (ws : List (List ℕ)) → lone_line (take 8 ws) ≡ lone_line ws
lone_by_eight [] = refl
lone_by_eight (a ∷ []) = refl
lone_by_eight (a ∷ b ∷ []) = refl
lone_by_eight (a ∷ b ∷ c ∷ []) = refl
lone_by_eight (a ∷ b ∷ c ∷ d ∷ []) = refl
lone_by_eight (a ∷ b ∷ c ∷ d ∷ e ∷ []) = refl
lone_by_eight (a ∷ b ∷ c ∷ d ∷ e ∷ f ∷ []) = refl
lone_by_eight (a ∷ b ∷ c ∷ d ∷ e ∷ f ∷ g ∷ []) = refl
lone_by_eight (a ∷ b ∷ c ∷ d ∷ e ∷ f ∷ g ∷ h ∷ ws) = sym (lone_more a b c d e f g h ws)

pub lone_says_by_eight : (first ws : List (List ℕ)) → first ≡ take 8 ws → lone_line first ≡ lone_line ws
lone_says_by_eight first ws h = ap lone_line h ∙ lone_by_eight ws

first_is_lone : (ws : List (List ℕ)) → is_lone (take 8 ws) ≡ is_lone ws
first_is_lone [] = refl
first_is_lone (a ∷ ws) = refl

pub is_lone_by_eight : (first ws : List (List ℕ)) → first ≡ take 8 ws → is_lone first ≡ is_lone ws
is_lone_by_eight first ws h = ap is_lone h ∙ first_is_lone ws

-- Adverts of links, flooded from node to node: what each node has, and what flies. RFC 2328, sections 12 and 13: an advert is
-- the origin's list of links, the one of greater number is the newer, and what is new is sent on over all other links.
use Rattle.std.specs.Prelude.{ℕ, ◌+◌, ◌==◌, ◌&&◌, Bool, true, false, not, nat_lt, cond, if◌then◌else◌, List, [], ◌∷◌, ◌++◌, map, filter}
use Rattle.std.specs.Prelude.{slice_index_or, slice_set, Option, Some, None}
use Rattle.std.specs.List.{list_any}
use Rattle.mn_wiring.specs.Wiring.{Wiring, View, is_up, link, nodes_of, links_of, links_at, receiver}
use Rattle.mn_wiring.specs.declared.links.Dir.{Dir}
use Rattle.mn_wiring.specs.declared.links.Dir.TheVariants.{Forth, Back}

-- 1. What there is

-- the links of a node that were up, as it advertised them the number-th time
pub record Advert : Type 0 where
  pub origin : ℕ
  pub number : ℕ
  pub links : List ℕ

-- an advert on its way over a link
pub record Sent : Type 0 where
  pub link : ℕ
  pub dir : Dir
  pub advert : Advert

pub record FloodWorld : Type 0 where
  pub up : View  -- by link, whether it is up
  pub kept : List (List (Option Advert))  -- by node and origin, the advert that the node has of the origin
  pub flying : List Sent  -- in the order of sending

-- what a node has of an origin
abbrev pub has : FloodWorld → ℕ → ℕ → Option Advert
has world node origin = slice_index_or (slice_index_or world.kept node []) origin None

-- the node keeps an advert in place of the one that it had of its origin
abbrev pub keep : FloodWorld → ℕ → Advert → FloodWorld
keep world node advert = record world { kept = slice_set world.kept node (slice_set (slice_index_or world.kept node []) advert.origin (Some advert)) }

-- every link is down, and each node has its own advert alone, of number 0 and no links
abbrev pub first_of : ℕ → ℕ → Option Advert
first_of node origin = if origin == node then Some (record { origin = node; number = 0; links = [] }) else None

abbrev pub start : Wiring → FloodWorld
start wiring = record { up = map (λ l. false) (links_of wiring); kept = map (λ node. map (first_of node) (nodes_of wiring)) (nodes_of wiring); flying = [] }

-- 2. Sending

-- the direction of a link away from one of its ends
abbrev pub away : Wiring → ℕ → ℕ → Dir
away wiring l node = if (link wiring l).a.0 == node then Forth else Back

-- a node sends an advert over a link
abbrev pub sent_over : Wiring → ℕ → Advert → ℕ → Sent
sent_over wiring node advert l = record { link = l; dir = away wiring l node; advert = advert }

-- the links at a node that are up, in order
abbrev pub up_at : Wiring → View → ℕ → List ℕ
up_at wiring up node = filter (is_up up) (links_at wiring node)

-- but for one
abbrev pub others_up : Wiring → View → ℕ → ℕ → List ℕ
others_up wiring up node l = filter (λ other. not (other == l)) (up_at wiring up node)

-- all adverts that a node has, in the order of origins
abbrev pub adverts_in : List (Option Advert) → List Advert
adverts_in [] = []
adverts_in (None ∷ more) = adverts_in more
adverts_in (Some advert ∷ more) = advert ∷ adverts_in more

abbrev pub adverts_of : FloodWorld → ℕ → List Advert
adverts_of world node = adverts_in (slice_index_or world.kept node [])

-- 3. A link comes up or goes down

-- how new an advert is: how often its origin had advertised its links by then; where none is kept, never
abbrev pub age : Option Advert → ℕ
age None = 0
age (Some advert) = advert.number + 1

-- the node's own advert of its present links
abbrev pub renewal : Wiring → FloodWorld → ℕ → Advert
renewal wiring world node = record { origin = node; number = age (has world node node); links = up_at wiring world.up node }

-- an end sends all that it has over the link that came up, and then its own new advert over each of its other links that are up
abbrev pub sends : Wiring → FloodWorld → ℕ → Bool → ℕ → Advert → List Sent
sends wiring world l up node own =
    cond up (map (λ advert. sent_over wiring node advert l) (adverts_of world node)) []
    ++ map (sent_over wiring node own) (others_up wiring world.up node l)

-- the link is so, and what flew on a link that goes down is gone
abbrev pub turned : FloodWorld → ℕ → Bool → FloodWorld
turned world l up =
    record world { up = slice_set world.up l up; flying = cond up world.flying (filter (λ sent. not (sent.link == l)) world.flying) }

-- both ends renew their own adverts
abbrev pub renewed : Wiring → FloodWorld → ℕ → FloodWorld
renewed wiring world l =
    let ends = link wiring l in
    keep (keep world ends.a.0 (renewal wiring world ends.a.0)) ends.b.0 (renewal wiring world ends.b.0)

abbrev pub changed : Wiring → FloodWorld → ℕ → Bool → FloodWorld
changed wiring world l up =
    let ends = link wiring l in
    let now : FloodWorld = turned world l up in
    let later : FloodWorld = renewed wiring now l in
    record later {
      flying = now.flying ++ (sends wiring later l up ends.a.0 (renewal wiring now ends.a.0) ++ sends wiring later l up ends.b.0 (renewal wiring now ends.b.0));
    }

-- 4. An advert is received

abbrev pub flies_on : ℕ → Dir → Sent → Bool
flies_on l Forth sent = (sent.link == l) && elim sent.dir [ Forth ↦ true | Back ↦ false ]
flies_on l Back sent = (sent.link == l) && elim sent.dir [ Forth ↦ false | Back ↦ true ]

-- what was sent first of what flies in the direction
abbrev pub first_on : ℕ → Dir → List Sent → Option Sent
first_on l dir [] = None
first_on l dir (sent ∷ more) = cond (flies_on l dir sent) (Some sent) (first_on l dir more)

abbrev pub without_first : ℕ → Dir → List Sent → List Sent
without_first l dir [] = []
without_first l dir (sent ∷ more) = cond (flies_on l dir sent) more (sent ∷ without_first l dir more)

-- it has a greater number than what the node has of its origin, or the node has none
abbrev pub is_news : Option Advert → Advert → Bool
is_news None advert = true
is_news (Some old) advert = nat_lt old.number advert.number

-- the node keeps it and sends it on over its other links that are up
abbrev pub spread : Wiring → FloodWorld → ℕ → ℕ → Advert → FloodWorld
spread wiring world l node advert =
    record (keep world node advert) { flying = world.flying ++ map (sent_over wiring node advert) (others_up wiring world.up node l) }

abbrev pub taken_in : Wiring → FloodWorld → ℕ → ℕ → Advert → FloodWorld
taken_in wiring world l node advert = cond (is_news (has world node advert.origin) advert) (spread wiring world l node advert) world

abbrev pub heard_by : Wiring → FloodWorld → ℕ → Dir → Option Sent → FloodWorld
heard_by wiring world l dir None = world
heard_by wiring world l dir (Some sent) =
    taken_in wiring (record world { flying = without_first l dir world.flying }) l (receiver wiring l dir) sent.advert

abbrev pub heard : Wiring → FloodWorld → ℕ → Dir → FloodWorld
heard wiring world l dir = heard_by wiring world l dir (first_on l dir world.flying)

-- 5. Any events

pub data FloodEvent : Type 0 where
  Change : (link : ℕ) → (up : Bool) → FloodEvent
  Hear : (link : ℕ) → (dir : Dir) → FloodEvent

abbrev pub flood_after : Wiring → FloodWorld → FloodEvent → FloodWorld
flood_after wiring world (Change l up) = changed wiring world l up
flood_after wiring world (Hear l dir) = heard wiring world l dir

abbrev pub flood_from : Wiring → FloodWorld → List FloodEvent → FloodWorld
flood_from wiring world [] = world
flood_from wiring world (event ∷ events) = flood_from wiring (flood_after wiring world event) events

abbrev pub flood_of : Wiring → List FloodEvent → FloodWorld
flood_of wiring events = flood_from wiring (start wiring) events

-- 6. The links that a node takes for up: those that both ends' adverts list

abbrev pub lists : Option Advert → ℕ → Bool
lists None l = false
lists (Some advert) l = list_any (λ other. other == l) advert.links

abbrev pub is_flooded : Wiring → FloodWorld → ℕ → ℕ → Bool
is_flooded wiring world node l =
    let ends = link wiring l in
    lists (has world node ends.a.0) l && lists (has world node ends.b.0) l

abbrev pub flooded : Wiring → FloodWorld → ℕ → View
flooded wiring world node = map (is_flooded wiring world node) (links_of wiring)

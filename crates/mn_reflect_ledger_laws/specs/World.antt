-- The world where routes are reflected: its start, and what a step makes of it. RFC 4456, section 6, and RFC 4271, section 8.2.2.
use Rattle.std.specs.Prelude.{ℕ, zero, suc, ◌==◌, ◌&&◌, Bool, true, not, cond, List, [], ◌∷◌, ◌++◌, map, filter, length, Option, Some, None}
use Rattle.std.specs.List.{flat_map}
use Rattle.mn_wiring.specs.Wiring.{nodes_of}
use Rattle.mn_topo.specs.Network.{Network, wiring_of}
use Rattle.mn_topo.specs.declared.steps.Step.{Step}
use Rattle.mn_topo.specs.declared.steps.Step.TheVariants as step
use Rattle.mn_ledger.specs.Tables.{everywhere, put_pair}
use Rattle.mn_ledger.specs.Ledger.{first_config, config_after}
use Rattle.mn_reflect_ledger_laws.specs.Words.{Key, Word, Open, KeepAlive, in_order, change}
use Rattle.mn_reflect_ledger_laws.specs.Picks.{Spoken, ReflectWorld, is_established, offered, known_keys}

abbrev pub start : Network → ReflectWorld
start topology = record { config = first_config topology; heard = everywhere (everywhere []); flying = [] }

-- 1. What flies

abbrev pub is_from_to : ℕ → ℕ → Spoken → Bool
is_from_to from to spoken = (spoken.from == from) && (spoken.to == to)

abbrev pub is_between : ℕ → ℕ → Spoken → Bool
is_between a b spoken = cond (is_from_to a b spoken) true (is_from_to b a spoken)

abbrev pub first_word : ℕ → ℕ → List Spoken → Option Word
first_word from to [] = None
first_word from to (spoken ∷ more) = cond (is_from_to from to spoken) (Some spoken.word) (first_word from to more)

abbrev pub without_first : ℕ → ℕ → List Spoken → List Spoken
without_first from to [] = []
without_first from to (spoken ∷ more) = cond (is_from_to from to spoken) more (spoken ∷ without_first from to more)

abbrev pub words_to : ℕ → ℕ → List Spoken → List Word
words_to from to spokens = map (λ spoken. spoken.word) (filter (is_from_to from to) spokens)

abbrev pub says : ℕ → ℕ → List Word → List Spoken
says from to words = map (λ word. record { from = from; to = to; word = word }) words

-- 2. Before anything is sent: switches, lives, and what is received

abbrev pub restarted : ReflectWorld → ℕ → ℕ → ReflectWorld
restarted world a b =
    record world { heard = put_pair (put_pair world.heard a b []) b a []; flying = filter (λ spoken. not (is_between a b spoken)) world.flying }

abbrev pub heard_one : ReflectWorld → ℕ → ℕ → Option Word → ReflectWorld
heard_one world from to None = world
heard_one world from to (Some word) =
    record world { heard = put_pair world.heard to from (world.heard to from ++ word ∷ []); flying = without_first from to world.flying }

abbrev pub counted : ReflectWorld → Step → ReflectWorld
counted world (step.BgpUp a b) = restarted world a.0 b.0
counted world (step.BgpDown a b) = restarted world a.0 b.0
counted world (step.HearBgp a b) = heard_one world a.0 b.0 (first_word a.0 b.0 world.flying)
counted world _ = world

abbrev pub unsaid : ReflectWorld → Step → ReflectWorld
unsaid world done = record (counted world done) { config = config_after world.config done }

-- 3. What is sent

-- all that a node offers a peer
abbrev pub all_offers : Network → List ℕ → ReflectWorld → ℕ → ℕ → List Word
all_offers topology reflectors world node peer =
    flat_map (λ key. change key None (offered topology reflectors world node peer key)) (in_order (known_keys topology reflectors world node))

-- OPEN is answered by KEEPALIVE, and the KEEPALIVE by which an end becomes Established by all that it offers
abbrev pub reply : Network → List ℕ → ReflectWorld → ℕ → ℕ → ℕ → Option Word → List Word
reply topology reflectors world node peer zero (Some Open) = KeepAlive ∷ []
reply topology reflectors world node peer (suc zero) (Some KeepAlive) = all_offers topology reflectors world node peer
reply topology reflectors world node peer _ _ = []

abbrev pub replies : Network → List ℕ → ReflectWorld → ReflectWorld → Step → List Spoken
replies topology reflectors world new (step.BgpUp a b) = says a.0 b.0 (Open ∷ []) ++ says b.0 a.0 (Open ∷ [])
replies topology reflectors world new (step.HearBgp a b) =
    says b.0 a.0 (reply topology reflectors new b.0 a.0 (length (world.heard b.0 a.0)) (first_word a.0 b.0 world.flying))
replies topology reflectors world new _ = []

-- an end that was Established and is
abbrev pub is_steady : ReflectWorld → ReflectWorld → ℕ → ℕ → Bool
is_steady world new node peer = is_established world node peer && is_established new node peer

-- what a node says of a route to one peer, and to all
abbrev pub news_of : Network → List ℕ → ReflectWorld → ReflectWorld → ℕ → Key → ℕ → List Spoken
news_of topology reflectors world new node key peer =
    cond (is_steady world new node peer)
    (says node peer (change key (offered topology reflectors world node peer key) (offered topology reflectors new node peer key)))
    []

-- in the order of routes, and then of peers
abbrev pub news : Network → List ℕ → ReflectWorld → ReflectWorld → ℕ → List Spoken
news topology reflectors world new node =
    flat_map (λ key. flat_map (news_of topology reflectors world new node key) (nodes_of (wiring_of topology)))
    (in_order (known_keys topology reflectors world node ++ known_keys topology reflectors new node))

abbrev pub said_in : Network → List ℕ → ReflectWorld → ReflectWorld → Step → List Spoken
said_in topology reflectors world new done =
    replies topology reflectors world new done ++ flat_map (news topology reflectors world new) (nodes_of (wiring_of topology))

abbrev pub after : Network → List ℕ → ReflectWorld → Step → ReflectWorld
after topology reflectors world done =
    let new : ReflectWorld = unsaid world done in
    record new { flying = new.flying ++ said_in topology reflectors world new done }

abbrev pub world_from : Network → List ℕ → ReflectWorld → List Step → ReflectWorld
world_from topology reflectors world [] = world
world_from topology reflectors world (done ∷ steps) = world_from topology reflectors (after topology reflectors world done) steps

abbrev pub world_of : Network → List ℕ → List Step → ReflectWorld
world_of topology reflectors steps = world_from topology reflectors (start topology) steps

-- 4. A drain: at most so many hearings, the word sent first of all each time

abbrev pub hear_first : Network → List ℕ → ReflectWorld → List Spoken → ReflectWorld
hear_first topology reflectors world [] = world
hear_first topology reflectors world (spoken ∷ more) = after topology reflectors world (step.HearBgp (record { 0 = spoken.from }) (record { 0 = spoken.to }))

abbrev pub drained : ℕ → Network → List ℕ → ReflectWorld → ReflectWorld
drained zero topology reflectors world = world
drained (suc more) topology reflectors world = drained more topology reflectors (hear_first topology reflectors world world.flying)

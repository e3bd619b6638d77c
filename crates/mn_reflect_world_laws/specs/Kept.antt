-- What a node keeps of what it received from one peer: of each route its last mention.
use Rattle.std.specs.Prelude.{ℕ, if◌then◌else◌, List, [], ◌∷◌, map}
use Rattle.mn_wiring.specs.Wiring.{nodes_of}
use Rattle.mn_topo.specs.Network.{Network, wiring_of}
use Rattle.mn_ledger.specs.Bgp.{peers_live}
use Rattle.mn_bgp_spelling_laws.specs.Spelling.{Labels, as_targets}
use Rattle.mn_offers.specs.Heard.{Heard, with_heard, without_heard}
use Rattle.mn_reflect_ledger_laws.specs.Words.{Offer, Word, Open, KeepAlive, Announce, Withdraw}
use Rattle.mn_reflect_ledger_laws.specs.Picks.{ReflectWorld}

-- a route as it is announced, with the label of its attachment
abbrev pub route_in : Labels → Offer → Heard
route_in labels offer = record {
  vrf = offer.export.vrf;
  prefix = offer.export.prefix;
  label = labels offer.export.site offer.export.attachment;
  targets = as_targets offer.export.targets;
  clusters = offer.clusters;
}

abbrev pub after_word : Labels → List Heard → Word → List Heard
after_word labels kept (Announce offer) = with_heard (route_in labels offer) kept
after_word labels kept (Withdraw key) = without_heard key.vrf key.prefix kept
after_word labels kept Open = kept
after_word labels kept KeepAlive = kept

abbrev pub after_words : Labels → List Heard → List Word → List Heard
after_words labels kept [] = kept
after_words labels kept (word ∷ words) = after_words labels (after_word labels kept word) words

-- in the session's present life
abbrev pub kept_in : Labels → ReflectWorld → ℕ → ℕ → List Heard
kept_in labels world node peer = if peers_live world.config node peer then after_words labels [] (world.heard node peer) else []

-- by node and peer
abbrev pub all_kept : Network → Labels → ReflectWorld → List (List (List Heard))
all_kept topology labels world = map (λ node. map (kept_in labels world node) (nodes_of (wiring_of topology))) (nodes_of (wiring_of topology))

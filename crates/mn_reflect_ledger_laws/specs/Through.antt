-- Through which reflectors an announcement came. RFC 4456, section 8: by these a node would see its own route come back.
use Rattle.std.specs.Prelude.{◌≡◌, ◌≢◌, ◌⊎◌, ℕ, true, false, List, [], ◌∷◌}
use Rattle.mn_topo.specs.Network.{Network}
use Rattle.mn_ledger.specs.Places.{loopback, edge_of}
use Rattle.mn_reflect_ledger_laws.specs.Words.{Offer}
use Rattle.mn_reflect_ledger_laws.specs.Picks.{is_reflector}

-- the reflector alone, or the reflector and behind it another
abbrev pub AreOneOrTwo : Network → List ℕ → ℕ → List ℕ → Type 0
AreOneOrTwo topology reflectors node clusters =
    (clusters ≡ loopback topology node ∷ [])
    ⊎ ((other : ℕ) × (is_reflector reflectors other ≡ true) × (other ≢ node) × (clusters ≡ loopback topology node ∷ loopback topology other ∷ []))

-- what a node says to a peer: an edge its own routes; a reflector to another what came to it from an edge, and to an edge what came from another edge, to
-- it or to one reflector before it
pub record ComesThrough (topology : Network) (reflectors : List ℕ) (node peer : ℕ) (offer : Offer) : Type 0 where
  pub of_an_edge : is_reflector reflectors node ≡ false → offer.clusters ≡ []
  pub to_a_reflector : is_reflector reflectors node ≡ true → is_reflector reflectors peer ≡ true → offer.clusters ≡ loopback topology node ∷ []
  pub to_an_edge : is_reflector reflectors node ≡ true → is_reflector reflectors peer ≡ false → AreOneOrTwo topology reflectors node offer.clusters
  pub never_back : is_reflector reflectors node ≡ true → is_reflector reflectors peer ≡ false → edge_of topology offer.export.vrf ≢ peer

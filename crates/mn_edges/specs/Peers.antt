-- The peers that an edge tells: RFC 4271, section 8.2.2.
use Rattle.std.specs.Prelude.{ℕ, ◌+◌, Bool, true, false, if◌then◌else◌, List, [], ◌∷◌, Option, Some, None}
use Rattle.mn_base.specs.declared.numbers.NodeNo.{NodeNo}
use Rattle.mn_states.specs.declared.states.BgpState.{BgpState}
use Rattle.mn_states.specs.declared.states.BgpState.TheVariants.{Established}
use Rattle.mn_bgp_session.specs.declared.session.BgpSession.{BgpSession}

abbrev pub is_established : BgpState → Bool
is_established Established = true
is_established _ = false

abbrev pub is_steady : Option BgpSession → Bool
is_steady None = false
is_steady (Some session) = is_established session.state

-- the peers, from this number on, with which the session is Established
abbrev pub peers_from : ℕ → List (Option BgpSession) → List NodeNo
peers_from peer [] = []
peers_from peer (end ∷ ends) = if is_steady end then record { 0 = peer } ∷ peers_from (peer + 1) ends else peers_from (peer + 1) ends

-- A session lives where an end of it is kept.
use Rattle.std.proofs.Common.{ℕ, ◌≡◌, ◌<◌, Bool, true, false, List, [], length, Some, None, refl, ◌∙◌, ap}
use Rattle.std.specs.Prelude.{if◌then◌else◌, slice_index_or, is_some}
use Rattle.mn_topo.specs.Network.{Network}
use Rattle.mn_ledger.specs.Places.{loopback}
use Rattle.mn_ledger.specs.Bgp.{peers_live, state_heard}
use Rattle.mn_bgp_session.specs.declared.session.BgpSession.{BgpSession}
use Rattle.mn_bgp_spelling_laws.specs.Spelling.{Labels}
use Rattle.mn_reflect_ledger_laws.specs.Picks.{ReflectWorld}
use Rattle.mn_reflect_world_laws.specs.Now.{ReflectNow, StandsFor, session_in}
use Rattle.mn_reflect_world_laws.proofs.Rows.{table_at}

some_where : {A : Type 0} (b : Bool) (x : A) → is_some (if b then Some x else None) ≡ b
some_where true x = refl
some_where false x = refl

module _ (t : Network) (reflectors : List ℕ) (l : Labels) (w : ReflectWorld) (now : ReflectNow) (stands : StandsFor t reflectors l w now)
    (node peer : ℕ) (below : node < length t.loopbacks) (peer_below : peer < length t.loopbacks) where
  pub session_is : slice_index_or (slice_index_or now.sessions node []) peer None ≡ session_in t w node peer
  session_is =
      ap (λ rows. slice_index_or (slice_index_or rows node []) peer None) stands.sessions
      ∙ table_at (length t.loopbacks) (session_in t w) node peer None below peer_below

  pub live_is : is_some (slice_index_or (slice_index_or now.sessions node []) peer None) ≡ peers_live w.config node peer
  live_is =
      ap is_some session_is
      ∙ some_where (peers_live w.config node peer)
      (let e : BgpSession = record { asn = t.asn; me = loopback t node; peer = loopback t peer; state = state_heard (length (w.heard node peer)) } in e)

-- What an edge advertises is read as it was written, and each message that is received has a row and is the peer's.
use Rattle.std.proofs.Common.{ℕ, zero, suc, ◌≡◌, ◌+◌, ◌<◌, ◌^◌, Bool, true, false, cond, List, [], ◌∷◌, ◌++◌, map, refl, arith, sym, ◌∙◌, ap, Ok, add-one}
use Rattle.std.specs.Prelude.{◌==◌, ◌&&◌, slice_index_or, if◌then◌else◌}
use Rattle.mn_states.specs.declared.states.BgpState.{BgpState}
use Rattle.mn_states.specs.declared.states.BgpState.TheVariants.{Idle, OpenSent, OpenConfirm, Established}
use Rattle.mn_base.specs.declared.numbers.NodeNo.{NodeNo}
use Rattle.mn_topo.specs.Network.{Network}
use Rattle.mn_topo.specs.declared.steps.Step.TheVariants as step
use Rattle.mn_bgp_wire.specs.Grammar.{IsBgp}
use Rattle.mn_bgp_wire.proofs.Spelling.{open_is_spelled, announced_is_spelled, withdrawn_is_spelled, written_short}
use Rattle.mn_bgp_wire.specs.Written.{withdrawn_route}
use Rattle.mn_vpn_nlri.proofs.Routes.{written_is_route}
use Rattle.mn_vpn_nlri.proofs.Communities.{written_are_targets}
use Rattle.mn_bgp_session.specs.declared.session.BgpSession.{BgpSession}
use Rattle.mn_bgp_session.specs.Table.{kind_of, has_row, is_of_peer, next_state, reply_in, answer_in, state_if, after_message}
use Rattle.mn_ledger.specs.Places.{loopback, vrf_at}
use Rattle.mn_ledger.specs.World.{Config, Export, Telling, Open, BgpKeepAlive, Announcement, Withdrawal, Peerings}
use Rattle.mn_ledger.specs.Bgp.{peers_live, state_heard, bgp_state_of, reply, peerings_after}
use Rattle.mn_ledger.specs.Turns.{has_bgp_row}
use Rattle.mn_ledger.proofs.GoingBy.{pair_here}
use Rattle.mn_base.proofs.Bools.{same_test}
use Rattle.mn_bgp_spelling_laws.specs.Spelling.{Labels, as_targets, route_of, session_in, message_in, bytes_in, IsWritable}

-- 1. No message that is received is unexpected, or of another

rows_same : (t : Network) (l : Labels) (teller : ℕ) (state : BgpState) (m : Telling) → has_row state (kind_of (message_in t l teller m)) ≡ has_bgp_row state m
rows_same t l teller Idle Open = refl
rows_same t l teller _ Open = refl
rows_same t l teller _ _ = refl

of_peer : (t : Network) (l : Labels) (c : Config) (p : Peerings) (edge peer : ℕ) (m : Telling) →
    is_of_peer (session_in t c p edge peer) (message_in t l peer m) ≡ true
of_peer t l c p edge peer Open =
    ap (λ b. b && ((loopback t peer == loopback t peer) && true)) (same_test t.asn) ∙ ap (λ b. b && true) (same_test (loopback t peer))
of_peer t l c p edge peer BgpKeepAlive = refl
of_peer t l c p edge peer (Announcement e) = refl
of_peer t l c p edge peer (Withdrawal v q) = refl

-- where its state has a row for the message, the session takes it
pub taken : (t : Network) (l : Labels) (c : Config) (p : Peerings) (edge peer : ℕ) (m : Telling) → has_bgp_row (bgp_state_of c p edge peer) m ≡ true
    → answer_in (session_in t c p edge peer) (message_in t l peer m) ≡ Ok (reply_in (bgp_state_of c p edge peer))
taken t l c p edge peer m row =
    first_of_three (has_row (bgp_state_of c p edge peer) (kind_of (message_in t l peer m))) (is_of_peer (session_in t c p edge peer) (message_in t l peer m))
    (Ok (reply_in (bgp_state_of c p edge peer))) _ _
    (rows_same t l peer (bgp_state_of c p edge peer) m ∙ row) (of_peer t l c p edge peer m)
  where
    first_of_three : {A : Type 0} (b d : Bool) (x y z : A) → b ≡ true → d ≡ true → (if b then if d then x else y else z) ≡ x
    first_of_three b d x y z e f = ap (λ h. if h then if d then x else y else z) e ∙ ap (λ h. if h then x else y) f

-- what the edge then tells
pub told_back : (state : BgpState) (m : Telling) (exports : List Export) → has_bgp_row state m ≡ true
    → reply state m exports ≡ cond (reply_in state).say_keep (BgpKeepAlive ∷ []) [] ++ cond (reply_in state).became_established
    (map (λ export. Announcement export) exports) []
told_back Idle m exports h = idle m h
  where
    idle : (m : Telling) → has_bgp_row Idle m ≡ true → reply Idle m exports ≡ []
    idle Open h = refl
    idle BgpKeepAlive h = refl
    idle (Announcement e) h = refl
    idle (Withdrawal v p) h = refl
told_back OpenSent Open exports h = refl
told_back OpenSent BgpKeepAlive exports h = cc
told_back OpenSent (Announcement e) exports h = cc
told_back OpenSent (Withdrawal v p) exports h = cc
told_back OpenConfirm Open exports h = cc
told_back OpenConfirm BgpKeepAlive exports h = refl
told_back OpenConfirm (Announcement e) exports h = cc
told_back OpenConfirm (Withdrawal v p) exports h = cc
told_back Established Open exports h = cc
told_back Established BgpKeepAlive exports h = refl
told_back Established (Announcement e) exports h = refl
told_back Established (Withdrawal v p) exports h = refl

-- 2. The session goes on as the table says

heard_more : (n : ℕ) → state_heard (n + 1) ≡ next_state (state_heard n)
heard_more n = ap state_heard (add-one n) ∙ by_count n
  where
    by_count : (n : ℕ) → state_heard (suc n) ≡ next_state (state_heard n)
    by_count zero = refl
    by_count (suc zero) = refl
    by_count (suc (suc more)) = refl

pub hears : (t : Network) (l : Labels) (c : Config) (p : Peerings) (a b : NodeNo) → peers_live c b.0 a.0 ≡ true
    → has_bgp_row (bgp_state_of c p b.0 a.0) (slice_index_or (p.told a.0 b.0) (p.heard b.0 a.0) Open) ≡ true
    → session_in t c (peerings_after t c c p (step.HearBgp a b)) b.0 a.0 ≡ after_message (session_in t c p b.0 a.0)
    (message_in t l a.0 (slice_index_or (p.told a.0 b.0) (p.heard b.0 a.0) Open))
unfolding peerings_after
hears t l c p a b alive row =
    ap in_state (ap (λ n. if peers_live c b.0 a.0 then state_heard n else Idle) (pair_here p.heard b.0 a.0 (p.heard b.0 a.0 + 1))
    ∙ ap (λ x. if x then state_heard (p.heard b.0 a.0 + 1) else Idle) alive ∙ heard_more (p.heard b.0 a.0)
    ∙ ap (λ x. next_state (if x then state_heard (p.heard b.0 a.0) else Idle)) (sym alive))
    ∙ sym (ap (λ r. in_state (state_if r (bgp_state_of c p b.0 a.0))) (taken t l c p b.0 a.0 (slice_index_or (p.told a.0 b.0) (p.heard b.0 a.0) Open) row))
  where
    in_state : BgpState → BgpSession
    in_state state = record { asn = t.asn; me = loopback t b.0; peer = loopback t a.0; state = state }

-- 3. What is written is read as the message

pub read_again : (t : Network) (l : Labels) (teller : ℕ) (m : Telling) → t.asn < 2 ^ 16 → loopback t teller < 2 ^ 32 → IsWritable t l m →
    IsBgp (bytes_in t l teller m) (message_in t l teller m)
read_again t l teller Open asn address w = open_is_spelled t.asn (loopback t teller) asn address
read_again t l teller BgpKeepAlive asn address w = record { body = []; is_body = refl; within = omega arith; whole = refl }
read_again t l teller (Announcement e) asn address w =
    announced_is_spelled (loopback t teller) (route_of t l e) (as_targets e.targets) address (written_short (route_of t l e) false w.0) w.1
    (written_is_route (route_of t l e) false w.0) (written_are_targets (as_targets e.targets) w.2)
read_again t l teller (Withdrawal v p) asn address w =
    withdrawn_is_spelled (vrf_at t v).rd p (written_short (withdrawn_route (vrf_at t v).rd p) true w)
    (written_is_route (withdrawn_route (vrf_at t v).rd p) true w)

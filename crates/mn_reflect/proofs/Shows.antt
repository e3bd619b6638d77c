-- A row that is received so, but for one peer's last mention of a route.
use Rattle.std.proofs.Common.{ℕ, ◌≡◌, ◌<◌, false, List, [], length, sym, ap, ◌∙◌, Option, Some, None, inl, inr}
use Rattle.std.specs.Prelude.{◌||◌, slice_index_or, if◌then◌else◌}
use Rattle.mn_base.proofs.Bools.{two_ways}
use Rattle.mn_prefix.specs.Prefix.{AddressBlock}
use Rattle.mn_offers.specs.Heard.{Heard, heard_before, place_of, heard_at, with_heard, without_heard}
use Rattle.mn_offers.proofs.ByName.{heard_order}
use Rattle.mn_reflect_ledger_laws.specs.Words.{Key}
use Rattle.mn_reflect_world_laws.specs.Choice.{row_at}
use Rattle.mn_reflect_world_laws.specs.Goes.{set_at}
use Rattle.mn_reflect_world_laws.proofs.At.{at_with, at_without}
use Rattle.mn_reflect_telling.specs.Mentions.{Shows}
use Rattle.mn_reflect.specs.Doing.{mentioned_in, IsNamed}
use Rattle.mn_reflect.proofs.Tables.{cell_same, cell_other}

-- 1. A route in its own place

never_before_itself : (h : Heard) → heard_before h h ≡ false
never_before_itself h = elim (two_ways (heard_before h h)) [ inl e ↦ absurd (heard_order.one_way h h e e) | inr n ↦ n ]

in_its_place : (h : Heard) → (heard_before h (place_of h.vrf h.prefix) || heard_before (place_of h.vrf h.prefix) h) ≡ false
in_its_place h = ap (λ b. b || b) (never_before_itself h)

-- what is put is found
pub found_with : (h : Heard) (routes : List Heard) → heard_at h.vrf h.prefix (with_heard h routes) ≡ Some h
found_with h routes =
    at_with heard_before heard_order (place_of h.vrf h.prefix) h routes
    ∙ ap (λ b. if b then heard_at h.vrf h.prefix routes else Some h) (in_its_place h)

-- and what is taken out isn't
pub found_without : (v : ℕ) (p : AddressBlock) (routes : List Heard) → heard_at v p (without_heard v p routes) ≡ None
found_without v p routes =
    at_without heard_before heard_order (place_of v p) (place_of v p) routes
    ∙ ap (λ b. if b then heard_at v p routes else None) (ap (λ b. b || b) (never_before_itself (place_of v p)))

pub found_mention : (key : Key) (mention : Option Heard) (routes : List Heard) → IsNamed key mention →
    heard_at key.vrf key.prefix (mentioned_in key mention routes) ≡ mention
found_mention key None routes named = found_without key.vrf key.prefix routes
found_mention key (Some h) routes named =
    ap (λ v. heard_at v key.prefix (with_heard h routes)) (sym named.0)
    ∙ ap (λ p. heard_at h.vrf p (with_heard h routes)) (sym named.1) ∙ found_with h routes

-- 2. The row once a peer's last mention is kept

pub kept_shows : (heard : List (List (List Heard))) (node peer : ℕ) (key : Key) (mention : Option Heard) → IsNamed key mention → node < length heard →
    peer < length (slice_index_or heard node []) →
    Shows (slice_index_or heard node []) key peer mention (row_at (set_at node peer (mentioned_in key mention (row_at heard node peer)) heard) node)
kept_shows heard node peer key mention named below within = record {
  others = λ other apart. cell_other node peer (mentioned_in key mention (row_at heard node peer)) heard [] other below apart;
  said = ap (heard_at key.vrf key.prefix) (cell_same node peer (mentioned_in key mention (row_at heard node peer)) heard [] below within)
      ∙ found_mention key mention (row_at heard node peer) named;
}

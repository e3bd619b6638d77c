-- The one route of an UPDATE, announced or withdrawn.
use Rattle.std.proofs.Common.{ℕ, suc, ◌≡◌, ◌<◌, List, [], ◌∷◌, length, refl, arith, sym, ap, ◌∙◌, Option, Some, None}
use Rattle.std.specs.Prelude.{slice_index_or}
use Rattle.mn_base.specs.declared.numbers.VrfNo.{VrfNo}
use Rattle.mn_prefix.specs.Prefix.{AddressBlock}
use Rattle.mn_vpn_nlri.specs.declared.message.VpnRoute.{VpnRoute}
use Rattle.mn_topo.specs.Network.{Network}
use Rattle.mn_ledger.specs.Places.{vrf_at}
use Rattle.mn_bgp_wire.specs.Says.{Says}
use Rattle.mn_bgp_wire.specs.Written.{withdrawn_route}
use Rattle.mn_bgp_reflected.specs.Says.{SaysReflected}
use Rattle.mn_offers.specs.Heard.{Heard}
use Rattle.mn_reflect_ledger_laws.specs.Words.{Key}
use Rattle.mn_reflect_world_laws.specs.Now.{ReflectNow}
use Rattle.mn_reflect_world_laws.specs.Letters.{vpn_route_of}
use Rattle.mn_reflect_telling.specs.Names.{named}
use Rattle.mn_reflect_telling.specs.Passing.{IsPassable}
use Rattle.mn_reflect_telling.specs.Mentions.{key_of_heard}
use Rattle.mn_reflect.specs.Doing.{IsSaying, SaysOf, route_heard}

heads_same : {A : Type 0} (x y : A) → x ∷ [] ≡ y ∷ [] → x ≡ y
heads_same x y h = ap (λ xs. elim xs [ [] ↦ x | z ∷ zs ↦ z ]) h

not_empty : {A : Type 0} (x : A) → x ∷ [] ≡ [] → ⊥
not_empty x h = cc

-- the one of a list
pub one_item : {A : Type 0} (xs : List A) (x : A) → length xs ≡ 1 → x ≡ slice_index_or xs 0 x → xs ≡ x ∷ []
one_item [] x one is = absurd (none 0 refl one)
  where
    none : (k : ℕ) → k ≡ 0 → k ≡ 1 → ⊥
    none k h g = omega (arith, h, g)
one_item (y ∷ []) x one is = ap (λ z. z ∷ []) (sym is)
one_item (y ∷ z ∷ zs) x one is = absurd (more (length zs) one)
  where
    more : (n : ℕ) → suc (suc n) ≡ 1 → ⊥
    more n h = omega (arith, h)

-- an announcement is of this route
pub record IsAnnounced (t : Network) (said : SaysReflected) (r : VpnRoute) (key : Key) (mention : Option Heard) : Type 0 where
  pub route : Heard
  pub mention_is : mention ≡ Some route
  pub key_is : key_of_heard route ≡ key
  pub passable : IsPassable t route
  pub route_is : r ≡ vpn_route_of t route
  pub targets : said.update.targets ≡ route.targets
  pub clusters : said.clusters ≡ route.clusters

same_key : (route : Heard) (key : Key) → route.vrf ≡ key.vrf → route.prefix ≡ key.prefix → key_of_heard route ≡ key
same_key route key v p =
    ap (λ n. let k : Key = record { vrf = n; prefix = route.prefix } in k) v ∙ ap (λ b. let k : Key = record { vrf = key.vrf; prefix = b } in k) p

pub announced_is : (t : Network) (said : SaysReflected) (r : VpnRoute) (key : Key) (mention : Option Heard) → IsSaying t said key mention →
    said.update.reached ≡ r ∷ [] → IsAnnounced t said r key mention
announced_is t said r key None h is =
    let update : SaysOf t said key None = h.says in
    absurd (not_empty r (sym is ∙ ap (λ (s : Says). s.reached) update))
announced_is t said r key (Some route) h is =
    let says : SaysOf t said key (Some route) = h.says in
    record {
      route = route;
      mention_is = refl;
      key_is = same_key route key says.2.0 says.2.1;
      passable = h.passable;
      route_is = heads_same r (vpn_route_of t route) (sym is ∙ ap (λ (s : Says). s.reached) says.0);
      targets = ap (λ (s : Says). s.targets) says.0;
      clusters = says.1;
    }

pub record IsWithdrawn (t : Network) (r : VpnRoute) (key : Key) (mention : Option Heard) : Type 0 where
  pub mention_is : mention ≡ None
  pub within : key.vrf < length t.vrfs
  pub rd : r.rd ≡ (vrf_at t key.vrf).rd
  pub prefix : r.prefix ≡ key.prefix

pub withdrawn_is : (t : Network) (said : SaysReflected) (r : VpnRoute) (key : Key) (mention : Option Heard) → IsSaying t said key mention →
    said.update.withdrawn ≡ r ∷ [] → IsWithdrawn t r key mention
withdrawn_is t said r key (Some route) h is =
    let says : SaysOf t said key (Some route) = h.says in
    absurd (not_empty r (sym is ∙ ap (λ (s : Says). s.withdrawn) says.0))
withdrawn_is t said r key None h is =
    let update : SaysOf t said key None = h.says in
    let same : r ≡ withdrawn_route (vrf_at t key.vrf).rd key.prefix =
    heads_same r (withdrawn_route (vrf_at t key.vrf).rd key.prefix) (sym is ∙ ap (λ (s : Says). s.withdrawn) update) in
    record { mention_is = refl; within = h.vrf; rd = ap (λ (x : VpnRoute). x.rd) same; prefix = ap (λ (x : VpnRoute). x.prefix) same }

-- it is one or the other
pub one_is_said : (t : Network) (said : SaysReflected) (key : Key) (mention : Option Heard) → IsSaying t said key mention →
    ((r : VpnRoute) → said.update.reached ≡ r ∷ [] → ⊥) → ((r : VpnRoute) → said.update.withdrawn ≡ r ∷ [] → ⊥) → ⊥
one_is_said t said key None h announces withdraws =
    let update : SaysOf t said key None = h.says in
    withdraws _ (ap (λ (s : Says). s.withdrawn) update)
one_is_said t said key (Some route) h announces withdraws =
    let says : SaysOf t said key (Some route) = h.says in
    announces _ (ap (λ (s : Says). s.reached) says.0)

-- what is kept of it
pub heard_so : (t : Network) (said : SaysReflected) (r : VpnRoute) (key : Key) (mention : Option Heard) (is : IsAnnounced t said r key mention)
    (offered : Heard) →
    offered ≡ record { vrf = is.route.vrf; prefix = r.prefix; label = r.label; targets = said.update.targets; clusters = said.clusters } → offered ≡ is.route
heard_so t said r key mention is offered e =
    e ∙ ap (λ (x : VpnRoute). let h : Heard =
    record { vrf = is.route.vrf; prefix = x.prefix; label = x.label; targets = said.update.targets; clusters = said.clusters } in h) is.route_is
    ∙ ap (λ ts. let h : Heard = record is.route { targets = ts; clusters = said.clusters } in h) is.targets
    ∙ ap (λ cs. let h : Heard = record is.route { clusters = cs } in h) is.clusters

-- and then the node has received it
pub takes_it : (t : Network) (said : SaysReflected) (r : VpnRoute) (key : Key) (mention : Option Heard) (is : IsAnnounced t said r key mention)
    (offered : Heard)
    (node peer : ℕ) (old new : ReflectNow) → offered ≡ is.route → new ≡ route_heard node peer (key_of_heard offered) (Some offered) old →
    new ≡ route_heard node peer key mention old
takes_it t said r key mention is offered node peer old new same h =
    h ∙ ap (λ (x : Heard). route_heard node peer (key_of_heard x) (Some x) old) same
    ∙ ap (λ k. route_heard node peer k (Some is.route) old) is.key_is ∙ ap (λ m. route_heard node peer key m old) (sym is.mention_is)

pub loses_it : (t : Network) (r : VpnRoute) (key : Key) (mention : Option Heard) (is : IsWithdrawn t r key mention) (v : VrfNo) (prefix : AddressBlock)
    (node peer : ℕ) (old new : ReflectNow) → v ≡ record { 0 = key.vrf } → prefix ≡ r.prefix → new ≡ route_heard node peer (named v prefix) None old →
    new ≡ route_heard node peer key mention old
loses_it t r key mention is v prefix node peer old new same at h =
    h ∙ ap (λ (x : VrfNo). route_heard node peer (named x prefix) None old) same
    ∙ ap (λ p. route_heard node peer (named (record { 0 = key.vrf }) p) None old) (at ∙ is.prefix)
    ∙ ap (λ m. route_heard node peer key m old) (sym is.mention_is)

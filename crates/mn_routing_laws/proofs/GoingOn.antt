-- After a lawful journal each step that fits and isn't refused changes the routes as its parts say.
use Rattle.std.proofs.Common.{ℕ, ◌≡◌, ◌⊎◌, ◌≢◌, ◌<◌, inl, inr, Bool, true, false, cond, List, [], ◌∷◌, ◌++◌, length, refl, arith, sym, ◌∙◌, ap, Some, None}
use Rattle.std.specs.Prelude.{◌==◌, ◌&&◌, ◌||◌, not, nat_lt, nat_le, if◌then◌else◌}
use Rattle.std.specs.List.{list_any}
use Rattle.std.proofs.lemmas.Bool.Decides.{eqb_tells, nat_tests}
use Rattle.mn_base.proofs.Bools.{no, and_left, and_right, or_off, not_false, less_is, less_tells, two_ways}
use Rattle.mn_prefix.specs.Prefix.{AddressBlock, same_prefix}
use Rattle.mn_topo.specs.Network.{Network}
use Rattle.mn_topo.specs.VrfTable.{is_edge}
use Rattle.mn_topo.specs.Lawful.{IsLawful}
use Rattle.mn_topo.specs.SiteTable.{is_lawful_prefix}
use Rattle.mn_topo.specs.Steps.{fits}
use Rattle.mn_topo.specs.declared.steps.Step.{Step}
use Rattle.mn_topo.specs.declared.steps.Step.TheVariants as step
use Rattle.mn_base.specs.Numbers.{has_rt_form}
use Rattle.mn_ledger.specs.World.{SiteRoute, Config, World}
use Rattle.mn_ledger.specs.Bgp.{peers_live, peerings_after}
use Rattle.mn_ledger.specs.Ledger.{is_static, config_after, start, world_of, packets_of}
use Rattle.mn_ledger.specs.Packets.{Packets}
use Rattle.mn_ledger.specs.declared.refused.Refused.{Refused}
use Rattle.mn_ledger.specs.declared.refused.Refused.TheVariants.{NoRouteThere}
use Rattle.mn_ledger.specs.Turns.{IsInTurn, PeersAreInTurn}
use Rattle.mn_ledger.proofs.Members.{In}
use Rattle.mn_ledger.proofs.More.{world_from-push}
use Rattle.mn_ledger.proofs.Peers.{live_sym}
use Rattle.mn_ledger.proofs.InTurn.{in_order, in_turn, rows}
use Rattle.mn_ledger.proofs.Refusals.{IsFree, free}
use Rattle.mn_ledger_laws.proofs.There.{edge_there, home_there}
use Rattle.mn_frame_laws.specs.Numbers.{labels_of}
use Rattle.mn_bgp_spelling_laws.specs.Spelling.{Labels}
use Rattle.mn_routing_laws.proofs.Growing.{table_grows}
use Rattle.mn_routing_laws.specs.Labels.{labels_after, next_label}
use Rattle.mn_routing_laws.specs.Whole.{routes_in}
use Rattle.mn_routing_laws.specs.Changes.{routes_after, GoByParts}
use Rattle.mn_routing_laws.proofs.Hearing.{IsInTurn as HeardInTurn}
use Rattle.mn_routing_laws.proofs.Removing.{two_prefixes}
use Rattle.mn_routing_laws.proofs.Whole.{hears_whole}
use Rattle.mn_routing_laws.proofs.Parts.{import_whole, export_whole, add_whole, del_whole, attach_whole, detach_whole, up_whole, down_whole}
use Rattle.mn_routing_laws.proofs.Lawful.{Rests, rests, below_of}

pub heard_turn : (w : World) → PeersAreInTurn w.config w.peerings → HeardInTurn w.peerings
heard_turn w turn edge peer d = (turn edge peer d).heard

pub at_site : (t : Network) (s : ℕ) (p : AddressBlock) → (nat_lt s (length t.sites) && is_lawful_prefix p) ≡ true → s < length t.sites
at_site t s p fit = less_tells s (length t.sites) (and_left (nat_lt s (length t.sites)) (is_lawful_prefix p) fit)

pub at_vrf : (t : Network) (v target : ℕ) → (nat_lt v (length t.vrfs) && has_rt_form target) ≡ true → v < length t.vrfs
at_vrf t v target fit = less_tells v (length t.vrfs) (and_left (nat_lt v (length t.vrfs)) (has_rt_form target) fit)

pub edge_below : (t : Network) (node : ℕ) → IsLawful t → is_edge t.vrfs node ≡ true → node < length t.loopbacks
edge_below t node lawful h = below_of (length t.loopbacks) node t.vrfs lawful.vrfs.formed h

-- what two edges are
pub two_below : (t : Network) (a b : ℕ) (c : Bool) → IsLawful t → ((is_edge t.vrfs a && is_edge t.vrfs b) && c) ≡ true → (a < length t.loopbacks) ×
    (b < length t.loopbacks)
two_below t a b c lawful fit =
    let pair = and_left (is_edge t.vrfs a && is_edge t.vrfs b) c fit in
    (edge_below t a lawful (and_left (is_edge t.vrfs a) (is_edge t.vrfs b) pair), edge_below t b lawful (and_right (is_edge t.vrfs a) (is_edge t.vrfs b) pair))

-- none lives that is off
pub live_off : (c : Config) (a b : ℕ) → a < b → c.bgp_on a b ≡ false → peers_live c a b ≡ false
live_off c a b first off = ap (λ x. if x then c.bgp_on a b else c.bgp_on b a) (less_is a b first) ∙ off

any_there : (s : ℕ) (p : AddressBlock) (xs : List SiteRoute) → list_any (is_static s p) xs ≡ true → In xs (record { site = s; prefix = p })
any_there s p [] h = absurd (no h)
any_there s p (x ∷ xs) h = elim (two_ways (is_static s p x)) [
  | inl here ↦ inl (same here)
  | inr off ↦ inr (any_there s p xs (ap (λ b. b || list_any (is_static s p) xs) (sym off) ∙ h))
]
  where
    same : is_static s p x ≡ true → x ≡ record { site = s; prefix = p }
    same here = elim (two_prefixes x.prefix p) [
      | inl e ↦ ap (λ n. let r : SiteRoute = record { site = n; prefix = x.prefix } in r) (site (eqb_tells x.site s))
          ∙ ap (λ q. let r : SiteRoute = record { site = s; prefix = q } in r) e.0
      | inr e ↦ absurd (no (sym e.0 ∙ and_right (x.site == s) (same_prefix x.prefix p) here))
    ]
      where
        site : (((x.site == s) ≡ true) × (x.site ≡ s)) ⊎ (((x.site == s) ≡ false) × (x.site ≢ s)) → x.site ≡ s
        site d = elim d [ inl e ↦ e.1 | inr e ↦ absurd (no (sym e.0 ∙ and_left (x.site == s) (same_prefix x.prefix p) here)) ]

pub static_there : (s : ℕ) (p : AddressBlock) (xs : List SiteRoute) (bad : Refused) (b : Bool) → list_any (is_static s p) xs ≡ b →
    cond b None (Some bad) ≡ None → In xs (record { site = s; prefix = p })
static_there s p xs bad true e h = any_there s p xs e
static_there s p xs bad false e h = absurd (let none : Some bad ≡ None → ⊥ = (λ q. cc) in none h)

-- the next message of a living session
pub next_there : (heard told : ℕ) → nat_le told heard ≡ false → heard < told
next_there heard told h = grind (arith, nat_tests, h)

pub go_by : (t : Network) (gives : ℕ → ℕ) (l : Labels) (w : World) (k : Packets) (n : ℕ) (b : List ℕ) (s : Step) → IsLawful t → Rests t w → IsInTurn t w →
    fits t s ≡ true →
    IsFree t w k n s b
    → routes_in t (labels_after gives w.config l s) (config_after w.config s) (peerings_after t w.config (config_after w.config s) w.peerings s)
    ≡ routes_after t gives l w (routes_in t l w.config w.peerings) s
unfolding peerings_after
go_by t gives l w k n b (step.BgpUp x y) lawful h turn fit ok =
    let first : x.0 < y.0 = in_order t (step.BgpUp x y) fit in
    let below = two_below t x.0 y.0 (nat_lt x.0 y.0) lawful fit in
    let off : peers_live w.config x.0 y.0 ≡ false = live_off w.config x.0 y.0 first ok.changes in
    up_whole t l w.config w.peerings x y first below.1 off (sym (live_sym w.config x.0 y.0 (λ e. omega (arith, first, e))) ∙ off) (heard_turn w turn.bgp)
go_by t gives l w k n b (step.BgpDown x y) lawful h turn fit ok =
    down_whole t l w.config w.peerings x y (in_order t (step.BgpDown x y) fit) (two_below t x.0 y.0 (nat_lt x.0 y.0) lawful fit).1 (heard_turn w turn.bgp)
go_by t gives l w k n b (step.HearBgp x y) lawful h turn fit ok =
    let apart : x.0 ≢ y.0 = in_order t (step.HearBgp x y) fit in
    let below = two_below t x.0 y.0 (not (x.0 == y.0)) lawful fit in
    let parts = or_off (not (peers_live w.config x.0 y.0)) (nat_le (length (w.peerings.told x.0 y.0)) (w.peerings.heard y.0 x.0)) ok.there in
    let alive : peers_live w.config y.0 x.0 ≡ true = sym (live_sym w.config x.0 y.0 apart) ∙ not_false (peers_live w.config x.0 y.0) parts.0 in
    let more : w.peerings.heard y.0 x.0 < length (w.peerings.told x.0 y.0) = next_there (w.peerings.heard y.0 x.0) (length (w.peerings.told x.0 y.0)) parts.1 in
    hears_whole t l w.config w.peerings x y apart below.0 below.1 alive more ((rows t w lawful turn).bgp y.0 x.0 (λ e. apart (sym e)) alive more)
    (heard_turn w turn.bgp)
go_by t gives l w k n b (step.AddRoute s p) lawful h turn fit ok =
    add_whole t l w.config w.peerings s p (home_there t s.0 lawful (at_site t s.0 p fit)) (heard_turn w turn.bgp)
go_by t gives l w k n b (step.DelRoute s p) lawful h turn fit ok =
    del_whole t l w.config w.peerings s p (home_there t s.0 lawful (at_site t s.0 p fit)) (heard_turn w turn.bgp) h.statics
    (static_there s.0 p w.config.statics NoRouteThere (list_any (is_static s.0 p) w.config.statics) refl ok.statics)
go_by t gives l w k n b (step.Import v on target) lawful h turn fit ok =
    import_whole t l w.config w.peerings v target on (edge_there t v.0 lawful (at_vrf t v.0 target.0 fit)) (heard_turn w turn.bgp)
go_by t gives l w k n b (step.Export v on target) lawful h turn fit ok =
    export_whole t l w.config w.peerings v target on (edge_there t v.0 lawful (at_vrf t v.0 target.0 fit)) (heard_turn w turn.bgp)
go_by t gives l w k n b (step.Attach s) lawful h turn fit ok =
    let there : s.0 < length t.sites = less_tells s.0 (length t.sites) fit in
    attach_whole t gives l w.config w.peerings s (home_there t s.0 lawful there) there (heard_turn w turn.bgp) (λ teller peer m i. (h.sound teller peer m i).1)
go_by t gives l w k n b (step.Detach s) lawful h turn fit ok =
    let there : s.0 < length t.sites = less_tells s.0 (length t.sites) fit in
    detach_whole t l w.config w.peerings s (home_there t s.0 lawful there) there (heard_turn w turn.bgp)
go_by t gives l w k n b _ lawful h turn fit ok = refl

pub goes_by_parts : GoByParts
goes_by_parts t es ps e b lawful journal fit none =
    let w : World = world_of t es in
    ap (λ (v : World). routes_in t (labels_of t (es ++ e ∷ [])) v.config v.peerings) (world_from-push t es (start t) e)
    ∙ ap (λ l. routes_in t l (config_after w.config e.step) (peerings_after t w.config (config_after w.config e.step) w.peerings e.step)) (table_grows t es e)
    ∙ go_by t (next_label t es) (labels_of t es) w (packets_of t es ps) (length es) b e.step lawful (rests t es ps lawful journal)
    (in_turn t es ps lawful journal) fit
    (free t w (packets_of t es ps) (length es) e.step b none)

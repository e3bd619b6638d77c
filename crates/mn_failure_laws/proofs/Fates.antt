-- A configuration that is the failure's has the same label switched paths, and so the same fates.
use Rattle.std.proofs.Common.{ℕ, zero, suc, ◌≡◌, ◌<◌, inl, inr, Bool, true, false, cond, List, [], ◌∷◌, filter, length, refl, arith, sym, ◌∙◌, ap, subst}
use Rattle.std.proofs.Common.{Option, None, Some}
use Rattle.std.specs.Prelude.{◌==◌, ◌&&◌, nat_lt, is_some, slice_index_or}
use Rattle.std.specs.List.{list_all, list_any}
use Rattle.std.proofs.lemmas.Bool.{ltb-true}
use Rattle.std.proofs.lemmas.Option.{same_Some}
use Rattle.mn_base.proofs.Bools.{and_parts, less_tells, none_below}
use Rattle.mn_wiring.specs.Wiring.{Wiring, View, is_end, across, links_of, links_at}
use Rattle.mn_wiring.specs.Paths.{dist_in, dists_to, is_on_least, nearer, nearest, next_by, next}
use Rattle.mn_ipv4.specs.Header.{ttl_of, destination_of}
use Rattle.mn_topo.specs.Network.{Network, wiring_of}
use Rattle.mn_topo.specs.Lawful.{IsLawful}
use Rattle.mn_topo.specs.Steps.{fits}
use Rattle.mn_topo.specs.declared.sites.SiteDef.{SiteDef}
use Rattle.mn_topo.specs.declared.steps.JournalEntry.{JournalEntry}
use Rattle.mn_ledger.specs.Entry.{first_rule}
use Rattle.mn_ledger.specs.Places.{home_of, vrf_of, edges}
use Rattle.mn_ledger.specs.World.{Config}
use Rattle.mn_ledger.specs.Held.{HeldRoute, best}
use Rattle.mn_ledger.specs.Packets.{entry_rules}
use Rattle.mn_ledger.specs.Eligible.{covers, only_if}
use Rattle.mn_ledger.specs.Ledger.{packets_of}
use Rattle.mn_ledger.specs.Lawful.{IsLawfulJournal}
use Rattle.mn_ledger.proofs.Members.{In, in_filter, in_range}
use Rattle.mn_ledger_laws.specs.Accounts.{Sending, world_at}
use Rattle.mn_ledger_laws.proofs.At.{lawful_step}
use Rattle.mn_fate_laws.specs.Fate.{HasFate}
use Rattle.mn_reach_laws.specs.Fates.{up_links, before, over_hop, lsp_within, lsp_by, lsp, routes_at_rest, is_reached, taking_part, ends_over, ends_towards}
use Rattle.mn_reach_laws.specs.Fates.{ends_by, verdict_at_rest}
use Rattle.mn_reach_laws.proofs.Homes.{home-is-edge}
use Rattle.mn_resting_laws.specs.Resting.{IsSentAtRest}
use Rattle.mn_resting_laws.proofs.Stretches.{have_their_fates}
use Rattle.mn_failure_laws.specs.Failures.{Failure, config_under, IsUnder}
use Rattle.mn_failure_laws.specs.Fates.{fate_to, fate_under, AllComeToTheirFates}
use Rattle.mn_failure_laws.proofs.Same.{same_filter, same_map}
use Rattle.mn_failure_laws.proofs.Routes.{same_routes}

-- 1. A next hop goes over a link that is there

one_of_two : (ls : List ℕ) (b : Bool) (here there : ℕ × ℕ) → In ls there.1 → (hop : ℕ × ℕ) → Some (cond b there here) ≡ Some hop → In (here.1 ∷ ls) hop.1
one_of_two ls true here there i hop e = inr (subst (λ (h : ℕ × ℕ). In ls h.1) (same_Some there hop e) i)
one_of_two ls false here there i hop e = inl (ap (λ (h : ℕ × ℕ). h.1) (same_Some here hop e))

nearest_in : (w : Wiring) (node : ℕ) (ls : List ℕ) (hop : ℕ × ℕ) → nearest w node ls ≡ Some hop → In ls hop.1
nearest_in w node [] hop e = absurd (none e)
  where
    none : None ≡ Some hop → ⊥
    none e = cc
nearest_in w node (l ∷ ls) hop e = by (nearest w node ls) (nearest_in w node ls) e
  where
    by : (o : Option (ℕ × ℕ)) → ((h : ℕ × ℕ) → o ≡ Some h → In ls h.1) → nearer (across w l node, l) o ≡ Some hop → In (l ∷ ls) hop.1
    by None more g = inl (ap (λ (h : ℕ × ℕ). h.1) (same_Some (across w l node, l) hop g))
    by (Some h) more g = one_of_two ls (nat_lt h.0 (across w l node)) (across w l node, l) h (more h refl) hop g

next_there : (w : Wiring) (view : View) (from to : ℕ) (hop : ℕ × ℕ) → next w view from to ≡ Some hop → hop.1 < length w.ends
unfolding next
next_there w view from to hop e = by (from == to) e
  where
    none : None ≡ Some hop → ⊥
    none e = cc

    by : (b : Bool) → (elim b as (λ _. Option (ℕ × ℕ)) [ true ↦ None | false ↦ next_by w view (dists_to w view to) from ]) ≡ Some hop → hop.1 < length w.ends
    by true g = absurd (none g)
    by false g =
        let i = nearest_in w from (filter (is_on_least w view (dists_to w view to) from) (links_at w from)) hop g in
        let j = in_filter (is_on_least w view (dists_to w view to) from) (links_at w from) hop.1 i in
        let k = in_filter (λ l. is_end w l from) (links_of w) hop.1 j.0 in
        let r = in_range 0 (length w.ends) hop.1 k.0 in
        omega (arith, r.1)

-- 2. The same label switched paths

same_over : (a b : Config) (node : ℕ) (rest others : ℕ → Option (List ℕ)) (o : Option (ℕ × ℕ))
    → ((hop : ℕ) → rest hop ≡ others hop) → ((hop : ℕ × ℕ) → o ≡ Some hop → a.ldp_on hop.1 ≡ b.ldp_on hop.1) → over_hop a node rest o ≡ over_hop b node others o
same_over a b node rest others None same on = refl
same_over a b node rest others (Some hop) same on =
    ap (λ c. cond c (before node (rest hop.0)) None) (on hop refl) ∙ ap (λ r. cond (b.ldp_on hop.1) (before node r) None) (same hop.0)

vrf_there : (t : Network) → IsLawful t → (s : ℕ) → s < length t.sites → vrf_of t s < length t.vrfs
vrf_there t lawful s below = less_tells (vrf_of t s) (length t.vrfs) (each t.sites _ s lawful.sites.placed below)
  where
    each : (xs : List SiteDef) (d : SiteDef) (i : ℕ) → list_all (λ site. nat_lt site.vrf.0 (length t.vrfs)) xs ≡ true → i < length xs
        → nat_lt (slice_index_or xs i d).vrf.0 (length t.vrfs) ≡ true
    each [] d i h g = absurd (none_below i g)
    each (x ∷ xs) d zero h g = (and_parts _ _ h).0
    each (x ∷ xs) d (suc i) h g = each xs d i (and_parts _ _ h).1 (omega (arith, g))

only_same : (c : Bool) (p q : HeldRoute → Bool) (xs : List HeldRoute) → ((r : HeldRoute) → p r ≡ q r) → only_if c p xs ≡ only_if c q xs
only_same true p q xs h = same_filter p q xs (λ r i. h r)
only_same false p q xs h = refl

module _ (t : Network) (a : Config) (f : Failure) (under : IsUnder t a f) where
  abbrev b : Config
  b = config_under t f

  same_up : up_links t a ≡ up_links t b
  same_up = same_map a.is_up b.is_up (links_of (wiring_of t)) (λ l i. let r = in_range 0 (length t.links) l i in under.links l (omega (arith, r.1)))

  same_within : (n node to : ℕ) → lsp_within t a n node to ≡ lsp_within t b n node to
  same_within zero node to = refl
  same_within (suc n) node to =
      ap (λ view. cond (node == to) (Some (node ∷ [])) (over_hop a node (λ hop. lsp_within t a n hop to) (next (wiring_of t) view node to))) same_up
      ∙ ap (cond (node == to) (Some (node ∷ [])))
      (same_over a b node (λ hop. lsp_within t a n hop to) (λ hop. lsp_within t b n hop to) (next (wiring_of t) (up_links t b) node to)
      (λ hop. same_within n hop to) (λ hop e. under.ldp hop.1 (next_there (wiring_of t) (up_links t b) node to hop e)))

  same_lsp : (node to : ℕ) → lsp t a node to ≡ lsp t b node to
  same_lsp node to =
      ap (λ view. lsp_by t a node to (dist_in (dists_to (wiring_of t) view to) node)) same_up ∙ by (dist_in (dists_to (wiring_of t) (up_links t b) to) node)
    where
      by : (o : Option ℕ) → lsp_by t a node to o ≡ lsp_by t b node to o
      by None = refl
      by (Some cost) = same_within (suc cost) node to

  same_reached : (edge : ℕ) (r : HeldRoute) → is_reached t a edge r ≡ is_reached t b edge r
  same_reached edge r = ap is_some (same_lsp edge r.edge)

  same_part : (edge v address : ℕ) → In (edges t) edge → v < length t.vrfs → taking_part t a edge v address ≡ taking_part t b edge v address
  same_part edge v address i below =
      ap (λ rs. only_if (t.resolve && list_any (covers address) (filter (is_reached t a edge) rs)) (is_reached t a edge) rs)
      (same_routes t a f under edge v i below)
      ∙ ap (λ rs. only_if (t.resolve && list_any (covers address) rs) (is_reached t a edge) (routes_at_rest t b edge v))
      (same_filter (is_reached t a edge) (is_reached t b edge) (routes_at_rest t b edge v) (λ r j. same_reached edge r))
      ∙ only_same (t.resolve && list_any (covers address) (filter (is_reached t b edge) (routes_at_rest t b edge v))) (is_reached t a edge)
      (is_reached t b edge)
      (routes_at_rest t b edge v) (same_reached edge)

  same_end : (home ttl : ℕ) (o : Option HeldRoute) → ends_towards t a home ttl o ≡ ends_towards t b home ttl o
  same_end home ttl None = refl
  same_end home ttl (Some r) = ap (ends_over home ttl r) (same_lsp home r.edge)

-- 3. Fates

pub fates : (t : Network) (c : Config) (f : Failure) (s ttl address : ℕ) → IsLawful t → IsUnder t c f → s < length t.sites
    → fate_to t c s ttl address ≡ fate_under t f s ttl address
fates t c f s ttl address lawful under there =
    ap (λ rs. ends_towards t c (home_of t s) ttl (best rs address))
    (same_part t c f under (home_of t s) (vrf_of t s) address (home-is-edge t lawful s there) (vrf_there t lawful s there))
    ∙ same_end t c f under (home_of t s) ttl (best (taking_part t (config_under t f) (home_of t s) (vrf_of t s) address) address)

pub verdicts : (t : Network) (c : Config) (f : Failure) (s : ℕ) (bytes : List ℕ) → IsLawful t → IsUnder t c f → s < length t.sites
    → first_rule (entry_rules (c.attached s) bytes) ≡ None → verdict_at_rest t c s bytes ≡ fate_under t f s (ttl_of bytes) (destination_of bytes)
verdicts t c f s bytes lawful under there enters =
    ap (ends_by t c s bytes) enters ∙ fates t c f s (ttl_of bytes) (destination_of bytes) lawful under there

site_there : (t : Network) (es : List JournalEntry) (ps : List (List ℕ)) (s : Sending) (from to : ℕ) → IsLawfulJournal t es ps
    → IsSentAtRest t es ps s from to → s.site < length t.sites
site_there t es ps s from to journal stands =
    ltb-true _ _ (and_parts _ _ (ap (fits t) (sym stands.sent.injects) ∙ (lawful_step t es ps s.place stands.sent.entry stands.sent.there journal).fitting)).0

pub come_to_their_fates : (t : Network) (f : Failure) → IsLawful t → AllComeToTheirFates t f
come_to_their_fates t f lawful es ps s from to stands =
    subst (HasFate (packets_of t es ps) s.packet)
    (verdicts t (world_at t es from).config f s.site s.bytes lawful stands.under (site_there t es ps s from to stands.journal stands.sent) stands.enters)
    (have_their_fates t es ps lawful stands.journal s from to stands.sent)

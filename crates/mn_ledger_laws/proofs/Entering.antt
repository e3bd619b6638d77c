-- What becomes of a packet as it is sent: it falls to the first rule that applies, reaches a site of the same edge, or flies.
use Rattle.std.proofs.Common.{ℕ, ◌≡◌, ◌-◌, ◌≤◌, inl, inr, Bool, true, false, List, [], ◌∷◌, refl, arith, sym, ◌∙◌, ap, Option, Some, None}
use Rattle.std.specs.Prelude.{◌==◌, ◌&&◌, ◌||◌, not, nat_lt, is_none, is_some, IsTrue, filter}
use Rattle.std.specs.List.{list_any}
use Rattle.std.proofs.lemmas.Bool.Decides.{nat_tests}
use Rattle.std.proofs.lemmas.Option.{same_Some}
use Rattle.mn_drops.specs.declared.drops.Rule.{Rule}
use Rattle.mn_drops.specs.declared.drops.Rule.TheVariants as rule
use Rattle.mn_base.proofs.Bools.{clash, no, and_right}
use Rattle.mn_ipv4.specs.Header.{is_not_ipv4, is_malformed, is_truncated, has_bad_checksum, good, ttl_of, destination_of}
use Rattle.mn_prefix.specs.Prefix.{contains}
use Rattle.mn_topo.specs.Network.{Network}
use Rattle.mn_ledger.specs.Entry.{is_unicast, when, first_rule}
use Rattle.mn_ledger.specs.Places.{home_of, vrf_of}
use Rattle.mn_ledger.specs.World.{World}
use Rattle.mn_ledger.specs.Transport.{usable}
use Rattle.mn_ledger.specs.Held.{HeldRoute, best}
use Rattle.mn_ledger.specs.Best.{IsBest, NamesTheBest}
use Rattle.mn_ledger.specs.Eligible.{is_resolved, covers, only_if}
use Rattle.mn_ledger.proofs.Eligible.{in_those}
use Rattle.mn_ledger.specs.Packets as packets
use Rattle.mn_ledger.specs.Packets.{Packets, bound, hop_over, drop_at, deliver, route_by, enter_by, stamped}
use Rattle.mn_ledger.proofs.Members.{in_contained, filter_in, passes_none, contained_in}
use Rattle.mn_ledger.proofs.Peers.{two_ways}
use Rattle.mn_ledger.proofs.Choice.{in_first, from_unbeaten, none_matches}
use Rattle.mn_ledger_laws.specs.Accounts.{routes_at, eligible_at, MayEnter, FallsTo, rules_at_entry, has_no_path, is_out_of_reach, applies_at_entry}
use Rattle.mn_ledger_laws.proofs.Elsewhere.{arms_by}
use Rattle.mn_ledger.proofs.OneKind.{one_passes}

-- 1. The seven rules before those on routes

-- none of them applies
pub record Passes (t : Network) (w : World) (site : ℕ) (b : List ℕ) : Type 0 where
  pub attached : is_none (w.config.attached site) ≡ false
  pub ipv4 : is_not_ipv4 b ≡ false
  pub formed : is_malformed b ≡ false
  pub whole : is_truncated b ≡ false
  pub summed : has_bad_checksum b ≡ false
  pub lives : nat_lt (ttl_of b) 2 ≡ false
  pub unicast : is_unicast (destination_of b) ≡ true

abbrev pub Falls : Network → World → ℕ → List ℕ → Rule → Type 0
Falls t w site b cause = FallsTo rules_at_entry (applies_at_entry t w site b) cause

abbrev Tells : Network → World → ℕ → List ℕ → Option Rule → Type 0
Tells t w site b (Some cause) = Falls t w site b cause
Tells t w site b None = Passes t w site b

tells_by : (t : Network) (w : World) (site : ℕ) (b : List ℕ) (o p q r s u v : Bool)
    → is_none (w.config.attached site) ≡ o → is_not_ipv4 b ≡ p → is_malformed b ≡ q → is_truncated b ≡ r → has_bad_checksum b ≡ s
    → nat_lt (ttl_of b) 2 ≡ u → is_unicast (destination_of b) ≡ v
    → Tells t w site b (first_rule
    (when o rule.SiteDown ∷ when p rule.NotIpv4 ∷ when q rule.Malformed ∷ when r rule.Truncated ∷ when s rule.BadChecksum ∷ when u
    rule.TtlExpired ∷ when (not v) rule.NotUnicast ∷ []))
tells_by t w site b true p q r s u v g a c d e f h =
    record {
      earlier = [];
      later = rule.NotIpv4 ∷ rule.Malformed ∷ rule.Truncated ∷ rule.BadChecksum ∷ rule.TtlExpired ∷ rule.NotUnicast ∷
          rule.NoRoute ∷ rule.NoLsp ∷ [];
      order = refl;
      here = g;
      not_before = refl;
    }
tells_by t w site b false true q r s u v g a c d e f h =
    record {
      earlier = rule.SiteDown ∷ [];
      later = rule.Malformed ∷ rule.Truncated ∷ rule.BadChecksum ∷ rule.TtlExpired ∷ rule.NotUnicast ∷
          rule.NoRoute ∷ rule.NoLsp ∷ [];
      order = refl;
      here = a;
      not_before = rw g refl;
    }
tells_by t w site b false false true r s u v g a c d e f h =
    record {
      earlier = rule.SiteDown ∷ rule.NotIpv4 ∷ [];
      later = rule.Truncated ∷ rule.BadChecksum ∷ rule.TtlExpired ∷ rule.NotUnicast ∷
          rule.NoRoute ∷ rule.NoLsp ∷ [];
      order = refl;
      here = c;
      not_before = rw (g, a) refl;
    }
tells_by t w site b false false false true s u v g a c d e f h =
    record {
      earlier = rule.SiteDown ∷ rule.NotIpv4 ∷ rule.Malformed ∷ [];
      later = rule.BadChecksum ∷ rule.TtlExpired ∷ rule.NotUnicast ∷
          rule.NoRoute ∷ rule.NoLsp ∷ [];
      order = refl;
      here = d;
      not_before = rw (g, a, c) refl;
    }
tells_by t w site b false false false false true u v g a c d e f h =
    record {
      earlier = rule.SiteDown ∷ rule.NotIpv4 ∷ rule.Malformed ∷ rule.Truncated ∷ [];
      later = rule.TtlExpired ∷ rule.NotUnicast ∷ rule.NoRoute ∷
          rule.NoLsp ∷ [];
      order = refl;
      here = e;
      not_before = rw (g, a, c, d) refl;
    }
tells_by t w site b false false false false false true v g a c d e f h =
    record {
      earlier = rule.SiteDown ∷ rule.NotIpv4 ∷ rule.Malformed ∷ rule.Truncated ∷ rule.BadChecksum ∷ [];
      later = rule.NotUnicast ∷
          rule.NoRoute ∷ rule.NoLsp ∷ [];
      order = refl;
      here = f;
      not_before = rw (g, a, c, d, e) refl;
    }
tells_by t w site b false false false false false false false g a c d e f h =
    record {
      earlier = rule.SiteDown ∷ rule.NotIpv4 ∷ rule.Malformed ∷ rule.Truncated ∷ rule.BadChecksum ∷ rule.TtlExpired ∷ [];
      later = rule.NoRoute ∷ rule.NoLsp ∷ [];
      order = refl;
      here = ap not h;
      not_before = rw (g, a, c, d, e, f) refl;
    }
tells_by t w site b false false false false false false true g a c d e f h =
    record { attached = g; ipv4 = a; formed = c; whole = d; summed = e; lives = f; unicast = h }

tells : (t : Network) (w : World) (site : ℕ) (b : List ℕ) → Tells t w site b (first_rule (packets.entry_rules (w.config.attached site) b))
tells t w site b = tells_by t w site b _ _ _ _ _ _ _ refl refl refl refl refl refl refl

-- 2. The best route

all_good : (b : List ℕ) → is_not_ipv4 b ≡ false → is_malformed b ≡ false → is_truncated b ≡ false → has_bad_checksum b ≡ false → IsTrue (good b)
unfolding good
all_good b p q r s = rw (p, q, r, s) refl

two_left : (n : ℕ) → nat_lt n 2 ≡ false → 2 ≤ n
two_left n h = grind (arith, nat_tests, h)

some_is : {A : Type 0} (o : Option A) → is_none o ≡ false → is_some o ≡ true
some_is None h = absurd (clash h)
some_is (Some x) h = refl

pub best_is : (routes : List HeldRoute) (address : ℕ) (x : HeldRoute) → best routes address ≡ Some x → IsBest routes address x
best_is routes address x h = from_unbeaten routes address x (in_first _ x h)

-- the best route of the site's VRF for the packet
abbrev pub IsBestFor : Network → World → ℕ → List ℕ → HeldRoute → Type 0
IsBestFor t w site b x = best (eligible_at t w site b) (destination_of b) ≡ Some x

pub may_enter : (t : Network) (w : World) (site : ℕ) (b : List ℕ) (x : HeldRoute) → Passes t w site b → IsBestFor t w site b x
    → NamesTheBest (eligible_at t w site b) (destination_of b) → MayEnter t w site b x
may_enter t w site b x p h names = record {
  attached = some_is (w.config.attached site) p.attached;
  is_good = all_good b p.ipv4 p.formed p.whole p.summed;
  lives = two_left (ttl_of b) p.lives;
  unicast = p.unicast;
  is_held = contained_in (routes_at t w site) x
      (in_those _ (is_resolved t w (home_of t site)) (routes_at t w site) x
      (in_contained (eligible_at t w site b) x (best_is (eligible_at t w site b) (destination_of b) x h).held));
  best_route = best_is (eligible_at t w site b) (destination_of b) x h;
  only = λ other o. same_Some other x (sym (names.one other o) ∙ h);
}

none_covers : (routes : List HeldRoute) (address : ℕ) → best routes address ≡ None → list_any (covers address) routes ≡ false
none_covers routes address h = passes_none (covers address) routes
    (λ x i. elim (two_ways (covers address x)) [ inl q ↦ absurd (none_matches routes address h x (filter_in (covers address) routes x i q)) | inr q ↦ q ])

-- where none of those that take part covers the address, none that is held does
none_held : (c : Bool) (p : HeldRoute → Bool) (rs : List HeldRoute) (a : ℕ)
    → best (only_if (c && list_any (covers a) (filter p rs)) p rs) a ≡ None → list_any (covers a) rs ≡ false
none_held c p rs a = by (c && list_any (covers a) (filter p rs)) refl
  where
    by : (q : Bool) → q ≡ (c && list_any (covers a) (filter p rs)) → best (only_if q p rs) a ≡ None → list_any (covers a) rs ≡ false
    by false e h = none_covers rs a h
    by true e h = absurd (no (sym (none_covers (filter p rs) a h) ∙ and_right c (list_any (covers a) (filter p rs)) (sym e)))

-- and where one of them does, one that is held does
some_held : (q : Bool) (p : HeldRoute → Bool) (rs : List HeldRoute) (a : ℕ) (x : HeldRoute) → best (only_if q p rs) a ≡ Some x → list_any (covers a) rs ≡ true
some_held q p rs a x h =
    let b = best_is (only_if q p rs) a x h in
    one_passes (covers a) rs x (in_those q p rs x (in_contained (only_if q p rs) x b.held)) b.matches

no_route : (t : Network) (w : World) (site : ℕ) (b : List ℕ) → Passes t w site b → best (eligible_at t w site b) (destination_of b) ≡ None
    → Falls t w site b rule.NoRoute
no_route t w site b p h = record {
  earlier = rule.SiteDown ∷ rule.NotIpv4 ∷ rule.Malformed ∷ rule.Truncated ∷ rule.BadChecksum ∷ rule.TtlExpired ∷ rule.NotUnicast ∷ [];
  later = rule.NoLsp ∷ [];
  order = refl;
  here = ap not (none_held t.resolve (is_resolved t w (home_of t site)) (routes_at t w site) (destination_of b) h);
  not_before = before _ _ _ _ _ _ _ p.attached p.ipv4 p.formed p.whole p.summed p.lives p.unicast;
}
  where
    before : (a c d e f g h : Bool) → a ≡ false → c ≡ false → d ≡ false → e ≡ false → f ≡ false → g ≡ false → h ≡ true
        → (a || (c || (d || (e || (f || (g || (not h || false))))))) ≡ false
    before a c d e f g h i j k l m n o = rw (i, j, k, l, m, n, o) refl

no_lsp : (t : Network) (w : World) (site : ℕ) (b : List ℕ) (x : HeldRoute) → Passes t w site b → best (eligible_at t w site b) (destination_of b) ≡ Some x
    → (x.edge == home_of t site) ≡ false
    → usable t w.config w.views w.sessions (home_of t site) x.edge ≡ None → Falls t w site b rule.NoLsp
no_lsp t w site b x p h far none = record {
  earlier = rule.SiteDown ∷ rule.NotIpv4 ∷ rule.Malformed ∷ rule.Truncated ∷ rule.BadChecksum ∷ rule.TtlExpired ∷ rule.NotUnicast ∷ rule.NoRoute ∷ [];
  later = [];
  order = refl;
  here = ap (is_out_of_reach t w (home_of t site)) h ∙ ap (λ c. not c && has_no_path t w (home_of t site) x.edge) far ∙ ap is_none none;
  not_before = before _ _ _ _ _ _ _ _ p.attached p.ipv4 p.formed p.whole p.summed p.lives p.unicast
      (some_held _ (is_resolved t w (home_of t site)) (routes_at t w site) (destination_of b) x h);
}
  where
    before : (a c d e f g h r : Bool) → a ≡ false → c ≡ false → d ≡ false → e ≡ false → f ≡ false → g ≡ false → h ≡ true → r ≡ true
        → (a || (c || (d || (e || (f || (g || (not h || (not r || false)))))))) ≡ false
    before a c d e f g h r i j k l m n o q = rw (i, j, k, l, m, n, o, q) refl

-- 3. What becomes of it

-- what has to be shown where a packet falls at entry, is delivered there, and flies
pub record AtEntry (P : Packets → Type 0) (t : Network) (w : World) (u : Packets) (j site : ℕ) (b : List ℕ) : Type 0 where
  pub falls : (cause : Rule) → Falls t w site b cause → P (drop_at u j cause (home_of t site))
  pub delivered : (x : HeldRoute) → Passes t w site b → IsBestFor t w site b x → (x.edge == home_of t site) ≡ true → P (deliver u j x.site (ttl_of b - 1) b)
  pub flies : (x : HeldRoute) (hop : ℕ × ℕ) → Passes t w site b → IsBestFor t w site b x → (x.edge == home_of t site) ≡ false
      → usable t w.config w.views w.sessions (home_of t site) x.edge ≡ Some hop
      → P (hop_over t u (stamped u (bound j x b)) (home_of t site) rule.NoLsp (Some hop))

hops : (P : Packets → Type 0) (t : Network) (w : World) (u : Packets) (j site : ℕ) (b : List ℕ) (x : HeldRoute) → AtEntry P t w u j site b
    → Passes t w site b → best (eligible_at t w site b) (destination_of b) ≡ Some x
    → (x.edge == home_of t site) ≡ false → (o : Option (ℕ × ℕ)) → usable t w.config w.views w.sessions (home_of t site) x.edge ≡ o
    → P (hop_over t u (stamped u (bound j x b)) (home_of t site) rule.NoLsp o)
hops P t w u j site b x h p is far None e = h.falls rule.NoLsp (no_lsp t w site b x p is far e)
hops P t w u j site b x h p is far (Some hop) e = h.flies x hop p is far e

routes : (P : Packets → Type 0) (t : Network) (w : World) (u : Packets) (j site : ℕ) (b : List ℕ) → AtEntry P t w u j site b → Passes t w site b
    → (o : Option HeldRoute) → best (eligible_at t w site b) (destination_of b) ≡ o → P (route_by t w u j b (home_of t site) o)
routes P t w u j site b h p None e = h.falls rule.NoRoute (no_route t w site b p e)
routes P t w u j site b h p (Some x) e =
    arms_by P (x.edge == home_of t site) _ _ (λ q. h.delivered x p e q)
    (λ q. hops P t w u j site b x h p e q (usable t w.config w.views w.sessions (home_of t site) x.edge) refl)

pub enters : (P : Packets → Type 0) (t : Network) (w : World) (u : Packets) (j site : ℕ) (b : List ℕ) → AtEntry P t w u j site b
    → P (enter_by t w u j b (home_of t site) (vrf_of t site) (first_rule (packets.entry_rules (w.config.attached site) b)))
enters P t w u j site b h = by_rule (first_rule (packets.entry_rules (w.config.attached site) b)) (tells t w site b)
  where
    by_rule : (o : Option Rule) → Tells t w site b o → P (enter_by t w u j b (home_of t site) (vrf_of t site) o)
    by_rule (Some cause) g = h.falls cause g
    by_rule None g = routes P t w u j site b h g (best (eligible_at t w site b) (destination_of b)) refl

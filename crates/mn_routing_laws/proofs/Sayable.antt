-- What an edge advertises can be sent: sets of targets ascend and are of their form, 16 at most, and labels have 20 bits.
use Rattle.std.proofs.Common.{ℕ, zero, suc, ◌≡◌, ◌+◌, ◌<◌, ◌≤◌, ◌^◌, inl, inr, Bool, true, false, List, [], ◌∷◌, map}
use Rattle.std.proofs.Common.{length, refl, arith, sym, ◌∙◌, ap, subst, Option, Some, None}
use Rattle.std.specs.Prelude.{◌==◌, nat_lt, slice_index_or, option_map, if◌then◌else◌}
use Rattle.std.specs.List.{range_with_len}
use Rattle.std.proofs.lemmas.Bool.Decides.{eqb_tells}
use Rattle.std.proofs.lemmas.Bool.{and_parts}
use Rattle.std.proofs.lemmas.Option.{same_Some}
use Rattle.mn_base.specs.Numbers.{has_rd_form}
use Rattle.mn_base.specs.Ordered.{IsAscending}
use Rattle.mn_base.specs.declared.numbers.Rt.{Rt}
use Rattle.mn_base.proofs.Members.{In, in_map, in_filter, in_flat_map, in_range}
use Rattle.mn_base.specs.declared.numbers.SiteNo.{SiteNo}
use Rattle.mn_topo.specs.Network.{Network}
use Rattle.mn_topo.specs.Lawful.{IsLawful, is_vrf_of}
use Rattle.mn_topo.specs.declared.steps.Step.{Step}
use Rattle.mn_topo.specs.declared.steps.Step.TheVariants as step
use Rattle.mn_topo.specs.declared.steps.JournalEntry.{JournalEntry}
use Rattle.mn_vpn_nlri.specs.Grammar.{AllTargets}
use Rattle.mn_ledger.specs.Tables.{put_pair}
use Rattle.mn_ledger.specs.Places.{vrf_at, vrfs_at, edge_of, home_of}
use Rattle.mn_ledger.specs.World.{Config, Peerings, World}
use Rattle.mn_ledger.specs.Packets.{Packets}
use Rattle.mn_ledger.specs.Ledger.{after, start, no_packets, next_of, left_by, world_from, world_of, packets_by}
use Rattle.mn_ledger.specs.Lawful.{IsLawfulFrom, IsLawfulJournal}
use Rattle.mn_ledger.proofs.GoingBy.{pair_here, pair_off}
use Rattle.mn_ledger.proofs.Order.{EachBefore, pairs}
use Rattle.mn_ledger.proofs.Refusals.{free}
use Rattle.mn_ledger.proofs.Tidy.{Rise}
use Rattle.mn_ledger_laws.proofs.There.{at_all}
use Rattle.mn_frame_laws.specs.Numbers.{labels_of}
use Rattle.mn_bgp_spelling_laws.specs.Spelling.{Labels, as_targets}
use Rattle.mn_bgp_spelling_laws.specs.Laws.{AreLabels}
use Rattle.mn_bgp_spelling_laws.proofs.Writable.{AreOfForm, AreFewAndFormed, sets_go, first_sets}
use Rattle.mn_vrf.specs.Vrf.{Static, VrfState}
use Rattle.mn_pe.specs.Edge.{Edge}
use Rattle.mn_pe.specs.Held.{Exported, site_label, export_at, present_with, exports_with, exports_of}
use Rattle.mn_routing_laws.specs.Labels.{labels_after}
use Rattle.mn_routing_laws.specs.Standing.{vrf_in, site_label_now, edge_in}
use Rattle.mn_routing_laws.specs.Doing.{IsSayable, AreSayable}
use Rattle.mn_routing_laws.proofs.TwentyBits.{all_small}
use Rattle.mn_routing_laws.proofs.Refusing.{as_long as as_many}
use Rattle.mn_ledger.specs.Time.{clock_after}

-- 1. Labels

below_or : (f : Labels) (a b x : ℕ) → AreLabels f → x < 2 ^ 20 → AreLabels (put_pair f a b x)
below_or f a b x h g site attachment = elim (eqb_tells site a) [
  | inr p ↦ subst (λ n. n < 2 ^ 20) (sym (pair_off f a b x site attachment (inl p.1))) (h site attachment)
  | inl p ↦ elim (eqb_tells attachment b) [
    | inr q ↦ subst (λ n. n < 2 ^ 20) (sym (pair_off f a b x site attachment (inr q.1))) (h site attachment)
    | inl q ↦ subst (λ n. n < 2 ^ 20) (sym (ap (λ k. put_pair f a b x k attachment) p.1 ∙ ap (put_pair f a b x a) q.1 ∙ pair_here f a b x)) g
  ]
]

pub labels_go : (gives : ℕ → ℕ) (c : Config) (l : Labels) (s : Step) → ((site : SiteNo) → s ≡ step.Attach site → gives site.0 < 2 ^ 20) → AreLabels l →
    AreLabels (labels_after gives c l s)
labels_go gives c l (step.Attach s) small h = below_or l s.0 (c.attaches s.0 + 2) (gives s.0) h (small s refl)
labels_go gives c l _ small h = h

pub record Fits (c : Config) (l : Labels) : Type 0 where
  pub sets : AreFewAndFormed c
  pub labels : AreLabels l

sets_from : (t : Network) (es : List JournalEntry) (tick : ℕ) (w : World) (k : Packets) (n : ℕ) (ps : List (List ℕ)) → IsLawfulFrom t tick w k n es ps →
    AreFewAndFormed w.config → AreFewAndFormed (world_from t w es).config
sets_from t [] tick w k n ps lawful h = h
sets_from t (e ∷ es) tick w k n ps lawful h =
    let ok = free t w k n e.step (next_of ps) lawful.2 in
    sets_from t es (clock_after e) (after t w e.step) (packets_by t (after t w e.step) k e (next_of ps)) (n + 1) (left_by e.step ps) lawful.3
    (sets_go t w.config e.step lawful.0 ok.targets h)

-- after a lawful journal
pub all_fits : (t : Network) (es : List JournalEntry) (ps : List (List ℕ)) → IsLawful t → IsLawfulJournal t es ps → Fits (world_of t es).config (labels_of t es)
all_fits t es ps lawful journal =
    record { sets = sets_from t es 0 (start t) no_packets 0 ps journal (first_sets t lawful); labels = all_small t es ps lawful journal }

-- 2. An edge's exports

rise_each : (low : ℕ) (xs : List ℕ) → Rise low xs → EachBefore (λ (x y : Rt). x.0 < y.0) (as_targets xs)
rise_each low [] h = tt
rise_each low (x ∷ xs) h = (
  (λ y i. let m = in_map (λ target. let r : Rt = record { 0 = target } in r) xs y i in
      subst (λ (z : Rt). x < z.0) m.2 (least (suc x) xs m.0 h.1 m.1)),
  rise_each (suc x) xs h.1,
)
  where
    least : (low : ℕ) (xs : List ℕ) (y : ℕ) → Rise low xs → In xs y → low ≤ y
    least low [] y h i = absurd i
    least low (x ∷ xs) y h i = elim i [
      | inl e ↦ subst (λ n. low ≤ n) e h.0
      | inr j ↦ (let more : suc x ≤ y = least (suc x) xs y h.1 j in let first : low ≤ x = h.0 in omega (arith, more, first))
    ]

formed_targets : (xs : List ℕ) → AreOfForm xs → AllTargets (as_targets xs)
formed_targets [] h = tt
formed_targets (x ∷ xs) h = (h.0, formed_targets xs h.1)

index_in : {B : Type 0} (f : ℕ → Option B) (xs : List ℕ) (k : ℕ) (y : B) → slice_index_or (map f xs) k None ≡ Some y → (x : ℕ) × (f x ≡ Some y)
index_in f [] k y h = absurd (let none : None ≡ Some y → ⊥ = (λ e. cc) in none h)
index_in f (x ∷ xs) zero y h = (x, h)
index_in f (x ∷ xs) (suc k) y h = index_in f xs k y h

at_label : (vrf : VrfState) (ts : List Rt) (static : Static) (o : Option ℕ) (x : Exported) → In (export_at vrf ts static o) x →
    (k : ℕ) × (o ≡ Some k) × (record { vrf = vrf.number; rd = vrf.rd; prefix = static.prefix; label = k; site = static.site; targets = ts } ≡ x)
at_label vrf ts static None x i = absurd i
at_label vrf ts static (Some k) x i = elim i [ inl e ↦ (k, refl, e) | inr n ↦ absurd n ]

in_present : (edge : Edge) (vrf : VrfState) (ts : List Rt) (x : Exported) → In (exports_with edge vrf ts) x → In (present_with edge vrf ts) x
in_present edge vrf [] x i = absurd i
in_present edge vrf (t ∷ ts) x i = i

all_say : (xs : List Exported) → ((x : Exported) → In xs x → IsSayable x) → AreSayable xs
all_say [] h = tt
all_say (x ∷ xs) h = (h x (inl refl), all_say xs (λ y i. h y (inr i)))

module _ (t : Network) (l : Labels) (c : Config) (p : Peerings) (e : ℕ) (lawful : IsLawful t) (ok : Fits c l) (rise : (v : ℕ) → Rise 0 (c.exports v)) where
  label_fits : (site k : ℕ) → site_label (edge_in t l c p e) site ≡ Some k → k < 2 ^ 20
  label_fits site k h = let f = index_in (site_label_now t l c e) (range_with_len 0 (length t.sites)) site k h in
      by f.0 (home_of t f.0 == e) (c.attached f.0) f.1
    where
      by : (s : ℕ) (b : Bool) (o : Option ℕ) → (if b then option_map (l s) o else None) ≡ Some k → k < 2 ^ 20
      by s true None q = absurd (let none : None ≡ Some k → ⊥ = (λ e. cc) in none q)
      by s true (Some n) q = subst (λ m. m < 2 ^ 20) (same_Some (l s n) k q) (ok.labels s n)
      by s false o q = absurd (let none : None ≡ Some k → ⊥ = (λ e. cc) in none q)

  pub all_sayable : AreSayable (exports_of (edge_in t l c p e))
  all_sayable = all_say (exports_of (edge_in t l c p e)) (λ x i.
      let f = in_flat_map (λ vrf. exports_with (edge_in t l c p e) vrf vrf.exports) (edge_in t l c p e).vrfs x i in
      let m = in_map (vrf_in t c) (vrfs_at t e) f.0 f.1 in
      let g = in_present (edge_in t l c p e) f.0 f.0.exports x f.2 in
      let s = in_flat_map (λ static. export_at f.0 f.0.exports static (site_label (edge_in t l c p e) static.site)) f.0.statics x g in
      let k = at_label f.0 f.0.exports s.0 (site_label (edge_in t l c p e) s.0.site) x s.2 in
      let r = in_filter (λ v. edge_of t v == e) (range_with_len 0 (length t.vrfs)) m.0 m.1 in
      let below = (in_range 0 (length t.vrfs) m.0 r.0).1 in
      subst IsSayable k.2 (record {
        distinguisher = ap (λ (u : VrfState). has_rd_form u.rd.0) (sym m.2) ∙ rd_formed m.0 (omega (arith, below));
        label = label_fits s.0.site k.0 k.1;
        ascending =
            subst (λ (u : VrfState). IsAscending u.exports) m.2
            (pairs (λ (x y : Rt). x.0 < y.0) (as_targets (c.exports m.0)) (rise_each 0 (c.exports m.0) (rise m.0)));
        targets = subst (λ (u : VrfState). AllTargets u.exports) m.2 (formed_targets (c.exports m.0) (ok.sets m.0).1);
        few = subst (λ (u : VrfState). length u.exports ≤ 16) m.2 (let few : length (c.exports m.0) ≤ 16 =
            (ok.sets m.0).0 in omega (arith, few, as_many (c.exports m.0)));
      }))
    where
      rd_formed : (v : ℕ) → v < length t.vrfs → has_rd_form (vrf_at t v).rd.0 ≡ true
      rd_formed v h =
          (and_parts (nat_lt (edge_of t v) (length t.loopbacks)) (has_rd_form (vrf_at t v).rd.0)
          (at_all (is_vrf_of (length t.loopbacks)) t.vrfs v _ lawful.vrfs.formed h)).1

-- What was told, and what is held, names VRFs, sites and attachments that exist.
use Rattle.std.proofs.Common.{ℕ, zero, suc, ◌≡◌, ◌+◌, ◌<◌, ◌≤◌, inl, inr, Bool, true, false, cond, List, [], ◌∷◌, ◌++◌, map, filter, length, take, refl}
use Rattle.std.proofs.Common.{arith, sym, ◌∙◌, ap, subst, Option, Some, None}
use Rattle.std.specs.Prelude.{◌==◌, not, nat_le, nat_lt, fold, slice_get, slice_index_or, unwrap_or, is_some}
use Rattle.std.specs.List.{range_with_len, AllByRecursion}
use Rattle.std.proofs.lemmas.Bool.{and_parts, ltb-true}
use Rattle.std.proofs.lemmas.Bool.Decides.{leb_tells}
use Rattle.mn_base.proofs.Bools.{clash, none_below}
use Rattle.mn_base.specs.declared.numbers.Rt.{Rt}
use Rattle.mn_prefix.specs.Prefix.{IsPrefix}
use Rattle.mn_topo.specs.declared.sites.SiteDef.{SiteDef}
use Rattle.mn_topo.specs.declared.vrfs.VrfDef.{VrfDef}
use Rattle.mn_topo.specs.declared.steps.Step.{Step}
use Rattle.mn_topo.specs.declared.steps.Step.TheVariants as step
use Rattle.mn_topo.specs.declared.steps.JournalEntry.{JournalEntry}
use Rattle.mn_topo.specs.Lawful.{IsLawful, AreTargets}
use Rattle.mn_topo.specs.Network.{Network}
use Rattle.mn_topo.specs.SiteTable.{is_lawful_prefix}
use Rattle.mn_topo.specs.Steps.{fits}
use Rattle.mn_ledger.specs.declared.refused.Refused.{Refused}
use Rattle.mn_ledger.specs.declared.refused.Refused.TheVariants as why
use Rattle.mn_ledger.specs.Tables.{put}
use Rattle.mn_ledger.specs.Places.{vrf_at, vrf_of, edge_of, vrfs_at}
use Rattle.mn_ledger.specs.World.{SiteRoute, Config, Export, Telling, Open, BgpKeepAlive, Announcement, Withdrawal, Peerings, World}
use Rattle.mn_ledger.specs.Exports.{exports_with, exports_of}
use Rattle.mn_ledger.specs.Bgp.{Told, is_from_to, tellings_of}
use Rattle.mn_ledger.specs.Bgp.{told_in, bgp_counted}
use Rattle.mn_ledger.specs.Packets.{Packets}
use Rattle.mn_ledger.specs.Ledger.{with_target, statics_from, is_static, config_after, after, start}
use Rattle.mn_ledger.specs.Refusal.{is_unchanged, is_empty, static_refusal, is_targets_full, is_spent, is_full, where_holds, first_cause, limits, refusal_at}
use Rattle.mn_ledger.specs.Lawful.{IsLawfulJournal}
use Rattle.mn_ledger.proofs.Parts.{peerings_go}
use Rattle.mn_ledger.proofs.Members.{In, in_append, in_map, in_filter, in_flat_map, in_range}
use Rattle.mn_ledger.proofs.Peers.{same_numbers}
use Rattle.mn_ledger.proofs.Tellings.{still_told, told_are, Behind, exported}
use Rattle.mn_ledger.proofs.Choice.{keeps}
use Rattle.mn_ledger.proofs.Statics.{HasForms}
use Rattle.mn_ledger.proofs.Tidy.{Rise, RiseAll, sets_rise}
use Rattle.mn_ledger_laws.specs.Accounts.{world_at, packets_at}
use Rattle.mn_ledger_laws.specs.Named.{AreRising, NamesAnAttachment, NamesItsVrf}
use Rattle.mn_ledger_laws.proofs.At.{bytes_of, world_step, lawful_step, lawful_at, IsDone}

-- 1. The configuration: sites of statics, attachments, and how many targets a set has

pub record IsInBounds (t : Network) (c : Config) : Type 0 where
  pub sites : (x : SiteRoute) → In c.statics x → x.site < length t.sites
  pub attached : (s n : ℕ) → c.attached s ≡ Some n → (1 ≤ n) × (n ≤ c.attaches s + 1)
  pub exports : (v : ℕ) → length (c.exports v) ≤ 16

some_is : (m n : ℕ) → Some m ≡ Some n → m ≡ n
some_is m n h = ap (λ o. elim o as (λ _. ℕ) [ None ↦ m | Some z ↦ z ]) h

statics_in : (k : ℕ) (sites : List SiteDef) (x : SiteRoute) → In (statics_from k sites) x → (k ≤ x.site) × (x.site < k + length sites)
statics_in k [] x i = absurd i
statics_in k (site ∷ sites) x i = elim (in_append (map (λ prefix. record { site = k; prefix = prefix }) site.prefixes) (statics_from (k + 1) sites) x i) [
  | inl j ↦
      let m = in_map (λ prefix. record { site = k; prefix = prefix }) site.prefixes x j in
      let is : k ≡ x.site = ap (λ (y : SiteRoute). y.site) m.2 in
      (omega (arith, is), omega (arith, is))
  | inr j ↦ let rest = statics_in (k + 1) sites x j in (omega (arith, rest.0), omega (arith, rest.1))
]

with_one_length : (x : ℕ) (xs : List ℕ) → length (with_target x true xs) ≡ length xs + 1
with_one_length x [] = omega arith
with_one_length x (y ∷ ys) = split (nat_lt x y) (with_one_length x ys)
  where
    split : (b : Bool) → length (with_target x true ys) ≡ length ys + 1 → length (cond b (x ∷ y ∷ ys) (y ∷ with_target x true ys)) ≡ length (y ∷ ys) + 1
    split true h = omega arith
    split false h = omega (arith, h)

fewer : {A : Type 0} (p : A → Bool) (xs : List A) → length (filter p xs) ≤ length xs
fewer p [] = omega arith
fewer p (x ∷ xs) = split (p x) (fewer p xs)
  where
    split : (b : Bool) → length (filter p xs) ≤ length xs → length (cond b (x ∷ filter p xs) (filter p xs)) ≤ length (x ∷ xs)
    split true h = omega (arith, h)
    split false h = omega (arith, h)

all_targets : (xs : List Rt) (set : List ℕ) → length (fold (λ set target. with_target target.0 true set) set xs) ≡ length set + length xs
all_targets [] set = omega arith
all_targets (x ∷ xs) set = omega (arith, all_targets xs (with_target x.0 true set), with_one_length x.0 set)

abbrev HasSets : VrfDef → Type 0
HasSets vrf = AreTargets vrf.«import» × AreTargets vrf.export

export_few : (vs : List VrfDef) (d : VrfDef) (v : ℕ) → AllByRecursion HasSets vs → length d.export ≤ 16 → length (slice_index_or vs v d).export ≤ 16
export_few [] d v h p = p
export_few (x ∷ xs) d zero h p = h.0.1.few
export_few (x ∷ xs) d (suc v) h p = export_few xs d v h.1 p

first_bounds : (t : Network) → IsLawful t → IsInBounds t (start t).config
first_bounds t lawful = record {
  sites = λ x i. omega (arith, (statics_in 0 t.sites x i).1);
  attached = λ s n h. let is : 1 ≡ n = some_is 1 n h in (omega (arith, is), omega (arith, is));
  exports = λ v. omega (arith, all_targets (vrf_at t v).export [], few v);
}
  where
    few : (v : ℕ) → length (vrf_at t v).export ≤ 16
    few v = export_few t.vrfs (record { node = record { 0 = 0 }; rd = record { 0 = 0 }; «import» = []; export = [] }) v lawful.vrfs.targets (omega arith)

first_none : (b : Bool) (c : Refused) (rest : List (Option Refused)) → first_cause (where_holds b c ∷ rest) ≡ None → (b ≡ false) × (first_cause rest ≡ None)
first_none true c rest h = cc
first_none false c rest h = (refl, h)

static_none : (r : Option Refused) (rest : List (Option Refused)) → first_cause (r ∷ rest) ≡ None → first_cause rest ≡ None
static_none None rest h = h
static_none (Some c) rest h = cc

-- a set that a target is added to has fewer than 16
pub has_room : (t : Network) (w : World) (k : Packets) (n : ℕ) (s : Step) (b : List ℕ) → refusal_at t w k n s b ≡ None → is_targets_full w.config s ≡ false
has_room t w k n s b h =
    let one = first_none (is_unchanged w.config s) why.Unchanged (where_holds (is_empty t w k s) why.Empty ∷ limits t w k n s b) h in
    let two = first_none (is_empty t w k s) why.Empty (limits t w k n s b) one.1 in
    let rest : List (Option Refused) = where_holds (is_spent t w.config s) why.LabelsSpent ∷ where_holds (is_full t w k s b) why.NetFull ∷ where_holds
    (nat_le 4000000 n) why.TooManySteps ∷ [] in
    (first_none (is_targets_full w.config s) why.TargetsFull rest
    (static_none (static_refusal t w.config s) (where_holds (is_targets_full w.config s) why.TargetsFull ∷ rest) two.1)).0

put_few : (f : ℕ → List ℕ) (k : ℕ) (xs : List ℕ) → ((v : ℕ) → length (f v) ≤ 16) → length xs ≤ 16 → (v : ℕ) → length (put f k xs v) ≤ 16
put_few f k xs h g v = split (v == k)
  where
    split : (b : Bool) → length (cond b xs (f v)) ≤ 16
    split true = g
    split false = h v

less_16 : (n : ℕ) → nat_le 16 n ≡ false → n + 1 ≤ 16
less_16 n h = elim (leb_tells 16 n) [ inl q ↦ absurd (clash (sym q.0 ∙ h)) | inr q ↦ omega (arith, q.1) ]

set_few : (x : ℕ) (on : Bool) (xs : List ℕ) → length xs ≤ 16 → (on ≡ true → nat_le 16 (length xs) ≡ false) → length (with_target x on xs) ≤ 16
set_few x true xs h g = omega (arith, with_one_length x xs, less_16 (length xs) (g refl))
set_few x false xs h g = omega (arith, h, fewer (λ other. not (x == other)) xs)

put_some : (f : ℕ → Option ℕ) (g : ℕ → ℕ) (k m : ℕ) (o : Option ℕ) → ((s n : ℕ) → f s ≡ Some n → (1 ≤ n) × (n ≤ g s + 1))
    → ((n : ℕ) → o ≡ Some n → (1 ≤ n) × (n ≤ m + 1))
    → (s n : ℕ) → put f k o s ≡ Some n → (1 ≤ n) × (n ≤ put g k m s + 1)
put_some f g k m o h p s n = split (s == k)
  where
    split : (b : Bool) → cond b o (f s) ≡ Some n → (1 ≤ n) × (n ≤ cond b m (g s) + 1)
    split true e = p n e
    split false e = h s n e

none_some : (n : ℕ) → None ≡ Some n → ⊥
none_some n h = cc

put_none : (f : ℕ → Option ℕ) (g : ℕ → ℕ) (k : ℕ) → ((s n : ℕ) → f s ≡ Some n → (1 ≤ n) × (n ≤ g s + 1)) → (s n : ℕ) → put f k None s ≡ Some n
    → (1 ≤ n) × (n ≤ g s + 1)
put_none f g k h s n = split (s == k)
  where
    split : (b : Bool) → cond b None (f s) ≡ Some n → (1 ≤ n) × (n ≤ g s + 1)
    split true e = absurd (none_some n e)
    split false e = h s n e

pub bounds_go : (t : Network) (c : Config) (s : Step) → fits t s ≡ true → is_targets_full c s ≡ false → IsInBounds t c → IsInBounds t (config_after c s)
bounds_go t c (step.AddRoute s p) fit room h = record {
  sites = λ x i. elim (in_append c.statics (record { site = s.0; prefix = p } ∷ []) x i) [
    | inl j ↦ h.sites x j
    | inr j ↦ elim j [
      | inl e ↦ subst (λ (y : SiteRoute). y.site < length t.sites) e
          (ltb-true _ _ (and_parts (nat_lt s.0 (length t.sites)) (is_lawful_prefix p) fit).0)
      | inr z ↦ absurd z
    ]
  ];
  attached = h.attached;
  exports = h.exports;
}
bounds_go t c (step.DelRoute s p) fit room
    h = record { sites = λ x i. h.sites x (in_filter (λ static. not (is_static s.0 p static)) c.statics x i).0; attached = h.attached; exports = h.exports }
bounds_go t c (step.Export v on x) fit room h = record {
  sites = h.sites;
  attached = h.attached;
  exports = put_few c.exports v.0 (with_target x.0 on (c.exports v.0)) h.exports (set_few x.0 on (c.exports v.0) (h.exports v.0) (λ e. only on e room));
}
  where
    only : (b : Bool) → b ≡ true → is_targets_full c (step.Export v b x) ≡ false → nat_le 16 (length (c.exports v.0)) ≡ false
    only true e r = r
    only false e r = cc
bounds_go t c (step.Attach s) fit room h = record {
  sites = h.sites;
  attached = put_some c.attached c.attaches s.0 (c.attaches s.0 + 1) (Some (c.attaches s.0 + 2)) h.attached
      (λ n e. let is : c.attaches s.0 + 2 ≡ n = some_is (c.attaches s.0 + 2) n e in (omega (arith, is), omega (arith, is)));
  exports = h.exports;
}
bounds_go t c (step.Detach s) fit room h = record { sites = h.sites; attached = put_none c.attached c.attaches s.0 h.attached; exports = h.exports }
bounds_go t c _ fit room h = record { sites = h.sites; attached = h.attached; exports = h.exports }

-- attachments are only added
pub attaches_grow : (c : Config) (s : Step) (site : ℕ) → c.attaches site ≤ (config_after c s).attaches site
attaches_grow c (step.Attach s) site = split (site == s.0) refl
  where
    split : (b : Bool) → (site == s.0) ≡ b → c.attaches site ≤ cond b (c.attaches s.0 + 1) (c.attaches site)
    split true e = omega (arith, ap c.attaches (same_numbers site s.0 e))
    split false e = omega arith
attaches_grow c _ site = omega arith

-- 2. Exports

rising : (low : ℕ) (xs : List ℕ) → Rise low xs → AreRising low xs
rising low [] h = tt
rising low (x ∷ xs) h = (h.0, rising (suc x) xs h.1)

some_of : (o : Option ℕ) → is_some o ≡ true → o ≡ Some (unwrap_or o 0)
some_of None h = cc
some_of (Some n) h = refl

one_at_least : (t : Network) (c : Config) (v : ℕ) (targets : List ℕ) (e : Export) → In (exports_with t c v targets) e → 1 ≤ length targets
one_at_least t c v [] e i = absurd i
one_at_least t c v (x ∷ xs) e i = omega arith

-- the site behind an export is attached, by the export's attachment
pub record IsBehind (t : Network) (c : Config) (v : ℕ) (e : Export) : Type 0 where
  pub vrf : e.vrf ≡ v
  pub site : e.site < length t.sites
  pub of_vrf : vrf_of t e.site ≡ v
  pub formed : IsPrefix e.prefix.address e.prefix.length
  pub present : c.attached e.site ≡ Some e.attachment

pub is_behind : (t : Network) (c : Config) (v : ℕ) (targets : List ℕ) (e : Export) → IsInBounds t c → HasForms c.statics → Behind t c v targets e
    → IsBehind t c v e
unfolding Behind
is_behind t c v targets e h forms b =
    let parts = and_parts (vrf_of t b.0.site == v) (is_some (c.attached b.0.site)) b.2 in
    subst (IsBehind t c v) b.3 (record {
      vrf = refl;
      site = h.sites b.0 b.1;
      of_vrf = same_numbers (vrf_of t b.0.site) v parts.0;
      formed = forms.formed b.0 b.1;
      present = some_of (c.attached b.0.site) parts.1;
    })

targets_of : (t : Network) (c : Config) (v : ℕ) (targets : List ℕ) (e : Export) → Behind t c v targets e → targets ≡ e.targets
unfolding Behind
targets_of t c v targets e b = ap (λ (x : Export). x.targets) b.3

vrf_in : (t : Network) (edge v : ℕ) → In (vrfs_at t edge) v → (v < length t.vrfs) × (edge_of t v ≡ edge)
vrf_in t edge v i =
    let f = in_filter (λ v. edge_of t v == edge) (range_with_len 0 (length t.vrfs)) v i in
    (omega (arith, (in_range 0 (length t.vrfs) v f.0).1), same_numbers (edge_of t v) edge f.1)

-- what stands behind an export of an edge
pub record IsExported (t : Network) (c : Config) (edge : ℕ) (e : Export) : Type 0 where
  pub vrf : e.vrf < length t.vrfs
  pub at_edge : edge_of t e.vrf ≡ edge
  pub behind : IsBehind t c e.vrf e
  pub some : 1 ≤ length e.targets
  pub targets : c.exports e.vrf ≡ e.targets

pub is_exported : (t : Network) (c : Config) (edge : ℕ) (e : Export) → IsInBounds t c → HasForms c.statics → In (exports_of t c edge) e → IsExported t c edge e
is_exported t c edge e h forms i =
    let m = in_flat_map (λ v. exports_with t c v (c.exports v)) (vrfs_at t edge) e i in
    let v = vrf_in t edge m.0 m.1 in
    let from = exported t c m.0 (c.exports m.0) e m.2 in
    let b = is_behind t c m.0 (c.exports m.0) e h forms from in
    let is : m.0 ≡ e.vrf = sym b.vrf in
    let targets : c.exports m.0 ≡ e.targets = targets_of t c m.0 (c.exports m.0) e from in
    record {
      vrf = subst (λ n. n < length t.vrfs) is v.0;
      at_edge = ap (edge_of t) (sym is) ∙ v.1;
      behind = subst (λ n. IsBehind t c n e) is b;
      some = omega (arith, one_at_least t c m.0 (c.exports m.0) e m.2, ap length targets);
      targets = ap c.exports (sym is) ∙ targets;
    }

names_export : (t : Network) (c : Config) (edge : ℕ) (e : Export) → IsInBounds t c → HasForms c.statics → RiseAll c → In (exports_of t c edge) e
    → NamesAnAttachment t c edge e
names_export t c edge e h forms r i =
    let x = is_exported t c edge e h forms i in
    let given = h.attached e.site e.attachment x.behind.present in
    record {
      vrf = x.vrf;
      at_teller = x.at_edge;
      site = x.behind.site;
      of_vrf = x.behind.of_vrf;
      formed = x.behind.formed;
      first = given.0;
      given = given.1;
      some = x.some;
      few = subst (λ xs. length xs ≤ 16) x.targets (h.exports e.vrf);
      rising = subst (AreRising 0) x.targets (rising 0 (c.exports e.vrf) (r.exports e.vrf));
    }

-- 3. What is told in a step

abbrev AllTold : Network → Config → List Told → Type 0
AllTold t c xs = (x : Told) → In xs x → NamesItsVrf t c x.teller x.telling

abbrev ExportsNamed : Network → Config → Type 0
ExportsNamed t c = (edge : ℕ) (e : Export) → In (exports_of t c edge) e → NamesAnAttachment t c edge e

-- what went was exported before
named_told : (t : Network) (c : Config) (p : Peerings) (new : Config) (k : Peerings) (s : Step) → ExportsNamed t c → ExportsNamed t new
    → AllTold t new (told_in t c p new k s)
named_told t c p new k s h g =
    told_are (NamesItsVrf t new) (λ edge. tt) (λ edge. tt) t c p new k s (λ edge e i. let x = h edge e i in (x.vrf, x.at_teller)) g

-- 4. What was told

abbrev pub TellingsNamed : Network → Config → Peerings → Type 0
TellingsNamed t c p = (edge peer : ℕ) (m : Telling) → In (p.told edge peer) m → NamesItsVrf t c edge m

in_tellings : (a b : ℕ) (xs : List Told) (m : Telling) → In (tellings_of a b xs) m → (x : Told) × In xs x × (x.teller ≡ a) × (x.telling ≡ m)
in_tellings a b xs m i =
    let f = in_map (λ (told : Told). told.telling) (filter (is_from_to a b) xs) m i in
    let g = in_filter (is_from_to a b) xs f.0 f.1 in
    (f.0, g.0, same_numbers f.0.teller a (and_parts (f.0.teller == a) (f.0.peer == b) g.1).0, f.2)

still_named : (t : Network) (c : Config) (p : Peerings) (s : Step) → TellingsNamed t c p → TellingsNamed t c (bgp_counted p s)
still_named t c p s h = still_told (λ edge peer m. NamesItsVrf t c edge m) p s h

-- what was named by an attachment is named by one later
later_named : (t : Network) (c : Config) (s : Step) (edge : ℕ) (m : Telling) → NamesItsVrf t c edge m → NamesItsVrf t (config_after c s) edge m
later_named t c s edge Open h = tt
later_named t c s edge BgpKeepAlive h = tt
later_named t c s edge (Withdrawal v prefix) h = h
later_named t c s edge (Announcement e) h = record {
  vrf = h.vrf;
  at_teller = h.at_teller;
  site = h.site;
  of_vrf = h.of_vrf;
  formed = h.formed;
  first = h.first;
  given = omega (arith, h.given, attaches_grow c s e.site);
  some = h.some;
  few = h.few;
  rising = h.rising;
}

told_go_on : (t : Network) (c : Config) (p : Peerings) (s : Step) → ExportsNamed t c → ExportsNamed t (config_after c s) → TellingsNamed t c p
    → (edge peer : ℕ) (m : Telling) → In ((bgp_counted p s).told edge peer ++ tellings_of edge peer (told_in t c p (config_after c s) (bgp_counted p s) s)) m
    → NamesItsVrf t (config_after c s) edge m
told_go_on t c p s h g named edge peer m
    i = elim (in_append ((bgp_counted p s).told edge peer) (tellings_of edge peer (told_in t c p (config_after c s) (bgp_counted p s) s)) m i) [
      | inl j ↦ later_named t c s edge m (still_named t c p s named edge peer m j)
      | inr j ↦
          let f = in_tellings edge peer (told_in t c p (config_after c s) (bgp_counted p s) s) m j in
          subst (NamesItsVrf t (config_after c s) edge) f.3
          (subst (λ n. NamesItsVrf t (config_after c s) n f.0.telling) f.2 (named_told t c p (config_after c s) (bgp_counted p s) s h g f.0 f.1))
    ]

tellings_go : (t : Network) (w : World) (s : Step) → ExportsNamed t w.config → ExportsNamed t (config_after w.config s)
    → TellingsNamed t w.config w.peerings → TellingsNamed t (after t w s).config (after t w s).peerings
tellings_go t w s h g n =
    let new : Config = config_after w.config s in
    peerings_go (TellingsNamed t new) t w.config new w.peerings s (told_go_on t w.config w.peerings s h g n)
    (λ edge peer m i. later_named t w.config s edge m (n edge peer m i))

-- 5. After every step of a lawful journal

module _ (t : Network) (lawful : IsLawful t) (es : List JournalEntry) (ps : List (List ℕ)) (journal : IsLawfulJournal t es ps) where
  some_entry : (xs : List JournalEntry) (n : ℕ) → n < length xs → (e : JournalEntry) × (slice_get xs n ≡ Some e)
  some_entry [] n h = absurd (none_below n h)
  some_entry (x ∷ xs) zero h = (x, refl)
  some_entry (x ∷ xs) (suc n) h = some_entry xs n (omega (arith, h))

  pub bounds_at : (n : ℕ) → n ≤ length es → IsInBounds t (world_at t es n).config
  bounds_at zero h = first_bounds t lawful
  bounds_at (suc n) h =
      let e = some_entry es n (omega (arith, h)) in
      let done : IsDone t (world_at t es n) (packets_at t es ps n) n e.0.step (bytes_of ps _) = lawful_step t es ps n e.0 e.1 journal in
      subst (λ (w : World). IsInBounds t w.config) (sym (world_step t es n e.0 e.1))
      (bounds_go t (world_at t es n).config e.0.step done.fitting
      (has_room t (world_at t es n) (packets_at t es ps n) n e.0.step (bytes_of ps _) done.unrefused) (bounds_at n (omega (arith, h))))

  pub forms_at : (n : ℕ) → HasForms (world_at t es n).config.statics
  forms_at n = (keeps t (take n es) ps lawful (lawful_at t es ps n journal)).forms

  exports_at : (n : ℕ) → n ≤ length es → ExportsNamed t (world_at t es n).config
  exports_at n h edge e i = names_export t (world_at t es n).config edge e (bounds_at n h) (forms_at n)
      (sets_rise t (take n es) ps lawful (lawful_at t es ps n journal)) i

  pub tellings_at : (n : ℕ) → n ≤ length es → TellingsNamed t (world_at t es n).config (world_at t es n).peerings
  tellings_at zero h = λ edge peer m i. absurd i
  tellings_at (suc n) h =
      let e = some_entry es n (omega (arith, h)) in
      let now : world_at t es (suc n) ≡ after t (world_at t es n) e.0.step = world_step t es n e.0 e.1 in
      subst (λ (w : World). TellingsNamed t w.config w.peerings) (sym now)
      (tellings_go t (world_at t es n) e.0.step (exports_at n (omega (arith, h)))
      (subst (λ (w : World). ExportsNamed t w.config) now (exports_at (suc n) h)) (tellings_at n (omega (arith, h))))

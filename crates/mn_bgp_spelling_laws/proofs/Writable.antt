-- After every lawful journal all that was sent can be written.
use Rattle.std.proofs.Common.{ℕ, zero, suc, ◌≡◌, ◌+◌, ◌<◌, ◌≤◌, inl, inr, Bool, true, false, cond, List, [], ◌∷◌, ◌++◌, filter, length, refl, arith}
use Rattle.std.proofs.Common.{ap, subst, lit<}
use Rattle.std.specs.Prelude.{◌==◌, not, nat_lt, nat_le, fold, slice_index_or, ⊤}
use Rattle.std.specs.List.{list_all, AllByRecursion, Contains}
use Rattle.std.proofs.lemmas.Bool.Decides.{nat_tests}
use Rattle.std.proofs.lemmas.List.Filters.{length-filter_both}
use Rattle.mn_base.specs.Numbers.{has_rd_form, has_rt_form}
use Rattle.mn_base.specs.declared.numbers.Rt.{Rt}
use Rattle.mn_base.proofs.Bools.{and_left, and_right, none_below}
use Rattle.mn_base.proofs.Members.{In, in_append, in_contained}
use Rattle.mn_base.proofs.Places.{all_filter}
use Rattle.mn_prefix.specs.Prefix.{IsPrefix}
use Rattle.mn_topo.specs.Network.{Network}
use Rattle.mn_topo.specs.Lawful.{IsLawful, AreTargets, is_vrf_of}
use Rattle.mn_topo.specs.Steps.{fits, has_vrf}
use Rattle.mn_topo.specs.declared.vrfs.VrfDef.{VrfDef}
use Rattle.mn_topo.specs.declared.steps.Step.{Step}
use Rattle.mn_topo.specs.declared.steps.Step.TheVariants as step
use Rattle.mn_topo.specs.declared.steps.JournalEntry.{JournalEntry}
use Rattle.mn_ledger.specs.Tables.{put}
use Rattle.mn_ledger.specs.Places.{vrf_at}
use Rattle.mn_ledger.specs.World.{Config, Export, Telling, Open, BgpKeepAlive, Announcement, Withdrawal, Peerings, World}
use Rattle.mn_ledger.specs.Exports.{exports_of}
use Rattle.mn_ledger.specs.Bgp.{Told, tellings_of}
use Rattle.mn_ledger.specs.Bgp.{told_in, bgp_counted}
use Rattle.mn_ledger.specs.Ledger.{with_target, ascending, config_after, after, start, no_packets, next_of, left_by, world_from, world_of, packets_by}
use Rattle.mn_ledger.specs.Packets.{Packets}
use Rattle.mn_ledger.specs.Refusal.{is_targets_full}
use Rattle.mn_ledger.specs.Lawful.{IsLawfulFrom, IsLawfulJournal}
use Rattle.mn_ledger.proofs.Parts.{peerings_go}
use Rattle.mn_ledger.proofs.Refusals.{free}
use Rattle.mn_ledger.proofs.Statics.{HasForms, first_forms, forms_go}
use Rattle.mn_ledger.proofs.Tellings.{still_told, told_are, Behind, exported_by, in_tellings}
use Rattle.mn_bgp_spelling_laws.specs.Spelling.{Labels, as_targets, IsWritable}
use Rattle.mn_bgp_spelling_laws.specs.Laws.{AreLabels}
use Rattle.mn_ledger.specs.Time.{clock_after}

-- 1. Sets of targets

abbrev pub AreOfForm : List ℕ → Type 0
AreOfForm targets = AllByRecursion (λ target. has_rt_form target ≡ true) targets

-- 16 at most, and of their form
abbrev pub IsFewAndFormed : List ℕ → Type 0
IsFewAndFormed targets = (length targets ≤ 16) × AreOfForm targets

one_longer : (x : ℕ) (xs : List ℕ) → length (with_target x true xs) ≡ suc (length xs)
one_longer x [] = refl
one_longer x (y ∷ ys) = split (nat_lt x y) (one_longer x ys)
  where
    split : (b : Bool) → length (with_target x true ys) ≡ suc (length ys) → length (cond b (x ∷ y ∷ ys) (y ∷ with_target x true ys)) ≡ suc (suc (length ys))
    split true more = refl
    split false more = ap suc more

formed_with : (x : ℕ) (xs : List ℕ) → has_rt_form x ≡ true → AreOfForm xs → AreOfForm (with_target x true xs)
formed_with x [] h all = (h, tt)
formed_with x (y ∷ ys) h all = split (nat_lt x y) (formed_with x ys h all.1)
  where
    split : (b : Bool) → AreOfForm (with_target x true ys) → AreOfForm (cond b (x ∷ y ∷ ys) (y ∷ with_target x true ys))
    split true more = (h, all)
    split false more = (all.0, more)

pub no_longer : {A : Type 0} (p : A → Bool) (xs : List A) → length (filter p xs) ≤ length xs
no_longer p xs = omega (arith, length-filter_both p (λ x. not (p x)) (λ x. refl) xs)

room : (n : ℕ) → nat_le 16 n ≡ false → suc n ≤ 16
room n h = grind (arith, nat_tests, h)

-- 2. The sets of a lawful journal

abbrev pub AreFewAndFormed : Config → Type 0
AreFewAndFormed c = (v : ℕ) → IsFewAndFormed (c.exports v)

put_good : (f : ℕ → List ℕ) (k : ℕ) (xs : List ℕ) → ((v : ℕ) → IsFewAndFormed (f v)) → IsFewAndFormed xs → (v : ℕ) → IsFewAndFormed (put f k xs v)
put_good f k xs h g v = split (v == k)
  where
    split : (b : Bool) → IsFewAndFormed (cond b xs (f v))
    split true = g
    split false = h v

pub sets_go : (t : Network) (c : Config) (s : Step) → fits t s ≡ true → is_targets_full c s ≡ false → AreFewAndFormed c → AreFewAndFormed (config_after c s)
sets_go t c (step.Export v true x) fit full h =
    put_good c.exports v.0 (with_target x.0 true (c.exports v.0)) h
    (let more : length (with_target x.0 true (c.exports v.0)) ≡ suc (length (c.exports v.0)) = one_longer x.0 (c.exports v.0) in
    let free_place : suc (length (c.exports v.0)) ≤ 16 = room (length (c.exports v.0)) full in
    (omega (arith, more, free_place), formed_with x.0 (c.exports v.0) (and_right (has_vrf t v) (has_rt_form x.0) fit) (h v.0).1))
sets_go t c (step.Export v false x) fit full h =
    put_good c.exports v.0 (with_target x.0 false (c.exports v.0)) h
    (let fewer : length (filter (λ other. not (x.0 == other)) (c.exports v.0)) ≤ length (c.exports v.0) =
    no_longer (λ other. not (x.0 == other)) (c.exports v.0) in
    let few : length (c.exports v.0) ≤ 16 = (h v.0).0 in
    (omega (arith, fewer, few), all_filter (λ target. has_rt_form target ≡ true) (λ other. not (x.0 == other)) (c.exports v.0) (h v.0).1))
sets_go t c _ fit full h = h

sorted_good : (xs : List Rt) (set : List ℕ) → length set + length xs ≤ 16 → AreOfForm set → list_all (λ (target : Rt). has_rt_form target.0) xs ≡ true →
    IsFewAndFormed (fold (λ set target. with_target target.0 true set) set xs)
sorted_good [] set few formed all = (omega (arith, few), formed)
sorted_good (x ∷ xs) set few formed all =
    sorted_good xs (with_target x.0 true set) (let more : length (with_target x.0 true set) ≡ suc (length set) = one_longer x.0 set in omega (arith, few, more))
    (formed_with x.0 set (and_left (has_rt_form x.0) (list_all (λ (target : Rt). has_rt_form target.0) xs) all) formed)
    (and_right (has_rt_form x.0) (list_all (λ (target : Rt). has_rt_form target.0) xs) all)

abbrev HasSets : VrfDef → Type 0
HasSets vrf = AreTargets vrf.«import» × AreTargets vrf.export

pub first_sets : (t : Network) → IsLawful t → AreFewAndFormed (start t).config
first_sets t lawful v = by_index t.vrfs v lawful.vrfs.targets
  where
    by_index : (vrfs : List VrfDef) (v : ℕ) → AllByRecursion HasSets vrfs →
        IsFewAndFormed (ascending (slice_index_or vrfs v (record { node = record { 0 = 0 }; rd = record { 0 = 0 }; «import» = []; export = [] })).export)
    by_index [] v all = (omega arith, tt)
    by_index (vrf ∷ vrfs) zero all = let few : length vrf.export ≤ 16 = all.0.1.few in sorted_good vrf.export [] (omega (arith, few)) tt all.0.1.formed
    by_index (vrf ∷ vrfs) (suc v) all = by_index vrfs v all.1

-- 3. What is told

abbrev pub IsGood : Network → Telling → Type 0
IsGood t (Announcement e) = (e.vrf < length t.vrfs) × IsPrefix e.prefix.address e.prefix.length × IsFewAndFormed e.targets
IsGood t (Withdrawal v p) = (v < length t.vrfs) × IsPrefix p.address p.length
IsGood t _ = ⊤

abbrev IsGoodExport : Network → Export → Type 0
IsGoodExport t e = (e.vrf < length t.vrfs) × IsPrefix e.prefix.address e.prefix.length × IsFewAndFormed e.targets

-- statics and sets are good
pub record IsFit (c : Config) : Type 0 where
  pub forms : HasForms c.statics
  pub sets : AreFewAndFormed c

good_export : (t : Network) (c : Config) (edge : ℕ) → IsFit c → (e : Export) → In (exports_of t c edge) e → IsGoodExport t e
unfolding Behind
good_export t c edge h e i =
    let x = exported_by t c edge e i in (
      x.0,
      subst (λ (p : Export). IsPrefix p.prefix.address p.prefix.length) x.1.3 (h.forms.formed x.1.0 x.1.1),
      subst
          (λ (p : Export). IsFewAndFormed p.targets) x.1.3 (h.sets e.vrf),
    )

abbrev AllTold : Network → List Told → Type 0
AllTold t xs = (x : Told) → In xs x → IsGood t x.telling

good_told : (t : Network) (c : Config) (p : Peerings) (new : Config) (k : Peerings) (s : Step) → IsFit c → IsFit new → AllTold t (told_in t c p new k s)
good_told t c p new k s g h =
    told_are (λ edge m. IsGood t m) (λ edge. tt) (λ edge. tt) t c p new k s (λ edge e i. let x = good_export t c edge g e i in (x.0, x.1))
    (λ edge e i. good_export t new edge h e i)

-- 4. A step

abbrev pub AllGood : Network → Peerings → Type 0
AllGood t p = (edge peer : ℕ) (m : Telling) → In (p.told edge peer) m → IsGood t m

still_good : (t : Network) (p : Peerings) (s : Step) → AllGood t p → AllGood t (bgp_counted p s)
still_good t p s h = still_told (λ edge peer m. IsGood t m) p s h

told_go_on : (t : Network) (c : Config) (p : Peerings) (s : Step) → IsFit c → IsFit (config_after c s) → AllGood t p → (edge peer : ℕ) (m : Telling)
    → In ((bgp_counted p s).told edge peer ++ tellings_of edge peer (told_in t c p (config_after c s) (bgp_counted p s) s)) m → IsGood t m
told_go_on t c p s g h good edge peer m i =
    elim (in_append ((bgp_counted p s).told edge peer) (tellings_of edge peer (told_in t c p (config_after c s) (bgp_counted p s) s)) m i) [
      | inl j ↦ still_good t p s good edge peer m j
      | inr j ↦ let f = in_tellings edge peer (told_in t c p (config_after c s) (bgp_counted p s) s) m j in
          subst (IsGood t) f.2 (good_told t c p (config_after c s) (bgp_counted p s) s g h f.0 f.1)
    ]

tellings_go : (t : Network) (w : World) (s : Step) → IsFit w.config → IsFit (config_after w.config s) → AllGood t w.peerings → AllGood t (after t w s).peerings
tellings_go t w s g h good = peerings_go (AllGood t) t w.config (config_after w.config s) w.peerings s (told_go_on t w.config w.peerings s g h good) good

-- 5. A journal

good_from : (t : Network) (es : List JournalEntry) (tick : ℕ) (w : World) (k : Packets) (n : ℕ) (ps : List (List ℕ)) → IsLawfulFrom t tick w k n es ps →
    IsFit w.config → AllGood t w.peerings → AllGood t (world_from t w es).peerings
good_from t [] tick w k n ps lawful fit good = good
good_from t (e ∷ es) tick w k n ps lawful fit good =
    let next : IsFit (config_after w.config e.step) = record {
      forms = forms_go t w e.step lawful.0 fit.forms;
      sets = sets_go t w.config e.step lawful.0 (free t w k n e.step (next_of ps) lawful.2).targets fit.sets;
    } in
    good_from t es (clock_after e) (after t w e.step) (packets_by t (after t w e.step) k e (next_of ps)) (n + 1) (left_by e.step ps) lawful.3 next
    (tellings_go t w e.step fit next good)

good_told_all : (t : Network) (es : List JournalEntry) (ps : List (List ℕ)) → IsLawful t → IsLawfulJournal t es ps → AllGood t (world_of t es).peerings
good_told_all t es ps topology journal =
    good_from t es 0 (start t) no_packets 0 ps journal (record { forms = first_forms t topology; sets = first_sets t topology }) (λ edge peer m i. absurd i)

-- 6. What is good can be written

rd_formed : (t : Network) (v : ℕ) → IsLawful t → v < length t.vrfs → has_rd_form (vrf_at t v).rd.0 ≡ true
rd_formed t v lawful h = by_index t.vrfs v lawful.vrfs.formed h
  where
    by_index : (vrfs : List VrfDef) (v : ℕ) → list_all (is_vrf_of (length t.loopbacks)) vrfs ≡ true → v < length vrfs →
        has_rd_form (slice_index_or vrfs v (record { node = record { 0 = 0 }; rd = record { 0 = 0 }; «import» = []; export = [] })).rd.0 ≡ true
    by_index [] v all h = absurd (none_below v h)
    by_index (vrf ∷ vrfs) zero all h =
        and_right (nat_lt vrf.node.0 (length t.loopbacks)) (has_rd_form vrf.rd.0)
        (and_left (is_vrf_of (length t.loopbacks) vrf) (list_all (is_vrf_of (length t.loopbacks)) vrfs) all)
    by_index (vrf ∷ vrfs) (suc v) all h =
        by_index vrfs v (and_right (is_vrf_of (length t.loopbacks) vrf) (list_all (is_vrf_of (length t.loopbacks)) vrfs) all) (omega (arith, h))

as_many : (targets : List ℕ) → length (as_targets targets) ≡ length targets
as_many [] = refl
as_many (x ∷ xs) = ap suc (as_many xs)

all_targets : (targets : List ℕ) → AreOfForm targets → AllByRecursion (λ (target : Rt). has_rt_form target.0 ≡ true) (as_targets targets)
all_targets [] all = tt
all_targets (x ∷ xs) all = (all.0, all_targets xs all.1)

good_is_writable : (t : Network) (l : Labels) (m : Telling) → IsLawful t → AreLabels l → IsGood t m → IsWritable t l m
good_is_writable t l (Announcement e) lawful labels g = (
  record { distinguisher = rd_formed t e.vrf lawful g.0; label = labels e.site e.attachment; prefix = g.1 },
  (let few : length e.targets ≤ 16 = g.2.0 in omega (arith, few, as_many e.targets)),
  all_targets e.targets g.2.1,
)
good_is_writable t l (Withdrawal v p) lawful labels g = record { distinguisher = rd_formed t v lawful g.0; label = lit< tt; prefix = g.1 }
good_is_writable t l Open lawful labels g = tt
good_is_writable t l BgpKeepAlive lawful labels g = tt

pub writable : (t : Network) (l : Labels) (es : List JournalEntry) (ps : List (List ℕ)) (teller peer : ℕ) (m : Telling) → IsLawful t → AreLabels l →
    IsLawfulJournal t es ps → Contains ((world_of t es).peerings.told teller peer) m → IsWritable t l m
writable t l es ps teller peer m topology labels journal there =
    good_is_writable t l m topology labels
    (good_told_all t es ps topology journal teller peer m (in_contained ((world_of t es).peerings.told teller peer) m there))

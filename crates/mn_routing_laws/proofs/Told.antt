-- What a step tells of an edge's exports is told of those alone that it touches.
use Rattle.std.proofs.Common.{ℕ, ◌≡◌, ◌≢◌, ◌+◌, inl, inr, Bool, true, false, cond, List, [], ◌∷◌, ◌++◌, map, filter, refl, sym, ◌∙◌, ap, subst, append-nil}
use Rattle.std.specs.Prelude.{◌==◌, ◌&&◌, not, Some, None, is_some}
use Rattle.std.specs.List.{list_any}
use Rattle.std.proofs.lemmas.Bool.Decides.{eqb_tells}
use Rattle.mn_base.specs.declared.numbers.SiteNo.{SiteNo}
use Rattle.mn_base.specs.declared.numbers.VrfNo.{VrfNo}
use Rattle.mn_base.specs.declared.numbers.Rt.{Rt}
use Rattle.mn_prefix.specs.Prefix.{AddressBlock, same_prefix}
use Rattle.mn_topo.specs.Network.{Network}
use Rattle.mn_topo.specs.declared.steps.Step.{Step}
use Rattle.mn_topo.specs.declared.steps.Step.TheVariants as step
use Rattle.mn_ledger.specs.Tables.{put}
use Rattle.mn_ledger.specs.Places.{vrf_of}
use Rattle.mn_ledger.specs.World.{SiteRoute, Config, Export, Announcement, Withdrawal}
use Rattle.mn_ledger.specs.Exports.{same_targets, export_of, exports_of}
use Rattle.mn_ledger.specs.Bgp.{is_for, same_export, withdrawn, announced, changed}
use Rattle.mn_ledger.specs.Ledger.{with_target, is_static, config_after}
use Rattle.mn_ledger.proofs.GoingBy.{put_here, put_off}
use Rattle.mn_ledger.proofs.Peers.{same_test, same_numbers, and_left, and_right}
use Rattle.mn_ledger.proofs.Members.{In, in_append, in_front, in_filter, filter_in, passes_none, one_alike}
use Rattle.mn_ledger.proofs.Statics.{SameStatic, HasStatics}
use Rattle.mn_ledger.proofs.OneKind.{one_passes, AreSome, IsBehind, from_exports, to_exports, for_itself, export_itself, none_goes, none_comes, alike}
use Rattle.mn_ledger.proofs.OneKind.{kept_some, same_where_some}
use Rattle.mn_routing_laws.specs.Touched.{touches, comes, goes, by_set, told_of}
use Rattle.mn_routing_laws.proofs.Removing.{two_prefixes}
use Rattle.mn_base.proofs.Bools.{no, two_ways, never}

-- 1. Announcements, and withdrawals

filter_same_in : {A : Type 0} (p q : A → Bool) (xs : List A) → ((x : A) → In xs x → p x ≡ q x) → filter p xs ≡ filter q xs
filter_same_in p q [] h = refl
filter_same_in p q (x ∷ xs) h = ap (λ b. cond b (x ∷ filter p xs) (filter p xs)) (h x (inl refl))
    ∙ ap (λ ys. cond (q x) (x ∷ ys) ys) (filter_same_in p q xs (λ y i. h y (inr i)))

announces : (t : Network) (c : Config) (s : Step) (edge : ℕ) → withdrawn (exports_of t c edge) (exports_of t (config_after c s) edge) ≡ []
    → ((e : Export) → In (exports_of t (config_after c s) edge) e → touches t s e ≡ false → In (exports_of t c edge) e)
    → ((e o : Export) → In (exports_of t (config_after c s) edge) e → touches t s e ≡ true → In (exports_of t c edge) o → same_export e o ≡ false)
    → changed (exports_of t c edge) (exports_of t (config_after c s) edge) ≡ comes t c s edge
announces t c s edge none off on =
    ap (λ ms. ms ++ announced (exports_of t c edge) (exports_of t (config_after c s) edge)) none
    ∙ ap (map (λ export. Announcement export)) (filter_same_in (λ e. not (list_any (same_export e) (exports_of t c edge))) (touches t s)
    (exports_of t (config_after c s) edge)
    (λ e i. elim (two_ways (touches t s e)) [
      | inl h ↦ ap not (passes_none (same_export e) (exports_of t c edge) (λ o j. on e o i h j)) ∙ sym h
      | inr h ↦ ap not (one_passes (same_export e) (exports_of t c edge) e (off e i h) (export_itself e)) ∙ sym h
    ]))

withdraws : (t : Network) (c : Config) (s : Step) (edge : ℕ) → announced (exports_of t c edge) (exports_of t (config_after c s) edge) ≡ []
    → ((e : Export) → In (exports_of t c edge) e → touches t s e ≡ false → In (exports_of t (config_after c s) edge) e)
    → ((e n : Export) → In (exports_of t c edge) e → touches t s e ≡ true → In (exports_of t (config_after c s) edge) n → is_for e.vrf e.prefix n ≡ false)
    → changed (exports_of t c edge) (exports_of t (config_after c s) edge) ≡ goes t c s edge
withdraws t c s edge none off on =
    ap (λ ms. withdrawn (exports_of t c edge) (exports_of t (config_after c s) edge) ++ ms) none
    ∙ append-nil (withdrawn (exports_of t c edge) (exports_of t (config_after c s) edge))
    ∙ ap (map (λ (export : Export). Withdrawal export.vrf export.prefix))
    (filter_same_in (λ (e : Export). not (list_any (is_for e.vrf e.prefix) (exports_of t (config_after c s) edge))) (touches t s) (exports_of t c edge)
    (λ e i. elim (two_ways (touches t s e)) [
      | inl h ↦ ap not (passes_none (is_for e.vrf e.prefix) (exports_of t (config_after c s) edge) (λ n j. on e n i h j)) ∙ sym h
      | inr h ↦ ap not (one_passes (is_for e.vrf e.prefix) (exports_of t (config_after c s) edge) e (off e i h) (for_itself e.vrf e.prefix)) ∙ sym h
    ]))

-- 2. The static behind an export

prefix_is : (p q : AddressBlock) → same_prefix p q ≡ true → p ≡ q
prefix_is p q h = elim (two_prefixes p q) [ inl e ↦ e.0 | inr e ↦ absurd (no (sym e.0 ∙ h)) ]

-- the same VRF and prefix, as statics
for_is : (v : ℕ) (p : AddressBlock) (e : Export) → is_for v p e ≡ true → (v ≡ e.vrf) × (p ≡ e.prefix)
for_is v p e h = (same_numbers v e.vrf (and_left _ _ h), prefix_is p e.prefix (and_right (v == e.vrf) _ h))

pub behind_vrf : (t : Network) (c : Config) (edge : ℕ) (e : Export) (b : IsBehind t c edge e) → vrf_of t b.static.site ≡ e.vrf
behind_vrf t c edge e b = same_numbers (vrf_of t b.static.site) b.v (and_left _ _ b.present) ∙ ap (λ (x : Export). x.vrf) b.is

behind_prefix : (t : Network) (c : Config) (edge : ℕ) (e : Export) (b : IsBehind t c edge e) → b.static.prefix ≡ e.prefix
behind_prefix t c edge e b = ap (λ (x : Export). x.prefix) b.is

pub behind_site : (t : Network) (c : Config) (edge : ℕ) (e : Export) (b : IsBehind t c edge e) → b.static.site ≡ e.site
behind_site t c edge e b = ap (λ (x : Export). x.site) b.is

behind_on : (t : Network) (c : Config) (edge : ℕ) (e : Export) (b : IsBehind t c edge e) → is_some (c.attached b.static.site) ≡ true
behind_on t c edge e b = and_right (vrf_of t b.static.site == b.v) _ b.present

-- an export that stays as it was
still : (t : Network) (c new : Config) (edge : ℕ) (e : Export) (b : IsBehind t c edge e) → In new.statics b.static →
    new.attached b.static.site ≡ c.attached b.static.site → new.exports b.v ≡ c.exports b.v → In (exports_of t new edge) e
still t c new edge e b there on same =
    subst (In (exports_of t new edge))
    (ap (λ ts. export_of new b.v ts b.static) same ∙ alike new c b.v (c.exports b.v) b.static on ∙ b.is)
    (to_exports t new edge b.v b.static b.at_edge (subst AreSome (sym same) b.some) there
    (ap (λ o. (vrf_of t b.static.site == b.v) && is_some o) on ∙ b.present))

same_for : (e o : Export) → same_export e o ≡ true → (e.vrf ≡ o.vrf) × (e.prefix ≡ o.prefix)
same_for e o h = for_is e.vrf e.prefix o (and_left _ _ h)

-- 3. The steps

pub add_tells : (t : Network) (c : Config) (s : SiteNo) (prefix : AddressBlock) (edge : ℕ) →
    ((x : SiteRoute) → In c.statics x → vrf_of t x.site ≡ vrf_of t s.0 → x.prefix ≡ prefix → ⊥)
    → changed (exports_of t c edge) (exports_of t (config_after c (step.AddRoute s prefix)) edge) ≡ told_of t c (step.AddRoute s prefix) edge
add_tells t c s prefix edge free =
    let new : Config = config_after c (step.AddRoute s prefix) in
    announces t c (step.AddRoute s prefix) edge (none_goes t c new edge (λ x i. in_front c.statics _ x i) (λ j h. h) (λ v h. h))
    (λ e i h. let b = from_exports t new edge e i in elim (in_append c.statics (record { site = s.0; prefix = prefix } ∷ []) b.static b.there) [
      | inl j ↦ still t new c edge e b j refl refl
      | inr j ↦ elim j [
        | inl q ↦ absurd (no (sym h
            ∙ ap (λ v. (vrf_of t s.0 == v) && same_prefix prefix e.prefix) (sym (behind_vrf t new edge e b) ∙ ap (λ (x : SiteRoute). vrf_of t x.site) (sym q))
            ∙ ap (λ p. (vrf_of t s.0 == vrf_of t s.0) && same_prefix prefix p) (sym (behind_prefix t new edge e b) ∙ ap (λ (x : SiteRoute). x.prefix) (sym q))
            ∙ for_itself (vrf_of t s.0) prefix))
        | inr n ↦ absurd n
      ]
    ])
    (λ e o i h j. never (same_export e o) (λ same.
    let b = from_exports t c edge o j in
    let at = for_is (vrf_of t s.0) prefix e h in
    let like = same_for e o same in
    free b.static b.there (behind_vrf t c edge o b ∙ sym like.0 ∙ sym at.0) (behind_prefix t c edge o b ∙ sym like.1 ∙ sym at.1)))

pub del_tells : (t : Network) (c : Config) (s : SiteNo) (prefix : AddressBlock) (edge : ℕ) → HasStatics t c.statics →
    In c.statics (record { site = s.0; prefix = prefix })
    → changed (exports_of t c edge) (exports_of t (config_after c (step.DelRoute s prefix)) edge) ≡ told_of t c (step.DelRoute s prefix) edge
del_tells t c s prefix edge has there =
    let new : Config = config_after c (step.DelRoute s prefix) in
    let gone : SiteRoute = record { site = s.0; prefix = prefix } in
    withdraws t c (step.DelRoute s prefix) edge (none_comes t c new edge (λ x i. (in_filter (λ static. not (is_static s.0 prefix static)) c.statics x i).0)
    (λ j h. refl) (λ v h. refl))
    (λ e i h. let b = from_exports t c edge e i in
    still t c new edge e b (filter_in (λ static. not (is_static s.0 prefix static)) c.statics b.static b.there
    (ap not (never (is_static s.0 prefix b.static) (λ is. no (sym h
    ∙ ap (λ v. (v == e.vrf) && same_prefix prefix e.prefix) (sym (ap (vrf_of t) (same_numbers b.static.site s.0 (and_left _ _ is))) ∙ behind_vrf t c edge e b)
    ∙ ap (λ p. (e.vrf == e.vrf) && same_prefix p e.prefix) (sym (prefix_is b.static.prefix prefix (and_right (b.static.site == s.0) _ is))
    ∙ behind_prefix t c edge e b) ∙ for_itself e.vrf e.prefix))))) refl refl)
    (λ e n i h j. never (is_for e.vrf e.prefix n) (λ same.
    let b = from_exports t new edge n j in
    let at = for_is (vrf_of t s.0) prefix e h in
    let like = for_is e.vrf e.prefix n same in
    let kept = in_filter (λ static. not (is_static s.0 prefix static)) c.statics b.static b.there in
    let one : b.static ≡ gone = one_alike (SameStatic t) (λ _ _ r. (sym r.0, sym r.1)) c.statics b.static gone has.apart kept.0 there
    (behind_vrf t new edge n b ∙ sym like.0 ∙ sym at.0, behind_prefix t new edge n b ∙ sym like.1 ∙ sym at.1) in
    no (sym (ap not (ap (λ b. b && same_prefix prefix prefix) (same_test s.0) ∙ ap (λ b. b && (prefix.length == prefix.length)) (same_test prefix.address)
    ∙ same_test prefix.length)) ∙ ap (λ x. not (is_static s.0 prefix x)) (sym one) ∙ kept.1)))

pub attach_tells : (t : Network) (c : Config) (s : SiteNo) (edge : ℕ) → HasStatics t c.statics → c.attached s.0 ≡ None
    → changed (exports_of t c edge) (exports_of t (config_after c (step.Attach s)) edge) ≡ told_of t c (step.Attach s) edge
attach_tells t c s edge has off =
    let new : Config = config_after c (step.Attach s) in
    announces t c (step.Attach s) edge (none_goes t c new edge (λ x i. i) (stays_on) (λ v h. h))
    (λ e i h. let b = from_exports t new edge e i in still t new c edge e b b.there
    (elsewhere b.static.site (λ q. no (sym h ∙ ap (λ n. n == s.0) (sym (behind_site t new edge e b) ∙ q) ∙ same_test s.0))) refl)
    (λ e o i h j. never (same_export e o) (λ same.
    let b = from_exports t new edge e i in
    let d = from_exports t c edge o j in
    let like = same_for e o same in
    let one : b.static ≡ d.static = one_alike (SameStatic t) (λ _ _ r. (sym r.0, sym r.1)) c.statics b.static d.static has.apart b.there d.there
    (behind_vrf t new edge e b ∙ like.0 ∙ sym (behind_vrf t c edge o d), behind_prefix t new edge e b ∙ like.1 ∙ sym (behind_prefix t c edge o d)) in
    no (sym (ap (λ n. is_some (c.attached n)) (ap (λ (x : SiteRoute). x.site) (sym one) ∙ behind_site t new edge e b ∙ same_numbers e.site s.0 h)
    ∙ ap is_some off) ∙ behind_on t c edge o d)))
  where
    elsewhere : (j : ℕ) → j ≢ s.0 → c.attached j ≡ put c.attached s.0 (Some (c.attaches s.0 + 2)) j
    elsewhere j d = sym (put_off c.attached s.0 (Some (c.attaches s.0 + 2)) j d)

    stays_on : (j : ℕ) → is_some (c.attached j) ≡ true → is_some (put c.attached s.0 (Some (c.attaches s.0 + 2)) j) ≡ true
    stays_on j h = elim (eqb_tells j s.0) [
      | inl p ↦ ap is_some (ap (put c.attached s.0 (Some (c.attaches s.0 + 2))) p.1 ∙ put_here c.attached s.0 (Some (c.attaches s.0 + 2)))
      | inr p ↦ ap is_some (put_off c.attached s.0 (Some (c.attaches s.0 + 2)) j p.1) ∙ h
    ]

pub detach_tells : (t : Network) (c : Config) (s : SiteNo) (edge : ℕ) → HasStatics t c.statics
    → changed (exports_of t c edge) (exports_of t (config_after c (step.Detach s)) edge) ≡ told_of t c (step.Detach s) edge
detach_tells t c s edge has =
    let new : Config = config_after c (step.Detach s) in
    withdraws t c (step.Detach s) edge (none_comes t c new edge (λ x i. i) was_on (λ v h. refl))
    (λ e i h. let b = from_exports t c edge e i in still t c new edge e b b.there
    (put_off c.attached s.0 None b.static.site (λ q. no (sym h ∙ ap (λ n. n == s.0) (sym (behind_site t c edge e b) ∙ q) ∙ same_test s.0))) refl)
    (λ e n i h j. never (is_for e.vrf e.prefix n) (λ same.
    let b = from_exports t c edge e i in
    let d = from_exports t new edge n j in
    let like = for_is e.vrf e.prefix n same in
    let one : b.static ≡ d.static = one_alike (SameStatic t) (λ _ _ r. (sym r.0, sym r.1)) c.statics b.static d.static has.apart b.there d.there
    (behind_vrf t c edge e b ∙ like.0 ∙ sym (behind_vrf t new edge n d), behind_prefix t c edge e b ∙ like.1 ∙ sym (behind_prefix t new edge n d)) in
    no (sym (ap (λ k. is_some (put c.attached s.0 None k)) (ap (λ (x : SiteRoute). x.site) (sym one) ∙ behind_site t c edge e b ∙ same_numbers e.site s.0 h)
    ∙ ap is_some (put_here c.attached s.0 None)) ∙ behind_on t new edge n d)))
  where
    was_on : (j : ℕ) → is_some (put c.attached s.0 None j) ≡ true → c.attached j ≡ put c.attached s.0 None j
    was_on j h = elim (eqb_tells j s.0) [
      | inl p ↦ absurd (no (sym (ap is_some (ap (put c.attached s.0 None) p.1 ∙ put_here c.attached s.0 None)) ∙ h))
      | inr p ↦ sym (put_off c.attached s.0 None j p.1)
    ]

targets_same : (xs ys : List ℕ) → same_targets xs ys ≡ true → xs ≡ ys
targets_same [] [] h = refl
targets_same [] (y ∷ ys) h = absurd (no h)
targets_same (x ∷ xs) [] h = absurd (no h)
targets_same (x ∷ xs) (y ∷ ys) h = ap (λ z. z ∷ xs) (same_numbers x y (and_left (x == y) _ h)) ∙ ap (λ zs. y ∷ zs) (targets_same xs ys (and_right (x == y) _ h))

behind_targets : (t : Network) (c : Config) (edge : ℕ) (e : Export) (b : IsBehind t c edge e) → c.exports e.vrf ≡ e.targets
behind_targets t c edge e b = ap c.exports (sym (ap (λ (x : Export). x.vrf) b.is)) ∙ ap (λ (x : Export). x.targets) b.is

pub export_tells : (t : Network) (c : Config) (v : VrfNo) (target : Rt) (on : Bool) (edge : ℕ) → with_target target.0 on (c.exports v.0) ≢ c.exports v.0
    → changed (exports_of t c edge) (exports_of t (config_after c (step.Export v on target)) edge) ≡ told_of t c (step.Export v on target) edge
unfolding AreSome
export_tells t c v target on edge differs = go (with_target target.0 on (c.exports v.0)) refl
  where
    others : (e : Export) (n : ℕ) → n ≡ e.vrf → (e.vrf == v.0) ≡ false → put c.exports v.0 (with_target target.0 on (c.exports v.0)) n ≡ c.exports n
    others e n q h = put_off c.exports v.0 (with_target target.0 on (c.exports v.0)) n (λ f. no (sym h ∙ ap (λ k. k == v.0) (sym q ∙ f) ∙ same_test v.0))

    here : (e : Export) → (e.vrf == v.0) ≡ true → put c.exports v.0 (with_target target.0 on (c.exports v.0)) e.vrf ≡ with_target target.0 on (c.exports v.0)
    here e h = ap (put c.exports v.0 (with_target target.0 on (c.exports v.0))) (same_numbers e.vrf v.0 h)
        ∙ put_here c.exports v.0 (with_target target.0 on (c.exports v.0))

    none_some : (x : ℕ) (xs : List ℕ) → [] ≡ x ∷ xs → ⊥
    none_some x xs e = cc

    go : (ts : List ℕ) → with_target target.0 on (c.exports v.0) ≡ ts →
        changed (exports_of t c edge) (exports_of t (config_after c (step.Export v on target)) edge) ≡ told_of t c (step.Export v on target) edge
    go [] is =
        let new : Config = config_after c (step.Export v on target) in
        withdraws t c (step.Export v on target) edge
        (subst (λ ts. announced (exports_of t c edge) (exports_of t (record c { exports = put c.exports v.0 ts }) edge) ≡ []) (sym is)
        (none_comes t c (record c { exports = put c.exports v.0 [] }) edge (λ x i. i) (λ s h. refl) (same_where_some c v.0)))
        (λ e i h. let b = from_exports t c edge e i in still t c new edge e b b.there refl (others e b.v (ap (λ (x : Export). x.vrf) b.is) h))
        (λ e n i h j. never (is_for e.vrf e.prefix n) (λ same.
        let d = from_exports t new edge n j in
        let vrf : n.vrf ≡ v.0 = sym (for_is e.vrf e.prefix n same).0 ∙ same_numbers e.vrf v.0 h in
        none_some d.some.0 d.some.1 (sym (ap (put c.exports v.0 (with_target target.0 on (c.exports v.0))) (ap (λ (x : Export). x.vrf) d.is ∙ vrf)
        ∙ put_here c.exports v.0 (with_target target.0 on (c.exports v.0)) ∙ is) ∙ d.some.2)))
        ∙ sym (ap (λ ts. by_set ts (comes t c (step.Export v on target) edge) (goes t c (step.Export v on target) edge)) is)
    go (x ∷ xs) is =
        let new : Config = config_after c (step.Export v on target) in
        announces t c (step.Export v on target) edge
        (subst (λ ts. withdrawn (exports_of t c edge) (exports_of t (record c { exports = put c.exports v.0 ts }) edge) ≡ []) (sym is)
        (none_goes t c (record c { exports = put c.exports v.0 (x ∷ xs) }) edge (λ y i. i) (λ s h. h) (kept_some c v.0 (x ∷ xs) (x, xs, refl))))
        (λ e i h. let b = from_exports t new edge e i in still t new c edge e b b.there refl (sym (others e b.v (ap (λ (x : Export). x.vrf) b.is) h)))
        (λ e o i h j. never (same_export e o) (λ same.
        let b = from_exports t new edge e i in
        let d = from_exports t c edge o j in
        let vrf : o.vrf ≡ v.0 = sym (same_for e o same).0 ∙ same_numbers e.vrf v.0 h in
        differs (sym (here e h) ∙ behind_targets t new edge e b
        ∙ targets_same e.targets o.targets (and_right (e.attachment == o.attachment) _ (and_right (is_for e.vrf e.prefix o) _ same))
        ∙ sym (behind_targets t c edge o d) ∙ ap c.exports vrf)))
        ∙ sym (ap (λ ts. by_set ts (comes t c (step.Export v on target) edge) (goes t c (step.Export v on target) edge)) is)

-- no other step changes what an edge exports
pub nothing_changed : (es : List Export) → changed es es ≡ []
nothing_changed es =
    ap (λ ms. ms ++ announced es es) (ap (map (λ (export : Export). Withdrawal export.vrf export.prefix))
    (none_of (λ (e : Export). not (list_any (is_for e.vrf e.prefix) es)) es
    (λ e i. ap not (one_passes (is_for e.vrf e.prefix) es e i (for_itself e.vrf e.prefix)))))
    ∙ ap (map (λ export. Announcement export)) (none_of (λ e. not (list_any (same_export e) es)) es
    (λ e i. ap not (one_passes (same_export e) es e i (export_itself e))))
  where
    none_of : (p : Export → Bool) (xs : List Export) → ((x : Export) → In xs x → p x ≡ false) → filter p xs ≡ []
    none_of p [] h = refl
    none_of p (x ∷ xs) h = ap (λ b. cond b (x ∷ filter p xs) (filter p xs)) (h x (inl refl)) ∙ none_of p xs (λ y i. h y (inr i))

pub import_tells : (t : Network) (c : Config) (v : VrfNo) (target : Rt) (on : Bool) (edge : ℕ) →
    changed (exports_of t c edge) (exports_of t (config_after c (step.Import v on target)) edge) ≡ []
import_tells t c v target on edge = nothing_changed (exports_of t c edge)

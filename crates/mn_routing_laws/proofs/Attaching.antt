-- A site is attached by a label that was never given, or detached.
use Rattle.std.proofs.Common.{ℕ, ◌≡◌, ◌≢◌, ◌+◌, ◌<◌, ◌≤◌, inl, inr, Bool, true, false, List, [], ◌∷◌, map, length, refl, arith, sym, ◌∙◌, ap}
use Rattle.std.specs.Prelude.{◌==◌, if◌then◌else◌, fold, Option, Some, None, option_map, ⊤}
use Rattle.std.specs.List.{range_with_len}
use Rattle.std.proofs.lemmas.Bool.Decides.{eqb_tells}
use Rattle.mn_base.specs.declared.numbers.SiteNo.{SiteNo}
use Rattle.mn_wiring.specs.Wiring.{nodes_of}
use Rattle.mn_topo.specs.declared.sites.SiteDef.{SiteDef}
use Rattle.mn_topo.specs.Network.{Network, wiring_of}
use Rattle.mn_topo.specs.declared.steps.Step.TheVariants as step
use Rattle.mn_ledger.specs.Tables.{put}
use Rattle.mn_ledger.specs.Places.{loopback, vrf_at, vrfs_at, home_of}
use Rattle.mn_bgp_wire.specs.Written.{says_announced}
use Rattle.mn_ledger.specs.World.{Config, Telling, Open, BgpKeepAlive, Announcement, Withdrawal, Peerings}
use Rattle.mn_ledger.specs.Bgp.{peers_live, tellings_of, told_in, with_told, peerings_after}
use Rattle.mn_ledger.specs.Held.{heard_of}
use Rattle.mn_ledger.specs.Ledger.{config_after}
use Rattle.mn_ledger.proofs.GoingBy.{put_here, put_off, pair_here, pair_off}
use Rattle.mn_ledger.proofs.Members.{In, in_take}
use Rattle.mn_ledger.proofs.Peers.{same_test}
use Rattle.mn_rib_in.specs.Heard.{Heard}
use Rattle.mn_pe.specs.Edge.{Edge, after_attach, after_detach}
use Rattle.mn_bgp_spelling_laws.specs.Spelling.{Labels, as_targets}
use Rattle.mn_routing_laws.specs.Labels.{labels_after}
use Rattle.mn_routing_laws.specs.Standing.{vrf_in, site_label_now, says_of, heard_if, heard_in, edge_in}
use Rattle.mn_routing_laws.proofs.Tables.{map_same, map_numbers_set}
use Rattle.mn_routing_laws.proofs.Hearing.{IsInTurn, heard_same}

-- 1. What was told names attachments of the past

abbrev pub IsKnown : Config → Telling → Type 0
IsKnown c (Announcement export) = export.attachment ≤ c.attaches export.site + 1
IsKnown c _ = ⊤

abbrev pub AllKnown : Config → Peerings → Type 0
AllKnown c p = (teller peer : ℕ) (m : Telling) → In (p.told teller peer) m → IsKnown c m

unfoldable pub AgreeOn : Labels → Labels → Telling → Type 0
AgreeOn l m (Announcement export) = l export.site export.attachment ≡ m export.site export.attachment
AgreeOn l m _ = ⊤

same_says : (t : Network) (l m : Labels) (q : ℕ) (x : Telling) → AgreeOn l m x → says_of t l q x ≡ says_of t m q x
unfolding AgreeOn
same_says t l m q (Announcement e) h = ap (λ label. Some (says_announced (loopback t q) (record { rd = (vrf_at t e.vrf).rd; prefix = e.prefix; label = label })
    (as_targets e.targets))) h
same_says t l m q (Withdrawal v p) h = refl
same_says t l m q Open h = refl
same_says t l m q BgpKeepAlive h = refl

same_fold : (t : Network) (l m : Labels) (q : ℕ) (heard : List Heard) (xs : List Telling) → ((x : Telling) → In xs x → AgreeOn l m x)
    → fold (λ heard telling. heard_if heard (says_of t l q telling)) heard xs ≡ fold (λ heard telling. heard_if heard (says_of t m q telling)) heard xs
same_fold t l m q heard [] h = refl
same_fold t l m q heard (x ∷ xs) h =
    ap (λ says. fold (λ heard telling. heard_if heard (says_of t l q telling)) (heard_if heard says) xs) (same_says t l m q x (h x (inl refl)))
    ∙ same_fold t l m q (heard_if heard (says_of t m q x)) xs (λ y i. h y (inr i))

same_heard : (t : Network) (l m : Labels) (c : Config) (p : Peerings) (edge q : ℕ) → ((x : Telling) → In (p.told q edge) x → AgreeOn l m x) →
    heard_in t l c p edge q ≡ heard_in t m c p edge q
same_heard t l m c p edge q h = ap (λ xs. if q == edge then [] else if peers_live c edge q then xs else [])
    (same_fold t l m q [] (heard_of p edge q) (λ x i. h x (in_take (p.heard edge q) (p.told q edge) x i)))

pub agrees : (t : Network) (gives : ℕ → ℕ) (c : Config) (l : Labels) (s : SiteNo) (x : Telling) → IsKnown c x →
    AgreeOn (labels_after gives c l (step.Attach s)) l x
unfolding AgreeOn
agrees t gives c l s (Announcement e) h = elim (eqb_tells e.site s.0) [
  | inr d ↦ pair_off l s.0 (c.attaches s.0 + 2) (gives s.0) e.site e.attachment (inl d.1)
  | inl q ↦ pair_off l s.0 (c.attaches s.0 + 2) (gives s.0) e.site e.attachment (inr (past q.1))
]
  where
    past : e.site ≡ s.0 → e.attachment ≢ c.attaches s.0 + 2
    past q f = omega (arith, h, f, ap c.attaches q)
agrees t gives c l s (Withdrawal v p) h = tt
agrees t gives c l s Open h = tt
agrees t gives c l s BgpKeepAlive h = tt

-- 2. The labels of the edge

some_other : (l m : ℕ → ℕ) (o : Option ℕ) → ((k : ℕ) → l k ≡ m k) → option_map l o ≡ option_map m o
some_other l m None h = refl
some_other l m (Some k) h = ap (λ x. Some x) (h k)

made : (t : Network) (c : Config) (edge : ℕ) → List (Option ℕ) → List (List Heard) → Edge
made t c edge labels heard = record {
  vrfs = map (vrf_in t c) (vrfs_at t edge);
  sites = map (λ (def : SiteDef). def.vrf) t.sites;
  labels = labels;
  loopbacks =
      t.loopbacks;
  heard = heard;
}

module _ (t : Network) (gives : ℕ → ℕ) (l : Labels) (c : Config) (p : Peerings) (s : SiteNo) (turn : IsInTurn p) where
  new_label : ℕ
  new_label = gives s.0

  label_elsewhere : (edge site : ℕ) → site ≢ s.0 → site_label_now t (labels_after gives c l (step.Attach s))
      (config_after c (step.Attach s)) edge site ≡ site_label_now t l c edge site
  label_elsewhere edge site d =
      ap (λ o. if home_of t site == edge then option_map (labels_after gives c l (step.Attach s) site) o else None)
      (put_off c.attached s.0 (Some (c.attaches s.0 + 2)) site d)
      ∙ ap (λ o. if home_of t site == edge then o else None)
      (some_other (labels_after gives c l (step.Attach s) site) (l site) (c.attached site)
      (λ k. pair_off l s.0 (c.attaches s.0 + 2) (gives s.0) site k (inl d)))

  label_there : site_label_now t (labels_after gives c l (step.Attach s)) (config_after c (step.Attach s)) (home_of t s.0) s.0 ≡ Some new_label
  unfolding new_label
  label_there =
      ap (λ b. if b then option_map (labels_after gives c l (step.Attach s) s.0) (put c.attached s.0 (Some (c.attaches s.0 + 2)) s.0) else None)
      (same_test (home_of t s.0))
      ∙ ap (option_map (labels_after gives c l (step.Attach s) s.0)) (put_here c.attached s.0 (Some (c.attaches s.0 + 2)))
      ∙ ap (λ x. Some x) (pair_here l s.0 (c.attaches s.0 + 2) (gives s.0))

  heard_kept : AllKnown c p → (edge : ℕ) → map (heard_in t (labels_after gives c l (step.Attach s)) (config_after c (step.Attach s))
      (peerings_after t c (config_after c (step.Attach s)) p (step.Attach s)) edge) (nodes_of (wiring_of t)) ≡ map (heard_in t l c p edge)
      (nodes_of (wiring_of t))
  unfolding peerings_after
  heard_kept known edge =
      let new : Config = config_after c (step.Attach s) in
      let k : Peerings = with_told p (told_in t c p new p (step.Attach s)) in
      let m : Labels = labels_after gives c l (step.Attach s) in
      map_same (heard_in t m new k edge) (heard_in t l c p edge) (nodes_of (wiring_of t)) (λ q i.
      heard_same t m c new p k edge q (tellings_of q edge (told_in t c p new p (step.Attach s))) refl refl refl (turn edge q)
      ∙ same_heard t m l c p edge q (λ x j. agrees t gives c l s x (known q edge x j)))

  pub attach_here : AllKnown c p → s.0 < length t.sites
      → edge_in t (labels_after gives c l (step.Attach s)) (config_after c (step.Attach s))
      (peerings_after t c (config_after c (step.Attach s)) p (step.Attach s)) (home_of t s.0)
      ≡ after_attach (edge_in t l c p (home_of t s.0)) s.0 (gives s.0)
  unfolding made new_label
  attach_here known below =
      ap (λ hs. made t c (home_of t s.0) (map (site_label_now t (labels_after gives c l (step.Attach s)) (config_after c (step.Attach s)) (home_of t s.0))
      (range_with_len 0 (length t.sites))) hs) (heard_kept known (home_of t s.0))
      ∙ ap (λ ls. made t c (home_of t s.0) ls (map (heard_in t l c p (home_of t s.0)) (nodes_of (wiring_of t))))
      (map_numbers_set (site_label_now t l c (home_of t s.0))
      (site_label_now t (labels_after gives c l (step.Attach s)) (config_after c (step.Attach s)) (home_of t s.0))
      (length t.sites) s.0 (Some new_label) below label_there (λ x d. label_elsewhere (home_of t s.0) x d))

  pub attach_off : AllKnown c p → (edge : ℕ) → edge ≢ home_of t s.0
      → edge_in t (labels_after gives c l (step.Attach s)) (config_after c (step.Attach s))
      (peerings_after t c (config_after c (step.Attach s)) p (step.Attach s)) edge ≡ edge_in t l c p edge
  unfolding made
  attach_off known edge d =
      ap (λ hs. made t c edge (map (site_label_now t (labels_after gives c l (step.Attach s)) (config_after c (step.Attach s)) edge)
      (range_with_len 0 (length t.sites))) hs) (heard_kept known edge)
      ∙ ap (λ ls. made t c edge ls (map (heard_in t l c p edge) (nodes_of (wiring_of t))))
      (map_same (site_label_now t (labels_after gives c l (step.Attach s)) (config_after c (step.Attach s)) edge) (site_label_now t l c edge)
      (range_with_len 0 (length t.sites)) (λ x i. elim (eqb_tells x s.0) [
        | inr e ↦ label_elsewhere edge x e.1
        | inl e ↦ none_here x e.1 (labels_after gives c l (step.Attach s) x) (put c.attached s.0 (Some (c.attaches s.0 + 2)) x) (l x) (c.attached x)
      ]))
    where
      none_here : (x : ℕ) → x ≡ s.0 → (f : ℕ → ℕ) (o : Option ℕ) (g : ℕ → ℕ) (q : Option ℕ) →
          (if home_of t x == edge then option_map f o else None) ≡ (if home_of t x == edge then option_map g q else None)
      none_here x e f o g q = elim (eqb_tells (home_of t x) edge) [
        | inl h ↦ absurd (d (sym h.1 ∙ ap (home_of t) e))
        | inr h ↦ ap (λ b. if b then option_map f o else None) h.0 ∙ sym (ap (λ b. if b then option_map g q else None) h.0)
      ]

-- 3. A site that is detached has no label

module _ (t : Network) (l : Labels) (c : Config) (p : Peerings) (s : SiteNo) (turn : IsInTurn p) where
  gone_elsewhere : (edge site : ℕ) → site ≢ s.0 → site_label_now t l (config_after c (step.Detach s)) edge site ≡ site_label_now t l c edge site
  gone_elsewhere edge site d = ap (λ o. if home_of t site == edge then option_map (l site) o else None) (put_off c.attached s.0 None site d)

  gone_there : (edge : ℕ) → site_label_now t l (config_after c (step.Detach s)) edge s.0 ≡ None
  gone_there edge = ap (λ o. if home_of t s.0 == edge then option_map (l s.0) o else None) (put_here c.attached s.0 None) ∙ either (home_of t s.0 == edge)
    where
      either : (b : Bool) → (let o : Option ℕ = if b then None else None in o) ≡ None
      either true = refl
      either false = refl

  detach_heard : (edge : ℕ) → map (heard_in t l (config_after c (step.Detach s)) (peerings_after t c (config_after c (step.Detach s)) p (step.Detach s)) edge)
      (nodes_of (wiring_of t)) ≡ map (heard_in t l c p edge) (nodes_of (wiring_of t))
  unfolding peerings_after
  detach_heard edge =
      let new : Config = config_after c (step.Detach s) in
      let k : Peerings = with_told p (told_in t c p new p (step.Detach s)) in
      map_same (heard_in t l new k edge) (heard_in t l c p edge) (nodes_of (wiring_of t))
      (λ q i. heard_same t l c new p k edge q (tellings_of q edge (told_in t c p new p (step.Detach s))) refl refl refl (turn edge q))

  pub detach_here : s.0 < length t.sites
      → edge_in t l (config_after c (step.Detach s)) (peerings_after t c (config_after c (step.Detach s)) p (step.Detach s)) (home_of t s.0) ≡ after_detach
      (edge_in t l c p (home_of t s.0)) s.0
  unfolding made
  detach_here below =
      ap (λ hs. made t c (home_of t s.0) (map (site_label_now t l (config_after c (step.Detach s)) (home_of t s.0)) (range_with_len 0 (length t.sites))) hs)
      (detach_heard (home_of t s.0))
      ∙ ap (λ ls. made t c (home_of t s.0) ls (map (heard_in t l c p (home_of t s.0)) (nodes_of (wiring_of t))))
      (map_numbers_set (site_label_now t l c (home_of t s.0)) (site_label_now t l (config_after c (step.Detach s)) (home_of t s.0))
      (length t.sites) s.0 None below
      (gone_there (home_of t s.0)) (λ x d. gone_elsewhere (home_of t s.0) x d))

  pub detach_off : (edge : ℕ) → edge ≢ home_of t s.0
      → edge_in t l (config_after c (step.Detach s)) (peerings_after t c (config_after c (step.Detach s)) p (step.Detach s)) edge ≡ edge_in t l c p edge
  unfolding made
  detach_off edge d =
      ap (λ hs. made t c edge (map (site_label_now t l (config_after c (step.Detach s)) edge) (range_with_len 0 (length t.sites))) hs) (detach_heard edge)
      ∙ ap (λ ls. made t c edge ls (map (heard_in t l c p edge) (nodes_of (wiring_of t))))
      (map_same (site_label_now t l (config_after c (step.Detach s)) edge) (site_label_now t l c edge) (range_with_len 0 (length t.sites))
      (λ x i. elim (eqb_tells x s.0) [
        | inr e ↦ gone_elsewhere edge x e.1
        | inl e ↦ ap (site_label_now t l (config_after c (step.Detach s)) edge) e.1 ∙ gone_there edge
            ∙ sym (ap (site_label_now t l c edge) e.1 ∙ not_here (option_map (l s.0) (c.attached s.0)))
      ]))
    where
      not_here : (o : Option ℕ) → (if home_of t s.0 == edge then o else None) ≡ None
      not_here o = elim (eqb_tells (home_of t s.0) edge) [
        | inl h ↦ absurd (d (sym h.1))
        | inr h ↦ ap (λ b. if b then o else None) h.0
      ]

-- What an edge's routes rest on, after every lawful journal: sites and VRFs that are named are there, sessions are of edges,
-- and attachments that are told are of the past.
use Rattle.std.proofs.Common.{ℕ, suc, ◌≡◌, ◌+◌, ◌<◌, ◌≤◌, inl, inr, Bool, true, false, List, [], ◌∷◌, ◌++◌, map, filter, length, refl, arith, sym, ◌∙◌, ap}
use Rattle.std.proofs.Common.{subst, Option, Some, None}
use Rattle.std.specs.Prelude.{◌==◌, ◌&&◌, ◌||◌, not, nat_lt, unwrap_or, option_map, if◌then◌else◌}
use Rattle.std.specs.List.{flat_map, list_any, list_all, range_with_len}
use Rattle.std.proofs.lemmas.Bool.Decides.{eqb_tells}
use Rattle.mn_states.specs.declared.states.BgpState.{BgpState}
use Rattle.mn_states.specs.declared.states.BgpState.TheVariants.{OpenSent, OpenConfirm}
use Rattle.mn_topo.specs.Network.{Network}
use Rattle.mn_topo.specs.VrfTable.{is_edge}
use Rattle.mn_topo.specs.Steps.{fits}
use Rattle.mn_topo.specs.declared.sites.SiteDef.{SiteDef}
use Rattle.mn_topo.specs.declared.steps.Step.{Step}
use Rattle.mn_topo.specs.declared.steps.Step.TheVariants as step
use Rattle.mn_ledger.specs.Tables.{put, put_pair}
use Rattle.mn_ledger.specs.Places.{edges}
use Rattle.mn_ledger.specs.World.{SiteRoute, Config, Export, Telling, Open, BgpKeepAlive, Announcement, Withdrawal, Peerings, World}
use Rattle.mn_ledger.specs.Exports.{exports_of}
use Rattle.mn_ledger.specs.Bgp.{peers_live, is_for, same_export, withdrawn, announced, changed, Told, is_from_to, tellings_of}
use Rattle.mn_ledger.specs.Bgp.{told_to, reply, bgp_replies, steady_peers, route_news, told_in, bgp_counted, peerings_after}
use Rattle.mn_ledger.specs.Ledger.{is_static, config_after, after, start, statics_from, no_packets, next_of, left_by, world_from, world_of, packets_by}
use Rattle.mn_ledger.proofs.GoingBy.{put_here, put_off, pair_here, pair_off}
use Rattle.mn_ledger.proofs.Members.{In, in_append, in_map, in_filter, filter_in, in_flat_map}
use Rattle.mn_ledger.proofs.Tellings.{Behind, exported_by, AllGood, tellings_go, in_cleared}
use Rattle.mn_ledger.proofs.Statics.{HasStatics, HasForms, first_statics, first_forms, statics_go, forms_go}
use Rattle.mn_ledger.proofs.Turning.{loopbacks_apart}
use Rattle.mn_ledger.proofs.Peers.{same_numbers}
use Rattle.mn_base.proofs.Bools.{and_left, no}
use Rattle.mn_topo.specs.SiteTable.{is_lawful_prefix}
use Rattle.mn_ledger.specs.Held.{best}
use Rattle.mn_ledger.specs.Held as ledger_held
use Rattle.mn_ledger.specs.Packets.{Packets}
use Rattle.mn_ledger.specs.Lawful.{IsLawfulFrom, IsLawfulJournal}
use Rattle.mn_ledger.specs.Places.{edge_of}
use Rattle.mn_topo.specs.Lawful.{IsLawful, is_vrf_of}
use Rattle.mn_topo.specs.declared.vrfs.VrfDef.{VrfDef}
use Rattle.mn_topo.specs.declared.steps.JournalEntry.{JournalEntry}
use Rattle.mn_prefix.specs.Table.{longest_match}
use Rattle.mn_pe.specs.Held.{held_by}
use Rattle.mn_pe.specs.Held as held
use Rattle.mn_bgp_spelling_laws.specs.Spelling.{Labels}
use Rattle.mn_routing_laws.specs.Standing.{vrf_in, edge_in}
use Rattle.mn_routing_laws.specs.Sources.{as_held}
use Rattle.mn_routing_laws.proofs.Present.{exported}
use Rattle.mn_routing_laws.proofs.Exports.{exports_same}
use Rattle.mn_routing_laws.proofs.Believed.{NamesVrf}
use Rattle.mn_routing_laws.proofs.Attaching.{IsKnown}
use Rattle.mn_routing_laws.proofs.Holding.{range_in, Stands, finds}
use Rattle.mn_timetable_laws.proofs.OtherKeys.{less-is as less_of}
use Rattle.mn_ledger.specs.Time.{clock_after}

-- 1. Attachments

abbrev pub AreNumbered : Config → Type 0
AreNumbered c = (s k : ℕ) → c.attached s ≡ Some k → k ≤ c.attaches s + 1

numbered_export : (c : Config) (s : ℕ) → AreNumbered c → unwrap_or (c.attached s) 0 ≤ c.attaches s + 1
numbered_export c s h = by_answer (c.attached s) refl
  where
    by_answer : (o : Option ℕ) → c.attached s ≡ o → unwrap_or o 0 ≤ c.attaches s + 1
    by_answer None e = omega arith
    by_answer (Some k) e = h s k e

some_same : (m k : ℕ) → Some m ≡ Some k → m ≡ k
some_same m k e = ap (λ o. unwrap_or o 0) e

numbered_go : (t : Network) (c : Config) (s : Step) → AreNumbered c → AreNumbered (config_after c s)
numbered_go t c (step.Attach a) h = λ s k e. elim (eqb_tells s a.0) [
  | inl q ↦
      let is : c.attaches a.0 + 2 ≡ k = some_same (c.attaches a.0 + 2) k
      (sym (put_here c.attached a.0 (Some (c.attaches a.0 + 2))) ∙ ap (put c.attached a.0 (Some (c.attaches a.0 + 2))) (sym q.1) ∙ e) in
      omega (arith, is, ap (put c.attaches a.0 (c.attaches a.0 + 1)) q.1 ∙ put_here c.attaches a.0 (c.attaches a.0 + 1))
  | inr q ↦ omega (arith, h s k (sym (put_off c.attached a.0 (Some (c.attaches a.0 + 2)) s q.1) ∙ e), put_off c.attaches a.0 (c.attaches a.0 + 1) s q.1)
]
numbered_go t c (step.Detach a) h = λ s k e. elim (eqb_tells s a.0) [
  | inl q ↦ absurd (clash k (sym (ap (put c.attached a.0 None) q.1 ∙ put_here c.attached a.0 None) ∙ e))
  | inr q ↦ h s k (sym (put_off c.attached a.0 None s q.1) ∙ e)
]
  where
    clash : (k : ℕ) → None ≡ Some k → ⊥
    clash k e = cc
numbered_go t c _ h = h

-- more attachments
more_attached : (c : Config) (s : Step) (i : ℕ) → c.attaches i ≤ (config_after c s).attaches i
more_attached c (step.Attach a) i = elim (eqb_tells i a.0) [
  | inl q ↦ omega (arith, ap (put c.attaches a.0 (c.attaches a.0 + 1)) q.1 ∙ put_here c.attaches a.0 (c.attaches a.0 + 1), ap c.attaches q.1)
  | inr q ↦ omega (arith, put_off c.attaches a.0 (c.attaches a.0 + 1) i q.1)
]
more_attached c _ i = omega arith

-- 2. What is told

abbrev pub IsSound : Network → Config → Telling → Type 0
IsSound t c m = NamesVrf t m × IsKnown c m

sound_more : (t : Network) (c : Config) (s : Step) (m : Telling) → IsSound t c m → IsSound t (config_after c s) m
sound_more t c s (Announcement e) h = (h.0, omega (arith, h.1, more_attached c s e.site))
sound_more t c s (Withdrawal v p) h = (h.0, tt)
sound_more t c s Open h = (tt, tt)
sound_more t c s BgpKeepAlive h = (tt, tt)

sound_announce : (t : Network) (c : Config) (edge : ℕ) (e : Export) → AreNumbered c → In (exports_of t c edge) e → IsSound t c (Announcement e)
unfolding Behind
sound_announce t c edge e h i =
    let b = exported_by t c edge e i in
    (b.0, subst (λ (x : Export). x.attachment ≤ c.attaches x.site + 1) b.1.3 (numbered_export c b.1.0.site h))

Sound : Network → Config → List Telling → Type 0
Sound t c ms = (m : Telling) → In ms m → IsSound t c m

sound_announced : (t : Network) (c : Config) (edge : ℕ) (es : List Export) → AreNumbered c → ((e : Export) → In es e → In (exports_of t c edge) e) →
    Sound t c (map (λ export. Announcement export) es)
unfolding Sound
sound_announced t c edge es h g m i = let f = in_map (λ export. Announcement export) es m i in
    subst (IsSound t c) f.2 (sound_announce t c edge f.0 h (g f.0 f.1))

sound_changed : (t : Network) (c new : Config) (edge : ℕ) → AreNumbered new → Sound t new (changed (exports_of t c edge) (exports_of t new edge))
unfolding Sound
sound_changed t c new edge h m i = elim (in_append (withdrawn (exports_of t c edge) (exports_of t new edge))
    (announced (exports_of t c edge) (exports_of t new edge)) m i) [
      | inl j ↦
          let f = in_map (λ (export : Export). Withdrawal export.vrf export.prefix)
          (filter (λ export. not (list_any (is_for export.vrf export.prefix) (exports_of t new edge))) (exports_of t c edge)) m j in
          let g = in_filter (λ (export : Export). not (list_any (is_for export.vrf export.prefix) (exports_of t new edge))) (exports_of t c edge) f.0 f.1 in
          subst (IsSound t new) f.2 ((exported_by t c edge f.0 g.0).0, tt)
      | inr j ↦ sound_announced t new edge (filter (λ export. not (list_any (same_export export) (exports_of t c edge))) (exports_of t new edge)) h
          (λ e k. (in_filter (λ export. not (list_any (same_export export) (exports_of t c edge))) (exports_of t new edge) e k).0) m j
    ]

one_sound : (t : Network) (c : Config) (m : Telling) → IsSound t c m → Sound t c (m ∷ [])
unfolding Sound
one_sound t c m h x i = elim i [ inl e ↦ subst (IsSound t c) e h | inr n ↦ absurd n ]

sound_reply : (t : Network) (c : Config) (edge : ℕ) (state : BgpState) (m : Telling) → AreNumbered c → Sound t c (reply state m (exports_of t c edge))
unfolding Sound
sound_reply t c edge OpenSent Open h = one_sound t c BgpKeepAlive (tt, tt)
sound_reply t c edge OpenConfirm BgpKeepAlive h = sound_announced t c edge (exports_of t c edge) h (λ e i. i)
sound_reply t c edge _ _ h = λ x i. absurd i

AllSound : Network → Config → List Told → Type 0
AllSound t c xs = (x : Told) → In xs x → IsSound t c x.telling

sound_to : (t : Network) (c : Config) (a b : ℕ) (ms : List Telling) → Sound t c ms → AllSound t c (told_to a b ms)
unfolding Sound AllSound
sound_to t c a b ms h x i = let f = in_map (λ telling. record { teller = a; peer = b; telling = telling }) ms x i in
    subst (λ (y : Told). IsSound t c y.telling) f.2 (h f.0 f.1)

join_sound : (t : Network) (c : Config) (xs ys : List Told) → AllSound t c xs → AllSound t c ys → AllSound t c (xs ++ ys)
unfolding AllSound
join_sound t c xs ys h g x i = elim (in_append xs ys x i) [ inl j ↦ h x j | inr j ↦ g x j ]

sound_replies : (t : Network) (c : Config) (k : Peerings) (s : Step) → AreNumbered c → AllSound t c (bgp_replies t c k s)
unfolding AllSound
sound_replies t c k (step.BgpUp a b) h = join_sound t c (told_to a.0 b.0 (Open ∷ [])) (told_to b.0 a.0 (Open ∷ []))
    (sound_to t c a.0 b.0 (Open ∷ []) (one_sound t c Open (tt, tt))) (sound_to t c b.0 a.0 (Open ∷ []) (one_sound t c Open (tt, tt)))
sound_replies t c k (step.HearBgp a b) h = sound_to t c b.0 a.0 (reply _ _ (exports_of t c b.0)) (sound_reply t c b.0 _ _ h)
sound_replies t c k _ h = λ x i. absurd i

sound_news : (t : Network) (c : Config) (p : Peerings) (new : Config) (k : Peerings) (edge : ℕ) → AreNumbered new → AllSound t new (route_news t c p new k edge)
unfolding AllSound Sound
sound_news t c p new k edge h x i =
    let f = in_flat_map (λ telling. map (λ peer. record { teller = edge; peer = peer; telling = telling }) (steady_peers t c p new k edge))
    (changed (exports_of t c edge) (exports_of t new edge)) x i in
    let g = in_map (λ peer. record { teller = edge; peer = peer; telling = f.0 }) (steady_peers t c p new k edge) x f.2 in
    subst (λ (y : Told). IsSound t new y.telling) g.2 (sound_changed t c new edge h f.0 f.1)

sound_told : (t : Network) (c : Config) (p : Peerings) (new : Config) (k : Peerings) (s : Step) → AreNumbered new → AllSound t new (told_in t c p new k s)
unfolding AllSound
sound_told t c p new k s h =
    join_sound t new (bgp_replies t new p s) (flat_map (route_news t c p new k) (edges t)) (sound_replies t new p s h)
    (λ x i. let f = in_flat_map (route_news t c p new k) (edges t) x i in sound_news t c p new k f.0 h x f.2)

abbrev pub AllTellSound : Network → Config → Peerings → Type 0
AllTellSound t c p = (teller peer : ℕ) (m : Telling) → In (p.told teller peer) m → IsSound t c m

-- 3. A step

still_sound : (t : Network) (c : Config) (p : Peerings) (s : Step) → AllTellSound t c p → AllTellSound t c (bgp_counted p s)
still_sound t c p (step.BgpUp a b) h = λ edge peer m i. h edge peer m
    (in_cleared p.told a.0 b.0 edge peer m (in_cleared (put_pair p.told a.0 b.0 []) b.0 a.0 edge peer m i))
still_sound t c p (step.BgpDown a b) h = λ edge peer m i. h edge peer m
    (in_cleared p.told a.0 b.0 edge peer m (in_cleared (put_pair p.told a.0 b.0 []) b.0 a.0 edge peer m i))
still_sound t c p _ h = h

told_sound : (t : Network) (c : Config) (p : Peerings) (s : Step) → AreNumbered c → AllTellSound t c p → (edge peer : ℕ) (m : Telling)
    → In ((bgp_counted p s).told edge peer ++ tellings_of edge peer (told_in t c p (config_after c s) (bgp_counted p s) s)) m → IsSound t (config_after c s) m
unfolding AllSound
told_sound t c p s numbered h edge peer m i = elim (in_append ((bgp_counted p s).told edge peer)
    (tellings_of edge peer (told_in t c p (config_after c s) (bgp_counted p s) s)) m i) [
      | inl j ↦ sound_more t c s m (still_sound t c p s h edge peer m j)
      | inr j ↦
          let f = in_map (λ (told : Told). told.telling) (filter (is_from_to edge peer) (told_in t c p (config_after c s) (bgp_counted p s) s)) m j in
          let g = in_filter (is_from_to edge peer) (told_in t c p (config_after c s) (bgp_counted p s) s) f.0 f.1 in
          subst (IsSound t (config_after c s)) f.2 (sound_told t c p (config_after c s) (bgp_counted p s) s (numbered_go t c s numbered) f.0 g.0)
    ]

pub sound_go : (t : Network) (w : World) (s : Step) → AreNumbered w.config → AllTellSound t w.config w.peerings →
    AllTellSound t (config_after w.config s) (after t w s).peerings
unfolding peerings_after
sound_go t w (step.BgpUp a b) n h = told_sound t w.config w.peerings (step.BgpUp a b) n h
sound_go t w (step.BgpDown a b) n h = told_sound t w.config w.peerings (step.BgpDown a b) n h
sound_go t w (step.HearBgp a b) n h = told_sound t w.config w.peerings (step.HearBgp a b) n h
sound_go t w (step.AddRoute a b) n h = told_sound t w.config w.peerings (step.AddRoute a b) n h
sound_go t w (step.DelRoute a b) n h = told_sound t w.config w.peerings (step.DelRoute a b) n h
sound_go t w (step.Import v on r) n h = told_sound t w.config w.peerings (step.Import v on r) n h
sound_go t w (step.Export v on r) n h = told_sound t w.config w.peerings (step.Export v on r) n h
sound_go t w (step.Attach a) n h = told_sound t w.config w.peerings (step.Attach a) n h
sound_go t w (step.Detach a) n h = told_sound t w.config w.peerings (step.Detach a) n h
sound_go t w s n h = λ edge peer m i. sound_more t w.config s m (h edge peer m i)

-- 4. Statics name sites that are there

abbrev pub AreSited : Network → Config → Type 0
AreSited t c = (x : SiteRoute) → In c.statics x → x.site < length t.sites

pub sited_go : (t : Network) (c : Config) (s : Step) → fits t s ≡ true → AreSited t c → AreSited t (config_after c s)
sited_go t c (step.AddRoute a p) fit h = λ x i. elim (in_append c.statics (record { site = a.0; prefix = p } ∷ []) x i) [
  | inl j ↦ h x j
  | inr j ↦ elim j [
    | inl e ↦ subst (λ (z : SiteRoute). z.site < length t.sites) e
        (less_of a.0 (length t.sites) (and_left (nat_lt a.0 (length t.sites)) (is_lawful_prefix p) fit))
    | inr n ↦ absurd n
  ]
]
sited_go t c (step.DelRoute a p) fit h = λ x i. h x (in_filter (λ static. not (is_static a.0 p static)) c.statics x i).0
sited_go t c _ fit h = h

-- 5. Sessions are of edges

abbrev pub AreOfEdges : Network → Config → Type 0
AreOfEdges t c = (a b : ℕ) → c.bgp_on a b ≡ true → In (edges t) a × In (edges t) b

and_first : (a b : Bool) → (a && b) ≡ true → a ≡ true
and_first true b h = refl
and_first false b h = absurd (no h)

and_second : (a b : Bool) → (a && b) ≡ true → b ≡ true
and_second true b h = h
and_second false b h = absurd (no h)

pub below_of : (nodes node : ℕ) (vrfs : List VrfDef) → list_all (is_vrf_of nodes) vrfs ≡ true → is_edge vrfs node ≡ true → node < nodes
below_of nodes node [] h g = absurd (no g)
below_of nodes node (vrf ∷ vrfs) h g = split (node == vrf.node.0) refl (below_of nodes node vrfs (and_second (is_vrf_of nodes vrf) _ h)) g
  where
    split : (b : Bool) → (node == vrf.node.0) ≡ b → (is_edge vrfs node ≡ true → node < nodes) → (b || is_edge vrfs node) ≡ true → node < nodes
    split true e more k = less_of node nodes (ap (λ n. nat_lt n nodes) (same_numbers node vrf.node.0 e)
        ∙ and_first (nat_lt vrf.node.0 nodes) _ (and_first (is_vrf_of nodes vrf) _ h))
    split false e more k = more k

edge_in_list : (t : Network) (node : ℕ) → IsLawful t → is_edge t.vrfs node ≡ true → In (edges t) node
edge_in_list t node lawful h =
    let below : node < length t.loopbacks = below_of (length t.loopbacks) node t.vrfs lawful.vrfs.formed h in
    filter_in (λ n. is_edge t.vrfs n) (range_with_len 0 (length t.loopbacks)) node (range_in 0 (length t.loopbacks) node (omega arith) (omega (arith, below))) h

pub edges_go : (t : Network) (c : Config) (s : Step) → IsLawful t → fits t s ≡ true → AreOfEdges t c → AreOfEdges t (config_after c s)
edges_go t c (step.BgpUp a b) lawful fit h = λ x y on. elim (eqb_tells x a.0) [
  | inr p ↦ h x y (sym (pair_off c.bgp_on a.0 b.0 true x y (inl p.1)) ∙ on)
  | inl p ↦ elim (eqb_tells y b.0) [
    | inr q ↦ h x y (sym (pair_off c.bgp_on a.0 b.0 true x y (inr q.1)) ∙ on)
    | inl q ↦
        let both = and_first (is_edge t.vrfs a.0 && is_edge t.vrfs b.0) _ fit in (
          subst (In (edges t)) (sym p.1) (edge_in_list t a.0 lawful (and_first (is_edge t.vrfs a.0) _ both)),
          subst (In (edges t)) (sym q.1)
              (edge_in_list t b.0 lawful (and_second (is_edge t.vrfs a.0) _ both)),
        )
  ]
]
edges_go t c (step.BgpDown a b) lawful fit h = λ x y on. elim (eqb_tells x a.0) [
  | inr p ↦ h x y (sym (pair_off c.bgp_on a.0 b.0 false x y (inl p.1)) ∙ on)
  | inl p ↦ elim (eqb_tells y b.0) [
    | inr q ↦ h x y (sym (pair_off c.bgp_on a.0 b.0 false x y (inr q.1)) ∙ on)
    | inl q ↦ absurd (no (sym (ap (λ k. put_pair c.bgp_on a.0 b.0 false k y) p.1 ∙ ap (put_pair c.bgp_on a.0 b.0 false a.0) q.1
        ∙ pair_here c.bgp_on a.0 b.0 false) ∙ on))
  ]
]
edges_go t c _ lawful fit h = h

pub peers_of_edges : (t : Network) (c : Config) (e q : ℕ) → AreOfEdges t c → peers_live c e q ≡ true → In (edges t) q
peers_of_edges t c e q h live = split (nat_lt e q) live
  where
    split : (b : Bool) → (if b then c.bgp_on e q else c.bgp_on q e) ≡ true → In (edges t) q
    split true on = (h e q on).1
    split false on = (h q e on).0

-- 6. After a lawful journal

pub record Rests (t : Network) (w : World) : Type 0 where
  pub numbered : AreNumbered w.config
  pub sound : AllTellSound t w.config w.peerings
  pub sited : AreSited t w.config
  pub of_edges : AreOfEdges t w.config
  pub statics : HasStatics t w.config.statics
  pub forms : HasForms w.config.statics
  pub good : AllGood t w.peerings

pub rests_from : (t : Network) (es : List JournalEntry) (tick : ℕ) (w : World) (k : Packets) (i : ℕ) (ps : List (List ℕ)) → IsLawful t →
    IsLawfulFrom t tick w k i es ps → Rests t w → Rests t (world_from t w es)
rests_from t [] tick w k i ps topology lawful h = h
rests_from t (e ∷ es) tick w k i ps topology lawful h =
    let statics = statics_go t w k i e.step (next_of ps) lawful.2 h.statics in
    let forms = forms_go t w e.step lawful.0 h.forms in
    rests_from t es (clock_after e) (after t w e.step) (packets_by t (after t w e.step) k e (next_of ps)) (i + 1) (left_by e.step ps) topology lawful.3
    (record {
      numbered = numbered_go t w.config e.step h.numbered;
      sound = sound_go t w e.step h.numbered h.sound;
      sited = sited_go t w.config e.step lawful.0 h.sited;
      of_edges = edges_go t w.config e.step topology lawful.0 h.of_edges;
      statics = statics;
      forms = forms;
      good = tellings_go t w e.step forms h.good;
    })

sited_from : (k : ℕ) (sites : List SiteDef) (x : SiteRoute) → In (statics_from k sites) x → x.site < k + length sites
sited_from k [] x i = absurd i
sited_from k (site ∷ sites) x i = elim (in_append (map (λ prefix. record { site = k; prefix = prefix }) site.prefixes) (statics_from (k + 1) sites) x i) [
  | inl j ↦ let m = in_map (λ prefix. record { site = k; prefix = prefix }) site.prefixes x j in
      subst (λ (z : SiteRoute). z.site < k + suc (length sites)) m.2 (omega arith)
  | inr j ↦ omega (arith, sited_from (k + 1) sites x j)
]

pub rests : (t : Network) (es : List JournalEntry) (ps : List (List ℕ)) → IsLawful t → IsLawfulJournal t es ps → Rests t (world_of t es)
rests t es ps topology journal = rests_from t es 0 (start t) no_packets 0 ps topology journal (record {
  numbered = λ s k e. omega (arith, some_same 1 k e);
  sound = λ edge peer m i. absurd i;
  sited = λ x i. omega (arith, sited_from 0 t.sites x i);
  of_edges = λ a b on. absurd (no on);
  statics = first_statics t topology;
  forms = first_forms t topology;
  good = λ edge peer m i. absurd i;
})

pub stands : (t : Network) (w : World) (e v : ℕ) → IsLawful t → Rests t w → edge_of t v ≡ e → Stands t w.config w.peerings e v
stands t w e v topology h at = record {
  lawful = topology;
  apart = loopbacks_apart t topology;
  statics = h.statics;
  forms = h.forms;
  sited = h.sited;
  good = h.good;
  named = λ q m i. (h.sound q e m i).0;
  only_edges = λ q live. peers_of_edges t w.config e q h.of_edges live;
  at = at;
}

-- the route that the edge finds is the ledger's best, after every lawful journal
pub finds_best : (t : Network) (l : Labels) (es : List JournalEntry) (ps : List (List ℕ)) (e v address : ℕ) → IsLawful t → IsLawfulJournal t es ps →
    edge_of t v ≡ e
    → longest_match address (held_by (edge_in t l (world_of t es).config (world_of t es).peerings e) (vrf_in t (world_of t es).config v)) ≡ option_map
    (as_held l) (best (ledger_held.held t (world_of t es).config (world_of t es).peerings e v) address)
finds_best t l es ps e v address topology journal at =
    finds t l (world_of t es).config (world_of t es).peerings e v (stands t (world_of t es) e v topology (rests t es ps topology journal) at) address

-- and what it exports is what the ledger says
pub exports_all : (t : Network) (l : Labels) (es : List JournalEntry) (ps : List (List ℕ)) (e : ℕ) → IsLawful t → IsLawfulJournal t es ps
    → map (exported t l) (exports_of t (world_of t es).config e) ≡ held.exports_of (edge_in t l (world_of t es).config (world_of t es).peerings e)
exports_all t l es ps e topology journal =
    let h = rests t es ps topology journal in
    exports_same t l (world_of t es).config (world_of t es).peerings e h.statics h.sited

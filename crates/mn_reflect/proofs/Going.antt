-- What the code of a step makes is what the step makes of what is kept.
use Rattle.std.proofs.Common.{[], ℕ, zero, suc, ◌≡◌, ◌+◌, ◌<◌, ◌≢◌, ◌⊎◌, inl, inr, Bool, true, false, List, ◌∷◌, ◌++◌, length, refl, sym, ap, ◌∙◌, Option, Some}
use Rattle.std.proofs.Common.{None}
use Rattle.std.proofs.Common.{append_assoc, append-nil}
use Rattle.std.specs.Prelude.{not, filter, slice_get, slice_set, slice_index_or, option_map, if◌then◌else◌}
use Rattle.std.proofs.lemmas.List.{get_or-set_same, get_or-set_other}
use Rattle.mn_base.specs.declared.numbers.NodeNo.{NodeNo}
use Rattle.mn_base.specs.declared.numbers.Rt.{Rt}
use Rattle.mn_base.specs.declared.numbers.VrfNo.{VrfNo}
use Rattle.mn_base.specs.declared.numbers.SiteNo.{SiteNo}
use Rattle.mn_prefix.specs.Prefix.{AddressBlock}
use Rattle.mn_topo.specs.declared.steps.Step.{Step}
use Rattle.mn_topo.specs.declared.steps.Step.TheVariants as step
use Rattle.mn_bgp_spelling_laws.specs.Spelling.{Labels}
use Rattle.mn_ledger.specs.Places.{vrf_of, edge_of, home_of}
use Rattle.mn_vrf.specs.Vrf.{with_static, without_static}
use Rattle.mn_pe.specs.Edge.{Edge, vrf_of_site, after_vrf, after_attach, after_detach}
use Rattle.mn_pe.specs.Exports.{exports_at, exports_over, export_of}
use Rattle.mn_pe.specs.Pe.{PeNow}
use Rattle.mn_mail.specs.Mail.{Letter, Mail}
use Rattle.mn_mail.specs.Mail as mail
use Rattle.mn_offers.specs.Heard.{Heard}
use Rattle.mn_edges.specs.Changes.{working, those_of, static_over}
use Rattle.mn_routing_laws.specs.Doing.{edge_or_blank}
use Rattle.mn_routing_laws.proofs.Opening.{set_same}
use Rattle.mn_routing_laws.proofs.Turning.{get_other}
use Rattle.mn_reflect_ledger_laws.specs.Words.{Key, Offer, Word, Open, KeepAlive, Announce, Withdraw, key_of}
use Rattle.mn_reflect_ledger_laws.specs.Picks.{is_reflector}
use Rattle.mn_reflect_world_laws.specs.Now.{ReflectNow}
use Rattle.mn_reflect_world_laws.specs.Choice.{Row, row_at, names_in}
use Rattle.mn_reflect_world_laws.specs.Kept.{route_in}
use Rattle.mn_reflect_world_laws.specs.Letters.{open_letter, reflector_news, edge_news}
use Rattle.mn_reflect_world_laws.specs.Goes.{Goes, set_at, on_edge, edge_of_node, decide_all, steady_of, either_news}
use Rattle.mn_reflect_world_laws.specs.Goes.{sessions_after, heard_after, attachments_after, statics_after, edges_after, letters_after}
use Rattle.mn_reflect_telling.specs.Telling.{posted}
use Rattle.mn_reflect.specs.Doing.{IsEdgeAt, changed_edge, kept, forgotten, cut_between, with_end, taken, begun, ended, word_heard}
use Rattle.mn_reflect.specs.Changing.{imports_changed, exports_changed, import_set, export_set, with_route, without_route, route_added}
use Rattle.mn_reflect.specs.Changing.{route_deleted, next_label, site_attached, site_detached}
use Rattle.mn_reflect.proofs.Tables.{row_other, no_edge}

-- one step more was done, and memory was there
abbrev pub finished : ReflectNow → ReflectNow
finished now = record now { done = now.done + 1; failed = false }

-- 1. Letters that are sent under a condition

letters_if : (b : Bool) (news : List Letter) (m : Mail) → (if b then posted news m else m).letters ≡ m.letters ++ (if b then news else [])
letters_if true news m = refl
letters_if false news m = sym (append-nil m.letters)

nodes_if : (b : Bool) (news : List Letter) (m : Mail) → (if b then posted news m else m).nodes ≡ m.nodes
nodes_if true news m = refl
nodes_if false news m = refl

-- 2. An edge, or none where a reflector is

abbrev pub IsPlaced : ReflectNow → ℕ → Type 0
IsPlaced now node =
    ((is_reflector now.reflectors node ≡ true) × (slice_index_or now.edges node None ≡ None)) ⊎ ((is_reflector now.reflectors node ≡ false) × IsEdgeAt now node)

found : {A : Type 0} (xs : List A) (k : ℕ) (x d : A) → slice_get xs k ≡ Some x → slice_index_or xs k d ≡ x
found [] k x d h = absurd (let none : None ≡ Some x → ⊥ = (λ e. cc) in none h)
found (y ∷ ys) zero x d h = let e : Some y ≡ Some x = h in cc
found (y ∷ ys) (suc k) x d h = found ys k x d h

-- an edge that doesn't change
pub same_edge : (now : ReflectNow) (node : ℕ) → IsEdgeAt now node → on_edge node (λ edge. edge) now.edges ≡ now.edges
same_edge now node there =
    ap (λ (o : Option PeNow). slice_set now.edges node (option_map (λ (pe : PeNow). working pe.edge) o)) (found now.edges node _ None there)
    ∙ set_same now.edges node _ there

-- what an edge becomes
pub edge_becomes : (now : ReflectNow) (node : ℕ) (change : Edge → Edge) → node < length now.edges → IsEdgeAt now node →
    edge_of_node (on_edge node change now.edges) node ≡ change (edge_of_node now.edges node)
edge_becomes now node change below there =
    ap edge_or_blank (get_or-set_same now.edges node (option_map (λ (pe : PeNow). working (change pe.edge)) (slice_index_or now.edges node None)) None below)
    ∙ ap (λ (o : Option PeNow). edge_or_blank (option_map (λ (pe : PeNow). working (change pe.edge)) o)) (found now.edges node _ None there)

-- two changes that make the same of it
pub alike_edge : (now : ReflectNow) (node : ℕ) (f g : Edge → Edge) → IsEdgeAt now node → f (edge_of_node now.edges node) ≡ g (edge_of_node now.edges node) →
    on_edge node f now.edges ≡ on_edge node g now.edges
alike_edge now node f g there same =
    ap (λ (o : Option PeNow). slice_set now.edges node (option_map (λ (pe : PeNow). working (f pe.edge)) o)) (found now.edges node _ None there)
    ∙ ap (λ e. slice_set now.edges node (Some (working e))) same
    ∙ sym (ap (λ (o : Option PeNow). slice_set now.edges node (option_map (λ (pe : PeNow). working (g pe.edge)) o)) (found now.edges node _ None there))

-- a change of it as it is there
on_edge_is : (now : ReflectNow) (node : ℕ) (change : Edge → Edge) → IsEdgeAt now node → on_edge node change now.edges ≡ (changed_edge node change now).edges
on_edge_is now node change there =
    ap (λ (o : Option PeNow). slice_set now.edges node (option_map (λ (pe : PeNow). working (change pe.edge)) o)) (found now.edges node _ None there)

-- a node whose row changes
edges_turned : (now : ReflectNow) (node : ℕ) (change : Edge → Edge) → IsPlaced now node →
    (if is_reflector now.reflectors node then now.edges else (changed_edge node change now).edges) ≡ on_edge node change now.edges
edges_turned now node change placed = elim placed [
  | inl r ↦ ap (λ b. if b then now.edges else (changed_edge node change now).edges) r.0 ∙ sym (no_edge node change now.edges r.1)
  | inr e ↦ ap (λ b. if b then now.edges else (changed_edge node change now).edges) e.0 ∙ sym (on_edge_is now node change e.1)
]

unchanged : (now : ReflectNow) (node : ℕ) → IsPlaced now node → now.edges ≡ on_edge node (λ edge. edge) now.edges
unchanged now node placed = elim placed [ inl r ↦ sym (no_edge node (λ edge. edge) now.edges r.1) | inr e ↦ sym (same_edge now node e.1) ]

-- 3. What a step makes of what is kept, its edges and letters apart

module _ (rs : List ℕ) (labels : Labels) (word : Option Word) (now : ReflectNow) (done : Step) where
  -- with these edges and this mail
  abbrev stepped : List (Option PeNow) → Mail → ReflectNow
  stepped edges mail = record now {
    sessions = sessions_after now.topology word now.sessions done;
    heard = heard_after labels word now.heard done;
    attachments = attachments_after now.topology now.attachments done;
    statics = statics_after now.statics done;
    edges = edges;
    mail = mail;
    done = now.done + 1;
    failed = false;
  }

  goes_as : (edges : List (Option PeNow)) (mail : Mail) →
      edges ≡ edges_after now.topology now.reflectors word now (heard_after labels word now.heard done) done → mail.nodes ≡ now.mail.nodes →
      mail.letters ≡ letters_after now.topology now.reflectors word now (stepped edges mail) done →
      Goes now.topology rs labels word now (stepped edges mail) done
  goes_as edges mail edges_are nodes_are letters_are = record {
    works = refl;
    topology_is = refl;
    reflectors_are = refl;
    sessions = refl;
    heard = refl;
    attachments = refl;
    statics = refl;
    edges = edges_are;
    nodes = nodes_are;
    letters = letters_are;
    count = refl;
  }

-- 4. A session begins

module _ (rs : List ℕ) (labels : Labels) (word : Option Word) (now : ReflectNow) where
  pub begins : (a b : NodeNo) → Goes now.topology rs labels word now (finished (begun a.0 b.0 now)) (step.BgpUp a b)
  begins a b = goes_as rs labels word now (step.BgpUp a b) _ _
      refl refl (append_assoc (filter (λ letter. not (mail.is_between a.0 b.0 letter)) now.mail.letters) (open_letter now.topology a.0 b.0 ∷ [])
      (open_letter now.topology b.0 a.0 ∷ []))

-- 5. A message is received

module _ (rs : List ℕ) (labels : Labels) (now : ReflectNow) (a b : NodeNo) (placed : IsPlaced now b.0) where
  hears_open : Goes now.topology rs labels (Some Open) now (finished (word_heard labels a.0 b.0 Open now)) (step.HearBgp a b)
  hears_open = goes_as rs labels (Some Open) now (step.HearBgp a b) _ _
      (unchanged now b.0 placed) refl refl

  hears_keep : Goes now.topology rs labels (Some KeepAlive) now (finished (word_heard labels a.0 b.0 KeepAlive now)) (step.HearBgp a b)
  hears_keep = goes_as rs labels (Some KeepAlive) now (step.HearBgp a b) _ _
      (unchanged now b.0 placed) refl refl

  -- what is kept before anything is sent, and what is sent then
  abbrev left : ReflectNow
  left = taken a.0 b.0 now

  hears_announced : (offer : Offer) →
      Goes now.topology rs labels (Some (Announce offer)) now (finished (word_heard labels a.0 b.0 (Announce offer) now)) (step.HearBgp a b)
  hears_announced offer = goes_as rs labels (Some (Announce offer)) now (step.HearBgp a b) _ _
      (edges_turned (kept b.0 a.0 (key_of offer) (Some (route_in labels offer)) left) b.0
      (decide_all now.topology now.reflectors (row_at (kept b.0 a.0 (key_of offer) (Some (route_in labels offer)) left).heard b.0) b.0 (key_of offer ∷ []))
      placed)
      (nodes_if (is_reflector now.reflectors b.0) _ left.mail) (letters_if (is_reflector now.reflectors b.0) _ left.mail)

  hears_withdrawn : (key : Key) →
      Goes now.topology rs labels (Some (Withdraw key)) now (finished (word_heard labels a.0 b.0 (Withdraw key) now)) (step.HearBgp a b)
  hears_withdrawn key = goes_as rs labels (Some (Withdraw key)) now (step.HearBgp a b) _ _
      (edges_turned (kept b.0 a.0 key None left) b.0
      (decide_all now.topology now.reflectors (row_at (kept b.0 a.0 key None left).heard b.0) b.0 (key ∷ [])) placed)
      (nodes_if (is_reflector now.reflectors b.0) _ left.mail) (letters_if (is_reflector now.reflectors b.0) _ left.mail)

  pub hears : (word : Word) → Goes now.topology rs labels (Some word) now (finished (word_heard labels a.0 b.0 word now)) (step.HearBgp a b)
  hears Open = hears_open
  hears KeepAlive = hears_keep
  hears (Announce offer) = hears_announced offer
  hears (Withdraw key) = hears_withdrawn key

-- 6. A session ends

abbrev row_of : List (List Heard) → Row
row_of row peer = slice_index_or row peer []

module _ (rs : List ℕ) (labels : Labels) (word : Option Word) (now : ReflectNow) (a b : NodeNo) (apart : a.0 ≢ b.0) (first : IsPlaced now a.0)
    (second : IsPlaced now b.0) where
  abbrev cut_off : ReflectNow
  cut_off = cut_between a.0 b.0 (with_end b.0 a.0 None (with_end a.0 b.0 None now))

  abbrev one : ReflectNow
  one = forgotten a.0 b.0 cut_off

  abbrev two : ReflectNow
  two = forgotten b.0 a.0 one

  back : b.0 ≢ a.0
  back e = apart (sym e)

  -- the row of each is changed by its own forgetting alone
  row_a : row_at two.heard a.0 ≡ row_at (set_at a.0 b.0 [] now.heard) a.0
  row_a = ap row_of (row_other b.0 a.0 [] (set_at a.0 b.0 [] now.heard) a.0 apart)

  row_b : row_at (set_at a.0 b.0 [] now.heard) b.0 ≡ row_at now.heard b.0
  row_b = ap row_of (row_other a.0 b.0 [] now.heard b.0 back)

  abbrev news_a : Row → List Letter
  news_a row = reflector_news now.topology now.reflectors a.0 (steady_of cut_off.sessions a.0) (row_at now.heard a.0) row (names_in (row_at now.heard a.0 b.0))

  abbrev news_b : Row → List Letter
  news_b was = reflector_news now.topology now.reflectors b.0 (steady_of cut_off.sessions b.0) was (row_at two.heard b.0) (names_in (was a.0))

  abbrev is_a : Bool
  is_a = is_reflector now.reflectors a.0

  abbrev is_b : Bool
  is_b = is_reflector now.reflectors b.0

  letters_end : two.mail.letters
      ≡ cut_off.mail.letters ++ ((if is_a then news_a (row_at two.heard a.0) else []) ++ (if is_b then news_b (row_at now.heard b.0) else []))
  letters_end =
      letters_if is_b (news_b (row_at (set_at a.0 b.0 [] now.heard) b.0)) one.mail
      ∙ ap (λ letters. letters ++ (if is_b then news_b (row_at (set_at a.0 b.0 [] now.heard) b.0) else []))
      (letters_if is_a (news_a (row_at (set_at a.0 b.0 [] now.heard) a.0)) cut_off.mail)
      ∙ append_assoc cut_off.mail.letters (if is_a then news_a (row_at (set_at a.0 b.0 [] now.heard) a.0) else [])
      (if is_b then news_b (row_at (set_at a.0 b.0 [] now.heard) b.0) else [])
      ∙ ap (λ (row : Row). cut_off.mail.letters
      ++ ((if is_a then news_a row else []) ++ (if is_b then news_b (row_at (set_at a.0 b.0 [] now.heard) b.0) else [])))
      (sym row_a)
      ∙ ap (λ (row : Row). cut_off.mail.letters ++ ((if is_a then news_a (row_at two.heard a.0) else []) ++ (if is_b then news_b row else []))) row_b

  -- the other's place isn't changed
  placed_b : IsPlaced one b.0
  placed_b = elim second [
    | inl r ↦ inl (r.0, stays (λ edges. slice_index_or edges b.0 None) (λ change. get_or-set_other now.edges a.0 b.0 change None back) ∙ r.1)
    | inr e ↦ inr (
      e.0,
      stays (λ edges. slice_get edges b.0) (λ change. get_other now.edges a.0 b.0 change apart) ∙ e.1
          ∙ ap (λ (o : Option PeNow). Some (Some (working (edge_or_blank o))))
          (sym (stays (λ edges. slice_index_or edges b.0 None) (λ change. get_or-set_other now.edges a.0 b.0 change None back))),
    )
  ]
    where
      stays : {X : Type 0} (look : List (Option PeNow) → X) → ((change : Option PeNow) → look (slice_set now.edges a.0 change) ≡ look now.edges) →
          look one.edges ≡ look now.edges
      stays look same = by is_a (Some (working (decide_all now.topology now.reflectors (row_at (set_at a.0 b.0 [] now.heard) a.0) a.0
          (names_in (row_at now.heard a.0 b.0)) (edge_of_node now.edges a.0))))
        where
          by : (is : Bool) (change : Option PeNow) → look (if is then now.edges else slice_set now.edges a.0 change) ≡ look now.edges
          by true change = refl
          by false change = same change

  edges_end : two.edges
      ≡ on_edge b.0 (decide_all now.topology now.reflectors (row_at two.heard b.0) b.0 (names_in (row_at now.heard b.0 a.0)))
      (on_edge a.0 (decide_all now.topology now.reflectors (row_at two.heard a.0) a.0 (names_in (row_at now.heard a.0 b.0))) now.edges)
  edges_end =
      edges_turned one b.0 (decide_all now.topology now.reflectors (row_at two.heard b.0) b.0 (names_in (row_at one.heard b.0 a.0))) placed_b
      ∙ ap (λ (row : Row). on_edge b.0 (decide_all now.topology now.reflectors (row_at two.heard b.0) b.0 (names_in (row a.0))) one.edges) row_b
      ∙ ap (on_edge b.0 (decide_all now.topology now.reflectors (row_at two.heard b.0) b.0 (names_in (row_at now.heard b.0 a.0))))
      (edges_turned now a.0 (decide_all now.topology now.reflectors (row_at (set_at a.0 b.0 [] now.heard) a.0) a.0 (names_in (row_at now.heard a.0 b.0))) first
      ∙ ap (λ (row : Row). on_edge a.0 (decide_all now.topology now.reflectors row a.0 (names_in (row_at now.heard a.0 b.0))) now.edges) (sym row_a))

  pub ends : Goes now.topology rs labels word now (finished (ended a.0 b.0 now)) (step.BgpDown a b)
  ends = goes_as rs labels word now (step.BgpDown a b) _ _
      (edges_end) (nodes_if is_b _ one.mail ∙ nodes_if is_a _ cut_off.mail) (letters_end)

-- 7. The steps of an edge

module _ (rs : List ℕ) (labels : Labels) (word : Option Word) (now : ReflectNow) where
  -- what an edge was, and what it is once it is put
  put_is : (home : ℕ) (edge : Edge) → home < length now.edges → edge_of_node (slice_set now.edges home (Some (working edge))) home ≡ edge
  put_is home edge below = ap edge_or_blank (get_or-set_same now.edges home (Some (working edge)) None below)

  put_as : (home : ℕ) (f g : Edge → Edge) → IsEdgeAt now home → f (edge_of_node now.edges home) ≡ g (edge_of_node now.edges home) →
      (changed_edge home f now).edges ≡ on_edge home g now.edges
  put_as home f g there same = ap (λ edge. slice_set now.edges home (Some (working edge))) same ∙ sym (on_edge_is now home g there)

  pub imports_go : (v : VrfNo) (target : Rt) (on : Bool) → IsEdgeAt now (edge_of now.topology v.0) →
      Goes now.topology rs labels word now (finished (import_set v target on now)) (step.Import v on target)
  imports_go v target on there = goes_as rs labels word now (step.Import v on target) _ _
      (put_as (edge_of now.topology v.0) (imports_changed v target on) (imports_changed v target on) there refl)
      refl refl

  pub exports_go : (v : VrfNo) (target : Rt) (on : Bool) → edge_of now.topology v.0 < length now.edges → IsEdgeAt now (edge_of now.topology v.0) →
      Goes now.topology rs labels word now (finished (export_set v target on now)) (step.Export v on target)
  exports_go v target on below there = goes_as rs labels word now (step.Export v on target) _ _
      (put_as (edge_of now.topology v.0) (exports_changed v target on) (exports_changed v target on) there refl)
      refl (ap (λ edge. now.mail.letters ++ either_news now.topology (edge_of now.topology v.0) (steady_of now.sessions (edge_of now.topology v.0))
      (exports_at edge v.0) (exports_at (edge_of_node now.edges (edge_of now.topology v.0)) v.0))
      (sym (put_is (edge_of now.topology v.0) (exports_changed v target on (edge_of_node now.edges (edge_of now.topology v.0))) below)))

  pub adds_go : (s : SiteNo) (prefix : AddressBlock) → home_of now.topology s.0 < length now.edges → IsEdgeAt now (home_of now.topology s.0) →
      vrf_of_site (edge_of_node now.edges (home_of now.topology s.0)) s.0 ≡ vrf_of now.topology s.0 →
      Goes now.topology rs labels word now (finished (route_added s prefix now)) (step.AddRoute s prefix)
  adds_go s prefix below there same = goes_as rs labels word now (step.AddRoute s prefix) _ _
      (put_as (home_of now.topology s.0) (with_route s prefix)
      (λ edge. after_vrf edge (vrf_of now.topology s.0) (with_static (static_over s prefix))) there
      (ap (λ v. after_vrf (edge_of_node now.edges (home_of now.topology s.0)) v (with_static (static_over s prefix))) same))
      refl (ap (λ edge. now.mail.letters ++ edge_news now.topology (home_of now.topology s.0) (steady_of now.sessions (home_of now.topology s.0)) true
      (those_of (export_of edge s.0 prefix)))
      (sym (put_is (home_of now.topology s.0) (with_route s prefix (edge_of_node now.edges (home_of now.topology s.0))) below)))

  pub dels_go : (s : SiteNo) (prefix : AddressBlock) → IsEdgeAt now (home_of now.topology s.0) →
      vrf_of_site (edge_of_node now.edges (home_of now.topology s.0)) s.0 ≡ vrf_of now.topology s.0 →
      Goes now.topology rs labels word now (finished (route_deleted s prefix now)) (step.DelRoute s prefix)
  dels_go s prefix there same = goes_as rs labels word now (step.DelRoute s prefix) _ _
      (put_as (home_of now.topology s.0) (without_route s prefix)
      (λ edge. after_vrf edge (vrf_of now.topology s.0) (without_static (static_over s prefix))) there
      (ap (λ v. after_vrf (edge_of_node now.edges (home_of now.topology s.0)) v (without_static (static_over s prefix))) same))
      refl refl

  pub attaches_go : (s : SiteNo) → home_of now.topology s.0 < length now.edges → IsEdgeAt now (home_of now.topology s.0) →
      Goes now.topology rs labels word now (finished (site_attached s now)) (step.Attach s)
  attaches_go s below there = goes_as rs labels word now (step.Attach s) _ _
      (put_as (home_of now.topology s.0) (λ edge. after_attach edge s.0 (next_label now s)) (λ edge. after_attach edge s.0 (next_label now s)) there refl)
      refl (ap (λ edge. now.mail.letters ++ edge_news now.topology (home_of now.topology s.0) (steady_of now.sessions (home_of now.topology s.0)) true
      (exports_over edge s.0))
      (sym (put_is (home_of now.topology s.0) (after_attach (edge_of_node now.edges (home_of now.topology s.0)) s.0 (next_label now s)) below)))

  pub detaches_go : (s : SiteNo) → IsEdgeAt now (home_of now.topology s.0) →
      Goes now.topology rs labels word now (finished (site_detached s now)) (step.Detach s)
  detaches_go s there = goes_as rs labels word now (step.Detach s) _ _
      (put_as (home_of now.topology s.0) (λ edge. after_detach edge s.0) (λ edge. after_detach edge s.0) there refl)
      refl refl

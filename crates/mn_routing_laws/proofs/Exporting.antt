-- A VRF exports with one target more or less.
use Rattle.std.proofs.Common.{ℕ, ◌≡◌, ◌-◌, inl, inr, Bool, true, false, cond, List, [], ◌∷◌, ◌++◌, map, filter, refl}
use Rattle.std.proofs.Common.{sym, ◌∙◌, ap, subst, Option, Some, None}
use Rattle.std.specs.Prelude.{◌==◌, slice_index_or}
use Rattle.std.specs.List.{flat_map}
use Rattle.mn_base.proofs.Bools.{same_numbers}
use Rattle.mn_base.proofs.Members.{In, in_map}
use Rattle.mn_base.specs.declared.numbers.VrfNo.{VrfNo}
use Rattle.mn_base.specs.declared.numbers.Rt.{Rt}
use Rattle.mn_topo.specs.Network.{Network}
use Rattle.mn_topo.specs.Lawful.{IsLawful}
use Rattle.mn_topo.specs.declared.steps.Step.{Step}
use Rattle.mn_topo.specs.declared.steps.Step.TheVariants as step
use Rattle.mn_topo.specs.declared.steps.JournalEntry.{JournalEntry}
use Rattle.mn_targets.specs.Targets.{target_set}
use Rattle.mn_ledger.specs.Places.{edge_of, vrfs_at}
use Rattle.mn_ledger.specs.World.{Config, World, Peerings}
use Rattle.mn_ledger.specs.Bgp.{peerings_after}
use Rattle.mn_ledger.specs.Ledger.{config_after, world_of, with_target}
use Rattle.mn_ledger_laws.proofs.There.{edge_there}
use Rattle.mn_frame_laws.specs.Numbers.{labels_of}
use Rattle.mn_bgp_spelling_laws.specs.Spelling.{Labels, as_targets, bytes_in}
use Rattle.mn_vrf.specs.Vrf.{Static, VrfState, with_exports}
use Rattle.mn_pe.specs.Edge.{Edge, on_vrf, after_vrf}
use Rattle.mn_pe.specs.Held.{Exported, export_at, exports_with}
use Rattle.mn_pe.specs.Exports.{labelled, exports_by, exports_at}
use Rattle.mn_routing_laws.specs.Standing.{vrf_in, edge_in}
use Rattle.mn_routing_laws.specs.Touched.{comes, goes, by_set}
use Rattle.mn_routing_laws.specs.Routed.{Routed, IsRoutes}
use Rattle.mn_routing_laws.specs.Steps.{IsTurn, Did}
use Rattle.mn_routing_laws.specs.Sending.{spelled_in}
use Rattle.mn_routing_laws.specs.Doing.{edge_at, export_set, SetsExport, TellsEither}
use Rattle.mn_routing_laws.proofs.GoingOn.{at_vrf, heard_turn}
use Rattle.mn_routing_laws.proofs.Steps.{set_same, export_here}
use Rattle.mn_routing_laws.proofs.Home.{is_edge_of, among_edges}
use Rattle.mn_routing_laws.proofs.News.{of_vrf, comes_as, goes_as}
use Rattle.mn_routing_laws.proofs.Goes.{brings, IsOfOne, Does, was, does}

-- 1. What the VRF exports, by its targets

nothing_front : {A : Type 0} (xs ys : List A) → xs ++ ys ≡ [] → (xs ≡ []) × (ys ≡ [])
nothing_front [] ys h = (refl, h)
nothing_front (x ∷ xs) ys h = absurd (let none : x ∷ (xs ++ ys) ≡ [] → ⊥ = (λ e. cc) in none h)

-- a static of an attached site is exported, whatever the targets
at_none : (one other : VrfState) (ts us : List Rt) (static : Static) (o : Option ℕ) → export_at one ts static o ≡ [] → export_at other us static o ≡ []
at_none one other ts us static None h = refl
at_none one other ts us static (Some label) h = absurd (let none : export_at one ts static (Some label) ≡ [] → ⊥ = (λ e. cc) in none h)

statics_none : (labels : List (Option ℕ)) (one other : VrfState) (ts us : List Rt) (xs : List Static)
    → flat_map (λ static. export_at one ts static (slice_index_or labels static.site None)) xs ≡ [] →
    flat_map (λ static. export_at other us static (slice_index_or labels static.site None)) xs ≡ []
statics_none labels one other ts us [] h = refl
statics_none labels one other ts us (x ∷ xs) h =
    let parts =
    nothing_front (export_at one ts x (slice_index_or labels x.site None))
    (flat_map (λ static. export_at one ts static (slice_index_or labels static.site None)) xs) h in
    ap (λ ys. ys ++ flat_map (λ static. export_at other us static (slice_index_or labels static.site None)) xs)
    (at_none one other ts us x (slice_index_or labels x.site None) parts.0)
    ∙ statics_none labels one other ts us xs parts.1

with_none : (labels : List (Option ℕ)) (one other : VrfState) (t : Rt) (ts us : List Rt) → one.statics ≡ other.statics →
    exports_with (labelled labels) one (t ∷ ts) ≡ [] → exports_with (labelled labels) other us ≡ []
with_none labels one other t ts [] same h = refl
with_none labels one other t ts (u ∷ us) same h =
    statics_none labels one other (t ∷ ts) (u ∷ us) other.statics
    (subst (λ xs. flat_map (λ static. export_at one (t ∷ ts) static (slice_index_or labels static.site None)) xs ≡ []) same h)

abbrev of_number : ℕ → List VrfState → List VrfState
of_number v vrfs = filter (λ (vrf : VrfState). vrf.number == v) vrfs

-- without a target it exports nothing
pub none_comes : (labels : List (Option ℕ)) (v : ℕ) (set : List Rt → List Rt) (vrfs : List VrfState) →
    ((vrf : VrfState) → In vrfs vrf → (vrf.number == v) ≡ true → set vrf.exports ≡ [])
    → flat_map (exports_by labels) (of_number v (on_vrf v (with_exports set) vrfs)) ≡ []
none_comes labels v set [] h = refl
none_comes labels v set (x ∷ xs) h = by (x.number == v) refl (none_comes labels v set xs (λ y i. h y (inr i)))
  where
    by : (b : Bool) → (x.number == v) ≡ b → flat_map (exports_by labels) (of_number v (on_vrf v (with_exports set) xs)) ≡ []
        → flat_map (exports_by labels) (of_number v (cond b (with_exports set x) x ∷ on_vrf v (with_exports set) xs)) ≡ []
    by true e i = rw (e, h x (inl refl) e) i
    by false e i = rw e i

-- with some target, where it exports nothing it did not before
pub none_went : (labels : List (Option ℕ)) (v : ℕ) (set : List Rt → List Rt) (vrfs : List VrfState) (t : Rt) (ts : List Rt) →
    ((vrf : VrfState) → In vrfs vrf → (vrf.number == v) ≡ true → set vrf.exports ≡ t ∷ ts)
    → flat_map (exports_by labels) (of_number v (on_vrf v (with_exports set) vrfs)) ≡ [] → flat_map (exports_by labels) (of_number v vrfs) ≡ []
none_went labels v set [] t ts h g = refl
none_went labels v set (x ∷ xs) t ts h g = by (x.number == v) refl g (none_went labels v set xs t ts (λ y i. h y (inr i)))
  where
    by : (b : Bool) → (x.number == v) ≡ b → flat_map (exports_by labels) (of_number v (cond b (with_exports set x) x ∷ on_vrf v (with_exports set) xs)) ≡ []
        → (flat_map (exports_by labels) (of_number v (on_vrf v (with_exports set) xs)) ≡ [] → flat_map (exports_by labels) (of_number v xs) ≡ [])
        → flat_map (exports_by labels) (cond b (x ∷ of_number v xs) (of_number v xs)) ≡ []
    by true e k rest =
        let here : exports_with (labelled labels) (with_exports set x) (set x.exports) ++ flat_map (exports_by labels)
        (of_number v (on_vrf v (with_exports set) xs)) ≡ [] =
        sym (ap (λ b. flat_map (exports_by labels)
        (cond b (with_exports set x ∷ of_number v (on_vrf v (with_exports set) xs)) (of_number v (on_vrf v (with_exports set) xs)))) e) ∙ k in
        let parts =
        nothing_front (exports_with (labelled labels) (with_exports set x) (set x.exports))
        (flat_map (exports_by labels) (of_number v (on_vrf v (with_exports set) xs))) here in
        ap (λ ys. ys ++ flat_map (exports_by labels) (of_number v xs))
        (with_none labels (with_exports set x) x t ts x.exports refl
        (subst (λ us. exports_with (labelled labels) (with_exports set x) us ≡ []) (h x (inl refl) e) parts.0))
        ∙ rest parts.1
    by false e k rest =
        rest (sym (ap (λ b. flat_map (exports_by labels)
        (cond b (x ∷ of_number v (on_vrf v (with_exports set) xs)) (of_number v (on_vrf v (with_exports set) xs)))) e) ∙ k)

-- 2. The step

module _ (t : Network) (lawful : IsLawful t) (tick number next : ℕ) (old new : Routed) (v : VrfNo) (target : Rt) (on : Bool) where
  abbrev exporting : Step
  exporting = step.Export v on target

  export_one : (es : List JournalEntry) → IsTurn t es exporting →
      IsOfOne t (labels_of t es) es exporting (λ now. after_vrf now v.0 (with_exports (target_set target on)))
  unfolding peerings_after
  export_one es turn =
      let there = at_vrf t v.0 target.0 turn.fitting in
      let below = edge_there t v.0 lawful there in
      record {
        vrf = v.0;
        there = there;
        below = below;
        home = refl;
        edge = is_edge_of t v.0 there;
        among = among_edges t v.0 there below;
        changes = refl;
        quiet = refl;
        told = refl;
        no_replies = refl;
        same = λ q. refl;
        now = refl;
      }

  -- the set of the VRF of this number
  set_is : (c : Config) (l : Labels) (p : Peerings) (vrf : VrfState) → In (edge_in t l c p (edge_of t v.0)).vrfs vrf → (vrf.number == v.0) ≡ true →
      target_set target on vrf.exports ≡ as_targets (with_target target.0 on (c.exports v.0))
  set_is c l p vrf i e =
      let m = in_map (vrf_in t c) (vrfs_at t (edge_of t v.0)) vrf i in
      ap (λ (u : VrfState). target_set target on u.exports) (sym m.2)
      ∙ ap (λ n. target_set target on (as_targets (c.exports n))) (ap (λ (u : VrfState). u.number) m.2 ∙ same_numbers vrf.number v.0 e)
      ∙ sym (set_same target on (c.exports v.0))

  pub did_export : SetsExport t tick number v target on old new next → Did t tick number exporting old new (next - number)
  did_export sets = record {
    goes = λ es stands turn. (all es stands turn).stands;
    messages = λ es stands turn. (all es stands turn).keys;
    count = λ es stands turn. (all es stands turn).count;
  }
    where
      all : (es : List JournalEntry) → IsRoutes t es old → IsTurn t es exporting → Does t es exporting tick number old new (next - number)
      all es stands turn =
          let w : World = world_of t es in
          let l : Labels = labels_of t es in
          let c : Config = w.config in
          let b = brings t es exporting lawful turn in
          let one = export_one es turn in
          let e : ℕ = edge_of t v.0 in
          let is = was t lawful es exporting tick number old stands turn _ one in
          let then : Config = config_after c exporting in
          let now : edge_in t l then (peerings_after t c then w.peerings exporting) e ≡ export_set (edge_at old e) v target on =
          export_here t l c w.peerings v target on e (heard_turn w b.turn.bgp) ∙ ap (λ x. export_set x v target on) (sym is) in
          let come : map (bytes_in t l e) (comes t c exporting e) ≡ map (spelled_in t e true) (exports_at (export_set (edge_at old e) v target on) v.0) =
          comes_as t l c exporting e _
          (of_vrf t l then (peerings_after t c then w.peerings exporting) e lawful b.rest.statics b.rest.sited exporting v (λ x. refl)
          ∙ ap (λ x. exports_at x v.0) now) in
          let go : map (bytes_in t l e) (goes t c exporting e) ≡ map (spelled_in t e false) (exports_at (edge_at old e) v.0) =
          goes_as t l c exporting e _ (of_vrf t l c w.peerings e lawful b.rest.statics b.rest.sited exporting v (λ x. refl)
          ∙ ap (λ x. exports_at x v.0) (sym is)) in
          let none : with_target target.0 on (c.exports v.0) ≡ [] → exports_at (export_set (edge_at old e) v target on) v.0 ≡ [] =
          (λ q. none_comes (edge_at old e).labels v.0 (target_set target on) (edge_at old e).vrfs
          (λ vrf i n. set_is c l w.peerings vrf (subst (λ (x : Edge). In x.vrfs vrf) is i) n ∙ ap as_targets q)) in
          let unmoved : (x : ℕ) (xs : List ℕ) → with_target target.0 on (c.exports v.0) ≡ x ∷ xs →
          exports_at (export_set (edge_at old e) v target on) v.0 ≡ [] → exports_at (edge_at old e) v.0 ≡ [] =
          (λ x xs q. none_went (edge_at old e).labels v.0 (target_set target on) (edge_at old e).vrfs (record { 0 = x }) (as_targets xs)
          (λ vrf i n. set_is c l w.peerings vrf (subst (λ (y : Edge). In y.vrfs vrf) is i) n ∙ ap as_targets q)) in
          by es stands turn (exports_at (export_set (edge_at old e) v target on) v.0) refl
          (with_target target.0 on (c.exports v.0)) refl come go none unmoved sets
        where
          by : (es : List JournalEntry) (stands : IsRoutes t es old) (turn : IsTurn t es exporting)
              (coming : List Exported) → exports_at (export_set (edge_at old (edge_of t v.0)) v target on) v.0 ≡ coming
              → (ts : List ℕ) → with_target target.0 on ((world_of t es).config.exports v.0) ≡ ts
              → map (bytes_in t (labels_of t es) (edge_of t v.0)) (comes t (world_of t es).config exporting (edge_of t v.0)) ≡ map
              (spelled_in t (edge_of t v.0) true) (exports_at (export_set (edge_at old (edge_of t v.0)) v target on) v.0)
              → map (bytes_in t (labels_of t es) (edge_of t v.0)) (goes t (world_of t es).config exporting (edge_of t v.0)) ≡ map
              (spelled_in t (edge_of t v.0) false) (exports_at (edge_at old (edge_of t v.0)) v.0)
              → (with_target target.0 on ((world_of t es).config.exports v.0) ≡ [] → exports_at (export_set (edge_at old (edge_of t v.0)) v target on) v.0 ≡ [])
              → ((x : ℕ) (xs : List ℕ) → with_target target.0 on ((world_of t es).config.exports v.0) ≡ x ∷ xs →
              exports_at (export_set (edge_at old (edge_of t v.0)) v target on) v.0 ≡ [] → exports_at (edge_at old (edge_of t v.0)) v.0 ≡ [])
              → TellsEither t tick number (edge_of t v.0) (export_set (edge_at old (edge_of t v.0)) v target on)
              (exports_at (export_set (edge_at old (edge_of t v.0)) v target on) v.0) (exports_at (edge_at old (edge_of t v.0)) v.0) old new next
              → Does t es exporting tick number old new (next - number)
          by es stands turn [] q [] r come go none unmoved tells =
              does t lawful es exporting tick number old stands turn _ (export_one es turn) false (exports_at (edge_at old (edge_of t v.0)) v.0) new next
              (ap (λ ts. map (bytes_in t (labels_of t es) (edge_of t v.0))
              (by_set ts (comes t (world_of t es).config exporting (edge_of t v.0)) (goes t (world_of t es).config exporting (edge_of t v.0)))) r ∙ go)
              (subst (λ xs. TellsEither t tick number (edge_of t v.0) (export_set (edge_at old (edge_of t v.0)) v target on) xs
              (exports_at (edge_at old (edge_of t v.0)) v.0) old new next) q tells)
          by es stands turn [] q (x ∷ xs) r come go none unmoved tells =
              does t lawful es exporting tick number old stands turn _ (export_one es turn) false (exports_at (edge_at old (edge_of t v.0)) v.0) new next
              (ap (λ ts. map (bytes_in t (labels_of t es) (edge_of t v.0))
              (by_set ts (comes t (world_of t es).config exporting (edge_of t v.0)) (goes t (world_of t es).config exporting (edge_of t v.0)))) r
              ∙ come ∙ ap (map (spelled_in t (edge_of t v.0) true)) q ∙ sym (ap (map (spelled_in t (edge_of t v.0) false)) (unmoved x xs r q)))
              (subst (λ ys. TellsEither t tick number (edge_of t v.0) (export_set (edge_at old (edge_of t v.0)) v target on) ys
              (exports_at (edge_at old (edge_of t v.0)) v.0) old new next) q tells)
          by es stands turn (y ∷ ys) q [] r come go none unmoved tells = absurd (let no_export : y ∷ ys ≡ [] → ⊥ = (λ z. cc) in no_export (sym q ∙ none r))
          by es stands turn (y ∷ ys) q (x ∷ xs) r come go none unmoved tells =
              does t lawful es exporting tick number old stands turn _ (export_one es turn) true (y ∷ ys) new next
              (ap (λ ts. map (bytes_in t (labels_of t es) (edge_of t v.0))
              (by_set ts (comes t (world_of t es).config exporting (edge_of t v.0)) (goes t (world_of t es).config exporting (edge_of t v.0)))) r
              ∙ come ∙ ap (map (spelled_in t (edge_of t v.0) true)) q)
              (subst (λ zs. TellsEither t tick number (edge_of t v.0) (export_set (edge_at old (edge_of t v.0)) v target on) zs
              (exports_at (edge_at old (edge_of t v.0)) v.0) old new next) q tells)

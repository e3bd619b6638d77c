-- A step that is taken and that nothing refuses can be done, and what it makes stands for the steps with it.
use Rattle.std.proofs.Common.{ℕ, ◌≡◌, ◌<◌, Bool, true, false, List, [], ◌∷◌, ◌++◌, length, refl, sym, ap, ◌∙◌, subst, Option, Some, None, inl}
use Rattle.std.specs.Prelude.{◌&&◌, nat_lt, is_none}
use Rattle.mn_base.proofs.Bools.{no, and_left, less_tells}
use Rattle.mn_base.proofs.Members.{In, in_rest, contained_in}
use Rattle.mn_base.specs.Numbers.{has_rt_form}
use Rattle.mn_base.specs.declared.numbers.NodeNo.{NodeNo}
use Rattle.mn_base.specs.declared.numbers.SiteNo.{SiteNo}
use Rattle.mn_base.specs.declared.numbers.VrfNo.{VrfNo}
use Rattle.mn_base.specs.declared.numbers.Rt.{Rt}
use Rattle.mn_prefix.specs.Prefix.{AddressBlock}
use Rattle.mn_topo.specs.Network.{Network}
use Rattle.mn_topo.specs.SiteTable.{is_lawful_prefix}
use Rattle.mn_topo.specs.Steps.{has_vrf, has_site}
use Rattle.mn_topo.specs.declared.steps.Step.{Step}
use Rattle.mn_topo.specs.declared.steps.Step.TheVariants as step
use Rattle.mn_ledger.specs.Places.{vrf_of, edge_of, home_of}
use Rattle.mn_ledger_laws.proofs.There.{vrf_there, edge_there}
use Rattle.mn_bgp_spelling_laws.specs.Spelling.{Labels}
use Rattle.mn_vrf.specs.Vrf.{with_static}
use Rattle.mn_pe.specs.Edge.{Edge, after_vrf, after_attach}
use Rattle.mn_pe.specs.Exports.{exports_at, exports_over, export_of}
use Rattle.mn_edges.specs.Changes.{those_of, static_over}
use Rattle.mn_edges.specs.Said.{AreSayable}
use Rattle.mn_routing_laws.proofs.Home.{is_edge_of}
use Rattle.mn_reflect_ledger_laws.specs.Words.{Offer, Word, Open, KeepAlive, Announce, Withdraw}
use Rattle.mn_reflect_ledger_laws.specs.Picks.{ReflectWorld}
use Rattle.mn_reflect_ledger_laws.specs.World.{world_of, first_word, words_to}
use Rattle.mn_reflect_ledger_laws.specs.Quiet.{told}
use Rattle.mn_reflect_ledger_laws.specs.Through.{ComesThrough}
use Rattle.mn_reflect_ledger_laws.proofs.Steps.{first_said}
use Rattle.mn_reflect_ledger_laws.proofs.Through.{comes_through}
use Rattle.mn_reflect_ledger_laws.specs.Refusal.{refusal}
use Rattle.mn_reflect_world_laws.specs.Labels.{labels_of}
use Rattle.mn_reflect_world_laws.specs.Now.{ReflectNow}
use Rattle.mn_reflect_world_laws.specs.Steps.{may_peer, takes}
use Rattle.mn_reflect_world_laws.specs.Goes.{Goes, word_heard, edge_of_node}
use Rattle.mn_reflect_world_laws.proofs.Config.{free}
use Rattle.mn_reflect_world_laws.proofs.Run.{peers_there, run_goes_on}
use Rattle.mn_reflect_world_laws.proofs.Hears.{hears as hears_in_turn}
use Rattle.mn_reflect_world_laws.proofs.Exporting.{exports_sayable, exports_sayable_after}
use Rattle.mn_reflect_world_laws.proofs.Unrefused.{import_free, export_free, add_is_free, del_is_free, site_vrf, few_statics, some_statics, label_fits}
use Rattle.mn_reflect_world_laws.proofs.Onward.{goes_on}
use Rattle.mn_reflect.specs.Course.{IsRun}
use Rattle.mn_reflect.specs.Doing.{IsEdgeAt, IsNext}
use Rattle.mn_reflect.specs.Changing.{MayImport, MayExport, MayAdd, MayDel, MayAttach, MayDetach, exports_changed, next_label}
use Rattle.mn_reflect.specs.Acting.{AreTwo, MayHearNext, MayAct, IsHeardIn, acted}
use Rattle.mn_reflect.proofs.Going.{finished, edge_becomes, begins, hears, ends, imports_go, exports_go, adds_go, dels_go, attaches_go, detaches_go}
use Rattle.mn_reflect.proofs.Placed.{at_edge, edges_many}
use Rattle.mn_reflect.proofs.Stepping.{are_ones, placed, may_turn, may_hear, AreAddressed, next_is}
use Rattle.mn_reflect.proofs.Words.{clusters_fit}

some_word : (o : Option Word) → is_none o ≡ false → (word : Word) × (o ≡ Some word)
some_word None h = absurd (no (sym h))
some_word (Some word) h = (word, refl)

module _ (rs : List ℕ) (steps : List Step) (now : ReflectNow) (is : IsRun now.topology rs steps now) where
  abbrev t : Network
  t = now.topology

  abbrev w : ReflectWorld
  w = world_of t rs steps

  abbrev l : Labels
  l = labels_of t steps

  -- 1. Nodes, VRFs and sites

  two : (a b : NodeNo) → may_peer t rs a.0 b.0 ≡ true → AreTwo now a.0 b.0
  two a b may =
      let x = peers_there t rs is.run.topology_is is.run.are a.0 b.0 may in
      record { first = x.1; second = x.2; apart = x.0 }

  at_vrf : (v : ℕ) → v < length t.vrfs → IsEdgeAt now (edge_of t v)
  at_vrf v there = at_edge t rs l w now is.stands.0 (edge_of t v) (edge_there t v is.run.topology_is there) (is_edge_of t v there)

  of_site : (s : ℕ) → s < length t.sites → vrf_of t s < length t.vrfs
  of_site s there = vrf_there t s is.run.topology_is there

  vrf_below : (v : ℕ) → v < length t.vrfs → edge_of t v < length now.edges
  vrf_below v there = subst (λ n. edge_of t v < n) (sym (edges_many t rs l w now is.stands.0)) (edge_there t v is.run.topology_is there)

  vrf_named : (v : VrfNo) (target : Rt) → (has_vrf t v && has_rt_form target.0) ≡ true → v.0 < length t.vrfs
  vrf_named v target taken = less_tells v.0 (length t.vrfs) (and_left (has_vrf t v) (has_rt_form target.0) taken)

  site_named : (s : SiteNo) (prefix : AddressBlock) → (has_site t s && is_lawful_prefix prefix) ≡ true → s.0 < length t.sites
  site_named s prefix taken = less_tells s.0 (length t.sites) (and_left (has_site t s) (is_lawful_prefix prefix) taken)

  peers_of : (a b : NodeNo) → (may_peer t rs a.0 b.0 && nat_lt a.0 b.0) ≡ true → may_peer t rs a.0 b.0 ≡ true
  peers_of a b taken = and_left (may_peer t rs a.0 b.0) (nat_lt a.0 b.0) taken

  -- 2. A word

  module _ (a b : NodeNo) (may : may_peer t rs a.0 b.0 ≡ true) (word : Word) (first : first_word a.0 b.0 w.flying ≡ Some word) where
    was_told : (x : Offer) → word ≡ Announce x → ComesThrough t rs a.0 b.0 x
    was_told x e = comes_through t rs is.run.are steps a.0 b.0 x (contained_in (told w a.0 b.0) (Announce x)
        (in_rest (w.heard b.0 a.0) (words_to a.0 b.0 w.flying) (Announce x)
        (subst (λ ws. In ws (Announce x)) (sym (first_said a.0 b.0 w.flying word first)) (inl e))))

    addressed : (v : Word) → word ≡ v → AreAddressed rs steps now is v
    addressed (Announce x) e = clusters_fit t rs a.0 b.0 x is.run.topology_is (was_told x e)
    addressed (Withdraw key) e = tt
    addressed Open e = tt
    addressed KeepAlive e = tt

    next_so : IsNext l now a.0 b.0 word
    next_so = next_is rs steps now is a b word (hears_in_turn t rs steps now is.run is.stands a b word may first) (addressed word refl)

    may_hear_it : MayHearNext now a.0 b.0
    may_hear_it =
        let x = two a b may in
        record {
          two = x;
          can = record {
            labels = l;
            word = word;
            next = next_so;
            may =
                may_hear rs steps now is b.0 x.second (are_ones rs steps now is a.0 b.0 may).1;
          };
        }

  word_there : (a b : NodeNo) → refusal t w (step.HearBgp a b) ≡ None → (word : Word) × (first_word a.0 b.0 w.flying ≡ Some word)
  word_there a b none = some_word (first_word a.0 b.0 w.flying) (free t w (step.HearBgp a b) none).there

  -- 3. It can be done

  may_import : (v : VrfNo) (target : Rt) (on : Bool) → takes t rs (step.Import v on target) ≡ true → refusal t w (step.Import v on target) ≡ None →
      MayImport now v target on
  may_import v target on taken none =
      let there = vrf_named v target taken in
      record { vrf = there; there = at_vrf v.0 there; free = import_free t rs steps now is.run is.stands v target on taken none }

  may_export : (v : VrfNo) (target : Rt) (on : Bool) → takes t rs (step.Export v on target) ≡ true → refusal t w (step.Export v on target) ≡ None →
      MayExport now v target on
  may_export v target on taken none =
      let there = vrf_named v target taken in
      record {
        vrf = there;
        there = at_vrf v.0 there;
        free = export_free t rs steps now is.run is.stands v target on taken none;
        came = subst (λ (e : Edge). AreSayable (exports_at e v.0))
            (edge_becomes now (edge_of t v.0) (exports_changed v target on) (vrf_below v.0 there) (at_vrf v.0 there))
            ((exports_sayable_after t rs steps now (step.Export v on target) is.run taken none is.stands (edge_of t v.0) (is_edge_of t v.0 there)).at v.0);
        went = (exports_sayable t rs steps now is.run is.stands (edge_of t v.0) (is_edge_of t v.0 there)).at v.0;
      }

  may_add : (s : SiteNo) (prefix : AddressBlock) → takes t rs (step.AddRoute s prefix) ≡ true → refusal t w (step.AddRoute s prefix) ≡ None →
      MayAdd now s prefix
  may_add s prefix taken none =
      let there = site_named s prefix taken in
      let home : ℕ = home_of t s.0 in
      record {
        within = there;
        there = at_vrf (vrf_of t s.0) (of_site s.0 there);
        few = few_statics t rs steps now is.run is.stands s prefix none;
        free = add_is_free t rs steps now is.run is.stands s prefix taken none;
        came = subst (λ (e : Edge). AreSayable (those_of (export_of e s.0 prefix)))
            (edge_becomes now home (λ edge. after_vrf edge (vrf_of t s.0) (with_static (static_over s prefix))) (vrf_below (vrf_of t s.0) (of_site s.0 there))
            (at_vrf (vrf_of t s.0) (of_site s.0 there))
            ∙ ap (λ v. after_vrf (edge_of_node now.edges home) v (with_static (static_over s prefix)))
            (sym (site_vrf t rs steps now is.run is.stands s prefix there)))
            ((exports_sayable_after t rs steps now (step.AddRoute s prefix) is.run taken none is.stands home
            (is_edge_of t (vrf_of t s.0) (of_site s.0 there))).one s.0 prefix);
      }

  may_del : (s : SiteNo) (prefix : AddressBlock) → takes t rs (step.DelRoute s prefix) ≡ true → refusal t w (step.DelRoute s prefix) ≡ None →
      MayDel now s prefix
  may_del s prefix taken none =
      let there = site_named s prefix taken in
      record {
        within = there;
        there = at_vrf (vrf_of t s.0) (of_site s.0 there);
        some = some_statics t rs steps now is.run is.stands s prefix none;
        free = del_is_free t rs steps now is.run is.stands s prefix taken none;
        went = (exports_sayable t rs steps now is.run is.stands (home_of t s.0) (is_edge_of t (vrf_of t s.0) (of_site s.0 there))).one s.0 prefix;
      }

  may_attach : (s : SiteNo) → takes t rs (step.Attach s) ≡ true → refusal t w (step.Attach s) ≡ None → MayAttach now s
  may_attach s taken none =
      let there = less_tells s.0 (length t.sites) taken in
      let home : ℕ = home_of t s.0 in
      record {
        within = there;
        there = at_vrf (vrf_of t s.0) (of_site s.0 there);
        label = label_fits t rs steps now is.run is.stands s taken none;
        came = subst (λ (e : Edge). AreSayable (exports_over e s.0))
            (edge_becomes now home (λ edge. after_attach edge s.0 (next_label now s)) (vrf_below (vrf_of t s.0) (of_site s.0 there))
            (at_vrf (vrf_of t s.0) (of_site s.0 there)))
            ((exports_sayable_after t rs steps now (step.Attach s) is.run taken none is.stands home
            (is_edge_of t (vrf_of t s.0) (of_site s.0 there))).over s.0);
      }

  may_detach : (s : SiteNo) → takes t rs (step.Detach s) ≡ true → MayDetach now s
  may_detach s taken =
      let there = less_tells s.0 (length t.sites) taken in
      record {
        within = there;
        there = at_vrf (vrf_of t s.0) (of_site s.0 there);
        went = (exports_sayable t rs steps now is.run is.stands (home_of t s.0) (is_edge_of t (vrf_of t s.0) (of_site s.0 there))).over s.0;
      }

  pub may_act : (s : Step) → takes t rs s ≡ true → refusal t w s ≡ None → MayAct now s
  may_act (step.BgpUp a b) taken none = two a b (peers_of a b taken)
  may_act (step.BgpDown a b) taken none =
      let x = two a b (peers_of a b taken) in
      let ones = are_ones rs steps now is a.0 b.0 (peers_of a b taken) in
      record { two = x; first = may_turn rs steps now is a.0 x.first ones.0; second = may_turn rs steps now is b.0 x.second ones.1 }
  may_act (step.HearBgp a b) taken none = let heard = word_there a b none in may_hear_it a b taken heard.0 heard.1
  may_act (step.AddRoute s prefix) taken none = may_add s prefix taken none
  may_act (step.DelRoute s prefix) taken none = may_del s prefix taken none
  may_act (step.Import v on target) taken none = may_import v target on taken none
  may_act (step.Export v on target) taken none = may_export v target on taken none
  may_act (step.Attach s) taken none = may_attach s taken none
  may_act (step.Detach s) taken none = may_detach s taken
  may_act _ taken none = absurd (no taken)

  -- 4. And what it makes

  heard_so : (a b : NodeNo) → may_peer t rs a.0 b.0 ≡ true → (o : Option Word) → first_word a.0 b.0 w.flying ≡ o → is_none o ≡ false →
      IsHeardIn l now (step.HearBgp a b) o
  heard_so a b may None first h = absurd (no (sym h))
  heard_so a b may (Some word) first h = next_so a b may word first

  pub is_heard : (s : Step) → takes t rs s ≡ true → refusal t w s ≡ None → IsHeardIn l now s (word_heard w s)
  is_heard (step.HearBgp a b) taken none = heard_so a b taken (first_word a.0 b.0 w.flying) refl (free t w (step.HearBgp a b) none).there
  is_heard (step.BgpUp a b) taken none = tt
  is_heard (step.BgpDown a b) taken none = tt
  is_heard (step.AddRoute s prefix) taken none = tt
  is_heard (step.DelRoute s prefix) taken none = tt
  is_heard (step.Import v on target) taken none = tt
  is_heard (step.Export v on target) taken none = tt
  is_heard (step.Attach s) taken none = tt
  is_heard (step.Detach s) taken none = tt
  is_heard _ taken none = absurd (no taken)

  hears_so : (a b : NodeNo) → may_peer t rs a.0 b.0 ≡ true → (o : Option Word) → is_none o ≡ false →
      Goes t rs l o now (finished (acted l o (step.HearBgp a b) now)) (step.HearBgp a b)
  hears_so a b may None h = absurd (no (sym h))
  hears_so a b may (Some word) h = hears rs l now a b (placed rs steps now is b.0 (are_ones rs steps now is a.0 b.0 may).1) word

  made : (s : Step) → takes t rs s ≡ true → refusal t w s ≡ None → Goes t rs l (word_heard w s) now (finished (acted l (word_heard w s) s now)) s
  made (step.BgpUp a b) taken none = begins rs l None now a b
  made (step.BgpDown a b) taken none =
      let may = peers_of a b taken in
      let ones = are_ones rs steps now is a.0 b.0 may in
      ends rs l None now a b (two a b may).apart (placed rs steps now is a.0 ones.0) (placed rs steps now is b.0 ones.1)
  made (step.HearBgp a b) taken none = hears_so a b taken (first_word a.0 b.0 w.flying) (free t w (step.HearBgp a b) none).there
  made (step.AddRoute s prefix) taken none =
      let there = site_named s prefix taken in
      adds_go rs l None now s prefix (vrf_below (vrf_of t s.0) (of_site s.0 there)) (at_vrf (vrf_of t s.0) (of_site s.0 there))
      (site_vrf t rs steps now is.run is.stands s prefix there)
  made (step.DelRoute s prefix) taken none =
      let there = site_named s prefix taken in
      dels_go rs l None now s prefix (at_vrf (vrf_of t s.0) (of_site s.0 there)) (site_vrf t rs steps now is.run is.stands s prefix there)
  made (step.Import v on target) taken none = imports_go rs l None now v target on (at_vrf v.0 (vrf_named v target taken))
  made (step.Export v on target) taken none =
      let there = vrf_named v target taken in
      exports_go rs l None now v target on (vrf_below v.0 there) (at_vrf v.0 there)
  made (step.Attach s) taken none =
      let there = less_tells s.0 (length t.sites) taken in
      attaches_go rs l None now s (vrf_below (vrf_of t s.0) (of_site s.0 there)) (at_vrf (vrf_of t s.0) (of_site s.0 there))
  made (step.Detach s) taken none =
      let there = less_tells s.0 (length t.sites) taken in
      detaches_go rs l None now s (at_vrf (vrf_of t s.0) (of_site s.0 there))
  made _ taken none = absurd (no taken)

  run_on : (s : Step) → takes t rs s ≡ true → refusal t w s ≡ None → IsRun t rs (steps ++ s ∷ []) (finished (acted l (word_heard w s) s now))
  run_on s taken none = record {
    run = run_goes_on t rs steps s is.run taken none;
    stands = goes_on t rs steps s now (finished (acted l (word_heard w s) s now)) is.run taken none is.stands (made s taken none);
  }

-- 5. Of any topology that is the one that is kept

module _ (t : Network) (rs : List ℕ) (steps : List Step) (now : ReflectNow) (is : IsRun t rs steps now) (s : Step) (taken : takes t rs s ≡ true)
    (none : refusal t (world_of t rs steps) s ≡ None) where
  abbrev So : Network → Type 0
  So n = IsRun n rs steps now → takes n rs s ≡ true → refusal n (world_of n rs steps) s ≡ None → MayAct now s

  pub can_act : MayAct now s
  can_act = subst So is.stands.0.topology_is (λ run takes_it refuses_not. may_act rs steps now run s takes_it refuses_not) is taken none

  abbrev Heard : Network → Type 0
  Heard n = IsRun n rs steps now → takes n rs s ≡ true → refusal n (world_of n rs steps) s ≡ None →
      IsHeardIn (labels_of n steps) now s (word_heard (world_of n rs steps) s)

  pub hears_it : IsHeardIn (labels_of t steps) now s (word_heard (world_of t rs steps) s)
  hears_it = subst Heard is.stands.0.topology_is (λ run takes_it refuses_not. is_heard rs steps now run s takes_it refuses_not) is taken none

  abbrev On : Network → Type 0
  On n = IsRun n rs steps now → takes n rs s ≡ true → refusal n (world_of n rs steps) s ≡ None →
      IsRun n rs (steps ++ s ∷ []) (finished (acted (labels_of n steps) (word_heard (world_of n rs steps) s) s now))

  pub goes_further : (new : ReflectNow) → new ≡ finished (acted (labels_of t steps) (word_heard (world_of t rs steps) s) s now) →
      IsRun t rs (steps ++ s ∷ []) new
  goes_further new so =
      subst (IsRun t rs (steps ++ s ∷ [])) (sym so)
      (subst On is.stands.0.topology_is (λ run takes_it refuses_not. run_on rs steps now run s takes_it refuses_not) is taken none)

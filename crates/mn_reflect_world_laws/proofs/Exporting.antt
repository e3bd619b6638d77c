-- What an edge exports can be sent, and what it exports after one step more.
use Rattle.std.proofs.Common.{ℕ, ◌≡◌, ◌+◌, ◌<◌, true, false, List, [], ◌∷◌, ◌++◌, length, Option, Some, None, refl, sym, ◌∙◌, ap, subst}
use Rattle.mn_base.proofs.Members.{In}
use Rattle.mn_topo.specs.Network.{Network}
use Rattle.mn_topo.specs.VrfTable.{is_edge}
use Rattle.mn_topo.specs.declared.steps.Step.{Step}
use Rattle.mn_topo.specs.declared.steps.Step.TheVariants as step
use Rattle.mn_ledger.specs.World.{Config}
use Rattle.mn_ledger.proofs.Tidy.{RiseAll}
use Rattle.mn_pe.specs.Edge.{Edge}
use Rattle.mn_pe.specs.Held as held
use Rattle.mn_pe.specs.Exports.{exports_at, exports_over, export_of}
use Rattle.mn_bgp_spelling_laws.specs.Spelling.{Labels}
use Rattle.mn_routing_laws.specs.Standing.{edge_in}
use Rattle.mn_routing_laws.specs.Doing.{AreSayable, those_of}
use Rattle.mn_routing_laws.proofs.Lawful.{below_of}
use Rattle.mn_routing_laws.proofs.Sayable.{Fits, all_sayable}
use Rattle.mn_routing_laws.proofs.Can.{say_at, say_over, say_one}
use Rattle.mn_offers.specs.Heard.{Heard}
use Rattle.mn_mail.specs.Mail.{Mail}
use Rattle.mn_reflect_ledger_laws.specs.Words.{Word, Open, KeepAlive, Announce, Withdraw}
use Rattle.mn_reflect_ledger_laws.specs.World.{world_of}
use Rattle.mn_reflect_ledger_laws.specs.Refusal.{refusal}
use Rattle.mn_reflect_world_laws.specs.Labels.{labels_of}
use Rattle.mn_reflect_world_laws.specs.Edges.{all_live, as_peerings}
use Rattle.mn_reflect_world_laws.specs.Now.{ReflectNow, IsReflect}
use Rattle.mn_reflect_world_laws.specs.Steps.{takes, IsLawfulRun}
use Rattle.mn_reflect_world_laws.specs.Goes.{word_heard, sessions_after, heard_after, attachments_after, statics_after, edges_after, letters_after}
use Rattle.mn_reflect_world_laws.specs.Goes.{edge_of_node, Goes}
use Rattle.mn_reflect_world_laws.specs.Choice.{row_at}
use Rattle.mn_reflect_world_laws.specs.Known.{IsSayableRoute, SaysItsExports}
use Rattle.mn_reflect_world_laws.proofs.Run.{IsRest, rests, run_goes_on}
use Rattle.mn_reflect_world_laws.proofs.OnHearing.{edge_there}
use Rattle.mn_reflect_world_laws.proofs.Onward.{goes_on}
use Rattle.mn_reflect_world_laws.proofs.Hears.{kept_sayable}

module _ (t : Network) (reflectors : List ℕ) (steps : List Step) (now : ReflectNow) (run : IsLawfulRun t reflectors steps)
    (stands : IsReflect t reflectors steps now)
    (node : ℕ) (is : is_edge t.vrfs node ≡ true) where
  abbrev l : Labels
  l = labels_of t steps

  abbrev c : Config
  c = all_live t (world_of t reflectors steps).config

  rest : IsRest t reflectors (world_of t reflectors steps) l
  rest = rests t reflectors steps run

  fits_now : Fits c l
  fits_now = record { sets = rest.order.sets; labels = rest.order.given.fit }

  rise_now : RiseAll c
  rise_now = record { imports = rest.order.rise.imports; exports = rest.order.rise.exports }

  edge_is : edge_in t l c (as_peerings stands.0.decisions) node ≡ edge_of_node now.edges node
  edge_is =
      sym (ap (λ es. edge_of_node es node) stands.0.edges
      ∙ edge_there t l (world_of t reflectors steps) stands.0.decisions node (below_of (length t.loopbacks) node t.vrfs run.topology_is.vrfs.formed is) is)

  pub exports_sayable : SaysItsExports now.edges node
  exports_sayable = record {
    all = subst (λ (e : Edge). AreSayable (held.exports_of e)) edge_is
        (all_sayable t l c (as_peerings stands.0.decisions) node run.topology_is fits_now rise_now.exports);
    at = λ v. subst (λ (e : Edge). AreSayable (exports_at e v)) edge_is
        (say_at t l c (as_peerings stands.0.decisions) node run.topology_is fits_now rise_now v);
    over = λ site. subst (λ (e : Edge). AreSayable (exports_over e site)) edge_is
        (say_over t l c (as_peerings stands.0.decisions) node run.topology_is fits_now rise_now site);
    one = λ site prefix. subst (λ (e : Edge). AreSayable (those_of (export_of e site prefix))) edge_is
        (say_one t l c (as_peerings stands.0.decisions) node run.topology_is fits_now rise_now site prefix);
  }

-- what a step makes of what is kept
made_of : Network → Labels → Option Word → ReflectNow → Step → ReflectNow
made_of t l word now done =
    record now {
      sessions = sessions_after t word now.sessions done;
      heard = heard_after l word now.heard done;
      attachments = attachments_after t now.attachments done;
      statics = statics_after now.statics done;
      edges = edges_after t now.reflectors word now (heard_after l word now.heard done) done;
      done = now.done + 1;
      failed = false;
    }

with_letters : Network → Labels → Option Word → ReflectNow → Step → ReflectNow
with_letters t l word now done =
    let made : ReflectNow = made_of t l word now done in
    record made { mail = record now.mail { letters = letters_after t now.reflectors word now made done } }

same_letters : (t : Network) (reflectors : List ℕ) (word : Option Word) (now x : ReflectNow) (m : Mail) (done : Step) →
    letters_after t reflectors word now x done ≡ letters_after t reflectors word now (record x { mail = m }) done
same_letters t reflectors word now x m (step.BgpUp a b) = refl
same_letters t reflectors word now x m (step.BgpDown a b) = refl
same_letters t reflectors None now x m (step.HearBgp a b) = refl
same_letters t reflectors (Some Open) now x m (step.HearBgp a b) = refl
same_letters t reflectors (Some KeepAlive) now x m (step.HearBgp a b) = refl
same_letters t reflectors (Some (Announce offer)) now x m (step.HearBgp a b) = refl
same_letters t reflectors (Some (Withdraw key)) now x m (step.HearBgp a b) = refl
same_letters t reflectors word now x m (step.AddRoute s prefix) = refl
same_letters t reflectors word now x m (step.DelRoute s prefix) = refl
same_letters t reflectors word now x m (step.Import v on target) = refl
same_letters t reflectors word now x m (step.Export v on target) = refl
same_letters t reflectors word now x m (step.Attach s) = refl
same_letters t reflectors word now x m (step.Detach s) = refl
same_letters t reflectors word now x m _ = refl

-- it goes as a step has it
goes_so : (t : Network) (reflectors : List ℕ) (l : Labels) (word : Option Word) (now : ReflectNow) (done : Step) →
    Goes t reflectors l word now (with_letters t l word now done) done
unfolding with_letters made_of
goes_so t reflectors l word now done = record {
  works = refl;
  topology_is = refl;
  reflectors_are = refl;
  sessions = refl;
  heard = refl;
  attachments = refl;
  statics = refl;
  edges = refl;
  nodes = refl;
  letters =
      same_letters t now.reflectors word now (made_of t l word now done)
      (record now.mail { letters = letters_after t now.reflectors word now (made_of t l word now done) done }) done;
  count = refl;
}

module _ (t : Network) (reflectors : List ℕ) (steps : List Step) (now : ReflectNow) (done : Step) (run : IsLawfulRun t reflectors steps)
    (is : takes t reflectors done ≡ true) (none : refusal t (world_of t reflectors steps) done ≡ None) (stands : IsReflect t reflectors steps now) where
  abbrev word : Option Word
  word = word_heard (world_of t reflectors steps) done

  run_then : IsLawfulRun t reflectors (steps ++ done ∷ [])
  run_then = run_goes_on t reflectors steps done run is none

  stands_then : IsReflect t reflectors (steps ++ done ∷ []) (with_letters t (labels_of t steps) word now done)
  stands_then =
      goes_on t reflectors steps done now (with_letters t (labels_of t steps) word now done) run is none stands
      (goes_so t reflectors (labels_of t steps) word now done)

  pub exports_sayable_after : (node : ℕ) → is_edge t.vrfs node ≡ true →
      SaysItsExports (edges_after t now.reflectors word now (heard_after (labels_of t steps) word now.heard done) done) node
  unfolding with_letters made_of
  exports_sayable_after node edge =
      exports_sayable t reflectors (steps ++ done ∷ []) (with_letters t (labels_of t steps) word now done) run_then stands_then node edge

  pub kept_sayable_after : (n p : ℕ) (route : Heard) → n < length t.loopbacks →
      In (row_at (heard_after (labels_of t steps) word now.heard done) n p) route → IsSayableRoute t route
  unfolding with_letters made_of
  kept_sayable_after n p route below i =
      kept_sayable t reflectors (steps ++ done ∷ []) (with_letters t (labels_of t steps) word now done) run_then stands_then n p route below i

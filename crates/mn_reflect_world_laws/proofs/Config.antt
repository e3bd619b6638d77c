-- What is configured stays in order: sites that are there, attachments that were made, sets of targets that can be sent, and labels that differ.
use Rattle.std.proofs.Common.{ℕ, ◌≡◌, ◌+◌, ◌<◌, ◌≤◌, Bool, true, false, List, [], map, length, refl, arith, sym, subst, Some, None}
use Rattle.std.specs.Prelude.{sum}
use Rattle.mn_base.proofs.Bools.{no}
use Rattle.mn_base.proofs.Members.{In}
use Rattle.mn_prefix.specs.Prefix.{IsPrefix}
use Rattle.mn_topo.specs.Network.{Network}
use Rattle.mn_topo.specs.Lawful.{IsLawful}
use Rattle.mn_topo.specs.Steps.{fits}
use Rattle.mn_topo.specs.declared.steps.Step.{Step}
use Rattle.mn_topo.specs.declared.steps.Step.TheVariants as step
use Rattle.mn_ledger.specs.declared.refused.Refused.{Refused}
use Rattle.mn_ledger.specs.declared.refused.Refused.TheVariants.{Unchanged, Empty, TargetsFull, LabelsSpent, NetFull}
use Rattle.mn_ledger.specs.Places.{vrf_of, edge_of, home_of, sites_at}
use Rattle.mn_ledger.specs.World.{Config, Export}
use Rattle.mn_ledger.specs.Exports.{exports_of}
use Rattle.mn_ledger.specs.Ledger.{config_after, first_config, start}
use Rattle.mn_ledger.specs.Refusal.{is_unchanged, static_refusal, is_targets_full, is_spent, where_holds}
use Rattle.mn_ledger.proofs.Statics.{HasStatics, HasForms, first_statics, first_forms, forms_go}
use Rattle.mn_ledger.proofs.Tidy.{Rise, RiseAll, rises_on, starts_risen}
use Rattle.mn_ledger_laws.proofs.Announced.{IsInBounds, bounds_at, bounds_go, is_exported, attaches_grow}
use Rattle.mn_bgp_spelling_laws.specs.Spelling.{Labels}
use Rattle.mn_bgp_spelling_laws.proofs.Writable.{IsFewAndFormed, AreFewAndFormed, first_sets, sets_go}
use Rattle.mn_reflect_ledger_laws.specs.Picks.{ReflectWorld}
use Rattle.mn_reflect_ledger_laws.specs.Refusal.{refusal, is_empty, is_full}
use Rattle.mn_reflect_ledger_laws.proofs.Apart.{first_none, statics_by}
use Rattle.mn_reflect_world_laws.specs.Labels.{first_labels, labels_after}
use Rattle.mn_reflect_world_laws.specs.Steps.{takes}
use Rattle.mn_reflect_world_laws.proofs.Given.{IsAttachment, AreGiven, first_given, attaching_given}

-- 1. No cause holds

pub record IsFree (t : Network) (w : ReflectWorld) (s : Step) : Type 0 where
  pub changes : is_unchanged w.config s ≡ false
  pub there : is_empty w s ≡ false
  pub statics : static_refusal t w.config s ≡ None
  pub room : is_targets_full w.config s ≡ false
  pub labels : is_spent t w.config s ≡ false
  pub few : is_full w s ≡ false

holds_not : (b : Bool) (why : Refused) → where_holds b why ≡ None → b ≡ false
holds_not true why h = absurd (let no_cause : Some why ≡ None → ⊥ = (λ e. cc) in no_cause h)
holds_not false why h = refl

pub free : (t : Network) (w : ReflectWorld) (s : Step) → refusal t w s ≡ None → IsFree t w s
free t w s h =
    let one = first_none _ _ h in
    let two = first_none _ _ one.1 in
    let three = first_none _ _ two.1 in
    let four = first_none _ _ three.1 in
    let five = first_none _ _ four.1 in
    let six = first_none _ _ five.1 in
    record {
      changes = holds_not (is_unchanged w.config s) Unchanged one.0;
      there = holds_not (is_empty w s) Empty two.0;
      statics = three.0;
      room = holds_not (is_targets_full w.config s) TargetsFull four.0;
      labels = holds_not (is_spent t w.config s) LabelsSpent five.0;
      few = holds_not (is_full w s) NetFull six.0;
    }

-- 2. What is configured

pub record IsInOrder (t : Network) (c : Config) (l : Labels) : Type 0 where
  pub bounds : IsInBounds t c
  pub forms : HasForms c.statics
  pub statics : HasStatics t c.statics
  pub sets : AreFewAndFormed c
  pub rise : RiseAll c
  pub given : AreGiven t c l

pub starts_in_order : (t : Network) → IsLawful t → IsInOrder t (first_config t) (first_labels t)
starts_in_order t lawful = record {
  bounds = bounds_at t lawful [] [] tt 0 (omega arith);
  forms = first_forms t lawful;
  statics = first_statics t lawful;
  sets = first_sets t lawful;
  rise = starts_risen t lawful;
  given = first_given t lawful;
}

-- with the same counts of attachments
same_given : (t : Network) (c d : Config) (l : Labels) → c.attaches ≡ d.attaches → AreGiven t c l → AreGiven t d l
same_given t c d l e h = record {
  below = λ site k a. subst (λ (f : ℕ → ℕ). l site k < 16 + (length (sites_at t (home_of t site)) + sum (map f (sites_at t (home_of t site))))) e
      (h.below site k (back site k a));
  apart = λ site k other j a b. h.apart site k other j (back site k a) (back other j b);
  fit = h.fit;
}
  where
    back : (site k : ℕ) → IsAttachment t d site k → IsAttachment t c site k
    back site k a = record { there = a.there; first = a.first; given = subst (λ (f : ℕ → ℕ). k ≤ f site + 1) (sym e) a.given }

-- labels change as a site is attached alone
labels_go : (t : Network) (c : Config) (l : Labels) (s : Step) → fits t s ≡ true → is_spent t c s ≡ false → AreGiven t c l →
    AreGiven t (config_after c s) (labels_after t c l s)
labels_go t c l (step.Attach s) fit few h = attaching_given t c l s fit few h
labels_go t c l (step.Detach s) fit few h = same_given t c (config_after c (step.Detach s)) l refl h
labels_go t c l (step.AddRoute s p) fit few h = same_given t c (config_after c (step.AddRoute s p)) l refl h
labels_go t c l (step.DelRoute s p) fit few h = same_given t c (config_after c (step.DelRoute s p)) l refl h
labels_go t c l (step.Import v on x) fit few h = same_given t c (config_after c (step.Import v on x)) l refl h
labels_go t c l (step.Export v on x) fit few h = same_given t c (config_after c (step.Export v on x)) l refl h
labels_go t c l s fit few h = same_given t c (config_after c s) l refl h

fitting : (t : Network) (w : ReflectWorld) (l : Labels) (s : Step) → fits t s ≡ true → IsFree t w s → IsInOrder t w.config l →
    IsInOrder t (config_after w.config s) (labels_after t w.config l s)
fitting t w l s fit f h = record {
  bounds = bounds_go t w.config s fit f.room h.bounds;
  forms = forms_go t (record (start t) { config = w.config }) s fit h.forms;
  statics = statics_by t w.config s f.statics h.statics;
  sets = sets_go t w.config s fit f.room h.sets;
  rise = rises_on t w.config s f.changes h.rise;
  given = labels_go t w.config l s fit f.labels h.given;
}

-- whichever sessions are on
opened_order : (t : Network) (c : Config) (l : Labels) (on : ℕ → ℕ → Bool) → IsInOrder t c l → IsInOrder t (record c { bgp_on = on }) l
opened_order t c l on h = record {
  bounds = record { sites = h.bounds.sites; attached = h.bounds.attached; exports = h.bounds.exports };
  forms = h.forms;
  statics = h.statics;
  sets = h.sets;
  rise = record { imports = h.rise.imports; exports = h.rise.exports };
  given = same_given t c (record c { bgp_on = on }) l refl h.given;
}

pub in_order_goes : (t : Network) (reflectors : List ℕ) (w : ReflectWorld) (l : Labels) (s : Step) → takes t reflectors s ≡ true → IsFree t w s →
    IsInOrder t w.config l → IsInOrder t (config_after w.config s) (labels_after t w.config l s)
in_order_goes t reflectors w l (step.BgpUp a b) is f h = opened_order t w.config l (config_after w.config (step.BgpUp a b)).bgp_on h
in_order_goes t reflectors w l (step.BgpDown a b) is f h = opened_order t w.config l (config_after w.config (step.BgpDown a b)).bgp_on h
in_order_goes t reflectors w l (step.HearBgp a b) is f h = h
in_order_goes t reflectors w l (step.AddRoute s p) is f h = fitting t w l (step.AddRoute s p) is f h
in_order_goes t reflectors w l (step.DelRoute s p) is f h = fitting t w l (step.DelRoute s p) is f h
in_order_goes t reflectors w l (step.Import v on x) is f h = fitting t w l (step.Import v on x) is f h
in_order_goes t reflectors w l (step.Export v on x) is f h = fitting t w l (step.Export v on x) is f h
in_order_goes t reflectors w l (step.Attach s) is f h = fitting t w l (step.Attach s) is f h
in_order_goes t reflectors w l (step.Detach s) is f h = fitting t w l (step.Detach s) is f h
in_order_goes t reflectors w l _ is f h = absurd (no is)

-- 3. What is exported over it

-- an export over an attachment that was made, with targets that can be sent
pub record IsMade (t : Network) (c : Config) (e : Export) : Type 0 where
  pub vrf : e.vrf < length t.vrfs
  pub of_vrf : vrf_of t e.site ≡ e.vrf
  pub attachment : IsAttachment t c e.site e.attachment
  pub formed : IsPrefix e.prefix.address e.prefix.length
  pub targets : IsFewAndFormed e.targets
  pub rise : Rise 0 e.targets

pub made_export : (t : Network) (c : Config) (l : Labels) (edge : ℕ) (e : Export) → IsInOrder t c l → In (exports_of t c edge) e →
    IsMade t c e × (edge_of t e.vrf ≡ edge)
made_export t c l edge e h i =
    let x = is_exported t c edge e h.bounds h.forms i in
    let given = h.bounds.attached e.site e.attachment x.behind.present in (
      record {
        vrf = x.vrf;
        of_vrf = x.behind.of_vrf;
        attachment = record { there = x.behind.site; first = given.0; given = given.1 };
        formed = x.behind.formed;
        targets = subst IsFewAndFormed x.targets (h.sets e.vrf);
        rise = subst (Rise 0) x.targets (h.rise.exports e.vrf);
      },
      x.at_edge,
    )

pub still_made : (t : Network) (c : Config) (s : Step) (e : Export) → IsMade t c e → IsMade t (config_after c s) e
still_made t c s e h = record {
  vrf = h.vrf;
  of_vrf = h.of_vrf;
  attachment =
      record {
        there = h.attachment.there;
        first = h.attachment.first;
        given = (let more = attaches_grow c s e.site in omega (arith, h.attachment.given, more));
      };
  formed = h.formed;
  targets = h.targets;
  rise = h.rise;
}

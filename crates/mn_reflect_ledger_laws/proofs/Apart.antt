-- No two exports of an edge have one name, where no step was refused.
use Rattle.std.proofs.Common.{ℕ, ◌≡◌, true, false, List, [], ◌∷◌, length, Some, None, Option, refl, sym, ◌∙◌, ap}
use Rattle.std.specs.Prelude.{◌==◌, ◌&&◌, not}
use Rattle.mn_base.proofs.Bools.{no}
use Rattle.mn_topo.specs.Network.{Network}
use Rattle.mn_topo.specs.Lawful.{IsLawful}
use Rattle.mn_topo.specs.declared.steps.Step.{Step}
use Rattle.mn_topo.specs.declared.steps.Step.TheVariants as step
use Rattle.mn_ledger.specs.declared.refused.Refused.{Refused}
use Rattle.mn_ledger.specs.Places.{vrf_of}
use Rattle.mn_ledger.specs.World.{Config}
use Rattle.mn_ledger.specs.Exports.{exports_of}
use Rattle.mn_ledger.specs.Ledger.{config_after, is_static}
use Rattle.mn_ledger.specs.Refusal.{taken_by, static_refusal, first_cause}
use Rattle.mn_ledger.proofs.Statics.{SameStatic, HasStatics, first_statics, not_taken, none_taken}
use Rattle.mn_ledger.proofs.Members.{in_contained, apart_filter, apart_push}
use Rattle.mn_settled_laws.proofs.Changes.{exports-different}
use Rattle.mn_reflect_ledger_laws.specs.Words.{key_of}
use Rattle.mn_reflect_ledger_laws.specs.Picks.{ReflectWorld, plain}
use Rattle.mn_reflect_ledger_laws.specs.World.{after, start, world_from, world_of}
use Rattle.mn_reflect_ledger_laws.specs.Refusal.{refusal, is_empty, is_full}
use Rattle.mn_ledger.specs.Refusal.{is_unchanged, is_targets_full, is_spent, where_holds}
use Rattle.mn_ledger.specs.declared.refused.Refused.TheVariants.{Unchanged, Empty, TargetsFull, LabelsSpent, NetFull}
use Rattle.mn_reflect_ledger_laws.specs.Holding.{AreApart, AreDoneFrom, AreDone}
use Rattle.mn_reflect_ledger_laws.proofs.Mentions.{same_keys}

pub first_none : (one : Option Refused) (more : List (Option Refused)) → first_cause (one ∷ more) ≡ None → (one ≡ None) × (first_cause more ≡ None)
first_none None more h = (refl, h)
first_none (Some why) more h = absurd (no (sym (ap (λ o. elim o [ None ↦ false | Some z ↦ true ]) h)))

pub statics_by : (t : Network) (c : Config) (s : Step) → static_refusal t c s ≡ None → HasStatics t c.statics → HasStatics t (config_after c s).statics
statics_by t c (step.AddRoute s p) none h = record {
  apart = apart_push (SameStatic t) c.statics (record { site = s.0; prefix = p }) h.apart
      (λ x j a. none_taken t (vrf_of t s.0) p c.statics (not_taken (taken_by t (vrf_of t s.0) p c.statics) (length c.statics) none) x j a.0 a.1);
}
statics_by t c (step.DelRoute s p) none h = record { apart = apart_filter (SameStatic t) (λ static. not (is_static s.0 p static)) c.statics h.apart }
statics_by t c _ none h = h

third_none : (one two three : Option Refused) (more : List (Option Refused)) → first_cause (one ∷ two ∷ three ∷ more) ≡ None → three ≡ None
third_none one two three more h = (first_none three more (first_none two (three ∷ more) (first_none one (two ∷ three ∷ more) h).1).1).0

pub static_free : (t : Network) (world : ReflectWorld) (done : Step) → refusal t world done ≡ None → static_refusal t world.config done ≡ None
static_free t world done h = third_none (where_holds (is_unchanged world.config done) Unchanged) (where_holds (is_empty world done) Empty)
    (static_refusal t world.config done)
    (where_holds (is_targets_full world.config done) TargetsFull ∷ where_holds (is_spent t world.config done) LabelsSpent ∷ where_holds
    (is_full world done) NetFull ∷ []) h

pub statics_from : (t : Network) (reflectors : List ℕ) (world : ReflectWorld) (steps : List Step) → AreDoneFrom t reflectors world steps →
    HasStatics t world.config.statics →
    HasStatics t (world_from t reflectors world steps).config.statics
statics_from t reflectors world [] d h = h
statics_from t reflectors world (done ∷ steps) d h =
    statics_from t reflectors (after t reflectors world done) steps d.1
    (statics_by t world.config done (static_free t world done d.0) h)

pub are_apart : (t : Network) (reflectors : List ℕ) (steps : List Step) → IsLawful t → AreDone t reflectors steps →
    AreApart t (world_of t reflectors steps).config
are_apart t reflectors steps lawful d edge one other i j same =
    let statics = statics_from t reflectors (start t) steps d (first_statics t lawful) in
    let keys = same_keys (key_of (plain one)) (key_of (plain other)) same in
    exports-different t (world_of t reflectors steps).config edge statics one other (in_contained (exports_of t
    (world_of t reflectors steps).config edge) one i)
    (in_contained (exports_of t (world_of t reflectors steps).config edge) other j) (ap (λ k. k.vrf) keys, ap (λ k. k.prefix) keys)

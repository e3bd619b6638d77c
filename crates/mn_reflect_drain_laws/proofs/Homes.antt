-- Each route that is announced is of a VRF whose edge is no reflector, in every run.
use Rattle.std.proofs.Common.{ℕ, ◌≡◌, inl, inr, Bool, true, false, List, [], ◌∷◌, ◌++◌, map, Some, None, Option}
use Rattle.std.proofs.Common.{refl, sym, ◌∙◌, ap, subst}
use Rattle.std.specs.Prelude.{not, if◌then◌else◌}
use Rattle.std.specs.List.{flat_map}
use Rattle.mn_base.proofs.Bools.{no, two_ways}
use Rattle.mn_base.proofs.Members.{In, in_append, in_filter, in_map, in_flat_map}
use Rattle.mn_wiring.specs.Wiring.{nodes_of}
use Rattle.mn_topo.specs.Network.{Network, wiring_of}
use Rattle.mn_topo.specs.VrfTable.{is_edge}
use Rattle.mn_topo.specs.declared.steps.Step.{Step}
use Rattle.mn_topo.specs.declared.steps.Step.TheVariants as step
use Rattle.mn_ledger.specs.Places.{edge_of}
use Rattle.mn_ledger.specs.Exports.{exports_of}
use Rattle.mn_ledger.specs.Tables.{put_pair}
use Rattle.mn_reflect_ledger_laws.specs.Words.{Key, Offer, Word, Announce, key_of, keys_in}
use Rattle.mn_reflect_ledger_laws.specs.Picks.{Spoken, ReflectWorld, is_reflector, plain, known_keys}
use Rattle.mn_reflect_ledger_laws.specs.World.{is_between, first_word, restarted, heard_one, counted, unsaid, said_in, after, start, world_from, world_of}
use Rattle.mn_reflect_ledger_laws.specs.Quiet.{AreReflectors, NamesNodes, AreReflected}
use Rattle.mn_reflect_ledger_laws.proofs.Holding.{at_its_edge, is_an_edge}
use Rattle.mn_reflect_ledger_laws.proofs.Mentions.{IsNamed}
use Rattle.mn_reflect_ledger_laws.proofs.Offering.{IsWithin, named_offer, offered_known}
use Rattle.mn_reflect_ledger_laws.proofs.Runs.{IsRun, step_runs, start_runs}
use Rattle.mn_reflect_ledger_laws.proofs.Through.{put_in, first_in, in_without}
use Rattle.mn_reflect_drain_laws.proofs.Said.{announced_in, said_is}

module _ (topology : Network) (reflectors : List ℕ) (are : AreReflectors topology reflectors) where
  abbrev pub IsHome : Key → Type 0
  IsHome key = is_reflector reflectors (edge_of topology key.vrf) ≡ false

  pub record AreHome (world : ReflectWorld) : Type 0 where
    pub heard : (node peer : ℕ) (x : Offer) → In (world.heard node peer) (Announce x) → IsHome (key_of x)
    pub flying : (s : Spoken) (x : Offer) → In world.flying s → s.word ≡ Announce x → IsHome (key_of x)

  edge_is_home : (key : Key) → is_edge topology.vrfs (edge_of topology key.vrf) ≡ true → IsHome key
  edge_is_home key h = elim (two_ways (is_reflector reflectors (edge_of topology key.vrf))) [
    | inl e ↦ absurd (no (sym (are.no_edges (edge_of topology key.vrf) e) ∙ h))
    | inr e ↦ e
  ]

  -- what a node knows is of such VRFs
  pub known_home : (world : ReflectWorld) → ((node peer : ℕ) (x : Offer) → In (world.heard node peer) (Announce x) → IsHome (key_of x)) →
      (node : ℕ) (key : Key) → In (known_keys topology reflectors world node) key → IsHome key
  known_home world heard node key i = by (is_reflector reflectors node) i
    where
      by : (b : Bool) → In (if b then flat_map (λ peer. keys_in (world.heard node peer)) (nodes_of (wiring_of topology))
          else map key_of (map plain (exports_of topology world.config node))) key → IsHome key
      by true j =
          let m = in_flat_map (λ peer. keys_in (world.heard node peer)) (nodes_of (wiring_of topology)) key j in
          let x = announced_in (world.heard node m.0) key m.2 in
          subst IsHome x.2 (heard node m.0 x.0 x.1)
      by false j =
          let m = in_map key_of (map plain (exports_of topology world.config node)) key j in
          let e = in_map plain (exports_of topology world.config node) m.0 m.1 in
          subst IsHome (ap key_of e.2 ∙ m.2)
          (edge_is_home (key_of (plain e.0)) (is_an_edge topology e.0.vrf (at_its_edge topology world.config node e.0 e.1).0))

  restart_keeps : (world : ReflectWorld) (a b : ℕ) → AreHome world → AreHome (restarted world a b)
  restart_keeps world a b all = record {
    heard = λ n p x i. elim (put_in (put_pair world.heard a b []) b a [] n p (Announce x) i) [
      | inl h ↦ absurd h.2
      | inr j ↦ elim (put_in world.heard a b [] n p (Announce x) j) [ inl h ↦ absurd h.2 | inr k ↦ all.heard n p x k ]
    ];
    flying = λ s x i e. all.flying s x (in_filter (λ spoken. not (is_between a b spoken)) world.flying s i).0 e;
  }

  hearing_keeps : (world : ReflectWorld) (from to : ℕ) (o : Option Word) → first_word from to world.flying ≡ o → AreHome world →
      AreHome (heard_one world from to o)
  hearing_keeps world from to None e all = all
  hearing_keeps world from to (Some word) e all = record {
    heard = λ n p x i. elim (put_in world.heard to from (world.heard to from ++ word ∷ []) n p (Announce x) i) [
      | inl h ↦ elim (in_append (world.heard to from) (word ∷ []) (Announce x) h.2) [
        | inl j ↦ all.heard to from x j
        | inr j ↦ new x (elim j [ inl q ↦ q | inr k ↦ absurd k ])
      ]
      | inr j ↦ all.heard n p x j
    ];
    flying = λ s x i q. all.flying s x (in_without topology reflectors are from to world.flying s i) q;
  }
    where
      new : (x : Offer) → word ≡ Announce x → IsHome (key_of x)
      new x q = let f = first_in topology reflectors are from to world.flying word e in all.flying f.0 x f.1 (f.4 ∙ q)

  counted_keeps : (world : ReflectWorld) (done : Step) → AreHome world → AreHome (counted world done)
  counted_keeps world (step.BgpUp a b) all = restart_keeps world a.0 b.0 all
  counted_keeps world (step.BgpDown a b) all = restart_keeps world a.0 b.0 all
  counted_keeps world (step.HearBgp a b) all = hearing_keeps world a.0 b.0 (first_word a.0 b.0 world.flying) refl all
  counted_keeps world _ all = all

  pub step_home : (world : ReflectWorld) (done : Step) → NamesNodes topology done → IsWithin topology (unsaid world done) → AreHome world →
      AreHome (after topology reflectors world done)
  step_home world done names within all =
      let kept : AreHome (counted world done) = counted_keeps world done all in
      let new : ReflectWorld = unsaid world done in
      record {
        heard = kept.heard;
        flying = λ s x i e. elim (in_append new.flying (said_in topology reflectors world new done) s i) [
          | inl j ↦ kept.flying s x j e
          | inr j ↦
              let is = said_is topology reflectors world new done names s x j e in
              subst IsHome (sym (subst (IsNamed is.1.0) is.1.1 (named_offer topology reflectors new s.from s.to is.1.0)))
              (known_home new kept.heard s.from is.1.0 (offered_known topology reflectors new within s.from s.to is.1.0 x is.1.1))
        ];
      }

  home_from : (world : ReflectWorld) (steps : List Step) → AreReflected topology steps → IsRun topology reflectors world → AreHome world →
      AreHome (world_from topology reflectors world steps)
  home_from world [] h run all = all
  home_from world (done ∷ steps) h run all =
      let next : IsRun topology reflectors (after topology reflectors world done) = step_runs topology reflectors world run done h.0 in
      home_from (after topology reflectors world done) steps h.1 next (step_home world done h.0 next.within all)

  pub every_home : (steps : List Step) → AreReflected topology steps → AreHome (world_of topology reflectors steps)
  every_home steps h =
      home_from (start topology) steps h (start_runs topology reflectors)
      (record { heard = λ n p x i. absurd i; flying = λ s x i e. absurd i })

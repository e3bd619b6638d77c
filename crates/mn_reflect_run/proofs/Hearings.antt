-- What flies does so between two nodes that may have a session, and nothing refuses that it is received.
use Rattle.std.proofs.Common.{ℕ, ◌≡◌, inl, inr, Bool, true, false, cond, List, [], ◌∷◌, flat_map, Option, Some, None, refl, sym, ◌∙◌, ap, subst}
use Rattle.std.specs.Prelude.{◌==◌, ◌&&◌, ◌||◌, not, nat_lt, if◌then◌else◌, is_none}
use Rattle.mn_base.proofs.Bools.{no, and_on, and_left, test_same, same_numbers}
use Rattle.mn_base.proofs.Members.{In, in_append, in_filter, in_flat_map, in_map}
use Rattle.mn_wiring.specs.Wiring.{nodes_of}
use Rattle.mn_topo.specs.Network.{Network, wiring_of}
use Rattle.mn_topo.specs.VrfTable.{is_edge}
use Rattle.mn_topo.specs.declared.steps.Step.{Step}
use Rattle.mn_topo.specs.declared.steps.Step.TheVariants as step
use Rattle.mn_ledger.specs.World.{Config}
use Rattle.mn_ledger.specs.Tables.{put_pair}
use Rattle.mn_ledger.specs.Ledger.{config_after}
use Rattle.mn_ledger.specs.Bgp.{peers_live}
use Rattle.mn_ledger.specs.Refusal.{first_cause, where_holds}
use Rattle.mn_ledger.specs.declared.refused.Refused.{Refused}
use Rattle.mn_ledger.specs.declared.refused.Refused.TheVariants as cause
use Rattle.mn_reflect_ledger_laws.specs.Words.{Key, Word, Open, change}
use Rattle.mn_reflect_ledger_laws.specs.Picks.{Spoken, ReflectWorld, is_established, is_reflector, offered}
use Rattle.mn_reflect_ledger_laws.specs.World.{start, is_from_to, is_between, first_word, without_first, says, heard_one, counted, unsaid, replies, is_steady}
use Rattle.mn_reflect_ledger_laws.specs.World.{news_of, news, said_in, after, world_from, world_of}
use Rattle.mn_reflect_ledger_laws.specs.Refusal.{refusal}
use Rattle.mn_reflect_world_laws.specs.Steps.{may_peer, takes, AreTaken, first_hearing}

module _ (topology : Network) (reflectors : List ℕ) where
  -- the one may peer with the other where that may with it
  turned : (a b : ℕ) → may_peer topology reflectors a b ≡ true → may_peer topology reflectors b a ≡ true
  turned a b h =
      by (a == b) (b == a) (same_both a b) (is_reflector reflectors a) (is_reflector reflectors b) (is_edge topology.vrfs a) (is_edge topology.vrfs b) h
    where
      same_both : (x y : ℕ) → (y == x) ≡ true → (x == y) ≡ true
      same_both x y e = test_same x y (sym (same_numbers y x e))

      by : (s t : Bool) → (t ≡ true → s ≡ true) → (ra rb ea eb : Bool) → (not s && ((ra && (rb || eb)) || (rb && ea))) ≡ true →
          (not t && ((rb && (ra || ea)) || (ra && eb))) ≡ true
      by true t f ra rb ea eb h = absurd (no h)
      by false true f ra rb ea eb h = absurd (no (f refl))
      by false false f true true ea eb h = refl
      by false false f true false ea true h = refl
      by false false f true false ea false h = absurd (no h)
      by false false f false true true eb h = refl
      by false false f false true false eb h = absurd (no h)
      by false false f false false ea eb h = absurd (no h)

  pub record MayAll (world : ReflectWorld) : Type 0 where
    pub live : (a b : ℕ) → world.config.bgp_on a b ≡ true → may_peer topology reflectors a b ≡ true
    pub flies : (spoken : Spoken) → In world.flying spoken → may_peer topology reflectors spoken.from spoken.to ≡ true

  pub live_peers : (config : Config) → ((a b : ℕ) → config.bgp_on a b ≡ true → may_peer topology reflectors a b ≡ true) →
      (n p : ℕ) → peers_live config n p ≡ true → may_peer topology reflectors n p ≡ true
  live_peers config live n p = by (nat_lt n p)
    where
      by : (b : Bool) → (if b then config.bgp_on n p else config.bgp_on p n) ≡ true → may_peer topology reflectors n p ≡ true
      by true h = live n p h
      by false h = turned p n (live p n h)

  -- a pair that is set to be live, or not, and all others as before
  set_pair : (on : ℕ → ℕ → Bool) (k m : ℕ) (up : Bool) → (up ≡ true → may_peer topology reflectors k m ≡ true) →
      ((a b : ℕ) → on a b ≡ true → may_peer topology reflectors a b ≡ true) → (a b : ℕ) → put_pair on k m up a b ≡ true →
      may_peer topology reflectors a b ≡ true
  set_pair on k m up may live a b h = by (a == k) refl h
    where
      in_row : (y : Bool) → (b == m) ≡ y → cond y up (on k b) ≡ true → may_peer topology reflectors k b ≡ true
      in_row true f h = subst (λ j. may_peer topology reflectors k j ≡ true) (sym (same_numbers b m f)) (may h)
      in_row false f h = live k b h

      by : (x : Bool) → (a == k) ≡ x → cond x (λ other. cond (other == m) up (on k other)) (on a) b ≡ true → may_peer topology reflectors a b ≡ true
      by true e h = subst (λ i. may_peer topology reflectors i b ≡ true) (sym (same_numbers a k e)) (in_row (b == m) refl h)
      by false e h = live a b h

  live_after : (config : Config) (done : Step) → takes topology reflectors done ≡ true →
      ((a b : ℕ) → config.bgp_on a b ≡ true → may_peer topology reflectors a b ≡ true) →
      (a b : ℕ) → (config_after config done).bgp_on a b ≡ true → may_peer topology reflectors a b ≡ true
  live_after config (step.BgpUp a b) t live = set_pair config.bgp_on a.0 b.0 true (λ e. and_left _ _ t) live
  live_after config (step.BgpDown a b) t live = set_pair config.bgp_on a.0 b.0 false (λ e. absurd (no e)) live
  live_after config (step.HearBgp a b) t live = live
  live_after config (step.AddRoute s prefix) t live = live
  live_after config (step.DelRoute s prefix) t live = live
  live_after config (step.Import v on target) t live = live
  live_after config (step.Export v on target) t live = live
  live_after config (step.Attach s) t live = live
  live_after config (step.Detach s) t live = live
  live_after config (step.LinkUp l) t live = absurd (no t)
  live_after config (step.LinkDown l) t live = absurd (no t)
  live_after config (step.Learn n l) t live = absurd (no t)
  live_after config (step.LdpAdmin l on) t live = absurd (no t)
  live_after config (step.HearLdp l dir) t live = absurd (no t)
  live_after config (step.Inject s number) t live = absurd (no t)
  live_after config (step.Carry l dir place) t live = absurd (no t)
  live_after config (step.Lose l dir place) t live = absurd (no t)
  live_after config (step.Tick ticks) t live = absurd (no t)

  -- what flies still, before anything is sent, flew
  without_in : (from to : ℕ) (flying : List Spoken) (spoken : Spoken) → In (without_first from to flying) spoken → In flying spoken
  without_in from to [] spoken i = i
  without_in from to (x ∷ more) spoken i = by (is_from_to from to x) i (λ j. without_in from to more spoken j)
    where
      by : (b : Bool) → In (cond b more (x ∷ without_first from to more)) spoken → (In (without_first from to more) spoken → In more spoken) →
          In (x ∷ more) spoken
      by true i rest = inr i
      by false (inl e) rest = inl e
      by false (inr j) rest = inr (rest j)

  heard_in : (world : ReflectWorld) (from to : ℕ) (o : Option Word) (spoken : Spoken) → In (heard_one world from to o).flying spoken → In world.flying spoken
  heard_in world from to None spoken i = i
  heard_in world from to (Some word) spoken i = without_in from to world.flying spoken i

  still_in : (world : ReflectWorld) (done : Step) (spoken : Spoken) → In (counted world done).flying spoken → In world.flying spoken
  still_in world (step.BgpUp a b) spoken i = (in_filter (λ s. not (is_between a.0 b.0 s)) world.flying spoken i).0
  still_in world (step.BgpDown a b) spoken i = (in_filter (λ s. not (is_between a.0 b.0 s)) world.flying spoken i).0
  still_in world (step.HearBgp a b) spoken i = heard_in world a.0 b.0 (first_word a.0 b.0 world.flying) spoken i
  still_in world (step.AddRoute s prefix) spoken i = i
  still_in world (step.DelRoute s prefix) spoken i = i
  still_in world (step.Import v on target) spoken i = i
  still_in world (step.Export v on target) spoken i = i
  still_in world (step.Attach s) spoken i = i
  still_in world (step.Detach s) spoken i = i
  still_in world (step.LinkUp l) spoken i = i
  still_in world (step.LinkDown l) spoken i = i
  still_in world (step.Learn n l) spoken i = i
  still_in world (step.LdpAdmin l on) spoken i = i
  still_in world (step.HearLdp l dir) spoken i = i
  still_in world (step.Inject s number) spoken i = i
  still_in world (step.Carry l dir place) spoken i = i
  still_in world (step.Lose l dir place) spoken i = i
  still_in world (step.Tick ticks) spoken i = i

  -- what one node says to another
  said_by : (from to : ℕ) (words : List Word) (spoken : Spoken) → may_peer topology reflectors from to ≡ true → In (says from to words) spoken →
      may_peer topology reflectors spoken.from spoken.to ≡ true
  said_by from to words spoken may i =
      let word = in_map (λ word. record { from = from; to = to; word = word }) words spoken i in
      subst (λ (s : Spoken). may_peer topology reflectors s.from s.to ≡ true) word.2 may

  replied : (world new : ReflectWorld) (done : Step) → takes topology reflectors done ≡ true → (spoken : Spoken) →
      In (replies topology reflectors world new done) spoken → may_peer topology reflectors spoken.from spoken.to ≡ true
  replied world new (step.BgpUp a b) t spoken i = elim (in_append (says a.0 b.0 (Open ∷ [])) (says b.0 a.0 (Open ∷ [])) spoken i) [
    | inl j ↦ said_by a.0 b.0 (Open ∷ []) spoken (and_left _ _ t) j
    | inr j ↦ said_by b.0 a.0 (Open ∷ []) spoken (turned a.0 b.0 (and_left _ _ t)) j
  ]
  replied world new (step.HearBgp a b) t spoken i = said_by b.0 a.0 _ spoken (turned a.0 b.0 t) i
  replied world new (step.BgpDown a b) t spoken i = absurd i
  replied world new (step.AddRoute s prefix) t spoken i = absurd i
  replied world new (step.DelRoute s prefix) t spoken i = absurd i
  replied world new (step.Import v on target) t spoken i = absurd i
  replied world new (step.Export v on target) t spoken i = absurd i
  replied world new (step.Attach s) t spoken i = absurd i
  replied world new (step.Detach s) t spoken i = absurd i
  replied world new (step.LinkUp l) t spoken i = absurd i
  replied world new (step.LinkDown l) t spoken i = absurd i
  replied world new (step.Learn n l) t spoken i = absurd i
  replied world new (step.LdpAdmin l on) t spoken i = absurd i
  replied world new (step.HearLdp l dir) t spoken i = absurd i
  replied world new (step.Inject s number) t spoken i = absurd i
  replied world new (step.Carry l dir place) t spoken i = absurd i
  replied world new (step.Lose l dir place) t spoken i = absurd i
  replied world new (step.Tick ticks) t spoken i = absurd i

  told_of_one : (world new : ReflectWorld) (node : ℕ) (key : Key) (peer : ℕ) (spoken : Spoken) → MayAll world →
      In (news_of topology reflectors world new node key peer) spoken → may_peer topology reflectors spoken.from spoken.to ≡ true
  told_of_one world new node key peer spoken all i = by (is_steady world new node peer) refl i
    where
      words : List Word
      words = change key (offered topology reflectors world node peer key) (offered topology reflectors new node peer key)

      by : (b : Bool) → is_steady world new node peer ≡ b → In (cond b (says node peer words) []) spoken →
          may_peer topology reflectors spoken.from spoken.to ≡ true
      by true e i =
          said_by node peer words spoken
          (live_peers world.config all.live node peer (and_left (peers_live world.config node peer) _ (and_left (is_established world node peer) _ e))) i
      by false e i = absurd i

  said_all : (world new : ReflectWorld) (done : Step) → takes topology reflectors done ≡ true → MayAll world → (spoken : Spoken) →
      In (said_in topology reflectors world new done) spoken → may_peer topology reflectors spoken.from spoken.to ≡ true
  said_all world new done t all spoken i = elim (in_append (replies topology reflectors world new done) _ spoken i) [
    | inl j ↦ replied world new done t spoken j
    | inr j ↦
        let node = in_flat_map (news topology reflectors world new) (nodes_of (wiring_of topology)) spoken j in
        let key = in_flat_map (λ key. flat_map (news_of topology reflectors world new node.0 key) (nodes_of (wiring_of topology))) _ spoken node.2 in
        let peer = in_flat_map (news_of topology reflectors world new node.0 key.0) (nodes_of (wiring_of topology)) spoken key.2 in
        told_of_one world new node.0 key.0 peer.0 spoken all peer.2
  ]

  may_after : (world : ReflectWorld) (done : Step) → takes topology reflectors done ≡ true → MayAll world → MayAll (after topology reflectors world done)
  may_after world done t all = record {
    live = live_after world.config done t all.live;
    flies = λ spoken i. elim (in_append (unsaid world done).flying (said_in topology reflectors world (unsaid world done) done) spoken i) [
      | inl j ↦ all.flies spoken (still_in world done spoken j)
      | inr j ↦ said_all world (unsaid world done) done t all spoken j
    ];
  }

  may_from : (steps : List Step) (world : ReflectWorld) → AreTaken topology reflectors steps → MayAll world →
      MayAll (world_from topology reflectors world steps)
  may_from [] world t all = all
  may_from (done ∷ steps) world t all = may_from steps (after topology reflectors world done) t.1 (may_after world done t.0 all)

  pub may_all : (steps : List Step) → AreTaken topology reflectors steps → MayAll (world_of topology reflectors steps)
  may_all steps t = may_from steps (start topology) t (record { live = λ a b h. absurd (no h); flies = λ spoken i. absurd i })

  -- the message that was sent first of all may be received
  pub hearing_takes : (flying : List Spoken) (hearing : Step) →
      ((spoken : Spoken) → In flying spoken → may_peer topology reflectors spoken.from spoken.to ≡ true) →
      first_hearing flying ≡ Some hearing → takes topology reflectors hearing ≡ true
  hearing_takes [] hearing may e = cc
  hearing_takes (spoken ∷ more) hearing may e =
      subst (λ (o : Option Step). takes_of o ≡ true) e (may spoken (inl refl))
    where
      takes_of : Option Step → Bool
      takes_of (Some done) = takes topology reflectors done
      takes_of None = true

  -- what was sent first of all is the first from the one to the other
  pub first_flies : (spoken : Spoken) (more : List Spoken) → first_word spoken.from spoken.to (spoken ∷ more) ≡ Some spoken.word
  first_flies spoken more = ap (λ b. cond b (Some spoken.word) (first_word spoken.from spoken.to more))
      (and_on (spoken.from == spoken.from) (spoken.to == spoken.to) (test_same spoken.from spoken.from refl) (test_same spoken.to spoken.to refl))

  pub hearing_flies : (world : ReflectWorld) (hearing : Step) → first_hearing world.flying ≡ Some hearing → refusal topology world hearing ≡ None
  hearing_flies world hearing e = by world.flying refl e
    where
      by : (flying : List Spoken) → world.flying ≡ flying → first_hearing flying ≡ Some hearing → refusal topology world hearing ≡ None
      by [] is e = cc
      by (spoken ∷ more) is e =
          let word : first_word spoken.from spoken.to world.flying ≡ Some spoken.word = ap (first_word spoken.from spoken.to) is ∙ first_flies spoken more in
          subst unrefused e (ap causes word)
        where
          unrefused : Option Step → Type 0
          unrefused (Some done) = refusal topology world done ≡ None
          unrefused None = Unit {0}

          causes : Option Word → Option Refused
          causes o =
              first_cause (where_holds false cause.Unchanged ∷ where_holds (is_none o) cause.Empty ∷ None ∷ where_holds false cause.TargetsFull
              ∷ where_holds false cause.LabelsSpent ∷ where_holds false cause.NetFull ∷ [])

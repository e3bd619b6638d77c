-- What is known of the word that is received, and of what is kept.
use Rattle.std.proofs.Common.{ℕ, zero, suc, ◌≡◌, ◌≢◌, ◌<◌, ◌≤◌, inl, inr, Bool, true, false, List, [], ◌∷◌, length, Some, None}
use Rattle.std.proofs.Common.{refl, arith, sym, ◌∙◌, ap, subst}
use Rattle.std.specs.Prelude.{nat_lt, if◌then◌else◌, option_map, slice_index_or}
use Rattle.std.proofs.lemmas.Bool.{and_parts}
use Rattle.mn_base.specs.Numbers.{has_rd_form}
use Rattle.mn_base.specs.declared.numbers.NodeNo.{NodeNo}
use Rattle.mn_base.specs.declared.numbers.Rt.{Rt}
use Rattle.mn_base.proofs.Members.{In, in_front, in_rest, in_map, contained_in}
use Rattle.mn_states.specs.declared.states.BgpState.TheVariants.{Established}
use Rattle.mn_topo.specs.Network.{Network}
use Rattle.mn_topo.specs.Lawful.{IsLawful, is_vrf_of}
use Rattle.mn_topo.specs.declared.steps.Step.{Step}
use Rattle.mn_vpn_nlri.specs.Grammar.{AllTargets}
use Rattle.mn_ledger.specs.Places.{vrf_at, edge_of}
use Rattle.mn_ledger.specs.World.{Config}
use Rattle.mn_ledger.specs.Bgp.{peers_live, state_heard}
use Rattle.mn_ledger.proofs.Order.{EachBefore, pairs}
use Rattle.mn_ledger.proofs.Tidy.{Rise}
use Rattle.mn_ledger_laws.proofs.There.{at_all}
use Rattle.mn_bgp_spelling_laws.specs.Spelling.{Labels, as_targets}
use Rattle.mn_bgp_spelling_laws.proofs.Writable.{AreOfForm}
use Rattle.mn_offers.specs.Heard.{Heard}
use Rattle.mn_mail.specs.Mail as mail
use Rattle.mn_reflect_ledger_laws.specs.Words.{Offer, Word, Open, KeepAlive, Announce, Withdraw}
use Rattle.mn_reflect_ledger_laws.specs.Picks.{ReflectWorld, is_reflector}
use Rattle.mn_reflect_ledger_laws.specs.World.{first_word, words_to, world_of}
use Rattle.mn_reflect_ledger_laws.specs.Quiet.{told}
use Rattle.mn_reflect_ledger_laws.specs.Through.{AreOneOrTwo, ComesThrough}
use Rattle.mn_reflect_ledger_laws.proofs.Steps.{first_said}
use Rattle.mn_reflect_ledger_laws.proofs.Through.{comes_through}
use Rattle.mn_reflect_world_laws.specs.Labels.{labels_of}
use Rattle.mn_reflect_world_laws.specs.Kept.{route_in, kept_in}
use Rattle.mn_reflect_world_laws.specs.Spelling.{letter_in}
use Rattle.mn_reflect_world_laws.specs.Now.{ReflectNow, session_in, IsReflect}
use Rattle.mn_reflect_world_laws.specs.Steps.{may_peer, IsLawfulRun}
use Rattle.mn_reflect_world_laws.specs.Choice.{row_at}
use Rattle.mn_reflect_world_laws.specs.Goes.{end_in}
use Rattle.mn_reflect_world_laws.specs.Known.{IsSayableRoute, IsSayableWord, state_of_word, HasClusters, IsHeardInTurn}
use Rattle.mn_reflect_world_laws.proofs.Letters.{are_words}
use Rattle.mn_reflect_world_laws.proofs.Given.{AreGiven}
use Rattle.mn_reflect_world_laws.proofs.Config.{IsMade}
use Rattle.mn_reflect_world_laws.proofs.Run.{IsRest, rests, peers_there}
use Rattle.mn_reflect_world_laws.proofs.Said.{IsGood, first_in}
use Rattle.mn_reflect_world_laws.proofs.Talk.{IsMention}
use Rattle.mn_reflect_world_laws.proofs.Turn.{InTurn, Opens, Keeps, Tells, hearer_lives, turn_is}
use Rattle.mn_reflect_world_laws.proofs.Names.{kept_from}
use Rattle.mn_reflect_world_laws.proofs.Rows.{table_at}
use Rattle.mn_reflect_world_laws.proofs.Same.{row_is}

-- 1. Routes that can be sent

rise_each : (low : ℕ) (xs : List ℕ) → Rise low xs → EachBefore (λ (x y : Rt). x.0 < y.0) (as_targets xs)
rise_each low [] h = tt
rise_each low (x ∷ xs) h = (
  (λ y i. let m = in_map (λ target. let r : Rt = record { 0 = target } in r) xs y i in
      subst (λ (z : Rt). x < z.0) m.2 (least (suc x) xs m.0 h.1 m.1)),
  rise_each (suc x) xs h.1,
)
  where
    least : (low : ℕ) (xs : List ℕ) (y : ℕ) → Rise low xs → In xs y → low ≤ y
    least low [] y h i = absurd i
    least low (x ∷ xs) y h i = elim i [
      | inl e ↦ subst (λ n. low ≤ n) e h.0
      | inr j ↦ (let more : suc x ≤ y = least (suc x) xs y h.1 j in let first : low ≤ x = h.0 in omega (arith, more, first))
    ]

formed_targets : (xs : List ℕ) → AreOfForm xs → AllTargets (as_targets xs)
formed_targets [] h = tt
formed_targets (x ∷ xs) h = (h.0, formed_targets xs h.1)

as_many : (xs : List ℕ) → length (as_targets xs) ≡ length xs
as_many [] = refl
as_many (x ∷ xs) = ap suc (as_many xs)

pub made_sayable : (t : Network) (c : Config) (l : Labels) → IsLawful t → AreGiven t c l → (x : Offer) → IsMade t c x.export → length x.clusters ≤ 2 →
    IsSayableRoute t (route_in l x)
made_sayable t c l lawful given x made near = record {
  vrf = made.vrf;
  distinguisher =
      (and_parts (nat_lt (edge_of t x.export.vrf) (length t.loopbacks)) (has_rd_form (vrf_at t x.export.vrf).rd.0)
      (at_all (is_vrf_of (length t.loopbacks)) t.vrfs x.export.vrf _ lawful.vrfs.formed made.vrf)).1;
  prefix = made.formed;
  label = given.fit x.export.site x.export.attachment;
  ascending = pairs (λ (a b : Rt). a.0 < b.0) (as_targets x.export.targets) (rise_each 0 x.export.targets made.rise);
  targets = formed_targets x.export.targets made.targets.1;
  few = (let few : length x.export.targets ≤ 16 = made.targets.0 in let same = as_many x.export.targets in omega (arith, few, same));
  near = near;
}

-- 2. Clusters

two_at_most : (t : Network) (reflectors : List ℕ) (n p : ℕ) (x : Offer) → ComesThrough t reflectors n p x → length x.clusters ≤ 2
two_at_most t reflectors n p x h = by (is_reflector reflectors n) refl (is_reflector reflectors p) refl
  where
    one_or_two : AreOneOrTwo t reflectors n x.clusters → length x.clusters ≤ 2
    one_or_two (inl e) = subst (λ cs. length cs ≤ 2) (sym e) (omega arith)
    one_or_two (inr e) = subst (λ cs. length cs ≤ 2) (sym e.3) (omega arith)

    by : (a : Bool) → is_reflector reflectors n ≡ a → (b : Bool) → is_reflector reflectors p ≡ b → length x.clusters ≤ 2
    by false f b g = subst (λ cs. length cs ≤ 2) (sym (h.of_an_edge f)) (omega arith)
    by true f true g = subst (λ cs. length cs ≤ 2) (sym (h.to_a_reflector f g)) (omega arith)
    by true f false g = one_or_two (h.to_an_edge f g)

one_at_least : (t : Network) (reflectors : List ℕ) (n p : ℕ) (x : Offer) → ComesThrough t reflectors n p x → is_reflector reflectors n ≡ true →
    1 ≤ length x.clusters
one_at_least t reflectors n p x h f = by (is_reflector reflectors p) refl
  where
    one_or_two : AreOneOrTwo t reflectors n x.clusters → 1 ≤ length x.clusters
    one_or_two (inl e) = subst (λ cs. 1 ≤ length cs) (sym e) (omega arith)
    one_or_two (inr e) = subst (λ cs. 1 ≤ length cs) (sym e.3) (omega arith)

    by : (b : Bool) → is_reflector reflectors p ≡ b → 1 ≤ length x.clusters
    by true g = subst (λ cs. 1 ≤ length cs) (sym (h.to_a_reflector f g)) (omega arith)
    by false g = one_or_two (h.to_an_edge f g)

-- 3. What is kept, and the word that is received

module _ (t : Network) (reflectors : List ℕ) (steps : List Step) (now : ReflectNow) (run : IsLawfulRun t reflectors steps)
    (stands : IsReflect t reflectors steps now) where
  abbrev w : ReflectWorld
  w = world_of t reflectors steps

  abbrev l : Labels
  l = labels_of t steps

  rest : IsRest t reflectors w l
  rest = rests t reflectors steps run

  through : (n p : ℕ) (x : Offer) → In (w.heard n p) (Announce x) → ComesThrough t reflectors p n x
  through n p x i = comes_through t reflectors run.are steps p n x
      (contained_in (told w p n) (Announce x) (in_front (w.heard n p) (words_to p n w.flying) (Announce x) i))

  pub kept_sayable : (n p : ℕ) (route : Heard) → n < length t.loopbacks → In (row_at now.heard n p) route → IsSayableRoute t route
  kept_sayable n p route below i =
      let here : In (kept_in l w n p) route =
      subst (λ (row : ℕ → List Heard). In (row p) route) (ap (λ hs. row_at hs n) stands.0.heard ∙ row_is t l w rest.run.within n below) i in
      let x = kept_from l w n p (λ y. In (w.heard n p) (Announce y)) (λ y j. j) route here in
      subst (IsSayableRoute t) x.2
      (made_sayable t w.config l run.topology_is rest.order.given x.0 (rest.good.heard n p (Announce x.0) x.1)
      (two_at_most t reflectors p n x.0 (through n p x.0 x.1)))

  module _ (a b : NodeNo) (word : Word) (peers : may_peer t reflectors a.0 b.0 ≡ true) (first : first_word a.0 b.0 w.flying ≡ Some word) where
    there : (a.0 ≢ b.0) × (a.0 < length t.loopbacks) × (b.0 < length t.loopbacks)
    there = peers_there t reflectors run.topology_is run.are a.0 b.0 peers

    live : peers_live w.config b.0 a.0 ≡ true
    live = hearer_lives t reflectors w rest.run a.0 b.0 there.0 there.1 there.2 word first

    turn : InTurn word (length (w.heard b.0 a.0))
    turn = turn_is t reflectors w rest.run a.0 b.0 there.0 there.1 there.2 word first rest.talk

    good : IsGood t w.config word
    good = let f = first_in a.0 b.0 w.flying word first in subst (IsGood t w.config) f.4 (rest.good.flying f.0 f.1)

    was_told : (x : Offer) → word ≡ Announce x → ComesThrough t reflectors a.0 b.0 x
    was_told x e = comes_through t reflectors run.are steps a.0 b.0 x (contained_in (told w a.0 b.0) (Announce x)
        (in_rest (w.heard b.0 a.0) (words_to a.0 b.0 w.flying) (Announce x)
        (subst (λ ws. In ws (Announce x)) (sym (first_said a.0 b.0 w.flying word first)) (inl e))))

    state_is : InTurn word (length (w.heard b.0 a.0)) → state_heard (length (w.heard b.0 a.0)) ≡ state_of_word word
    state_is (Opens e q) = ap state_heard q ∙ sym (ap state_of_word e)
    state_is (Keeps e q) = ap state_heard q ∙ sym (ap state_of_word e)
    state_is (Tells m h) = established (length (w.heard b.0 a.0)) h ∙ sym (by word m)
      where
        by : (v : Word) → IsMention v → state_of_word v ≡ Established
        by (Announce x) g = refl
        by (Withdraw k) g = refl
        by Open g = absurd g
        by KeepAlive g = absurd g

        established : (k : ℕ) → 2 ≤ k → state_heard k ≡ Established
        established zero g = absurd (omega (arith, g))
        established (suc zero) g = absurd (omega (arith, g))
        established (suc (suc k)) g = refl

    sayable : (v : Word) → v ≡ word → IsGood t w.config v → IsSayableWord t l v
    sayable (Announce x) e g = made_sayable t w.config l run.topology_is rest.order.given x g (two_at_most t reflectors a.0 b.0 x (was_told x (sym e)))
    sayable (Withdraw k) e g = g
    sayable Open e g = tt
    sayable KeepAlive e g = tt

    clustered : (v : Word) → v ≡ word → HasClusters reflectors a.0 v
    clustered (Announce x) e = (
      (λ f. one_at_least t reflectors a.0 b.0 x (was_told x (sym e)) f),
      (λ f. (was_told x (sym e)).of_an_edge f),
    )
    clustered (Withdraw k) e = tt
    clustered Open e = tt
    clustered KeepAlive e = tt

    pub hears : IsHeardInTurn t reflectors l now a.0 b.0 word
    hears = record {
      letter =
          ap (mail.first_from_to a.0 b.0) stands.0.letters ∙ (are_words t reflectors l a.0 b.0 w.flying).first
          ∙ ap (option_map (λ (v : Word). letter_in t reflectors l (record { from = a.0; to = b.0; word = v }))) first;
      turn =
          ap (λ rows. slice_index_or (slice_index_or rows b.0 []) a.0 None) stands.0.sessions
          ∙ table_at (length t.loopbacks) (session_in t w) b.0 a.0 None there.2 there.1
          ∙ ap (λ x. if x then Some (end_in t b.0 a.0 (state_heard (length (w.heard b.0 a.0)))) else None) live
          ∙ ap (λ s. Some (end_in t b.0 a.0 s)) (state_is turn);
      said = sayable word refl good;
      clusters = clustered word refl;
    }

-- Through which reflectors what is announced came.
use Rattle.std.proofs.Common.{ℕ, zero, suc, ◌≡◌, ◌≢◌, ◌<◌, ◌⊎◌, inl, inr, Bool, true, false, cond, List, [], ◌∷◌, ◌++◌, map, filter, length, Some, None, Option}
use Rattle.std.proofs.Common.{refl, sym, ◌∙◌, ap, subst}
use Rattle.std.specs.Prelude.{◌==◌, not, if◌then◌else◌, option_map}
use Rattle.std.specs.List.{flat_map, Contains}
use Rattle.std.proofs.lemmas.Bool.Decides.{eqb_tells}
use Rattle.mn_base.proofs.Bools.{no, two_ways, and_left, and_right, same_numbers, unlike_numbers}
use Rattle.mn_base.proofs.Members.{In, in_contained, in_append, in_map, in_filter, in_flat_map}
use Rattle.mn_wiring.specs.Wiring.{nodes_of}
use Rattle.mn_topo.specs.Network.{Network, wiring_of}
use Rattle.mn_topo.specs.declared.steps.Step.{Step}
use Rattle.mn_topo.specs.declared.steps.Step.TheVariants as step
use Rattle.mn_ledger.specs.Places.{loopback, edge_of}
use Rattle.mn_ledger.specs.Exports.{exports_of}
use Rattle.mn_ledger.specs.Bgp.{peers_live}
use Rattle.mn_ledger.specs.Tables.{put, put_pair}
use Rattle.mn_reflect_ledger_laws.specs.Words.{Key, Offer, Word, Open, KeepAlive, Announce, Withdraw, key_of, same_key, same_offer, last_mention, in_order}
use Rattle.mn_reflect_ledger_laws.specs.Words.{change}
use Rattle.mn_reflect_ledger_laws.specs.Picks.{Spoken, ReflectWorld, announced_by, or_else, first_announced, by_address, from_reflectors, from_edge, pick}
use Rattle.mn_reflect_ledger_laws.specs.Picks.{is_reflector, through, to_reflect, plain, own_offer, offered, known_keys}
use Rattle.mn_reflect_ledger_laws.specs.World.{is_from_to, is_between, first_word, without_first, words_to, says, restarted, heard_one, counted, unsaid}
use Rattle.mn_reflect_ledger_laws.specs.World.{all_offers, reply}
use Rattle.mn_reflect_ledger_laws.specs.World.{replies, is_steady, news_of, news, said_in, after, start, world_from, world_of}
use Rattle.mn_reflect_ledger_laws.specs.Quiet.{told, AreReflectors}
use Rattle.mn_reflect_ledger_laws.specs.Through.{AreOneOrTwo, ComesThrough}
use Rattle.mn_reflect_ledger_laws.proofs.Chosen.{in_address, in_reflectors}
use Rattle.mn_reflect_ledger_laws.proofs.Mentions.{IsNamed, named_mention}
use Rattle.mn_reflect_ledger_laws.proofs.Holding.{none_some, at_its_edge, is_an_edge, find_in}

-- 1. What is sent of a route was offered

abbrev pub heard_or : {A : Type 0} → (ℕ → ℕ → List A) → ℕ → ℕ → List A → ℕ → ℕ → A → Type 0
heard_or table a b value n p w = ((n ≡ a) × (p ≡ b) × In value w) ⊎ In (table n p) w

pub put_in : {A : Type 0} (table : ℕ → ℕ → List A) (a b : ℕ) (value : List A) (n p : ℕ) (w : A) → In (put_pair table a b value n p) w →
    heard_or table a b value n p w
put_in table a b value n p w i = by (n == a) refl i
  where
    at : (d : Bool) → (n == a) ≡ true → (p == b) ≡ d → In (cond d value (table a p)) w → heard_or table a b value n p w
    at true e f j = inl (same_numbers n a e, same_numbers p b f, j)
    at false e f j = inr (subst (λ x. In (table x p) w) (sym (same_numbers n a e)) j)

    by : (c : Bool) → (n == a) ≡ c → In (cond c (put (table a) b value) (table n) p) w → heard_or table a b value n p w
    by false e j = inr j
    by true e j = at (p == b) e refl j

announced_is : (x y : Offer) → Announce x ≡ Announce y → x ≡ y
announced_is x y e = cc

pub in_says : (from to : ℕ) (words : List Word) (s : Spoken) → In (says from to words) s → (from ≡ s.from) × (to ≡ s.to) × In words s.word
in_says from to words s i =
    let m = in_map (λ word. record { from = from; to = to; word = word }) words s i in
    (ap (λ (x : Spoken). x.from) m.2, ap (λ (x : Spoken). x.to) m.2, subst (In words) (ap (λ (x : Spoken). x.word) m.2) m.1)

pub in_change : (key : Key) (old new : Option Offer) (x : Offer) → In (change key old new) (Announce x) → new ≡ Some x
in_change key None None x i = absurd i
in_change key (Some old) None x i = elim i [ inl e ↦ absurd (other e) | inr j ↦ absurd j ]
  where
    other : Withdraw key ≡ Announce x → ⊥
    other e = cc
in_change key None (Some new) x i = elim i [ inl e ↦ ap (λ z. Some z) (announced_is new x e) | inr j ↦ absurd j ]
in_change key (Some old) (Some new) x i = by (same_offer old new) i
  where
    by : (b : Bool) → In (if b then [] else Announce new ∷ []) (Announce x) → Some new ≡ Some x
    by true j = absurd j
    by false j = elim j [ inl e ↦ ap (λ z. Some z) (announced_is new x e) | inr k ↦ absurd k ]

no_open : (x : Offer) → In (Open ∷ []) (Announce x) → ⊥
no_open x i = elim i [ inl e ↦ other e | inr j ↦ j ]
  where
    other : Open ≡ Announce x → ⊥
    other e = cc

no_keep : (x : Offer) → In (KeepAlive ∷ []) (Announce x) → ⊥
no_keep x i = elim i [ inl e ↦ other e | inr j ↦ j ]
  where
    other : KeepAlive ≡ Announce x → ⊥
    other e = cc

-- a mention is among the words
pub mention_in : (key : Key) (was : Option Offer) (words : List Word) (x : Offer) → last_mention key was words ≡ Some x → (was ≡ Some x) ⊎ In words (Announce x)
mention_in key was [] x h = inl h
mention_in key was (Open ∷ words) x h = elim (mention_in key was words x h) [ inl e ↦ inl e | inr i ↦ inr (inr i) ]
mention_in key was (KeepAlive ∷ words) x h = elim (mention_in key was words x h) [ inl e ↦ inl e | inr i ↦ inr (inr i) ]
mention_in key was (Announce said ∷ words) x h =
    by (same_key key (key_of said)) (mention_in key (if same_key key (key_of said) then Some said else was) words x h)
  where
    by : (b : Bool) → ((if b then Some said else was) ≡ Some x) ⊎ In words (Announce x) → (was ≡ Some x) ⊎ In (Announce said ∷ words) (Announce x)
    by true (inl e) = inr (inl (ap (λ o. elim o [ None ↦ Announce said | Some z ↦ Announce z ]) e))
    by false (inl e) = inl e
    by b (inr i) = inr (inr i)
mention_in key was (Withdraw other ∷ words) x h = by (same_key key other) (mention_in key (if same_key key other then None else was) words x h)
  where
    by : (b : Bool) → ((if b then None else was) ≡ Some x) ⊎ In words (Announce x) → (was ≡ Some x) ⊎ In (Withdraw other ∷ words) (Announce x)
    by true (inl e) = absurd (none_some e)
    by false (inl e) = inl e
    by b (inr i) = inr (inr i)

pub heard_of : (world : ReflectWorld) (node peer : ℕ) (key : Key) (x : Offer) → announced_by world node peer key ≡ Some x →
    In (world.heard node peer) (Announce x) × (key_of x ≡ key)
heard_of world node peer key x h = by (peers_live world.config node peer) h
  where
    by : (b : Bool) → (if b then last_mention key None (world.heard node peer) else None) ≡ Some x →
        In (world.heard node peer) (Announce x) × (key_of x ≡ key)
    by true e = (
      elim (mention_in key None (world.heard node peer) x e) [ inl q ↦ absurd (none_some q) | inr i ↦ i ],
      subst (IsNamed key) e (named_mention key None (world.heard node peer) tt),
    )
    by false e = absurd (none_some e)

pub first_of : (world : ReflectWorld) (node : ℕ) (key : Key) (peers : List ℕ) (x : Offer) → first_announced world node key peers ≡ Some x →
    (peer : ℕ) × In peers peer × (announced_by world node peer key ≡ Some x)
first_of world node key [] x h = absurd (none_some h)
first_of world node key (peer ∷ peers) x h = by (announced_by world node peer key) refl h (first_of world node key peers x)
  where
    by : (o : Option Offer) → announced_by world node peer key ≡ o → or_else o (first_announced world node key peers) ≡ Some x →
        (first_announced world node key peers ≡ Some x → (q : ℕ) × In peers q × (announced_by world node q key ≡ Some x)) →
        (q : ℕ) × In (peer ∷ peers) q × (announced_by world node q key ≡ Some x)
    by (Some y) e f more = (peer, inl refl, e ∙ f)
    by None e f more = let m = more f in (m.0, inr m.1, m.2)

-- 2. What is offered came through reflectors so

module _ (topology : Network) (reflectors : List ℕ) (are : AreReflectors topology reflectors) where
  no_reflector : (v : ℕ) → v < length topology.vrfs → is_reflector reflectors (edge_of topology v) ≡ false
  no_reflector v h = elim (two_ways (is_reflector reflectors (edge_of topology v))) [
    | inl e ↦ absurd (no (sym (are.no_edges (edge_of topology v) e) ∙ is_an_edge topology v h))
    | inr e ↦ e
  ]

  -- and the route is of an edge
  record IsSaid (node peer : ℕ) (offer : Offer) : Type 0 where
    comes : ComesThrough topology reflectors node peer offer
    home : is_reflector reflectors (edge_of topology offer.export.vrf) ≡ false

  abbrev Heard : ReflectWorld → Type 0
  Heard world = (node peer : ℕ) (offer : Offer) → In (world.heard node peer) (Announce offer) → IsSaid peer node offer

  abbrev Flying : ReflectWorld → Type 0
  Flying world = (s : Spoken) (offer : Offer) → In world.flying s → s.word ≡ Announce offer → IsSaid s.from s.to offer

  module _ (world : ReflectWorld) (heard : Heard world) (node peer : ℕ) (key : Key) where
    -- of the edge itself
    of_edge : (x : Offer) → from_edge topology world node key ≡ Some x →
        (x.clusters ≡ []) × (key_of x ≡ key) × (is_reflector reflectors (edge_of topology key.vrf) ≡ false)
    of_edge x h =
        let at = heard_of world node (edge_of topology key.vrf) key x h in
        let said = heard node (edge_of topology key.vrf) x at.0 in
        let home : is_reflector reflectors (edge_of topology key.vrf) ≡ false =
        subst (λ (k : Key). is_reflector reflectors (edge_of topology k.vrf) ≡ false) at.1 said.home in
        (said.comes.of_an_edge home, at.1, home)

    -- of another reflector
    of_others : (x : Offer) → from_reflectors topology reflectors world node key ≡ Some x → is_reflector reflectors node ≡ true →
        (other : ℕ) × (is_reflector reflectors other ≡ true) × (other ≢ node) × (x.clusters ≡ loopback topology other ∷ []) × (key_of x ≡ key)
        × (is_reflector reflectors (edge_of topology key.vrf) ≡ false)
    of_others x h here =
        let rest : List ℕ = filter (λ other. not (other == node)) reflectors in
        let first = first_of world node key (by_address topology rest) x h in
        let f = in_filter (λ other. not (other == node)) reflectors first.0 (in_address topology rest first.0 first.1) in
        let is : is_reflector reflectors first.0 ≡ true = in_reflectors reflectors first.0 f.0 in
        let at = heard_of world node first.0 key x first.2 in
        let said = heard node first.0 x at.0 in (
          first.0,
          is,
          unlike_numbers first.0 node f.1,
          said.comes.to_a_reflector is here,
          at.1,
          subst (λ (k : Key). is_reflector reflectors (edge_of topology k.vrf) ≡ false) at.1 said.home,
        )

    named_home : (x : Offer) → key_of x ≡ key → is_reflector reflectors (edge_of topology key.vrf) ≡ false →
        is_reflector reflectors (edge_of topology x.export.vrf) ≡ false
    named_home x e h = subst (λ (k : Key). is_reflector reflectors (edge_of topology k.vrf) ≡ false) (sym e) h

    to_reflector : (x : Offer) → from_edge topology world node key ≡ Some x → is_reflector reflectors node ≡ true → is_reflector reflectors peer ≡ true →
        IsSaid node peer (through topology node x)
    to_reflector x h here there =
        let edge = of_edge x h in
        record {
          comes = record {
            of_an_edge = λ e. absurd (no (sym e ∙ here));
            to_a_reflector = λ e f. ap (λ cs. loopback topology node ∷ cs) edge.0;
            to_an_edge = λ e f. absurd (no (sym f ∙ there));
            never_back = λ e f. absurd (no (sym f ∙ there));
          };
          home = named_home x edge.1 edge.2;
        }

    to_edge : (x : Offer) → AreOneOrTwo topology reflectors node (loopback topology node ∷ x.clusters) → key_of x ≡ key →
        is_reflector reflectors (edge_of topology key.vrf) ≡ false → is_reflector reflectors node ≡ true → is_reflector reflectors peer ≡ false →
        edge_of topology key.vrf ≢ peer → IsSaid node peer (through topology node x)
    to_edge x clusters named home here there apart = record {
      comes = record {
        of_an_edge = λ e. absurd (no (sym e ∙ here));
        to_a_reflector = λ e f. absurd (no (sym there ∙ f));
        to_an_edge = λ e f. clusters;
        never_back = λ e f q. apart (ap (λ (k : Key). edge_of topology k.vrf) (sym named) ∙ q);
      };
      home = named_home x named home;
    }

    picked : (x : Offer) → pick topology reflectors world node key ≡ Some x → is_reflector reflectors node ≡ true → is_reflector reflectors peer ≡ false →
        edge_of topology key.vrf ≢ peer → IsSaid node peer (through topology node x)
    picked x h here there apart = by (from_edge topology world node key) refl h
      where
        by : (o : Option Offer) → from_edge topology world node key ≡ o → or_else o (from_reflectors topology reflectors world node key) ≡ Some x →
            IsSaid node peer (through topology node x)
        by (Some y) e f =
            let edge = of_edge x (e ∙ f) in
            to_edge x (inl (ap (λ cs. loopback topology node ∷ cs) edge.0)) edge.1 edge.2 here there apart
        by None e f =
            let other = of_others x f here in
            to_edge x (inr (other.0, other.1, other.2, ap (λ cs. loopback topology node ∷ cs) other.3)) other.4 other.5 here there apart

    reflects : (x : Offer) → to_reflect topology reflectors world node peer key ≡ Some x → is_reflector reflectors node ≡ true →
        IsSaid node peer (through topology node x)
    reflects x h here = by (is_reflector reflectors peer) refl h
      where
        apart : (c : Bool) → (edge_of topology key.vrf == peer) ≡ c → (if c then None else pick topology reflectors world node key) ≡ Some x →
            is_reflector reflectors peer ≡ false → IsSaid node peer (through topology node x)
        apart true e f there = absurd (none_some f)
        apart false e f there = picked x f here there (λ q. no (sym e ∙ same q))
          where
            same : edge_of topology key.vrf ≡ peer → (edge_of topology key.vrf == peer) ≡ true
            same q = elim (eqb_tells (edge_of topology key.vrf) peer) [ inl y ↦ y.0 | inr n ↦ absurd (n.1 q) ]

        by : (b : Bool) → is_reflector reflectors peer ≡ b →
            (if b then from_edge topology world node key else if edge_of topology key.vrf == peer then None else pick topology reflectors world node key)
            ≡ Some x →
            IsSaid node peer (through topology node x)
        by true e f = to_reflector x f here e
        by false e f = apart (edge_of topology key.vrf == peer) refl f e

    exported : (x : Offer) → own_offer topology world.config node key ≡ Some x → is_reflector reflectors node ≡ false → IsSaid node peer x
    exported x h here =
        let exports = exports_of topology world.config node in
        let m = in_map plain exports x (find_in key (map plain exports) x h) in
        let at = at_its_edge topology world.config node m.0 m.1 in
        record {
          comes = record {
            of_an_edge = λ e. ap (λ (o : Offer). o.clusters) (sym m.2);
            to_a_reflector = λ e f. absurd (no (sym here ∙ e));
            to_an_edge = λ e f. absurd (no (sym here ∙ e));
            never_back = λ e f. absurd (no (sym here ∙ e));
          };
          home = ap (λ (o : Offer). is_reflector reflectors (edge_of topology o.export.vrf)) (sym m.2) ∙ no_reflector m.0.vrf at.0;
        }

    is_said : (x : Offer) → offered topology reflectors world node peer key ≡ Some x → IsSaid node peer x
    is_said x h = by (is_reflector reflectors node) refl h
      where
        mapped : (o : Option Offer) → to_reflect topology reflectors world node peer key ≡ o → option_map (through topology node) o ≡ Some x →
            is_reflector reflectors node ≡ true → IsSaid node peer x
        mapped None e f here = absurd (none_some f)
        mapped (Some y) e f here = subst (IsSaid node peer) (ap (λ o. elim o [ None ↦ x | Some z ↦ z ]) f) (reflects y e here)

        by : (b : Bool) → is_reflector reflectors node ≡ b →
            (if b then option_map (through topology node) (to_reflect topology reflectors world node peer key) else own_offer topology world.config node key)
            ≡ Some x →
            IsSaid node peer x
        by true e f = mapped (to_reflect topology reflectors world node peer key) refl f e
        by false e f = exported x f e

  -- 3. A step keeps it

  record AllSaid (world : ReflectWorld) : Type 0 where
    heard : Heard world
    flying : Flying world

  pub first_in : (from to : ℕ) (spokens : List Spoken) (word : Word) → first_word from to spokens ≡ Some word →
      (s : Spoken) × In spokens s × (s.from ≡ from) × (s.to ≡ to) × (s.word ≡ word)
  first_in from to [] word h = absurd (none_some h)
  first_in from to (s ∷ spokens) word h = by (is_from_to from to s) refl h (first_in from to spokens word)
    where
      by : (b : Bool) → is_from_to from to s ≡ b → cond b (Some s.word) (first_word from to spokens) ≡ Some word →
          (first_word from to spokens ≡ Some word → (x : Spoken) × In spokens x × (x.from ≡ from) × (x.to ≡ to) × (x.word ≡ word)) →
          (x : Spoken) × In (s ∷ spokens) x × (x.from ≡ from) × (x.to ≡ to) × (x.word ≡ word)
      by true e f more = (
        s,
        inl refl,
        same_numbers s.from from (and_left (s.from == from) (s.to == to) e),
        same_numbers s.to to (and_right (s.from == from) (s.to == to) e),
        ap (λ o. elim o [ None ↦ word | Some z ↦ z ]) f,
      )
      by false e f more = let m = more f in (m.0, inr m.1, m.2, m.3, m.4)

  pub in_without : (from to : ℕ) (spokens : List Spoken) (s : Spoken) → In (without_first from to spokens) s → In spokens s
  in_without from to [] s i = i
  in_without from to (x ∷ spokens) s i = by (is_from_to from to x) i (in_without from to spokens s)
    where
      by : (b : Bool) → In (cond b spokens (x ∷ without_first from to spokens)) s → (In (without_first from to spokens) s → In spokens s) → In (x ∷ spokens) s
      by true j more = inr j
      by false j more = elim j [ inl e ↦ inl e | inr k ↦ inr (more k) ]

  restart_keeps : (world : ReflectWorld) (a b : ℕ) → AllSaid world → AllSaid (restarted world a b)
  restart_keeps world a b all = record {
    heard = λ n p x i. elim (put_in (put_pair world.heard a b []) b a [] n p (Announce x) i) [
      | inl h ↦ absurd h.2
      | inr j ↦ elim (put_in world.heard a b [] n p (Announce x) j) [ inl h ↦ absurd h.2 | inr k ↦ all.heard n p x k ]
    ];
    flying = λ s x i e. all.flying s x (in_filter (λ spoken. not (is_between a b spoken)) world.flying s i).0 e;
  }

  hearing_keeps : (world : ReflectWorld) (from to : ℕ) (o : Option Word) → first_word from to world.flying ≡ o → AllSaid world →
      AllSaid (heard_one world from to o)
  hearing_keeps world from to None e all = all
  hearing_keeps world from to (Some word) e all = record {
    heard = λ n p x i. elim (put_in world.heard to from (world.heard to from ++ word ∷ []) n p (Announce x) i) [
      | inl h ↦ elim (in_append (world.heard to from) (word ∷ []) (Announce x) h.2) [
        | inl j ↦ subst (λ q. IsSaid q n x) (sym h.1) (subst (λ m. IsSaid from m x) (sym h.0) (all.heard to from x j))
        | inr j ↦ subst (λ q. IsSaid q n x) (sym h.1) (subst (λ m. IsSaid from m x) (sym h.0) (new x (elim j [ inl q ↦ q | inr k ↦ absurd k ])))
      ]
      | inr j ↦ all.heard n p x j
    ];
    flying = λ s x i q. all.flying s x (in_without from to world.flying s i) q;
  }
    where
      new : (x : Offer) → word ≡ Announce x → IsSaid from to x
      new x q =
          let f = first_in from to world.flying word e in
          subst (λ m. IsSaid m to x) f.2 (subst (λ m. IsSaid f.0.from m x) f.3 (all.flying f.0 x f.1 (f.4 ∙ q)))

  counted_keeps : (world : ReflectWorld) (done : Step) → AllSaid world → AllSaid (counted world done)
  counted_keeps world (step.BgpUp a b) all = restart_keeps world a.0 b.0 all
  counted_keeps world (step.BgpDown a b) all = restart_keeps world a.0 b.0 all
  counted_keeps world (step.HearBgp a b) all = hearing_keeps world a.0 b.0 (first_word a.0 b.0 world.flying) refl all
  counted_keeps world _ all = all

  unsaid_keeps : (world : ReflectWorld) (done : Step) → AllSaid world → AllSaid (unsaid world done)
  unsaid_keeps world done all = let now = counted_keeps world done all in record { heard = now.heard; flying = now.flying }

  module _ (new : ReflectWorld) (heard : Heard new) where
    said_of : (from to : ℕ) (words : List Word) → ((x : Offer) → In words (Announce x) → IsSaid from to x) →
        (s : Spoken) (x : Offer) → In (says from to words) s → s.word ≡ Announce x → IsSaid s.from s.to x
    said_of from to words h s x i e =
        let m = in_says from to words s i in
        subst (λ q. IsSaid s.from q x) m.1 (subst (λ q. IsSaid q to x) m.0 (h x (subst (In words) e m.2)))

    all_said : (node peer : ℕ) (x : Offer) → In (all_offers topology reflectors new node peer) (Announce x) → IsSaid node peer x
    all_said node peer x i =
        let m = in_flat_map (λ key. change key None (offered topology reflectors new node peer key)) (in_order (known_keys topology reflectors new node))
        (Announce x) i in
        is_said new heard node peer m.0 x (in_change m.0 None (offered topology reflectors new node peer m.0) x m.2)

    reply_said : (node peer count : ℕ) (o : Option Word) (x : Offer) → In (reply topology reflectors new node peer count o) (Announce x) → IsSaid node peer x
    reply_said node peer zero (Some Open) x i = absurd (no_keep x i)
    reply_said node peer zero (Some KeepAlive) x i = absurd i
    reply_said node peer zero (Some (Announce y)) x i = absurd i
    reply_said node peer zero (Some (Withdraw key)) x i = absurd i
    reply_said node peer zero None x i = absurd i
    reply_said node peer (suc zero) (Some Open) x i = absurd i
    reply_said node peer (suc zero) (Some KeepAlive) x i = all_said node peer x i
    reply_said node peer (suc zero) (Some (Announce y)) x i = absurd i
    reply_said node peer (suc zero) (Some (Withdraw key)) x i = absurd i
    reply_said node peer (suc zero) None x i = absurd i
    reply_said node peer (suc (suc count)) (Some Open) x i = absurd i
    reply_said node peer (suc (suc count)) (Some KeepAlive) x i = absurd i
    reply_said node peer (suc (suc count)) (Some (Announce y)) x i = absurd i
    reply_said node peer (suc (suc count)) (Some (Withdraw key)) x i = absurd i
    reply_said node peer (suc (suc count)) None x i = absurd i

    replies_said : (world : ReflectWorld) (done : Step) (s : Spoken) (x : Offer) → In (replies topology reflectors world new done) s → s.word ≡ Announce x →
        IsSaid s.from s.to x
    replies_said world (step.BgpUp a b) s x i e = elim (in_append (says a.0 b.0 (Open ∷ [])) (says b.0 a.0 (Open ∷ [])) s i) [
      | inl j ↦ said_of a.0 b.0 (Open ∷ []) (λ y k. absurd (no_open y k)) s x j e
      | inr j ↦ said_of b.0 a.0 (Open ∷ []) (λ y k. absurd (no_open y k)) s x j e
    ]
    replies_said world (step.HearBgp a b) s x i e =
        said_of b.0 a.0 (reply topology reflectors new b.0 a.0 (length (world.heard b.0 a.0)) (first_word a.0 b.0 world.flying))
        (reply_said b.0 a.0 (length (world.heard b.0 a.0)) (first_word a.0 b.0 world.flying)) s x i e
    replies_said world _ s x i e = absurd i

    news_said : (world : ReflectWorld) (node : ℕ) (s : Spoken) (x : Offer) → In (news topology reflectors world new node) s → s.word ≡ Announce x →
        IsSaid s.from s.to x
    news_said world node s x i e =
        let m = in_flat_map (λ key. flat_map (news_of topology reflectors world new node key) (nodes_of (wiring_of topology)))
        (in_order (known_keys topology reflectors world node ++ known_keys topology reflectors new node)) s i in
        let p = in_flat_map (news_of topology reflectors world new node m.0) (nodes_of (wiring_of topology)) s m.2 in
        by m.0 p.0 (is_steady world new node p.0) p.2
      where
        by : (key : Key) (peer : ℕ) (b : Bool) → In (cond b (says node peer (change key (offered topology reflectors world node peer key)
            (offered topology reflectors new node peer key))) []) s → IsSaid s.from s.to x
        by key peer true j = said_of node peer (change key (offered topology reflectors world node peer key) (offered topology reflectors new node peer key))
            (λ y k. is_said new heard node peer key y (in_change key (offered topology reflectors world node peer key)
            (offered topology reflectors new node peer key) y k)) s x j e
        by key peer false j = absurd j

  step_keeps : (world : ReflectWorld) (done : Step) → AllSaid world → AllSaid (after topology reflectors world done)
  step_keeps world done all =
      let new : ReflectWorld = unsaid world done in
      let kept : AllSaid (unsaid world done) = unsaid_keeps world done all in
      record {
        heard = kept.heard;
        flying = λ s x i e. elim (in_append new.flying (said_in topology reflectors world new done) s i) [
          | inl j ↦ kept.flying s x j e
          | inr j ↦ elim (in_append (replies topology reflectors world new done) (flat_map (news topology reflectors world new) (nodes_of (wiring_of topology)))
              s j) [
                | inl k ↦ replies_said new kept.heard world done s x k e
                | inr k ↦
                    let m = in_flat_map (news topology reflectors world new) (nodes_of (wiring_of topology)) s k in
                    news_said new kept.heard world m.0 s x m.2 e
              ]
        ];
      }

  from_any : (world : ReflectWorld) (steps : List Step) → AllSaid world → AllSaid (world_from topology reflectors world steps)
  from_any world [] all = all
  from_any world (done ∷ steps) all = from_any (after topology reflectors world done) steps (step_keeps world done all)

  every_run : (steps : List Step) → AllSaid (world_of topology reflectors steps)
  every_run steps = from_any (start topology) steps (record { heard = λ n p x i. absurd i; flying = λ s x i e. absurd i })

  pub in_words : (node peer : ℕ) (spokens : List Spoken) (x : Offer) → In (words_to node peer spokens) (Announce x) →
      (s : Spoken) × In spokens s × (s.from ≡ node) × (s.to ≡ peer) × (s.word ≡ Announce x)
  in_words node peer spokens x i =
      let m = in_map (λ (s : Spoken). s.word) (filter (is_from_to node peer) spokens) (Announce x) i in
      let f = in_filter (is_from_to node peer) spokens m.0 m.1 in (
        m.0,
        f.0,
        same_numbers m.0.from node (and_left (m.0.from == node) (m.0.to == peer) f.1),
        same_numbers m.0.to peer (and_right (m.0.from == node) (m.0.to == peer) f.1),
        m.2,
      )

  pub comes_through : (steps : List Step) (node peer : ℕ) (offer : Offer) →
      Contains (told (world_of topology reflectors steps) node peer) (Announce offer) → ComesThrough topology reflectors node peer offer
  comes_through steps node peer offer c =
      let world : ReflectWorld = world_of topology reflectors steps in
      let all : AllSaid (world_of topology reflectors steps) = every_run steps in
      let said : IsSaid node peer offer = elim (in_append (world.heard peer node) (words_to node peer world.flying) (Announce offer)
      (in_contained (told world node peer) (Announce offer) c)) [
        | inl i ↦ all.heard peer node offer i
        | inr i ↦
            let w = in_words node peer world.flying offer i in
            subst (λ q. IsSaid q peer offer) w.2 (subst (λ q. IsSaid w.0.from q offer) w.3 (all.flying w.0 offer w.1 w.4))
      ] in
      said.comes

-- A session ends: a reflector tells of the routes that it received in it, and an edge decides on them anew.
use Rattle.std.proofs.Common.{ℕ, zero, suc, ◌≡◌, ◌≢◌, ◌<◌, ◌⊎◌, inl, inr, Bool, true, false, List, [], ◌∷◌, ◌++◌, filter, length, Some, None, Option}
use Rattle.std.proofs.Common.{refl, arith, sym, ◌∙◌, ap, subst}
use Rattle.std.specs.Prelude.{◌==◌, not, if◌then◌else◌, slice_index_or, slice_set, option_map}
use Rattle.std.proofs.lemmas.Bool.Decides.{eqb_tells}
use Rattle.std.proofs.lemmas.List.{map-append}
use Rattle.mn_base.specs.declared.numbers.NodeNo.{NodeNo}
use Rattle.mn_base.proofs.Bools.{no}
use Rattle.mn_base.proofs.Members.{In, contained_in, in_map}
use Rattle.mn_topo.specs.Network.{Network}
use Rattle.mn_topo.specs.Lawful.{IsLawful}
use Rattle.mn_topo.specs.VrfTable.{is_edge}
use Rattle.mn_topo.specs.declared.steps.Step.TheVariants as step
use Rattle.mn_ledger.specs.Places.{edge_of}
use Rattle.mn_bgp_spelling_laws.specs.Spelling.{Labels}
use Rattle.mn_pe.specs.Edge.{Edge}
use Rattle.mn_pe.specs.Pe.{PeNow}
use Rattle.mn_routing_laws.specs.Routed.{working}
use Rattle.mn_routing_laws.specs.Standing.{edge_in}
use Rattle.mn_routing_laws.specs.Sending.{peers_from}
use Rattle.mn_routing_laws.proofs.Tables.{map_numbers_at}
use Rattle.mn_offers.specs.Heard.{Heard}
use Rattle.mn_mail.specs.Mail.{Letter}
use Rattle.mn_mail.specs.Mail as mail
use Rattle.mn_reflect_ledger_laws.specs.Words.{Key, Offer, Announce, key_of}
use Rattle.mn_reflect_ledger_laws.specs.Picks.{ReflectWorld, announced_by, by_address, from_reflectors, offered, own_offer, through, to_reflect, is_reflector}
use Rattle.mn_reflect_ledger_laws.specs.World.{unsaid, news, said_in, after}
use Rattle.mn_reflect_ledger_laws.specs.Quiet.{AreReflectors}
use Rattle.mn_reflect_ledger_laws.proofs.Steps.{which_pair}
use Rattle.mn_reflect_ledger_laws.proofs.Mentions.{IsNamed}
use Rattle.mn_reflect_ledger_laws.proofs.Offering.{IsWithin, named_offer, named_first}
use Rattle.mn_reflect_world_laws.specs.Kept.{kept_in}
use Rattle.mn_reflect_world_laws.specs.Spelling.{letter_in, letters_in}
use Rattle.mn_reflect_world_laws.specs.Edges.{Decisions, all_live, as_peerings, decided, AreDecided}
use Rattle.mn_reflect_world_laws.specs.Now.{sessions_in, edge_or_none, edges_in}
use Rattle.mn_reflect_world_laws.specs.Choice.{names_in}
use Rattle.mn_reflect_world_laws.specs.Letters.{reflector_news}
use Rattle.mn_reflect_world_laws.specs.Goes.{on_edge, decide_all}
use Rattle.mn_reflect_world_laws.proofs.Letters.{are_words}
use Rattle.mn_reflect_world_laws.proofs.Config.{IsInOrder, IsMade}
use Rattle.mn_reflect_world_laws.proofs.Said.{AreGood, offered_made, reflected_made}
use Rattle.mn_reflect_world_laws.proofs.Changes.{IsOf}
use Rattle.mn_reflect_world_laws.proofs.Names.{announced_name, kept_names_up, kept_from}
use Rattle.mn_reflect_world_laws.proofs.Telling.{news_is}
use Rattle.mn_reflect_world_laws.proofs.EdgeSteps.{one_edge}
use Rattle.mn_reflect_world_laws.proofs.Deciding.{comes, then_decided_are}
use Rattle.mn_reflect_world_laws.proofs.Same.{offers_same, reflected_same, quiet_news, flat_two}
use Rattle.mn_reflect_world_laws.proofs.GoesUp.{none_announced, other_announced, was_settled}

-- 1. What is offered is named so, over attachments that were made

pub offers_of : (t : Network) (reflectors : List ℕ) (l : Labels) (w : ReflectWorld) (order : IsInOrder t w.config l) (good : AreGood t w.config w) (n p : ℕ)
    (is : is_reflector reflectors n ≡ true) (k : Key) → IsOf t reflectors l n p is w.config k (offered t reflectors w n p k)
offers_of t reflectors l w order good n p is k x h =
    (subst (IsNamed k) h (named_offer t reflectors w n p k), offered_made t reflectors w.config w good.heard l order (λ e m. m) n p k x h)

pub decides_of : (t : Network) (reflectors : List ℕ) (l : Labels) (w : ReflectWorld) (order : IsInOrder t w.config l) (good : AreGood t w.config w) (n : ℕ)
    (k : Key) (x : Offer) → from_reflectors t reflectors w n k ≡ Some x → (key_of x ≡ k) × IsMade t w.config x.export
decides_of t reflectors l w order good n k x h = (
  subst (IsNamed k) h (named_first w n k (by_address t (filter (λ other. not (other == n)) reflectors))),
  reflected_made t reflectors w.config w good.heard l order (λ e m. m) n k x h,
)

-- 2. A node that is no edge has no place among edges

set_none : {A : Type 0} (xs : List (Option A)) (k : ℕ) → slice_index_or xs k None ≡ None → slice_set xs k None ≡ xs
set_none [] k h = refl
set_none (x ∷ xs) zero h = ap (λ o. o ∷ xs) (sym h)
set_none (x ∷ xs) (suc k) h = ap (λ ys. x ∷ ys) (set_none xs k h)

pub no_edge : (t : Network) (l : Labels) (w : ReflectWorld) (d : Decisions) (n : ℕ) (f : Edge → Edge) → n < length t.loopbacks → is_edge t.vrfs n ≡ false →
    on_edge n f (edges_in t l w d) ≡ edges_in t l w d
no_edge t l w d n f below h =
    ap (λ o. slice_set (edges_in t l w d) n (option_map (λ (pe : PeNow). working (f pe.edge)) o)) none ∙ set_none (edges_in t l w d) n none
  where
    none : slice_index_or (edges_in t l w d) n None ≡ None
    none = map_numbers_at (λ x. option_map working (edge_or_none t l w d x)) (length t.loopbacks) n None below
        ∙ ap (λ b. option_map working (if b then Some (edge_in t l (all_live t w.config) (as_peerings d) n) else None)) h

-- 3. The session ends

module _ (t : Network) (reflectors : List ℕ) (l : Labels) (w : ReflectWorld) (lawful : IsLawful t) (are : AreReflectors t reflectors) (a b : NodeNo)
    (less : a.0 < b.0)
    (below : b.0 < length t.loopbacks) (order : IsInOrder t w.config l) (good : AreGood t w.config w) (within : IsWithin t w) where
  abbrev pub then_down : ReflectWorld
  then_down = unsaid w (step.BgpDown a b)

  two : a.0 ≢ b.0
  two e = omega (arith, less, e)

  a_below : a.0 < length t.loopbacks
  a_below = omega (arith, less, below)

  module _ (later : IsInOrder t then_down.config l) (still : AreGood t then_down.config then_down) (within_then : IsWithin t then_down) where
    -- of a name that wasn't kept of the peer nothing changes at an end
    touched : (n p : ℕ) → ((n ≡ a.0) × (p ≡ b.0)) ⊎ ((n ≡ b.0) × (p ≡ a.0)) → (k : Key) →
        In (names_in (kept_in l w n p)) k ⊎ ((q : ℕ) → announced_by w n q k ≡ announced_by then_down n q k)
    touched n p who k = by (announced_by w n p k) refl
      where
        by : (o : Option Offer) → announced_by w n p k ≡ o →
            In (names_in (kept_in l w n p)) k ⊎ ((q : ℕ) → announced_by w n q k ≡ announced_by then_down n q k)
        by (Some x) e = inl (announced_name l w n p k x e)
        by None e = inr (λ q. elim (which_pair a.0 b.0 n q) [
          | inr other ↦ other_announced w then_down a.0 b.0 false two refl (λ x y. refl) n q k other
          | inl also ↦ ap (λ z. announced_by w n z k) (same_peer q also) ∙ e ∙ sym (none_announced w then_down a.0 b.0 false two refl (λ x y. refl) n q k also)
        ])
          where
            same_peer : (q : ℕ) → ((n ≡ a.0) × (q ≡ b.0)) ⊎ ((n ≡ b.0) × (q ≡ a.0)) → q ≡ p
            same_peer q also = elim who [
              | inl e1 ↦ elim also [ inl e2 ↦ e2.1 ∙ sym e1.1 | inr e2 ↦ absurd (two (sym e1.0 ∙ e2.0)) ]
              | inr e1 ↦ elim also [ inl e2 ↦ absurd (two (sym e2.0 ∙ e1.0)) | inr e2 ↦ e2.1 ∙ sym e1.1 ]
            ]

    -- another node receives as before
    others_hear : (n : ℕ) → n ≢ a.0 → n ≢ b.0 → (p : ℕ) (k : Key) → announced_by w n p k ≡ announced_by then_down n p k
    others_hear n d e p k = other_announced w then_down a.0 b.0 false two refl (λ x y. refl) n p k (inl d, inl e)

    -- 3.1 What is sent

    abbrev pub news_at : ℕ → ℕ → List Letter
    news_at n p =
        if is_reflector reflectors n
        then reflector_news t (by_address t reflectors) n (peers_from 0 (slice_index_or (sessions_in t then_down) n [])) (kept_in l w n) (kept_in l then_down n)
        (names_in (kept_in l w n p))
        else []

    end_news : (n p : ℕ) → ((n ≡ a.0) × (p ≡ b.0)) ⊎ ((n ≡ b.0) × (p ≡ a.0)) → n < length t.loopbacks →
        letters_in t reflectors l (news t reflectors w then_down n) ≡ news_at n p
    end_news n p who n_below = by (is_reflector reflectors n) refl
      where
        by : (r : Bool) → is_reflector reflectors n ≡ r → letters_in t reflectors l (news t reflectors w then_down n) ≡ news_at n p
        by true e =
            news_is t reflectors l w then_down n e n_below w.config order.given
            (λ q k. offers_of t reflectors l w order good n q e k) (λ q k x h. still_of q k x h)
            (was_settled w then_down a.0 b.0 false two refl (λ x y. refl) n) within within_then (names_in (kept_in l w n p)) (kept_names_up l w n p)
            (λ k. elim (touched n p who k) [
              | inl i ↦ inl i
              | inr h ↦ inr (λ q. offers_same t reflectors w then_down n k h refl q)
            ])
            ∙ sym (ap (λ c. if c then reflector_news t (by_address t reflectors) n (peers_from 0 (slice_index_or (sessions_in t then_down) n []))
            (kept_in l w n) (kept_in l then_down n) (names_in (kept_in l w n p)) else []) e)
          where
            still_of : (q : ℕ) (k : Key) → IsOf t reflectors l n q e w.config k (offered t reflectors then_down n q k)
            still_of q k x h = (
              subst (IsNamed k) h (named_offer t reflectors then_down n q k),
              back x (offered_made t reflectors then_down.config then_down still.heard l later (λ y m. m) n q k x h),
            )
              where
                back : (x : Offer) → IsMade t then_down.config x.export → IsMade t w.config x.export
                back x m = record {
                  vrf = m.vrf;
                  of_vrf = m.of_vrf;
                  attachment = record { there = m.attachment.there; first = m.attachment.first; given = m.attachment.given };
                  formed = m.formed;
                  targets = m.targets;
                  rise = m.rise;
                }
        by false e =
            ap (letters_in t reflectors l) (edge_quiet e)
            ∙ sym (ap (λ c. if c then reflector_news t (by_address t reflectors) n (peers_from 0 (slice_index_or (sessions_in t then_down) n []))
            (kept_in l w n) (kept_in l then_down n) (names_in (kept_in l w n p)) else []) e)
          where
            -- an edge offers its own alone
            edge_quiet : is_reflector reflectors n ≡ false → news t reflectors w then_down n ≡ []
            edge_quiet e = quiet_news t reflectors w then_down n (λ q k.
                ap (λ c. if c then option_map (through t n) (to_reflect t reflectors w n q k)
                else own_offer t w.config n k) e
                ∙ sym (ap (λ c. if c then option_map (through t n)
                (to_reflect t reflectors then_down n q k) else own_offer t then_down.config n k) e))

    pub letters_down : letters_in t reflectors l (after t reflectors w (step.BgpDown a b)).flying
        ≡ filter (λ (letter : Letter). not (mail.is_between a.0 b.0 letter)) (letters_in t reflectors l w.flying) ++ (news_at a.0 b.0 ++ news_at b.0 a.0)
    letters_down =
        map-append (letter_in t reflectors l) then_down.flying (said_in t reflectors w then_down (step.BgpDown a b))
        ∙ ap (λ ls. ls ++ letters_in t reflectors l (said_in t reflectors w then_down (step.BgpDown a b)))
        (sym (are_words t reflectors l a.0 b.0 w.flying).left)
        ∙ ap (λ ns. filter (λ (letter : Letter). not (mail.is_between a.0 b.0 letter)) (letters_in t reflectors l w.flying) ++ letters_in t reflectors l ns)
        (flat_two (news t reflectors w then_down) a.0 b.0 0 (length t.loopbacks) (omega arith) less (omega (arith, below))
        (λ n d e. quiet_news t reflectors w then_down n
        (λ p k. offers_same t reflectors w then_down n k (λ q. others_hear n d e q k) refl p)))
        ∙ ap (λ ns. filter (λ (letter : Letter). not (mail.is_between a.0 b.0 letter)) (letters_in t reflectors l w.flying) ++ ns)
        (map-append (letter_in t reflectors l) (news t reflectors w then_down a.0) (news t reflectors w then_down b.0)
        ∙ ap (λ xs. xs ++ letters_in t reflectors l (news t reflectors w then_down b.0)) (end_news a.0 b.0 (inl (refl, refl)) a_below)
        ∙ ap (λ xs. news_at a.0 b.0 ++ xs) (end_news b.0 a.0 (inr (refl, refl)) below))

    -- 3.2 What is decided

    kept_vrf : (n p : ℕ) (k : Key) → In (names_in (kept_in l w n p)) k → k.vrf < length t.vrfs
    kept_vrf n p k i =
        let m = in_map (λ (route : Heard). let key : Key = record { vrf = route.vrf; prefix = route.prefix } in key) (kept_in l w n p) k i in
        let x = kept_from l w n p (λ y. IsMade t w.config y.export) (λ y j. good.heard n p (Announce y) j) m.0 m.1 in
        subst (λ (z : Key). z.vrf < length t.vrfs) m.2 (subst (λ (r : Heard). r.vrf < length t.vrfs) x.2 x.1.vrf)

    pub record Decides (d : Decisions) : Type 0 where
      pub then_decided : Decisions
      pub ends_decided : AreDecided t reflectors then_down then_decided
      pub edges : edges_in t l then_down then_decided
          ≡ on_edge b.0 (decide_all t (by_address t reflectors) (kept_in l then_down b.0) b.0 (names_in (kept_in l w b.0 a.0)))
          (on_edge a.0 (decide_all t (by_address t reflectors) (kept_in l then_down a.0) a.0 (names_in (kept_in l w a.0 b.0))) (edges_in t l w d))

    module _ (d : Decisions) (old : AreDecided t reflectors w d) where
      -- at one end that is an edge, where the other end is none
      at_end : (n p : ℕ) (who : ((n ≡ a.0) × (p ≡ b.0)) ⊎ ((n ≡ b.0) × (p ≡ a.0))) (edge_is : is_edge t.vrfs n ≡ true) (other : is_edge t.vrfs p ≡ false) →
          n < length t.loopbacks →
          (e : Decisions) × AreDecided t reflectors then_down e
          × (edges_in t l then_down e ≡ on_edge n (decide_all t (by_address t reflectors) (kept_in l then_down n) n (names_in (kept_in l w n p)))
          (edges_in t l w d))
      at_end n p who edge_is other n_below =
          let named : (k : Key) (x : Offer) → from_reflectors t reflectors then_down n k ≡ Some x → (key_of x ≡ k) × IsMade t then_down.config x.export =
          (λ k x h. decides_of t reflectors l then_down later still n k x h) in
          let c = comes t reflectors l then_down lawful n edge_is named d (names_in (kept_in l w n p)) (λ k i. kept_vrf n p k i) (record {
            last = λ node k is v apart. first node k is v apart;
            told = λ node home m i. old.told node home m (contained_in (d node home) m i);
          }) in (
            c.then_decided,
            then_decided_are t reflectors l then_down lawful n edge_is named c.then_decided c.are,
            one_edge t l l w then_down d c.then_decided n
                (decide_all t (by_address t reflectors) (kept_in l then_down n) n (names_in (kept_in l w n p))) n_below (λ e. c.here) (λ x e. c.others x e),
          )
        where
          first : (node : ℕ) (k : Key) → is_edge t.vrfs node ≡ true → k.vrf < length t.vrfs → edge_of t k.vrf ≢ node →
              (decided k None (d node (edge_of t k.vrf)) ≡ option_map (λ o. o.export) (from_reflectors t reflectors then_down node k))
              ⊎ ((node ≡ n) × In (names_in (kept_in l w n p)) k)
          first node k is v apart = elim (eqb_tells node n) [
            | inl e ↦ elim (touched n p who k) [
              | inl i ↦ inr (e.1, i)
              | inr h ↦ inl (old.last node k is v apart ∙ ap (option_map (λ o. o.export))
                  (ap (λ x. from_reflectors t reflectors w x k) e.1 ∙ reflected_same t reflectors w then_down n k h
                  ∙ ap (λ x. from_reflectors t reflectors then_down x k) (sym e.1)))
            ]
            | inr e ↦ inl (old.last node k is v apart
                ∙ ap (option_map (λ o. o.export)) (reflected_same t reflectors w then_down node k (λ q. not_end node e.1 is q k)))
          ]
            where
              not_end : (node : ℕ) → node ≢ n → is_edge t.vrfs node ≡ true → (q : ℕ) (k : Key) → announced_by w node q k ≡ announced_by then_down node q k
              not_end node g is q k = others_hear node (λ e. elim who [
                | inl f ↦ g (e ∙ sym f.0)
                | inr f ↦ no (sym other ∙ ap (is_edge t.vrfs) (f.1 ∙ sym e) ∙ is)
              ]) (λ e. elim who [
                | inl f ↦ no (sym other ∙ ap (is_edge t.vrfs) (f.1 ∙ sym e) ∙ is)
                | inr f ↦ g (e ∙ sym f.0)
              ]) q k

      -- neither end is an edge
      no_end : is_edge t.vrfs a.0 ≡ false → is_edge t.vrfs b.0 ≡ false → AreDecided t reflectors then_down d
      no_end f g = record {
        last = λ node k is v apart. old.last node k is v apart ∙ ap (option_map (λ o. o.export))
            (reflected_same t reflectors w then_down node k
            (λ q. others_hear node (λ e. no (sym f ∙ ap (is_edge t.vrfs) (sym e) ∙ is)) (λ e. no (sym g ∙ ap (is_edge t.vrfs) (sym e) ∙ is)) q k));
        told = λ node home m i. old.told node home m i;
      }

      abbrev at_a : Edge → Edge
      at_a = decide_all t (by_address t reflectors) (kept_in l then_down a.0) a.0 (names_in (kept_in l w a.0 b.0))

      abbrev at_b : Edge → Edge
      at_b = decide_all t (by_address t reflectors) (kept_in l then_down b.0) b.0 (names_in (kept_in l w b.0 a.0))

      pub decides : (is_edge t.vrfs a.0 ≡ false) ⊎ (is_edge t.vrfs b.0 ≡ false) → Decides d
      decides one = by (is_edge t.vrfs a.0) refl (is_edge t.vrfs b.0) refl one
        where
          by : (x : Bool) → is_edge t.vrfs a.0 ≡ x → (y : Bool) → is_edge t.vrfs b.0 ≡ y → (is_edge t.vrfs a.0 ≡ false) ⊎ (is_edge t.vrfs b.0 ≡ false) →
              Decides d
          by true f true g h = elim h [ inl q ↦ absurd (no (sym q ∙ f)) | inr q ↦ absurd (no (sym q ∙ g)) ]
          by true f false g h =
              (let c = at_end a.0 b.0 (inl (refl, refl)) f g a_below in record {
                then_decided = c.0;
                ends_decided = c.1;
                edges = sym (no_edge t l then_down c.0 b.0 at_b below g) ∙ ap (on_edge b.0 at_b) c.2;
              })
          by false f true g h =
              (let c = at_end b.0 a.0 (inr (refl, refl)) g f below in record {
                then_decided = c.0;
                ends_decided = c.1;
                edges = c.2 ∙ ap (on_edge b.0 at_b) (sym (no_edge t l w d a.0 at_a a_below f));
              })
          by false f false g h = record {
            then_decided = d;
            ends_decided = no_end f g;
            edges = sym (ap (on_edge b.0 at_b) (no_edge t l w d a.0 at_a a_below f) ∙ no_edge t l w d b.0 at_b below g);
          }

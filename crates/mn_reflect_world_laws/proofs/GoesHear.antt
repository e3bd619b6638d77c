-- A word is received: a session goes on, a reflector passes routes on, and an edge decides on them.
use Rattle.std.proofs.Common.{ℕ, zero, suc, ◌≡◌, ◌≢◌, ◌<◌, ◌≤◌, ◌⊎◌, inl, inr, Bool, true, false, List, [], ◌∷◌, ◌++◌, map, length, Some, None, Option}
use Rattle.std.proofs.Common.{refl, arith, sym, ◌∙◌, ap, subst, append-nil}
use Rattle.std.specs.Prelude.{if◌then◌else◌, slice_index_or, option_map}
use Rattle.std.specs.List.{flat_map}
use Rattle.std.proofs.lemmas.Bool.Decides.{eqb_tells}
use Rattle.std.proofs.lemmas.List.{map-append}
use Rattle.mn_base.specs.declared.numbers.NodeNo.{NodeNo}
use Rattle.mn_base.specs.Ordered.{Ascends}
use Rattle.mn_base.proofs.Bools.{no, two_ways}
use Rattle.mn_base.proofs.Members.{In, contained_in}
use Rattle.mn_wiring.specs.Wiring.{nodes_of}
use Rattle.mn_topo.specs.Network.{Network, wiring_of}
use Rattle.mn_topo.specs.Lawful.{IsLawful}
use Rattle.mn_topo.specs.VrfTable.{is_edge}
use Rattle.mn_topo.specs.declared.steps.Step.TheVariants as step
use Rattle.mn_ledger.specs.Tables.{put_pair}
use Rattle.mn_ledger.specs.Exports.{exports_of}
use Rattle.mn_ledger.specs.Bgp.{peers_live}
use Rattle.mn_ledger.proofs.GoingBy.{pair_here, pair_off}
use Rattle.mn_bgp_spelling_laws.specs.Spelling.{Labels}
use Rattle.mn_pe.specs.Edge.{Edge}
use Rattle.mn_routing_laws.specs.Sending.{peers_from}
use Rattle.mn_routing_laws.proofs.Present.{exported}
use Rattle.mn_mail.specs.Mail.{Letter}
use Rattle.mn_mail.specs.Mail as mail
use Rattle.mn_reflect_ledger_laws.specs.Words.{Key, Offer, Word, Open, KeepAlive, Announce, Withdraw, key_of, same_key, key_before, mentioned, last_mention}
use Rattle.mn_reflect_ledger_laws.specs.Picks.{ReflectWorld, announced_by, by_address, from_reflectors, own_offer, through, to_reflect, is_reflector}
use Rattle.mn_reflect_ledger_laws.specs.Picks.{is_established}
use Rattle.mn_reflect_ledger_laws.specs.World.{first_word, without_first, heard_one, unsaid, says, reply, replies, news, said_in, after, all_offers}
use Rattle.mn_reflect_ledger_laws.proofs.Mentions.{same_keys}
use Rattle.mn_reflect_ledger_laws.proofs.Offering.{IsWithin}
use Rattle.mn_reflect_ledger_laws.proofs.Saying.{flat_one}
use Rattle.mn_reflect_world_laws.specs.Kept.{kept_in, all_kept}
use Rattle.mn_reflect_world_laws.specs.Spelling.{letter_in, letters_in}
use Rattle.mn_reflect_world_laws.specs.Edges.{Decisions, AreDecided}
use Rattle.mn_reflect_world_laws.specs.Now.{sessions_in, edges_in}
use Rattle.mn_reflect_world_laws.specs.Choice.{all_names}
use Rattle.mn_reflect_world_laws.specs.Letters.{keep_letter, reflector_news, reflector_offers, edge_news}
use Rattle.mn_reflect_world_laws.specs.Goes.{on_edge, decide_all, names_of}
use Rattle.mn_reflect_world_laws.proofs.Letters.{are_words}
use Rattle.mn_reflect_world_laws.proofs.Config.{IsInOrder, IsMade}
use Rattle.mn_reflect_world_laws.proofs.Said.{AreGood, IsGood}
use Rattle.mn_reflect_world_laws.proofs.Talk.{IsMention}
use Rattle.mn_reflect_world_laws.proofs.Telling.{news_is}
use Rattle.mn_reflect_world_laws.proofs.Offers.{offers_are}
use Rattle.mn_reflect_world_laws.proofs.EdgeSteps.{one_edge}
use Rattle.mn_reflect_world_laws.proofs.EdgeLetters.{edge_offers}
use Rattle.mn_reflect_world_laws.proofs.Deciding.{comes, then_decided_are}
use Rattle.mn_reflect_world_laws.proofs.Same.{offers_same, reflected_same, quiet_news, one_more}
use Rattle.mn_reflect_world_laws.proofs.GoesDown.{offers_of, decides_of, no_edge}

module _ (t : Network) (reflectors : List ℕ) (l : Labels) (w : ReflectWorld) (lawful : IsLawful t) (a b : NodeNo) (differ : a.0 ≢ b.0)
    (a_below : a.0 < length t.loopbacks)
    (b_below : b.0 < length t.loopbacks) (word : Word) (first : first_word a.0 b.0 w.flying ≡ Some word) (live : peers_live w.config b.0 a.0 ≡ true)
    (order : IsInOrder t w.config l) (good : AreGood t w.config w) (within : IsWithin t w) where
  abbrev pub then_heard : ReflectWorld
  then_heard = unsaid w (step.HearBgp a b)

  heard_is : (n p : ℕ) → then_heard.heard n p ≡ put_pair w.heard b.0 a.0 (w.heard b.0 a.0 ++ word ∷ []) n p
  heard_is n p = ap (λ o. (heard_one w a.0 b.0 o).heard n p) first

  flies : then_heard.flying ≡ without_first a.0 b.0 w.flying
  flies = ap (λ o. (heard_one w a.0 b.0 o).flying) first

  same_config : (o : Option Word) → (heard_one w a.0 b.0 o).config ≡ w.config
  same_config None = refl
  same_config (Some v) = refl

  -- the name that the word is of
  abbrev IsOfName : Key → Type 0
  IsOfName k = In (names_of word) k

  elsewhere : (n p : ℕ) → (n ≢ b.0) ⊎ (p ≢ a.0) → (k : Key) → announced_by w n p k ≡ announced_by then_heard n p k
  elsewhere n p d k =
      ap (λ ws. if peers_live w.config n p then last_mention k None ws else None)
      (sym (heard_is n p ∙ pair_off w.heard b.0 a.0 (w.heard b.0 a.0 ++ word ∷ []) n p d))

  touched : (k : Key) → IsOfName k ⊎ ((p : ℕ) → announced_by w b.0 p k ≡ announced_by then_heard b.0 p k)
  touched k = by word refl
    where
      said_nothing : mentioned k (last_mention k None (w.heard b.0 a.0)) word ≡ last_mention k None (w.heard b.0 a.0) →
          (p : ℕ) → announced_by w b.0 p k ≡ announced_by then_heard b.0 p k
      said_nothing h p = elim (eqb_tells p a.0) [
        | inr d ↦ elsewhere b.0 p (inr d.1) k
        | inl e ↦ ap (λ q. announced_by w b.0 q k) e.1
            ∙ ap (λ o. if peers_live w.config b.0 a.0 then o else None) (sym (one_more k (w.heard b.0 a.0) word h))
            ∙ ap (λ ws. if peers_live w.config b.0 a.0 then last_mention k None ws else None)
            (sym (heard_is b.0 a.0 ∙ pair_here w.heard b.0 a.0 (w.heard b.0 a.0 ++ word ∷ [])))
            ∙ ap (λ q. announced_by then_heard b.0 q k) (sym e.1)
      ]

      by : (v : Word) → v ≡ word → IsOfName k ⊎ ((p : ℕ) → announced_by w b.0 p k ≡ announced_by then_heard b.0 p k)
      by Open e = inr (said_nothing (ap (mentioned k (last_mention k None (w.heard b.0 a.0))) (sym e)))
      by KeepAlive e = inr (said_nothing (ap (mentioned k (last_mention k None (w.heard b.0 a.0))) (sym e)))
      by (Announce x) e = elim (two_ways (same_key k (key_of x))) [
        | inl h ↦ inl (subst (λ v. In (names_of v) k) e (inl (sym (same_keys k (key_of x) h))))
        | inr h ↦ inr (said_nothing (ap (mentioned k (last_mention k None (w.heard b.0 a.0))) (sym e)
            ∙ ap (λ c. if c then Some x else last_mention k None (w.heard b.0 a.0)) h))
      ]
      by (Withdraw j) e = elim (two_ways (same_key k j)) [
        | inl h ↦ inl (subst (λ v. In (names_of v) k) e (inl (sym (same_keys k j h))))
        | inr h ↦ inr (said_nothing (ap (mentioned k (last_mention k None (w.heard b.0 a.0))) (sym e)
            ∙ ap (λ c. if c then None else last_mention k None (w.heard b.0 a.0)) h))
      ]

  others_hear : (n : ℕ) → n ≢ b.0 → (p : ℕ) (k : Key) → announced_by w n p k ≡ announced_by then_heard n p k
  others_hear n d p k = elsewhere n p (inl d) k

  -- 1. What is sent

  others_quiet : (n : ℕ) → n ≢ b.0 → news t reflectors w then_heard n ≡ []
  others_quiet n d = quiet_news t reflectors w then_heard n (λ p k. offers_same t reflectors w then_heard n k (λ q. others_hear n d q k) refl p)

  all_news : flat_map (news t reflectors w then_heard) (nodes_of (wiring_of t)) ≡ news t reflectors w then_heard b.0
  all_news = flat_one (news t reflectors w then_heard) b.0 0 (length t.loopbacks) (omega arith) (omega (arith, b_below)) others_quiet

  -- an edge's offers are its own
  edge_quiet : is_reflector reflectors b.0 ≡ false → news t reflectors w then_heard b.0 ≡ []
  edge_quiet e = quiet_news t reflectors w then_heard b.0 (λ p k.
      ap (λ c. if c then option_map (through t b.0) (to_reflect t reflectors w b.0 p k) else own_offer t w.config b.0 k) e
      ∙ sym (ap (λ c. if c then option_map (through t b.0) (to_reflect t reflectors then_heard b.0 p k) else own_offer t then_heard.config b.0 k) e))

  -- a word of no route brings no news
  plain_quiet : names_of word ≡ [] → news t reflectors w then_heard b.0 ≡ []
  plain_quiet none = quiet_news t reflectors w then_heard b.0 (λ p k. offers_same t reflectors w then_heard b.0 k (λ q. elim (touched k) [
    | inl i ↦ absurd (subst (λ ks. In ks k) none i)
    | inr h ↦ h q
  ]) refl p)

  abbrev pub answer : List Word
  answer = reply t reflectors then_heard b.0 a.0 (length (w.heard b.0 a.0)) (Some word)

  letters_then : letters_in t reflectors l (after t reflectors w (step.HearBgp a b)).flying
      ≡ mail.without_first a.0 b.0 (letters_in t reflectors l w.flying)
      ++ (letters_in t reflectors l (says b.0 a.0 answer) ++ letters_in t reflectors l (news t reflectors w then_heard b.0))
  letters_then =
      map-append (letter_in t reflectors l) then_heard.flying (said_in t reflectors w then_heard (step.HearBgp a b))
      ∙ ap (λ ls. letters_in t reflectors l ls ++ letters_in t reflectors l (said_in t reflectors w then_heard (step.HearBgp a b))) flies
      ∙ ap (λ ls. ls ++ letters_in t reflectors l (said_in t reflectors w then_heard (step.HearBgp a b)))
      (sym (are_words t reflectors l a.0 b.0 w.flying).others)
      ∙ ap (λ ls. mail.without_first a.0 b.0 (letters_in t reflectors l w.flying) ++ ls)
      (map-append (letter_in t reflectors l) (replies t reflectors w then_heard (step.HearBgp a b))
      (flat_map (news t reflectors w then_heard) (nodes_of (wiring_of t)))
      ∙ ap (λ o. letters_in t reflectors l (says b.0 a.0 (reply t reflectors then_heard b.0 a.0 (length (w.heard b.0 a.0)) o))
      ++ letters_in t reflectors l (flat_map (news t reflectors w then_heard) (nodes_of (wiring_of t)))) first
      ∙ ap (λ ns. letters_in t reflectors l (says b.0 a.0 answer) ++ letters_in t reflectors l ns) all_news)

  module _ (later : IsInOrder t then_heard.config l) (still : AreGood t then_heard.config then_heard) (within_then : IsWithin t then_heard) where
    -- a word that names no route is answered, and changes nothing else
    letters_reply : (n : ℕ) (v : Word) → word ≡ v → names_of v ≡ [] → length (w.heard b.0 a.0) ≡ n
        → letters_in t reflectors l (after t reflectors w (step.HearBgp a b)).flying
        ≡ mail.without_first a.0 b.0 (letters_in t reflectors l w.flying)
        ++ letters_in t reflectors l (says b.0 a.0 (reply t reflectors then_heard b.0 a.0 n (Some v)))
    letters_reply n v e none count =
        letters_then
        ∙ ap (λ ns. mail.without_first a.0 b.0 (letters_in t reflectors l w.flying)
        ++ (letters_in t reflectors l (says b.0 a.0 answer) ++ letters_in t reflectors l ns)) (plain_quiet (ap names_of e ∙ none))
        ∙ ap (λ ws. mail.without_first a.0 b.0 (letters_in t reflectors l w.flying) ++ ws) (append-nil (letters_in t reflectors l (says b.0 a.0 answer)))
        ∙ ap (λ c. mail.without_first a.0 b.0 (letters_in t reflectors l w.flying)
        ++ letters_in t reflectors l (says b.0 a.0 (reply t reflectors then_heard b.0 a.0 c (Some word)))) count
        ∙ ap (λ v. mail.without_first a.0 b.0 (letters_in t reflectors l w.flying)
        ++ letters_in t reflectors l (says b.0 a.0 (reply t reflectors then_heard b.0 a.0 n (Some v)))) e

    -- OPEN is answered by KEEPALIVE
    pub letters_open : word ≡ Open → length (w.heard b.0 a.0) ≡ 0 → letters_in t reflectors l (after t reflectors w (step.HearBgp a b)).flying
        ≡ mail.without_first a.0 b.0 (letters_in t reflectors l w.flying) ++ keep_letter b.0 a.0 ∷ []
    letters_open e count = letters_reply 0 Open e refl count

    -- and KEEPALIVE by all that is offered
    pub letters_keep : word ≡ KeepAlive → length (w.heard b.0 a.0) ≡ 1 → letters_in t reflectors l (after t reflectors w (step.HearBgp a b)).flying
        ≡ mail.without_first a.0 b.0 (letters_in t reflectors l w.flying)
        ++ (if is_reflector reflectors b.0
        then reflector_offers t (by_address t reflectors) b.0 a.0 (kept_in l then_heard b.0) (all_names (slice_index_or (all_kept t l then_heard) b.0 []))
        else edge_news t b.0 (record { 0 = a.0 } ∷ []) true (map (exported t l) (exports_of t w.config b.0)))
    letters_keep e count =
        letters_reply 1 KeepAlive e refl count
        ∙ ap (λ ls. mail.without_first a.0 b.0 (letters_in t reflectors l w.flying) ++ ls) (by (is_reflector reflectors b.0) refl)
      where
        by : (r : Bool) → is_reflector reflectors b.0 ≡ r → letters_in t reflectors l (says b.0 a.0 (all_offers t reflectors then_heard b.0 a.0))
            ≡ (if r then reflector_offers t (by_address t reflectors) b.0 a.0 (kept_in l then_heard b.0)
            (all_names (slice_index_or (all_kept t l then_heard) b.0 []))
            else edge_news t b.0 (record { 0 = a.0 } ∷ []) true (map (exported t l) (exports_of t w.config b.0)))
        by true q = offers_are t reflectors l then_heard b.0 a.0 q b_below then_heard.config later.given
            (λ k. offers_of t reflectors l then_heard later still b.0 a.0 q k) within_then
        by false q = edge_offers t reflectors l then_heard b.0 a.0 q lawful later

    -- a route is passed on by a reflector
    pub letters_tell : IsMention word → 2 ≤ length (w.heard b.0 a.0) → ((p : ℕ) → is_established then_heard b.0 p ≡ true → is_established w b.0 p ≡ true) →
        letters_in t reflectors l (after t reflectors w (step.HearBgp a b)).flying
        ≡ mail.without_first a.0 b.0 (letters_in t reflectors l w.flying)
        ++ (if is_reflector reflectors b.0
        then reflector_news t (by_address t reflectors) b.0 (peers_from 0 (slice_index_or (sessions_in t then_heard) b.0 [])) (kept_in l w b.0)
        (kept_in l then_heard b.0) (names_of word)
        else [])
    letters_tell mention count settled =
        letters_then
        ∙ ap (λ ws. mail.without_first a.0 b.0 (letters_in t reflectors l w.flying)
        ++ (letters_in t reflectors l (says b.0 a.0 ws) ++ letters_in t reflectors l (news t reflectors w then_heard b.0)))
        (silent (length (w.heard b.0 a.0)) count)
        ∙ ap (λ ls. mail.without_first a.0 b.0 (letters_in t reflectors l w.flying) ++ ls) (by (is_reflector reflectors b.0) refl)
      where
        silent : (c : ℕ) → 2 ≤ c → reply t reflectors then_heard b.0 a.0 c (Some word) ≡ []
        silent zero h = absurd (omega (arith, h))
        silent (suc zero) h = absurd (omega (arith, h))
        silent (suc (suc c)) h = refl

        one_up : (v : Word) → Ascends key_before (names_of v)
        one_up Open = tt
        one_up KeepAlive = tt
        one_up (Announce x) = (tt, tt)
        one_up (Withdraw k) = (tt, tt)

        by : (r : Bool) → is_reflector reflectors b.0 ≡ r → letters_in t reflectors l (news t reflectors w then_heard b.0)
            ≡ (if r then reflector_news t (by_address t reflectors) b.0 (peers_from 0 (slice_index_or (sessions_in t then_heard) b.0 [])) (kept_in l w b.0)
            (kept_in l then_heard b.0) (names_of word) else [])
        by true q =
            news_is t reflectors l w then_heard b.0 q b_below w.config order.given (λ p k. offers_of t reflectors l w order good b.0 p q k)
            (λ p k. offers_of t reflectors l then_heard later still b.0 p q k) settled within within_then (names_of word) (one_up word)
            (λ k. elim (touched k) [ inl i ↦ inl i | inr h ↦ inr (λ p. offers_same t reflectors w then_heard b.0 k h refl p) ])
        by false q = ap (letters_in t reflectors l) (edge_quiet q)

    -- 2. What is decided

    name_vrf : (v : Word) → v ≡ word → IsGood t w.config word → (k : Key) → In (names_of v) k → k.vrf < length t.vrfs
    name_vrf Open e g k i = absurd i
    name_vrf KeepAlive e g k i = absurd i
    name_vrf (Announce x) e g k i = elim i [
      | inl q ↦ subst (λ (z : Key). z.vrf < length t.vrfs) q (subst (IsGood t w.config) (sym e) g).vrf
      | inr j ↦ absurd j
    ]
    name_vrf (Withdraw j) e g k i = elim i [
      | inl q ↦ subst (λ (z : Key). z.vrf < length t.vrfs) q (subst (IsGood t w.config) (sym e) g).0
      | inr m ↦ absurd m
    ]

    pub record Decides (d : Decisions) : Type 0 where
      pub then_decided : Decisions
      pub are : AreDecided t reflectors then_heard then_decided
      pub edges : edges_in t l then_heard then_decided
          ≡ on_edge b.0 (decide_all t (by_address t reflectors) (kept_in l then_heard b.0) b.0 (names_of word)) (edges_in t l w d)

    abbrev taken_in : Edge → Edge
    taken_in = decide_all t (by_address t reflectors) (kept_in l then_heard b.0) b.0 (names_of word)

    pub decides : (d : Decisions) → AreDecided t reflectors w d → IsGood t w.config word → Decides d
    decides d old said = by (is_edge t.vrfs b.0) refl
      where
        named : (k : Key) (x : Offer) → from_reflectors t reflectors then_heard b.0 k ≡ Some x → (key_of x ≡ k) × IsMade t then_heard.config x.export
        named k x h = decides_of t reflectors l then_heard later still b.0 k x h

        by : (e : Bool) → is_edge t.vrfs b.0 ≡ e → Decides d
        by true e =
            (let c = comes t reflectors l then_heard lawful b.0 e named d (names_of word) (λ k i. name_vrf word refl said k i) (record {
              last = λ node k is v apart. elim (eqb_tells node b.0) [
                | inl q ↦ elim (touched k) [
                  | inl i ↦ inr (q.1, i)
                  | inr h ↦ inl (old.last node k is v apart ∙ ap (option_map (λ o. o.export))
                      (ap (λ x. from_reflectors t reflectors w x k) q.1 ∙ reflected_same t reflectors w then_heard b.0 k h
                      ∙ ap (λ x. from_reflectors t reflectors then_heard x k) (sym q.1)))
                ]
                | inr q ↦ inl (old.last node k is v apart
                    ∙ ap (option_map (λ o. o.export)) (reflected_same t reflectors w then_heard node k (λ p. others_hear node q.1 p k)))
              ];
              told = λ node home m i. old.told node home m (contained_in (d node home) m i);
            }) in record {
              then_decided = c.then_decided;
              are = then_decided_are t reflectors l then_heard lawful b.0 e named c.then_decided c.are;
              edges = one_edge t l l w then_heard d c.then_decided b.0 taken_in b_below (λ g. c.here) (λ x g. c.others x g);
            })
        by false e = record {
          then_decided = d;
          are = record {
            last = λ node k is v apart. old.last node k is v apart ∙ ap (option_map (λ o. o.export))
                (reflected_same t reflectors w then_heard node k (λ p. others_hear node (λ q. no (sym e ∙ ap (is_edge t.vrfs) (sym q) ∙ is)) p k));
            told = λ node home m i. old.told node home m i;
          };
          edges = sym (no_edge t l w d b.0 taken_in b_below e);
        }

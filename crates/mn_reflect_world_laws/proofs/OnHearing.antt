-- What the hearing of a word makes of what is kept stands for the world after it.
use Rattle.std.proofs.Common.{ℕ, ◌≡◌, ◌≢◌, ◌<◌, ◌≤◌, ◌⊎◌, inl, inr, Bool, true, false, List, [], ◌∷◌, ◌++◌, map, length, Some, None, Option}
use Rattle.std.proofs.Common.{refl, sym, ◌∙◌, ap, subst}
use Rattle.std.specs.Prelude.{◌&&◌, nat_le, if◌then◌else◌, slice_index_or, option_map}
use Rattle.std.proofs.lemmas.Bool.Decides.{eqb_tells}
use Rattle.mn_base.specs.declared.numbers.NodeNo.{NodeNo}
use Rattle.mn_base.proofs.Bools.{no, at_most_is}
use Rattle.mn_base.proofs.Members.{in_front}
use Rattle.mn_topo.specs.Network.{Network}
use Rattle.mn_topo.specs.Lawful.{IsLawful}
use Rattle.mn_topo.specs.VrfTable.{is_edge}
use Rattle.mn_topo.specs.declared.steps.Step.TheVariants as step
use Rattle.mn_bgp_spelling_laws.specs.Spelling.{Labels}
use Rattle.mn_pe.specs.Pe.{PeNow}
use Rattle.mn_pe.specs.Held.{Exported}
use Rattle.mn_pe.specs.Held as held
use Rattle.mn_ledger.specs.Bgp.{peers_live}
use Rattle.mn_ledger.specs.Exports.{exports_of}
use Rattle.mn_ledger.proofs.GoingBy.{pair_off}
use Rattle.mn_routing_laws.specs.Standing.{edge_in}
use Rattle.mn_routing_laws.specs.Routed.{working}
use Rattle.mn_routing_laws.specs.Sending.{peers_from}
use Rattle.mn_routing_laws.specs.Doing.{edge_or_blank}
use Rattle.mn_routing_laws.proofs.Exports.{exports_same}
use Rattle.mn_routing_laws.proofs.Present.{exported}
use Rattle.mn_routing_laws.proofs.Tables.{map_numbers_at}
use Rattle.mn_offers.specs.Heard.{Heard}
use Rattle.mn_mail.specs.Mail.{Letter}
use Rattle.mn_mail.specs.Mail as mail
use Rattle.mn_reflect_ledger_laws.specs.Words.{Word, Open, KeepAlive, Announce, Withdraw}
use Rattle.mn_reflect_ledger_laws.specs.Picks.{ReflectWorld, by_address, is_reflector, is_established}
use Rattle.mn_reflect_ledger_laws.specs.World.{first_word, heard_one, unsaid, after}
use Rattle.mn_reflect_ledger_laws.specs.Quiet.{AreReflectors}
use Rattle.mn_reflect_world_laws.specs.Kept.{kept_in, all_kept}
use Rattle.mn_reflect_world_laws.specs.Spelling.{letters_in}
use Rattle.mn_reflect_world_laws.specs.Edges.{Decisions, all_live, as_peerings}
use Rattle.mn_reflect_world_laws.specs.Now.{ReflectNow, sessions_in, edge_or_none, edges_in, StandsFor}
use Rattle.mn_reflect_world_laws.specs.Choice.{Row, row_at, all_names}
use Rattle.mn_reflect_world_laws.specs.Letters.{reflector_news, reflector_offers, edge_news}
use Rattle.mn_reflect_world_laws.specs.Goes.{sessions_hear, heard_hear, on_edge, edge_of_node, decide_all, steady_of, offering_letters, hearing_letters}
use Rattle.mn_reflect_world_laws.specs.Goes.{names_of, Goes}
use Rattle.mn_reflect_world_laws.proofs.Addresses.{still_reflector}
use Rattle.mn_reflect_world_laws.proofs.Run.{IsRest}
use Rattle.mn_reflect_world_laws.proofs.Said.{AreGood, IsGood, first_in}
use Rattle.mn_reflect_world_laws.proofs.Talk.{IsMention}
use Rattle.mn_reflect_world_laws.proofs.Turn.{InTurn, Opens, Keeps, Tells, hearer_lives, turn_is}
use Rattle.mn_reflect_world_laws.proofs.Parts.{heard_hears, sessions_hears}
use Rattle.mn_reflect_world_laws.proofs.Same.{row_is}
use Rattle.mn_reflect_world_laws.proofs.GoesHear as hear
use Rattle.mn_reflect_world_laws.proofs.GoesOn.{IsThen}

-- the edge at a node
pub edge_there : (t : Network) (l : Labels) (w : ReflectWorld) (d : Decisions) (n : ℕ) → n < length t.loopbacks → is_edge t.vrfs n ≡ true →
    edge_of_node (edges_in t l w d) n ≡ edge_in t l (all_live t w.config) (as_peerings d) n
edge_there t l w d n below is =
    ap edge_or_blank (map_numbers_at (λ x. option_map working (edge_or_none t l w d x)) (length t.loopbacks) n None below)
    ∙ ap (λ b. edge_or_blank (option_map working (if b then Some (edge_in t l (all_live t w.config) (as_peerings d) n) else None))) is

module _ (t : Network) (reflectors : List ℕ) (l : Labels) (w : ReflectWorld) (now new : ReflectNow) (st : StandsFor t reflectors l w now) (lawful : IsLawful t)
    (are : AreReflectors t reflectors) (a b : NodeNo) (differ : a.0 ≢ b.0) (a_below : a.0 < length t.loopbacks) (b_below : b.0 < length t.loopbacks)
    (either : (is_reflector reflectors b.0 ≡ true) ⊎ (is_edge t.vrfs b.0 ≡ true)) (word : Word)
    (first : first_word a.0 b.0 w.flying ≡ Some word) (rest : IsRest t reflectors w l)
    (rest_then : IsRest t reflectors (after t reflectors w (step.HearBgp a b)) l)
    (g : Goes t reflectors l (Some word) now new (step.HearBgp a b)) where
  abbrev u : ReflectWorld
  u = unsaid w (step.HearBgp a b)

  live : peers_live w.config b.0 a.0 ≡ true
  live = hearer_lives t reflectors w rest.run a.0 b.0 differ a_below b_below word first

  turn : InTurn word (length (w.heard b.0 a.0))
  turn = turn_is t reflectors w rest.run a.0 b.0 differ a_below b_below word first rest.talk

  kept_now : AreGood t u.config u
  kept_now = record { heard = rest_then.good.heard; flying = λ s i. rest_then.good.flying s (in_front u.flying _ s i) }

  heard_now : new.heard ≡ all_kept t l u
  heard_now = g.heard ∙ ap (heard_hear l b.0 a.0 word) st.heard ∙ sym (heard_hears t reflectors l w a b word a_below b_below live first)

  old_row : row_at now.heard b.0 ≡ kept_in l w b.0
  old_row = ap (λ hs. row_at hs b.0) st.heard ∙ row_is t l w rest.run.within b.0 b_below

  new_row : row_at new.heard b.0 ≡ kept_in l u b.0
  new_row = ap (λ hs. row_at hs b.0) heard_now ∙ row_is t l u rest_then.run.within b.0 b_below

  sessions_now : new.sessions ≡ sessions_in t u
  sessions_now = g.sessions ∙ ap (sessions_hear t b.0 a.0 word) st.sessions ∙ sym (sessions_hears t reflectors w a b word a_below b_below live turn first)

  word_good : IsGood t w.config word
  word_good = let f = first_in a.0 b.0 w.flying word first in subst (IsGood t w.config) f.4 (rest.good.flying f.0 f.1)

  decides : hear.Decides t reflectors l w lawful a b differ a_below b_below word first live rest.order rest.good rest.run.within rest_then.order kept_now
      rest_then.run.within st.decisions
  decides = hear.decides t reflectors l w lawful a b differ a_below b_below word first live rest.order rest.good rest.run.within rest_then.order kept_now
      rest_then.run.within st.decisions st.decided word_good

  abbrev at_hearer : List ℕ → Row → List (Option PeNow) → List (Option PeNow)
  at_hearer by row es = on_edge b.0 (decide_all t by row b.0 (names_of word)) es

  edges_now : new.edges ≡ edges_in t l u decides.then_decided
  edges_now =
      g.edges
      ∙ ap (λ by. at_hearer by (row_at new.heard b.0) now.edges) st.reflectors_are
      ∙ ap (λ row. at_hearer (by_address t reflectors) row now.edges) new_row
      ∙ ap (at_hearer (by_address t reflectors) (kept_in l u b.0)) st.edges
      ∙ sym decides.edges

  -- 1. What is sent

  abbrev front : List Letter
  front = mail.without_first a.0 b.0 (letters_in t reflectors l w.flying)

  abbrev offer : List ℕ → Bool → Row → List (List Heard) → List Exported → List Letter
  offer by is row rows exports =
      if is then reflector_offers t by b.0 a.0 row (all_names rows) else edge_news t b.0 (record { 0 = a.0 } ∷ []) true exports

  abbrev tell : List ℕ → Bool → List NodeNo → Row → Row → List Letter
  tell by is peers was row = if is then reflector_news t by b.0 peers was row (names_of word) else []

  offering : offering_letters t now.reflectors new b.0 a.0
      ≡ (if is_reflector reflectors b.0
      then reflector_offers t (by_address t reflectors) b.0 a.0 (kept_in l u b.0) (all_names (slice_index_or (all_kept t l u) b.0 []))
      else edge_news t b.0 (record { 0 = a.0 } ∷ []) true (map (exported t l) (exports_of t w.config b.0)))
  offering =
      ap (λ by. offer by (is_reflector by b.0) (row_at new.heard b.0) (slice_index_or new.heard b.0 []) (held.exports_of (edge_of_node new.edges b.0)))
      st.reflectors_are
      ∙ ap (λ is. offer (by_address t reflectors) is (row_at new.heard b.0) (slice_index_or new.heard b.0 []) (held.exports_of (edge_of_node new.edges b.0)))
      (still_reflector t reflectors b.0)
      ∙ ap (λ row. offer (by_address t reflectors) (is_reflector reflectors b.0) row (slice_index_or new.heard b.0 [])
      (held.exports_of (edge_of_node new.edges b.0)))
      new_row
      ∙ ap (λ hs. offer (by_address t reflectors) (is_reflector reflectors b.0) (kept_in l u b.0) (slice_index_or hs b.0 [])
      (held.exports_of (edge_of_node new.edges b.0))) heard_now
      ∙ by (is_reflector reflectors b.0) refl
    where
      exports : is_edge t.vrfs b.0 ≡ true → held.exports_of (edge_of_node new.edges b.0) ≡ map (exported t l) (exports_of t w.config b.0)
      exports e =
          ap (λ es. held.exports_of (edge_of_node es b.0)) edges_now
          ∙ ap held.exports_of (edge_there t l u decides.then_decided b.0 b_below e)
          ∙ sym (exports_same t l (all_live t u.config) (as_peerings decides.then_decided) b.0 rest_then.order.statics rest_then.order.bounds.sites)

      by : (is : Bool) → is_reflector reflectors b.0 ≡ is →
          offer (by_address t reflectors) is (kept_in l u b.0) (slice_index_or (all_kept t l u) b.0 []) (held.exports_of (edge_of_node new.edges b.0))
          ≡ (if is then reflector_offers t (by_address t reflectors) b.0 a.0 (kept_in l u b.0) (all_names (slice_index_or (all_kept t l u) b.0 []))
          else edge_news t b.0 (record { 0 = a.0 } ∷ []) true (map (exported t l) (exports_of t w.config b.0)))
      by true q = refl
      by false q = ap (edge_news t b.0 (record { 0 = a.0 } ∷ []) true) (exports (elim either [ inl r ↦ absurd (no (sym q ∙ r)) | inr r ↦ r ]))

  telling : (if is_reflector now.reflectors b.0
      then reflector_news t now.reflectors b.0 (steady_of new.sessions b.0) (row_at now.heard b.0) (row_at new.heard b.0) (names_of word) else [])
      ≡ (if is_reflector reflectors b.0
      then reflector_news t (by_address t reflectors) b.0 (peers_from 0 (slice_index_or (sessions_in t u) b.0 [])) (kept_in l w b.0) (kept_in l u b.0)
      (names_of word)
      else [])
  telling =
      ap (λ by. tell by (is_reflector by b.0) (steady_of new.sessions b.0) (row_at now.heard b.0) (row_at new.heard b.0)) st.reflectors_are
      ∙ ap (λ is. tell (by_address t reflectors) is (steady_of new.sessions b.0) (row_at now.heard b.0) (row_at new.heard b.0))
      (still_reflector t reflectors b.0)
      ∙ ap (λ ss. tell (by_address t reflectors) (is_reflector reflectors b.0) (steady_of ss b.0) (row_at now.heard b.0) (row_at new.heard b.0)) sessions_now
      ∙ ap (λ row. tell (by_address t reflectors) (is_reflector reflectors b.0) (steady_of (sessions_in t u) b.0) row (row_at new.heard b.0)) old_row
      ∙ ap (tell (by_address t reflectors) (is_reflector reflectors b.0) (steady_of (sessions_in t u) b.0) (kept_in l w b.0)) new_row

  settled : 2 ≤ length (w.heard b.0 a.0) → (p : ℕ) → is_established u b.0 p ≡ true → is_established w b.0 p ≡ true
  settled h p e = elim (eqb_tells p a.0) [
    | inl q ↦ subst (λ x. is_established w b.0 x ≡ true) (sym q.1)
        (ap (λ x. x && nat_le 2 (length (w.heard b.0 a.0))) live ∙ at_most_is 2 (length (w.heard b.0 a.0)) h)
    | inr q ↦ ap (λ ws. peers_live w.config b.0 p && nat_le 2 (length ws))
        (sym (ap (λ o. (heard_one w a.0 b.0 o).heard b.0 p) first ∙ pair_off w.heard b.0 a.0 (w.heard b.0 a.0 ++ word ∷ []) b.0 p (inr q.1))) ∙ e
  ]

  letters_now : new.mail.letters ≡ letters_in t reflectors l (after t reflectors w (step.HearBgp a b)).flying
  letters_now =
      g.letters
      ∙ ap (λ ls. mail.without_first a.0 b.0 ls ++ hearing_letters t now.reflectors now new b.0 a.0 word) st.letters
      ∙ by_turn turn
    where
      by_turn : InTurn word (length (w.heard b.0 a.0)) → front ++ hearing_letters t now.reflectors now new b.0 a.0 word
          ≡ letters_in t reflectors l (after t reflectors w (step.HearBgp a b)).flying
      by_turn (Opens e q) =
          ap (λ v. front ++ hearing_letters t now.reflectors now new b.0 a.0 v) e
          ∙ sym (hear.letters_open t reflectors l w lawful a b differ a_below b_below word first live rest.order rest.good rest.run.within rest_then.order
          kept_now
          rest_then.run.within e q)
      by_turn (Keeps e q) =
          ap (λ v. front ++ hearing_letters t now.reflectors now new b.0 a.0 v) e
          ∙ ap (λ ls. front ++ ls) offering
          ∙ sym (hear.letters_keep t reflectors l w lawful a b differ a_below b_below word first live rest.order rest.good rest.run.within rest_then.order
          kept_now
          rest_then.run.within e q)
      by_turn (Tells m h) =
          ap (λ ls. front ++ ls) (mention word refl m ∙ telling)
          ∙ sym (hear.letters_tell t reflectors l w lawful a b differ a_below b_below word first live rest.order rest.good rest.run.within rest_then.order
          kept_now
          rest_then.run.within m h (settled h))
        where
          mention : (v : Word) → v ≡ word → IsMention v → hearing_letters t now.reflectors now new b.0 a.0 v
              ≡ (if is_reflector now.reflectors b.0
              then reflector_news t now.reflectors b.0 (steady_of new.sessions b.0) (row_at now.heard b.0) (row_at new.heard b.0) (names_of v) else [])
          mention (Announce x) e m = refl
          mention (Withdraw k) e m = refl
          mention Open e m = absurd m
          mention KeepAlive e m = absurd m

  pub then_hears : IsThen t reflectors l (after t reflectors w (step.HearBgp a b)) new
  then_hears = record {
    decisions = decides.then_decided;
    decided = record { last = decides.are.last; told = decides.are.told };
    edges = edges_now;
    sessions = sessions_now;
    heard = heard_now;
    attachments = g.attachments ∙ st.attachments;
    statics = g.statics ∙ st.statics;
    letters = letters_now;
  }

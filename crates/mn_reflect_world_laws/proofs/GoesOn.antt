-- What a step makes of what is kept stands for the world after it.
use Rattle.std.proofs.Common.{ℕ, ◌≡◌, ◌<◌, ◌⊎◌, inl, inr, Bool, true, false, List, [], ◌∷◌, ◌++◌, map, filter, length, None, Option}
use Rattle.std.proofs.Common.{arith, sym, ◌∙◌, ap}
use Rattle.std.specs.Prelude.{◌==◌, ◌&&◌, ◌||◌, not, if◌then◌else◌, slice_index_or, option_map}
use Rattle.mn_base.specs.declared.numbers.NodeNo.{NodeNo}
use Rattle.mn_base.proofs.Bools.{and_left, and_right, or_ways}
use Rattle.mn_base.proofs.Members.{in_front}
use Rattle.mn_wiring.specs.Wiring.{nodes_of}
use Rattle.mn_topo.specs.Network.{Network, wiring_of}
use Rattle.mn_topo.specs.Lawful.{IsLawful}
use Rattle.mn_topo.specs.VrfTable.{is_edge}
use Rattle.mn_topo.specs.declared.steps.Step.TheVariants as step
use Rattle.mn_bgp_spelling_laws.specs.Spelling.{Labels}
use Rattle.mn_pe.specs.Pe.{PeNow}
use Rattle.mn_routing_laws.specs.Sending.{peers_from}
use Rattle.mn_offers.specs.Heard.{Heard}
use Rattle.mn_mail.specs.Mail.{Letter}
use Rattle.mn_mail.specs.Mail as mail
use Rattle.mn_reflect_ledger_laws.specs.Picks.{ReflectWorld, by_address, is_reflector}
use Rattle.mn_reflect_ledger_laws.specs.World.{unsaid, after}
use Rattle.mn_reflect_ledger_laws.specs.Quiet.{AreReflectors}
use Rattle.mn_reflect_world_laws.specs.Labels.{attachments_at}
use Rattle.mn_reflect_world_laws.specs.Kept.{kept_in, all_kept}
use Rattle.mn_reflect_world_laws.specs.Spelling.{letters_in}
use Rattle.mn_reflect_world_laws.specs.Edges.{Decisions, AreDecided}
use Rattle.mn_reflect_world_laws.specs.Now.{ReflectNow, sessions_in, edges_in, StandsFor}
use Rattle.mn_reflect_world_laws.specs.Steps.{may_peer}
use Rattle.mn_reflect_world_laws.specs.Choice.{Row, row_at, names_in}
use Rattle.mn_reflect_world_laws.specs.Letters.{open_letter, reflector_news}
use Rattle.mn_reflect_world_laws.specs.Goes.{sessions_after, heard_after, on_edge, decide_all, steady_of}
use Rattle.mn_reflect_world_laws.specs.Goes.{forgetting_letters, Goes}
use Rattle.mn_reflect_world_laws.proofs.Addresses.{still_reflector}
use Rattle.mn_reflect_world_laws.proofs.Run.{IsRest}
use Rattle.mn_reflect_world_laws.proofs.Said.{AreGood}
use Rattle.mn_reflect_world_laws.proofs.Parts.{heard_up, heard_down, sessions_up, sessions_down}
use Rattle.mn_reflect_world_laws.proofs.Same.{row_is, reflected_same}
use Rattle.mn_reflect_world_laws.proofs.GoesUp.{announced_up, letters_up}
use Rattle.mn_reflect_world_laws.proofs.GoesDown as down

-- the parts that stand for a world
pub record IsThen (t : Network) (reflectors : List ℕ) (l : Labels) (w : ReflectWorld) (new : ReflectNow) : Type 0 where
  pub decisions : Decisions
  pub decided : AreDecided t reflectors w decisions
  pub edges : new.edges ≡ edges_in t l w decisions
  pub sessions : new.sessions ≡ sessions_in t w
  pub heard : new.heard ≡ all_kept t l w
  pub attachments : new.attachments ≡ map (attachments_at t w.config) (nodes_of (wiring_of t))
  pub statics : new.statics ≡ length w.config.statics
  pub letters : new.mail.letters ≡ letters_in t reflectors l w.flying

-- 1. A session begins

module _ (t : Network) (reflectors : List ℕ) (l : Labels) (w : ReflectWorld) (now new : ReflectNow) (st : StandsFor t reflectors l w now) where
  pub then_up : (a b : NodeNo) → a.0 < b.0 → b.0 < length t.loopbacks → w.config.bgp_on a.0 b.0 ≡ false →
      Goes t reflectors l None now new (step.BgpUp a b) → IsThen t reflectors l (after t reflectors w (step.BgpUp a b)) new
  then_up a b less below off g = record {
    decisions = st.decisions;
    decided = record {
      last = λ node k is v apart. st.decided.last node k is v apart ∙ ap (option_map (λ o. o.export))
          (reflected_same t reflectors w (unsaid w (step.BgpUp a b)) node k (λ q. announced_up t reflectors l w a b less off node q k));
      told = λ node home m i. st.decided.told node home m i;
    };
    edges = g.edges ∙ st.edges;
    sessions = g.sessions ∙ ap (λ ss. sessions_after t None ss (step.BgpUp a b)) st.sessions ∙ sym (sessions_up t reflectors w a b less below);
    heard = g.heard ∙ st.heard ∙ sym (heard_up t reflectors l w a b less off);
    attachments = g.attachments ∙ st.attachments;
    statics = g.statics ∙ st.statics;
    letters =
        g.letters
        ∙ ap (λ ls. filter (λ (letter : Letter). not (mail.is_between a.0 b.0 letter)) ls ++ open_letter t a.0 b.0 ∷ open_letter t b.0 a.0 ∷ []) st.letters
        ∙ sym (letters_up t reflectors l w a b less off);
  }

  -- 2. A session ends

  module _ (lawful : IsLawful t) (are : AreReflectors t reflectors) (a b : NodeNo) (less : a.0 < b.0) (below : b.0 < length t.loopbacks)
      (peers : may_peer t reflectors a.0 b.0 ≡ true) (rest : IsRest t reflectors w l)
      (rest_then : IsRest t reflectors (after t reflectors w (step.BgpDown a b)) l)
      (g : Goes t reflectors l None now new (step.BgpDown a b)) where
    abbrev u : ReflectWorld
    u = unsaid w (step.BgpDown a b)

    a_below : a.0 < length t.loopbacks
    a_below = omega (arith, less, below)

    kept_now : AreGood t u.config u
    kept_now = record { heard = rest_then.good.heard; flying = λ s i. rest_then.good.flying s (in_front u.flying _ s i) }

    heard_now : new.heard ≡ all_kept t l u
    heard_now = g.heard ∙ ap (λ hs. heard_after l None hs (step.BgpDown a b)) st.heard ∙ sym (heard_down t reflectors l w a b less below)

    old_row : (n : ℕ) → n < length t.loopbacks → row_at now.heard n ≡ kept_in l w n
    old_row n h = ap (λ hs. row_at hs n) st.heard ∙ row_is t l w rest.run.within n h

    new_row : (n : ℕ) → n < length t.loopbacks → row_at new.heard n ≡ kept_in l u n
    new_row n h = ap (λ hs. row_at hs n) heard_now ∙ row_is t l u rest_then.run.within n h

    -- one of the two is no edge
    one_no_edge : (is_edge t.vrfs a.0 ≡ false) ⊎ (is_edge t.vrfs b.0 ≡ false)
    one_no_edge = elim (or_ways (is_reflector reflectors a.0 && (is_reflector reflectors b.0 || is_edge t.vrfs b.0))
        (is_reflector reflectors b.0 && is_edge t.vrfs a.0)
        (and_right (not (a.0 == b.0)) _ peers)) [
          | inl e ↦ inl (are.no_edges a.0 (and_left (is_reflector reflectors a.0) _ e))
          | inr e ↦ inr (are.no_edges b.0 (and_left (is_reflector reflectors b.0) _ e))
        ]

    decides : down.Decides t reflectors l w lawful are a b less below rest.order rest.good rest.run.within rest_then.order kept_now rest_then.run.within
        st.decisions
    decides = down.decides t reflectors l w lawful are a b less below rest.order rest.good rest.run.within rest_then.order kept_now rest_then.run.within
        st.decisions st.decided one_no_edge

    abbrev at_two : List ℕ → Row → Row → List Heard → List Heard → List (Option PeNow) → List (Option PeNow)
    at_two by row_a row_b kept_a kept_b es =
        on_edge b.0 (decide_all t by row_b b.0 (names_in kept_b)) (on_edge a.0 (decide_all t by row_a a.0 (names_in kept_a)) es)

    edges_now : new.edges ≡ edges_in t l u decides.then_decided
    edges_now =
        g.edges
        ∙ ap (λ by. at_two by (row_at new.heard a.0) (row_at new.heard b.0) (row_at now.heard a.0 b.0) (row_at now.heard b.0 a.0) now.edges) st.reflectors_are
        ∙ ap (λ row. at_two (by_address t reflectors) row (row_at new.heard b.0) (row_at now.heard a.0 b.0) (row_at now.heard b.0 a.0) now.edges)
        (new_row a.0 a_below)
        ∙ ap (λ row. at_two (by_address t reflectors) (kept_in l u a.0) row (row_at now.heard a.0 b.0) (row_at now.heard b.0 a.0) now.edges) (new_row b.0 below)
        ∙ ap (λ (row : Row). at_two (by_address t reflectors) (kept_in l u a.0) (kept_in l u b.0) (row b.0) (row_at now.heard b.0 a.0) now.edges)
        (old_row a.0 a_below)
        ∙ ap (λ (row : Row). at_two (by_address t reflectors) (kept_in l u a.0) (kept_in l u b.0) (kept_in l w a.0 b.0) (row a.0) now.edges) (old_row b.0 below)
        ∙ ap (λ es. at_two (by_address t reflectors) (kept_in l u a.0) (kept_in l u b.0) (kept_in l w a.0 b.0) (kept_in l w b.0 a.0) es) st.edges
        ∙ sym decides.edges

    sessions_now : new.sessions ≡ sessions_in t u
    sessions_now = g.sessions ∙ ap (λ ss. sessions_after t None ss (step.BgpDown a b)) st.sessions ∙ sym (sessions_down t reflectors w a b less below)

    abbrev forget : List ℕ → Bool → List NodeNo → Row → Row → List Heard → ℕ → List Letter
    forget by is peers was row kept n = if is then reflector_news t by n peers was row (names_in kept) else []

    forgetting : (n p : ℕ) → n < length t.loopbacks → forgetting_letters t now.reflectors now new n p
        ≡ (if is_reflector reflectors n
        then reflector_news t (by_address t reflectors) n (peers_from 0 (slice_index_or (sessions_in t u) n [])) (kept_in l w n) (kept_in l u n)
        (names_in (kept_in l w n p)) else [])
    forgetting n p h =
        ap (λ by. forget by (is_reflector by n) (steady_of new.sessions n) (row_at now.heard n) (row_at new.heard n) (row_at now.heard n p) n) st.reflectors_are
        ∙ ap (λ is. forget (by_address t reflectors) is (steady_of new.sessions n) (row_at now.heard n) (row_at new.heard n) (row_at now.heard n p) n)
        (still_reflector t reflectors n)
        ∙ ap (λ ss. forget (by_address t reflectors) (is_reflector reflectors n) (steady_of ss n) (row_at now.heard n) (row_at new.heard n)
        (row_at now.heard n p) n)
        sessions_now
        ∙ ap (λ (row : Row). forget (by_address t reflectors) (is_reflector reflectors n) (steady_of (sessions_in t u) n) row (row_at new.heard n) (row p) n)
        (old_row n h)
        ∙ ap (λ (row : Row). forget (by_address t reflectors) (is_reflector reflectors n) (steady_of (sessions_in t u) n) (kept_in l w n) row
        (kept_in l w n p) n)
        (new_row n h)

    pub then_down : IsThen t reflectors l (after t reflectors w (step.BgpDown a b)) new
    then_down = record {
      decisions = decides.then_decided;
      decided = record { last = decides.ends_decided.last; told = decides.ends_decided.told };
      edges = edges_now;
      sessions = sessions_now;
      heard = heard_now;
      attachments = g.attachments ∙ st.attachments;
      statics = g.statics ∙ st.statics;
      letters =
          g.letters
          ∙ ap (λ ls. filter (λ (letter : Letter). not (mail.is_between a.0 b.0 letter)) ls
          ++ (forgetting_letters t now.reflectors now new a.0 b.0 ++ forgetting_letters t now.reflectors now new b.0 a.0)) st.letters
          ∙ ap (λ ls. filter (λ (letter : Letter). not (mail.is_between a.0 b.0 letter)) (letters_in t reflectors l w.flying)
          ++ (ls ++ forgetting_letters t now.reflectors now new b.0 a.0)) (forgetting a.0 b.0 a_below)
          ∙ ap (λ ls. filter (λ (letter : Letter). not (mail.is_between a.0 b.0 letter)) (letters_in t reflectors l w.flying)
          ++ ((if is_reflector reflectors a.0
          then reflector_news t (by_address t reflectors) a.0 (peers_from 0 (slice_index_or (sessions_in t u) a.0 [])) (kept_in l w a.0) (kept_in l u a.0)
          (names_in (kept_in l w a.0 b.0)) else []) ++ ls)) (forgetting b.0 a.0 below)
          ∙ sym (down.letters_down t reflectors l w lawful are a b less below rest.order rest.good rest.run.within rest_then.order kept_now
          rest_then.run.within);
    }

-- A node that has learned a change of a link.
use Rattle.std.proofs.Common.{ℕ, zero, suc, ◌≡◌, ◌+◌, ◌≤◌, Bool, true, false, List, [], ◌∷◌, ◌++◌, arith, length, map, refl, sym, ◌∙◌, ap, subst, Option}
use Rattle.std.specs.Prelude.{not, option_map, if◌then◌else◌}
use Rattle.std.specs.List.{flat_map, range_with_len}
use Rattle.mn_base.specs.declared.numbers.NodeNo.{NodeNo}
use Rattle.mn_wiring.specs.Wiring.{Wiring, nodes_of}
use Rattle.mn_wiring.specs.Paths.{next}
use Rattle.mn_linkdb.specs.Learned.{Learned, links_up, after_learn}
use Rattle.mn_linkdb.specs.PathTable.{PathTable, next_at}
use Rattle.mn_linkdb.specs.Trees.{IsTree, hop_alone}
use Rattle.mn_bindings.specs.declared.event.LibEvent.{LibEvent}
use Rattle.mn_bindings.specs.declared.event.LibEvent.TheVariants as event
use Rattle.mn_bindings.specs.Known.{rested_events}
use Rattle.mn_releases.specs.Rests.{Resting}
use Rattle.mn_labels.specs.Labels.{Labels}
use Rattle.mn_bindings.specs.Bindings.{Bindings, after_events}
use Rattle.mn_bindings.specs.Bindings as lib
use Rattle.mn_bindings.specs.Tells.{releases}
use Rattle.mn_node.specs.Node.{Node, view_in}
use Rattle.mn_node.specs.Machine.{Learns, changed}
use Rattle.mn_lsr.specs.declared.parts.Open.{Open}
use Rattle.mn_lsr.specs.declared.parts.Parts.{Parts}
use Rattle.mn_lsr.specs.Standing.{session_in, sessions_from}
use Rattle.mn_lsr.specs.Telling.{said_by_tell, MayTell}
use Rattle.mn_lsr.specs.Ties.{AreTied}
use Rattle.mn_lsr.specs.Parts.{FitsLabel, AreOwed, wiring_in, node_in, Stands, stays, hop_event, hop_events}
use Rattle.mn_lsr.proofs.Following.{follows, still_tied, may_follow, opens-none, releases-none}
use Rattle.mn_lsr.proofs.After.{Happens}

-- the next hops don't show in the sessions
sessions-hops : (w : Wiring) (me : ℕ) (b : Bindings) (hs : List (Option NodeNo)) (q : ℕ) (ends : List (Option Open)) →
    sessions_from w me (record b { hops = hs }) q ends ≡ sessions_from w me b q ends
sessions-hops w me b hs q [] = refl
sessions-hops w me b hs q (end ∷ ends) = ap (λ ss. option_map (session_in w me b q) end ∷ ss) (sessions-hops w me b hs (q + 1) ends)

-- there are no more than nodes
few-hops : (same : ℕ → Bool) (table : PathTable) (n q : ℕ) → length (flat_map (hop_event same table) (range_with_len q n)) ≤ n
few-hops same table zero q = omega arith
few-hops same table (suc n) q = by (same q) (few-hops same table n (q + 1))
  where
    by : (x : Bool) → length (flat_map (hop_event same table) (range_with_len (q + 1) n)) ≤ n →
        length ((if x then [] else event.Next (record { 0 = q }) (next_at table q) ∷ []) ++ flat_map (hop_event same table) (range_with_len (q + 1) n)) ≤ suc n
    by true h = omega (arith, h)
    by false h = omega (arith, h)

-- and nothing rests by them
no-rest : (tick : ℕ) (r : Resting) (same : ℕ → Bool) (table : PathTable) (n q : ℕ) →
    rested_events tick r (flat_map (hop_event same table) (range_with_len q n)) ≡ r
no-rest tick r same table zero q = refl
no-rest tick r same table (suc n) q = by (same q) (no-rest tick r same table n (q + 1))
  where
    by : (x : Bool) → rested_events tick r (flat_map (hop_event same table) (range_with_len (q + 1) n)) ≡ r →
        rested_events tick r ((if x then [] else event.Next (record { 0 = q }) (next_at table q) ∷ []) ++ flat_map (hop_event same table)
        (range_with_len (q + 1) n)) ≡ r
    by true h = h
    by false h = h

pub learning : (p : Parts) (st : Stands p) (l : ℕ) (tree : PathTable) → IsTree (wiring_in p) (links_up (after_learn p.view l)) p.me.0 tree
    → Happens p (Learns l) (after_learn p.view l).counts (hop_events p.me.0 p.lib.bindings.hops tree (length p.loopbacks.items)) p.sessions.items 0 []
learning p st l tree tree_is =
    let w : Wiring = wiring_in p in
    let n : Node = node_in p in
    let follow : after_events p.lib.bindings (hop_events p.me.0 p.lib.bindings.hops tree (length p.loopbacks.items)) ≡ record p.lib.bindings {
      hops =
          map (λ fec. hop_alone (next w (view_in (changed w n (Learns l))) p.me.0 fec)) (nodes_of w);
    } =
    follows w n p.lib.bindings l tree st.wired.joins st.wired.differ st.wired.once st.me st.tied tree_is in
    record {
      is = ap (λ b. let o : Node =
          record { me = p.me.0; learned = (after_learn p.view l).counts; sessions = sessions_from w p.me.0 b 0 p.sessions.items } in o) follow
          ∙ ap (λ ss. let o : Node = record { me = p.me.0; learned = (after_learn p.view l).counts; sessions = ss } in o)
          (sessions-hops w p.me.0 p.lib.bindings (map (λ fec. hop_alone (next w (view_in (changed w n (Learns l))) p.me.0 fec)) (nodes_of w)) 0
          p.sessions.items);
      tied = subst (AreTied w (changed w n (Learns l))) (sym follow)
          (still_tied w n p.lib.bindings l tree st.wired.joins st.wired.differ st.wired.once st.me st.tied tree_is);
      was = λ h k below j on. on ∙ sym (ap not (opens-none (stays p.me.0 p.lib.bindings.hops tree) tree h (length p.loopbacks.items) 0));
      answered = sym (ap (flat_map (said_by_tell w p.me.0)) (releases-none (stays p.me.0 p.lib.bindings.hops tree) tree (length p.loopbacks.items) 0));
      own = st.ends;
      fit = λ h fec. subst (λ b. FitsLabel (lib.label_learned (lib.row_of b h) fec)) (sym follow) (st.fit h fec);
      fits = may_follow w n p.lib.bindings l tree st.wired.joins st.wired.differ st.wired.once st.me st.tied tree_is;
      short = steps (few-hops (stays p.me.0 p.lib.bindings.hops tree) tree (length p.loopbacks.items) 0) st.wired.spelled.few;
      rested = λ tick. no-rest tick p.lib.resting (stays p.me.0 p.lib.bindings.hops tree) tree (length p.loopbacks.items) 0;
      owed = λ tick. subst (λ b. AreOwed w p.me.0 (record {
        bindings = b;
        resting = rested_events tick p.lib.resting (hop_events p.me.0 p.lib.bindings.hops tree (length p.loopbacks.items));
      }) p.sessions.items) (sym follow)
          (subst (λ r. AreOwed w p.me.0 (record {
            bindings = record p.lib.bindings { hops = map (λ fec. hop_alone (next w (view_in (changed w n (Learns l))) p.me.0 fec)) (nodes_of w) };
            resting = r;
          }) p.sessions.items) (sym (no-rest tick p.lib.resting (stays p.me.0 p.lib.bindings.hops tree) tree (length p.loopbacks.items) 0))
          (record { rows = st.owed.rows; open_is = st.owed.open_is; each = st.owed.each }));
      quiet = λ r. refl;
    }
  where
    steps : {a b c : ℕ} → a ≤ b → b ≤ c → a ≤ c
    steps h g = omega (arith, h, g)

pub events-of : (p : Parts) → Stands p → (l : ℕ) (v : Learned) (tree : PathTable) (k : ℕ) (es ds : List LibEvent) → v ≡ after_learn p.view l → k ≡ v.nodes →
    es ≡ hop_events p.me.0 p.lib.bindings.hops tree k → ds ≡ es → ds ≡ hop_events p.me.0 p.lib.bindings.hops tree (length p.loopbacks.items)
events-of p st l v tree k es ds e f g h = h ∙ g ∙ ap (hop_events p.me.0 p.lib.bindings.hops tree) (f ∙ ap (λ x. x.nodes) e ∙ st.nodes)

-- they withdraw nothing
pub releases-of : (p : Parts) (tree : PathTable) (withdrawn : ℕ) (es : List LibEvent) →
    es ≡ hop_events p.me.0 p.lib.bindings.hops tree (length p.loopbacks.items) →
    (labels : Labels) → MayTell (length p.loopbacks.items) p.me.0 labels withdrawn (releases es)
releases-of p tree withdrawn es e labels =
    subst (MayTell (length p.loopbacks.items) p.me.0 labels withdrawn) (sym (ap releases e
    ∙ releases-none (stays p.me.0 p.lib.bindings.hops tree) tree (length p.loopbacks.items) 0))
    tt

-- A session opens, or ends.
use Rattle.std.proofs.Common.{ℕ, zero, suc, ◌≡◌, ◌≢◌, ◌+◌, ◌-◌, ◌*◌, ◌<◌, ◌≤◌, ◌⊎◌, inl, inr, Bool, true, false, cond, not, List, [], ◌∷◌, ◌++◌, map}
use Rattle.std.proofs.Common.{length, drop, refl, arith, sym, ◌∙◌, ap, subst, Option, Some, None, append-nil}
use Rattle.std.specs.Prelude.{◌==◌, ◌&&◌, nat_lt, slice_get, slice_set, slice_index_or, option_map}
use Rattle.mn_base.proofs.Bools.{same_numbers, other_test, less_tells, and_left, and_right}
use Rattle.mn_base.specs.declared.numbers.NodeNo.{NodeNo}
use Rattle.mn_flight.specs.declared.Item.{Item}
use Rattle.mn_flight.specs.Flying.{on_channel, off_channel}
use Rattle.mn_topo.specs.Network.{Network}
use Rattle.mn_topo.specs.Lawful.{IsLawful}
use Rattle.mn_topo.specs.VrfTable.{is_edge}
use Rattle.mn_topo.specs.declared.steps.Step.{Step}
use Rattle.mn_topo.specs.declared.steps.Step.TheVariants as step
use Rattle.mn_topo.specs.declared.steps.JournalEntry.{JournalEntry}
use Rattle.mn_ledger.specs.Tables.{put_pair}
use Rattle.mn_ledger.specs.World.{Peerings, World, Open}
use Rattle.mn_ledger.specs.Exports.{exports_of}
use Rattle.mn_ledger.specs.Bgp.{Told, told_to, bgp_counted, bgp_restarted, with_told, peerings_after}
use Rattle.mn_ledger.specs.Ledger.{config_after, after, world_of}
use Rattle.mn_ledger.specs.Items.{numbered, route_of}
use Rattle.mn_ledger.proofs.GoingBy.{pair_here, pair_off}
use Rattle.mn_ledger.proofs.InTurn.{in_order}
use Rattle.mn_ledger.proofs.Peers.{Which, which}
use Rattle.mn_frame_laws.specs.Numbers.{labels_of}
use Rattle.mn_timetable_laws.specs.Keys.{keys_in, keys_on, of_routes, but_two, keys_by}
use Rattle.mn_timetable_laws.proofs.Keys.{keys_dropped}
use Rattle.mn_timetable_laws.proofs.OtherKeys.{pair_one}
use Rattle.mn_timetable_laws.specs.Steps.{pushed}
use Rattle.mn_bgp_spelling_laws.specs.Spelling.{Labels, bytes_in}
use Rattle.mn_pe.specs.Edge.{after_forget}
use Rattle.mn_pe.specs.Pe.{PeNow}
use Rattle.mn_routing_laws.specs.Whole.{RoutesNow, routes_in, at_edge, opened}
use Rattle.mn_routing_laws.specs.Routed.{Routed, IsRoutes, working, bytes_on, unheard}
use Rattle.mn_routing_laws.specs.Steps.{IsTurn, MayDo, Did}
use Rattle.mn_routing_laws.specs.Sending.{put_all}
use Rattle.mn_routing_laws.specs.Doing.{MayTurn, Opens, Ends, forgotten, opens_in, edge_at, edge_or_blank, with_end}
use Rattle.mn_routing_laws.proofs.GoingOn.{two_below}
use Rattle.mn_routing_laws.proofs.Told.{nothing_changed}
use Rattle.mn_routing_laws.proofs.Flying.{parcel_of, AreToNodes, FliesAs, IsHeard, flies_told}
use Rattle.mn_routing_laws.proofs.Home.{no_news}
use Rattle.mn_routing_laws.proofs.Placed.{set_edge, has_edge}
use Rattle.mn_routing_laws.proofs.Others.{then_stands}
use Rattle.mn_routing_laws.proofs.Goes.{brings, routes_go, heard_all, tolds, keys_then, count_then}

-- 1. Flights

module _ {T : Type 0} where
  pub off_same : (c : ℕ) (xs : List (Item T)) → on_channel c (off_channel c xs) ≡ []
  off_same c [] = refl
  off_same c (x ∷ xs) = by (x.channel == c) refl (off_same c xs)
    where
      by : (b : Bool) → (x.channel == c) ≡ b → on_channel c (off_channel c xs) ≡ [] → on_channel c (cond (not b) (x ∷ off_channel c xs) (off_channel c xs)) ≡ []
      by true e h = h
      by false e h = ap (λ b. cond b (x ∷ on_channel c (off_channel c xs)) (on_channel c (off_channel c xs))) e ∙ h

  pub off_other : (c d : ℕ) (xs : List (Item T)) → c ≢ d → on_channel c (off_channel d xs) ≡ on_channel c xs
  off_other c d [] apart = refl
  off_other c d (x ∷ xs) apart = by (x.channel == d) refl (off_other c d xs apart)
    where
      elsewhere : (x.channel == d) ≡ true → (x.channel == c) ≡ false
      elsewhere e = other_test x.channel c (λ q. apart (sym q ∙ same_numbers x.channel d e))

      by : (b : Bool) → (x.channel == d) ≡ b → on_channel c (off_channel d xs) ≡ on_channel c xs
          → on_channel c (cond (not b) (x ∷ off_channel d xs) (off_channel d xs)) ≡ cond (x.channel == c) (x ∷ on_channel c xs) (on_channel c xs)
      by true e h = h ∙ sym (ap (λ b. cond b (x ∷ on_channel c xs) (on_channel c xs)) (elsewhere e))
      by false e h = ap (λ ys. cond (x.channel == c) (x ∷ ys) ys) h

-- 2. The session of two edges

module _ (t : Network) (a b : ℕ) (first : a < length t.loopbacks) (second : b < length t.loopbacks) (apart : a ≢ b) where
  abbrev n : ℕ
  n = length t.loopbacks

  abbrev left : List (Item (List ℕ)) → List (Item (List ℕ))
  left items = off_channel (b * n + a) (off_channel (a * n + b) items)

  unlike : (x y c d : ℕ) → y < n → d < n → (x ≢ c) ⊎ (y ≢ d) → x * n + y ≢ c * n + d
  unlike x y c d below under d_is e = let p = pair_one n x c y d below under e in elim d_is [ inl q ↦ q p.0 | inr q ↦ q p.1 ]

  -- nothing flies between the two, and what flies elsewhere stays
  pub cut_flies : (l : Labels) (p : Peerings) (items : List (Item (List ℕ))) → FliesAs t l p items → FliesAs t l (bgp_restarted p a b) (left items)
  unfolding Which
  cut_flies l p items flies x y below under d = elim (which a b x y) [
    | inl q ↦
        ap (λ (c : ℕ). bytes_on c (left items)) (ap (λ k. k * n + y) q.0 ∙ ap (λ k. a * n + k) q.1)
        ∙ ap (map (λ (item : Item (List ℕ)). item.item))
        (off_other (a * n + b) (b * n + a) (off_channel (a * n + b) items) (unlike a b b a second first (inl apart)) ∙ off_same (a * n + b) items)
        ∙ sym (silent x y (pair_off (put_pair p.told a b []) b a [] x y (inl (λ e. apart (sym q.0 ∙ e)))
        ∙ ap (λ k. put_pair p.told a b [] k y) q.0 ∙ ap (put_pair p.told a b [] a) q.1 ∙ pair_here p.told a b []))
    | inr r ↦ elim r [
      | inl q ↦
          ap (λ (c : ℕ). bytes_on c (left items)) (ap (λ k. k * n + y) q.0 ∙ ap (λ k. b * n + k) q.1)
          ∙ ap (map (λ (item : Item (List ℕ)). item.item)) (off_same (b * n + a) (off_channel (a * n + b) items))
          ∙ sym (silent x y (ap (λ k. put_pair (put_pair p.told a b []) b a [] k y) q.0 ∙ ap (put_pair (put_pair p.told a b []) b a [] b) q.1
          ∙ pair_here (put_pair p.told a b []) b a []))
      | inr q ↦
          ap (map (λ (item : Item (List ℕ)). item.item))
          (off_other (x * n + y) (b * n + a) (off_channel (a * n + b) items) (unlike x y b a under first q.1)
          ∙ off_other (x * n + y) (a * n + b) items (unlike x y a b under second q.0))
          ∙ flies x y below under d
          ∙ sym (ap (λ k. map (bytes_in t l x) (drop k ((bgp_restarted p a b).told x y))) (pair_off (put_pair p.heard a b 0) b a 0 y x (swapped q.0)
          ∙ pair_off p.heard a b 0 y x (swapped q.1))
          ∙ ap (λ ms. map (bytes_in t l x) (drop (p.heard y x) ms)) (pair_off (put_pair p.told a b []) b a [] x y q.1 ∙ pair_off p.told a b [] x y q.0))
    ]
  ]
    where
      silent : (x y : ℕ) → (bgp_restarted p a b).told x y ≡ [] → unheard t l (bgp_restarted p a b) x y ≡ []
      silent x y e = ap (λ ms. map (bytes_in t l x) (drop ((bgp_restarted p a b).heard y x) ms)) e ∙ none ((bgp_restarted p a b).heard y x)
        where
          none : (k : ℕ) → map (bytes_in t l x) (drop k []) ≡ []
          none zero = refl
          none (suc k) = refl

      swapped : {P Q : Type 0} → P ⊎ Q → Q ⊎ P
      swapped d = elim d [ inl p ↦ inr p | inr q ↦ inl q ]

  -- nobody has received more than was told
  pub anew_heard : (p : Peerings) → IsHeard p → IsHeard (bgp_restarted p a b)
  unfolding Which
  anew_heard p heard x y d = elim (which a b y x) [
    | inl q ↦ none (pair_off (put_pair p.heard a b 0) b a 0 y x (inl (λ e. apart (sym q.0 ∙ e))) ∙ ap (λ k. put_pair p.heard a b 0 k x) q.0
        ∙ ap (put_pair p.heard a b 0 a) q.1 ∙ pair_here p.heard a b 0)
    | inr r ↦ elim r [
      | inl q ↦ none (ap (λ k. put_pair (put_pair p.heard a b 0) b a 0 k x) q.0 ∙ ap (put_pair (put_pair p.heard a b 0) b a 0 b) q.1
          ∙ pair_here (put_pair p.heard a b 0) b a 0)
      | inr q ↦ subst (λ k. k ≤ length ((bgp_restarted p a b).told x y))
          (sym (pair_off (put_pair p.heard a b 0) b a 0 y x q.1 ∙ pair_off p.heard a b 0 y x q.0))
          (subst (λ ms. p.heard y x ≤ length ms)
          (sym (pair_off (put_pair p.told a b []) b a [] x y (swapped q.0) ∙ pair_off p.told a b [] x y (swapped q.1))) (heard x y d))
    ]
  ]
    where
      none : (bgp_restarted p a b).heard y x ≡ 0 → (bgp_restarted p a b).heard y x ≤ length ((bgp_restarted p a b).told x y)
      none e = omega (arith, e)

      swapped : {P Q : Type 0} → P ⊎ Q → Q ⊎ P
      swapped d = elim d [ inl p ↦ inr p | inr q ↦ inl q ]

  pub keys_cut : (items : List (Item (List ℕ))) → keys_in (left items) ≡ but_two (a * n + b) (b * n + a) (keys_in items)
  keys_cut items = keys_dropped (b * n + a) (off_channel (a * n + b) items) ∙ ap (keys_by (λ k. not (k == b * n + a))) (keys_dropped (a * n + b) items)

pub get_other : {A : Type 0} (xs : List A) (k j : ℕ) (x : A) → k ≢ j → slice_get (slice_set xs k x) j ≡ slice_get xs j
get_other [] k j x d = refl
get_other (y ∷ ys) zero zero x d = absurd (d refl)
get_other (y ∷ ys) zero (suc j) x d = refl
get_other (y ∷ ys) (suc k) zero x d = refl
get_other (y ∷ ys) (suc k) (suc j) x d = get_other ys k j x (λ e. d (ap suc e))

pub index_other : {A : Type 0} (xs : List A) (k j : ℕ) (x d : A) → k ≢ j → slice_index_or (slice_set xs k x) j d ≡ slice_index_or xs j d
index_other [] k j x d h = refl
index_other (y ∷ ys) zero zero x d h = absurd (h refl)
index_other (y ∷ ys) zero (suc j) x d h = refl
index_other (y ∷ ys) (suc k) zero x d h = refl
index_other (y ∷ ys) (suc k) (suc j) x d h = index_other ys k j x d (λ e. h (ap suc e))

-- 3. The steps

module _ (t : Network) (lawful : IsLawful t) (tick number next : ℕ) (old new : Routed) (a b : NodeNo) where
  abbrev opening : Step
  opening = step.BgpUp a b

  abbrev ending : Step
  ending = step.BgpDown a b

  abbrev size : ℕ
  size = length t.loopbacks

  two_told : (es : List JournalEntry) → tolds t (world_of t es) opening ≡ told_to a.0 b.0 (Open ∷ []) ++ told_to b.0 a.0 (Open ∷ [])
  two_told es =
      ap (λ xs. (told_to a.0 b.0 (Open ∷ []) ++ told_to b.0 a.0 (Open ∷ [])) ++ xs)
      (no_news t (world_of t es).config (config_after (world_of t es).config opening) (world_of t es).peerings (bgp_counted (world_of t es).peerings opening)
      (λ e. nothing_changed (exports_of t (world_of t es).config e)))
      ∙ append-nil (told_to a.0 b.0 (Open ∷ []) ++ told_to b.0 a.0 (Open ∷ []))

  none_told : (es : List JournalEntry) → tolds t (world_of t es) ending ≡ []
  none_told es =
      no_news t (world_of t es).config (config_after (world_of t es).config ending) (world_of t es).peerings (bgp_counted (world_of t es).peerings ending)
      (λ e. nothing_changed (exports_of t (world_of t es).config e))

  opens_peerings : (es : List JournalEntry) →
      (after t (world_of t es) opening).peerings ≡ with_told (bgp_restarted (world_of t es).peerings a.0 b.0) (tolds t (world_of t es) opening)
  unfolding peerings_after
  opens_peerings es = refl

  ends_peerings : (es : List JournalEntry) →
      (after t (world_of t es) ending).peerings ≡ with_told (bgp_restarted (world_of t es).peerings a.0 b.0) (tolds t (world_of t es) ending)
  unfolding peerings_after
  ends_peerings es = refl

  abbrev cut_items : List (Item (List ℕ)) → List (Item (List ℕ))
  cut_items items = off_channel (b.0 * size + a.0) (off_channel (a.0 * size + b.0) items)

  pub did_open : Opens t tick number a.0 b.0 old new next → Did t tick number opening old new (next - number)
  did_open opens = record {
    goes = go;
    messages = λ es stands turn.
        let below = two_below t a.0 b.0 (nat_lt a.0 b.0) lawful turn.fitting in
        keys_then t (labels_of t es) tick number (tolds t (world_of t es) opening) (cut_items old.messages) new.messages (put es)
        ∙ ap (λ ks. ks ++ keys_on (of_routes size) (numbered t tick number (map route_of (tolds t (world_of t es) opening))))
        (keys_cut t a.0 b.0 below.0 below.1 (apart es turn) old.messages);
    count = λ es stands turn. count_then t (labels_of t es) number next (tolds t (world_of t es) opening)
        (opens.next_is ∙ ap (λ ps. number + length ps) (parcels es));
  }
    where
      apart : (es : List JournalEntry) → IsTurn t es opening → a.0 ≢ b.0
      apart es turn e = let less : a.0 < b.0 = in_order t opening turn.fitting in omega (arith, less, e)

      parcels : (es : List JournalEntry) → opens_in t a.0 b.0 ≡ map (parcel_of t (labels_of t es)) (tolds t (world_of t es) opening)
      parcels es = ap (map (parcel_of t (labels_of t es))) (sym (two_told es))

      put : (es : List JournalEntry) →
          new.messages ≡ cut_items old.messages ++ put_all (tick + t.bgp_delay) number
          (map (parcel_of t (labels_of t es)) (tolds t (world_of t es) opening))
      put es = ap (λ (r : Routed). r.messages) opens.new_is ∙ ap (λ ps. cut_items old.messages ++ put_all (tick + t.bgp_delay) number ps) (parcels es)

      to_nodes : (es : List JournalEntry) → IsTurn t es opening → AreToNodes t (tolds t (world_of t es) opening)
      to_nodes es turn = let below = two_below t a.0 b.0 (nat_lt a.0 b.0) lawful turn.fitting in
          subst (AreToNodes t) (sym (two_told es)) (λ x i. elim i [
            | inl e ↦ subst (λ (y : Told). y.peer < size) e below.1
            | inr j ↦ elim j [
              | inl e ↦ subst (λ (y : Told). y.peer < size) e below.0
              | inr gone ↦ absurd gone
            ]
          ])

      go : (es : List JournalEntry) → IsRoutes t es old → IsTurn t es opening → IsRoutes t (pushed es tick opening) new
      go es stands turn =
          let w : World = world_of t es in
          let l : Labels = labels_of t es in
          let q = brings t es opening lawful turn in
          let parts = routes_go t l es opening lawful turn in
          let below = two_below t a.0 b.0 (nat_lt a.0 b.0) lawful turn.fitting in
          then_stands t es tick opening new (record {
            edges = ap (λ (r : Routed). r.edges) opens.new_is ∙ stands.edges ∙ ap (λ (r : RoutesNow). map (option_map working) r.edges) (sym parts);
            sessions = ap (λ (r : Routed). r.sessions) opens.new_is
                ∙ ap (λ rows.
                (with_end b.0 a.0 (Some (opened t b.0 a.0)) (with_end a.0 b.0 (Some (opened t a.0 b.0)) (record old { sessions = rows }))).sessions)
                stands.sessions
                ∙ ap (λ (r : RoutesNow). r.sessions) (sym parts);
            messages =
                subst (λ p. FliesAs t l p new.messages) (sym (opens_peerings es))
                (subst (FliesAs t l (with_told (bgp_restarted w.peerings a.0 b.0) (tolds t w opening))) (sym (put es))
                (flies_told t l (bgp_restarted w.peerings a.0 b.0) (tick + t.bgp_delay) number (tolds t w opening) (cut_items old.messages)
                (anew_heard t a.0 b.0 below.0 below.1 (apart es turn) w.peerings (heard_all w q.turn.bgp)) (to_nodes es turn)
                (cut_flies t a.0 b.0 below.0 below.1 (apart es turn) l w.peerings old.messages stands.messages)));
          })

  pub did_end : MayTurn t old a.0 b.0 → Ends t a.0 b.0 old new → Did t tick number ending old new 0
  did_end may ends = record {
    goes = go;
    messages = λ es stands turn.
        let below = two_below t a.0 b.0 (nat_lt a.0 b.0) lawful turn.fitting in
        ap (λ (r : Routed). keys_in r.messages) ends
        ∙ keys_cut t a.0 b.0 below.0 below.1 may.apart old.messages
        ∙ sym (append-nil (but_two (a.0 * size + b.0) (b.0 * size + a.0) (keys_in old.messages)))
        ∙ ap (λ xs. but_two (a.0 * size + b.0) (b.0 * size + a.0) (keys_in old.messages) ++ keys_on (of_routes size)
        (numbered t tick number (map route_of xs))) (sym (none_told es));
    count = λ es stands turn. ap (λ xs. length (map route_of xs)) (sym (none_told es));
  }
    where
      -- the second edge is as it was, while the first forgets
      there : slice_get (forgotten a.0 b.0 old).edges b.0 ≡ Some (Some (working (edge_at (forgotten a.0 b.0 old) b.0)))
      there = get_other old.edges a.0 b.0 (Some (working (after_forget (edge_at old a.0) b.0))) may.apart ∙ may.second.there
          ∙ ap (λ (o : Option PeNow). Some (Some (working (edge_or_blank o))))
          (sym (index_other old.edges a.0 b.0 (Some (working (after_forget (edge_at old a.0) b.0))) None may.apart))

      go : (es : List JournalEntry) → IsRoutes t es old → IsTurn t es ending → IsRoutes t (pushed es tick ending) new
      go es stands turn =
          let w : World = world_of t es in
          let l : Labels = labels_of t es in
          let q = brings t es ending lawful turn in
          let parts = routes_go t l es ending lawful turn in
          let below = two_below t a.0 b.0 (nat_lt a.0 b.0) lawful turn.fitting in
          let here : RoutesNow = routes_in t l w.config w.peerings in
          let first : (forgotten a.0 b.0 old).edges ≡ map (option_map working) (at_edge a.0 (λ now. after_forget now b.0) here).edges =
          ap (λ xs. slice_set xs a.0 (Some (working (after_forget (edge_at old a.0) b.0)))) stands.edges
          ∙ set_edge here.edges a.0 (λ now. after_forget now b.0) (edge_at old a.0) (sym (ap (λ xs. slice_get xs a.0) stands.edges) ∙ may.first.there) in
          then_stands t es tick ending new (record {
            edges = ap (λ (r : Routed). r.edges) ends
                ∙ ap (λ xs. slice_set xs b.0 (Some (working (after_forget (edge_at (forgotten a.0 b.0 old) b.0) a.0)))) first
                ∙ set_edge (at_edge a.0 (λ now. after_forget now b.0) here).edges b.0 (λ now. after_forget now a.0) (edge_at (forgotten a.0 b.0 old) b.0)
                (sym (ap (λ xs. slice_get xs b.0) first) ∙ there)
                ∙ ap (λ (r : RoutesNow). map (option_map working) r.edges) (sym parts);
            sessions = ap (λ (r : Routed). r.sessions) ends
                ∙ ap (λ rows. (with_end b.0 a.0 None (with_end a.0 b.0 None (record old { sessions = rows }))).sessions) stands.sessions
                ∙ ap (λ (r : RoutesNow). r.sessions) (sym parts);
            messages =
                subst (λ p. FliesAs t l p new.messages) (sym (ends_peerings es))
                (subst (λ xs. FliesAs t l (with_told (bgp_restarted w.peerings a.0 b.0) xs) new.messages) (sym (none_told es))
                (subst (FliesAs t l (with_told (bgp_restarted w.peerings a.0 b.0) []))
                (append-nil (cut_items old.messages) ∙ ap (λ (r : Routed). r.messages) (sym ends))
                (flies_told t l (bgp_restarted w.peerings a.0 b.0) (tick + t.bgp_delay) number [] (cut_items old.messages)
                (anew_heard t a.0 b.0 below.0 below.1 may.apart w.peerings (heard_all w q.turn.bgp)) (λ x i. absurd i)
                (cut_flies t a.0 b.0 below.0 below.1 may.apart l w.peerings old.messages stands.messages))));
          })

  may_turn : (old : Routed) (s : Step) (may : MayDo t s old) → ((is_edge t.vrfs a.0 && is_edge t.vrfs b.0) && nat_lt a.0 b.0) ≡ true → MayTurn t old a.0 b.0
  may_turn old s may fit =
      let pair = and_left (is_edge t.vrfs a.0 && is_edge t.vrfs b.0) (nat_lt a.0 b.0) fit in
      let below = two_below t a.0 b.0 (nat_lt a.0 b.0) lawful fit in
      record {
        first = has_edge t (labels_of t may.journal) (world_of t may.journal) old may.stands a.0 below.0
            (and_left (is_edge t.vrfs a.0) (is_edge t.vrfs b.0) pair);
        second = has_edge t (labels_of t may.journal) (world_of t may.journal) old may.stands b.0 below.1
            (and_right (is_edge t.vrfs a.0) (is_edge t.vrfs b.0) pair);
        apart = λ e. let less : a.0 < b.0 = less_tells a.0 b.0 (and_right (is_edge t.vrfs a.0 && is_edge t.vrfs b.0) (nat_lt a.0 b.0) fit) in
            omega (arith, less, e);
      }

  pub may_open : MayDo t opening old → MayTurn t old a.0 b.0
  may_open may = may_turn old opening may may.turn.fitting

  pub may_end : MayDo t ending old → MayTurn t old a.0 b.0
  may_end may = may_turn old ending may may.turn.fitting

  pub nodes_open : MayDo t opening old → (a.0 < length t.loopbacks) × (b.0 < length t.loopbacks)
  nodes_open may = two_below t a.0 b.0 (nat_lt a.0 b.0) lawful may.turn.fitting

  pub nodes_end : MayDo t ending old → (a.0 < length t.loopbacks) × (b.0 < length t.loopbacks)
  nodes_end may = two_below t a.0 b.0 (nat_lt a.0 b.0) lawful may.turn.fitting

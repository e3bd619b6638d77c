-- An edge receives the next message of a peer.
use Rattle.std.proofs.Common.{ℕ, zero, suc, ◌≡◌, ◌≢◌, ◌+◌, ◌-◌, ◌*◌, ◌<◌, ◌≤◌, ◌⊎◌, inl, inr, Bool, true, false, cond, not, List, [], ◌∷◌, ◌++◌, map}
use Rattle.std.proofs.Common.{filter, length, drop, refl, arith, sym, ◌∙◌, ap, subst, Option, Some, None, append-nil, add-one}
use Rattle.std.specs.Prelude.{◌==◌, ◌&&◌, nat_le, slice_get, slice_set, slice_index_or, option_map, if◌then◌else◌}
use Rattle.std.specs.List.{Contains}
use Rattle.std.proofs.lemmas.Bool.Decides.{eqb_tells}
use Rattle.std.proofs.lemmas.List.{map-append}
use Rattle.mn_base.proofs.Bools.{no, and_left, and_right, or_off, not_false}
use Rattle.mn_base.proofs.Members.{In, in_map, contained_in}
use Rattle.mn_base.specs.declared.numbers.NodeNo.{NodeNo}
use Rattle.mn_states.specs.declared.states.BgpState.{BgpState}
use Rattle.mn_states.specs.declared.states.BgpState.TheVariants.{Idle, OpenSent, OpenConfirm, Established}
use Rattle.mn_flight.specs.declared.Item.{Item}
use Rattle.mn_flight.specs.Flying.{IsFlight, on_channel, without}
use Rattle.mn_topo.specs.Network.{Network}
use Rattle.mn_topo.specs.Lawful.{IsLawful}
use Rattle.mn_topo.specs.VrfTable.{is_edge}
use Rattle.mn_topo.specs.declared.steps.Step.{Step}
use Rattle.mn_topo.specs.declared.steps.Step.TheVariants as step
use Rattle.mn_topo.specs.declared.steps.JournalEntry.{JournalEntry}
use Rattle.mn_bgp_wire.specs.declared.message.BgpMessage.{BgpMessage}
use Rattle.mn_bgp_wire.specs.Grammar.{IsBgp}
use Rattle.mn_bgp_wire.specs.Says.{Says}
use Rattle.mn_bgp_session.specs.declared.table.BgpReply.{BgpReply}
use Rattle.mn_bgp_session.specs.Table as table
use Rattle.mn_ledger.specs.Tables.{put_pair}
use Rattle.mn_ledger.specs.World.{World, Telling, Open, BgpKeepAlive, Announcement, Withdrawal, Export}
use Rattle.mn_ledger.specs.Bgp.{Told, told_to, bgp_counted, with_told, peerings_after, peers_live, bgp_state_of, reply}
use Rattle.mn_ledger.specs.Exports as ledger_exports
use Rattle.mn_ledger.specs.Ledger.{after, world_of}
use Rattle.mn_ledger.specs.Items.{numbered, route_of}
use Rattle.mn_ledger.proofs.GoingBy.{pair_here, pair_off}
use Rattle.mn_ledger.proofs.InTurn.{in_order}
use Rattle.mn_ledger.proofs.Peers.{live_sym}
use Rattle.mn_ledger.proofs.Tidy.{sets_rise}
use Rattle.mn_frame_laws.specs.Numbers.{labels_of}
use Rattle.mn_timetable_laws.specs.Keys.{keys_in, keys_on, of_routes}
use Rattle.mn_timetable_laws.proofs.Keys.{key_taken}
use Rattle.mn_timetable_laws.proofs.OtherKeys.{pair_one}
use Rattle.mn_timetable_laws.specs.Steps.{pushed}
use Rattle.mn_bgp_spelling_laws.specs.Spelling.{Labels, bytes_in, message_in, session_in}
use Rattle.mn_bgp_spelling_laws.specs.Laws.{next_of, IsComing, AreLabels}
use Rattle.mn_bgp_spelling_laws.proofs.Coming as coming
use Rattle.mn_bgp_spelling_laws.proofs.Writable.{writable}
use Rattle.mn_pe.specs.Edge.{Edge, after_message}
use Rattle.mn_pe.specs.Held.{Exported, exports_of}
use Rattle.mn_routing_laws.specs.Standing.{edge_in}
use Rattle.mn_routing_laws.specs.Whole.{RoutesNow, routes_in, session_or_none, update_of}
use Rattle.mn_routing_laws.specs.Routed.{Routed, IsRoutes, working, bytes_on, unheard}
use Rattle.mn_routing_laws.specs.Steps.{IsTurn, MayDo, Did}
use Rattle.mn_routing_laws.specs.Sending.{Parcel, put_all, to_all, spelled_in, news_to}
use Rattle.mn_routing_laws.specs.Doing.{HasEdge, edge_at, next_on, taken, channel_from, MayHear, CanHear, AreLabelledIn}
use Rattle.mn_routing_laws.specs.Doing.{answers_in, Hears, AreSayable}
use Rattle.mn_routing_laws.proofs.GoingOn.{two_below, next_there}
use Rattle.mn_routing_laws.proofs.Told.{nothing_changed}
use Rattle.mn_routing_laws.proofs.Flying.{parcel_of, AreToNodes, FliesAs, IsHeard, flies_told}
use Rattle.mn_routing_laws.proofs.Home.{no_news}
use Rattle.mn_routing_laws.proofs.Placed.{set_edge, has_edge, edge_is, ends_are, get_range}
use Rattle.mn_routing_laws.proofs.Exports.{exports_same}
use Rattle.mn_routing_laws.proofs.Present.{exported}
use Rattle.mn_routing_laws.proofs.News.{announced_told}
use Rattle.mn_routing_laws.proofs.Others.{then_stands}
use Rattle.mn_flight.proofs.OnChannels.{left_on, left_off, without_at}
use Rattle.mn_routing_laws.proofs.Sayable.{all_fits, all_sayable}
use Rattle.mn_routing_laws.proofs.Goes.{brings, routes_go, heard_all, tolds, keys_then, count_then}

-- 1. What the session answers, in parcels

each_to : (t : Network) (l : Labels) (e peer : ℕ) (ms : List Telling) → map (parcel_of t l) (told_to e peer ms) ≡ map (λ m. let x : Parcel =
    (channel_from t e peer, bytes_in t l e m) in x) ms
each_to t l e peer [] = refl
each_to t l e peer (m ∷ ms) = ap (λ ys. (let x : Parcel = (channel_from t e peer, bytes_in t l e m) in x) ∷ ys) (each_to t l e peer ms)

one_peer : (first peer : ℕ) (xs : List (List ℕ)) → to_all first (record { 0 = peer } ∷ []) xs ≡ map (λ bytes. let x : Parcel = (first + peer, bytes) in x) xs
one_peer first peer [] = refl
one_peer first peer (x ∷ xs) = ap (λ ys. (let y : Parcel = (first + peer, x) in y) ∷ ys) (one_peer first peer xs)

map_twice : {A B C : Type 0} (f : A → B) (g : B → C) (xs : List A) → map g (map f xs) ≡ map (λ x. g (f x)) xs
map_twice f g [] = refl
map_twice f g (x ∷ xs) = ap (λ ys. g (f x) ∷ ys) (map_twice f g xs)

-- the exports, to one peer
all_to : (t : Network) (l : Labels) (e peer : ℕ) (xs : List Export) (ys : List Exported) → map (exported t l) xs ≡ ys
    → map (λ m. let x : Parcel =
    (channel_from t e peer, bytes_in t l e m) in x) (map (λ export. Announcement export) xs) ≡ news_to t e (record { 0 = peer } ∷ []) true ys
all_to t l e peer xs ys h =
    sym (map_twice (bytes_in t l e) (λ bytes. let x : Parcel = (channel_from t e peer, bytes) in x) (map (λ export. Announcement export) xs))
    ∙ ap (map (λ bytes. let x : Parcel = (channel_from t e peer, bytes) in x)) (announced_told t l e xs ∙ ap (map (spelled_in t e true)) h)
    ∙ sym (one_peer (e * length t.loopbacks) peer (map (spelled_in t e true) ys))

answer_parcels : (t : Network) (l : Labels) (e peer : ℕ) (answer : BgpReply) (xs : List Export) (ys : List Exported) → map (exported t l) xs ≡ ys
    → map (parcel_of t l)
    (told_to e peer (cond answer.say_keep (BgpKeepAlive ∷ []) [] ++ cond answer.became_established (map (λ export. Announcement export) xs) []))
    ≡ answers_in t e peer answer ys
answer_parcels t l e peer answer xs ys h =
    each_to t l e peer (cond answer.say_keep (BgpKeepAlive ∷ []) [] ++ cond answer.became_established (map (λ export. Announcement export) xs) [])
    ∙ map-append (λ m. let x : Parcel =
    (channel_from t e peer, bytes_in t l e m) in
    x) (cond answer.say_keep (BgpKeepAlive ∷ []) []) (cond answer.became_established (map (λ export. Announcement export) xs) [])
    ∙ by answer.say_keep answer.became_established
  where
    spell : Telling → Parcel
    spell m = (channel_from t e peer, bytes_in t l e m)

    by : (a b : Bool) → map (λ m. let x : Parcel = (channel_from t e peer, bytes_in t l e m) in x) (cond a (BgpKeepAlive ∷ []) []) ++ map (λ m. let x : Parcel =
        (channel_from t e peer, bytes_in t l e m) in x) (cond b (map (λ export. Announcement export) xs) [])
        ≡ answers_in t e peer (record { say_keep = a; became_established = b }) ys
    by true true = ap (λ zs. (let x : Parcel = (channel_from t e peer, bytes_in t l e BgpKeepAlive) in x) ∷ zs) (all_to t l e peer xs ys h)
    by true false = refl
    by false true = all_to t l e peer xs ys h
    by false false = refl

-- what an edge exports doesn't depend on what it received
same_exports : (now : Edge) (peer : ℕ) (says : Option Says) → exports_of (after_message now peer says) ≡ exports_of now
same_exports now peer None = refl
same_exports now peer (Some says) = refl

first_of : {A : Type 0} (xs : List A) (n : ℕ) (d : A) → n < length xs → drop n xs ≡ slice_index_or xs n d ∷ drop (suc n) xs
first_of [] n d h = absurd (let none : n < 0 → ⊥ = (λ p. omega (arith, p)) in none h)
first_of (x ∷ xs) zero d h = refl
first_of (x ∷ xs) (suc n) d h = first_of xs n d (omega (arith, h))

-- an item flies where bytes do
first_item : (xs : List (Item (List ℕ))) (bytes : List ℕ) (rest : List (List ℕ)) → map (λ (item : Item (List ℕ)). item.item) xs ≡ bytes ∷ rest →
    (item : Item (List ℕ)) × (slice_get xs 0 ≡ Some item) × (item.item ≡ bytes)
first_item [] bytes rest h = absurd (let none : [] ≡ bytes ∷ rest → ⊥ = (λ e. cc) in none h)
first_item (x ∷ xs) bytes rest h = (x, refl, (let e : x.item ∷ map (λ (item : Item (List ℕ)). item.item) xs ≡ bytes ∷ rest = h in cc))

without_first : {A : Type 0} (xs : List A) → without_at 0 xs ≡ drop 1 xs
without_first [] = refl
without_first (x ∷ xs) = refl

map_drop : {A B : Type 0} (f : A → B) (xs : List A) → map f (drop 1 xs) ≡ drop 1 (map f xs)
map_drop f [] = refl
map_drop f (x ∷ xs) = refl

drop_more : {A : Type 0} (n : ℕ) (xs : List A) → drop 1 (drop n xs) ≡ drop (suc n) xs
drop_more zero [] = refl
drop_more zero (x ∷ xs) = refl
drop_more (suc n) [] = refl
drop_more (suc n) (x ∷ xs) = drop_more n xs

-- a KEEPALIVE and all exports are never told at once
one_answer : (state : BgpState) → (table.reply_in state).say_keep ≡ true → (table.reply_in state).became_established ≡ false
one_answer OpenSent h = refl
one_answer OpenConfirm h = absurd (no h)
one_answer Established h = refl
one_answer Idle h = refl

-- 2. The message

module _ (t : Network) (lawful : IsLawful t) (peer edge : NodeNo) (old : Routed) where
  abbrev hearing : Step
  hearing = step.HearBgp peer edge

  abbrev a : ℕ
  a = peer.0

  abbrev b : ℕ
  b = edge.0

  abbrev heard_now : List JournalEntry → BgpMessage
  heard_now es = message_in t (labels_of t es) a (next_of (world_of t es) b a)

  abbrev answer_now : List JournalEntry → BgpReply
  answer_now es = table.reply_in (bgp_state_of (world_of t es).config (world_of t es).peerings b a)

  pub record Comes (es : List JournalEntry) : Type 0 where
    pub first : a < length t.loopbacks
    pub second : b < length t.loopbacks
    pub apart : a ≢ b
    pub known : is_edge t.vrfs b ≡ true
    pub is : IsComing (world_of t es) b a

  pub comes : (es : List JournalEntry) → IsTurn t es hearing → Comes es
  comes es turn =
      let w : World = world_of t es in
      let q = brings t es hearing lawful turn in
      let apart : a ≢ b = in_order t hearing turn.fitting in
      let below = two_below t a b (not (a == b)) lawful turn.fitting in
      let parts = or_off (not (peers_live w.config a b)) (nat_le (length (w.peerings.told a b)) (w.peerings.heard b a)) q.ok.there in
      record {
        first = below.0;
        second = below.1;
        apart = apart;
        known = and_right (is_edge t.vrfs a) (is_edge t.vrfs b) (and_left (is_edge t.vrfs a && is_edge t.vrfs b) (not (a == b)) turn.fitting);
        is = record {
          differ = λ e. apart (sym e);
          lives = sym (live_sym w.config a b apart) ∙ not_false (peers_live w.config a b) parts.0;
          there = next_there (w.peerings.heard b a) (length (w.peerings.told a b)) parts.1;
        };
      }

  -- what flies first
  flies_first : (es : List JournalEntry) (stands : IsRoutes t es old) (c : Comes es) →
      bytes_on (channel_from t a b) old.messages ≡ bytes_in t (labels_of t es) a (next_of (world_of t es) b a)
      ∷ map (bytes_in t (labels_of t es) a) (drop (suc ((world_of t es).peerings.heard b a)) ((world_of t es).peerings.told a b))
  flies_first es stands c =
      stands.messages a b c.first c.second c.apart
      ∙ ap (map (bytes_in t (labels_of t es) a)) (first_of ((world_of t es).peerings.told a b) ((world_of t es).peerings.heard b a) Open c.is.there)

  exports_are : (es : List JournalEntry) → IsTurn t es hearing →
      map (exported t (labels_of t es)) (ledger_exports.exports_of t (world_of t es).config b) ≡ exports_of
      (edge_in t (labels_of t es) (world_of t es).config (world_of t es).peerings b)
  exports_are es turn = let q = brings t es hearing lawful turn in
      exports_same t (labels_of t es) (world_of t es).config (world_of t es).peerings b q.rest.statics q.rest.sited

  labelled_in : (l : Labels) → AreLabels l → (m : Telling) → AreLabelledIn (update_of (message_in t l a m))
  labelled_in l h Open = tt
  labelled_in l h BgpKeepAlive = tt
  labelled_in l h (Announcement export) = (h export.site export.attachment, tt)
  labelled_in l h (Withdrawal v p) = tt

  pub may_hear : (es : List JournalEntry) → IsRoutes t es old → IsTurn t es hearing → MayHear t old a b (heard_now es) (answer_now es)
  may_hear es stands turn =
      let w : World = world_of t es in
      let l : Labels = labels_of t es in
      let q = brings t es hearing lawful turn in
      let c = comes es turn in
      let fits = all_fits t es turn.inputs lawful turn.lawful in
      let f = first_item (on_channel (channel_from t a b) old.messages) _ _ (flies_first es stands c) in
      let is : edge_at old b ≡ edge_in t l w.config w.peerings b = edge_is t l w old stands b c.second c.known in
      record {
        item = f.0;
        flies = f.1;
        spells = subst (λ bytes. IsBgp bytes (heard_now es)) (sym f.2)
            (coming.spelled t l a (next_of w b a) lawful
            (writable t l es turn.inputs a b (next_of w b a) lawful fits.labels turn.lawful
            (told_there (w.peerings.told a b) (w.peerings.heard b a) c.is.there)));
        taken_by = record {
          has = has_edge t l w old stands b c.second c.known;
          session = session_in t w.config w.peerings b a;
          lives = ap (λ xs. slice_get xs a) (ends_are t l w old stands b c.second)
              ∙ get_range (session_or_none t w.config w.peerings b) 0 (length t.loopbacks) a c.first
              ∙ ap (λ n. Some (session_or_none t w.config w.peerings b n)) (nought a)
              ∙ ap (λ live. Some (if live then Some (session_in t w.config w.peerings b a) else None)) c.is.lives;
          takes = coming.taken t l w b a lawful q.turn c.is;
          address = ap (λ (e : Edge). slice_index_or e.loopbacks a 0) (sym is);
          labels = labelled_in l fits.labels (next_of w b a);
        };
        one = one_answer (bgp_state_of w.config w.peerings b a);
        exports = λ h. subst AreSayable (sym (same_exports (edge_at old b) a (update_of (heard_now es)) ∙ ap exports_of is))
            (all_sayable t l w.config w.peerings b lawful fits (sets_rise t es turn.inputs lawful turn.lawful).exports);
      }
    where
      nought : (n : ℕ) → 0 + n ≡ n
      nought n = omega arith

      told_there : (xs : List Telling) (n : ℕ) → n < length xs → Contains xs (slice_index_or xs n Open)
      told_there xs n h = contained_in xs (slice_index_or xs n Open) (at xs n h)
        where
          at : (xs : List Telling) (n : ℕ) → n < length xs → In xs (slice_index_or xs n Open)
          at [] n h = absurd (let none : n < 0 → ⊥ = (λ p. omega (arith, p)) in none h)
          at (x ∷ xs) zero h = inl refl
          at (x ∷ xs) (suc n) h = inr (at xs n (omega (arith, h)))

  pub can_hear : MayDo t hearing old → CanHear t old a b
  can_hear may = record { message = heard_now may.journal; answer = answer_now may.journal; may = may_hear may.journal may.stands may.turn }

  pub nodes_hear : MayDo t hearing old → (a < length t.loopbacks) × (b < length t.loopbacks)
  nodes_hear may = let c = comes may.journal may.turn in (c.first, c.second)

-- 3. The step

module _ (t : Network) (lawful : IsLawful t) (tick number next : ℕ) (old new : Routed) (peer edge : NodeNo) (channels : ℕ)
    (flight : IsFlight channels old.messages)
    (hears : (m : BgpMessage) (answer : BgpReply) → MayHear t old peer.0 edge.0 m answer → Hears t tick number peer.0 edge.0 m answer old new next) where
  abbrev step_now : Step
  step_now = step.HearBgp peer edge

  abbrev from : ℕ
  from = peer.0

  abbrev at : ℕ
  at = edge.0

  did_so : (es : List JournalEntry) → IsRoutes t es old → IsTurn t es step_now →
      Hears t tick number from at (heard_now t lawful peer edge old es) (answer_now t lawful peer edge old es) old new next
  did_so es stands turn = hears (heard_now t lawful peer edge old es) (answer_now t lawful peer edge old es) (may_hear t lawful peer edge old es stands turn)

  told_is : (es : List JournalEntry) → IsTurn t es step_now → tolds t (world_of t es) step_now
      ≡ told_to at from
      (cond (answer_now t lawful peer edge old es).say_keep (BgpKeepAlive ∷ []) [] ++ cond (answer_now t lawful peer edge old es).became_established
      (map (λ export. Announcement export) (ledger_exports.exports_of t (world_of t es).config at)) [])
  told_is es turn =
      let w : World = world_of t es in
      let c = comes t lawful peer edge old es turn in
      let q = brings t es step_now lawful turn in
      ap (λ xs. told_to at from (reply (bgp_state_of w.config w.peerings at from) (next_of w at from) (ledger_exports.exports_of t w.config at)) ++ xs)
      (no_news t w.config w.config w.peerings (bgp_counted w.peerings step_now) (λ e. nothing_changed (ledger_exports.exports_of t w.config e)))
      ∙ append-nil (told_to at from (reply (bgp_state_of w.config w.peerings at from) (next_of w at from) (ledger_exports.exports_of t w.config at)))
      ∙ ap (told_to at from) (coming.replies t w at from lawful q.turn c.is)

  hears_peerings : (es : List JournalEntry) →
      (after t (world_of t es) step_now).peerings ≡ with_told (bgp_counted (world_of t es).peerings step_now) (tolds t (world_of t es) step_now)
  unfolding peerings_after
  hears_peerings es = refl

  parcels : (es : List JournalEntry) → IsRoutes t es old → IsTurn t es step_now → map (parcel_of t (labels_of t es)) (tolds t (world_of t es) step_now)
      ≡ answers_in t at from (answer_now t lawful peer edge old es)
      (exports_of (after_message (edge_at old at) from (update_of (heard_now t lawful peer edge old es))))
  parcels es stands turn =
      let w : World = world_of t es in
      let c = comes t lawful peer edge old es turn in
      ap (map (parcel_of t (labels_of t es))) (told_is es turn)
      ∙ answer_parcels t (labels_of t es) at from (answer_now t lawful peer edge old es) (ledger_exports.exports_of t w.config at) _
      (exports_are t lawful peer edge old es turn ∙ ap exports_of (sym (edge_is t (labels_of t es) w old stands at c.second c.known))
      ∙ sym (same_exports (edge_at old at) from (update_of (heard_now t lawful peer edge old es))))

  put : (es : List JournalEntry) (stands : IsRoutes t es old) (turn : IsTurn t es step_now) →
      new.messages ≡ (taken (channel_from t from at) old).messages ++ put_all (tick + t.bgp_delay) number
      (map (parcel_of t (labels_of t es)) (tolds t (world_of t es) step_now))
  put es stands turn =
      ap (λ (r : Routed). r.messages) (did_so es stands turn).new_is
      ∙ ap (λ ps. (taken (channel_from t from at) old).messages ++ put_all (tick + t.bgp_delay) number ps) (sym (parcels es stands turn))

  told_nodes : (ms : List Telling) → from < length t.loopbacks → AreToNodes t (told_to at from ms)
  told_nodes ms below x i = let m = in_map (λ telling. record { teller = at; peer = from; telling = telling }) ms x i in
      subst (λ (y : Told). y.peer < length t.loopbacks) m.2 below

  taken_flies : (es : List JournalEntry) → IsRoutes t es old → IsTurn t es step_now →
      FliesAs t (labels_of t es) (bgp_counted (world_of t es).peerings step_now) (taken (channel_from t from at) old).messages
  taken_flies es stands turn x y below under d =
      let w : World = world_of t es in
      let l : Labels = labels_of t es in
      let c = comes t lawful peer edge old es turn in
      let f = first_item (on_channel (channel_from t from at) old.messages) _ _ (flies_first t lawful peer edge old es stands c) in
      let left : without (next_on old (channel_from t from at)) old.messages ≡ filter
      (λ (item : Item (List ℕ)). not (item.number == f.0.number)) old.messages = ap (λ o. without o old.messages) f.1 in
      ap (bytes_on (x * length t.loopbacks + y)) left
      ∙ elim (eqb_tells (x * length t.loopbacks + y) (channel_from t from at)) [
        | inl e ↦ (let p = pair_one (length t.loopbacks) x from y at under c.second e.1 in
            ap (λ k. bytes_on k (filter (λ (item : Item (List ℕ)). not (item.number == f.0.number)) old.messages)) e.1
            ∙ ap (map (λ (item : Item (List ℕ)). item.item)) (left_on (channel_from t from at) old.messages 0 f.0 flight.ascending f.1
            ∙ without_first (on_channel (channel_from t from at) old.messages))
            ∙ map_drop (λ (item : Item (List ℕ)). item.item) (on_channel (channel_from t from at) old.messages)
            ∙ ap (drop 1) (stands.messages from at c.first c.second c.apart)
            ∙ sym (map_drop (bytes_in t l from) (drop (w.peerings.heard at from) (w.peerings.told from at)))
            ∙ ap (map (bytes_in t l from)) (drop_more (w.peerings.heard at from) (w.peerings.told from at))
            ∙ ap (λ n. map (bytes_in t l from) (drop n (w.peerings.told from at)))
            (sym (pair_here w.peerings.heard at from (w.peerings.heard at from + 1) ∙ add-one (w.peerings.heard at from)))
            ∙ ap (λ n. unheard t l (bgp_counted w.peerings step_now) n at) (sym p.0) ∙ ap (λ n. unheard t l (bgp_counted w.peerings step_now) x n) (sym p.1))
        | inr e ↦
            ap (map (λ (item : Item (List ℕ)). item.item))
            (left_off (channel_from t from at) (x * length t.loopbacks + y) old.messages 0 f.0 flight.ascending f.1 e.0)
            ∙ stands.messages x y below under d
            ∙ ap (λ n. map (bytes_in t l x) (drop n (w.peerings.told x y)))
            (sym (pair_off w.peerings.heard at from (w.peerings.heard at from + 1) y x (elsewhere x y e.1)))
      ]
    where
      elsewhere : (x y : ℕ) → x * length t.loopbacks + y ≢ channel_from t from at → (y ≢ at) ⊎ (x ≢ from)
      elsewhere x y h = elim (eqb_tells y at) [
        | inr q ↦ inl q.1
        | inl q ↦ inr (λ e. h (ap (λ k. k * length t.loopbacks + y) e ∙ ap (λ k. from * length t.loopbacks + k) q.1))
      ]

  heard_more : (es : List JournalEntry) → IsTurn t es step_now → IsHeard (bgp_counted (world_of t es).peerings step_now)
  heard_more es turn x y d =
      let w : World = world_of t es in
      let c = comes t lawful peer edge old es turn in
      let q = brings t es step_now lawful turn in
      elim (eqb_tells y at) [
        | inr e ↦ subst (λ n. n ≤ length (w.peerings.told x y)) (sym (pair_off w.peerings.heard at from (w.peerings.heard at from + 1) y x (inl e.1)))
            (heard_all w q.turn.bgp x y d)
        | inl e ↦ elim (eqb_tells x from) [
          | inr f ↦ subst (λ n. n ≤ length (w.peerings.told x y)) (sym (pair_off w.peerings.heard at from (w.peerings.heard at from + 1) y x (inr f.1)))
              (heard_all w q.turn.bgp x y d)
          | inl f ↦ subst (λ n. n ≤ length (w.peerings.told x y))
              (sym (ap (λ k. put_pair w.peerings.heard at from (w.peerings.heard at from + 1) k x) e.1
              ∙ ap (put_pair w.peerings.heard at from (w.peerings.heard at from + 1) at) f.1
              ∙ pair_here w.peerings.heard at from (w.peerings.heard at from + 1)))
              (subst (λ k. w.peerings.heard at from + 1 ≤ length (w.peerings.told k y)) (sym f.1)
              (subst (λ k. w.peerings.heard at from + 1 ≤ length (w.peerings.told from k)) (sym e.1)
              (let there : w.peerings.heard at from < length (w.peerings.told from at) = c.is.there in omega (arith, there))))
        ]
      ]

  pub did_hear : Did t tick number step_now old new (next - number)
  did_hear = record {
    goes = go;
    messages = λ es stands turn.
        let c = comes t lawful peer edge old es turn in
        let f = first_item (on_channel (channel_from t from at) old.messages) _ _ (flies_first t lawful peer edge old es stands c) in
        keys_then t (labels_of t es) tick number (tolds t (world_of t es) step_now) (taken (channel_from t from at) old).messages new.messages
        (put es stands turn)
        ∙ ap (λ ks. ks ++ keys_on (of_routes (length t.loopbacks)) (numbered t tick number (map route_of (tolds t (world_of t es) step_now))))
        (ap (λ o. keys_in (without o old.messages)) f.1 ∙ key_taken (channel_from t from at) old.messages 0 f.0 flight.ascending f.1);
    count = λ es stands turn. count_then t (labels_of t es) number next (tolds t (world_of t es) step_now)
        ((did_so es stands turn).next_is ∙ ap (λ ps. number + length ps) (sym (parcels es stands turn)));
  }
    where
      go : (es : List JournalEntry) → IsRoutes t es old → IsTurn t es step_now → IsRoutes t (pushed es tick step_now) new
      go es stands turn =
          let w : World = world_of t es in
          let l : Labels = labels_of t es in
          let c = comes t lawful peer edge old es turn in
          let did = did_so es stands turn in
          let parts = routes_go t l es step_now lawful turn in
          let m : BgpMessage = heard_now t lawful peer edge old es in
          let has : HasEdge t old at = has_edge t l w old stands at c.second c.known in
          let here : RoutesNow = routes_in t l w.config w.peerings in
          then_stands t es tick step_now new (record {
            edges = ap (λ (r : Routed). r.edges) did.new_is
                ∙ ap (λ xs. slice_set xs at (Some (working (after_message (edge_at old at) from (update_of m))))) stands.edges
                ∙ set_edge here.edges at (λ now. after_message now from (update_of m)) (edge_at old at) (sym (ap (λ xs. slice_get xs at) stands.edges)
                ∙ has.there)
                ∙ ap (λ (r : RoutesNow). map (option_map working) r.edges) (sym parts);
            sessions = ap (λ (r : Routed). r.sessions) did.new_is
                ∙ ap (λ rows. slice_set rows at
                (slice_set (slice_index_or rows at []) from
                (option_map (λ session. table.after_message session m) (slice_index_or (slice_index_or rows at []) from None)))) stands.sessions
                ∙ ap (λ (r : RoutesNow). r.sessions) (sym parts);
            messages =
                subst (λ p. FliesAs t l p new.messages) (sym (hears_peerings es))
                (subst (FliesAs t l (with_told (bgp_counted w.peerings step_now) (tolds t w step_now))) (sym (put es stands turn))
                (flies_told t l (bgp_counted w.peerings step_now) (tick + t.bgp_delay) number (tolds t w step_now) (taken (channel_from t from at) old).messages
                (heard_more es turn) (subst (AreToNodes t) (sym (told_is es turn)) (told_nodes _ c.first)) (taken_flies es stands turn)));
          })

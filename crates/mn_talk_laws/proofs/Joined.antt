-- Told export by export, as in a full mesh, or route by route, each lawful run is the same word for word.
use Rattle.std.proofs.Common.{ℕ, zero, suc, ◌≡◌, ◌≢◌, ◌<◌, ◌≤◌, ◌⊎◌, inl, inr, Bool, true, false, cond, List, [], ◌∷◌, ◌++◌, map, filter, find, length}
use Rattle.std.proofs.Common.{Option, Some, None, refl, arith, sym, ◌∙◌, ap, append-nil}
use Rattle.std.proofs.Math.Path.{fun_ext}
use Rattle.std.specs.Prelude.{◌&&◌, not, nat_le, if◌then◌else◌, option_map, slice_get, slice_index_or}
use Rattle.std.specs.List.{flat_map}
use Rattle.std.proofs.lemmas.Bool.Decides.{eqb_tells}
use Rattle.std.proofs.lemmas.List.{map-append}
use Rattle.mn_base.proofs.Bools.{no, two_ways}
use Rattle.mn_base.proofs.Members.{In, in_front, in_filter, in_range}
use Rattle.mn_states.specs.declared.states.BgpState.TheVariants.{Idle}
use Rattle.mn_wiring.specs.Wiring.{nodes_of}
use Rattle.mn_topo.specs.VrfTable.{is_edge}
use Rattle.mn_topo.specs.Network.{Network, wiring_of}
use Rattle.mn_topo.specs.Lawful.{IsLawful}
use Rattle.mn_topo.specs.declared.steps.Step.{Step}
use Rattle.mn_topo.specs.declared.steps.Step.TheVariants as step
use Rattle.mn_ledger.specs.Places.{edges}
use Rattle.mn_ledger.specs.World.{Config, Export, Telling, Announcement, Withdrawal, SiteRoute}
use Rattle.mn_ledger.specs.Exports.{exports_of}
use Rattle.mn_ledger.specs.Bgp.{peers_live, state_heard, withdrawn, announced, steady_peers}
use Rattle.mn_ledger.specs.Ledger.{first_config, config_after, is_static}
use Rattle.mn_ledger.proofs.OneKind.{tells_one_kind}
use Rattle.mn_ledger.proofs.Peers.{live_sym}
use Rattle.mn_ledger.proofs.Statics.{HasStatics}
use Rattle.mn_settled_laws.proofs.Changes.{exports-different, exports-kept}
use Rattle.mn_reflect_ledger_laws.specs.Words.{Key, Offer, Word, Open, KeepAlive, Announce, Withdraw, key_of, same_key, keys_in, in_order, change}
use Rattle.mn_reflect_ledger_laws.specs.Picks.{Spoken, ReflectWorld, is_reflector, plain, through, to_reflect, own_offer, offered}
use Rattle.mn_reflect_ledger_laws.specs.World.{words_to, says, all_offers, reply, is_steady, news_of, news, after, start}
use Rattle.mn_reflect_ledger_laws.specs.Refusal.{refusal}
use Rattle.mn_reflect_ledger_laws.specs.Quiet.{AreReflectors, NamesNodes}
use Rattle.mn_reflect_ledger_laws.specs.Holding.{AreDoneFrom}
use Rattle.mn_reflect_ledger_laws.proofs.Saying.{words_append, words_flat, says_other, flat_none, flat_same, flat_one}
use Rattle.mn_reflect_ledger_laws.proofs.Holding.{at_its_edge, is_an_edge}
use Rattle.mn_reflect_ledger_laws.proofs.Chosen.{in_reflectors, reflector_in}
use Rattle.mn_reflect_world_laws.specs.Steps.{takes, AreTaken, IsLawfulRun}
use Rattle.mn_reflect_world_laws.specs.Labels.{first_labels, labels_after}
use Rattle.mn_bgp_spelling_laws.specs.Spelling.{Labels}
use Rattle.mn_reflect_world_laws.proofs.Config.{IsInOrder}
use Rattle.mn_reflect_world_laws.proofs.EdgeNews.{AreExports, anew, gone, comes_told, goes_told}
use Rattle.mn_reflect_world_laws.proofs.EdgeLetters.{exports_up}
use Rattle.mn_reflect_world_laws.proofs.Run.{IsRest, rests, rest_goes, names_nodes}
use Rattle.mn_talk_laws.specs.Talk.{Talks, word_of, peerings_of, heard_words, seen, answer, full_offer, answers, spoken_of, edge_news, spoken_in, counted}
use Rattle.mn_talk_laws.specs.Talk.{with_spoken}
use Rattle.mn_talk_laws.specs.Talk.{talks_after, talks_from, no_talks}
use Rattle.mn_talk_laws.specs.Laws.{TalksInTurn, AreOnce}
use Rattle.mn_talk_laws.specs.Keys.{answers_by_keys, spoken_by_keys, after_by_keys, from_by_keys, IsThere, AreThere}
use Rattle.mn_talk_laws.proofs.Alike.{left_out, nothing_left}
use Rattle.mn_talk_laws.proofs.Run.{Matches, taken, counted_matches, step_matches, is_talk, start_matches}

-- 1. What one edge tells

singles : {A B : Type 0} (f : A → B) (xs : List A) → flat_map (λ x. f x ∷ []) xs ≡ map f xs
singles f [] = refl
singles f (x ∷ xs) = ap (λ ys. f x ∷ ys) (singles f xs)

flat_over : {A B C : Type 0} (f : B → List C) (g : A → B) (xs : List A) → flat_map f (map g xs) ≡ flat_map (λ x. f (g x)) xs
flat_over f g [] = refl
flat_over f g (x ∷ xs) = ap (λ ys. f (g x) ++ ys) (flat_over f g xs)

module _ (t : Network) (reflectors : List ℕ) (c d : Config) (q new : Talks) (m : ℕ) (off : is_reflector reflectors m ≡ false)
    (counts : (p : ℕ) → length (heard_words q m p) ≡ q.heard m p) (new_counts : (p : ℕ) → length (heard_words new m p) ≡ new.heard m p)
    (are : AreExports (exports_of t c m) (exports_of t d m)) where
  abbrev steady : ℕ → Bool
  steady p = is_steady (seen c q) (seen d new) m p

  abbrev is_told : ℕ → Bool
  is_told p = (peers_live c m p && nat_le 2 (q.heard m p)) && (peers_live d m p && nat_le 2 (new.heard m p))

  steady_is : (p : ℕ) → is_told p ≡ steady p
  steady_is p =
      ap (λ k. (peers_live c m p && nat_le 2 k) && (peers_live d m p && nat_le 2 (new.heard m p))) (sym (counts p))
      ∙ ap (λ k. (peers_live c m p && nat_le 2 (length (heard_words q m p))) && (peers_live d m p && nat_le 2 k)) (sym (new_counts p))

  -- words that are sent to each such peer
  abbrev said : List Word → List Spoken
  said words = flat_map (λ p. cond (steady p) (says m p words) []) (nodes_of (wiring_of t))

  nothing : said [] ≡ []
  nothing = flat_none (λ p. cond (steady p) (says m p []) []) (nodes_of (wiring_of t)) (λ p. by (steady p))
    where
      by : (b : Bool) → (let r : List Spoken = cond b [] [] in r) ≡ []
      by true = refl
      by false = refl

  one_telling : (telling : Telling) (ps : List ℕ) →
      map spoken_of (map (λ p. record { teller = m; peer = p; telling = telling }) (filter is_told ps))
      ≡ flat_map (λ p. cond (steady p) (says m p (word_of telling ∷ [])) []) ps
  one_telling telling [] = refl
  one_telling telling (p ∷ ps) =
      ap (λ b. map spoken_of (map (λ x. record { teller = m; peer = x; telling = telling }) (cond b (p ∷ filter is_told ps) (filter is_told ps)))) (steady_is p)
      ∙ by (steady p) (one_telling telling ps)
    where
      by : (b : Bool) → map spoken_of (map (λ x. record { teller = m; peer = x; telling = telling }) (filter is_told ps))
          ≡ flat_map (λ x. cond (steady x) (says m x (word_of telling ∷ [])) []) ps →
          map spoken_of (map (λ x. record { teller = m; peer = x; telling = telling }) (cond b (p ∷ filter is_told ps) (filter is_told ps)))
          ≡ cond b (says m p (word_of telling ∷ [])) [] ++ flat_map (λ x. cond (steady x) (says m x (word_of telling ∷ [])) []) ps
      by true e = ap (λ ss. record { from = m; to = p; word = word_of telling } ∷ ss) e
      by false e = e

  all_tellings : (tellings : List Telling) →
      map spoken_of (flat_map (λ telling. map (λ p. record { teller = m; peer = p; telling = telling })
      (steady_peers t c (peerings_of q) d (peerings_of new) m)) tellings)
      ≡ flat_map (λ telling. said (word_of telling ∷ [])) tellings
  all_tellings [] = refl
  all_tellings (telling ∷ tellings) =
      map-append spoken_of (map (λ p. record { teller = m; peer = p; telling = telling }) (steady_peers t c (peerings_of q) d (peerings_of new) m))
      (flat_map (λ x. map (λ p. record { teller = m; peer = p; telling = x }) (steady_peers t c (peerings_of q) d (peerings_of new) m)) tellings)
      ∙ ap (λ ss. ss ++ map spoken_of (flat_map (λ x. map (λ p. record { teller = m; peer = p; telling = x })
      (steady_peers t c (peerings_of q) d (peerings_of new) m)) tellings)) (one_telling telling (nodes_of (wiring_of t)))
      ∙ ap (λ ss. said (word_of telling ∷ []) ++ ss) (all_tellings tellings)

  abbrev old_of : Key → Option Offer
  old_of k = find (λ o. same_key k (key_of o)) (map plain (exports_of t c m))

  abbrev new_of : Key → Option Offer
  new_of k = find (λ o. same_key k (key_of o)) (map plain (exports_of t d m))

  -- route by route
  by_names : news t reflectors (seen c q) (seen d new) m
      ≡ flat_map (λ k. said (change k (old_of k) (new_of k)))
      (in_order (map key_of (map plain (exports_of t c m)) ++ map key_of (map plain (exports_of t d m))))
  by_names = ap told off
    where
      told : Bool → List Spoken
      told b =
          flat_map (λ k. flat_map (λ p. cond (steady p) (says m p (change k
          (if b then option_map (through t m) (to_reflect t reflectors (seen c q) m p k) else own_offer t c m k)
          (if b then option_map (through t m) (to_reflect t reflectors (seen d new) m p k) else own_offer t d m k))) []) (nodes_of (wiring_of t)))
          (in_order ((if b then flat_map (λ p. keys_in (heard_words q m p)) (nodes_of (wiring_of t)) else map key_of (map plain (exports_of t c m)))
          ++ (if b then flat_map (λ p. keys_in (heard_words new m p)) (nodes_of (wiring_of t)) else map key_of (map plain (exports_of t d m)))))

  pub tells_alike : (withdrawn (exports_of t c m) (exports_of t d m) ≡ []) ⊎ (announced (exports_of t c m) (exports_of t d m) ≡ []) →
      news t reflectors (seen c q) (seen d new) m ≡ edge_news t c q d new m
  tells_alike kind = by_names ∙ by kind
      ∙ sym (all_tellings (withdrawn (exports_of t c m) (exports_of t d m) ++ announced (exports_of t c m) (exports_of t d m)))
    where
      by : (withdrawn (exports_of t c m) (exports_of t d m) ≡ []) ⊎ (announced (exports_of t c m) (exports_of t d m) ≡ []) →
          flat_map (λ k. said (change k (old_of k) (new_of k)))
          (in_order (map key_of (map plain (exports_of t c m)) ++ map key_of (map plain (exports_of t d m))))
          ≡ flat_map (λ telling. said (word_of telling ∷ []))
          (withdrawn (exports_of t c m) (exports_of t d m) ++ announced (exports_of t c m) (exports_of t d m))
      by (inl none) =
          comes_told (exports_of t c m) (exports_of t d m) are said nothing (left_out (gone (exports_of t d m)) (exports_of t c m)
          (nothing_left (λ (x : Export). Withdrawal x.vrf x.prefix) (filter (gone (exports_of t d m)) (exports_of t c m)) none))
          ∙ sym (flat_over (λ telling. said (word_of telling ∷ [])) (λ (x : Export). Announcement x) (filter (anew (exports_of t c m)) (exports_of t d m)))
          ∙ ap (λ ts. flat_map (λ telling. said (word_of telling ∷ [])) (ts ++ announced (exports_of t c m) (exports_of t d m))) (sym none)
      by (inr none) =
          goes_told (exports_of t c m) (exports_of t d m) are said nothing (left_out (anew (exports_of t c m)) (exports_of t d m)
          (nothing_left (λ (x : Export). Announcement x) (filter (anew (exports_of t c m)) (exports_of t d m)) none))
          ∙ sym (flat_over (λ telling. said (word_of telling ∷ [])) (λ (x : Export). Withdrawal x.vrf x.prefix)
          (filter (gone (exports_of t d m)) (exports_of t c m)))
          ∙ ap (flat_map (λ telling. said (word_of telling ∷ [])))
          (sym (append-nil (withdrawn (exports_of t c m) (exports_of t d m))) ∙ ap (λ ts. withdrawn (exports_of t c m) (exports_of t d m) ++ ts) (sym none))

  -- all that it offers
  all_anew : (ys : List Export) → filter (anew []) ys ≡ ys
  all_anew [] = refl
  all_anew (y ∷ ys) = ap (λ zs. y ∷ zs) (all_anew ys)

  pub offers_alike : (p : ℕ) → all_offers t reflectors (seen d new) m p ≡ map (λ (e : Export). Announce (plain e)) (exports_of t d m)
  offers_alike p =
      ap offer off
      ∙ comes_told [] (exports_of t d m) from_none (λ ws. ws) refl (λ x i. absurd i)
      ∙ ap (flat_map (λ (e : Export). Announce (plain e) ∷ [])) (all_anew (exports_of t d m))
      ∙ singles (λ (e : Export). Announce (plain e)) (exports_of t d m)
    where
      offer : Bool → List Word
      offer b =
          flat_map (λ k. change k None
          (if b then option_map (through t m) (to_reflect t reflectors (seen d new) m p k) else own_offer t d m k))
          (in_order (if b then flat_map (λ x. keys_in (heard_words new m x)) (nodes_of (wiring_of t)) else map key_of (map plain (exports_of t d m))))

      from_none : AreExports [] (exports_of t d m)
      from_none = record {
        old_up = tt;
        new_up = are.new_up;
        old_one = λ x y i. absurd i;
        new_one = are.new_one;
        kept = λ y x i j. absurd j;
      }

-- 2. What is answered

word_at : (xs : List Word) (k : ℕ) → k < length xs → slice_get xs k ≡ Some (slice_index_or xs k Open)
word_at [] k h = absurd (none k h)
  where
    none : (n : ℕ) → n < 0 → ⊥
    none n h = omega (arith, h)
word_at (x ∷ xs) zero h = refl
word_at (x ∷ xs) (suc k) h = word_at xs k (omega (arith, h))

answer_alike : (t : Network) (reflectors : List ℕ) (w : ReflectWorld) (n p count : ℕ) (word : Word) (full : List Word) →
    full ≡ all_offers t reflectors w n p → answer (state_heard count) word full ≡ reply t reflectors w n p count (Some word)
answer_alike t reflectors w n p zero Open full e = refl
answer_alike t reflectors w n p zero KeepAlive full e = refl
answer_alike t reflectors w n p zero (Announce x) full e = refl
answer_alike t reflectors w n p zero (Withdraw k) full e = refl
answer_alike t reflectors w n p (suc zero) Open full e = refl
answer_alike t reflectors w n p (suc zero) KeepAlive full e = e
answer_alike t reflectors w n p (suc zero) (Announce x) full e = refl
answer_alike t reflectors w n p (suc zero) (Withdraw k) full e = refl
answer_alike t reflectors w n p (suc (suc count)) Open full e = refl
answer_alike t reflectors w n p (suc (suc count)) KeepAlive full e = refl
answer_alike t reflectors w n p (suc (suc count)) (Announce x) full e = refl
answer_alike t reflectors w n p (suc (suc count)) (Withdraw k) full e = refl

-- 3. Of a list one number's words alone

flat_passed : (test : ℕ → Bool) (f : ℕ → List Word) (xs : List ℕ) → flat_map f (filter test xs) ≡ flat_map (λ x. cond (test x) (f x) []) xs
flat_passed test f [] = refl
flat_passed test f (x ∷ xs) = by (test x) (flat_passed test f xs)
  where
    by : (b : Bool) → flat_map f (filter test xs) ≡ flat_map (λ y. cond (test y) (f y) []) xs →
        flat_map f (cond b (x ∷ filter test xs) (filter test xs)) ≡ cond b (f x) [] ++ flat_map (λ y. cond (test y) (f y) []) xs
    by true e = ap (λ ys. f x ++ ys) e
    by false e = e

module _ (f : ℕ → List Word) (n : ℕ) (only : (x : ℕ) → x ≢ n → f x ≡ []) where
  none_in : (xs : List ℕ) → (In xs n → ⊥) → flat_map f xs ≡ []
  none_in [] out = refl
  none_in (x ∷ xs) out = ap (λ ys. ys ++ flat_map f xs) (only x (λ e. out (inl e))) ∙ none_in xs (λ j. out (inr j))

  once_in : (xs : List ℕ) → AreOnce xs → In xs n → flat_map f xs ≡ f n
  once_in [] o i = absurd i
  once_in (x ∷ xs) o i = elim (eqb_tells x n) [
    | inl e ↦ ap (λ ys. f x ++ ys) (none_in xs (λ j. no (sym o.0 ∙ ap (is_reflector xs) e.1 ∙ in_reflectors xs n j))) ∙ append-nil (f x) ∙ ap f e.1
    | inr e ↦ ap (λ ys. ys ++ flat_map f xs) (only x e.1) ∙ once_in xs o.1 (elim i [ inl g ↦ absurd (e.1 g) | inr j ↦ j ])
  ]

  -- of a list in which each stands once, where it is there
  by_place : (xs : List ℕ) → AreOnce xs → flat_map f xs ≡ cond (is_reflector xs n) (f n) []
  by_place xs o = by (is_reflector xs n) refl
    where
      by : (b : Bool) → is_reflector xs n ≡ b → flat_map f xs ≡ cond b (f n) []
      by true e = once_in xs o (reflector_in xs n e)
      by false e = none_in xs (λ i. no (sym e ∙ in_reflectors xs n i))

-- 4. What all tell

module _ (t : Network) (reflectors : List ℕ) (are : AreReflectors t reflectors) (once : AreOnce reflectors) (c d : Config) (q new : Talks)
    (counts : (n p : ℕ) → length (heard_words q n p) ≡ q.heard n p) (new_counts : (n p : ℕ) → length (heard_words new n p) ≡ new.heard n p)
    (exports : (m : ℕ) → AreExports (exports_of t c m) (exports_of t d m))
    (kind : (m : ℕ) → (withdrawn (exports_of t c m) (exports_of t d m) ≡ []) ⊎ (announced (exports_of t c m) (exports_of t d m) ≡ [])) where
  abbrev by_keys : ℕ → List Spoken
  by_keys m = news t reflectors (seen c q) (seen d new) m

  edge_alike : (m : ℕ) → is_reflector reflectors m ≡ false → by_keys m ≡ edge_news t c q d new m
  edge_alike m off = tells_alike t reflectors c d q new m off (counts m) (new_counts m) (exports m) (kind m)

  full_is : (m p : ℕ) → full_offer t reflectors d new m p ≡ all_offers t reflectors (seen d new) m p
  full_is m p = by (is_reflector reflectors m) refl
    where
      by : (b : Bool) → is_reflector reflectors m ≡ b → full_offer t reflectors d new m p ≡ all_offers t reflectors (seen d new) m p
      by true e = ap (λ x. cond x (all_offers t reflectors (seen d new) m p) (map (λ (y : Export). Announce (plain y)) (exports_of t d m))) e
      by false e =
          ap (λ x. cond x (all_offers t reflectors (seen d new) m p) (map (λ (y : Export). Announce (plain y)) (exports_of t d m))) e
          ∙ sym (offers_alike t reflectors c d q new m e (counts m) (new_counts m) (exports m) p)

  no_members : (xs : List Export) → ((x : Export) → In xs x → ⊥) → xs ≡ []
  no_members [] f = refl
  no_members (x ∷ xs) f = absurd (f x (inl refl))

  no_exports : (config : Config) (m : ℕ) → is_edge t.vrfs m ≡ false → exports_of t config m ≡ []
  no_exports config m off = no_members (exports_of t config m) (λ x i.
      let at = at_its_edge t config m x i in
      no (sym off ∙ ap (is_edge t.vrfs) (sym at.1) ∙ is_an_edge t x.vrf at.0))

  -- a node that is neither tells nothing
  neither_tells : (m : ℕ) → is_reflector reflectors m ≡ false → is_edge t.vrfs m ≡ false → by_keys m ≡ []
  neither_tells m off plain_node =
      edge_alike m off
      ∙ ap (λ xs. told xs (exports_of t d m)) (no_exports c m plain_node)
      ∙ ap (told []) (no_exports d m plain_node)
    where
      told : List Export → List Export → List Spoken
      told xs ys = map spoken_of (flat_map (λ telling. map (λ p. record { teller = m; peer = p; telling = telling })
          (steady_peers t c (peerings_of q) d (peerings_of new) m)) (withdrawn xs ys ++ announced xs ys))

  of_another : (n p m : ℕ) → m ≢ n → words_to n p (by_keys m) ≡ []
  of_another n p m apart =
      words_flat n p (λ k. flat_map (news_of t reflectors (seen c q) (seen d new) m k) (nodes_of (wiring_of t))) _
      ∙ flat_none _ _ (λ k. words_flat n p (news_of t reflectors (seen c q) (seen d new) m k) (nodes_of (wiring_of t))
      ∙ flat_none _ (nodes_of (wiring_of t)) (λ x. by k x (is_steady (seen c q) (seen d new) m x)))
    where
      by : (k : Key) (x : ℕ) (b : Bool) → words_to n p (cond b (says m x (change k
          (offered t reflectors (seen c q) m x k)
          (offered t reflectors (seen d new) m x k))) []) ≡ []
      by k x true = says_other n p m x _ (inl apart)
      by k x false = refl

  edge_is_none : (m : ℕ) → is_edge t.vrfs m ≡ true → is_reflector reflectors m ≡ false
  edge_is_none m h = elim (two_ways (is_reflector reflectors m)) [ inl e ↦ absurd (no (sym (are.no_edges m e) ∙ h)) | inr e ↦ e ]

  module _ (n p : ℕ) where
    abbrev words : ℕ → List Word
    words m = words_to n p (by_keys m)

    -- where the node is an edge
    abbrev edge_words : ℕ → List Word
    edge_words m = cond (is_edge t.vrfs m) (words m) []

    only_edge : (m : ℕ) → m ≢ n → edge_words m ≡ []
    only_edge m apart = by (is_edge t.vrfs m)
      where
        by : (b : Bool) → cond b (words m) [] ≡ []
        by true = of_another n p m apart
        by false = refl

    of_edges : words_to n p (flat_map (edge_news t c q d new) (edges t)) ≡ flat_map edge_words (nodes_of (wiring_of t))
    of_edges =
        words_flat n p (edge_news t c q d new) (edges t)
        ∙ flat_passed (λ m. is_edge t.vrfs m) (λ m. words_to n p (edge_news t c q d new m)) (nodes_of (wiring_of t))
        ∙ flat_same (λ m. cond (is_edge t.vrfs m) (words_to n p (edge_news t c q d new m)) []) edge_words (nodes_of (wiring_of t))
        (λ m. by m (is_edge t.vrfs m) refl)
      where
        by : (m : ℕ) (b : Bool) → is_edge t.vrfs m ≡ b → cond b (words_to n p (edge_news t c q d new m)) [] ≡ cond b (words m) []
        by m true e = ap (words_to n p) (sym (edge_alike m (edge_is_none m e)))
        by m false e = refl

    of_reflectors : words_to n p (flat_map by_keys reflectors) ≡ cond (is_reflector reflectors n) (words n) []
    of_reflectors = words_flat n p by_keys reflectors ∙ by_place words n (of_another n p) reflectors once

    there : (n < length t.loopbacks) ⊎ (length t.loopbacks ≤ n)
    there = grind arith

    -- edges, and then reflectors, say what all nodes do
    all_alike : words_to n p (flat_map by_keys (nodes_of (wiring_of t)))
        ≡ words_to n p (flat_map (edge_news t c q d new) (edges t) ++ flat_map by_keys reflectors)
    all_alike =
        words_flat n p by_keys (nodes_of (wiring_of t)) ∙ (elim there [ inl below ↦ within below | inr above ↦ beyond above ])
        ∙ sym (words_append n p (flat_map (edge_news t c q d new) (edges t)) (flat_map by_keys reflectors)
        ∙ ap (λ ws. ws ++ words_to n p (flat_map by_keys reflectors)) of_edges
        ∙ ap (λ ws. flat_map edge_words (nodes_of (wiring_of t)) ++ ws) of_reflectors)
      where
        within : n < length t.loopbacks → flat_map words (nodes_of (wiring_of t))
            ≡ flat_map edge_words (nodes_of (wiring_of t)) ++ cond (is_reflector reflectors n) (words n) []
        within below =
            flat_one words n 0 (length t.loopbacks) (omega arith) (omega (arith, below)) (of_another n p)
            ∙ by (is_edge t.vrfs n) (is_reflector reflectors n) refl refl
            ∙ ap (λ ws. ws ++ cond (is_reflector reflectors n) (words n) [])
            (sym (flat_one edge_words n 0 (length t.loopbacks) (omega arith) (omega (arith, below)) only_edge))
          where
            by : (a b : Bool) → is_edge t.vrfs n ≡ a → is_reflector reflectors n ≡ b → words n ≡ cond a (words n) [] ++ cond b (words n) []
            by true true e f = absurd (no (sym (edge_is_none n e) ∙ f))
            by true false e f = sym (append-nil (words n))
            by false true e f = refl
            by false false e f = ap (words_to n p) (neither_tells n f e)

        outside : length t.loopbacks ≤ n → In (nodes_of (wiring_of t)) n → ⊥
        outside above i = let r = in_range 0 (length t.loopbacks) n i in omega (arith, r.1, above)

        beyond : length t.loopbacks ≤ n → flat_map words (nodes_of (wiring_of t))
            ≡ flat_map edge_words (nodes_of (wiring_of t)) ++ cond (is_reflector reflectors n) (words n) []
        beyond above =
            none_in words n (of_another n p) (nodes_of (wiring_of t)) (outside above)
            ∙ ap (λ b. let r : List Word = cond b (words n) [] in r) (sym (is_none above))
            ∙ ap (λ ws. ws ++ cond (is_reflector reflectors n) (words n) []) (sym (none_in edge_words n only_edge (nodes_of (wiring_of t)) (outside above)))
          where
            is_none : length t.loopbacks ≤ n → is_reflector reflectors n ≡ false
            is_none h = elim (two_ways (is_reflector reflectors n)) [ inl e ↦ absurd (let below = are.nodes n e in omega (arith, below, h)) | inr e ↦ e ]

  pub all_tell_alike : (done : Step) → answers t reflectors d q new done ≡ answers_by_keys t reflectors d q new done →
      with_spoken new (spoken_in t reflectors c q d new done) ≡ with_spoken new (spoken_by_keys t reflectors c q d new done)
  all_tell_alike done same = ap (λ (f : ℕ → ℕ → List Word). record { told = f; heard = new.heard }) (fun_ext (λ n. fun_ext (λ p.
      ap (λ ws. new.told n p ++ ws) (
      words_append n p (answers t reflectors d q new done) (flat_map (edge_news t c q d new) (edges t) ++ flat_map by_keys reflectors)
      ∙ ap (λ ws. words_to n p ws ++ words_to n p (flat_map (edge_news t c q d new) (edges t) ++ flat_map by_keys reflectors)) same
      ∙ ap (λ ws. words_to n p (answers_by_keys t reflectors d q new done) ++ ws) (sym (all_alike n p))
      ∙ sym (words_append n p (answers_by_keys t reflectors d q new done) (flat_map by_keys (nodes_of (wiring_of t))))))))

-- 5. A step

-- the exports before and after it are over statics of which no two are alike
record AreOver (t : Network) (c d : Config) : Type 0 where
  all : List SiteRoute
  has : HasStatics t all
  old_in : (x : SiteRoute) → In c.statics x → In all x
  new_in : (x : SiteRoute) → In d.statics x → In all x

are_over : (t : Network) (c : Config) (done : Step) → HasStatics t c.statics → HasStatics t (config_after c done).statics → AreOver t c (config_after c done)
are_over t c (step.AddRoute s prefix) was is = record {
  all = (config_after c (step.AddRoute s prefix)).statics;
  has = is;
  old_in = λ x i. in_front c.statics (record { site = s.0; prefix = prefix } ∷ []) x i;
  new_in = λ x i. i;
}
are_over t c (step.DelRoute s prefix) was is = record {
  all = c.statics;
  has = was;
  old_in = λ x i. i;
  new_in = λ x i. (in_filter (λ static. not (is_static s.0 prefix static)) c.statics x i).0;
}
are_over t c _ was is = record { all = c.statics; has = was; old_in = λ x i. i; new_in = λ x i. i }

module _ (t : Network) (reflectors : List ℕ) (lawful : IsLawful t) (are : AreReflectors t reflectors) (once : AreOnce reflectors) where
  module _ (world : ReflectWorld) (l : Labels) (rest : IsRest t reflectors world l) (talks : Talks) (m : Matches world world.config talks) where
    exports_alike : (done : Step) (k : Labels) → IsInOrder t (config_after world.config done) k → (node : ℕ) →
        AreExports (exports_of t world.config node) (exports_of t (config_after world.config done) node)
    exports_alike done k order node =
        let over = are_over t world.config done rest.order.statics order.statics in
        record {
          old_up = exports_up t world.config l node lawful rest.order;
          new_up = exports_up t (config_after world.config done) k node lawful order;
          old_one = λ x y i j h. exports-different t world.config node rest.order.statics x y i j (ap (λ (z : Key). z.vrf) h, ap (λ (z : Key). z.prefix) h);
          new_one = λ x y i j h. exports-different t (config_after world.config done) node order.statics x y i j
              (ap (λ (z : Key). z.vrf) h, ap (λ (z : Key). z.prefix) h);
          kept = λ y x i j h. exports-kept t over.all world.config (config_after world.config done) node over.has over.new_in over.old_in y x i j h;
        }

    tells : (done : Step) → takes t reflectors done ≡ true → refusal t world done ≡ None → IsThere talks done →
        ((full : (n p : ℕ) → full_offer t reflectors (config_after world.config done) (counted talks done) n p
        ≡ all_offers t reflectors (seen (config_after world.config done) (counted talks done)) n p) →
        answers t reflectors (config_after world.config done) talks (counted talks done) done
        ≡ answers_by_keys t reflectors (config_after world.config done) talks (counted talks done) done) →
        with_spoken (counted talks done) (spoken_in t reflectors world.config talks (config_after world.config done) (counted talks done) done)
        ≡ after_by_keys t reflectors world.config talks done
    tells done is none there same =
        let g = counted_matches t reflectors world world.config talks m done (names_nodes t reflectors lawful are done is) there in
        let next = rest_goes t reflectors lawful are world l done is none rest in
        let counts = λ (n p : ℕ). taken (talks.heard n p) (talks.told p n) (m.most n p) in
        let new_counts = λ (n p : ℕ). taken ((counted talks done).heard n p) ((counted talks done).told p n) (g.most n p) in
        let exports = exports_alike done (labels_after t world.config l done) next.order in
        all_tell_alike t reflectors are once world.config (config_after world.config done) talks (counted talks done) counts new_counts exports
        (tells_one_kind t world.config done) done
        (same (full_is t reflectors are once world.config (config_after world.config done) talks (counted talks done) counts new_counts exports
        (tells_one_kind t world.config done)))

    step_alike : (done : Step) → takes t reflectors done ≡ true → refusal t world done ≡ None → IsThere talks done →
        talks_after t reflectors world.config talks done ≡ after_by_keys t reflectors world.config talks done
    step_alike (step.BgpUp a b) is none there = tells (step.BgpUp a b) is none there (λ full. refl)
    step_alike (step.BgpDown a b) is none there = tells (step.BgpDown a b) is none there (λ full. refl)
    step_alike (step.AddRoute s prefix) is none there = tells (step.AddRoute s prefix) is none there (λ full. refl)
    step_alike (step.DelRoute s prefix) is none there = tells (step.DelRoute s prefix) is none there (λ full. refl)
    step_alike (step.Import v on target) is none there = tells (step.Import v on target) is none there (λ full. refl)
    step_alike (step.Export v on target) is none there = tells (step.Export v on target) is none there (λ full. refl)
    step_alike (step.Attach s) is none there = tells (step.Attach s) is none there (λ full. refl)
    step_alike (step.Detach s) is none there = tells (step.Detach s) is none there (λ full. refl)
    step_alike (step.HearBgp a b) is none there = tells (step.HearBgp a b) is none there (λ full.
        ap (λ x. says b.0 a.0 (answer (if x then state_heard (talks.heard b.0 a.0) else Idle)
        (slice_index_or (talks.told a.0 b.0) (talks.heard b.0 a.0) Open)
        (full_offer t reflectors world.config (counted talks (step.HearBgp a b)) b.0 a.0))) lives
        ∙ ap (says b.0 a.0) (answer_alike t reflectors (seen world.config (counted talks (step.HearBgp a b))) b.0 a.0 (talks.heard b.0 a.0)
        (slice_index_or (talks.told a.0 b.0) (talks.heard b.0 a.0) Open)
        (full_offer t reflectors world.config (counted talks (step.HearBgp a b)) b.0 a.0) (full b.0 a.0))
        ∙ ap (λ o. says b.0 a.0 (reply t reflectors (seen world.config (counted talks (step.HearBgp a b))) b.0 a.0 (talks.heard b.0 a.0) o))
        (sym (word_at (talks.told a.0 b.0) (talks.heard b.0 a.0) there)))
      where
        names : NamesNodes t (step.HearBgp a b)
        names = names_nodes t reflectors lawful are (step.HearBgp a b) is

        turns : TalksInTurn world.config talks a.0 b.0
        turns = (is_talk t reflectors world world.config talks rest.run m).turns a.0 b.0 names.0 names.1 names.2

        lives : peers_live world.config b.0 a.0 ≡ true
        lives = live_sym world.config b.0 a.0 (λ e. names.0 (sym e)) ∙ elim (two_ways (peers_live world.config a.0 b.0)) [
          | inl e ↦ e
          | inr e ↦ absurd (empty (talks.told a.0 b.0) (turns.dead e) there)
        ]
          where
            empty : (xs : List Word) → xs ≡ [] → talks.heard b.0 a.0 < length xs → ⊥
            empty xs e h = let none : length xs ≡ 0 = ap length e in omega (arith, none, h)
    step_alike _ is none there = absurd (no is)

  -- 6. Every run

  alike_from : (steps : List Step) (world : ReflectWorld) (l : Labels) (talks : Talks) → IsRest t reflectors world l → Matches world world.config talks →
      AreTaken t reflectors steps → AreDoneFrom t reflectors world steps → AreThere t reflectors world.config talks steps →
      talks_from t reflectors world.config talks steps ≡ from_by_keys t reflectors world.config talks steps
  alike_from [] world l talks rest m is none each = refl
  alike_from (done ∷ steps) world l talks rest m is none each =
      ap (λ (x : Talks). talks_from t reflectors (config_after world.config done) x steps) (step_alike world l rest talks m done is.0 none.0 each.1)
      ∙ alike_from steps (after t reflectors world done) (labels_after t world.config l done) (after_by_keys t reflectors world.config talks done)
      (rest_goes t reflectors lawful are world l done is.0 none.0 rest)
      (step_matches t reflectors world world.config talks m done each.0 each.1) is.1 none.1 each.2

pub every_run_alike : (t : Network) (reflectors : List ℕ) (steps : List Step) → IsLawfulRun t reflectors steps → AreOnce reflectors →
    AreThere t reflectors (first_config t) no_talks steps →
    talks_from t reflectors (first_config t) no_talks steps ≡ from_by_keys t reflectors (first_config t) no_talks steps
every_run_alike t reflectors steps run once there =
    alike_from t reflectors run.topology_is run.are once steps (start t) (first_labels t) no_talks
    (rests t reflectors [] (record { topology_is = run.topology_is; are = run.are; taken = tt; done = tt })) (start_matches t reflectors) run.taken run.done
    there

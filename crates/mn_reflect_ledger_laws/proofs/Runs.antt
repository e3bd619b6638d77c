-- Whatever steps are done, each end has sent what it offers.
use Rattle.std.proofs.Common.{ℕ, zero, suc, ◌≡◌, ◌≢◌, ◌<◌, ◌+◌, ◌⊎◌, inl, inr, Bool, true, false, cond, List, [], ◌∷◌, ◌++◌, length, Some, None, Option}
use Rattle.std.proofs.Common.{refl, arith, sym, ◌∙◌, ap, subst, append_assoc, append-nil, length-append}
use Rattle.std.specs.Prelude.{◌&&◌, nat_le, nat_lt, if◌then◌else◌}
use Rattle.std.proofs.lemmas.Bool.Decides.{eqb_tells}
use Rattle.mn_base.proofs.Bools.{no, two_ways, less_is, and_false, at_most_is}
use Rattle.mn_topo.specs.Network.{Network}
use Rattle.mn_topo.specs.declared.steps.Step.{Step}
use Rattle.mn_topo.specs.declared.steps.Step.TheVariants as step
use Rattle.mn_ledger.specs.World.{Config}
use Rattle.mn_ledger.specs.Tables.{put_pair}
use Rattle.mn_ledger.specs.Ledger.{config_after}
use Rattle.mn_ledger.specs.Bgp.{peers_live}
use Rattle.mn_ledger.proofs.Peers.{live_sym}
use Rattle.mn_ledger.proofs.GoingBy.{pair_here, pair_off}
use Rattle.mn_reflect_ledger_laws.specs.Words.{Key, Word, Open, KeepAlive, last_mention}
use Rattle.mn_reflect_ledger_laws.specs.Picks.{ReflectWorld, is_established}
use Rattle.mn_reflect_ledger_laws.specs.World.{first_word, without_first, words_to, says, restarted, heard_one, counted, unsaid, all_offers, reply, replies}
use Rattle.mn_reflect_ledger_laws.specs.World.{is_steady, after, start, world_from, world_of}
use Rattle.mn_reflect_ledger_laws.specs.Quiet.{told, SaysItsOffers, BeginsBy, IsInTurn, NamesNodes, AreReflected}
use Rattle.mn_reflect_ledger_laws.proofs.Saying.{words_append, says_own, says_other, to_peer}
use Rattle.mn_reflect_ledger_laws.proofs.Offering.{IsWithin}
use Rattle.mn_reflect_ledger_laws.proofs.Steps.{begins_more, begins_answer, first_is_open, second_is_keep, first_said, others_stay, between_gone}
use Rattle.mn_reflect_ledger_laws.proofs.Steps.{others_between, IsOther, which_pair, told_then, stays, begins_to, begins_anew, told_anew, turns_on}

pub record IsRun (topology : Network) (reflectors : List ℕ) (world : ReflectWorld) : Type 0 where
  pub within : IsWithin topology world
  pub says : (n p : ℕ) → n ≢ p → n < length topology.loopbacks → p < length topology.loopbacks → SaysItsOffers topology reflectors world n p
  pub turns : (n p : ℕ) → n ≢ p → n < length topology.loopbacks → p < length topology.loopbacks → IsInTurn world n p

live_by : (one other : Config) (n p : ℕ) → one.bgp_on ≡ other.bgp_on → peers_live one n p ≡ peers_live other n p
live_by one other n p e = ap (λ (f : ℕ → ℕ → Bool). if nat_lt n p then f n p else f p n) e

-- 1. A step of no session

module _ (topology : Network) (reflectors : List ℕ) (world : ReflectWorld) (run : IsRun topology reflectors world) (done : Step)
    (same : counted world done ≡ world) (sessions : (config_after world.config done).bgp_on ≡ world.config.bgp_on)
    (silent : (new : ReflectWorld) → replies topology reflectors world new done ≡ []) where
  pub within_plain : IsWithin topology (unsaid world done)
  within_plain node peer h = ap (λ (w : ReflectWorld). w.heard node peer) same ∙ run.within node peer h

  module _ (n p : ℕ) (apart : n ≢ p) (there : n < length topology.loopbacks) (peer_there : p < length topology.loopbacks) where
    pub told_plain : told (unsaid world done) n p ≡ told world n p
    told_plain = ap (λ (w : ReflectWorld). w.heard p n ++ words_to n p w.flying) same

    pub live_plain : peers_live (unsaid world done).config n p ≡ peers_live world.config n p
    live_plain = live_by (config_after world.config done) world.config n p sessions

    pub heard_plain : length ((unsaid world done).heard n p) ≡ length (world.heard n p)
    heard_plain = ap (λ (w : ReflectWorld). length (w.heard n p)) same

    pub est_plain : is_established world n p ≡ is_established (unsaid world done) n p
    est_plain = ap (λ b. b && nat_le 2 (length (world.heard n p))) (sym live_plain) ∙ ap (λ k. peers_live (unsaid world done).config n p && nat_le 2 k)
        (sym heard_plain)

    pub says_plain : SaysItsOffers topology reflectors (after topology reflectors world done) n p
    says_plain = stays topology reflectors world done n p there peer_there run.within within_plain (run.says n p apart there peer_there) told_plain
        (ap (words_to n p) (silent (unsaid world done))) est_plain

    pub turns_plain : IsInTurn (after topology reflectors world done) n p
    turns_plain = turns_on topology reflectors world done n p there peer_there run.within within_plain
        (run.turns n p apart there peer_there) told_plain live_plain heard_plain
        (ap (words_to n p) (silent (unsaid world done)))

  pub plain_runs : IsRun topology reflectors (after topology reflectors world done)
  plain_runs = record { within = within_plain; says = says_plain; turns = turns_plain }

-- 2. A session begins or ends

module _ (topology : Network) (reflectors : List ℕ) (world : ReflectWorld) (run : IsRun topology reflectors world) (done : Step) (a b : ℕ) (less : a < b)
    (b_there : b < length topology.loopbacks) (on : Bool) (same : counted world done ≡ restarted world a b)
    (sessions : (config_after world.config done).bgp_on ≡ put_pair world.config.bgp_on a b on) (opening : List Word)
    (silent : (new : ReflectWorld) → replies topology reflectors world new done ≡ says a b opening ++ says b a opening)
    (opens : (key : Key) → last_mention key None opening ≡ None) (begins : on ≡ true → BeginsBy 0 opening) (ends : on ≡ false → opening ≡ []) where
  abbrev pub restarted_new : ReflectWorld
  restarted_new = unsaid world done

  differ : a ≢ b
  differ e = omega (arith, less, e)

  pub heard_new : (node peer : ℕ) → restarted_new.heard node peer ≡ put_pair (put_pair world.heard a b []) b a [] node peer
  heard_new node peer = ap (λ (w : ReflectWorld). w.heard node peer) same

  pub within_restarted : IsWithin topology (unsaid world done)
  within_restarted node peer h =
      heard_new node peer
      ∙ pair_off (put_pair world.heard a b []) b a [] node peer (inr (λ e. far_a (e)))
      ∙ pair_off world.heard a b [] node peer (inr (λ e. far_b e))
      ∙ run.within node peer h
    where
      far_a : peer ≡ a → ⊥
      far_a e = omega (arith, e, h, less, b_there)

      far_b : peer ≡ b → ⊥
      far_b e = omega (arith, e, h, b_there)

  module _ (n p : ℕ) (apart : n ≢ p) (there : n < length topology.loopbacks) (peer_there : p < length topology.loopbacks) where
    -- 2.1 The session itself

    module _ (who : ((n ≡ a) × (p ≡ b)) ⊎ ((n ≡ b) × (p ≡ a))) where
      pub empty_at : (node peer : ℕ) → ((node ≡ a) × (peer ≡ b)) ⊎ ((node ≡ b) × (peer ≡ a)) → restarted_new.heard node peer ≡ []
      empty_at node peer (inl e) =
          heard_new node peer ∙ pair_off (put_pair world.heard a b []) b a [] node peer (inl (λ q. differ (sym e.0 ∙ q)))
          ∙ ap (λ x. put_pair world.heard a b [] x peer) e.0 ∙ ap (put_pair world.heard a b [] a) e.1 ∙ pair_here world.heard a b []
      empty_at node peer (inr e) =
          heard_new node peer ∙ ap (λ x. put_pair (put_pair world.heard a b []) b a [] x peer) e.0 ∙ ap (put_pair (put_pair world.heard a b []) b a [] b) e.1
          ∙ pair_here (put_pair world.heard a b []) b a []

      turned : ((p ≡ a) × (n ≡ b)) ⊎ ((p ≡ b) × (n ≡ a))
      turned = elim who [ inl e ↦ inr (e.1, e.0) | inr e ↦ inl (e.1, e.0) ]

      pub told_empty : told restarted_new n p ≡ []
      told_empty = ap (λ ws. ws ++ words_to n p restarted_new.flying) (empty_at p n turned)
          ∙ ap (λ (w : ReflectWorld). words_to n p w.flying) same ∙ between_gone a b n p who world.flying

      not_yet : is_established restarted_new n p ≡ false
      not_yet = ap (λ ws. peers_live restarted_new.config n p && nat_le 2 (length ws)) (empty_at n p who) ∙ and_false (peers_live restarted_new.config n p)

      pub answer : words_to n p (replies topology reflectors world restarted_new done) ≡ opening
      answer = ap (words_to n p) (silent restarted_new) ∙ words_append n p (says a b opening) (says b a opening) ∙ by who
        where
          by : ((n ≡ a) × (p ≡ b)) ⊎ ((n ≡ b) × (p ≡ a)) → words_to n p (says a b opening) ++ words_to n p (says b a opening) ≡ opening
          by (inl e) =
              ap (λ ws. words_to n p (says a b opening) ++ ws) (says_other n p b a opening (inl (λ q. differ (sym e.0 ∙ sym q))))
              ∙ append-nil (words_to n p (says a b opening)) ∙ ap (λ x. words_to x p (says a b opening)) e.0
              ∙ ap (λ y. words_to a y (says a b opening)) e.1 ∙ says_own a b opening
          by (inr e) =
              ap (λ ws. ws ++ words_to n p (says b a opening)) (says_other n p a b opening (inl (λ q. differ (q ∙ e.0))))
              ∙ ap (λ x. words_to x p (says b a opening)) e.0 ∙ ap (λ y. words_to b y (says b a opening)) e.1 ∙ says_own b a opening

      says_anew : SaysItsOffers topology reflectors (after topology reflectors world done) n p
      says_anew = begins_anew topology reflectors world done n p there peer_there run.within within_restarted told_empty not_yet (λ key. ap
          (last_mention key None) answer ∙ opens key)

      pub live_anew : peers_live restarted_new.config n p ≡ on
      live_anew = by who
        where
          here : (put_pair world.config.bgp_on a b on) a b ≡ on
          here = pair_here world.config.bgp_on a b on

          first : peers_live restarted_new.config a b ≡ on
          first = ap (λ (f : ℕ → ℕ → Bool). if nat_lt a b then f a b else f b a) sessions ∙ ap (λ t. if t then put_pair world.config.bgp_on a b on a b else
              put_pair world.config.bgp_on a b on b a) (less_is a b less) ∙ here

          by : ((n ≡ a) × (p ≡ b)) ⊎ ((n ≡ b) × (p ≡ a)) → peers_live restarted_new.config n p ≡ on
          by (inl e) = ap (λ x. peers_live restarted_new.config x p) e.0 ∙ ap (peers_live restarted_new.config a) e.1 ∙ first
          by (inr e) = ap (λ x. peers_live restarted_new.config x p) e.0 ∙ ap (peers_live restarted_new.config b) e.1
              ∙ live_sym restarted_new.config b a (λ q. differ (sym q)) ∙ first

      turns_anew : IsInTurn (after topology reflectors world done) n p
      turns_anew = record {
        alive = λ e. subst (λ ws. BeginsBy (length ws) (told (after topology reflectors world done) n p)) (sym (empty_at n p who))
            (subst (BeginsBy 0) (sym all_told) (begins (sym live_anew ∙ e)));
        dead = λ e. all_told ∙ ends (sym live_anew ∙ e);
      }
        where
          all_told : told (after topology reflectors world done) n p ≡ opening
          all_told = told_anew topology reflectors world done n p there peer_there run.within within_restarted told_empty not_yet ∙ answer

    -- 2.2 Another session

    module _ (other : IsOther a b n p) where
      swap_first : (p ≢ b) ⊎ (n ≢ a)
      swap_first = elim other.0 [ inl e ↦ inr e | inr e ↦ inl e ]

      swap_second : (p ≢ a) ⊎ (n ≢ b)
      swap_second = elim other.1 [ inl e ↦ inr e | inr e ↦ inl e ]

      pub heard_other : restarted_new.heard n p ≡ world.heard n p
      heard_other = heard_new n p ∙ pair_off (put_pair world.heard a b []) b a [] n p other.1 ∙ pair_off world.heard a b [] n p other.0

      heard_back : restarted_new.heard p n ≡ world.heard p n
      heard_back = heard_new p n ∙ pair_off (put_pair world.heard a b []) b a [] p n swap_first ∙ pair_off world.heard a b [] p n swap_second

      pub told_other : told restarted_new n p ≡ told world n p
      told_other = ap (λ ws. ws ++ words_to n p restarted_new.flying) heard_back
          ∙ ap (λ ws. world.heard p n ++ ws) (ap (λ (w : ReflectWorld). words_to n p w.flying) same ∙ others_between a b n p other world.flying)

      pub live_other : peers_live restarted_new.config n p ≡ peers_live world.config n p
      live_other =
          ap (λ (f : ℕ → ℕ → Bool). if nat_lt n p then f n p else f p n) sessions
          ∙ ap (λ x. if nat_lt n p then x else put_pair world.config.bgp_on a b on p n) (pair_off world.config.bgp_on a b on n p other.0)
          ∙ ap (λ x. if nat_lt n p then world.config.bgp_on n p else x) (pair_off world.config.bgp_on a b on p n swap_second)

      pub est_other : is_established world n p ≡ is_established restarted_new n p
      est_other = ap (λ c. c && nat_le 2 (length (world.heard n p))) (sym live_other) ∙ ap (λ ws. peers_live restarted_new.config n p && nat_le 2
          (length ws)) (sym heard_other)

      pub answer_other : words_to n p (replies topology reflectors world restarted_new done) ≡ []
      answer_other = ap (words_to n p) (silent restarted_new) ∙ words_append n p (says a b opening) (says b a opening)
          ∙ ap (λ ws. ws ++ words_to n p (says b a opening)) (says_other n p a b opening (elim other.0 [
            | inl e ↦ inl (λ q. e (sym q))
            | inr e ↦ inr
                (λ q. e (sym q))
          ]))
          ∙ says_other n p b a opening (elim other.1 [ inl e ↦ inl (λ q. e (sym q)) | inr e ↦ inr (λ q. e (sym q)) ])

      says_other_pair : SaysItsOffers topology reflectors (after topology reflectors world done) n p
      says_other_pair = stays topology reflectors world done n p there peer_there run.within within_restarted
          (run.says n p apart there peer_there) told_other answer_other est_other

      turns_other_pair : IsInTurn (after topology reflectors world done) n p
      turns_other_pair = turns_on topology reflectors world done n p there peer_there run.within within_restarted
          (run.turns n p apart there peer_there) told_other live_other (ap length heard_other) answer_other

    says_either : SaysItsOffers topology reflectors (after topology reflectors world done) n p
    says_either = elim (which_pair a b n p) [ inl who ↦ says_anew who | inr other ↦ says_other_pair other ]

    turns_either : IsInTurn (after topology reflectors world done) n p
    turns_either = elim (which_pair a b n p) [ inl who ↦ turns_anew who | inr other ↦ turns_other_pair other ]

  pub restarted_runs : IsRun topology reflectors (after topology reflectors world done)
  restarted_runs = record { within = within_restarted; says = says_either; turns = turns_either }

-- 3. A word is received

module _ (topology : Network) (reflectors : List ℕ) (world : ReflectWorld) (run : IsRun topology reflectors world) (done : Step) (a b : ℕ) (differ : a ≢ b)
    (a_there : a < length topology.loopbacks) (b_there : b < length topology.loopbacks) (word : Word) (first : first_word a b world.flying ≡ Some word)
    (same : counted world done ≡ heard_one world a b (Some word)) (sessions : (config_after world.config done).bgp_on ≡ world.config.bgp_on)
    (replied : (new : ReflectWorld) → replies topology reflectors world new done ≡ says b a (reply topology reflectors new b a (length (world.heard b a))
    (Some word))) where
  abbrev pub hears : ReflectWorld
  hears = unsaid world done

  pub heard_now : (node peer : ℕ) → hears.heard node peer ≡ put_pair world.heard b a (world.heard b a ++ word ∷ []) node peer
  heard_now node peer = ap (λ (w : ReflectWorld). w.heard node peer) same

  pub flies_now : hears.flying ≡ without_first a b world.flying
  flies_now = ap (λ (w : ReflectWorld). w.flying) same

  pub longer : hears.heard b a ≡ world.heard b a ++ word ∷ []
  longer = heard_now b a ∙ pair_here world.heard b a (world.heard b a ++ word ∷ [])

  pub heard_else : (node peer : ℕ) → (node ≢ b) ⊎ (peer ≢ a) → hears.heard node peer ≡ world.heard node peer
  heard_else node peer d = heard_now node peer ∙ pair_off world.heard b a (world.heard b a ++ word ∷ []) node peer d

  pub within_heard : IsWithin topology (unsaid world done)
  within_heard node peer h = heard_else node peer (inr (λ e. far e)) ∙ run.within node peer h
    where
      far : peer ≡ a → ⊥
      far e = omega (arith, e, h, a_there)

  -- what was sent stays told
  told_itself : told hears a b ≡ told world a b
  told_itself =
      ap (λ ws. ws ++ words_to a b hears.flying) longer ∙ ap (λ fs. (world.heard b a ++ word ∷ []) ++ words_to a b fs) flies_now
      ∙ append_assoc (world.heard b a) (word ∷ []) (words_to a b (without_first a b world.flying))
      ∙ ap (λ ws. world.heard b a ++ ws) (sym (first_said a b world.flying word first))

  told_else : (n p : ℕ) → (n ≢ a) ⊎ (p ≢ b) → told hears n p ≡ told world n p
  told_else n p d =
      ap (λ ws. ws ++ words_to n p hears.flying) (heard_else p n (elim d [ inl e ↦ inr e | inr e ↦ inl e ]))
      ∙ ap (λ fs. world.heard p n ++ words_to n p fs) flies_now ∙ ap (λ ws. world.heard p n ++ ws) (others_stay a b n p d world.flying)

  pub told_same : (n p : ℕ) → told hears n p ≡ told world n p
  told_same n p = elim (eqb_tells n a) [
    | inl e ↦ elim (eqb_tells p b) [
      | inl f ↦ subst (λ x. told hears x p ≡ told world x p) (sym e.1) (subst (λ y. told hears a y ≡ told world a y) (sym f.1) told_itself)
      | inr f ↦ told_else n p (inr f.1)
    ]
    | inr e ↦ told_else n p (inl e.1)
  ]

  pub live_same : (n p : ℕ) → peers_live hears.config n p ≡ peers_live world.config n p
  live_same n p = live_by (config_after world.config done) world.config n p sessions

  -- 3.1 The end that receives

  -- its peer has sent the word, so the session lives
  peer_said : told world a b ≡ world.heard b a ++ (word ∷ words_to a b (without_first a b world.flying))
  peer_said = ap (λ ws. world.heard b a ++ ws) (first_said a b world.flying word first)

  not_empty : (front rest : List Word) → front ++ (word ∷ rest) ≡ [] → ⊥
  not_empty [] rest e = no (ap (λ ws. elim ws [ [] ↦ true | w ∷ more ↦ false ]) e)
  not_empty (w ∷ front) rest e = no (ap (λ ws. elim ws [ [] ↦ true | v ∷ more ↦ false ]) e)

  pub lives_ab : peers_live world.config a b ≡ true
  lives_ab = elim (two_ways (peers_live world.config a b)) [
    | inl e ↦ e
    | inr e ↦ absurd (not_empty (world.heard b a) (words_to a b (without_first a b world.flying)) (sym peer_said
        ∙ (run.turns a b differ a_there b_there).dead e))
  ]

  pub lives_ba : peers_live world.config b a ≡ true
  lives_ba = live_sym world.config b a (λ e. differ (sym e)) ∙ lives_ab

  peer_begins : BeginsBy (length (world.heard a b)) (world.heard b a ++ (word ∷ words_to a b (without_first a b world.flying)))
  peer_begins = subst (BeginsBy (length (world.heard a b))) peer_said ((run.turns a b differ a_there b_there).alive lives_ab)

  abbrev pub reply_words : List Word
  reply_words = words_to b a (replies topology reflectors world hears done)

  pub replies_are : reply_words ≡ reply topology reflectors hears b a (length (world.heard b a)) (Some word)
  replies_are = ap (words_to b a) (replied hears) ∙ says_own b a (reply topology reflectors hears b a (length (world.heard b a)) (Some word))

  pub count_now : length (hears.heard b a) ≡ length (world.heard b a) + 1
  count_now = ap length longer ∙ length-append (world.heard b a) (word ∷ [])

  est_was : (c : ℕ) → length (world.heard b a) ≡ c → is_established world b a ≡ nat_le 2 c
  est_was c e = ap (λ b2. b2 && nat_le 2 (length (world.heard b a))) lives_ba ∙ ap (nat_le 2) e

  est_now : (c : ℕ) → length (world.heard b a) ≡ c → is_established hears b a ≡ nat_le 2 (c + 1)
  est_now c e = ap (λ b2. b2 && nat_le 2 (length (hears.heard b a))) (live_same b a ∙ lives_ba) ∙ ap (nat_le 2) (count_now ∙ ap (λ k. k + 1) e)

  empty_list : (words : List Word) → length words ≡ 0 → words ≡ []
  empty_list [] e = refl
  empty_list (w ∷ words) e = absurd (none e)
    where
      none : suc (length words) ≡ 0 → ⊥
      none e = omega (arith, e)

  one_word : (words : List Word) → length words ≡ 1 → (w : Word) × (words ≡ w ∷ [])
  one_word [] e = absurd (none 0 refl e)
    where
      none : (n : ℕ) → n ≡ 0 → n ≡ 1 → ⊥
      none n z e = omega (arith, z, e)
  one_word (w ∷ words) e = (w, ap (λ ws. w ∷ ws) (empty_list words (omega (arith, e))))

  pub word_is_open : length (world.heard b a) ≡ 0 → word ≡ Open
  word_is_open e = first_is_open (length (world.heard a b)) word (words_to a b (without_first a b world.flying))
      (subst (λ ws. BeginsBy (length (world.heard a b)) (ws ++ (word ∷ words_to a b (without_first a b world.flying)))) (empty_list
      (world.heard b a) e) peer_begins)

  pub word_is_keep : length (world.heard b a) ≡ 1 → word ≡ KeepAlive
  word_is_keep e = let w = one_word (world.heard b a) e in second_is_keep (length (world.heard a b)) w.0 word (words_to a b (without_first a b world.flying))
      (subst (λ ws. BeginsBy (length (world.heard a b)) (ws ++ (word ∷ words_to a b (without_first a b world.flying)))) w.1 peer_begins)

  pub reply_open : length (world.heard b a) ≡ 0 → reply_words ≡ KeepAlive ∷ []
  reply_open e = replies_are ∙ ap (λ c. reply topology reflectors hears b a c (Some word)) e ∙ ap (λ w. reply topology reflectors hears b a 0 (Some w))
      (word_is_open e)

  pub reply_keep : length (world.heard b a) ≡ 1 → reply_words ≡ all_offers topology reflectors hears b a
  reply_keep e = replies_are ∙ ap (λ c. reply topology reflectors hears b a c (Some word)) e ∙ ap (λ w. reply topology reflectors hears b a 1 (Some w))
      (word_is_keep e)

  pub reply_later : (c : ℕ) → length (world.heard b a) ≡ suc (suc c) → reply_words ≡ []
  reply_later c e = replies_are ∙ ap (λ k. reply topology reflectors hears b a k (Some word)) e

  says_hearer : (c : ℕ) → length (world.heard b a) ≡ c → SaysItsOffers topology reflectors (after topology reflectors world done) b a
  says_hearer zero e = begins_to topology reflectors world done b a b_there a_there run.within within_heard (run.says b a (λ q. differ
      (sym q)) b_there a_there) (told_same b a) (est_was 0 e)
      (λ q. absurd (no (sym (est_now 0 e) ∙ q))) (λ q key. ap (last_mention key None) (reply_open e))
  says_hearer (suc zero) e = begins_to topology reflectors world done b a b_there a_there run.within within_heard (run.says b a (λ q. differ
      (sym q)) b_there a_there) (told_same b a) (est_was 1 e)
      (λ q. reply_keep e) (λ q key. absurd (no (sym q ∙ est_now 1 e)))
  says_hearer (suc (suc c)) e = stays topology reflectors world done b a b_there a_there run.within within_heard (run.says b a (λ q. differ
      (sym q)) b_there a_there) (told_same b a) (reply_later c e)
      (est_was (suc (suc c)) e ∙ at_most_is 2 (suc (suc c)) (omega arith) ∙ sym (at_most_is 2 (suc (suc c) + 1) (omega arith)) ∙ sym (est_now (suc (suc c)) e))

  told_hearer : told (after topology reflectors world done) b a
      ≡ told world b a ++ (reply_words ++ cond (is_steady world hears b a) (to_peer topology reflectors world hears b a b_there a_there) [])
  told_hearer = told_then topology reflectors world done b a b_there a_there run.within within_heard
      ∙ ap (λ ws. ws ++ (reply_words ++ cond (is_steady world hears b a) (to_peer topology reflectors world hears b a b_there a_there) [])) (told_same b a)

  turns_hearer : (c : ℕ) → length (world.heard b a) ≡ c → IsInTurn (after topology reflectors world done) b a
  turns_hearer c e = record { alive = λ q. by c e; dead = λ q. absurd (no (sym q ∙ live_same b a ∙ lives_ba)) }
    where
      was : BeginsBy (length (world.heard b a)) (told world b a)
      was = (run.turns b a (λ q. differ (sym q)) b_there a_there).alive lives_ba

      by : (c : ℕ) → length (world.heard b a) ≡ c → BeginsBy (length (hears.heard b a)) (told (after topology reflectors world done) b a)
      by zero e = subst (BeginsBy (length (hears.heard b a))) (sym (told_hearer
          ∙ ap (λ b2. told world b a ++ (reply_words ++ cond (b2 && is_established hears b a) (to_peer topology reflectors world hears b a b_there a_there)
          [])) (est_was 0 e)
          ∙ ap (λ ws. told world b a ++ ws) (append-nil reply_words) ∙ ap (λ ws. told world b a ++ ws) (reply_open e)))
          (subst (λ k. BeginsBy k (told world b a ++ KeepAlive ∷ [])) (sym (count_now ∙ ap (λ k. k + 1) e)) (begins_answer (length (world.heard b a))
          (told world b a) was e))
      by (suc c) e = subst (BeginsBy (length (hears.heard b a))) (sym told_hearer)
          (begins_more (length (world.heard b a)) (length (hears.heard b a)) (told world b a)
          (reply_words ++ cond (is_steady world hears b a) (to_peer topology reflectors world hears b a b_there a_there) []) was (omega
          (arith, count_now)) (omega (arith, e)))

  -- 3.2 Another end

  module _ (n p : ℕ) (apart : n ≢ p) (there : n < length topology.loopbacks) (peer_there : p < length topology.loopbacks) (other : (n ≢ b) ⊎ (p ≢ a)) where
    no_reply : words_to n p (replies topology reflectors world hears done) ≡ []
    no_reply = ap (words_to n p) (replied hears) ∙ says_other n p b a (reply topology reflectors hears b a (length (world.heard b a)) (Some word))
        (elim other [ inl e ↦ inl (λ q. e (sym q)) | inr e ↦ inr (λ q. e (sym q)) ])

    est_else : is_established world n p ≡ is_established hears n p
    est_else = ap (λ c. c && nat_le 2 (length (world.heard n p))) (sym (live_same n p)) ∙ ap (λ ws. peers_live hears.config n p && nat_le 2 (length ws))
        (sym (heard_else n p other))

    says_else : SaysItsOffers topology reflectors (after topology reflectors world done) n p
    says_else = stays topology reflectors world done n p there peer_there run.within within_heard (run.says n p apart there peer_there)
        (told_same n p) no_reply est_else

    turns_else : IsInTurn (after topology reflectors world done) n p
    turns_else = turns_on topology reflectors world done n p there peer_there run.within within_heard (run.turns n p apart there peer_there)
        (told_same n p) (live_same n p)
        (ap length (heard_else n p other)) no_reply

  is_hearer : (n p : ℕ) → ((n ≡ b) × (p ≡ a)) ⊎ ((n ≢ b) ⊎ (p ≢ a))
  is_hearer n p = elim (eqb_tells n b) [
    | inl e ↦ elim (eqb_tells p a) [ inl f ↦ inl (e.1, f.1) | inr f ↦ inr (inr f.1) ]
    | inr e ↦ inr (inl e.1)
  ]

  pub hearing_runs : IsRun topology reflectors (after topology reflectors world done)
  hearing_runs = record {
    within = within_heard;
    says = λ n p apart there peer_there. elim (is_hearer n p) [
      | inl e ↦ subst (λ x. SaysItsOffers topology reflectors (after topology reflectors world done) x p) (sym e.0)
          (subst (SaysItsOffers topology reflectors (after topology reflectors world done) b) (sym e.1) (says_hearer (length (world.heard b a)) refl))
      | inr other ↦ says_else n p apart there peer_there other
    ];
    turns = λ n p apart there peer_there. elim (is_hearer n p) [
      | inl e ↦ subst (λ x. IsInTurn (after topology reflectors world done) x p) (sym e.0)
          (subst (IsInTurn (after topology reflectors world done) b) (sym e.1) (turns_hearer (length (world.heard b a)) refl))
      | inr other ↦ turns_else n p apart there peer_there other
    ];
  }

-- 4. Every step, and every run

module _ (topology : Network) (reflectors : List ℕ) where
  reply_none : (new : ReflectWorld) (n p c : ℕ) → reply topology reflectors new n p c None ≡ []
  reply_none new n p zero = refl
  reply_none new n p (suc zero) = refl
  reply_none new n p (suc (suc c)) = refl

  pub step_runs : (world : ReflectWorld) → IsRun topology reflectors world → (done : Step) → NamesNodes topology done →
      IsRun topology reflectors (after topology reflectors world done)
  step_runs world run (step.LinkUp l) h = plain_runs topology reflectors world run (step.LinkUp l) refl refl (λ new. refl)
  step_runs world run (step.LinkDown l) h = plain_runs topology reflectors world run (step.LinkDown l) refl refl (λ new. refl)
  step_runs world run (step.Learn node l) h = plain_runs topology reflectors world run (step.Learn node l) refl refl (λ new. refl)
  step_runs world run (step.LdpAdmin l on) h = plain_runs topology reflectors world run (step.LdpAdmin l on) refl refl (λ new. refl)
  step_runs world run (step.HearLdp l dir) h = plain_runs topology reflectors world run (step.HearLdp l dir) refl refl (λ new. refl)
  step_runs world run (step.BgpUp a b) h = restarted_runs topology reflectors world run (step.BgpUp a b) a.0 b.0 h.0 h.1 true refl refl (Open ∷ [])
      (λ new. refl) (λ key. refl)
      (λ e. refl) (λ e. absurd (no (sym e)))
  step_runs world run (step.BgpDown a b) h = restarted_runs topology reflectors world run (step.BgpDown a b) a.0 b.0 h.0 h.1 false refl refl []
      (λ new. refl) (λ key. refl)
      (λ e. absurd (no e)) (λ e. refl)
  step_runs world run (step.HearBgp a b) h = by (first_word a.0 b.0 world.flying) refl
    where
      by : (o : Option Word) → first_word a.0 b.0 world.flying ≡ o → IsRun topology reflectors (after topology reflectors world (step.HearBgp a b))
      by None e = plain_runs topology reflectors world run (step.HearBgp a b) (ap (heard_one world a.0 b.0) e) refl
          (λ new. ap (λ o. says b.0 a.0 (reply topology reflectors new b.0 a.0 (length (world.heard b.0 a.0)) o)) e
          ∙ ap (says b.0 a.0) (reply_none new b.0 a.0 (length (world.heard b.0 a.0))))
      by (Some word) e = hearing_runs topology reflectors world run (step.HearBgp a b) a.0 b.0 h.0 h.1 h.2 word e (ap (heard_one world a.0 b.0) e) refl
          (λ new. ap (λ o. says b.0 a.0 (reply topology reflectors new b.0 a.0 (length (world.heard b.0 a.0)) o)) e)
  step_runs world run (step.AddRoute s prefix) h = plain_runs topology reflectors world run (step.AddRoute s prefix) refl refl (λ new. refl)
  step_runs world run (step.DelRoute s prefix) h = plain_runs topology reflectors world run (step.DelRoute s prefix) refl refl (λ new. refl)
  step_runs world run (step.Import v on target) h = plain_runs topology reflectors world run (step.Import v on target) refl refl (λ new. refl)
  step_runs world run (step.Export v on target) h = plain_runs topology reflectors world run (step.Export v on target) refl refl (λ new. refl)
  step_runs world run (step.Attach s) h = plain_runs topology reflectors world run (step.Attach s) refl refl (λ new. refl)
  step_runs world run (step.Detach s) h = plain_runs topology reflectors world run (step.Detach s) refl refl (λ new. refl)
  step_runs world run (step.Inject s number) h = plain_runs topology reflectors world run (step.Inject s number) refl refl (λ new. refl)
  step_runs world run (step.Carry l dir place) h = plain_runs topology reflectors world run (step.Carry l dir place) refl refl (λ new. refl)
  step_runs world run (step.Lose l dir place) h = plain_runs topology reflectors world run (step.Lose l dir place) refl refl (λ new. refl)
  step_runs world run (step.Tick ticks) h = plain_runs topology reflectors world run (step.Tick ticks) refl refl (λ new. refl)

  pub from_any : (world : ReflectWorld) → IsRun topology reflectors world → (steps : List Step) → AreReflected topology steps →
      IsRun topology reflectors (world_from topology reflectors world steps)
  from_any world run [] h = run
  from_any world run (done ∷ steps) h = from_any (after topology reflectors world done) (step_runs world run done h.0) steps h.1

  pub start_runs : IsRun topology reflectors (start topology)
  start_runs = record {
    within = λ node peer h. refl;
    says = λ n p apart there peer_there. record {
      all = λ e key. absurd (no (sym (and_false (peers_live (start topology).config n p))
          ∙ e));
      nothing = λ e key. refl;
    };
    turns = λ n p apart there peer_there. record { alive = λ e. absurd (no (sym (never n p) ∙ e)); dead = λ e. refl };
  }
    where
      never : (n p : ℕ) → peers_live (start topology).config n p ≡ false
      never n p = by (nat_lt n p)
        where
          by : (b : Bool) → (if b then false else false) ≡ false
          by true = refl
          by false = refl

  pub every_run : (steps : List Step) → AreReflected topology steps → IsRun topology reflectors (world_of topology reflectors steps)
  every_run steps h = from_any (start topology) start_runs steps h

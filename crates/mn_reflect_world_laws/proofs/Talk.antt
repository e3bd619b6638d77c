-- A node sends OPEN, then KEEPALIVE, and then of routes alone.
use Rattle.std.proofs.Common.{ℕ, zero, suc, ◌≡◌, ◌≢◌, ◌<◌, ◌≤◌, ◌⊎◌, inl, inr, Bool, true, false, cond, List, [], ◌∷◌, ◌++◌, length, Some, None, Option}
use Rattle.std.proofs.Common.{refl, arith, sym, ◌∙◌, ap, subst, append-nil}
use Rattle.std.specs.Prelude.{◌&&◌, nat_le, if◌then◌else◌}
use Rattle.std.proofs.lemmas.Bool.Decides.{eqb_tells}
use Rattle.mn_base.proofs.Bools.{no, and_left, and_right, and_false, at_most_tells}
use Rattle.mn_base.proofs.Members.{In, in_append, in_flat_map}
use Rattle.mn_topo.specs.Network.{Network}
use Rattle.mn_topo.specs.declared.steps.Step.{Step}
use Rattle.mn_topo.specs.declared.steps.Step.TheVariants as step
use Rattle.mn_ledger.specs.Bgp.{peers_live}
use Rattle.mn_ledger.specs.Tables.{put_pair}
use Rattle.mn_ledger.specs.Ledger.{config_after}
use Rattle.mn_reflect_ledger_laws.specs.Words.{Key, Offer, Word, Open, KeepAlive, Announce, Withdraw, same_offer, in_order, change, last_mention}
use Rattle.mn_reflect_ledger_laws.specs.Picks.{ReflectWorld, is_established, offered, known_keys}
use Rattle.mn_reflect_ledger_laws.specs.World.{first_word, words_to, says, restarted, heard_one, counted, unsaid, all_offers, reply, replies, is_steady}
use Rattle.mn_reflect_ledger_laws.specs.World.{after, start}
use Rattle.mn_reflect_ledger_laws.specs.Quiet.{told, BeginsBy, IsInTurn, NamesNodes}
use Rattle.mn_reflect_ledger_laws.proofs.Offering.{IsWithin}
use Rattle.mn_reflect_ledger_laws.proofs.Saying.{says_other, to_peer}
use Rattle.mn_reflect_ledger_laws.proofs.Steps.{told_then, told_anew, which_pair, IsOther}
use Rattle.mn_reflect_ledger_laws.proofs.Runs.{IsRun, within_plain, told_plain, within_restarted, told_empty, empty_at, answer, told_other, answer_other}
use Rattle.mn_reflect_ledger_laws.proofs.Runs.{within_heard, told_same, reply_open, reply_keep, reply_later, lives_ba}

-- 1. The words of a session

abbrev pub IsMention : Word → Type 0
IsMention (Announce x) = Unit {0}
IsMention (Withdraw key) = Unit {0}
IsMention _ = ⊥

abbrev pub AreMentions : List Word → Type 0
AreMentions words = (word : Word) → In words word → IsMention word

abbrev pub AreTalk : List Word → Type 0
AreTalk [] = Unit {0}
AreTalk (Open ∷ []) = Unit {0}
AreTalk (Open ∷ (KeepAlive ∷ more)) = AreMentions more
AreTalk _ = ⊥

both_mention : (xs ys : List Word) → AreMentions xs → AreMentions ys → AreMentions (xs ++ ys)
both_mention xs ys h g word i = elim (in_append xs ys word i) [ inl j ↦ h word j | inr j ↦ g word j ]

-- once KEEPALIVE was sent
talk_more : (count : ℕ) (words tail : List Word) → AreTalk words → BeginsBy count words → 0 < count → AreMentions tail → AreTalk (words ++ tail)
talk_more count [] tail h b p g = absurd b
talk_more count (Open ∷ []) tail h b p g = absurd (none b p)
  where
    none : count ≡ 0 → 0 < count → ⊥
    none e q = omega (arith, e, q)
talk_more count (Open ∷ (KeepAlive ∷ more)) tail h b p g = both_mention more tail h g
talk_more count (Open ∷ (Open ∷ more)) tail h b p g = absurd b
talk_more count (Open ∷ (Announce x ∷ more)) tail h b p g = absurd b
talk_more count (Open ∷ (Withdraw k ∷ more)) tail h b p g = absurd b
talk_more count (KeepAlive ∷ words) tail h b p g = absurd b
talk_more count (Announce x ∷ words) tail h b p g = absurd b
talk_more count (Withdraw k ∷ words) tail h b p g = absurd b

-- and as it is said
talk_answer : (words : List Word) → BeginsBy 0 words → AreTalk (words ++ KeepAlive ∷ [])
talk_answer [] b = absurd b
talk_answer (Open ∷ []) b = λ word i. absurd i
talk_answer (Open ∷ (KeepAlive ∷ more)) b = absurd (none b)
  where
    none : 0 < 0 → ⊥
    none q = omega (arith, q)
talk_answer (Open ∷ (Open ∷ more)) b = absurd b
talk_answer (Open ∷ (Announce x ∷ more)) b = absurd b
talk_answer (Open ∷ (Withdraw k ∷ more)) b = absurd b
talk_answer (KeepAlive ∷ words) b = absurd b
talk_answer (Announce x ∷ words) b = absurd b
talk_answer (Withdraw k ∷ words) b = absurd b

-- 2. What is said of routes

change_mentions : (key : Key) (old new : Option Offer) → AreMentions (change key old new)
change_mentions key None None word i = absurd i
change_mentions key (Some old) None word i = elim i [ inl e ↦ subst IsMention e tt | inr j ↦ absurd j ]
change_mentions key None (Some new) word i = elim i [ inl e ↦ subst IsMention e tt | inr j ↦ absurd j ]
change_mentions key (Some old) (Some new) word i = by (same_offer old new) i
  where
    by : (b : Bool) → In (if b then [] else Announce new ∷ []) word → IsMention word
    by true j = absurd j
    by false j = elim j [ inl e ↦ subst IsMention e tt | inr k ↦ absurd k ]

module _ (topology : Network) (reflectors : List ℕ) (world new : ReflectWorld) (n p : ℕ) where
  offers_mention : AreMentions (all_offers topology reflectors new n p)
  offers_mention word i =
      let f = in_flat_map (λ key. change key None (offered topology reflectors new n p key)) (in_order (known_keys topology reflectors new n)) word i in
      change_mentions f.0 None (offered topology reflectors new n p f.0) word f.2

  news_mention : (there : n < length topology.loopbacks) (peer_there : p < length topology.loopbacks) →
      AreMentions (to_peer topology reflectors world new n p there peer_there)
  news_mention there peer_there word i =
      let f = in_flat_map (λ key. change key (offered topology reflectors world n p key) (offered topology reflectors new n p key))
      (in_order (known_keys topology reflectors world n ++ known_keys topology reflectors new n)) word i in
      change_mentions f.0 (offered topology reflectors world n p f.0) (offered topology reflectors new n p f.0) word f.2

-- 3. A step

module _ (topology : Network) (reflectors : List ℕ) (world : ReflectWorld) (done : Step) (n p : ℕ) (there : n < length topology.loopbacks)
    (peer_there : p < length topology.loopbacks) (before : IsWithin topology world) (later : IsWithin topology (unsaid world done)) where
  abbrev reply_here : List Word
  reply_here = words_to n p (replies topology reflectors (world) (unsaid world done) done)

  abbrev tail : List Word
  tail = reply_here ++ cond (is_steady world (unsaid world done) n p) (to_peer topology reflectors world (unsaid world done) n p there peer_there) []

  steady_count : is_steady world (unsaid world done) n p ≡ true → (peers_live world.config n p ≡ true) × (0 < length (world.heard n p))
  steady_count e =
      let was = and_left (is_established world n p) (is_established (unsaid world done) n p) e in (
        and_left (peers_live world.config n p) (nat_le 2 (length (world.heard n p))) was,
        enough (length (world.heard n p)) (at_most_tells 2 (length (world.heard n p))
            (and_right (peers_live world.config n p) (nat_le 2 (length (world.heard n p))) was)),
      )
    where
      enough : (k : ℕ) → 2 ≤ k → 0 < k
      enough k h = omega (arith, h)

  -- nothing is answered
  pub talk_on : AreTalk (told world n p) → IsInTurn world n p → told (unsaid world done) n p ≡ told world n p → reply_here ≡ [] →
      AreTalk (told (after topology reflectors world done) n p)
  talk_on old turn same none = by (is_steady world (unsaid world done) n p) refl
    where
      shape : told (after topology reflectors world done) n p ≡ told world n p ++ cond (is_steady world (unsaid world done) n p)
          (to_peer topology reflectors world (unsaid world done) n p there peer_there) []
      shape = told_then topology reflectors world done n p there peer_there before later
          ∙ ap (λ ws. told (unsaid world done) n p ++ (ws ++ cond (is_steady world (unsaid world done) n p)
          (to_peer topology reflectors world (unsaid world done) n p there peer_there) [])) none
          ∙ ap (λ ws. ws ++ cond (is_steady world (unsaid world done) n p)
          (to_peer topology reflectors world (unsaid world done) n p there peer_there) []) same

      by : (b : Bool) → is_steady world (unsaid world done) n p ≡ b → AreTalk (told (after topology reflectors world done) n p)
      by true e =
          let s = steady_count e in
          subst AreTalk (sym (shape ∙ ap (λ c. told world n p ++ cond c (to_peer topology reflectors world (unsaid world done) n p there peer_there) []) e))
          (talk_more (length (world.heard n p)) (told world n p) (to_peer topology reflectors world (unsaid world done) n p there peer_there) old
          (turn.alive s.0) s.1 (news_mention topology reflectors world (unsaid world done) n p there peer_there))
      by false e =
          subst AreTalk (sym (shape ∙ ap (λ c. told world n p ++ cond c (to_peer topology reflectors world (unsaid world done) n p there peer_there) []) e
          ∙ append-nil (told world n p))) old

  -- it answers, and isn't Established yet
  pub talk_answered : told (unsaid world done) n p ≡ told world n p → (words : List Word) → reply_here ≡ words → is_established world n p ≡ false →
      AreTalk (told world n p ++ words) → AreTalk (told (after topology reflectors world done) n p)
  talk_answered same words says off h =
      subst AreTalk (sym (told_then topology reflectors world done n p there peer_there before later
      ∙ ap (λ b. told (unsaid world done) n p ++ (reply_here ++ cond (b && is_established (unsaid world done) n p)
      (to_peer topology reflectors world (unsaid world done) n p there peer_there) [])) off
      ∙ ap (λ ws. told (unsaid world done) n p ++ ws) (append-nil reply_here ∙ says)
      ∙ ap (λ ws. ws ++ words) same)) h

pub record IsTalk (topology : Network) (world : ReflectWorld) : Type 0 where
  pub talk : (n p : ℕ) → n ≢ p → n < length topology.loopbacks → p < length topology.loopbacks → AreTalk (told world n p)

module _ (topology : Network) (reflectors : List ℕ) (world : ReflectWorld) (run : IsRun topology reflectors world) (old : IsTalk topology world) where
  -- a step of no session
  pub plain_talk : (done : Step) (same : counted world done ≡ world) (sessions : (config_after world.config done).bgp_on ≡ world.config.bgp_on)
      (silent : (new : ReflectWorld) → replies topology reflectors world new done ≡ []) → IsTalk topology (after topology reflectors world done)
  plain_talk done same sessions silent = record {
    talk = λ n p apart there peer_there.
        talk_on topology reflectors world done n p there peer_there run.within (within_plain topology reflectors world run done same sessions silent)
        (old.talk n p apart there peer_there) (run.turns n p apart there peer_there)
        (told_plain topology reflectors world run done same sessions silent n p apart there peer_there)
        (ap (words_to n p) (silent (unsaid world done)));
  }

  -- a session begins or ends
  module _ (done : Step) (a b : ℕ) (less : a < b) (b_there : b < length topology.loopbacks) (on : Bool) (same : counted world done ≡ restarted world a b)
      (sessions : (config_after world.config done).bgp_on ≡ put_pair world.config.bgp_on a b on) (opening : List Word)
      (silent : (new : ReflectWorld) → replies topology reflectors world new done ≡ says a b opening ++ says b a opening)
      (opens : (key : Key) → last_mention key None opening ≡ None) (begins : on ≡ true → BeginsBy 0 opening)
      (ends : on ≡ false → opening ≡ []) (talks : AreTalk opening) where
    pub restarted_talk : IsTalk topology (after topology reflectors world done)
    restarted_talk = record { talk = λ n p apart there peer_there. by n p apart there peer_there (which_pair a b n p) }
      where
        by : (n p : ℕ) → n ≢ p → n < length topology.loopbacks → p < length topology.loopbacks →
            (((n ≡ a) × (p ≡ b)) ⊎ ((n ≡ b) × (p ≡ a))) ⊎ IsOther a b n p → AreTalk (told (after topology reflectors world done) n p)
        by n p apart there peer_there (inl who) =
            let within = within_restarted topology reflectors world run done a b less b_there on same sessions opening silent opens begins ends in
            subst AreTalk (sym (told_anew topology reflectors world done n p there peer_there run.within within
            (told_empty topology reflectors world run done a b less b_there on same sessions opening silent opens begins ends n p apart there peer_there who)
            (ap (λ ws. peers_live (unsaid world done).config n p && nat_le 2 (length ws))
            (empty_at topology reflectors world run done a b less b_there on same sessions opening silent opens begins ends n p apart there peer_there who n p
            who)
            ∙ and_false (peers_live (unsaid world done).config n p))
            ∙ answer topology reflectors world run done a b less b_there on same sessions opening silent opens begins ends n p apart there peer_there who))
            talks
        by n p apart there peer_there (inr other) =
            talk_on topology reflectors world done n p there peer_there run.within
            (within_restarted topology reflectors world run done a b less b_there on same sessions opening silent opens begins ends)
            (old.talk n p apart there peer_there) (run.turns n p apart there peer_there)
            (told_other topology reflectors world run done a b less b_there on same sessions opening silent opens begins ends n p apart there peer_there other)
            (answer_other topology reflectors world run done a b less b_there on same sessions opening silent opens begins ends n p apart there peer_there
            other)

  -- a word is received
  module _ (done : Step) (a b : ℕ) (differ : a ≢ b) (a_there : a < length topology.loopbacks) (b_there : b < length topology.loopbacks) (word : Word)
      (first : first_word a b world.flying ≡ Some word) (same : counted world done ≡ heard_one world a b (Some word))
      (sessions : (config_after world.config done).bgp_on ≡ world.config.bgp_on)
      (replied : (new : ReflectWorld) → replies topology reflectors world new done ≡ says b a (reply topology reflectors new b a (length (world.heard b a))
      (Some word))) where
    hearer : (c : ℕ) → length (world.heard b a) ≡ c → AreTalk (told (after topology reflectors world done) b a)
    hearer zero e =
        talk_answered topology reflectors world done b a b_there a_there run.within
        (within_heard topology reflectors world run done a b differ a_there b_there word first same sessions replied)
        (told_same topology reflectors world run done a b differ a_there b_there word first same sessions replied b a) (KeepAlive ∷ [])
        (reply_open topology reflectors world run done a b differ a_there b_there word first same sessions replied e)
        (ap (λ k. peers_live world.config b a && nat_le 2 k) e ∙ and_false (peers_live world.config b a))
        (talk_answer (told world b a) (subst (λ k. BeginsBy k (told world b a)) e
        ((run.turns b a (λ q. differ (sym q)) b_there a_there).alive
        (lives_ba topology reflectors world run done a b differ a_there b_there word first same sessions replied))))
    hearer (suc zero) e =
        talk_answered topology reflectors world done b a b_there a_there run.within
        (within_heard topology reflectors world run done a b differ a_there b_there word first same sessions replied)
        (told_same topology reflectors world run done a b differ a_there b_there word first same sessions replied b a)
        (all_offers topology reflectors (unsaid world done) b a)
        (reply_keep topology reflectors world run done a b differ a_there b_there word first same sessions replied e)
        (ap (λ k. peers_live world.config b a && nat_le 2 k) e ∙ and_false (peers_live world.config b a))
        (talk_more (length (world.heard b a)) (told world b a) (all_offers topology reflectors (unsaid world done) b a)
        (old.talk b a (λ q. differ (sym q)) b_there a_there)
        ((run.turns b a (λ q. differ (sym q)) b_there a_there).alive
        (lives_ba topology reflectors world run done a b differ a_there b_there word first same sessions replied)) (omega (arith, e))
        (offers_mention topology reflectors world (unsaid world done) b a))
    hearer (suc (suc c)) e =
        talk_on topology reflectors world done b a b_there a_there run.within
        (within_heard topology reflectors world run done a b differ a_there b_there word first same sessions replied)
        (old.talk b a (λ q. differ (sym q)) b_there a_there) (run.turns b a (λ q. differ (sym q)) b_there a_there)
        (told_same topology reflectors world run done a b differ a_there b_there word first same sessions replied b a)
        (reply_later topology reflectors world run done a b differ a_there b_there word first same sessions replied c e)

    another : (n p : ℕ) → n ≢ p → n < length topology.loopbacks → p < length topology.loopbacks → (n ≢ b) ⊎ (p ≢ a) →
        AreTalk (told (after topology reflectors world done) n p)
    another n p apart there peer_there other =
        talk_on topology reflectors world done n p there peer_there run.within
        (within_heard topology reflectors world run done a b differ a_there b_there word first same sessions replied)
        (old.talk n p apart there peer_there) (run.turns n p apart there peer_there)
        (told_same topology reflectors world run done a b differ a_there b_there word first same sessions replied n p)
        (ap (words_to n p) (replied (unsaid world done))
        ∙ says_other n p b a (reply topology reflectors (unsaid world done) b a (length (world.heard b a)) (Some word))
        (elim other [ inl e ↦ inl (λ q. e (sym q)) | inr e ↦ inr (λ q. e (sym q)) ]))

    pub hearing_talk : IsTalk topology (after topology reflectors world done)
    hearing_talk = record {
      talk = λ n p apart there peer_there. elim (eqb_tells n b) [
        | inl e ↦ elim (eqb_tells p a) [
          | inl f ↦ subst (λ x. AreTalk (told (after topology reflectors world done) x p)) (sym e.1)
              (subst (λ y. AreTalk (told (after topology reflectors world done) b y)) (sym f.1) (hearer (length (world.heard b a)) refl))
          | inr f ↦ another n p apart there peer_there (inr f.1)
        ]
        | inr e ↦ another n p apart there peer_there (inl e.1)
      ];
    }

  -- 4. Every step

  reply_none : (new : ReflectWorld) (n p c : ℕ) → reply topology reflectors new n p c None ≡ []
  reply_none new n p zero = refl
  reply_none new n p (suc zero) = refl
  reply_none new n p (suc (suc c)) = refl

  pub talk_goes : (done : Step) → NamesNodes topology done → IsTalk topology (after topology reflectors world done)
  talk_goes (step.BgpUp a b) h = restarted_talk (step.BgpUp a b) a.0 b.0 h.0 h.1 true refl refl (Open ∷ []) (λ new. refl) (λ key. refl) (λ e. refl)
      (λ e. absurd (no (sym e))) tt
  talk_goes (step.BgpDown a b) h = restarted_talk (step.BgpDown a b) a.0 b.0 h.0 h.1 false refl refl [] (λ new. refl) (λ key. refl) (λ e. absurd (no e))
      (λ e. refl) tt
  talk_goes (step.HearBgp a b) h = by (first_word a.0 b.0 world.flying) refl
    where
      by : (o : Option Word) → first_word a.0 b.0 world.flying ≡ o → IsTalk topology (after topology reflectors world (step.HearBgp a b))
      by None e = plain_talk (step.HearBgp a b) (ap (heard_one world a.0 b.0) e) refl
          (λ new. ap (λ o. says b.0 a.0 (reply topology reflectors new b.0 a.0 (length (world.heard b.0 a.0)) o)) e
          ∙ ap (says b.0 a.0) (reply_none new b.0 a.0 (length (world.heard b.0 a.0))))
      by (Some word) e = hearing_talk (step.HearBgp a b) a.0 b.0 h.0 h.1 h.2 word e (ap (heard_one world a.0 b.0) e) refl
          (λ new. ap (λ o. says b.0 a.0 (reply topology reflectors new b.0 a.0 (length (world.heard b.0 a.0)) o)) e)
  talk_goes (step.LinkUp l) h = plain_talk (step.LinkUp l) refl refl (λ new. refl)
  talk_goes (step.LinkDown l) h = plain_talk (step.LinkDown l) refl refl (λ new. refl)
  talk_goes (step.Learn node l) h = plain_talk (step.Learn node l) refl refl (λ new. refl)
  talk_goes (step.LdpAdmin l on) h = plain_talk (step.LdpAdmin l on) refl refl (λ new. refl)
  talk_goes (step.HearLdp l dir) h = plain_talk (step.HearLdp l dir) refl refl (λ new. refl)
  talk_goes (step.AddRoute s prefix) h = plain_talk (step.AddRoute s prefix) refl refl (λ new. refl)
  talk_goes (step.DelRoute s prefix) h = plain_talk (step.DelRoute s prefix) refl refl (λ new. refl)
  talk_goes (step.Import v on target) h = plain_talk (step.Import v on target) refl refl (λ new. refl)
  talk_goes (step.Export v on target) h = plain_talk (step.Export v on target) refl refl (λ new. refl)
  talk_goes (step.Attach s) h = plain_talk (step.Attach s) refl refl (λ new. refl)
  talk_goes (step.Detach s) h = plain_talk (step.Detach s) refl refl (λ new. refl)
  talk_goes (step.Inject s number) h = plain_talk (step.Inject s number) refl refl (λ new. refl)
  talk_goes (step.Carry l dir place) h = plain_talk (step.Carry l dir place) refl refl (λ new. refl)
  talk_goes (step.Lose l dir place) h = plain_talk (step.Lose l dir place) refl refl (λ new. refl)
  talk_goes (step.Tick ticks) h = plain_talk (step.Tick ticks) refl refl (λ new. refl)

pub starts_talk : (topology : Network) → IsTalk topology (start topology)
starts_talk topology = record { talk = λ n p apart there peer_there. tt }

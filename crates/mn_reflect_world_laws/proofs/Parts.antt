-- What a step makes of sessions, of what was received, and of how many attachments there are.
use Rattle.std.proofs.Common.{ℕ, zero, suc, ◌≡◌, ◌≢◌, ◌+◌, ◌<◌, ◌≤◌, ◌⊎◌, inl, inr, Bool, true, false, List, [], ◌∷◌, ◌++◌, map, length, Some, None, Option}
use Rattle.std.proofs.Common.{refl, arith, sym, ◌∙◌, ap, subst}
use Rattle.std.specs.Prelude.{nat_lt, if◌then◌else◌, slice_index_or}
use Rattle.std.proofs.lemmas.Bool.Decides.{eqb_tells}
use Rattle.std.proofs.lemmas.List.{length-append}
use Rattle.mn_base.specs.declared.numbers.NodeNo.{NodeNo}
use Rattle.mn_base.specs.declared.numbers.SiteNo.{SiteNo}
use Rattle.mn_base.proofs.Bools.{less_is, not_less}
use Rattle.mn_base.proofs.Members.{In}
use Rattle.mn_states.specs.declared.states.BgpState.TheVariants.{Established}
use Rattle.mn_wiring.specs.Wiring.{nodes_of}
use Rattle.mn_topo.specs.Network.{Network, wiring_of}
use Rattle.mn_topo.specs.Steps.{fits}
use Rattle.mn_topo.specs.declared.steps.Step.{Step}
use Rattle.mn_topo.specs.declared.steps.Step.TheVariants as step
use Rattle.mn_ledger.specs.Tables.{put_pair}
use Rattle.mn_ledger.specs.Places.{home_of}
use Rattle.mn_ledger.specs.World.{Config}
use Rattle.mn_ledger.specs.Bgp.{peers_live, state_heard}
use Rattle.mn_ledger.specs.Ledger.{config_after}
use Rattle.mn_ledger.proofs.GoingBy.{pair_here, pair_off}
use Rattle.mn_bgp_session.specs.declared.session.BgpSession.{BgpSession}
use Rattle.mn_bgp_spelling_laws.specs.Spelling.{Labels}
use Rattle.mn_routing_laws.proofs.Tables.{map_numbers_set, map_numbers_at}
use Rattle.mn_offers.specs.Heard.{Heard, with_heard}
use Rattle.mn_reflect_ledger_laws.specs.Words.{Offer, Word, Open, KeepAlive, Announce, Withdraw}
use Rattle.mn_reflect_ledger_laws.specs.Picks.{ReflectWorld}
use Rattle.mn_reflect_ledger_laws.specs.World.{first_word, heard_one, unsaid, after}
use Rattle.mn_reflect_ledger_laws.proofs.Steps.{which_pair, IsOther}
use Rattle.mn_reflect_world_laws.specs.Labels.{labels_after, attachments_at}
use Rattle.mn_reflect_world_laws.specs.Kept.{route_in, after_word, after_words, kept_in, all_kept}
use Rattle.mn_reflect_world_laws.specs.Now.{session_in, sessions_in}
use Rattle.mn_reflect_world_laws.specs.Choice.{row_at}
use Rattle.mn_reflect_world_laws.specs.Goes.{set_at, end_in, sessions_hear, sessions_after, heard_hear, attachments_after}
use Rattle.mn_reflect_world_laws.proofs.Given.{label_stays, one_attachment_more, no_attachment_more}
use Rattle.mn_reflect_world_laws.proofs.Said.{IsGood}
use Rattle.mn_reflect_world_laws.proofs.Config.{IsMade}
use Rattle.mn_reflect_world_laws.proofs.Talk.{IsMention}
use Rattle.mn_reflect_world_laws.proofs.Turn.{InTurn, Opens, Keeps, Tells}
use Rattle.mn_reflect_world_laws.proofs.Hearing.{takes_in}
use Rattle.mn_reflect_world_laws.proofs.Forgetting.{forgets}
use Rattle.mn_reflect_world_laws.proofs.Rows.{table, table_same, table_set, table_put, table_at}

-- a value that stands there already
put_same : {A : Type 0} (f : ℕ → ℕ → A) (a b : ℕ) (v : A) → f a b ≡ v → (n p : ℕ) → put_pair f a b v n p ≡ f n p
put_same f a b v h n p = elim (eqb_tells n a) [
  | inr d ↦ pair_off f a b v n p (inl d.1)
  | inl e ↦ elim (eqb_tells p b) [
    | inr d ↦ pair_off f a b v n p (inr d.1)
    | inl q ↦ ap (λ x. put_pair f a b v x p) e.1 ∙ ap (put_pair f a b v a) q.1 ∙ pair_here f a b v ∙ sym h
        ∙ sym (ap (f a) q.1) ∙ sym (ap (λ x. f x p) e.1)
  ]
]

-- 1. Labels that were given stay

pub same_route : (t : Network) (c : Config) (l : Labels) (s : Step) (x : Offer) → IsMade t c x.export → route_in (labels_after t c l s) x ≡ route_in l x
same_route t c l (step.Attach s) x h =
    ap (λ k. let r : Heard = record (route_in l x) { label = k } in r) (label_stays t c l s x.export.site x.export.attachment h.attachment.given)
same_route t c l _ x h = refl

same_after : (t : Network) (c : Config) (l : Labels) (s : Step) (kept : List Heard) (word : Word) → IsGood t c word →
    after_word (labels_after t c l s) kept word ≡ after_word l kept word
same_after t c l s kept (Announce x) h = ap (λ r. with_heard r kept) (same_route t c l s x h)
same_after t c l s kept (Withdraw k) h = refl
same_after t c l s kept Open h = refl
same_after t c l s kept KeepAlive h = refl

same_words : (t : Network) (c : Config) (l : Labels) (s : Step) (kept : List Heard) (words : List Word) → ((word : Word) → In words word → IsGood t c word) →
    after_words (labels_after t c l s) kept words ≡ after_words l kept words
same_words t c l s kept [] h = refl
same_words t c l s kept (word ∷ words) h =
    ap (λ k. after_words (labels_after t c l s) k words) (same_after t c l s kept word (h word (inl refl)))
    ∙ same_words t c l s (after_word l kept word) words (λ v i. h v (inr i))

pub same_kept : (t : Network) (c : Config) (l : Labels) (s : Step) (w : ReflectWorld) (n p : ℕ) → ((word : Word) → In (w.heard n p) word → IsGood t c word) →
    kept_in (labels_after t c l s) w n p ≡ kept_in l w n p
same_kept t c l s w n p h = ap (λ ks. if peers_live w.config n p then ks else []) (same_words t c l s [] (w.heard n p) h)

-- 2. What was received

either_nothing : (t : Bool) → (let ks : List Heard = if t then [] else [] in ks) ≡ []
either_nothing true = refl
either_nothing false = refl

-- of a dead session nothing is kept
pub dead_kept : (l : Labels) (w : ReflectWorld) (n p : ℕ) → peers_live w.config n p ≡ false → kept_in l w n p ≡ []
dead_kept l w n p h = ap (λ b. if b then after_words l [] (w.heard n p) else []) h

pub live_up : (c : Config) (a b : ℕ) → a < b → peers_live c a b ≡ c.bgp_on a b
live_up c a b h = ap (λ t. if t then c.bgp_on a b else c.bgp_on b a) (less_is a b h)

pub live_back : (c : Config) (a b : ℕ) → a < b → peers_live c b a ≡ c.bgp_on a b
live_back c a b h = ap (λ t. if t then c.bgp_on b a else c.bgp_on a b) (not_less b a (omega (arith, h)))

module _ (t : Network) (reflectors : List ℕ) (l : Labels) (w : ReflectWorld) where
  abbrev size : ℕ
  size = length t.loopbacks

  differ : (a b : ℕ) → a < b → a ≢ b
  differ a b h e = omega (arith, h, e)

  pub heard_up : (a b : NodeNo) → a.0 < b.0 → w.config.bgp_on a.0 b.0 ≡ false →
      all_kept t l (after t reflectors w (step.BgpUp a b)) ≡ all_kept t l w
  heard_up a b less off =
      table_same size (kept_in l (unsaid w (step.BgpUp a b))) (kept_in l w) (λ n p.
      (forgets l w a b n p (differ a.0 b.0 less)).begins
      ∙ put_same (put_pair (kept_in l w) a.0 b.0 []) b.0 a.0 []
      (pair_off (kept_in l w) a.0 b.0 [] b.0 a.0 (inl (λ e. differ a.0 b.0 less (sym e)))
      ∙ dead_kept l w b.0 a.0 (live_back w.config a.0 b.0 less ∙ off)) n p
      ∙ put_same (kept_in l w) a.0 b.0 [] (dead_kept l w a.0 b.0 (live_up w.config a.0 b.0 less ∙ off)) n p)

  pub heard_down : (a b : NodeNo) → a.0 < b.0 → b.0 < size →
      all_kept t l (after t reflectors w (step.BgpDown a b)) ≡ set_at b.0 a.0 [] (set_at a.0 b.0 [] (all_kept t l w))
  heard_down a b less below =
      table_same size (kept_in l (unsaid w (step.BgpDown a b))) (put_pair (put_pair (kept_in l w) a.0 b.0 []) b.0 a.0 [])
      (λ n p. (forgets l w a b n p (differ a.0 b.0 less)).ends)
      ∙ table_put size (put_pair (kept_in l w) a.0 b.0 []) b.0 a.0 [] below (omega (arith, less, below))
      ∙ ap (set_at b.0 a.0 []) (table_put size (kept_in l w) a.0 b.0 [] (omega (arith, less, below)) below)

  heard_word : (a b : ℕ) (word : Word) → a < size → b < size → peers_live w.config b a ≡ true →
      table size (kept_in l (heard_one w a b (Some word))) ≡ heard_hear l b a word (all_kept t l w)
  heard_word a b word a_below b_below live = by word refl
    where
      all_same : (word : Word) → table size (kept_in l (heard_one w a b (Some word))) ≡ table size
          (put_pair (kept_in l w) b a (after_word l (kept_in l w b a) word))
      all_same word =
          table_same size (kept_in l (heard_one w a b (Some word))) (put_pair (kept_in l w) b a (after_word l (kept_in l w b a) word))
          (λ n p. takes_in l w a b word n p live)

      row : row_at (all_kept t l w) b a ≡ kept_in l w b a
      row = table_at size (kept_in l w) b a [] b_below a_below

      set : (word : Word) → table size (put_pair (kept_in l w) b a (after_word l (kept_in l w b a) word))
          ≡ set_at b a (after_word l (row_at (all_kept t l w) b a) word) (all_kept t l w)
      set word = table_put size (kept_in l w) b a (after_word l (kept_in l w b a) word) b_below a_below
          ∙ ap (λ ks. set_at b a (after_word l ks word) (all_kept t l w)) (sym row)

      by : (v : Word) → v ≡ word → table size (kept_in l (heard_one w a b (Some v))) ≡ heard_hear l b a v (all_kept t l w)
      by Open e = all_same Open ∙ table_same size (put_pair (kept_in l w) b a (kept_in l w b a)) (kept_in l w)
          (λ n p. put_same (kept_in l w) b a (kept_in l w b a) refl n p)
      by KeepAlive e = all_same KeepAlive
          ∙ table_same size (put_pair (kept_in l w) b a (kept_in l w b a)) (kept_in l w) (λ n p. put_same (kept_in l w) b a (kept_in l w b a) refl n p)
      by (Announce x) e = all_same (Announce x) ∙ set (Announce x)
      by (Withdraw k) e = all_same (Withdraw k) ∙ set (Withdraw k)

  pub heard_hears : (a b : NodeNo) (word : Word) → a.0 < size → b.0 < size → peers_live w.config b.0 a.0 ≡ true → first_word a.0 b.0 w.flying ≡ Some word →
      all_kept t l (after t reflectors w (step.HearBgp a b)) ≡ heard_hear l b.0 a.0 word (all_kept t l w)
  heard_hears a b word a_below b_below live first =
      ap (λ o. table size (kept_in l (let v : ReflectWorld = record (heard_one w a.0 b.0 o) { config = w.config } in v))) first
      ∙ heard_word a.0 b.0 word a_below b_below live

-- 3. Sessions

module _ (t : Network) (reflectors : List ℕ) (w : ReflectWorld) where
  in_state : ℕ → ℕ → Bool → ℕ → Option BgpSession
  in_state n p live count = if live then Some (end_in t n p (state_heard count)) else None

  -- two ends begin or end, and no other
  two_ends : (u : ReflectWorld) (a b : ℕ) (on : Bool) → a < b → b < length t.loopbacks → u.config.bgp_on ≡ put_pair w.config.bgp_on a b on →
      ((n p : ℕ) → u.heard n p ≡ put_pair (put_pair w.heard a b []) b a [] n p) →
      sessions_in t u ≡ set_at b a (in_state b a on 0) (set_at a b (in_state a b on 0) (sessions_in t w))
  unfolding in_state
  two_ends u a b on less below sessions heard =
      table_same (length t.loopbacks) (session_in t u) (put_pair (put_pair (session_in t w) a b (in_state a b on 0)) b a (in_state b a on 0)) each
      ∙ table_put (length t.loopbacks) (put_pair (session_in t w) a b (in_state a b on 0)) b a (in_state b a on 0) below (omega (arith, less, below))
      ∙ ap (set_at b a (in_state b a on 0)) (table_put (length t.loopbacks) (session_in t w) a b (in_state a b on 0) (omega (arith, less, below)) below)
    where
      apart : a ≢ b
      apart e = omega (arith, less, e)

      on_now : u.config.bgp_on a b ≡ on
      on_now = ap (λ (f : ℕ → ℕ → Bool). f a b) sessions ∙ pair_here w.config.bgp_on a b on

      forth : session_in t u a b ≡ put_pair (put_pair (session_in t w) a b (in_state a b on 0)) b a (in_state b a on 0) a b
      forth =
          ap (λ live. in_state a b live (length (u.heard a b))) (live_up u.config a b less ∙ on_now)
          ∙ ap (λ ws. in_state a b on (length ws)) (heard a b ∙ pair_off (put_pair w.heard a b []) b a [] a b (inl apart) ∙ pair_here w.heard a b [])
          ∙ sym (pair_off (put_pair (session_in t w) a b (in_state a b on 0)) b a (in_state b a on 0) a b (inl apart)
          ∙ pair_here (session_in t w) a b (in_state a b on 0))

      back : session_in t u b a ≡ put_pair (put_pair (session_in t w) a b (in_state a b on 0)) b a (in_state b a on 0) b a
      back =
          ap (λ live. in_state b a live (length (u.heard b a))) (live_back u.config a b less ∙ on_now)
          ∙ ap (λ ws. in_state b a on (length ws)) (heard b a ∙ pair_here (put_pair w.heard a b []) b a [])
          ∙ sym (pair_here (put_pair (session_in t w) a b (in_state a b on 0)) b a (in_state b a on 0))

      swapped : (n p : ℕ) → IsOther a b n p → (p ≢ a) ⊎ (n ≢ b)
      swapped n p other = elim other.1 [ inl e ↦ inr e | inr e ↦ inl e ]

      elsewhere : (n p : ℕ) → IsOther a b n p → session_in t u n p ≡ put_pair (put_pair (session_in t w) a b (in_state a b on 0)) b a (in_state b a on 0) n p
      elsewhere n p other =
          ap (λ (f : ℕ → ℕ → Bool). in_state n p (if nat_lt n p then f n p else f p n) (length (u.heard n p))) sessions
          ∙ ap (λ x. in_state n p (if nat_lt n p then x else put_pair w.config.bgp_on a b on p n) (length (u.heard n p)))
          (pair_off w.config.bgp_on a b on n p other.0)
          ∙ ap (λ x. in_state n p (if nat_lt n p then w.config.bgp_on n p else x) (length (u.heard n p)))
          (pair_off w.config.bgp_on a b on p n (swapped n p other))
          ∙ ap (λ ws. in_state n p (peers_live w.config n p) (length ws))
          (heard n p ∙ pair_off (put_pair w.heard a b []) b a [] n p other.1 ∙ pair_off w.heard a b [] n p other.0)
          ∙ sym (pair_off (put_pair (session_in t w) a b (in_state a b on 0)) b a (in_state b a on 0) n p other.1
          ∙ pair_off (session_in t w) a b (in_state a b on 0) n p other.0)

      each : (n p : ℕ) → session_in t u n p ≡ put_pair (put_pair (session_in t w) a b (in_state a b on 0)) b a (in_state b a on 0) n p
      each n p = elim (which_pair a b n p) [
        | inl who ↦ elim who [
          | inl e ↦ subst (λ x. session_in t u x p ≡ put_pair (put_pair (session_in t w) a b (in_state a b on 0)) b a (in_state b a on 0) x p) (sym e.0)
              (subst (λ y. session_in t u a y ≡ put_pair (put_pair (session_in t w) a b (in_state a b on 0)) b a (in_state b a on 0) a y) (sym e.1) forth)
          | inr e ↦ subst (λ x. session_in t u x p ≡ put_pair (put_pair (session_in t w) a b (in_state a b on 0)) b a (in_state b a on 0) x p) (sym e.0)
              (subst (λ y. session_in t u b y ≡ put_pair (put_pair (session_in t w) a b (in_state a b on 0)) b a (in_state b a on 0) b y) (sym e.1) back)
        ]
        | inr other ↦ elsewhere n p other
      ]

  pub sessions_up : (a b : NodeNo) → a.0 < b.0 → b.0 < length t.loopbacks →
      sessions_in t (after t reflectors w (step.BgpUp a b)) ≡ sessions_after t None (sessions_in t w) (step.BgpUp a b)
  unfolding in_state
  sessions_up a b less below = two_ends (unsaid w (step.BgpUp a b)) a.0 b.0 true less below refl (λ n p. refl)

  pub sessions_down : (a b : NodeNo) → a.0 < b.0 → b.0 < length t.loopbacks →
      sessions_in t (after t reflectors w (step.BgpDown a b)) ≡ sessions_after t None (sessions_in t w) (step.BgpDown a b)
  unfolding in_state
  sessions_down a b less below = two_ends (unsaid w (step.BgpDown a b)) a.0 b.0 false less below refl (λ n p. refl)

  -- a word is received
  module _ (a b : ℕ) (word : Word) (a_below : a < length t.loopbacks) (b_below : b < length t.loopbacks) (live : peers_live w.config b a ≡ true) where
    abbrev then_world : ReflectWorld
    then_world = heard_one w a b (Some word)

    longer : length (then_world.heard b a) ≡ length (w.heard b a) + 1
    longer = ap length (pair_here w.heard b a (w.heard b a ++ word ∷ [])) ∙ length-append (w.heard b a) (word ∷ [])

    end_now : session_in t then_world b a ≡ Some (end_in t b a (state_heard (length (w.heard b a) + 1)))
    unfolding in_state
    end_now = ap (λ x. in_state b a x (length (then_world.heard b a))) live ∙ ap (in_state b a true) longer

    off : (n p : ℕ) → (n ≢ b) ⊎ (p ≢ a) → session_in t then_world n p ≡ session_in t w n p
    unfolding in_state
    off n p d = ap (λ ws. in_state n p (peers_live w.config n p) (length ws)) (pair_off w.heard b a (w.heard b a ++ word ∷ []) n p d)

    all_put : table (length t.loopbacks) (session_in t then_world) ≡ set_at b a (Some (end_in t b a (state_heard (length (w.heard b a) + 1)))) (sessions_in t w)
    all_put = table_set (length t.loopbacks) (session_in t w) (session_in t then_world) b a
        (Some (end_in t b a (state_heard (length (w.heard b a) + 1)))) b_below a_below end_now off

    still : 2 ≤ length (w.heard b a) → table (length t.loopbacks) (session_in t then_world) ≡ sessions_in t w
    unfolding in_state
    still h = table_same (length t.loopbacks) (session_in t then_world) (session_in t w) (λ n p. elim (eqb_tells n b) [
      | inr d ↦ off n p (inl d.1)
      | inl e ↦ elim (eqb_tells p a) [
        | inr d ↦ off n p (inr d.1)
        | inl q ↦ subst (λ x. session_in t then_world x p ≡ session_in t w x p) (sym e.1)
            (subst (λ y. session_in t then_world b y ≡ session_in t w b y) (sym q.1)
            (end_now ∙ ap (λ s. Some (end_in t b a s)) (as_before (length (w.heard b a)) h)
            ∙ sym (ap (λ x. in_state b a x (length (w.heard b a))) live)))
      ]
    ])
      where
        as_before : (k : ℕ) → 2 ≤ k → state_heard (k + 1) ≡ state_heard k
        as_before zero g = absurd (omega (arith, g))
        as_before (suc zero) g = absurd (omega (arith, g))
        as_before (suc (suc k)) g = established (suc (suc k) + 1) (omega arith)
          where
            established : (m : ℕ) → 2 ≤ m → state_heard m ≡ Established
            established zero f = absurd (omega (arith, f))
            established (suc zero) f = absurd (omega (arith, f))
            established (suc (suc m)) f = refl

    by_turn : InTurn word (length (w.heard b a)) → table (length t.loopbacks) (session_in t then_world) ≡ sessions_hear t b a word (sessions_in t w)
    by_turn (Opens e q) = all_put ∙ ap (λ k. set_at b a (Some (end_in t b a (state_heard (k + 1)))) (sessions_in t w)) q
        ∙ sym (ap (λ v. sessions_hear t b a v (sessions_in t w)) e)
    by_turn (Keeps e q) = all_put ∙ ap (λ k. set_at b a (Some (end_in t b a (state_heard (k + 1)))) (sessions_in t w)) q
        ∙ sym (ap (λ v. sessions_hear t b a v (sessions_in t w)) e)
    by_turn (Tells m h) = still h ∙ sym (unchanged word m)
      where
        unchanged : (v : Word) → IsMention v → sessions_hear t b a v (sessions_in t w) ≡ sessions_in t w
        unchanged (Announce x) m = refl
        unchanged (Withdraw k) m = refl
        unchanged Open m = absurd m
        unchanged KeepAlive m = absurd m

  pub sessions_hears : (a b : NodeNo) (word : Word) → a.0 < length t.loopbacks → b.0 < length t.loopbacks → peers_live w.config b.0 a.0 ≡ true →
      InTurn word (length (w.heard b.0 a.0)) → first_word a.0 b.0 w.flying ≡ Some word →
      sessions_in t (after t reflectors w (step.HearBgp a b)) ≡ sessions_hear t b.0 a.0 word (sessions_in t w)
  sessions_hears a b word a_below b_below live turn first =
      ap (λ o. table (length t.loopbacks) (session_in t (let v : ReflectWorld = record (heard_one w a.0 b.0 o) { config = w.config } in v))) first
      ∙ by_turn a.0 b.0 word a_below b_below live turn

-- 4. Attachments

pub attachments_go : (t : Network) (c : Config) (s : SiteNo) → fits t (step.Attach s) ≡ true → home_of t s.0 < length t.loopbacks →
    map (attachments_at t (config_after c (step.Attach s))) (nodes_of (wiring_of t))
    ≡ attachments_after t (map (attachments_at t c) (nodes_of (wiring_of t))) (step.Attach s)
attachments_go t c s fit below =
    map_numbers_set (attachments_at t c) (attachments_at t (config_after c (step.Attach s))) (length t.loopbacks) (home_of t s.0)
    (slice_index_or (map (attachments_at t c) (nodes_of (wiring_of t))) (home_of t s.0) 0 + 1) below
    (one_attachment_more t c s fit ∙ ap (λ n. n + 1) (sym (map_numbers_at (attachments_at t c) (length t.loopbacks) (home_of t s.0) 0 below)))
    (λ x d. no_attachment_more t c s x fit d)

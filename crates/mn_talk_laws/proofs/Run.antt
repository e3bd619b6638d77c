-- What is told and how much of it is received goes with what is received and what flies, step by step.
use Rattle.std.proofs.Common.{ℕ, zero, suc, ◌≡◌, ◌≢◌, ◌+◌, ◌<◌, ◌≤◌, ◌⊎◌, inl, inr, Bool, true, false, cond, List, [], ◌∷◌, ◌++◌, filter, length, take}
use Rattle.std.proofs.Common.{Option, Some, None, refl, arith, sym, ◌∙◌, ap, subst, append_assoc, append-nil, length-append}
use Rattle.std.proofs.Math.Path.{fun_ext}
use Rattle.std.specs.Prelude.{not, slice_get}
use Rattle.std.specs.List.{flat_map}
use Rattle.std.proofs.lemmas.Bool.Decides.{eqb_tells}
use Rattle.mn_base.proofs.Bools.{no}
use Rattle.mn_wiring.specs.Wiring.{nodes_of}
use Rattle.mn_topo.specs.Network.{Network, wiring_of}
use Rattle.mn_topo.specs.declared.steps.Step.{Step}
use Rattle.mn_topo.specs.declared.steps.Step.TheVariants as step
use Rattle.mn_ledger.specs.World.{Config}
use Rattle.mn_ledger.specs.Tables.{put_pair}
use Rattle.mn_ledger.specs.Ledger.{config_after, first_config}
use Rattle.mn_ledger.proofs.GoingBy.{pair_here, pair_off}
use Rattle.mn_reflect_ledger_laws.specs.Words.{Key, Word, last_mention}
use Rattle.mn_reflect_ledger_laws.specs.Picks.{Spoken, ReflectWorld, is_established, offered}
use Rattle.mn_reflect_ledger_laws.specs.World.{is_from_to, is_between, first_word, without_first, words_to, says, unsaid, reply, replies, news, said_in, after}
use Rattle.mn_reflect_ledger_laws.specs.World as landed
use Rattle.mn_reflect_ledger_laws.specs.Quiet as quiet
use Rattle.mn_reflect_ledger_laws.specs.Quiet.{BeginsBy, NamesNodes, AreReflected}
use Rattle.mn_reflect_ledger_laws.proofs.Saying.{words_append, pick_word}
use Rattle.mn_reflect_ledger_laws.proofs.Steps.{first_said, others_stay, between_gone, others_between, IsOther, which_pair}
use Rattle.mn_reflect_ledger_laws.proofs.Runs.{IsRun, every_run}
use Rattle.mn_talk_laws.specs.Talk.{Talks, heard_words, seen, restarted, counted, with_spoken, no_talks, config_from}
use Rattle.mn_talk_laws.specs.Laws.{IsTalk, IsHeard}
use Rattle.mn_talk_laws.specs.Keys.{answers_by_keys, after_by_keys, from_by_keys, IsThere, AreThere}

-- 1. Lists

take_front : (k : ℕ) (xs ys : List Word) → k ≤ length xs → take k (xs ++ ys) ≡ take k xs
take_front zero xs ys h = refl
take_front (suc k) [] ys h = absurd (none h)
  where
    none : suc k ≤ 0 → ⊥
    none h = omega (arith, h)
take_front (suc k) (x ∷ xs) ys h = ap (λ zs. x ∷ zs) (take_front k xs ys (omega (arith, h)))

pub taken : (k : ℕ) (xs : List Word) → k ≤ length xs → length (take k xs) ≡ k
taken zero xs h = refl
taken (suc k) [] h = absurd (none h)
  where
    none : suc k ≤ 0 → ⊥
    none h = omega (arith, h)
taken (suc k) (x ∷ xs) h = ap (λ n. suc n) (taken k xs (omega (arith, h)))

take_next : (k : ℕ) (xs : List Word) (w : Word) (rest : List Word) → k ≡ length xs → take (suc k) (xs ++ w ∷ rest) ≡ xs ++ w ∷ []
take_next zero [] w rest h = refl
take_next (suc k) [] w rest h = absurd (none h)
  where
    none : suc k ≡ 0 → ⊥
    none h = omega (arith, h)
take_next zero (x ∷ xs) w rest h = absurd (none h)
  where
    none : 0 ≡ suc (length xs) → ⊥
    none h = omega (arith, h)
take_next (suc k) (x ∷ xs) w rest h = ap (λ zs. x ∷ zs) (take_next k xs w rest (omega (arith, h)))

abbrev head : List Word → Option Word
head [] = None
head (w ∷ ws) = Some w

first_head : (a b : ℕ) (flying : List Spoken) → first_word a b flying ≡ head (words_to a b flying)
first_head a b [] = refl
first_head a b (s ∷ more) = by (is_from_to a b s) refl (first_head a b more)
  where
    by : (c : Bool) → is_from_to a b s ≡ c → first_word a b more ≡ head (words_to a b more) →
        cond c (Some s.word) (first_word a b more) ≡ head (words_to a b (s ∷ more))
    by true e f = sym (ap head (pick_word a b s more true e))
    by false e f = f ∙ sym (ap head (pick_word a b s more false e))

at_head : (k : ℕ) (xs ys : List Word) → k ≡ length xs → slice_get (xs ++ ys) k ≡ head ys
at_head zero [] [] h = refl
at_head zero [] (y ∷ ys) h = refl
at_head (suc k) [] ys h = absurd (none h)
  where
    none : suc k ≡ 0 → ⊥
    none h = omega (arith, h)
at_head zero (x ∷ xs) ys h = absurd (none h)
  where
    none : 0 ≡ suc (length xs) → ⊥
    none h = omega (arith, h)
at_head (suc k) (x ∷ xs) ys h = at_head k xs ys (omega (arith, h))

-- 2. Pairs

abbrev IsPair : ℕ → ℕ → ℕ → ℕ → Type 0
IsPair a b n p = ((n ≡ a) × (p ≡ b)) ⊎ ((n ≡ b) × (p ≡ a))

both : {A : Type 0} (f : ℕ → ℕ → A) (a b : ℕ) (x : A) (n p : ℕ) → a ≢ b → IsPair a b n p → put_pair (put_pair f a b x) b a x n p ≡ x
both f a b x n p d (inl e) =
    pair_off (put_pair f a b x) b a x n p (inl (λ q. d (sym e.0 ∙ q))) ∙ ap (λ y. put_pair f a b x y p) e.0 ∙ ap (put_pair f a b x a) e.1 ∙ pair_here f a b x
both f a b x n p d (inr e) =
    ap (λ y. put_pair (put_pair f a b x) b a x y p) e.0 ∙ ap (put_pair (put_pair f a b x) b a x b) e.1 ∙ pair_here (put_pair f a b x) b a x

others : {A : Type 0} (f : ℕ → ℕ → A) (a b : ℕ) (x : A) (n p : ℕ) → IsOther a b n p → put_pair (put_pair f a b x) b a x n p ≡ f n p
others f a b x n p o = pair_off (put_pair f a b x) b a x n p o.1 ∙ pair_off f a b x n p o.0

turned : (a b n p : ℕ) → IsPair a b n p → IsPair a b p n
turned a b n p (inl e) = inr (e.1, e.0)
turned a b n p (inr e) = inl (e.1, e.0)

flipped : (A B : Type 0) → A ⊎ B → B ⊎ A
flipped A B (inl x) = inr x
flipped A B (inr x) = inl x

turned_other : (a b n p : ℕ) → IsOther a b n p → IsOther a b p n
turned_other a b n p o = (flipped _ _ o.1, flipped _ _ o.0)

-- 3. A world beside talks

pub record Matches (world : ReflectWorld) (c : Config) (talks : Talks) : Type 0 where
  pub configured : world.config ≡ c
  pub heard : (n p : ℕ) → world.heard n p ≡ heard_words talks n p
  pub told : (n p : ℕ) → quiet.told world n p ≡ talks.told n p
  pub most : (n p : ℕ) → talks.heard n p ≤ length (talks.told p n)

abbrev bare : ReflectWorld → ReflectWorld
bare world = record { config = world.config; heard = world.heard; flying = [] }

bare_same : (world : ReflectWorld) (c : Config) (talks : Talks) → Matches world c talks → bare world ≡ seen c talks
bare_same world c talks m =
    ap (λ (d : Config). record { config = d; heard = world.heard; flying = [] }) m.configured
    ∙ ap (λ (h : ℕ → ℕ → List Word). record { config = c; heard = h; flying = [] }) (fun_ext (λ n. fun_ext (λ p. m.heard n p)))

count_is : (world : ReflectWorld) (c : Config) (talks : Talks) → Matches world c talks → (n p : ℕ) → length (world.heard n p) ≡ talks.heard n p
count_is world c talks m n p = ap length (m.heard n p) ∙ taken (talks.heard n p) (talks.told p n) (m.most n p)

-- what is told is added to both
tells : (world : ReflectWorld) (c : Config) (talks : Talks) (spokens : List Spoken) → Matches world c talks →
    Matches (record { config = world.config; heard = world.heard; flying = world.flying ++ spokens }) c (with_spoken talks spokens)
tells world c talks spokens m = record {
  configured = m.configured;
  heard = λ n p. m.heard n p ∙ sym (take_front (talks.heard n p) (talks.told p n) (words_to p n spokens) (m.most n p));
  told = λ n p.
      ap (λ ws. world.heard p n ++ ws) (words_append n p world.flying spokens)
      ∙ sym (append_assoc (world.heard p n) (words_to n p world.flying) (words_to n p spokens))
      ∙ ap (λ ws. ws ++ words_to n p spokens) (m.told n p);
  most = λ n p. more (talks.heard n p) (length (talks.told p n)) (length (words_to p n spokens)) (length (talks.told p n ++ words_to p n spokens))
      (length-append (talks.told p n) (words_to p n spokens)) (m.most n p);
}
  where
    more : (k l j all : ℕ) → all ≡ l + j → k ≤ l → k ≤ all
    more k l j all e h = omega (arith, e, h)

-- 3.1 A session begins or ends

restarts : (world : ReflectWorld) (c d : Config) (talks : Talks) (a b : ℕ) → a ≢ b → Matches world c talks →
    Matches (record (landed.restarted world a b) { config = d }) d (restarted talks a b)
restarts world c d talks a b apart m = record { configured = refl; heard = heard; told = told; most = most }
  where
    heard : (n p : ℕ) → put_pair (put_pair world.heard a b []) b a [] n p ≡ heard_words (restarted talks a b) n p
    heard n p = elim (which_pair a b n p) [
      | inl who ↦ both world.heard a b [] n p apart who ∙ sym (ap (λ k. take k ((restarted talks a b).told p n)) (both talks.heard a b 0 n p apart who))
      | inr o ↦ others world.heard a b [] n p o ∙ m.heard n p
          ∙ sym (ap (λ k. take k ((restarted talks a b).told p n)) (others talks.heard a b 0 n p o)
          ∙ ap (take (talks.heard n p)) (others talks.told a b [] p n (turned_other a b n p o)))
    ]

    told : (n p : ℕ) → put_pair (put_pair world.heard a b []) b a [] p n ++ words_to n p (filter (λ s. not (is_between a b s)) world.flying)
        ≡ (restarted talks a b).told n p
    told n p = elim (which_pair a b n p) [
      | inl who ↦
          ap (λ ws. ws ++ words_to n p (filter (λ s. not (is_between a b s)) world.flying)) (both world.heard a b [] p n apart (turned a b n p who))
          ∙ between_gone a b n p who world.flying ∙ sym (both talks.told a b [] n p apart who)
      | inr o ↦
          ap (λ ws. ws ++ words_to n p (filter (λ s. not (is_between a b s)) world.flying)) (others world.heard a b [] p n (turned_other a b n p o))
          ∙ ap (λ ws. world.heard p n ++ ws) (others_between a b n p o world.flying) ∙ m.told n p ∙ sym (others talks.told a b [] n p o)
    ]

    most : (n p : ℕ) → (restarted talks a b).heard n p ≤ length ((restarted talks a b).told p n)
    most n p = elim (which_pair a b n p) [
      | inl who ↦ subst (λ k. k ≤ length ((restarted talks a b).told p n)) (sym (both talks.heard a b 0 n p apart who)) (omega arith)
      | inr o ↦ subst (λ k. k ≤ length ((restarted talks a b).told p n)) (sym (others talks.heard a b 0 n p o))
          (subst (λ ws. talks.heard n p ≤ length ws) (sym (others talks.told a b [] p n (turned_other a b n p o))) (m.most n p))
    ]

-- 3.2 A word is received

module _ (world : ReflectWorld) (c d : Config) (talks : Talks) (a b : ℕ) (m : Matches world c talks) (word : Word)
    (first : first_word a b world.flying ≡ Some word) where
  abbrev rest : List Word
  rest = words_to a b (without_first a b world.flying)

  told_is : talks.told a b ≡ world.heard b a ++ (word ∷ rest)
  told_is = sym (m.told a b) ∙ ap (λ ws. world.heard b a ++ ws) (first_said a b world.flying word first)

  longer : take (talks.heard b a + 1) (talks.told a b) ≡ world.heard b a ++ word ∷ []
  longer =
      ap (λ k. take k (talks.told a b)) (one_more (talks.heard b a)) ∙ ap (take (suc (talks.heard b a))) told_is
      ∙ take_next (talks.heard b a) (world.heard b a) word rest (sym (count_is world c talks m b a))
    where
      one_more : (k : ℕ) → k + 1 ≡ suc k
      one_more k = omega arith

  abbrev new_heard : ℕ → ℕ → List Word
  new_heard = put_pair world.heard b a (world.heard b a ++ word ∷ [])

  abbrev new_talks : Talks
  new_talks = record talks { heard = put_pair talks.heard b a (talks.heard b a + 1) }

  is_hearer : (n p : ℕ) → ((n ≡ b) × (p ≡ a)) ⊎ ((n ≢ b) ⊎ (p ≢ a))
  is_hearer n p = elim (eqb_tells n b) [
    | inl e ↦ elim (eqb_tells p a) [ inl f ↦ inl (e.1, f.1) | inr f ↦ inr (inr f.1) ]
    | inr e ↦ inr (inl e.1)
  ]

  at_hearer : (P : ℕ → ℕ → Type 0) → P b a → (n p : ℕ) → n ≡ b → p ≡ a → P n p
  at_hearer P h n p e f = subst (λ x. P x p) (sym e) (subst (P b) (sym f) h)

  heard_here : new_heard b a ≡ heard_words new_talks b a
  heard_here =
      pair_here world.heard b a (world.heard b a ++ word ∷ []) ∙ sym longer
      ∙ sym (ap (λ k. take k (talks.told a b)) (pair_here talks.heard b a (talks.heard b a + 1)))

  told_here : new_heard b a ++ rest ≡ talks.told a b
  told_here =
      ap (λ ws. ws ++ rest) (pair_here world.heard b a (world.heard b a ++ word ∷ []))
      ∙ append_assoc (world.heard b a) (word ∷ []) rest ∙ sym told_is

  most_here : new_talks.heard b a ≤ length (talks.told a b)
  most_here = more (new_talks.heard b a) (talks.heard b a) (length (world.heard b a)) (length rest) (length (talks.told a b))
      (pair_here talks.heard b a (talks.heard b a + 1)) (count_is world c talks m b a)
      (ap length told_is ∙ length-append (world.heard b a) (word ∷ rest))
    where
      more : (new k l j all : ℕ) → new ≡ k + 1 → l ≡ k → all ≡ l + suc j → new ≤ all
      more new k l j all e f g = omega (arith, e, f, g)

  hears : Matches (record { config = d; heard = new_heard; flying = without_first a b world.flying }) d new_talks
  hears = record {
    configured = refl;
    heard = λ n p. elim (is_hearer n p) [
      | inl e ↦ at_hearer (λ x y. new_heard x y ≡ heard_words new_talks x y) heard_here n p e.0 e.1
      | inr o ↦ pair_off world.heard b a (world.heard b a ++ word ∷ []) n p o ∙ m.heard n p
          ∙ sym (ap (λ k. take k (talks.told p n)) (pair_off talks.heard b a (talks.heard b a + 1) n p o))
    ];
    told = λ n p. elim (is_hearer p n) [
      | inl e ↦ at_hearer (λ x y. new_heard x y ++ words_to y x (without_first a b world.flying) ≡ talks.told y x) told_here p n e.0 e.1
      | inr o ↦ ap (λ ws. ws ++ words_to n p (without_first a b world.flying)) (pair_off world.heard b a (world.heard b a ++ word ∷ []) p n o)
          ∙ ap (λ ws. world.heard p n ++ ws) (others_stay a b n p (flipped _ _ o) world.flying) ∙ m.told n p
    ];
    most = λ n p. elim (is_hearer n p) [
      | inl e ↦ at_hearer (λ x y. new_talks.heard x y ≤ length (talks.told y x)) most_here n p e.0 e.1
      | inr o ↦ subst (λ k. k ≤ length (talks.told p n)) (sym (pair_off talks.heard b a (talks.heard b a + 1) n p o)) (m.most n p)
    ];
  }

-- what is there flies
there_flies : (world : ReflectWorld) (c : Config) (talks : Talks) (a b : ℕ) → Matches world c talks → talks.heard b a < length (talks.told a b) →
    (word : Word) × (first_word a b world.flying ≡ Some word)
there_flies world c talks a b m h = by (words_to a b world.flying) refl
  where
    short : (k l all : ℕ) → l ≡ k → all ≡ l → k < all → ⊥
    short k l all e f h = omega (arith, e, f, h)

    by : (ws : List Word) → words_to a b world.flying ≡ ws → (word : Word) × (first_word a b world.flying ≡ Some word)
    by [] e = absurd (short (talks.heard b a) (length (world.heard b a)) (length (talks.told a b)) (count_is world c talks m b a)
        (ap length (sym (m.told a b) ∙ ap (λ ws. world.heard b a ++ ws) e ∙ append-nil (world.heard b a))) h)
    by (w ∷ ws) e = (w, first_head a b world.flying ∙ ap head e)

-- 4. A step

module _ (t : Network) (reflectors : List ℕ) (world : ReflectWorld) (c : Config) (talks : Talks) (m : Matches world c talks) where
  -- the same is sent
  news_same : (new : ReflectWorld) (d : Config) (then_talks : Talks) → Matches new d then_talks →
      flat_map (news t reflectors world new) (nodes_of (wiring_of t))
      ≡ flat_map (news t reflectors (seen c talks) (seen d then_talks)) (nodes_of (wiring_of t))
  news_same new d then_talks g =
      ap (λ (w : ReflectWorld). flat_map (news t reflectors w (bare new)) (nodes_of (wiring_of t))) (bare_same world c talks m)
      ∙ ap (λ (w : ReflectWorld). flat_map (news t reflectors (seen c talks) w) (nodes_of (wiring_of t))) (bare_same new d then_talks g)

  -- once both have counted, and answer the same, both have told the same
  goes_on : (done : Step) → Matches (unsaid world done) (config_after c done) (counted talks done) →
      replies t reflectors world (unsaid world done) done ≡ answers_by_keys t reflectors (config_after c done) talks (counted talks done) done →
      Matches (after t reflectors world done) (config_after c done) (after_by_keys t reflectors c talks done)
  goes_on done g same =
      subst (λ ss. Matches (after t reflectors world done) (config_after c done) (with_spoken (counted talks done) ss))
      (ap (λ ss. ss ++ flat_map (news t reflectors world (unsaid world done)) (nodes_of (wiring_of t))) same
      ∙ ap (λ ss. answers_by_keys t reflectors (config_after c done) talks (counted talks done) done ++ ss)
      (news_same (unsaid world done) (config_after c done) (counted talks done) g))
      (tells (unsaid world done) (config_after c done) (counted talks done) (said_in t reflectors world (unsaid world done) done) g)

  -- a step of no session
  plain : (done : Step) → landed.counted world done ≡ world → counted talks done ≡ talks →
      Matches (unsaid world done) (config_after c done) (counted talks done)
  plain done e f = subst (Matches (unsaid world done) (config_after c done)) (sym f) (record {
    configured = ap (λ (x : Config). config_after x done) m.configured;
    heard = λ n p. ap (λ (w : ReflectWorld). w.heard n p) e ∙ m.heard n p;
    told = λ n p. ap (λ (w : ReflectWorld). w.heard p n ++ words_to n p w.flying) e ∙ m.told n p;
    most = m.most;
  })

  with_config : (w : ReflectWorld) (d e : Config) (then_talks : Talks) → d ≡ e → Matches (record w { config = e }) e then_talks →
      Matches (record w { config = d }) e then_talks
  with_config w d e then_talks q g = subst (λ (x : Config). Matches (record w { config = x }) e then_talks) (sym q) g

  config_is : (done : Step) → config_after world.config done ≡ config_after c done
  config_is done = ap (λ (x : Config). config_after x done) m.configured

  hearing : (a b : ℕ) (done : Step) (word : Word) → first_word a b world.flying ≡ Some word →
      landed.counted world done ≡ landed.heard_one world a b (first_word a b world.flying) →
      counted talks done ≡ record talks { heard = put_pair talks.heard b a (talks.heard b a + 1) } →
      Matches (unsaid world done) (config_after c done) (counted talks done)
  hearing a b done word first e f =
      subst (Matches (unsaid world done) (config_after c done)) (sym f)
      (subst (λ (w : ReflectWorld). Matches (record w { config = config_after world.config done }) (config_after c done)
      (record talks { heard = put_pair talks.heard b a (talks.heard b a + 1) })) (sym (e ∙ ap (landed.heard_one world a b) first))
      (with_config (landed.heard_one world a b (Some word)) (config_after world.config done) (config_after c done)
      (record talks { heard = put_pair talks.heard b a (talks.heard b a + 1) }) (config_is done)
      (hears world c (config_after c done) talks a b m word first)))

  reply_same : (a b : ℕ) (new : ReflectWorld) (d : Config) (then_talks : Talks) → Matches new d then_talks →
      says b a (reply t reflectors new b a (length (world.heard b a)) (first_word a b world.flying))
      ≡ says b a (reply t reflectors (seen d then_talks) b a (talks.heard b a) (slice_get (talks.told a b) (talks.heard b a)))
  reply_same a b new d then_talks g =
      ap (λ k. says b a (reply t reflectors (bare new) b a k (first_word a b world.flying))) (count_is world c talks m b a)
      ∙ ap (λ o. says b a (reply t reflectors (bare new) b a (talks.heard b a) o)) (first_head a b world.flying
      ∙ sym (at_head (talks.heard b a) (world.heard b a) (words_to a b world.flying) (sym (count_is world c talks m b a)))
      ∙ ap (λ ws. slice_get ws (talks.heard b a)) (m.told a b))
      ∙ ap (λ (w : ReflectWorld). says b a (reply t reflectors w b a (talks.heard b a) (slice_get (talks.told a b) (talks.heard b a))))
      (bare_same new d then_talks g)

  lesser : (a b : ℕ) → a < b → a ≢ b
  lesser a b h e = omega (arith, h, e)

  -- both have counted
  pub counted_matches : (done : Step) → NamesNodes t done → IsThere talks done → Matches (unsaid world done) (config_after c done) (counted talks done)
  counted_matches (step.BgpUp a b) h there =
      with_config (landed.restarted world a.0 b.0) (config_after world.config (step.BgpUp a b)) (config_after c (step.BgpUp a b))
      (restarted talks a.0 b.0) (config_is (step.BgpUp a b))
      (restarts world c (config_after c (step.BgpUp a b)) talks a.0 b.0 (lesser a.0 b.0 h.0) m)
  counted_matches (step.BgpDown a b) h there =
      with_config (landed.restarted world a.0 b.0) (config_after world.config (step.BgpDown a b)) (config_after c (step.BgpDown a b))
      (restarted talks a.0 b.0) (config_is (step.BgpDown a b))
      (restarts world c (config_after c (step.BgpDown a b)) talks a.0 b.0 (lesser a.0 b.0 h.0) m)
  counted_matches (step.HearBgp a b) h there =
      let f = there_flies world c talks a.0 b.0 m there in
      hearing a.0 b.0 (step.HearBgp a b) f.0 f.1 refl refl
  counted_matches (step.LinkUp l) h there = plain (step.LinkUp l) refl refl
  counted_matches (step.LinkDown l) h there = plain (step.LinkDown l) refl refl
  counted_matches (step.Learn node l) h there = plain (step.Learn node l) refl refl
  counted_matches (step.LdpAdmin l on) h there = plain (step.LdpAdmin l on) refl refl
  counted_matches (step.HearLdp l dir) h there = plain (step.HearLdp l dir) refl refl
  counted_matches (step.AddRoute s prefix) h there = plain (step.AddRoute s prefix) refl refl
  counted_matches (step.DelRoute s prefix) h there = plain (step.DelRoute s prefix) refl refl
  counted_matches (step.Import v on target) h there = plain (step.Import v on target) refl refl
  counted_matches (step.Export v on target) h there = plain (step.Export v on target) refl refl
  counted_matches (step.Attach s) h there = plain (step.Attach s) refl refl
  counted_matches (step.Detach s) h there = plain (step.Detach s) refl refl
  counted_matches (step.Inject s number) h there = plain (step.Inject s number) refl refl
  counted_matches (step.Carry l dir place) h there = plain (step.Carry l dir place) refl refl
  counted_matches (step.Lose l dir place) h there = plain (step.Lose l dir place) refl refl
  counted_matches (step.Tick ticks) h there = plain (step.Tick ticks) refl refl

  -- and answer the same
  answers_match : (done : Step) → Matches (unsaid world done) (config_after c done) (counted talks done) →
      replies t reflectors world (unsaid world done) done ≡ answers_by_keys t reflectors (config_after c done) talks (counted talks done) done
  answers_match (step.HearBgp a b) g =
      reply_same a.0 b.0 (unsaid world (step.HearBgp a b)) (config_after c (step.HearBgp a b)) (counted talks (step.HearBgp a b)) g
  answers_match (step.BgpUp a b) g = refl
  answers_match (step.BgpDown a b) g = refl
  answers_match (step.LinkUp l) g = refl
  answers_match (step.LinkDown l) g = refl
  answers_match (step.Learn node l) g = refl
  answers_match (step.LdpAdmin l on) g = refl
  answers_match (step.HearLdp l dir) g = refl
  answers_match (step.AddRoute s prefix) g = refl
  answers_match (step.DelRoute s prefix) g = refl
  answers_match (step.Import v on target) g = refl
  answers_match (step.Export v on target) g = refl
  answers_match (step.Attach s) g = refl
  answers_match (step.Detach s) g = refl
  answers_match (step.Inject s number) g = refl
  answers_match (step.Carry l dir place) g = refl
  answers_match (step.Lose l dir place) g = refl
  answers_match (step.Tick ticks) g = refl

  pub step_matches : (done : Step) → NamesNodes t done → IsThere talks done →
      Matches (after t reflectors world done) (config_after c done) (after_by_keys t reflectors c talks done)
  step_matches done h there =
      let g : Matches (unsaid world done) (config_after c done) (counted talks done) = counted_matches done h there in
      goes_on done g (answers_match done g)

-- 5. Every run

module _ (t : Network) (reflectors : List ℕ) where
  run_matches : (world : ReflectWorld) (c : Config) (talks : Talks) (steps : List Step) → Matches world c talks → AreThere t reflectors c talks steps →
      Matches (landed.world_from t reflectors world steps) (config_from c steps) (from_by_keys t reflectors c talks steps)
  run_matches world c talks [] m h = m
  run_matches world c talks (done ∷ steps) m h =
      run_matches (after t reflectors world done) (config_after c done) (after_by_keys t reflectors c talks done) steps
      (step_matches t reflectors world c talks m done h.0 h.1) h.2

  named : (c : Config) (talks : Talks) (steps : List Step) → AreThere t reflectors c talks steps → AreReflected t steps
  named c talks [] h = tt
  named c talks (done ∷ steps) h = (h.0, named (config_after c done) (after_by_keys t reflectors c talks done) steps h.2)

  pub start_matches : Matches (landed.start t) (first_config t) no_talks
  start_matches = record { configured = refl; heard = λ n p. refl; told = λ n p. refl; most = λ n p. omega arith }

  pub is_talk : (world : ReflectWorld) (c : Config) (talks : Talks) → IsRun t reflectors world → Matches world c talks → IsTalk t reflectors c talks
  is_talk world c talks run m = record {
    within = λ node peer h. sym (m.heard node peer) ∙ run.within node peer h;
    offers = λ n p d h g. record {
      all = subst (λ (u : ReflectWorld). is_established u n p ≡ true → (key : Key) → last_mention key None (talks.told n p) ≡ offered t reflectors u n p key)
          (bare_same world c talks m) (λ on key. ap (last_mention key None) (sym (m.told n p)) ∙ (run.says n p d h g).all on key);
      nothing = subst (λ (u : ReflectWorld). is_established u n p ≡ false → (key : Key) → last_mention key None (talks.told n p) ≡ None)
          (bare_same world c talks m) (λ off key. ap (last_mention key None) (sym (m.told n p)) ∙ (run.says n p d h g).nothing off key);
    };
    turns = λ n p d h g. record {
      alive = λ on. subst (λ k. BeginsBy k (talks.told n p)) (count_is world c talks m n p)
          (subst (BeginsBy (length (world.heard n p))) (m.told n p) ((run.turns n p d h g).alive (ap (λ (x : Config). live x n p) m.configured ∙ on)));
      dead = λ off. sym (m.told n p) ∙ (run.turns n p d h g).dead (ap (λ (x : Config). live x n p) m.configured ∙ off);
    };
  }
    where
      live : Config → ℕ → ℕ → Bool
      live x n p = Rattle.mn_ledger.specs.Bgp.peers_live x n p

  pub every_run_talks : (steps : List Step) → AreThere t reflectors (first_config t) no_talks steps →
      IsTalk t reflectors (config_from (first_config t) steps) (from_by_keys t reflectors (first_config t) no_talks steps)
  every_run_talks steps h =
      is_talk (landed.world_of t reflectors steps) (config_from (first_config t) steps) (from_by_keys t reflectors (first_config t) no_talks steps)
      (every_run t reflectors steps (named (first_config t) no_talks steps h))
      (run_matches (landed.start t) (first_config t) no_talks steps start_matches h)

  pub run_configured : (steps : List Step) → AreThere t reflectors (first_config t) no_talks steps →
      (landed.world_of t reflectors steps).config ≡ config_from (first_config t) steps
  run_configured steps h = (run_matches (landed.start t) (first_config t) no_talks steps start_matches h).configured

  -- where no word flies all is received
  pub run_rests : (steps : List Step) → AreThere t reflectors (first_config t) no_talks steps → (landed.world_of t reflectors steps).flying ≡ [] →
      IsHeard t (config_from (first_config t) steps) (from_by_keys t reflectors (first_config t) no_talks steps)
  run_rests steps h none node peer =
      let m = run_matches (landed.start t) (first_config t) no_talks steps start_matches h in
      sym (count_is (landed.world_of t reflectors steps) (config_from (first_config t) steps) (from_by_keys t reflectors (first_config t) no_talks steps) m
      node peer)
      ∙ ap length (sym (append-nil ((landed.world_of t reflectors steps).heard node peer))
      ∙ ap (λ (fs : List Spoken). (landed.world_of t reflectors steps).heard node peer ++ words_to peer node fs) (sym none) ∙ m.told peer node)

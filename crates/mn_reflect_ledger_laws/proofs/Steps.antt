-- Every step keeps: each end has sent what it offers, and sessions are in turn.
use Rattle.std.proofs.Common.{ℕ, zero, suc, ◌≡◌, ◌≢◌, ◌<◌, ◌≤◌, ◌⊎◌, inl, inr, Bool, true, false, cond, List, [], ◌∷◌, ◌++◌, length, Some, None, filter}
use Rattle.std.proofs.Common.{refl, arith, sym, ◌∙◌, ap, subst, append_assoc, append-nil}
use Rattle.std.specs.Prelude.{◌==◌, ◌&&◌, not, nat_le}
use Rattle.std.proofs.lemmas.Bool.Decides.{eqb_tells}
use Rattle.mn_base.proofs.Bools.{no, and_on, and_left, and_right, other_test, same_numbers, and_false}
use Rattle.mn_topo.specs.Network.{Network}
use Rattle.mn_topo.specs.declared.steps.Step.{Step}
use Rattle.mn_ledger.specs.Bgp.{peers_live}
use Rattle.mn_reflect_ledger_laws.specs.Words.{Key, Word, Open, KeepAlive, Announce, Withdraw, last_mention}
use Rattle.mn_reflect_ledger_laws.specs.Picks.{Spoken, ReflectWorld, is_established, offered}
use Rattle.mn_reflect_ledger_laws.specs.World.{is_from_to, is_between, first_word, without_first, words_to, unsaid, all_offers, replies, is_steady, said_in}
use Rattle.mn_reflect_ledger_laws.specs.World.{after}
use Rattle.mn_reflect_ledger_laws.specs.Quiet.{told, SaysItsOffers, BeginsBy, IsInTurn}
use Rattle.mn_reflect_ledger_laws.proofs.Mentions.{mention_append}
use Rattle.mn_reflect_ledger_laws.proofs.Saying.{words_append, pick_word, said_to, to_peer}
use Rattle.mn_reflect_ledger_laws.proofs.Offering.{IsWithin, changes_lead, all_lead}

-- 1. Lists that begin a session

pub begins_more : (count more : ℕ) (words tail : List Word) → BeginsBy count words → count ≤ more → 0 < count → BeginsBy more (words ++ tail)
begins_more count more [] tail h le p = absurd h
begins_more count more (Open ∷ []) tail h le p = absurd (none h p)
  where
    none : count ≡ 0 → 0 < count → ⊥
    none e p = omega (arith, e, p)
begins_more count more (Open ∷ (KeepAlive ∷ rest)) tail h le p = omega (arith, h, le)
begins_more count more (Open ∷ (Open ∷ rest)) tail h le p = absurd h
begins_more count more (Open ∷ (Announce offer ∷ rest)) tail h le p = absurd h
begins_more count more (Open ∷ (Withdraw key ∷ rest)) tail h le p = absurd h
begins_more count more (KeepAlive ∷ words) tail h le p = absurd h
begins_more count more (Announce offer ∷ words) tail h le p = absurd h
begins_more count more (Withdraw key ∷ words) tail h le p = absurd h

-- with OPEN alone, the KEEPALIVE that answers is the second
pub begins_answer : (count : ℕ) (words : List Word) → BeginsBy count words → count ≡ 0 → BeginsBy 1 (words ++ KeepAlive ∷ [])
begins_answer count [] h e = absurd h
begins_answer count (Open ∷ []) h e = omega arith
begins_answer count (Open ∷ (KeepAlive ∷ rest)) h e = absurd (none h e)
  where
    none : 0 < count → count ≡ 0 → ⊥
    none p e = omega (arith, e, p)
begins_answer count (Open ∷ (_ ∷ rest)) h e = absurd h
begins_answer count (_ ∷ words) h e = absurd h

-- the word that is received first, and the one that is received second
pub first_is_open : (count : ℕ) (word : Word) (rest : List Word) → BeginsBy count (word ∷ rest) → word ≡ Open
first_is_open count Open rest h = refl
first_is_open count KeepAlive rest h = absurd h
first_is_open count (Announce offer) rest h = absurd h
first_is_open count (Withdraw key) rest h = absurd h

pub second_is_keep : (count : ℕ) (one word : Word) (rest : List Word) → BeginsBy count (one ∷ (word ∷ rest)) → word ≡ KeepAlive
second_is_keep count Open KeepAlive rest h = refl
second_is_keep count Open Open rest h = absurd h
second_is_keep count Open (Announce offer) rest h = absurd h
second_is_keep count Open (Withdraw key) rest h = absurd h
second_is_keep count KeepAlive word rest h = absurd h
second_is_keep count (Announce offer) word rest h = absurd h
second_is_keep count (Withdraw key) word rest h = absurd h

-- 2. What flies on the way from one node to another

pub first_said : (from to : ℕ) (flying : List Spoken) (word : Word) → first_word from to flying ≡ Some word →
    words_to from to flying ≡ word ∷ words_to from to (without_first from to flying)
first_said from to [] word h = absurd (no (ap (λ o. elim o [ None ↦ false | Some z ↦ true ]) h))
first_said from to (spoken ∷ more) word h = by (is_from_to from to spoken) refl (first_said from to more word) h
  where
    by : (b : Bool) → is_from_to from to spoken ≡ b → (first_word from to more ≡ Some word → words_to from to more ≡ word ∷ words_to from to
        (without_first from to more)) →
        cond b (Some spoken.word) (first_word from to more) ≡ Some word →
        words_to from to (spoken ∷ more) ≡ word ∷ words_to from to (cond b more (spoken ∷ without_first from to more))
    by true e f q = pick_word from to spoken more true e ∙ ap (λ w. w ∷ words_to from to more) (ap (λ o. elim o [ None ↦ word | Some z ↦ z ]) q)
    by false e f q = pick_word from to spoken more false e ∙ f q ∙ ap (λ ws. word ∷ ws) (sym (pick_word from to spoken (without_first from to more) false e))

-- words of another pair stay
other_pair : (from to n p : ℕ) → (n ≢ from) ⊎ (p ≢ to) → (spoken : Spoken) → is_from_to from to spoken ≡ true → is_from_to n p spoken ≡ false
other_pair from to n p d spoken h = by d
  where
    by : (n ≢ from) ⊎ (p ≢ to) → is_from_to n p spoken ≡ false
    by (inl e) = ap (λ o. o && (spoken.to == p)) (other_test spoken.from n (λ q. e (sym q ∙ same_numbers spoken.from from (and_left (spoken.from == from)
        (spoken.to == to) h))))
    by (inr e) = ap (λ o. (spoken.from == n) && o) (other_test spoken.to p (λ q. e (sym q ∙ same_numbers spoken.to to (and_right (spoken.from == from)
        (spoken.to == to) h)))) ∙ and_false (spoken.from == n)

pub others_stay : (from to n p : ℕ) → (n ≢ from) ⊎ (p ≢ to) → (flying : List Spoken) → words_to n p (without_first from to flying) ≡ words_to n p flying
others_stay from to n p d [] = refl
others_stay from to n p d (spoken ∷ more) = by (is_from_to from to spoken) refl (others_stay from to n p d more)
  where
    by : (b : Bool) → is_from_to from to spoken ≡ b → words_to n p (without_first from to more) ≡ words_to n p more →
        words_to n p (cond b more (spoken ∷ without_first from to more)) ≡ words_to n p (spoken ∷ more)
    by true e f = sym (pick_word n p spoken more false (other_pair from to n p d spoken e))
    by false e f = at (is_from_to n p spoken) refl
      where
        at : (c : Bool) → is_from_to n p spoken ≡ c → words_to n p (spoken ∷ without_first from to more) ≡ words_to n p (spoken ∷ more)
        at true q = pick_word n p spoken (without_first from to more) true q ∙ ap (λ ws. spoken.word ∷ ws) f ∙ sym (pick_word n p spoken more true q)
        at false q = pick_word n p spoken (without_first from to more) false q ∙ f ∙ sym (pick_word n p spoken more false q)

-- where a session begins or ends, what flew between its ends is gone, and nothing else
pub between_gone : (a b n p : ℕ) → ((n ≡ a) × (p ≡ b)) ⊎ ((n ≡ b) × (p ≡ a)) → (flying : List Spoken) →
    words_to n p (filter (λ s. not (is_between a b s)) flying) ≡ []
between_gone a b n p who [] = refl
between_gone a b n p who (spoken ∷ more) = by (is_between a b spoken) refl (between_gone a b n p who more)
  where
    apart : is_between a b spoken ≡ false → is_from_to n p spoken ≡ false
    apart e = elim who [
      | inl q ↦ ap (λ x. (spoken.from == x) && (spoken.to == p)) q.0 ∙ ap (λ y. (spoken.from == a) && (spoken.to == y)) q.1
          ∙ first_off (is_from_to a b spoken) (is_from_to b a spoken) e
      | inr q ↦ ap (λ x. (spoken.from == x) && (spoken.to == p)) q.0 ∙ ap (λ y. (spoken.from == b) && (spoken.to == y)) q.1
          ∙ second_off (is_from_to a b spoken) (is_from_to b a spoken) e
    ]
      where
        first_off : (x y : Bool) → cond x true y ≡ false → x ≡ false
        first_off true y e = e
        first_off false y e = refl

        second_off : (x y : Bool) → cond x true y ≡ false → y ≡ false
        second_off true y e = absurd (no (sym e))
        second_off false y e = e

    by : (b2 : Bool) → is_between a b spoken ≡ b2 → words_to n p (filter (λ s. not (is_between a b s)) more) ≡ [] →
        words_to n p (cond (not b2) (spoken ∷ filter (λ s. not (is_between a b s)) more) (filter (λ s. not (is_between a b s)) more)) ≡ []
    by true e f = f
    by false e f = pick_word n p spoken (filter (λ s. not (is_between a b s)) more) false (apart e) ∙ f

abbrev pub IsOther : ℕ → ℕ → ℕ → ℕ → Type 0
IsOther a b n p = ((n ≢ a) ⊎ (p ≢ b)) × ((n ≢ b) ⊎ (p ≢ a))

pub others_between : (a b n p : ℕ) → IsOther a b n p → (flying : List Spoken) → words_to n p (filter (λ s. not (is_between a b s)) flying) ≡ words_to n p flying
others_between a b n p d [] = refl
others_between a b n p d (spoken ∷ more) = by (is_from_to a b spoken) (is_from_to b a spoken) refl refl (others_between a b n p d more)
  where
    by : (x y : Bool) → is_from_to a b spoken ≡ x → is_from_to b a spoken ≡ y → words_to n p (filter (λ s. not (is_between a b s)) more) ≡ words_to n p more →
        words_to n p (cond (not (cond x true y)) (spoken ∷ filter (λ s. not (is_between a b s)) more) (filter (λ s. not
        (is_between a b s)) more)) ≡ words_to n p (spoken ∷ more)
    by true y e g f = f ∙ sym (pick_word n p spoken more false (other_pair a b n p d.0 spoken e))
    by false true e g f = f ∙ sym (pick_word n p spoken more false (other_pair b a n p d.1 spoken g))
    by false false e g f = at (is_from_to n p spoken) refl
      where
        at : (c : Bool) → is_from_to n p spoken ≡ c → words_to n p (spoken ∷ filter (λ s. not (is_between a b s)) more) ≡ words_to n p (spoken ∷ more)
        at true q = pick_word n p spoken (filter (λ s. not (is_between a b s)) more) true q ∙ ap (λ ws. spoken.word ∷ ws) f
            ∙ sym (pick_word n p spoken more true q)
        at false q = pick_word n p spoken (filter (λ s. not (is_between a b s)) more) false q ∙ f ∙ sym (pick_word n p spoken more false q)

pub which_pair : (a b n p : ℕ) → (((n ≡ a) × (p ≡ b)) ⊎ ((n ≡ b) × (p ≡ a))) ⊎ IsOther a b n p
which_pair a b n p = elim (eqb_tells n a) [
  | inl e ↦ elim (eqb_tells p b) [
    | inl f ↦ inl (inl (e.1, f.1))
    | inr f ↦ elim (eqb_tells n b) [
      | inl g ↦ elim (eqb_tells p a) [ inl k ↦ inl (inr (g.1, k.1)) | inr k ↦ inr (inr f.1, inr k.1) ]
      | inr g ↦ inr (inr f.1, inl g.1)
    ]
  ]
  | inr e ↦ elim (eqb_tells n b) [
    | inl g ↦ elim (eqb_tells p a) [ inl k ↦ inl (inr (g.1, k.1)) | inr k ↦ inr (inl e.1, inr k.1) ]
    | inr g ↦ inr (inl e.1, inl g.1)
  ]
]

-- 3. One pair, from what a step leaves it

module _ (topology : Network) (reflectors : List ℕ) (world : ReflectWorld) (done : Step) (n p : ℕ) (there : n < length topology.loopbacks)
    (peer_there : p < length topology.loopbacks)
    (before : IsWithin topology world) (later : IsWithin topology (unsaid world done)) where
  abbrev pub new : ReflectWorld
  new = unsaid world done

  abbrev pub then_world : ReflectWorld
  then_world = after topology reflectors world done

  abbrev pub answers : List Word
  answers = words_to n p (replies topology reflectors world new done)

  -- what was sent, what answers, and what is new
  pub told_then : told then_world n p ≡ told new n p ++ (answers ++ cond (is_steady world new n p)
      (to_peer topology reflectors world new n p there peer_there) [])
  told_then =
      ap (λ ws. new.heard p n ++ ws) (words_append n p new.flying (said_in topology reflectors world new done))
      ∙ sym (append_assoc (new.heard p n) (words_to n p new.flying) (words_to n p (said_in topology reflectors world new done)))
      ∙ ap (λ ws. told new n p ++ ws) (said_to topology reflectors world new n p there peer_there done)

  -- the end was Established and is, and answers nothing
  pub stays : (old : SaysItsOffers topology reflectors world n p) → told new n p ≡ told world n p → answers ≡ [] →
      is_established world n p ≡ is_established new n p → SaysItsOffers topology reflectors then_world n p
  stays old same none est = record { all = all; nothing = nothing }
    where
      all : is_established new n p ≡ true → (key : Key) → last_mention key None (told then_world n p) ≡ offered topology reflectors new n p key
      all e key =
          ap (last_mention key None) (told_then ∙ ap (λ ws. told new n p ++ (ws ++ cond (is_steady world new n p)
          (to_peer topology reflectors world new n p there peer_there) [])) none
          ∙ ap (λ b. told new n p ++ cond b (to_peer topology reflectors world new n p there peer_there) []) (and_on (is_established world n p)
          (is_established new n p) (est ∙ e) e)
          ∙ ap (λ ws. ws ++ to_peer topology reflectors world new n p there peer_there) same)
          ∙ mention_append key None (told world n p) (to_peer topology reflectors world new n p there peer_there)
          ∙ ap (λ o. last_mention key o (to_peer topology reflectors world new n p there peer_there)) (old.all (est ∙ e) key)
          ∙ changes_lead topology reflectors world new before later n p key

      nothing : is_established new n p ≡ false → (key : Key) → last_mention key None (told then_world n p) ≡ None
      nothing e key =
          ap (last_mention key None) (told_then ∙ ap (λ ws. told new n p ++ (ws ++ cond (is_steady world new n p)
          (to_peer topology reflectors world new n p there peer_there) [])) none
          ∙ ap (λ b. told new n p ++ cond b (to_peer topology reflectors world new n p there peer_there) []) (ap (λ b. b && is_established new n p) (est ∙ e))
          ∙ append-nil (told new n p) ∙ same)
          ∙ old.nothing (est ∙ e) key

  -- the end wasn't Established, and says words that aren't mentions, or all that it offers where it becomes so
  pub begins_to : (old : SaysItsOffers topology reflectors world n p) → told new n p ≡ told world n p → is_established world n p ≡ false →
      (is_established new n p ≡ true → answers ≡ all_offers topology reflectors new n p) →
      (is_established new n p ≡ false → (key : Key) → last_mention key None answers ≡ None) → SaysItsOffers topology reflectors then_world n p
  begins_to old same off full plain = record { all = all; nothing = nothing }
    where
      no_news : told then_world n p ≡ told world n p ++ answers
      no_news = told_then ∙ ap (λ b. told new n p ++ (answers ++ cond b (to_peer topology reflectors world new n p there peer_there) [])) (ap
          (λ b. b && is_established new n p) off)
          ∙ ap (λ ws. told new n p ++ ws) (append-nil answers) ∙ ap (λ ws. ws ++ answers) same

      from_none : (key : Key) → last_mention key None (told then_world n p) ≡ last_mention key None answers
      from_none key = ap (last_mention key None) no_news ∙ mention_append key None (told world n p) answers
          ∙ ap (λ o. last_mention key o answers) (old.nothing off key)

      all : is_established new n p ≡ true → (key : Key) → last_mention key None (told then_world n p) ≡ offered topology reflectors new n p key
      all e key = from_none key ∙ ap (last_mention key None) (full e) ∙ all_lead topology reflectors world new before later n p key

      nothing : is_established new n p ≡ false → (key : Key) → last_mention key None (told then_world n p) ≡ None
      nothing e key = from_none key ∙ plain e key

  -- the session begins anew, or ends
  pub begins_anew : told new n p ≡ [] → is_established new n p ≡ false → ((key : Key) → last_mention key None answers ≡ None) →
      SaysItsOffers topology reflectors then_world n p
  begins_anew empty off plain = record { all = λ e key. absurd (no (sym off ∙ e)); nothing = λ e key. ap (last_mention key None) alone ∙ plain key }
    where
      alone : told then_world n p ≡ answers
      alone = told_then ∙ ap (λ b. told new n p ++ (answers ++ cond b (to_peer topology reflectors world new n p there peer_there) [])) (steady_off
          (is_established world n p))
          ∙ ap (λ ws. ws ++ (answers ++ [])) empty ∙ append-nil answers
        where
          steady_off : (b : Bool) → (b && is_established new n p) ≡ false
          steady_off b = ap (λ c. b && c) off ∙ and_false b

  pub told_anew : told new n p ≡ [] → is_established new n p ≡ false → told then_world n p ≡ answers
  told_anew empty off = told_then ∙ ap (λ b. told new n p ++ (answers ++ cond b (to_peer topology reflectors world new n p there peer_there) [])) (ap
      (λ c. is_established world n p && c) off ∙ and_false (is_established world n p))
      ∙ ap (λ ws. ws ++ (answers ++ [])) empty ∙ append-nil answers

  -- turns
  pub turns_on : (old : IsInTurn world n p) → told new n p ≡ told world n p → peers_live new.config n p ≡ peers_live world.config n p →
      length (new.heard n p) ≡ length (world.heard n p) →
      answers ≡ [] → IsInTurn then_world n p
  turns_on old same live heard none = record { alive = alive; dead = dead }
    where
      tail : List Word
      tail = cond (is_steady world new n p) (to_peer topology reflectors world new n p there peer_there) []

      shape : told then_world n p ≡ told world n p ++ cond (is_steady world new n p) (to_peer topology reflectors world new n p there peer_there) []
      shape = told_then ∙ ap (λ ws. told new n p ++ (ws ++ cond (is_steady world new n p) (to_peer topology reflectors world new n p there peer_there) [])) none
          ∙ ap (λ ws. ws ++ cond (is_steady world new n p) (to_peer topology reflectors world new n p there peer_there) []) same

      not_yet : length (world.heard n p) ≡ 0 → is_steady world new n p ≡ false
      not_yet e = ap (λ k. (peers_live world.config n p && nat_le 2 k) && is_established new n p) e
          ∙ ap (λ b. b && is_established new n p) (and_false (peers_live world.config n p))

      alive : peers_live new.config n p ≡ true → BeginsBy (length (new.heard n p)) (told then_world n p)
      alive e = subst (BeginsBy (length (new.heard n p))) (sym shape) (by (length (world.heard n p)) refl)
        where
          was : BeginsBy (length (world.heard n p)) (told world n p)
          was = old.alive (sym live ∙ e)

          by : (count : ℕ) → length (world.heard n p) ≡ count → BeginsBy (length (new.heard n p)) (told world n p ++ cond (is_steady world new n p)
              (to_peer topology reflectors world new n p there peer_there) [])
          by zero q = subst (λ b. BeginsBy (length (new.heard n p)) (told world n p ++ cond b (to_peer topology reflectors world new n p there peer_there)
              [])) (sym (not_yet q))
              (subst (BeginsBy (length (new.heard n p))) (sym (append-nil (told world n p))) (subst (λ k. BeginsBy k (told world n p)) (sym heard) was))
          by (suc count) q = begins_more (length (world.heard n p)) (length (new.heard n p)) (told world n p) (cond (is_steady world new n p)
              (to_peer topology reflectors world new n p there peer_there) []) was
              (omega (arith, heard)) (omega (arith, q))

      dead : peers_live new.config n p ≡ false → told then_world n p ≡ []
      dead e = shape ∙ ap (λ b. told world n p ++ cond (b && is_established new n p) (to_peer topology reflectors world new n p there peer_there) [])
          (ap (λ c. c && nat_le 2 (length (world.heard n p))) (sym live ∙ e)) ∙ append-nil (told world n p) ∙ old.dead (sym live ∙ e)

-- What is sent is of routes over attachments that were made.
use Rattle.std.proofs.Common.{ℕ, zero, suc, ◌≡◌, ◌<◌, inl, inr, Bool, true, false, cond, List, [], ◌∷◌, ◌++◌, map, filter, length, Some, None, Option}
use Rattle.std.proofs.Common.{refl, ◌∙◌, ap, subst}
use Rattle.std.specs.Prelude.{◌==◌, not, if◌then◌else◌, option_map}
use Rattle.std.specs.List.{flat_map}
use Rattle.mn_base.proofs.Bools.{same_numbers, and_left, and_right}
use Rattle.mn_base.proofs.Members.{In, in_append, in_map, in_filter, in_flat_map}
use Rattle.mn_prefix.specs.Prefix.{IsPrefix}
use Rattle.mn_wiring.specs.Wiring.{nodes_of}
use Rattle.mn_topo.specs.Network.{Network, wiring_of}
use Rattle.mn_topo.specs.declared.steps.Step.{Step}
use Rattle.mn_topo.specs.declared.steps.Step.TheVariants as step
use Rattle.mn_ledger.specs.Places.{edge_of}
use Rattle.mn_ledger.specs.World.{Config, Export}
use Rattle.mn_ledger.specs.Exports.{exports_of}
use Rattle.mn_ledger.specs.Tables.{put_pair}
use Rattle.mn_ledger.specs.Ledger.{config_after}
use Rattle.mn_bgp_spelling_laws.specs.Spelling.{Labels}
use Rattle.mn_reflect_ledger_laws.specs.Words.{Key, Offer, Word, Open, KeepAlive, Announce, Withdraw, key_of, same_offer, in_order, change}
use Rattle.mn_reflect_ledger_laws.specs.Picks.{Spoken, ReflectWorld, announced_by, or_else, first_announced, by_address, from_reflectors, from_edge, pick}
use Rattle.mn_reflect_ledger_laws.specs.Picks.{is_reflector, through, to_reflect, plain, own_offer, offered, known_keys}
use Rattle.mn_reflect_ledger_laws.specs.World.{is_from_to, is_between, first_word, without_first, says, heard_one, counted, unsaid, all_offers, reply, replies}
use Rattle.mn_reflect_ledger_laws.specs.World.{is_steady, news_of, news, said_in, after}
use Rattle.mn_reflect_ledger_laws.proofs.Holding.{none_some, find_in}
use Rattle.mn_reflect_ledger_laws.proofs.Mentions.{IsNamed}
use Rattle.mn_reflect_ledger_laws.proofs.Offering.{named_offer}
use Rattle.mn_reflect_ledger_laws.proofs.Through.{put_in, in_says, heard_of, first_of}
use Rattle.mn_reflect_world_laws.proofs.Config.{IsInOrder, IsMade, made_export, still_made}

-- 1. Words of routes over attachments that were made

abbrev pub IsGood : Network → Config → Word → Type 0
IsGood t c (Announce x) = IsMade t c x.export
IsGood t c (Withdraw key) = (key.vrf < length t.vrfs) × IsPrefix key.prefix.address key.prefix.length
IsGood t c Open = Unit {0}
IsGood t c KeepAlive = Unit {0}

pub record AreGood (t : Network) (c : Config) (w : ReflectWorld) : Type 0 where
  pub heard : (n p : ℕ) (word : Word) → In (w.heard n p) word → IsGood t c word
  pub flying : (s : Spoken) → In w.flying s → IsGood t c s.word

still_good : (t : Network) (c : Config) (s : Step) (word : Word) → IsGood t c word → IsGood t (config_after c s) word
still_good t c s (Announce x) h = still_made t c s x.export h
still_good t c s (Withdraw key) h = h
still_good t c s Open h = tt
still_good t c s KeepAlive h = tt

-- 2. What is offered

module _ (t : Network) (reflectors : List ℕ) (c : Config) (w : ReflectWorld) (heard : (n p : ℕ) (word : Word) → In (w.heard n p) word → IsGood t c word)
    (l : Labels) (order : IsInOrder t w.config l) (same : (e : Export) → IsMade t w.config e → IsMade t c e) where
  announced_made : (n p : ℕ) (key : Key) (x : Offer) → announced_by w n p key ≡ Some x → IsMade t c x.export
  announced_made n p key x h = heard n p (Announce x) (heard_of w n p key x h).0

  firsts_made : (n : ℕ) (key : Key) (peers : List ℕ) (x : Offer) → first_announced w n key peers ≡ Some x → IsMade t c x.export
  firsts_made n key peers x h = let f = first_of w n key peers x h in announced_made n f.0 key x f.2

  or_made : (one other : Option Offer) → ((x : Offer) → one ≡ Some x → IsMade t c x.export) → ((x : Offer) → other ≡ Some x → IsMade t c x.export) →
      (x : Offer) → or_else one other ≡ Some x → IsMade t c x.export
  or_made None other f g x h = g x h
  or_made (Some y) other f g x h = f x h

  pub reflected_made : (n : ℕ) (key : Key) (x : Offer) → from_reflectors t reflectors w n key ≡ Some x → IsMade t c x.export
  reflected_made n key x h = firsts_made n key (by_address t (filter (λ other. not (other == n)) reflectors)) x h

  to_made : (n p : ℕ) (key : Key) (x : Offer) → to_reflect t reflectors w n p key ≡ Some x → IsMade t c x.export
  to_made n p key x h = by (is_reflector reflectors p) (edge_of t key.vrf == p) h
    where
      by : (b d : Bool) → (if b then from_edge t w n key else if d then None else pick t reflectors w n key) ≡ Some x → IsMade t c x.export
      by true d e = announced_made n (edge_of t key.vrf) key x e
      by false true e = absurd (none_some e)
      by false false e = or_made (from_edge t w n key) (from_reflectors t reflectors w n key) (announced_made n (edge_of t key.vrf) key)
          (reflected_made n key) x e

  own_made : (n : ℕ) (key : Key) (x : Offer) → own_offer t w.config n key ≡ Some x → IsMade t c x.export
  own_made n key x h =
      let m = in_map plain (exports_of t w.config n) x (find_in key (map plain (exports_of t w.config n)) x h) in
      subst (λ (o : Offer). IsMade t c o.export) m.2 (same m.0 (made_export t w.config l n m.0 order m.1).0)

  passed_made : (n : ℕ) (o : Option Offer) → ((x : Offer) → o ≡ Some x → IsMade t c x.export) → (x : Offer) → option_map (through t n) o ≡ Some x →
      IsMade t c x.export
  passed_made n None f x h = absurd (none_some h)
  passed_made n (Some y) f x h =
      subst (λ (o : Offer). IsMade t c o.export) (ap (λ o. elim o [ None ↦ x | Some z ↦ z ]) h) (f y refl)

  pub offered_made : (n p : ℕ) (key : Key) (x : Offer) → offered t reflectors w n p key ≡ Some x → IsMade t c x.export
  offered_made n p key x h = by (is_reflector reflectors n) h
    where
      by : (b : Bool) → (if b then option_map (through t n) (to_reflect t reflectors w n p key) else own_offer t w.config n key) ≡ Some x → IsMade t c x.export
      by true e = passed_made n (to_reflect t reflectors w n p key) (to_made n p key) x e
      by false e = own_made n key x e

  -- and so is its name
  pub offered_named : (n p : ℕ) (key : Key) (x : Offer) → offered t reflectors w n p key ≡ Some x →
      (key.vrf < length t.vrfs) × IsPrefix key.prefix.address key.prefix.length
  offered_named n p key x h =
      let made = offered_made n p key x h in
      let named : key_of x ≡ key = subst (IsNamed key) h (named_offer t reflectors w n p key) in
      subst (λ (k : Key). (k.vrf < length t.vrfs) × IsPrefix k.prefix.address k.prefix.length) named (made.vrf, made.formed)

-- 3. What is said of a change

change_good : (t : Network) (c : Config) (key : Key) (old new : Option Offer) → ((x : Offer) → old ≡ Some x →
    (key.vrf < length t.vrfs) × IsPrefix key.prefix.address key.prefix.length) → ((x : Offer) → new ≡ Some x → IsMade t c x.export) →
    (word : Word) → In (change key old new) word → IsGood t c word
change_good t c key None None f g word i = absurd i
change_good t c key (Some old) None f g word i = elim i [ inl e ↦ subst (IsGood t c) e (f old refl) | inr j ↦ absurd j ]
change_good t c key None (Some new) f g word i = elim i [ inl e ↦ subst (IsGood t c) e (g new refl) | inr j ↦ absurd j ]
change_good t c key (Some old) (Some new) f g word i = by (same_offer old new) i
  where
    by : (b : Bool) → In (if b then [] else Announce new ∷ []) word → IsGood t c word
    by true j = absurd j
    by false j = elim j [ inl e ↦ subst (IsGood t c) e (g new refl) | inr k ↦ absurd k ]

-- 4. A step

pub first_in : (from to : ℕ) (spokens : List Spoken) (word : Word) → first_word from to spokens ≡ Some word →
    (s : Spoken) × In spokens s × (s.from ≡ from) × (s.to ≡ to) × (s.word ≡ word)
first_in from to [] word h = absurd (none_some h)
first_in from to (s ∷ spokens) word h = by (is_from_to from to s) refl h (first_in from to spokens word)
  where
    by : (b : Bool) → is_from_to from to s ≡ b → cond b (Some s.word) (first_word from to spokens) ≡ Some word →
        (first_word from to spokens ≡ Some word → (x : Spoken) × In spokens x × (x.from ≡ from) × (x.to ≡ to) × (x.word ≡ word)) →
        (x : Spoken) × In (s ∷ spokens) x × (x.from ≡ from) × (x.to ≡ to) × (x.word ≡ word)
    by true e f more = (
      s,
      inl refl,
      same_numbers s.from from (and_left (s.from == from) (s.to == to) e),
      same_numbers s.to to (and_right (s.from == from) (s.to == to) e),
      ap (λ o. elim o [ None ↦ word | Some z ↦ z ]) f,
    )
    by false e f more = let m = more f in (m.0, inr m.1, m.2, m.3, m.4)

in_without : (from to : ℕ) (spokens : List Spoken) (s : Spoken) → In (without_first from to spokens) s → In spokens s
in_without from to [] s i = i
in_without from to (x ∷ spokens) s i = by (is_from_to from to x) i (in_without from to spokens s)
  where
    by : (b : Bool) → In (cond b spokens (x ∷ without_first from to spokens)) s → (In (without_first from to spokens) s → In spokens s) → In (x ∷ spokens) s
    by true j more = inr j
    by false j more = elim j [ inl e ↦ inl e | inr k ↦ inr (more k) ]

cleared_good : (t : Network) (c : Config) (f : ℕ → ℕ → List Word) (a b : ℕ) → ((n p : ℕ) (word : Word) → In (f n p) word → IsGood t c word) →
    (n p : ℕ) (word : Word) → In (put_pair f a b [] n p) word → IsGood t c word
cleared_good t c f a b h n p word i = elim (put_in f a b [] n p word i) [ inl e ↦ absurd e.2 | inr j ↦ h n p word j ]

counted_good : (t : Network) (c : Config) (w : ReflectWorld) (s : Step) → AreGood t c w → AreGood t c (counted w s)
counted_good t c w (step.BgpUp a b) h = record {
  heard = cleared_good t c (put_pair w.heard a.0 b.0 []) b.0 a.0 (cleared_good t c w.heard a.0 b.0 h.heard);
  flying = λ s i. h.flying s (in_filter (λ spoken. not (is_between a.0 b.0 spoken)) w.flying s i).0;
}
counted_good t c w (step.BgpDown a b) h = record {
  heard = cleared_good t c (put_pair w.heard a.0 b.0 []) b.0 a.0 (cleared_good t c w.heard a.0 b.0 h.heard);
  flying = λ s i. h.flying s (in_filter (λ spoken. not (is_between a.0 b.0 spoken)) w.flying s i).0;
}
counted_good t c w (step.HearBgp a b) h = by (first_word a.0 b.0 w.flying) refl
  where
    by : (o : Option Word) → first_word a.0 b.0 w.flying ≡ o → AreGood t c (heard_one w a.0 b.0 o)
    by None e = h
    by (Some word) e = record {
      heard = λ n p v i. elim (put_in w.heard b.0 a.0 (w.heard b.0 a.0 ++ word ∷ []) n p v i) [
        | inl q ↦ elim (in_append (w.heard b.0 a.0) (word ∷ []) v q.2) [
          | inl j ↦ h.heard b.0 a.0 v j
          | inr j ↦ elim j [
            | inl k ↦ (let f = first_in a.0 b.0 w.flying word e in subst (IsGood t c) (f.4 ∙ k) (h.flying f.0 f.1))
            | inr k ↦ absurd k
          ]
        ]
        | inr j ↦ h.heard n p v j
      ];
      flying = λ s i. h.flying s (in_without a.0 b.0 w.flying s i);
    }
counted_good t c w _ h = h

unsaid_good : (t : Network) (c : Config) (w : ReflectWorld) (s : Step) → AreGood t c w → AreGood t (config_after c s) (unsaid w s)
unsaid_good t c w s h =
    let k = counted_good t c w s h in
    record { heard = λ n p word i. still_good t c s word (k.heard n p word i); flying = λ x i. still_good t c s x.word (k.flying x i) }

module _ (t : Network) (reflectors : List ℕ) (w : ReflectWorld) (s : Step) (l m : Labels) (was : IsInOrder t w.config l)
    (is : IsInOrder t (config_after w.config s) m) (good : AreGood t w.config w) where
  abbrev next : ReflectWorld
  next = unsaid w s

  kept : AreGood t next.config next
  kept = unsaid_good t w.config w s good

  said_good : (n p : ℕ) (words : List Word) → ((word : Word) → In words word → IsGood t next.config word) → (x : Spoken) → In (says n p words) x →
      IsGood t next.config x.word
  said_good n p words h x i = h x.word (in_says n p words x i).2

  old_named : (n p : ℕ) (key : Key) (x : Offer) → offered t reflectors w n p key ≡ Some x →
      (key.vrf < length t.vrfs) × IsPrefix key.prefix.address key.prefix.length
  old_named n p key x h = offered_named t reflectors w.config w good.heard l was (λ e k. k) n p key x h

  new_made : (n p : ℕ) (key : Key) (x : Offer) → offered t reflectors next n p key ≡ Some x → IsMade t next.config x.export
  new_made n p key x h = offered_made t reflectors next.config next (kept.heard) m is (λ e k. k) n p key x h

  all_good : (n p : ℕ) (word : Word) → In (all_offers t reflectors next n p) word → IsGood t next.config word
  all_good n p word i =
      let f = in_flat_map (λ key. change key None (offered t reflectors next n p key)) (in_order (known_keys t reflectors next n)) word i in
      change_good t next.config f.0 None (offered t reflectors next n p f.0) (λ x e. absurd (none_some e)) (λ x e. new_made n p f.0 x e) word f.2

  reply_good : (n p count : ℕ) (o : Option Word) (word : Word) → In (reply t reflectors next n p count o) word → IsGood t next.config word
  reply_good n p zero (Some Open) word i = elim i [ inl e ↦ subst (IsGood t next.config) e tt | inr j ↦ absurd j ]
  reply_good n p (suc zero) (Some KeepAlive) word i = all_good n p word i
  reply_good n p zero (Some KeepAlive) word i = absurd i
  reply_good n p zero (Some (Announce x)) word i = absurd i
  reply_good n p zero (Some (Withdraw k)) word i = absurd i
  reply_good n p zero None word i = absurd i
  reply_good n p (suc zero) (Some Open) word i = absurd i
  reply_good n p (suc zero) (Some (Announce x)) word i = absurd i
  reply_good n p (suc zero) (Some (Withdraw k)) word i = absurd i
  reply_good n p (suc zero) None word i = absurd i
  reply_good n p (suc (suc count)) (Some Open) word i = absurd i
  reply_good n p (suc (suc count)) (Some KeepAlive) word i = absurd i
  reply_good n p (suc (suc count)) (Some (Announce x)) word i = absurd i
  reply_good n p (suc (suc count)) (Some (Withdraw k)) word i = absurd i
  reply_good n p (suc (suc count)) None word i = absurd i

  open_good : (word : Word) → In (Open ∷ []) word → IsGood t next.config word
  open_good word i = elim i [ inl e ↦ subst (IsGood t next.config) e tt | inr j ↦ absurd j ]

  news_good : (n : ℕ) (x : Spoken) → In (news t reflectors w next n) x → IsGood t next.config x.word
  news_good n x i =
      let f = in_flat_map (λ key. flat_map (news_of t reflectors w next n key) (nodes_of (wiring_of t)))
      (in_order (known_keys t reflectors w n ++ known_keys t reflectors next n)) x i in
      let g = in_flat_map (news_of t reflectors w next n f.0) (nodes_of (wiring_of t)) x f.2 in
      by f.0 g.0 (is_steady w next n g.0) g.2
    where
      by : (key : Key) (p : ℕ) (b : Bool) →
          In (cond b (says n p (change key (offered t reflectors w n p key) (offered t reflectors next n p key))) []) x → IsGood t next.config x.word
      by key p true j = said_good n p (change key (offered t reflectors w n p key) (offered t reflectors next n p key))
          (λ word k. change_good t next.config key (offered t reflectors w n p key) (offered t reflectors next n p key) (λ y e. old_named n p key y e)
          (λ y e. new_made n p key y e) word k) x j
      by key p false j = absurd j

  pub goes_good : ((x : Spoken) → In (replies t reflectors w next s) x → IsGood t next.config x.word) → AreGood t next.config (after t reflectors w s)
  goes_good answers = record {
    heard = kept.heard;
    flying = λ x i. elim (in_append next.flying (said_in t reflectors w next s) x i) [
      | inl j ↦ kept.flying x j
      | inr j ↦ elim (in_append (replies t reflectors w next s) (flat_map (news t reflectors w next) (nodes_of (wiring_of t))) x j) [
        | inl k ↦ answers x k
        | inr k ↦ (let f = in_flat_map (news t reflectors w next) (nodes_of (wiring_of t)) x k in news_good f.0 x f.2)
      ]
    ];
  }

pub good_goes : (t : Network) (reflectors : List ℕ) (w : ReflectWorld) (s : Step) (l m : Labels) → IsInOrder t w.config l →
    IsInOrder t (config_after w.config s) m → AreGood t w.config w → AreGood t (config_after w.config s) (after t reflectors w s)
good_goes t reflectors w (step.BgpUp a b) l m was is good = goes_good t reflectors w (step.BgpUp a b) l m was is good
    (λ x i. elim (in_append (says a.0 b.0 (Open ∷ [])) (says b.0 a.0 (Open ∷ [])) x i) [
      | inl j ↦ said_good t reflectors w (step.BgpUp a b) l m was is good a.0 b.0 (Open ∷ []) (open_good t reflectors w (step.BgpUp a b) l m was is good) x j
      | inr j ↦ said_good t reflectors w (step.BgpUp a b) l m was is good b.0 a.0 (Open ∷ []) (open_good t reflectors w (step.BgpUp a b) l m was is good) x j
    ])
good_goes t reflectors w (step.HearBgp a b) l m was is good = goes_good t reflectors w (step.HearBgp a b) l m was is good
    (λ x i. said_good t reflectors w (step.HearBgp a b) l m was is good b.0 a.0
    (reply t reflectors (unsaid w (step.HearBgp a b)) b.0 a.0 (length (w.heard b.0 a.0)) (first_word a.0 b.0 w.flying))
    (reply_good t reflectors w (step.HearBgp a b) l m was is good b.0 a.0 (length (w.heard b.0 a.0)) (first_word a.0 b.0 w.flying)) x i)
good_goes t reflectors w s l m was is good = goes_good t reflectors w s l m was is good (λ x i. absurd i)

-- As time goes on a packet whose frame is overdue falls, and every other one is as before.
use Rattle.std.proofs.Common.{ℕ, suc, ◌≡◌, ◌≢◌, ◌+◌, ◌<◌, inl, inr, Bool, true, false, List, [], ◌∷◌, ◌++◌, length, refl, arith, sym, ◌∙◌, ap, subst}
use Rattle.std.specs.Prelude.{◌==◌, Option, Some, None, slice_get, slice_set, slice_index_or}
use Rattle.std.proofs.lemmas.Grind.{common_steps}
use Rattle.std.proofs.lemmas.Bool.Decides.{eqb_tells}
use Rattle.std.proofs.lemmas.List.{append_assoc, length-append}
use Rattle.mn_base.proofs.Bools.{clash}
use Rattle.mn_base.proofs.Members.{range_in, in_range}
use Rattle.mn_drops.specs.declared.drops.Rule.TheVariants as rule
use Rattle.mn_wiring.specs.declared.links.Dir.{Dir}
use Rattle.mn_wiring.specs.declared.links.Dir.TheVariants.{Forth, Back}
use Rattle.mn_wiring.specs.Wiring.{links_of, sender}
use Rattle.mn_topo.specs.Network.{Network, wiring_of}
use Rattle.mn_topo.specs.declared.steps.Step.TheVariants.{Tick}
use Rattle.mn_ledger.specs.declared.verdict.Verdict.{Verdict}
use Rattle.mn_ledger.specs.declared.verdict.Verdict.TheVariants.{Dropped}
use Rattle.mn_ledger.specs.Tables.{put}
use Rattle.mn_ledger.specs.Packets.{Token, Packets, channel, flying_on, drop_at, taken, fall, without_place}
use Rattle.mn_ledger.specs.Time.{is_overdue, expire_from, expire_on, expire_over, expire, timed_by}
use Rattle.mn_ledger.specs.Verdicts.{verdict_on}
use Rattle.mn_ledger.proofs.Expiring.{off}
use Rattle.mn_ledger.proofs.GoingBy.{put_here}
use Rattle.mn_ledger.proofs.Members.{In}
use Rattle.mn_ledger_laws.specs.Accounts.{path_of}
use Rattle.mn_ledger_laws.proofs.Elsewhere.{Same, same_on, unchanged, judged_here, judged_off, taken_same, arms_by}

-- 1. One frame that ends

get_mid : (xs : List Token) (k : Token) (ys : List Token) → slice_get (xs ++ k ∷ ys) (length xs) ≡ Some k
get_mid [] k ys = refl
get_mid (x ∷ xs) k ys = get_mid xs k ys

without_mid : (xs : List Token) (k : Token) (ys : List Token) → without_place (length xs) (xs ++ k ∷ ys) ≡ xs ++ ys
without_mid [] k ys = refl
without_mid (x ∷ xs) k ys = ap (λ zs. x ∷ zs) (without_mid xs k ys)

module _ (t : Network) (clock l : ℕ) (d : Dir) where
  -- the packets once the frame at this place has ended
  abbrev pub ended : Packets → ℕ → Packets
  ended w n = fall rule.Overdue (taken w l d n) (sender (wiring_of t) l d) (slice_get (flying_on w l d) n)

  -- the frame at a place is the first of those that are still to be looked at
  abbrev IsNext : Packets → ℕ → List Token → List Token → Type 0
  IsNext w n xs ks = (n ≡ length xs) × (flying_on w l d ≡ xs ++ ks)

  ended_is : (w : Packets) (n : ℕ) (xs ks : List Token) (k : Token) → IsNext w n xs (k ∷ ks)
      → ended w n ≡ drop_at (taken w l d n) k.packet rule.Overdue (sender (wiring_of t) l d)
  ended_is w n xs ks k h =
      ap (fall rule.Overdue (taken w l d n) (sender (wiring_of t) l d))
      (ap (λ ys. slice_get ys n) h.1 ∙ ap (slice_get (xs ++ k ∷ ks)) h.0 ∙ get_mid xs k ks)

  next_ended : (w : Packets) (n : ℕ) (xs ks : List Token) (k : Token) → IsNext w n xs (k ∷ ks) → IsNext (ended w n) n xs ks
  next_ended w n xs ks k h = (
    h.0,
    ap (λ (q : Packets). flying_on q l d) (ended_is w n xs ks k h) ∙ put_here w.flying (channel l d) (without_place n (flying_on w l d))
        ∙ ap (without_place n) h.1 ∙ ap (λ m. without_place m (xs ++ k ∷ ks)) h.0 ∙ without_mid xs k ks,
  )

  next_young : (w : Packets) (n : ℕ) (xs ks : List Token) (k : Token) → IsNext w n xs (k ∷ ks) → IsNext w (n + 1) (xs ++ k ∷ []) ks
  next_young w n xs ks k h = (omega (arith, h.0, length-append xs (k ∷ [])), h.1 ∙ sym (append_assoc xs (k ∷ []) ks))

  ended_off : (w : Packets) (n j : ℕ) (xs ks : List Token) (k : Token) → IsNext w n xs (k ∷ ks) → j ≢ k.packet → Same j w (ended w n)
  ended_off w n j xs ks k h apart =
      subst (Same j w) (sym (ended_is w n xs ks k h))
      (same_on j w (taken w l d n) _ (taken_same w l d n j)
      (judged_off (taken w l d n) k.packet (Dropped rule.Overdue (record { 0 = sender (wiring_of t) l d })) j apart))

  -- 2. The frames of a direction, from one on

  pub from_off : (ks xs : List Token) (n j : ℕ) (w : Packets) → IsNext w n xs ks
      → ((k : Token) → In ks k → k.packet ≡ j → is_overdue t clock l k ≡ false) → Same j w (expire_from t clock l d n ks w)
  from_off [] xs n j w h young = unchanged j w
  from_off (k ∷ ks) xs n j w h young =
      arms_by (λ q. Same j w q) (is_overdue t clock l k) _ _
      (λ e. same_on j w (ended w n) _ (ended_off w n j xs ks k h (λ same. clash (sym e ∙ young k (inl refl) (sym same))))
      (from_off ks xs n j (ended w n) (next_ended w n xs ks k h) (λ x i. young x (inr i))))
      (λ e. from_off ks (xs ++ k ∷ []) (n + 1) j w (next_young w n xs ks k h) (λ x i. young x (inr i)))

  -- no frame is new
  pub from_less : (ks xs : List Token) (n : ℕ) (w : Packets) → IsNext w n xs ks → (c : ℕ) (x : Token) → In ((expire_from t clock l d n ks w).flying c) x
      → In (w.flying c) x
  from_less [] xs n w h c x i = i
  from_less (k ∷ ks) xs n w h c x i =
      arms_by (λ (q : Packets). In (q.flying c) x → In (w.flying c) x) (is_overdue t clock l k) _ _
      (λ e j. (taken_same w l d n x.packet).frames c x
      (subst (λ (q : Packets). In (q.flying c) x) (ended_is w n xs ks k h) (from_less ks xs n (ended w n) (next_ended w n xs ks k h) c x j)) refl)
      (λ e j. from_less ks (xs ++ k ∷ []) (n + 1) w (next_young w n xs ks k h) c x j) i

  -- no path changes, and no packet is new
  pub record IsAsLong (w q : Packets) : Type 0 where
    pub paths : q.paths ≡ w.paths
    pub verdicts : length q.verdicts ≡ length w.verdicts
    pub copies : q.copies ≡ w.copies
    pub delivered : q.delivered ≡ w.delivered

  set_length : {A : Type 0} (xs : List A) (i : ℕ) (v : A) → length (slice_set xs i v) ≡ length xs
  set_length xs i v = grind (arith, common_steps)

  ended_long : (w : Packets) (n : ℕ) (o : Option Token) → IsAsLong w (fall rule.Overdue (taken w l d n) (sender (wiring_of t) l d) o)
  ended_long w n None = record { paths = refl; verdicts = refl; copies = refl; delivered = refl }
  ended_long w n (Some k) = record {
    paths = refl;
    verdicts = set_length w.verdicts k.packet (Dropped rule.Overdue (record { 0 = sender (wiring_of t) l d }));
    copies = refl;
    delivered = refl;
  }

  pub from_long : (ks : List Token) (n : ℕ) (w : Packets) → IsAsLong w (expire_from t clock l d n ks w)
  from_long [] n w = record { paths = refl; verdicts = refl; copies = refl; delivered = refl }
  from_long (k ∷ ks) n w =
      arms_by (λ q. IsAsLong w q) (is_overdue t clock l k) _ _
      (λ e. let one = ended_long w n (slice_get (flying_on w l d) n) in let rest = from_long ks n (ended w n) in record {
        paths = rest.paths ∙ one.paths;
        verdicts = rest.verdicts ∙ one.verdicts;
        copies = rest.copies ∙ one.copies;
        delivered = rest.delivered ∙ one.delivered;
      })
      (λ e. from_long ks (n + 1) w)

  abbrev Fallen : ℕ → ℕ → Packets → Type 0
  Fallen j node w = (j < length w.verdicts) × (verdict_on w j ≡ Dropped rule.Overdue (record { 0 = node }))

  ended_kept : (w : Packets) (n j node : ℕ) (xs ks : List Token) (k : Token) → IsNext w n xs (k ∷ ks) → (k.packet ≡ j → sender (wiring_of t) l d ≡ node)
      → Fallen j node w → Fallen j node (ended w n)
  ended_kept w n j node xs ks k h by f = (
    subst (λ m. j < m) (sym (ended_long w n (slice_get (flying_on w l d) n)).verdicts) f.0,
    ap (λ q. verdict_on q j) (ended_is w n xs ks k h) ∙ elim (eqb_tells j k.packet) [
      | inl q ↦ ap (verdict_on (drop_at (taken w l d n) k.packet rule.Overdue (sender (wiring_of t) l d))) q.1
          ∙ judged_here (taken w l d n) k.packet (Dropped rule.Overdue (record { 0 = sender (wiring_of t) l d }))
          (subst (λ m. m < length w.verdicts) q.1 f.0)
          ∙ ap (λ m. Dropped rule.Overdue (record { 0 = m })) (by (sym q.1))
      | inr q ↦ (judged_off (taken w l d n) k.packet (Dropped rule.Overdue (record { 0 = sender (wiring_of t) l d })) j q.1).verdict ∙ f.1
    ],
  )

  ended_here : (w : Packets) (n : ℕ) (xs ks : List Token) (k : Token) → IsNext w n xs (k ∷ ks) → k.packet < length w.verdicts
      → Fallen k.packet (sender (wiring_of t) l d) (ended w n)
  ended_here w n xs ks k h below = (
    subst (λ m. k.packet < m) (sym (ended_long w n (slice_get (flying_on w l d) n)).verdicts) below,
    ap (λ q. verdict_on q k.packet) (ended_is w n xs ks k h)
        ∙ judged_here (taken w l d n) k.packet (Dropped rule.Overdue (record { 0 = sender (wiring_of t) l d })) below,
  )

  pub from_kept : (ks xs : List Token) (n j node : ℕ) (w : Packets) → IsNext w n xs ks
      → ((k : Token) → In ks k → k.packet ≡ j → sender (wiring_of t) l d ≡ node) → Fallen j node w → Fallen j node (expire_from t clock l d n ks w)
  from_kept [] xs n j node w h by f = f
  from_kept (k ∷ ks) xs n j node w h by f =
      arms_by (λ q. Fallen j node q) (is_overdue t clock l k) _ _
      (λ e. from_kept ks xs n j node (ended w n) (next_ended w n xs ks k h) (λ x i. by x (inr i)) (ended_kept w n j node xs ks k h (by k (inl refl)) f))
      (λ e. from_kept ks (xs ++ k ∷ []) (n + 1) j node w (next_young w n xs ks k h) (λ x i. by x (inr i)) f)

  -- a frame that is overdue ends
  pub from_here : (ks xs : List Token) (n : ℕ) (w : Packets) (x : Token) → IsNext w n xs ks → In ks x → is_overdue t clock l x ≡ true
      → x.packet < length w.verdicts → Fallen x.packet (sender (wiring_of t) l d) (expire_from t clock l d n ks w)
  from_here [] xs n w x h i late below = absurd i
  from_here (k ∷ ks) xs n w x h i late below = elim i [
    | inl same ↦
        arms_by (λ q. Fallen x.packet (sender (wiring_of t) l d) q) (is_overdue t clock l k) _ _
        (λ e. from_kept ks xs n x.packet (sender (wiring_of t) l d) (ended w n) (next_ended w n xs ks k h) (λ y j s. refl)
        (subst (λ (y : Token). Fallen y.packet (sender (wiring_of t) l d) (ended w n)) same
        (ended_here w n xs ks k h (subst (λ (y : Token). y.packet < length w.verdicts) (sym same) below))))
        (λ e. absurd (clash (sym late ∙ ap (is_overdue t clock l) (sym same) ∙ e)))
    | inr m ↦
        arms_by (λ q. Fallen x.packet (sender (wiring_of t) l d) q) (is_overdue t clock l k) _ _
        (λ e. from_here ks xs n (ended w n) x (next_ended w n xs ks k h) m late
        (subst (λ c. x.packet < c) (sym (ended_long w n (slice_get (flying_on w l d) n)).verdicts) below))
        (λ e. from_here ks (xs ++ k ∷ []) (n + 1) w x (next_young w n xs ks k h) m late below)
  ]

-- 3. All links

-- the packets are as before but for the frames that ended
pub record IsOlder (w q : Packets) : Type 0 where
  pub less : (c : ℕ) (x : Token) → In (q.flying c) x → In (w.flying c) x
  pub paths : q.paths ≡ w.paths
  pub verdicts : length q.verdicts ≡ length w.verdicts
  pub copies : q.copies ≡ w.copies
  pub delivered : q.delivered ≡ w.delivered

older : (u w q : Packets) → IsOlder u w → IsOlder w q → IsOlder u q
older u w q f g = record {
  less = λ c x i. f.less c x (g.less c x i);
  paths = g.paths ∙ f.paths;
  verdicts = g.verdicts ∙ f.verdicts;
  copies = g.copies ∙ f.copies;
  delivered = g.delivered ∙ f.delivered;
}

module _ (t : Network) (clock : ℕ) where
  on_older : (l : ℕ) (d : Dir) (w : Packets) → IsOlder w (expire_on t clock l d w)
  on_older l d w = let long = from_long t clock l d (flying_on w l d) 0 w in record {
    less = λ c x i. from_less t clock l d (flying_on w l d) [] 0 w (refl, refl) c x i;
    paths = long.paths;
    verdicts = long.verdicts;
    copies = long.copies;
    delivered = long.delivered;
  }

  abbrev both : ℕ → Packets → Packets
  both l w = expire_on t clock l Back (expire_on t clock l Forth w)

  both_older : (l : ℕ) (w : Packets) → IsOlder w (both l w)
  both_older l w = older w (expire_on t clock l Forth w) (both l w) (on_older l Forth w) (on_older l Back (expire_on t clock l Forth w))

  over_older : (ls : List ℕ) (w : Packets) → IsOlder w (expire_over t clock ls w)
  over_older [] w = record { less = λ c x i. i; paths = refl; verdicts = refl; copies = refl; delivered = refl }
  over_older (l ∷ ls) w = older w (both l w) _ (both_older l w) (over_older ls (both l w))

  -- no frame of the packet on a link of the network is overdue
  abbrev pub IsYoung : ℕ → Packets → Type 0
  IsYoung j w = (l : ℕ) (d : Dir) (k : Token) → l < length t.links → In (flying_on w l d) k → k.packet ≡ j → is_overdue t clock l k ≡ false

  on_off : (l : ℕ) (d : Dir) (j : ℕ) (w : Packets) → l < length t.links → IsYoung j w → Same j w (expire_on t clock l d w)
  on_off l d j w there young = from_off t clock l d (flying_on w l d) [] 0 j w (refl, refl) (λ k i e. young l d k there i e)

  young_on : (j : ℕ) (w q : Packets) → IsOlder w q → IsYoung j w → IsYoung j q
  young_on j w q o young l d k there i e = young l d k there (o.less (channel l d) k i) e

  both_off : (l j : ℕ) (w : Packets) → l < length t.links → IsYoung j w → Same j w (both l w)
  both_off l j w there young =
      same_on j w (expire_on t clock l Forth w) _ (on_off l Forth j w there young)
      (on_off l Back j (expire_on t clock l Forth w) there (young_on j w (expire_on t clock l Forth w) (on_older l Forth w) young))

  over_off : (ls : List ℕ) (j : ℕ) (w : Packets) → ((l : ℕ) → In ls l → l < length t.links) → IsYoung j w → Same j w (expire_over t clock ls w)
  over_off [] j w there young = unchanged j w
  over_off (l ∷ ls) j w there young =
      same_on j w (both l w) _ (both_off l j w (there l (inl refl)) young)
      (over_off ls j (both l w) (λ m i. there m (inr i)) (young_on j w (both l w) (both_older l w) young))

  -- each frame of the packet is one that this node sent
  abbrev IsSentBy : ℕ → ℕ → Packets → Type 0
  IsSentBy j node w = (l : ℕ) (d : Dir) (k : Token) → In (flying_on w l d) k → k.packet ≡ j → sender (wiring_of t) l d ≡ node

  sent_on : (j node : ℕ) (w q : Packets) → IsOlder w q → IsSentBy j node w → IsSentBy j node q
  sent_on j node w q o by l d k i e = by l d k (o.less (channel l d) k i) e

  abbrev HasEnded : ℕ → ℕ → Packets → Type 0
  HasEnded j node w = (j < length w.verdicts) × (verdict_on w j ≡ Dropped rule.Overdue (record { 0 = node }))

  on_kept : (l : ℕ) (d : Dir) (j node : ℕ) (w : Packets) → IsSentBy j node w → HasEnded j node w → HasEnded j node (expire_on t clock l d w)
  on_kept l d j node w by f = from_kept t clock l d (flying_on w l d) [] 0 j node w (refl, refl) (λ k i e. by l d k i e) f

  both_kept : (l j node : ℕ) (w : Packets) → IsSentBy j node w → HasEnded j node w → HasEnded j node (both l w)
  both_kept l j node w by f =
      on_kept l Back j node (expire_on t clock l Forth w) (sent_on j node w (expire_on t clock l Forth w) (on_older l Forth w) by)
      (on_kept l Forth j node w by f)

  over_kept : (ls : List ℕ) (j node : ℕ) (w : Packets) → IsSentBy j node w → HasEnded j node w → HasEnded j node (expire_over t clock ls w)
  over_kept [] j node w by f = f
  over_kept (l ∷ ls) j node w by f = over_kept ls j node (both l w) (sent_on j node w (both l w) (both_older l w) by) (both_kept l j node w by f)

  -- a frame that is overdue, among the others of its packet
  record IsLate (l : ℕ) (d : Dir) (x : Token) (w : Packets) : Type 0 where
    flies : In (flying_on w l d) x
    late : is_overdue t clock l x ≡ true
    below : x.packet < length w.verdicts
    by : IsSentBy x.packet (sender (wiring_of t) l d) w

  apart : (l m : ℕ) (d b : Dir) → (m ≡ l → b ≡ d → ⊥) → channel l d ≢ channel m b
  apart l m Forth Forth h q = h (omega (arith, q)) refl
  apart l m Forth Back h q = absurd (omega (arith, q))
  apart l m Back Forth h q = absurd (omega (arith, q))
  apart l m Back Back h q = h (omega (arith, q)) refl

  on_here : (l : ℕ) (d : Dir) (x : Token) (w : Packets) → IsLate l d x w → HasEnded x.packet (sender (wiring_of t) l d) (expire_on t clock l d w)
  on_here l d x w f = from_here t clock l d (flying_on w l d) [] 0 w x (refl, refl) f.flies f.late f.below

  -- another direction leaves it there
  on_other : (l m : ℕ) (d b : Dir) (x : Token) (w : Packets) → (m ≡ l → b ≡ d → ⊥) → IsLate l d x w → IsLate l d x (expire_on t clock m b w)
  on_other l m d b x w h f = record {
    flies = subst (λ ks. In ks x) (sym (off t clock m b (flying_on w m b) 0 (channel l d) w (apart l m d b h))) f.flies;
    late = f.late;
    below = subst (λ c. x.packet < c) (sym (on_older m b w).verdicts) f.below;
    by = sent_on x.packet (sender (wiring_of t) l d) w (expire_on t clock m b w) (on_older m b w) f.by;
  }

  both_here : (l : ℕ) (d : Dir) (x : Token) (w : Packets) → IsLate l d x w → HasEnded x.packet (sender (wiring_of t) l d) (both l w)
  both_here l Forth x w f =
      on_kept l Back x.packet (sender (wiring_of t) l Forth) (expire_on t clock l Forth w)
      (sent_on x.packet (sender (wiring_of t) l Forth) w (expire_on t clock l Forth w) (on_older l Forth w) f.by) (on_here l Forth x w f)
  both_here l Back x w f = on_here l Back x (expire_on t clock l Forth w) (on_other l l Back Forth x w (λ p q. forth_back q) f)
    where
      forth_back : Forth ≡ Back → ⊥
      forth_back q = cc

  both_other : (l m : ℕ) (d : Dir) (x : Token) (w : Packets) → m ≢ l → IsLate l d x w → IsLate l d x (both m w)
  both_other l m d x w h f = on_other l m d Back x (expire_on t clock m Forth w) (λ p q. h p) (on_other l m d Forth x w (λ p q. h p) f)

  over_here : (ls : List ℕ) (l : ℕ) (d : Dir) (x : Token) (w : Packets) → In ls l → IsLate l d x w
      → HasEnded x.packet (sender (wiring_of t) l d) (expire_over t clock ls w)
  over_here [] l d x w i f = absurd i
  over_here (m ∷ ls) l d x w i f = elim (eqb_tells m l) [
    | inl q ↦ over_kept ls x.packet (sender (wiring_of t) l d) (both m w)
        (sent_on x.packet (sender (wiring_of t) l d) w (both m w) (both_older m w) f.by)
        (subst (λ k. HasEnded x.packet (sender (wiring_of t) l d) (both k w)) (sym q.1) (both_here l d x w f))
    | inr q ↦ over_here ls l d x (both m w) (later q.1 i) (both_other l m d x w q.1 f)
  ]
    where
      later : m ≢ l → In (m ∷ ls) l → In ls l
      later h i = elim i [ inl e ↦ absurd (h e) | inr j ↦ j ]

-- 4. A Tick

abbrev pub later : Packets → ℕ → Packets
later w clock = record w { clock = clock }

-- a packet none of whose frames is overdue is as before
pub timed_off : (t : Network) (clock ticks j : ℕ) (w : Packets) → IsYoung t clock j w → Same j w (timed_by t clock (Tick ticks) w)
timed_off t clock ticks j w young =
    same_on j w (later w clock) _ (record { verdict = refl; path = refl; frames = λ c k i e. i })
    (over_off t clock (links_of (wiring_of t)) j (later w clock) (λ l i. below (in_range 0 (length t.links) l i).1) young)
  where
    below : {l : ℕ} → l < 0 + length t.links → l < length t.links
    below h = omega (arith, h)

pub timed_older : (t : Network) (clock ticks : ℕ) (w : Packets) → IsOlder w (timed_by t clock (Tick ticks) w)
timed_older t clock ticks w =
    older w (later w clock) _ (record { less = λ c x i. i; paths = refl; verdicts = refl; copies = refl; delivered = refl })
    (over_older t clock (links_of (wiring_of t)) (later w clock))

-- and one whose frame is overdue ends at the node that sent it
pub timed_here : (t : Network) (clock ticks l : ℕ) (d : Dir) (x : Token) (w : Packets) → l < length t.links → In (flying_on w l d) x
    → is_overdue t clock l x ≡ true → x.packet < length w.verdicts
    → ((m : ℕ) (b : Dir) (k : Token) → In (flying_on w m b) k → k.packet ≡ x.packet → sender (wiring_of t) m b ≡ sender (wiring_of t) l d)
    → verdict_on (timed_by t clock (Tick ticks) w) x.packet ≡ Dropped rule.Overdue (record { 0 = sender (wiring_of t) l d })
timed_here t clock ticks l d x w there flies late below by =
    (over_here t clock (links_of (wiring_of t)) l d x (later w clock) (range_in 0 (length t.links) l (omega arith) (omega (arith, there)))
    (record { flies = flies; late = late; below = below; by = by })).1

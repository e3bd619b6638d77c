-- A FEC comes to rest at a node only in a step that ends its offer, brings a Release of it, or ends a session of the node.
use Rattle.std.proofs.Common.{ℕ, zero, suc, ◌≡◌, ◌≢◌, ◌+◌, ◌<◌, ◌≤◌, ◌⊎◌, inl, inr, Bool, true, false, cond, List, [], ◌∷◌, ◌++◌, length, refl, arith, sym, ◌∙◌}
use Rattle.std.proofs.Common.{ap, subst}
use Rattle.std.specs.Prelude.{◌==◌, ◌&&◌, ◌||◌, not, take, nat_le, slice_index_or}
use Rattle.std.specs.List.{flat_map, list_all}
use Rattle.std.proofs.lemmas.Bool.Decides.{eqb_tells, leb_tells}
use Rattle.std.proofs.lemmas.List.{take-append-le}
use Rattle.std.proofs.lemmas.List.Filters.{length-filter_more}
use Rattle.mn_base.proofs.Bools.{clash, no, two_ways, and_left, and_right, or_true, same_test}
use Rattle.mn_base.proofs.Members.{In, in_filter, in_range}
use Rattle.mn_wiring.specs.Wiring.{is_end, across, sender, receiver, links_at, links_of, EndsDiffer}
use Rattle.mn_topo.specs.Network.{Network, wiring_of}
use Rattle.mn_topo.specs.declared.steps.Step.{Step}
use Rattle.mn_topo.specs.declared.steps.Step.TheVariants.{LinkUp, LinkDown, Learn, LdpAdmin, HearLdp}
use Rattle.mn_ledger.specs.Tables.{put, put_pair}
use Rattle.mn_ledger.specs.World.{World, Config, Views, Sessions, Message, Address}
use Rattle.mn_ledger.specs.Transport.{Said, lives, knowledge_of, messages_of, ldp_replies, news, speakers, ldp_counted, with_said, is_active}
use Rattle.mn_ledger.specs.Transport.{sessions_after, views_after}
use Rattle.mn_ledger.specs.Packets.{Packets}
use Rattle.mn_ledger.specs.Ledger.{config_after, after}
use Rattle.mn_ledger.specs.Refusal.{is_empty, is_unchanged, agree}
use Rattle.mn_ledger.specs.Turns.{IsTalk, EndsAreInTurn}
use Rattle.mn_ledger.proofs.Mentions.{operational-is}
use Rattle.mn_ledger.proofs.Turning.{dir_ends}
use Rattle.mn_ledger.proofs.GoingBy.{LinkIsThere, put_here, pair_here, pair_off, or_both, above}
use Rattle.mn_ledger.proofs.OneKind.{one_passes}
use Rattle.mn_settled_laws.specs.Offers.{is_operational_on, offers_in}
use Rattle.mn_reuse_laws.specs.Answers.{count_by, is_withdraw, is_release, withdraws, releases}
use Rattle.mn_reuse_laws.specs.Resting.{is_released, is_at_rest, ends_offer, brings_release, ends_session, lays_to_rest}
use Rattle.mn_reuse_laws.proofs.Counting.{count_append}
use Rattle.mn_reuse_laws.proofs.Answering.{Released, anew, anew_off}
use Rattle.mn_reuse_laws.proofs.Blocking.{counted, resting, link_at}

-- 1. A Release is owed on a link

some_fails : {A : Type 0} (q : A → Bool) (xs : List A) → list_all q xs ≡ false → (x : A) × In xs x × (q x ≡ false)
some_fails q [] h = cc
some_fails {A = A} q (x ∷ xs) h = split (q x) refl (some_fails q xs) h
  where
    split : (b : Bool) → q x ≡ b → (list_all q xs ≡ false → (y : A) × In xs y × (q y ≡ false)) → (b && list_all q xs) ≡ false
        → (y : A) × In (x ∷ xs) y × (q y ≡ false)
    split true e more g = let rest = more g in (rest.0, inr rest.1, rest.2)
    split false e more g = (x, inl refl, e)

abbrev owes : Network → World → ℕ → ℕ → ℕ → Type 0
owes t w l m p = releases t w l m p < withdraws w l m p

owed : (t : Network) (w : World) (m p : ℕ) → EndsDiffer (wiring_of t) → Released t w.sessions → is_at_rest t w m p ≡ false → offers_in t w m p ≡ false
    → (l : ℕ) × (l < length t.links) × (is_end (wiring_of t) l m ≡ true) × owes t w l m p
owed t w m p differ released h off =
    let fails = some_fails (is_released t w m p) (links_at (wiring_of t) m)
    (sym (ap (λ b. not b && list_all (is_released t w m p) (links_at (wiring_of t) m)) off) ∙ h) in
    let there = in_filter (λ k. is_end (wiring_of t) k m) (links_of (wiring_of t)) fails.0 fails.1 in
    let below : fails.0 < length t.links = omega (arith, (in_range 0 (length t.links) fails.0 there.0).1) in
    (fails.0, below, there.1, less _ _ _ _ (counted t w fails.0 m p below differ there.1 released) fails.2)
  where
    less : (a b c d : ℕ) → a ≡ b + (c + d) → (a == d) ≡ false → d < a
    less a b c d e f = elim (eqb_tells a d) [ inl x ↦ absurd (no (sym f ∙ x.0)) | inr x ↦ grind (arith, e, x.1) ]

-- who owes one lives, and is OPERATIONAL
talk_none : (a : Bool) (h p : ℕ) (ms : List Message) → h < 2 → IsTalk a h ms → count_by (is_withdraw p) ms ≡ 0
talk_none true zero p ms few t = ap (count_by (is_withdraw p)) t
talk_none false zero p ms few t = ap (count_by (is_withdraw p)) t
talk_none a (suc zero) p ms few t = ap (count_by (is_withdraw p)) t
talk_none a (suc (suc n)) p ms few t = absurd (beyond few)
  where
    beyond : suc (suc n) < 2 → ⊥
    beyond f = omega (arith, f)

speaking : (t : Network) (w : World) (l m p : ℕ) → l < length t.links → is_end (wiring_of t) l m ≡ true → EndsAreInTurn t w.config w.sessions → owes t w l m p
    → (lives w.config l ≡ true) × (is_operational_on t w m l ≡ true)
speaking t w l m p below e g less = elim (two_ways (lives w.config l)) [
  | inr dead ↦ absurd (none (ap (count_by (is_withdraw p)) ((g l m below e).silent dead).0) less)
  | inl on ↦ elim (leb_tells 2 (w.sessions.heard l m)) [
    | inr few ↦ absurd (none (talk_none (is_active t l m) (w.sessions.heard l m) p (w.sessions.said l m) few.1 ((g l m below e).talk on)) less)
    | inl many ↦ (
      on,
      operational-is (wiring_of t) w.config w.views w.sessions m l below ∙ ap (λ b. (b && is_end (wiring_of t) l m) && nat_le 2 (w.sessions.heard l m)) on
          ∙ ap (λ b. b && nat_le 2 (w.sessions.heard l m)) e ∙ many.0,
    )
  ]
]
  where
    none : count_by (is_withdraw p) (w.sessions.said l m) ≡ 0 → releases t w l m p < withdraws w l m p → ⊥
    none z f = omega (arith, z, f)

-- 2. A step in which the session lives on

module _ (t : Network) (c new : Config) (v nv : Views) (s k : Sessions) (step : Step) (l m p : ℕ) where
  abbrev all_said : List Said
  all_said = ldp_replies t new s step
      ++ flat_map (λ n. news (wiring_of t) (knowledge_of (wiring_of t) c v s n) (knowledge_of (wiring_of t) new nv k n) n) (speakers (wiring_of t) step)

  grown : k.said l m ≡ s.said l m → count_by (is_withdraw p) (s.said l m) ≤ count_by (is_withdraw p) ((with_said k all_said).said l m)
  grown e = omega (arith, ap (count_by (is_withdraw p)) e, count_append (is_withdraw p) (k.said l m) (messages_of l m all_said))

  stayed : k.said l (across (wiring_of t) l m) ≡ s.said l (across (wiring_of t) l m) → k.heard l m ≡ s.heard l m →
      s.heard l m ≤ length (s.said l (across (wiring_of t) l m)) →
      count_by (is_release p) (take (k.heard l m) ((with_said k all_said).said l (across (wiring_of t) l m)))
      ≡ count_by (is_release p) (take (s.heard l m) (s.said l (across (wiring_of t) l m)))
  stayed e h far =
      ap (λ n. count_by (is_release p) (take n (k.said l (across (wiring_of t) l m) ++ messages_of l (across (wiring_of t) l m) all_said))) h
      ∙ ap (λ ms. count_by (is_release p) (take (s.heard l m) (ms ++ messages_of l (across (wiring_of t) l m) all_said))) e
      ∙ ap (count_by (is_release p)) (take-append-le (s.heard l m) (s.said l (across (wiring_of t) l m)) (messages_of l (across (wiring_of t) l m) all_said)
      far)

  lives_on : k.said l m ≡ s.said l m → k.said l (across (wiring_of t) l m) ≡ s.said l (across (wiring_of t) l m) → k.heard l m ≡ s.heard l m →
      s.heard l m ≤ length (s.said l (across (wiring_of t) l m)) →
      count_by (is_release p) (take (s.heard l m) (s.said l (across (wiring_of t) l m))) < count_by (is_withdraw p) (s.said l m) →
      count_by (is_release p) (take (k.heard l m) ((with_said k all_said).said l (across (wiring_of t) l m))) < count_by (is_withdraw p)
      ((with_said k all_said).said l m)
  lives_on own far heard within less = omega (arith, grown own, stayed far heard within, less)

-- 3. Each kind of step

abbrev StillOwed : Network → World → Step → ℕ → ℕ → ℕ → Type 0
StillOwed t w step l m p = (lays_to_rest t w step m p ≡ true) ⊎ owes t (after t w step) l m p

ended : (t : Network) (w : World) (step : Step) (l m p : ℕ) → l < length t.links → is_end (wiring_of t) l m ≡ true → is_operational_on t w m l ≡ true
    → lives (after t w step).config l ≡ false → lays_to_rest t w step m p ≡ true
ended t w step l m p below e on dead =
    ap (λ b. ends_offer t w step m p || (brings_release t w step m p || b))
    (one_passes (λ j. is_operational_on t w m j && not (lives (after t w step).config j)) (links_at (wiring_of t) m) l (link_at t l m below e)
    (ap (λ b. b && not (lives (after t w step).config l)) on ∙ ap not dead))
    ∙ ap (λ b. ends_offer t w step m p || b) (or_true (brings_release t w step m p)) ∙ or_true (ends_offer t w step m p)

brought : (t : Network) (w : World) (step : Step) (m p : ℕ) → brings_release t w step m p ≡ true → lays_to_rest t w step m p ≡ true
brought t w step m p h = ap (λ b. ends_offer t w step m p || (b || ends_session t w step m)) h ∙ or_true (ends_offer t w step m p)

elsewhere : (t : Network) (w : World) (new : Config) (nv : Views) (step : Step) (at l m p : ℕ) → EndsAreInTurn t w.config w.sessions → l < length t.links
    → is_end (wiring_of t) l m ≡ true → owes t w l m p → l ≢ at
    → count_by (is_release p) (take ((anew w.sessions at).heard l m)
    ((with_said (anew w.sessions at) (all_said t w.config new w.views nv w.sessions (anew w.sessions at) step l m p)).said l (across (wiring_of t) l m)))
    < count_by (is_withdraw p) ((with_said (anew w.sessions at) (all_said t w.config new w.views nv w.sessions (anew w.sessions at) step l m p)).said l m)
elsewhere t w new nv step at l m p g below e less d =
    lives_on t w.config new w.views nv w.sessions (anew w.sessions at) step l m p (anew_off w.sessions at l m d).0
    (anew_off w.sessions at l (across (wiring_of t) l m) d).0 (anew_off w.sessions at l m d).1 (g l m below e).heard less

is_off : (b : Bool) → (b && false) ≡ false
is_off true = refl
is_off false = refl

agree_on : (on was : Bool) → agree on was ≡ false → was ≡ true → on ≡ false
agree_on true was h e = absurd (clash (sym e ∙ h))
agree_on false was h e = refl

heard_on : (t : Network) (w : World) (k : Packets) (at : _) (dir : _) (l m p : ℕ) → EndsDiffer (wiring_of t) → LinkIsThere t (HearLdp at dir)
    → is_empty t w k (HearLdp at dir) ≡ false → EndsAreInTurn t w.config w.sessions → l < length t.links → is_end (wiring_of t) l m ≡ true → owes t w l m p
    → StillOwed t w (HearLdp at dir) l m p
unfolding sessions_after
heard_on t w k at dir l m p differ there full g below e less = elim (eqb_tells l at.0) [
  | inr x ↦ inr (off (inl x.1))
  | inl x ↦ elim (eqb_tells m n) [
    | inr y ↦ inr (off (inr y.1))
    | inl y ↦ here x.1 y.1
  ]
]
  where
    n : ℕ
    n = receiver (wiring_of t) at.0 dir

    s : Sessions
    s = w.sessions

    j : Sessions
    j = ldp_counted t w.sessions (HearLdp at dir)

    off : (l ≢ at.0) ⊎ (m ≢ n) → owes t (after t w (HearLdp at dir)) l m p
    off d = lives_on t w.config w.config w.views w.views w.sessions j (HearLdp at dir) l m p refl refl
        (pair_off s.heard at.0 n (s.heard at.0 n + 1) l m d) (g l m below e).heard less

    ends : (is_end (wiring_of t) at.0 n ≡ true) × (across (wiring_of t) at.0 n ≡ sender (wiring_of t) at.0 dir)
    ends = dir_ends (wiring_of t) at.0 dir (differ at.0 there)

    heard : Message
    heard = slice_index_or (s.said at.0 (sender (wiring_of t) at.0 dir)) (s.heard at.0 n) Address

    more : s.heard at.0 n < length (s.said at.0 (across (wiring_of t) at.0 n))
    more = subst (λ i. s.heard at.0 n < length (s.said at.0 i)) (sym ends.1)
        (above (length (s.said at.0 (sender (wiring_of t) at.0 dir))) (s.heard at.0 n)
        (or_both (not (lives w.config at.0)) (nat_le (length (s.said at.0 (sender (wiring_of t) at.0 dir))) (s.heard at.0 n)) full).1)

    others : List Message
    others = messages_of at.0 (across (wiring_of t) at.0 n) (all_said t w.config w.config w.views w.views s j (HearLdp at dir) at.0 n p)

    counts : count_by (is_release p) (take (put_pair s.heard at.0 n (s.heard at.0 n + 1) at.0 n) (s.said at.0 (across (wiring_of t) at.0 n) ++ others))
        ≡ count_by (is_release p) (take (s.heard at.0 n) (s.said at.0 (across (wiring_of t) at.0 n))) + cond (is_release p heard) 1 0
    counts =
        ap (λ i. count_by (is_release p) (take i (s.said at.0 (across (wiring_of t) at.0 n) ++ others))) (pair_here s.heard at.0 n (s.heard at.0 n + 1))
        ∙ ap (count_by (is_release p)) (take-append-le (s.heard at.0 n + 1) (s.said at.0 (across (wiring_of t) at.0 n)) others (reach more))
        ∙ length-filter_more (is_release p) (s.said at.0 (across (wiring_of t) at.0 n)) (s.heard at.0 n) Address more
        ∙ ap (λ i. count_by (is_release p) (take (s.heard at.0 n) (s.said at.0 (across (wiring_of t) at.0 n))) + cond
        (is_release p (slice_index_or (s.said at.0 i) (s.heard at.0 n) Address)) 1 0) ends.1
      where
        reach : {x y : ℕ} → x < y → x + 1 ≤ y
        reach f = omega (arith, f)

    at_hand : owes t w at.0 n p → StillOwed t w (HearLdp at dir) at.0 n p
    at_hand owe = elim (two_ways (is_release p heard)) [
      | inl r ↦ inl (brought t w (HearLdp at dir) n p (ap (λ b. b && is_release p heard) (same_test n) ∙ r))
      | inr r ↦ inr (omega (
        arith,
        counts,
        ap {B = ℕ} (λ b. cond b 1 0) r,
        owe,
        grown t w.config w.config w.views w.views s j (HearLdp at dir) at.0 n p refl,
      ))
    ]

    here : l ≡ at.0 → m ≡ n → StillOwed t w (HearLdp at dir) l m p
    here x y = subst (λ i. StillOwed t w (HearLdp at dir) i m p) (sym x) (subst (λ i. StillOwed t w (HearLdp at dir) at.0 i p) (sym y)
        (at_hand (subst (λ i. owes t w at.0 i p) y (subst (λ i. owes t w i m p) x less))))

owed_step : (t : Network) (w : World) (k : Packets) (step : Step) (l m p : ℕ) → EndsDiffer (wiring_of t) → LinkIsThere t step
    → is_unchanged w.config step ≡ false → is_empty t w k step ≡ false → EndsAreInTurn t w.config w.sessions → l < length t.links
    → is_end (wiring_of t) l m ≡ true → owes t w l m p → StillOwed t w step l m p
unfolding sessions_after
owed_step t w k (LinkUp at) l m p differ there new full g below e less = elim (eqb_tells l at.0) [
  | inr x ↦ inr (elsewhere t w (config_after w.config (LinkUp at)) (views_after w.views (LinkUp at)) (LinkUp at) at.0 l m p g below e less x.1)
  | inl x ↦ absurd (clash (sym (ap w.config.is_up (sym x.1) ∙ and_left (w.config.is_up l) (w.config.ldp_on l) (speaking t w l m p below e g less).0) ∙ new))
]
owed_step t w k (LinkDown at) l m p differ there new full g below e less = elim (eqb_tells l at.0) [
  | inr x ↦ inr (elsewhere t w (config_after w.config (LinkDown at)) (views_after w.views (LinkDown at)) (LinkDown at) at.0 l m p g below e less x.1)
  | inl x ↦ inl (ended t w (LinkDown at) l m p below e (speaking t w l m p below e g less).1
      (ap (λ b. b && w.config.ldp_on l) (ap (put w.config.is_up at.0 false) x.1 ∙ put_here w.config.is_up at.0 false)))
]
owed_step t w k (LdpAdmin at on) l m p differ there new full g below e less = elim (eqb_tells l at.0) [
  | inr x ↦ inr (elsewhere t w (config_after w.config (LdpAdmin at on)) (views_after w.views (LdpAdmin at on)) (LdpAdmin at on) at.0 l m p g below e less x.1)
  | inl x ↦ inl (ended t w (LdpAdmin at on) l m p below e (speaking t w l m p below e g less).1
      (ap (λ b. w.config.is_up l && b) (ap (put w.config.ldp_on at.0 on) x.1 ∙ put_here w.config.ldp_on at.0 on
      ∙ agree_on on (w.config.ldp_on at.0) new
      (ap w.config.ldp_on (sym x.1) ∙ and_right (w.config.is_up l) (w.config.ldp_on l) (speaking t w l m p below e g less).0))
      ∙ is_off (w.config.is_up l)))
]
owed_step t w k (Learn n at) l m p differ there new full g below e less =
    inr (lives_on t w.config w.config w.views (views_after w.views (Learn n at)) w.sessions w.sessions (Learn n at) l m p refl refl refl
    (g l m below e).heard less)
owed_step t w k (HearLdp at dir) l m p differ there new full g below e less = heard_on t w k at dir l m p differ there full g below e less
owed_step t w k _ l m p differ there new full g below e less = inr less

-- 4. A step that lays to rest

pub rest_begins : (t : Network) (w : World) (k : Packets) (step : Step) (m p : ℕ) → EndsDiffer (wiring_of t) → LinkIsThere t step
    → is_unchanged w.config step ≡ false → is_empty t w k step ≡ false → EndsAreInTurn t w.config w.sessions → Released t w.sessions
    → is_at_rest t w m p ≡ false → is_at_rest t (after t w step) m p ≡ true → lays_to_rest t w step m p ≡ true
rest_begins t w k step m p differ there new full g released before rests = elim (two_ways (offers_in t w m p)) [
  | inl on ↦ ap (λ b. (b && not (offers_in t (after t w step) m p)) || (brings_release t w step m p || ends_session t w step m)) on
      ∙ ap (λ b. not b || (brings_release t w step m p || ends_session t w step m)) (resting t (after t w step) m p rests).0
  | inr off ↦
      let owe = owed t w m p differ released before off in
      elim (owed_step t w k step owe.0 m p differ there new full g owe.1 owe.2 owe.3) [
        | inl done ↦ done
        | inr still ↦ absurd (unequal still ((resting t (after t w step) m p rests).1 owe.0 owe.1 owe.2))
      ]
]
  where
    unequal : {a b : ℕ} → a < b → b ≡ a → ⊥
    unequal f h = omega (arith, f, h)

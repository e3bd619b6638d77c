-- What flies on a link is what the packets' lists say.
use Rattle.std.proofs.Common.{ℕ, zero, suc, ◌≡◌, ◌≢◌, ◌+◌, ◌-◌, ◌*◌, ◌<◌, inl, inr, Bool, true, false, cond, List, [], ◌∷◌, ◌++◌, map, filter, length, refl}
use Rattle.std.proofs.Common.{arith, sym, ◌∙◌, ap, append-nil}
use Rattle.std.specs.Prelude.{◌==◌, ◌||◌, not, nat_le, Option, Some, None, slice_get}
use Rattle.std.proofs.lemmas.Bool.Decides.{eqb_tells}
use Rattle.std.proofs.lemmas.List.{map-append}
use Rattle.mn_drops.specs.declared.drops.Rule.{Rule}
use Rattle.mn_drops.specs.declared.drops.Rule.TheVariants as rule
use Rattle.mn_topo.specs.Dir.{Dir}
use Rattle.mn_topo.specs.Dir.TheVariants.{Forth, Back}
use Rattle.mn_ipv4.specs.Header.{destination_of}
use Rattle.mn_base.proofs.Bools.{no}
use Rattle.mn_topo.specs.Network.{Network}
use Rattle.mn_topo.specs.declared.steps.Step.{Step}
use Rattle.mn_topo.specs.declared.steps.Step.TheVariants.{LinkUp, LinkDown, Learn, LdpAdmin, HearLdp, BgpUp, BgpDown, HearBgp, Inject, Carry, Lose}
use Rattle.mn_ledger.specs.declared.verdict.Verdict.{Verdict}
use Rattle.mn_ledger.specs.declared.verdict.Verdict.TheVariants.{Delivered, Dropped, Flying}
use Rattle.mn_ledger.specs.Entry.{first_rule}
use Rattle.mn_ledger.specs.Tables.{put}
use Rattle.mn_ledger.specs.Places.{home_of, vrf_of}
use Rattle.mn_ledger.specs.World.{World}
use Rattle.mn_ledger.specs.Transport.{usable}
use Rattle.mn_ledger.specs.Held.{HeldRoute, best}
use Rattle.mn_ledger.specs.Packets.{Token, Packets, channel, flying_on, away_from, judged, drop_at, visited, deliver, hop_over, entry_rules, bound, stamped}
use Rattle.mn_ledger.specs.Eligible.{eligible}
use Rattle.mn_ledger.specs.Packets.{route_by, enter_by, one_more, without_place, taken, is_attachment, leave, arrive, carry, lose, cut_each, before_step}
use Rattle.mn_ledger.specs.Packets.{packets_after}
use Rattle.mn_ledger.specs.Verdicts.{verdict_on, AreInOnePlace}
use Rattle.mn_ledger.specs.Items.{Channel, Notices, Messages, Routes, Frames, Load, Carries, Item, same_channel, items_on, loads_on, last_of, frame_by}
use Rattle.mn_ledger.specs.Items.{frame_after, frames_in, is_session_of, is_over, is_between, without, left_in_flight}
use Rattle.mn_ledger.proofs.Peers.{same_numbers, same_test, other_test}
use Rattle.mn_ledger.proofs.GoingBy.{put_here, put_off}
use Rattle.mn_ledger.proofs.OnePlace.{arms, judged_on, loosen, fresh, unmarked}
use Rattle.mn_ledger.proofs.Channels.{same_chan, kept, gone, off, loads_in}
use Rattle.mn_ledger.specs.InFlight.{is_in_order}

-- the packets that fly on a channel, as loads
carried_on : Packets → ℕ → List Load
carried_on w c = map (λ token. Carries token) (w.flying c)

-- 1. The last frame of a direction

last_pushed : (xs : List Token) (x : Token) → last_of (xs ++ x ∷ []) ≡ x ∷ []
last_pushed [] x = refl
last_pushed (y ∷ []) x = refl
last_pushed (y ∷ z ∷ zs) x = last_pushed (z ∷ zs) x

-- what flies is what flew, and the frame that the verdict on the packet speaks of
Adds : Packets → Packets → ℕ → Type 0
Adds w later p = (l : ℕ) (d : Dir) → carried_on later (channel l d) ≡ carried_on w (channel l d) ++ loads_in (Frames l d) (frame_by later (verdict_on later p))

pub judged_is : (w : Packets) (p : ℕ) (v : Verdict) → p < length w.verdicts → verdict_on (judged w p v) p ≡ v
judged_is w p v h = judged_on w p v p h ∙ ap (λ b. cond b v (verdict_on w p)) (same_test p)

adds_none : (w later : Packets) (p : ℕ) (v : Verdict) → verdict_on later p ≡ v →
    (l : ℕ) (d : Dir) → loads_in (Frames l d) (frame_by later v) ≡ [] → carried_on later (channel l d) ≡ carried_on w (channel l d)
    → carried_on later (channel l d) ≡ carried_on w (channel l d) ++ loads_in (Frames l d) (frame_by later (verdict_on later p))
adds_none w later p v is l d none same =
    same ∙ sym (ap (λ x. carried_on w (channel l d) ++ loads_in (Frames l d) (frame_by later x)) is ∙ ap (λ r. carried_on w (channel l d) ++ r) none
    ∙ append-nil (carried_on w (channel l d)))

drops : (w : Packets) (p : ℕ) (r : Rule) (n : ℕ) → p < length w.verdicts → Adds w (drop_at w p r n) p
unfolding Adds carried_on
drops w p r n h l d = adds_none w (drop_at w p r n) p (Dropped r (record { 0 = n })) (judged_is w p (Dropped r (record { 0 = n })) h) l d refl refl

delivers : (w : Packets) (p s ttl : ℕ) (b : List ℕ) → p < length w.verdicts → Adds w (deliver w p s ttl b) p
unfolding Adds carried_on
delivers w p s ttl b h l d =
    adds_none w (deliver w p s ttl b) p (Delivered ttl (record { 0 = s }) (w.copies + 1))
    (judged_is w p (Delivered ttl (record { 0 = s }) (w.copies + 1)) h) l d refl refl

flies : (w : Packets) (p : ℕ) (tok : Token) (k : ℕ) (e : Dir) → p < length w.verdicts →
    Adds w (record (judged w p (Flying (record { 0 = k }) e)) { flying = put w.flying (channel k e) (w.flying (channel k e) ++ tok ∷ []) }) p
unfolding Adds carried_on
flies w p tok k e h l d =
    let later : Packets = record (judged w p (Flying (record { 0 = k }) e)) { flying = put w.flying (channel k e) (w.flying (channel k e) ++ tok ∷ []) } in
    let frame : List (Channel × Load) = (Frames k e, Carries tok) ∷ [] in
    let made : frame_by later (verdict_on later p) ≡ frame =
    ap (frame_by later) (judged_is w p (Flying (record { 0 = k }) e) h)
    ∙ ap (λ ks. map (λ token. (Frames k e, Carries token)) (last_of ks)) (put_here w.flying (channel k e) (w.flying (channel k e) ++ tok ∷ []))
    ∙ ap (map (λ token. (Frames k e, Carries token))) (last_pushed (w.flying (channel k e)) tok) in
    elim (eqb_tells (channel l d) (channel k e)) [
      | inl q ↦
          ap (map (λ token. Carries token)) (ap (put w.flying (channel k e) (w.flying (channel k e) ++ tok ∷ [])) q.1
          ∙ put_here w.flying (channel k e) (w.flying (channel k e) ++ tok ∷ []))
          ∙ map-append (λ token. Carries token) (w.flying (channel k e)) (tok ∷ [])
          ∙ ap (λ c. carried_on w c ++ Carries tok ∷ []) (sym q.1)
          ∙ sym (ap (λ f. carried_on w (channel l d) ++ loads_in (Frames l d) f) made
          ∙ ap (λ b. carried_on w (channel l d) ++ map (λ (one : Channel × Load). one.1) (cond b frame []))
          (ap (λ c. channel k e == c) q.1 ∙ same_test (channel k e)))
      | inr q ↦
          ap (map (λ token. Carries token)) (put_off w.flying (channel k e) (w.flying (channel k e) ++ tok ∷ []) (channel l d) q.1)
          ∙ sym (ap (λ f. carried_on w (channel l d) ++ loads_in (Frames l d) f) made
          ∙ ap (λ b. carried_on w (channel l d) ++ map (λ (one : Channel × Load). one.1) (cond b frame []))
          (other_test (channel k e) (channel l d) (λ x. q.1 (sym x))) ∙ append-nil (carried_on w (channel l d)))
    ]

hops : (t : Network) (w : Packets) (k : Token) (x : ℕ) (r : Rule) (o : Option (ℕ × ℕ)) → k.packet < length w.verdicts → Adds w (hop_over t w k x r o) k.packet
hops t w k x r None h = drops w k.packet r x h
hops t w k x r (Some to) h = flies w k.packet k to.1 (away_from t to.1 x) h

routes : (t : Network) (v : World) (w : Packets) (j : ℕ) (b : List ℕ) (e : ℕ) (o : Option HeldRoute) → j < length w.verdicts → Adds w (route_by t v w j b e o) j
routes t v w j b e None h = drops w j rule.NoRoute e h
routes t v w j b e (Some route) h =
    arms (λ x. Adds w x j) (route.edge == e) _ _ (delivers w j route.site _ b h)
    (hops t w (stamped w (bound j route b)) e rule.NoLsp (usable t v.config v.views v.sessions e route.edge) h)

enters : (t : Network) (v : World) (w : Packets) (j : ℕ) (b : List ℕ) (e vrf : ℕ) (o : Option Rule) → j < length w.verdicts →
    Adds w (enter_by t v w j b e vrf o) j
enters t v w j b e vrf (Some cause) h = drops w j cause e h
enters t v w j b e vrf None h = routes t v w j b e (best (eligible t v e vrf (destination_of b)) (destination_of b)) h

leaves : (v : World) (w : Packets) (k : Token) (y : ℕ) → k.packet < length w.verdicts → Adds w (leave v w k y) k.packet
leaves v w k y h =
    arms (λ x. Adds w x k.packet) (is_attachment (v.config.attached k.site) k.attachment) _ _ (delivers w k.packet k.site _ k.bytes h)
    (drops w k.packet rule.SiteGone y h)

arrives : (t : Network) (v : World) (w : Packets) (k : Token) (y : ℕ) → k.packet < length w.verdicts → Adds w (arrive t v w k y) k.packet
arrives t v w k y h =
    arms (λ x. Adds w x k.packet) (nat_le k.ttl 1) _ _ (drops w k.packet rule.TtlExpired y h)
    (arms (λ x. Adds w x k.packet) (y == k.edge) _ _ (leaves v w k y h)
    (hops t w (stamped w (record k { ttl = k.ttl - 1 })) y rule.NoEntry (usable t v.config v.views v.sessions y k.edge) h))

-- 2. A frame is taken out

removed : {A : Type 0} → ℕ → List A → List A
removed n [] = []
removed zero (x ∷ xs) = xs
removed (suc n) (x ∷ xs) = x ∷ removed n xs

removed_tokens : (n : ℕ) (ks : List Token) → map (λ token. Carries token) (without_place n ks) ≡ removed n (map (λ token. Carries token) ks)
unfolding removed
removed_tokens n [] = refl
removed_tokens zero (k ∷ ks) = refl
removed_tokens (suc n) (k ∷ ks) = ap (λ xs. Carries k ∷ xs) (removed_tokens n ks)

zero_cons : (on : Channel) (x : Item) (xs more : List Item) (b : Bool) → same_channel on x.on ≡ b → loads_on on more ≡ removed 0 (loads_on on xs)
    → loads_on on (cond b xs (x ∷ more)) ≡ removed 0 (map (λ (item : Item). item.load) (cond (same_channel on x.on) (x ∷ items_on on xs) (items_on on xs)))
unfolding removed
zero_cons on x xs more true q e = sym (ap (λ b. removed 0 (map (λ (item : Item). item.load) (cond b (x ∷ items_on on xs) (items_on on xs)))) q)
zero_cons on x xs more false q e =
    ap (λ b. map (λ (item : Item). item.load) (cond b (x ∷ items_on on more) (items_on on more))) q ∙ e
    ∙ sym (ap (λ b. removed 0 (map (λ (item : Item). item.load) (cond b (x ∷ items_on on xs) (items_on on xs)))) q)

next_cons : (on : Channel) (x : Item) (xs fewer more : List Item) (n : ℕ) (b : Bool) → same_channel on x.on ≡ b →
    loads_on on fewer ≡ removed n (loads_on on xs) → loads_on on more ≡ removed (suc n) (loads_on on xs)
    → loads_on on (x ∷ cond b fewer more) ≡ removed (suc n)
    (map (λ (item : Item). item.load) (cond (same_channel on x.on) (x ∷ items_on on xs) (items_on on xs)))
unfolding removed
next_cons on x xs fewer more n true q e d =
    ap (λ b. map (λ (item : Item). item.load) (cond b (x ∷ items_on on fewer) (items_on on fewer))) q ∙ ap (λ r. x.load ∷ r) e
    ∙ sym (ap (λ b. removed (suc n) (map (λ (item : Item). item.load) (cond b (x ∷ items_on on xs) (items_on on xs)))) q)
next_cons on x xs fewer more n false q e d =
    ap (λ b. map (λ (item : Item). item.load) (cond b (x ∷ items_on on more) (items_on on more))) q ∙ d
    ∙ sym (ap (λ b. removed (suc n) (map (λ (item : Item). item.load) (cond b (x ∷ items_on on xs) (items_on on xs)))) q)

-- the one at a place on the channel is taken out
taken_at : (on other : Channel) → ((c : Channel) → same_channel on c ≡ same_channel other c) →
    (n : ℕ) (xs : List Item) → loads_on on (without other n xs) ≡ removed n (loads_on on xs)
unfolding removed
taken_at on other same n [] = refl
taken_at on other same zero (x ∷ xs) = zero_cons on x xs (without other zero xs) (same_channel other x.on) (same x.on) (taken_at on other same zero xs)
taken_at on other same (suc n) (x ∷ xs) =
    next_cons on x xs (without other n xs) (without other (suc n) xs) n (same_channel other x.on) (same x.on) (taken_at on other same n xs)
    (taken_at on other same (suc n) xs)

alike : (l k : ℕ) (d e : Dir) → channel l d ≡ channel k e → (c : Channel) → same_channel (Frames l d) c ≡ same_channel (Frames k e) c
alike l k d e q (Frames o f) = ap (λ n. channel o f == n) q
alike l k d e q (Notices o f) = refl
alike l k d e q (Messages o f) = refl
alike l k d e q (Routes o f) = refl

unlike : (l k : ℕ) (d e : Dir) → channel l d ≢ channel k e → (c : Channel) → same_channel (Frames k e) c ≡ true → same_channel (Frames l d) c ≡ false
unlike l k d e q (Frames o f) h = other_test (channel o f) (channel l d) (λ r. q (sym r ∙ same_numbers (channel o f) (channel k e) h))
unlike l k d e q (Notices o f) h = refl
unlike l k d e q (Messages o f) h = refl
unlike l k d e q (Routes o f) h = refl

abbrev pub AsCarried : Packets → List Item → Type 0
AsCarried w items = (l : ℕ) (d : Dir) → loads_on (Frames l d) items ≡ map (λ token. Carries token) (w.flying (channel l d))

taken_left : (w : Packets) (items : List Item) (k : ℕ) (e : Dir) (n l : ℕ) (d : Dir) → AsCarried w items
    → loads_on (Frames l d) (without (Frames k e) n items) ≡ map (λ token. Carries token)
    (put w.flying (channel k e) (without_place n (w.flying (channel k e))) (channel l d))
taken_left w items k e n l d h = elim (eqb_tells (channel l d) (channel k e)) [
  | inl q ↦
      taken_at (Frames l d) (Frames k e) (alike l k d e q.1) n items ∙ ap (removed n) (h l d ∙ ap (λ c. map (λ token. Carries token) (w.flying c)) q.1)
      ∙ sym (removed_tokens n (w.flying (channel k e)))
      ∙ ap (map (λ token. Carries token))
      (sym (ap (put w.flying (channel k e) (without_place n (w.flying (channel k e)))) q.1
      ∙ put_here w.flying (channel k e) (without_place n (w.flying (channel k e)))))
  | inr q ↦
      ap (map (λ (item : Item). item.load)) (off (Frames l d) (Frames k e) (unlike l k d e q.1) n items) ∙ h l d
      ∙ ap (map (λ token. Carries token)) (sym (put_off w.flying (channel k e) (without_place n (w.flying (channel k e))) (channel l d) q.1))
]

-- 3. A link is cut

put_twice : (f : ℕ → List Token) (c : ℕ) (ks : List Token) (e : ℕ) → put (put f c ks) c [] e ≡ put f c [] e
put_twice f c ks e = elim (eqb_tells e c) [
  | inl q ↦ ap (put (put f c ks) c []) q.1 ∙ put_here (put f c ks) c [] ∙ sym (ap (put f c []) q.1 ∙ put_here f c [])
  | inr q ↦ put_off (put f c ks) c [] e q.1 ∙ put_off f c ks e q.1 ∙ sym (put_off f c [] e q.1)
]

cut_flying : (ks : List Token) (w : Packets) (c n e : ℕ) → w.flying c ≡ ks → (cut_each w c n ks).flying e ≡ put w.flying c [] e
cut_flying [] w c n e h = elim (eqb_tells e c) [
  | inl q ↦ ap w.flying q.1 ∙ h ∙ sym (ap (put w.flying c []) q.1 ∙ put_here w.flying c [])
  | inr q ↦ sym (put_off w.flying c [] e q.1)
]
cut_flying (k ∷ ks) w c n e h =
    cut_flying ks (drop_at (record w { flying = put w.flying c ks }) k.packet rule.LinkCut n) c n e (put_here w.flying c ks) ∙ put_twice w.flying c ks e

one_link : (m n : ℕ) (a b : Dir) → channel m a ≡ channel n b → m ≡ n
one_link m n Forth Forth q = omega (arith, q)
one_link m n Forth Back q = absurd (omega (arith, q))
one_link m n Back Forth q = absurd (omega (arith, q))
one_link m n Back Back q = omega (arith, q)

over_link : (l k : ℕ) (d : Dir) → l ≡ k → (c : Channel) → same_channel (Frames l d) c ≡ true → (is_session_of k c || is_over k c) ≡ true
over_link l k d e (Frames o f) h = ap (λ n. k == n) (one_link o l f d (same_numbers (channel o f) (channel l d) h) ∙ e) ∙ same_test k
over_link l k d e (Notices o f) h = absurd (no h)
over_link l k d e (Messages o f) h = absurd (no h)
over_link l k d e (Routes o f) h = absurd (no h)

off_link : (l k : ℕ) (d : Dir) → l ≢ k → (c : Channel) → same_channel (Frames l d) c ≡ true → (is_session_of k c || is_over k c) ≡ false
off_link l k d e (Frames o f) h = other_test k o (λ q. e (sym (one_link o l f d (same_numbers (channel o f) (channel l d) h)) ∙ sym q))
off_link l k d e (Notices o f) h = absurd (no h)
off_link l k d e (Messages o f) h = absurd (no h)
off_link l k d e (Routes o f) h = absurd (no h)

-- 4. The steps

only_frames : (l : ℕ) (d : Dir) (P : Channel → Type 0) → ((o : ℕ) (f : Dir) → P (Frames o f)) → (c : Channel) → same_channel (Frames l d) c ≡ true → P c
only_frames l d P h (Frames o f) q = h o f
only_frames l d P h (Notices o f) q = absurd (no q)
only_frames l d P h (Messages o f) q = absurd (no q)
only_frames l d P h (Routes o f) q = absurd (no q)

-- what is on a channel that hands over in order is no frame
no_frame_on : (l : ℕ) (d : Dir) (on : Channel) → is_in_order on ≡ true → (c : Channel) → same_channel on c ≡ true → same_channel (Frames l d) c ≡ false
no_frame_on l d on i c q = ap (same_channel (Frames l d)) (same_chan on c i q) ∙ none on i
  where
    none : (on : Channel) → is_in_order on ≡ true → same_channel (Frames l d) on ≡ false
    none (Frames k e) i = absurd (no i)
    none _ i = refl

carry_goes : (t : Network) (v : World) (w : Packets) (k : ℕ) (e : Dir) (n count y : ℕ) (items : List Item) (l : ℕ) (d : Dir) (o : Option Token) →
    slice_get (w.flying (channel k e)) n ≡ o → AreInOnePlace w count → AsCarried w items
    → loads_on (Frames l d) (without (Frames k e) n items) ++ loads_in (Frames l d) (frame_after (carry t v (taken w k e n) y o) o) ≡ map
    (λ token. Carries token) ((carry t v (taken w k e n) y o).flying (channel l d))
unfolding Adds carried_on
carry_goes t v w k e n count y items l d None there one h = append-nil (loads_on (Frames l d) (without (Frames k e) n items)) ∙ taken_left w items k e n l d h
carry_goes t v w k e n count y items l d (Some tok) there one h =
    let loose = loosen w (channel k e) n count tok one there in
    ap (λ r. r ++ loads_in (Frames l d) (frame_after (carry t v (taken w k e n) y (Some tok)) (Some tok))) (taken_left w items k e n l d h)
    ∙ sym (arrives t v (visited (taken w k e n) tok.packet y) tok y loose.within l d)

lose_keeps : (w : Packets) (y : ℕ) (o : Option Token) → (lose w y o).flying ≡ w.flying
lose_keeps w y None = refl
lose_keeps w y (Some tok) = refl

cut_goes : (w : Packets) (k a b : ℕ) (items : List Item) (l : ℕ) (d : Dir) → AsCarried w items
    → (let first : Packets = cut_each w (channel k Forth) a (flying_on w k Forth) in
    loads_on (Frames l d) (filter (λ item. not (is_session_of k item.on || is_over k item.on)) items) ≡ map (λ token. Carries token)
    ((cut_each first (channel k Back) b (flying_on first k Back)).flying (channel l d)))
cut_goes w k a b items l d h =
    let first : Packets = cut_each w (channel k Forth) a (flying_on w k Forth) in
    let after_first : (c : ℕ) → first.flying c ≡ put w.flying (channel k Forth) [] c = λ c. cut_flying (flying_on w k Forth) w (channel k Forth) a c refl in
    let after_both : (cut_each first (channel k Back) b (flying_on first k Back)).flying (channel l d) ≡ put first.flying (channel k Back) []
    (channel l d) = cut_flying (flying_on first k Back) first (channel k Back) b (channel l d) refl in
    elim (eqb_tells l k) [
      | inl q ↦
          ap (map (λ (item : Item). item.load)) (gone (Frames l d) (λ c. is_session_of k c || is_over k c) (over_link l k d q.1) items)
          ∙ sym (ap (map (λ token. Carries token)) (after_both ∙ none_on first.flying w.flying after_first d q.1))
      | inr q ↦
          ap (map (λ (item : Item). item.load)) (kept (Frames l d) (λ c. is_session_of k c || is_over k c) (off_link l k d q.1) items) ∙ h l d
          ∙ sym (ap (map (λ token. Carries token)) (after_both ∙ put_off first.flying (channel k Back) [] (channel l d) (λ e. q.1 (one_link l k d Back e))
          ∙ after_first (channel l d) ∙ put_off w.flying (channel k Forth) [] (channel l d) (λ e. q.1 (one_link l k d Forth e))))
    ]
  where
    none_on : (f g : ℕ → List Token) → ((c : ℕ) → f c ≡ put g (channel k Forth) [] c) → (d : Dir) → l ≡ k → put f (channel k Back) [] (channel l d) ≡ []
    none_on f g h Back e = ap (λ m. put f (channel k Back) [] (channel m Back)) e ∙ put_here f (channel k Back) []
    none_on f g h Forth e =
        ap (λ m. put f (channel k Back) [] (channel m Forth)) e ∙ put_off f (channel k Back) [] (channel k Forth) (λ q. absurd (odd q))
        ∙ h (channel k Forth) ∙ put_here g (channel k Forth) []
      where
        odd : 2 * k ≡ 2 * k + 1 → ⊥
        odd q = omega (arith, q)

-- what is left and what is made is what flies then
pub frames_go : (t : Network) (v : World) (w : Packets) (s : Step) (b : List ℕ) (items : List Item) (count l : ℕ) (d : Dir) → AreInOnePlace w count →
    AsCarried w items
    → loads_on (Frames l d) (left_in_flight t s items) ++ loads_in (Frames l d) (frames_in w (packets_after t v w s b) s) ≡ map (λ token. Carries token)
    ((packets_after t v w s b).flying (channel l d))
unfolding packets_after Adds carried_on
frames_go t v w (Inject s n) b items count l d one h =
    let loose = fresh (before_step w) count (home_of t s.0) (unmarked w count one) in
    ap (λ r. r ++ loads_in (Frames l d) (frames_in w (packets_after t v w (Inject s n) b) (Inject s n))) (h l d)
    ∙ sym (enters t v (one_more (before_step w) (home_of t s.0)) (length w.verdicts) b (home_of t s.0) (vrf_of t s.0)
    (first_rule (entry_rules (v.config.attached s.0) b)) loose.within l d)
frames_go t v w (Carry k e n) b items count l d one h =
    carry_goes t v (before_step w) k.0 e n count _ items l d (slice_get (w.flying (channel k.0 e)) n) refl (unmarked w count one) h
frames_go t v w (Lose k e n) b items count l d one h =
    append-nil (loads_on (Frames l d) (without (Frames k.0 e) n items)) ∙ taken_left w items k.0 e n l d h
    ∙ ap (λ f. map (λ token. Carries token) (f (channel l d)))
    (sym (lose_keeps (taken (before_step w) k.0 e n) _ (slice_get (w.flying (channel k.0 e)) n)))
frames_go t v w (LinkDown k) b items count l d one h =
    append-nil (loads_on (Frames l d) (left_in_flight t (LinkDown k) items)) ∙ cut_goes (before_step w) k.0 _ _ items l d h
frames_go t v w (LinkUp k) b items count l d one h =
    append-nil (loads_on (Frames l d) (left_in_flight t (LinkUp k) items))
    ∙ ap (map (λ (item : Item). item.load)) (kept (Frames l d) (is_session_of k.0) (only_frames l d (λ c. is_session_of k.0 c ≡ false) (λ o f. refl)) items)
    ∙ h l d
frames_go t v w (LdpAdmin k on) b items count l d one h =
    append-nil (loads_on (Frames l d) (left_in_flight t (LdpAdmin k on) items))
    ∙ ap (map (λ (item : Item). item.load)) (kept (Frames l d) (is_session_of k.0) (only_frames l d (λ c. is_session_of k.0 c ≡ false) (λ o f. refl)) items)
    ∙ h l d
frames_go t v w (BgpUp x y) b items count l d one h =
    append-nil (loads_on (Frames l d) (left_in_flight t (BgpUp x y) items))
    ∙ ap (map (λ (item : Item). item.load))
    (kept (Frames l d) (is_between x.0 y.0) (only_frames l d (λ c. is_between x.0 y.0 c ≡ false) (λ o f. refl)) items) ∙ h l d
frames_go t v w (BgpDown x y) b items count l d one h =
    append-nil (loads_on (Frames l d) (left_in_flight t (BgpDown x y) items))
    ∙ ap (map (λ (item : Item). item.load))
    (kept (Frames l d) (is_between x.0 y.0) (only_frames l d (λ c. is_between x.0 y.0 c ≡ false) (λ o f. refl)) items) ∙ h l d
frames_go t v w (Learn n k) b items count l d one h =
    append-nil (loads_on (Frames l d) (left_in_flight t (Learn n k) items))
    ∙ ap (map (λ (item : Item). item.load)) (off (Frames l d) (Notices k.0 n.0) (no_frame_on l d (Notices k.0 n.0) refl) 0 items) ∙ h l d
frames_go t v w (HearLdp k e) b items count l d one h =
    append-nil (loads_on (Frames l d) (left_in_flight t (HearLdp k e) items))
    ∙ ap (map (λ (item : Item). item.load)) (off (Frames l d) (Messages k.0 _) (no_frame_on l d (Messages k.0 _) refl) 0 items) ∙ h l d
frames_go t v w (HearBgp x y) b items count l d one h =
    append-nil (loads_on (Frames l d) (left_in_flight t (HearBgp x y) items))
    ∙ ap (map (λ (item : Item). item.load)) (off (Frames l d) (Routes x.0 y.0) (no_frame_on l d (Routes x.0 y.0) refl) 0 items) ∙ h l d
frames_go t v w s b items count l d one h = append-nil (loads_on (Frames l d) items) ∙ h l d

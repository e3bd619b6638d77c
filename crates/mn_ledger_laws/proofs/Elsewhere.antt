-- What a step leaves as it was: verdict, path and frames of each packet that it doesn't touch.
use Rattle.std.proofs.Common.{ℕ, zero, suc, ◌≡◌, ◌≢◌, ◌-◌, ◌<◌, ◌≤◌, ◌⊎◌, inl, inr, Bool, true, false, List, [], ◌∷◌, ◌++◌, length, refl, arith, sym, ◌∙◌}
use Rattle.std.proofs.Common.{ap, subst, Option, Some, None}
use Rattle.std.specs.Prelude.{◌==◌, nat_le, slice_index_or, slice_set}
use Rattle.std.proofs.lemmas.Grind.{common_steps}
use Rattle.std.proofs.lemmas.Bool.Decides.{eqb_tells, leb_tells}
use Rattle.mn_drops.specs.declared.drops.Rule.{Rule}
use Rattle.mn_drops.specs.declared.drops.Rule.TheVariants as rule
use Rattle.mn_wiring.specs.declared.links.Dir.{Dir}
use Rattle.mn_topo.specs.Network.{Network}
use Rattle.mn_ledger.specs.declared.verdict.Verdict.{Verdict}
use Rattle.mn_ledger.specs.declared.verdict.Verdict.TheVariants.{Delivered, Dropped, Flying}
use Rattle.mn_ledger.specs.Tables.{put}
use Rattle.mn_ledger.specs.World.{World}
use Rattle.mn_ledger.specs.Transport.{usable}
use Rattle.mn_ledger.specs.Packets.{Token, Packets, channel, flying_on, away_from, judged, drop_at, visited, deliver, hop_over, one_more, without_place}
use Rattle.mn_ledger.specs.Packets.{taken, is_attachment, leave, arrive, cut_each, stamped}
use Rattle.mn_ledger.specs.Verdicts.{verdict_on}
use Rattle.mn_ledger.proofs.GoingBy.{put_here, put_off}
use Rattle.mn_ledger.proofs.Members.{In, in_append}
use Rattle.mn_ledger_laws.specs.Accounts.{path_of}
pub use Rattle.mn_ledger.proofs.Frames.{judged_is as judged_here}

-- 1. One packet

-- the packet's verdict and path are as before, and none of its frames is new
pub record Same (j : ℕ) (u w : Packets) : Type 0 where
  pub verdict : verdict_on w j ≡ verdict_on u j
  pub path : path_of w j ≡ path_of u j
  pub frames : (c : ℕ) (k : Token) → In (w.flying c) k → k.packet ≡ j → In (u.flying c) k

pub unchanged : (j : ℕ) (w : Packets) → Same j w w
unchanged j w = record { verdict = refl; path = refl; frames = λ c k i e. i }

pub same_on : (j : ℕ) (u v w : Packets) → Same j u v → Same j v w → Same j u w
same_on j u v w f g = record { verdict = g.verdict ∙ f.verdict; path = g.path ∙ f.path; frames = λ c k i e. f.frames c k (g.frames c k i e) e }

-- another element is set
set_other : {A : Type 0} (xs : List A) (p j : ℕ) (v d : A) → j ≢ p → slice_index_or (slice_set xs p v) j d ≡ slice_index_or xs j d
set_other xs p j v d h = grind (arith, common_steps, h)

set_here : {A : Type 0} (xs : List A) (p : ℕ) (v d : A) → p < length xs → slice_index_or (slice_set xs p v) p d ≡ v
set_here xs p v d h = grind (arith, common_steps, h)

pub push_other : {A : Type 0} (xs : List A) (j : ℕ) (v d : A) → j < length xs → slice_index_or (xs ++ v ∷ []) j d ≡ slice_index_or xs j d
push_other xs j v d h = grind (arith, common_steps, h)

pub push_here : {A : Type 0} (xs : List A) (v d : A) → slice_index_or (xs ++ v ∷ []) (length xs) d ≡ v
push_here xs v d = grind (arith, common_steps)

pub judged_off : (w : Packets) (p : ℕ) (v : Verdict) (j : ℕ) → j ≢ p → Same j w (judged w p v)
judged_off w p v j h = record { verdict = set_other w.verdicts p j v (Delivered 0 (record { 0 = 0 }) 0) h; path = refl; frames = λ c k i e. i }

-- a verdict that is set, or as it was
pub set_verdict : (w : Packets) (p : ℕ) (v : Verdict) (j : ℕ) → (verdict_on (judged w p v) j ≡ v) ⊎ (verdict_on (judged w p v) j ≡ verdict_on w j)
set_verdict w p v j = elim (eqb_tells j p) [
  | inr q ↦ inr (set_other w.verdicts p j v (Delivered 0 (record { 0 = 0 }) 0) q.1)
  | inl q ↦ elim (leb_tells (length w.verdicts) p) [
    | inl r ↦ inr (ap (λ vs. slice_index_or vs j (Delivered 0 (record { 0 = 0 }) 0)) (set_past w.verdicts p v r.1))
    | inr r ↦ inl (ap (verdict_on (judged w p v)) q.1 ∙ judged_here w p v r.1)
  ]
]
  where
    set_past : {A : Type 0} (xs : List A) (i : ℕ) (x : A) → length xs ≤ i → slice_set xs i x ≡ xs
    set_past xs i x h = grind (arith, common_steps, h)

pub deliver_off : (w : Packets) (p s ttl : ℕ) (b : List ℕ) (j : ℕ) → j ≢ p → Same j w (deliver w p s ttl b)
deliver_off w p s ttl b j h = record { verdict = set_other w.verdicts p j _ (Delivered 0 (record { 0 = 0 }) 0) h; path = refl; frames = λ c k i e. i }

pub visited_off : (w : Packets) (p n j : ℕ) → j ≢ p → Same j w (visited w p n)
visited_off w p n j h = record { verdict = refl; path = set_other w.paths p j _ [] h; frames = λ c k i e. i }

pub visited_here : (w : Packets) (p n : ℕ) → p < length w.paths → path_of (visited w p n) p ≡ path_of w p ++ n ∷ []
visited_here w p n h = set_here w.paths p _ [] h

-- 2. Frames

in_without : (n : ℕ) (ks : List Token) (k : Token) → In (without_place n ks) k → In ks k
in_without n [] k i = i
in_without zero (x ∷ xs) k i = inr i
in_without (suc n) (x ∷ xs) k i = elim i [ inl e ↦ inl e | inr j ↦ inr (in_without n xs k j) ]

-- a channel's tokens are others
pub in_put : (f : ℕ → List Token) (c : ℕ) (ks : List Token) (d : ℕ) (k : Token) → In (put f c ks d) k → (In ks k → In (f c) k) → In (f d) k
in_put f c ks d k i h = elim (eqb_tells d c) [
  | inl q ↦ subst (λ b. In (f b) k) (sym q.1) (h (subst (λ xs. In xs k) (ap (put f c ks) q.1 ∙ put_here f c ks) i))
  | inr q ↦ subst (λ xs. In xs k) (put_off f c ks d q.1) i
]

pub taken_same : (w : Packets) (l : ℕ) (d : Dir) (n j : ℕ) → Same j w (taken w l d n)
taken_same w l d n j = record {
  verdict = refl;
  path = refl;
  frames = λ c k i e. in_put w.flying (channel l d) (without_place n (flying_on w l d)) c k i (in_without n (flying_on w l d) k);
}

-- one token more on a channel
pub in_pushed : (f : ℕ → List Token) (c : ℕ) (k : Token) (d : ℕ) (x : Token) → In (put f c (f c ++ k ∷ []) d) x → In (f d) x ⊎ (k ≡ x)
in_pushed f c k d x i = elim (eqb_tells d c) [
  | inl q ↦ elim (in_append (f c) (k ∷ []) x (subst (λ xs. In xs x) (ap (put f c (f c ++ k ∷ [])) q.1 ∙ put_here f c (f c ++ k ∷ [])) i)) [
    | inl j ↦ inl (subst (λ b. In (f b) x) (sym q.1) j)
    | inr j ↦ elim j [ inl e ↦ inr e | inr z ↦ absurd z ]
  ]
  | inr q ↦ inl (subst (λ xs. In xs x) (put_off f c (f c ++ k ∷ []) d q.1) i)
]

-- a frame of another packet is sent
pub flown : Packets → Token → ℕ → Dir → Packets
flown w k l d = record (judged w k.packet (Flying (record { 0 = l }) d)) { flying = put w.flying (channel l d) (flying_on w l d ++ k ∷ []) }

pub flown_off : (w : Packets) (k : Token) (l : ℕ) (d : Dir) (j : ℕ) → j ≢ k.packet → Same j w (flown w k l d)
unfolding flown
flown_off w k l d j h = record {
  verdict = set_other w.verdicts k.packet j _ (Delivered 0 (record { 0 = 0 }) 0) h;
  path = refl;
  frames = λ c x i e. in_put w.flying (channel l d) (flying_on w l d ++ k ∷ []) c x i (λ g. old x e (in_append (flying_on w l d) (k ∷ []) x g));
}
  where
    old : (x : Token) → x.packet ≡ j → In (flying_on w l d) x ⊎ In (k ∷ []) x → In (flying_on w l d) x
    old x e g = elim g [ inl i ↦ i | inr i ↦ elim i [ inl q ↦ absurd (h (sym e ∙ ap (λ (y : Token). y.packet) (sym q))) | inr z ↦ absurd z ] ]

pub hop_off : (t : Network) (w : Packets) (k : Token) (x : ℕ) (r : Rule) (o : Option (ℕ × ℕ)) (j : ℕ) → j ≢ k.packet → Same j w (hop_over t w k x r o)
unfolding flown
hop_off t w k x r None j h = judged_off w k.packet (Dropped r (record { 0 = x })) j h
hop_off t w k x r (Some hop) j h = flown_off w k hop.1 (away_from t hop.1 x) j h

pub one_more_off : (w : Packets) (e j : ℕ) → j < length w.verdicts → j < length w.paths → Same j w (one_more w e)
one_more_off w e j h g = record {
  verdict = push_other w.verdicts j _ (Delivered 0 (record { 0 = 0 }) 0) h;
  path = push_other w.paths j _ [] g;
  frames = λ c k i e. i;
}

-- 3. By cases of a test

pub arms_by : {A : Type 0} (P : A → Type 0) (b : Bool) (x y : A) → (b ≡ true → P x) → (b ≡ false → P y) → P (elim b [ true ↦ x | false ↦ y ])
arms_by P true x y p q = p refl
arms_by P false x y p q = q refl

-- 4. An arrival

pub left_off : (v : World) (w : Packets) (k : Token) (y j : ℕ) → j ≢ k.packet → Same j w (leave v w k y)
left_off v w k y j h =
    arms_by (λ x. Same j w x) (is_attachment (v.config.attached k.site) k.attachment) _ _ (λ e. deliver_off w k.packet k.site (k.ttl - 1) k.bytes j h)
    (λ e. judged_off w k.packet (Dropped rule.SiteGone (record { 0 = y })) j h)

pub arrived_off : (t : Network) (v : World) (w : Packets) (k : Token) (y j : ℕ) → j ≢ k.packet → Same j w (arrive t v w k y)
arrived_off t v w k y j h =
    arms_by (λ x. Same j w x) (nat_le k.ttl 1) _ _ (λ e. judged_off w k.packet (Dropped rule.TtlExpired (record { 0 = y })) j h)
    (λ e. arms_by (λ x. Same j w x) (y == k.edge) _ _ (λ e. left_off v w k y j h)
    (λ e. hop_off t w (stamped w (record k { ttl = k.ttl - 1 })) y rule.NoEntry (usable t v.config v.views v.sessions y k.edge) j h))

-- 5. A link that is cut

-- the frames of a channel end: a packet that was among them is dropped, and another one is as before
pub cut_off : (ks : List Token) (w : Packets) (c n j : ℕ) → ((k : Token) → In ks k → k.packet ≢ j) → ((k : Token) → In ks k → In (w.flying c) k)
    → Same j w (cut_each w c n ks)
cut_off [] w c n j h g = unchanged j w
cut_off (k ∷ ks) w c n j h g =
    let u : Packets = record w { flying = put w.flying c ks } in
    let v : Packets = drop_at u k.packet rule.LinkCut n in
    let first : Same j w u = record { verdict = refl; path = refl; frames = λ d x i e. in_put w.flying c ks d x i (λ m. g x (inr m)) } in
    let second : Same j u v = judged_off u k.packet (Dropped rule.LinkCut (record { 0 = n })) j (λ e. h k (inl refl) (sym e)) in
    same_on j w u (cut_each v c n ks) first (same_on j u v (cut_each v c n ks) second
    (cut_off ks v c n j (λ x i. h x (inr i)) (λ x i. subst (λ xs. In xs x) (sym (put_here w.flying c ks)) i)))

-- once it is dropped so, it stays so
cut_kept : (ks : List Token) (w : Packets) (c n j : ℕ) → j < length w.verdicts → verdict_on w j ≡ Dropped rule.LinkCut (record { 0 = n })
    → verdict_on (cut_each w c n ks) j ≡ Dropped rule.LinkCut (record { 0 = n })
cut_kept [] w c n j b h = h
cut_kept (k ∷ ks) w c n j b h =
    let u : Packets = record w { flying = put w.flying c ks } in
    cut_kept ks (drop_at u k.packet rule.LinkCut n) c n j
    (subst (λ m. j < m) (sym (set_length w.verdicts k.packet (Dropped rule.LinkCut (record { 0 = n })))) b) (elim (eqb_tells j k.packet) [
      | inl q ↦ ap (verdict_on (drop_at u k.packet rule.LinkCut n)) q.1
          ∙ judged_here u k.packet (Dropped rule.LinkCut (record { 0 = n })) (subst (λ m. m < length w.verdicts) q.1 b)
      | inr q ↦ (judged_off u k.packet (Dropped rule.LinkCut (record { 0 = n })) j q.1).verdict ∙ h
    ])
  where
    set_length : {A : Type 0} (xs : List A) (i : ℕ) (v : A) → length (slice_set xs i v) ≡ length xs
    set_length xs i v = grind (arith, common_steps)

pub cut_here : (ks : List Token) (w : Packets) (c n : ℕ) (x : Token) → In ks x → x.packet < length w.verdicts
    → verdict_on (cut_each w c n ks) x.packet ≡ Dropped rule.LinkCut (record { 0 = n })
cut_here [] w c n x i b = absurd i
cut_here (k ∷ ks) w c n x i b =
    let u : Packets = record w { flying = put w.flying c ks } in
    let v : Packets = drop_at u k.packet rule.LinkCut n in
    let within : x.packet < length v.verdicts = subst (λ m. x.packet < m) (sym (set_length w.verdicts k.packet (Dropped rule.LinkCut (record { 0 = n })))) b in
    elim i [
      | inl e ↦
          let same : k.packet ≡ x.packet = ap (λ (y : Token). y.packet) e in
          cut_kept ks v c n x.packet within
          (ap (verdict_on v) (sym same)
          ∙ judged_here u k.packet (Dropped rule.LinkCut (record { 0 = n })) (subst (λ m. m < length w.verdicts) (sym same) b))
      | inr m ↦ cut_here ks v c n x m within
    ]
  where
    set_length : {A : Type 0} (xs : List A) (i : ℕ) (v : A) → length (slice_set xs i v) ≡ length xs
    set_length xs i v = grind (arith, common_steps)

-- frames of other channels fly on
pub cut_others : (ks : List Token) (w : Packets) (c n d : ℕ) → d ≢ c → (cut_each w c n ks).flying d ≡ w.flying d
cut_others [] w c n d h = refl
cut_others (k ∷ ks) w c n d h = cut_others ks (drop_at (record w { flying = put w.flying c ks }) k.packet rule.LinkCut n) c n d h ∙ put_off w.flying c ks d h

-- no path changes
pub cut_paths : (ks : List Token) (w : Packets) (c n : ℕ) → (cut_each w c n ks).paths ≡ w.paths
cut_paths [] w c n = refl
cut_paths (k ∷ ks) w c n = cut_paths ks (drop_at (record w { flying = put w.flying c ks }) k.packet rule.LinkCut n) c n

pub cut_counts : (ks : List Token) (w : Packets) (c n : ℕ) → ((cut_each w c n ks).copies ≡ w.copies) × ((cut_each w c n ks).delivered ≡ w.delivered)
    × (length (cut_each w c n ks).verdicts ≡ length w.verdicts)
cut_counts [] w c n = (refl, refl, refl)
cut_counts (k ∷ ks) w c n =
    let u : Packets = record w { flying = put w.flying c ks } in
    let rest = cut_counts ks (drop_at u k.packet rule.LinkCut n) c n in
    (rest.0, rest.1, rest.2 ∙ set_length w.verdicts k.packet (Dropped rule.LinkCut (record { 0 = n })))
  where
    set_length : {A : Type 0} (xs : List A) (i : ℕ) (v : A) → length (slice_set xs i v) ≡ length xs
    set_length xs i v = grind (arith, common_steps)

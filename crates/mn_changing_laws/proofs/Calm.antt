-- Steps that bring a packet no further: its path stays, none of its tokens is new, and it isn't dropped for its TTL.
use Rattle.std.proofs.Common.{ℕ, zero, suc, ◌≡◌, ◌≢◌, ◌+◌, ◌-◌, ◌<◌, ◌⊎◌, inl, inr, Bool, true, false, List, [], ◌∷◌, ◌++◌, length, get_or, refl, arith}
use Rattle.std.proofs.Common.{sym, ◌∙◌, ap, subst, Option, None, Some}
use Rattle.std.specs.Prelude.{◌==◌, nat_le, slice_get, slice_index_or, slice_set}
use Rattle.std.proofs.lemmas.Bool.Decides.{eqb_tells}
use Rattle.std.proofs.lemmas.List.{get_or-set_other}
use Rattle.std.proofs.lemmas.Grind.{common_steps}
use Rattle.mn_drops.specs.declared.drops.Rule.{Rule}
use Rattle.mn_drops.specs.declared.drops.Rule.TheVariants as rule
use Rattle.mn_wiring.specs.declared.links.Dir.{Dir}
use Rattle.mn_wiring.specs.declared.links.Dir.TheVariants.{Forth, Back}
use Rattle.mn_wiring.specs.Wiring.{sender, links_of}
use Rattle.mn_ipv4.specs.Header.{ttl_of, destination_of}
use Rattle.mn_topo.specs.Network.{Network, wiring_of}
use Rattle.mn_topo.specs.declared.steps.Step.{Step}
use Rattle.mn_topo.specs.declared.steps.Step.TheVariants.{Tick}
use Rattle.mn_ledger.specs.declared.verdict.Verdict.{Verdict}
use Rattle.mn_ledger.specs.declared.verdict.Verdict.TheVariants.{Delivered, Dropped, Flying}
use Rattle.mn_ledger.specs.Tables.{put}
use Rattle.mn_ledger.specs.World.{World}
use Rattle.mn_ledger.specs.Transport.{usable}
use Rattle.mn_ledger.specs.Held.{HeldRoute, best}
use Rattle.mn_ledger.specs.Eligible.{eligible}
use Rattle.mn_ledger.specs.Packets.{Token, Packets, channel, flying_on, away_from, judged, drop_at, visited, deliver, hop_over, stamped, bound, route_by}
use Rattle.mn_ledger.specs.Packets.{enter_by, one_more, without_place, taken, is_attachment, arrive, fall, cut_each, before_step}
use Rattle.mn_ledger.specs.Verdicts.{verdict_on}
use Rattle.mn_ledger.specs.Time.{is_overdue, expire_from, expire_over, timed_by}
use Rattle.mn_ledger.proofs.Members.{In, in_append}
use Rattle.mn_ledger.proofs.GoingBy.{put_here, put_off}

abbrev pub path_of : Packets → ℕ → List ℕ
path_of a j = slice_index_or a.paths j []

abbrev pub HasExpired : Packets → ℕ → Type 0
HasExpired a j = (n : ℕ) × (verdict_on a j ≡ Dropped rule.TtlExpired (record { 0 = n }))

pub record Calm (j : ℕ) (a b : Packets) : Type 0 where
  pub path : path_of b j ≡ path_of a j
  pub fewer : (at : ℕ) (k : Token) → In (b.flying at) k → k.packet ≡ j → In (a.flying at) k
  pub spared : HasExpired b j → HasExpired a j

pub calm-on : (j : ℕ) (a b c : Packets) → Calm j a b → Calm j b c → Calm j a c
calm-on j a b c f g = record { path = g.path ∙ f.path; fewer = λ at k i e. f.fewer at k (g.fewer at k i e) e; spared = λ h. f.spared (g.spared h) }

pub calm-same : (j : ℕ) (a : Packets) → Calm j a a
calm-same j a = record { path = refl; fewer = λ at k i e. i; spared = λ h. h }

-- 1. Verdicts

set-either : (vs : List Verdict) (p j : ℕ) (v d : Verdict) → (get_or (slice_set vs p v) j d ≡ v) ⊎ (get_or (slice_set vs p v) j d ≡ get_or vs j d)
set-either [] p j v d = inr refl
set-either (x ∷ xs) zero zero v d = inl refl
set-either (x ∷ xs) zero (suc j) v d = inr refl
set-either (x ∷ xs) (suc p) zero v d = inr refl
set-either (x ∷ xs) (suc p) (suc j) v d = set-either xs p j v d

pub calm-judged : (j p : ℕ) (a : Packets) (v : Verdict) → ((n : ℕ) → v ≡ Dropped rule.TtlExpired (record { 0 = n }) → ⊥) → Calm j a (judged a p v)
calm-judged j p a v other = record {
  path = refl;
  fewer = λ at k i e. i;
  spared = λ h. elim (set-either a.verdicts p j v (Delivered 0 (record { 0 = 0 }) 0)) [
    | inl e ↦ absurd (other h.0 (sym e ∙ h.1))
    | inr e ↦ (h.0, sym e ∙ h.1)
  ];
}

pub calm-drop : (j p : ℕ) (a : Packets) (cause : Rule) (x : ℕ) → cause ≢ rule.TtlExpired → Calm j a (drop_at a p cause x)
calm-drop j p a cause x d = calm-judged j p a (Dropped cause (record { 0 = x })) (λ n e. d (same n e))
  where
    same : (n : ℕ) → Dropped cause (record { 0 = x }) ≡ Dropped rule.TtlExpired (record { 0 = n }) → cause ≡ rule.TtlExpired
    same n e = cc

pub calm-deliver : (j p : ℕ) (a : Packets) (s ttl : ℕ) (b : List ℕ) → Calm j a (deliver a p s ttl b)
calm-deliver j p a s ttl b =
    let g = calm-judged j p a (Delivered ttl (record { 0 = s }) (a.copies + 1)) (λ n e. unlike n e) in
    record { path = g.path; fewer = g.fewer; spared = g.spared }
  where
    unlike : (n : ℕ) → Delivered ttl (record { 0 = s }) (a.copies + 1) ≡ Dropped rule.TtlExpired (record { 0 = n }) → ⊥
    unlike n e = cc

-- a verdict on another packet
calm-other : (j p : ℕ) (a : Packets) (v : Verdict) → j ≢ p → Calm j a (judged a p v)
calm-other j p a v d = record {
  path = refl;
  fewer = λ at k i e. i;
  spared = λ h. (h.0, sym (get_or-set_other a.verdicts p j v (Delivered 0 (record { 0 = 0 }) 0) d) ∙ h.1);
}

-- 2. Tokens that are taken

pub in_put : (f : ℕ → List Token) (c : ℕ) (ks : List Token) (at : ℕ) (k : Token) → In (put f c ks at) k
    → ((at ≡ c) × In ks k) ⊎ ((at ≢ c) × In (f at) k)
in_put f c ks at k i = elim (eqb_tells at c) [
  | inl q ↦ inl (q.1, subst (λ xs. In xs k) (ap (put f c ks) q.1 ∙ put_here f c ks) i)
  | inr q ↦ inr (q.1, subst (λ xs. In xs k) (put_off f c ks at q.1) i)
]

calm-fewer : (j c : ℕ) (ks : List Token) (a : Packets) → ((k : Token) → In ks k → In (a.flying c) k) → Calm j a (record a { flying = put a.flying c ks })
calm-fewer j c ks a sub = record {
  path = refl;
  fewer = λ at k i e. elim (in_put a.flying c ks at k i) [
    | inr q ↦ q.1
    | inl q ↦ subst (λ n. In (a.flying n) k) (sym q.0) (sub k q.1)
  ];
  spared = λ h. h;
}

in_without : (n : ℕ) (ks : List Token) (k : Token) → In (without_place n ks) k → In ks k
in_without n [] k i = i
in_without zero (x ∷ xs) k i = inr i
in_without (suc n) (x ∷ xs) k i = elim i [ inl e ↦ inl e | inr m ↦ inr (in_without n xs k m) ]

pub calm-taken : (j l : ℕ) (d : Dir) (n : ℕ) (a : Packets) → Calm j a (taken a l d n)
calm-taken j l d n a = calm-fewer j (channel l d) (without_place n (flying_on a l d)) a (λ k i. in_without n (flying_on a l d) k i)

pub calm-fall : (cause : Rule) (j l : ℕ) (d : Dir) (n x : ℕ) (a : Packets) (o : Option Token) → cause ≢ rule.TtlExpired
    → Calm j a (fall cause (taken a l d n) x o)
calm-fall cause j l d n x a None c = calm-taken j l d n a
calm-fall cause j l d n x a (Some k) c = calm-on j a (taken a l d n) _ (calm-taken j l d n a) (calm-drop j k.packet (taken a l d n) cause x c)

either-way : (j : ℕ) (a : Packets) (b : Bool) (x y : Packets) → Calm j a x → Calm j a y → Calm j a (elim b [ true ↦ x | false ↦ y ])
either-way j a true x y g h = g
either-way j a false x y g h = h

-- time goes on
calm-expire-from : (t : Network) (j clock l : ℕ) (d : Dir) (n : ℕ) (ks : List Token) (a : Packets) → Calm j a (expire_from t clock l d n ks a)
calm-expire-from t j clock l d n [] a = calm-same j a
calm-expire-from t j clock l d n (k ∷ ks) a =
    let gone : Packets = fall rule.Overdue (taken a l d n) (sender (wiring_of t) l d) (slice_get (flying_on a l d) n) in
    either-way j a (is_overdue t clock l k) _ _
    (calm-on j a gone _ (calm-fall rule.Overdue j l d n (sender (wiring_of t) l d) a (slice_get (flying_on a l d) n) unlike)
    (calm-expire-from t j clock l d n ks gone))
    (calm-expire-from t j clock l d (n + 1) ks a)
  where
    unlike : rule.Overdue ≢ rule.TtlExpired
    unlike e = cc

calm-expire-over : (t : Network) (j clock : ℕ) (ls : List ℕ) (a : Packets) → Calm j a (expire_over t clock ls a)
calm-expire-over t j clock [] a = calm-same j a
calm-expire-over t j clock (l ∷ ls) a =
    let one : Packets = expire_from t clock l Forth 0 (flying_on a l Forth) a in
    let two : Packets = expire_from t clock l Back 0 (flying_on one l Back) one in
    calm-on j a one _ (calm-expire-from t j clock l Forth 0 (flying_on a l Forth) a)
    (calm-on j one two _ (calm-expire-from t j clock l Back 0 (flying_on one l Back) one) (calm-expire-over t j clock ls two))

calm-clock : (j clock : ℕ) (a : Packets) → Calm j a (record a { clock = clock })
calm-clock j clock a = record { path = refl; fewer = λ at k i e. i; spared = λ h. h }

pub calm-timed : (t : Network) (j clock : ℕ) (s : Step) (a : Packets) → Calm j a (timed_by t clock s a)
calm-timed t j clock (Tick n) a =
    calm-on j a (record a { clock = clock }) _ (calm-clock j clock a) (calm-expire-over t j clock (links_of (wiring_of t)) (record a { clock = clock }))
calm-timed t j clock _ a = calm-clock j clock a

pub calm-begun : (j : ℕ) (a : Packets) → Calm j a (before_step a)
calm-begun j a = record { path = refl; fewer = λ at k i e. i; spared = λ h. h }

-- a link is cut
pub calm-cut : (j c x : ℕ) (ks : List Token) (a : Packets) → a.flying c ≡ ks → Calm j a (cut_each a c x ks)
calm-cut j c x [] a e = calm-same j a
calm-cut j c x (k ∷ ks) a e =
    let less : Packets = record a { flying = put a.flying c ks } in
    let dropped : Packets = drop_at less k.packet rule.LinkCut x in
    calm-on j a less _ (calm-fewer j c ks a (λ m i. subst (λ xs. In xs m) (sym e) (inr i)))
    (calm-on j less dropped _ (calm-drop j k.packet less rule.LinkCut x unlike) (calm-cut j c x ks dropped (put_here a.flying c ks)))
  where
    unlike : rule.LinkCut ≢ rule.TtlExpired
    unlike e = cc

-- 3. What is done with another packet

pub calm-visited : (j p n : ℕ) (a : Packets) → j ≢ p → Calm j a (visited a p n)
calm-visited j p n a d = record {
  path = get_or-set_other a.paths p j (slice_index_or a.paths p [] ++ n ∷ []) [] d;
  fewer = λ at k i e. i;
  spared = λ h. h;
}

calm-hop : (t : Network) (j : ℕ) (a : Packets) (k : Token) (x : ℕ) (r : Rule) (o : Option (ℕ × ℕ)) → j ≢ k.packet → Calm j a (hop_over t a k x r o)
calm-hop t j a k x r None d = calm-other j k.packet a (Dropped r (record { 0 = x })) d
calm-hop t j a k x r (Some h) d =
    let g = calm-other j k.packet a (Flying (record { 0 = h.1 }) (away_from t h.1 x)) d in
    let c : ℕ = channel h.1 (away_from t h.1 x) in
    record {
      path = g.path;
      fewer = λ at tok i e. elim (in_put a.flying c (a.flying c ++ k ∷ []) at tok i) [
        | inr q ↦ q.1
        | inl q ↦ elim (in_append (a.flying c) (k ∷ []) tok q.1) [
          | inl m ↦ subst (λ n. In (a.flying n) tok) (sym q.0) m
          | inr m ↦ elim m [ inl same ↦ absurd (d (sym e ∙ ap (λ (x : Token). x.packet) (sym same))) | inr none ↦ absurd none ]
        ]
      ];
      spared = g.spared;
    }

pub calm-arrive : (t : Network) (w : World) (j : ℕ) (a : Packets) (k : Token) (y : ℕ) → j ≢ k.packet → Calm j a (arrive t w a k y)
calm-arrive t w j a k y d =
    either-way j a (nat_le k.ttl 1) _ _ (calm-other j k.packet a (Dropped rule.TtlExpired (record { 0 = y })) d)
    (either-way j a (y == k.edge) _ _
    (either-way j a (is_attachment (w.config.attached k.site) k.attachment) _ _ (calm-deliver j k.packet a k.site (k.ttl - 1) k.bytes)
    (calm-other j k.packet a (Dropped rule.SiteGone (record { 0 = y })) d))
    (calm-hop t j a (stamped a (record k { ttl = k.ttl - 1 })) y rule.NoEntry (usable t w.config w.views w.sessions y k.edge) d))

calm-route : (t : Network) (w : World) (j p : ℕ) (a : Packets) (b : List ℕ) (e : ℕ) (o : Option HeldRoute) → j ≢ p → Calm j a (route_by t w a p b e o)
calm-route t w j p a b e None d = calm-other j p a (Dropped rule.NoRoute (record { 0 = e })) d
calm-route t w j p a b e (Some r) d =
    either-way j a (r.edge == e) _ _ (calm-deliver j p a r.site (ttl_of b - 1) b)
    (calm-hop t j a (stamped a (bound p r b)) e rule.NoLsp (usable t w.config w.views w.sessions e r.edge) d)

pub calm-enter : (t : Network) (w : World) (j p : ℕ) (a : Packets) (b : List ℕ) (e v : ℕ) (o : Option Rule) → j ≢ p → Calm j a (enter_by t w a p b e v o)
calm-enter t w j p a b e v (Some cause) d = calm-other j p a (Dropped cause (record { 0 = e })) d
calm-enter t w j p a b e v None d = calm-route t w j p a b e (best (eligible t w e v (destination_of b)) (destination_of b)) d

push-before : {A : Type 0} (xs : List A) (x d : A) (j : ℕ) → j < length xs → get_or (xs ++ x ∷ []) j d ≡ get_or xs j d
push-before xs x d j h = grind (arith, common_steps, h)

pub calm-more : (j : ℕ) (a : Packets) (e : ℕ) → j < length a.verdicts → j < length a.paths → Calm j a (one_more a e)
calm-more j a e h g = record {
  path = push-before a.paths (e ∷ []) [] j g;
  fewer = λ at k i f. i;
  spared = λ x. (x.0, sym (push-before a.verdicts (Dropped rule.Lost (record { 0 = e })) (Delivered 0 (record { 0 = 0 }) 0) j h) ∙ x.1);
}

-- Which frames fly after a step: those that flew, and one that its node sends on now.
use Rattle.std.proofs.Common.{ℕ, zero, suc, ◌≡◌, ◌≢◌, ◌⊎◌, inl, inr, Bool, true, false, List, [], ◌∷◌, ◌++◌, length, refl, sym, ◌∙◌, ap, subst, Option, Some}
use Rattle.std.proofs.Common.{None}
use Rattle.std.specs.Prelude.{◌==◌, ◌-◌, nat_le, slice_get}
use Rattle.std.proofs.lemmas.Bool.Decides.{eqb_tells}
use Rattle.mn_drops.specs.declared.drops.Rule.{Rule}
use Rattle.mn_drops.specs.declared.drops.Rule.TheVariants as rule
use Rattle.mn_wiring.specs.declared.links.Dir.{Dir}
use Rattle.mn_wiring.specs.declared.links.Dir.TheVariants.{Forth, Back}
use Rattle.mn_wiring.specs.Wiring.{sender, receiver}
use Rattle.mn_base.proofs.Bools.{other_numbers}
use Rattle.mn_base.proofs.Members.{In, in_append}
use Rattle.mn_ipv4.specs.Header.{ttl_of, destination_of}
use Rattle.mn_topo.specs.Network.{Network, wiring_of}
use Rattle.mn_topo.specs.declared.steps.Step.{Step}
use Rattle.mn_topo.specs.declared.steps.Step.TheVariants.{LinkDown, Inject, Carry, Lose}
use Rattle.mn_ledger.specs.Entry.{first_rule}
use Rattle.mn_ledger.specs.Tables.{put}
use Rattle.mn_ledger.specs.Places.{home_of, vrf_of}
use Rattle.mn_ledger.specs.World.{World}
use Rattle.mn_ledger.specs.Transport.{usable}
use Rattle.mn_ledger.specs.Held.{HeldRoute, best}
use Rattle.mn_ledger.specs.Eligible.{eligible}
use Rattle.mn_ledger.specs.Packets.{Token, Packets, channel, flying_on, away_from, drop_at, visited, deliver, hop_over, stamped, entry_rules, bound}
use Rattle.mn_ledger.specs.Packets.{route_by, enter_by, one_more, without_place, taken, is_attachment, arrive, carry, fall, cut_each, before_step}
use Rattle.mn_ledger.specs.Packets.{packets_after}
use Rattle.mn_ledger.proofs.GoingBy.{put_here, put_off}

-- a node that isn't its edge sends the packet on now, over the way that it has
pub record IsSentBy (t : Network) (v : World) (clock c node : ℕ) (token : Token) : Type 0 where
  pub hop : ℕ × ℕ
  pub apart : node ≢ token.edge
  pub way : usable t v.config v.views v.sessions node token.edge ≡ Some hop
  pub over : c ≡ channel hop.1 (away_from t hop.1 node)
  pub now : token.sent ≡ clock

-- one node sends
abbrev pub Grows : Network → World → ℕ → Packets → Packets → Type 0
Grows t v node k u = (u.clock ≡ k.clock) × ((c : ℕ) (token : Token) → In (u.flying c) token → In (k.flying c) token ⊎ IsSentBy t v k.clock c node token)

same : (t : Network) (v : World) (n : ℕ) (k u : Packets) → u.flying ≡ k.flying → u.clock ≡ k.clock → Grows t v n k u
same t v n k u e f = (f, λ c token i. inl (subst (λ (g : ℕ → List Token). In (g c) token) e i))

arms_by : {A : Type 0} (P : A → Type 0) (b : Bool) (x y : A) → (b ≡ true → P x) → (b ≡ false → P y) → P (elim b as (λ _. A) [ true ↦ x | false ↦ y ])
arms_by P true x y p q = p refl
arms_by P false x y p q = q refl

hops : (t : Network) (v : World) (k : Packets) (token : Token) (n : ℕ) (cause : Rule) → n ≢ token.edge → (o : Option (ℕ × ℕ))
    → usable t v.config v.views v.sessions n token.edge ≡ o → Grows t v n k (hop_over t k (stamped k token) n cause o)
hops t v k token n cause apart None e = same t v n k (drop_at k token.packet cause n) refl refl
hops t v k token n cause apart (Some hop) e = (
  refl,
  λ c other i. elim (eqb_tells c at) [
    | inr x ↦ inl (subst (λ xs. In xs other) (put_off k.flying at pushed c x.1) i)
    | inl x ↦ elim (in_append (k.flying at) (stamped k token ∷ []) other (subst (λ xs. In xs other) (ap (put k.flying at pushed) x.1
        ∙ put_here k.flying at pushed) i)) [
          | inl j ↦ inl (subst (λ b. In (k.flying b) other) (sym x.1) j)
          | inr j ↦ inr (elim j [
            | inl f ↦ subst (IsSentBy t v k.clock c n) f (record { hop = hop; apart = apart; way = e; over = x.1; now = refl })
            | inr g ↦ absurd g
          ])
        ]
  ],
)
  where
    at : ℕ
    at = channel hop.1 (away_from t hop.1 n)

    pushed : List Token
    pushed = k.flying (channel hop.1 (away_from t hop.1 n)) ++ stamped k token ∷ []

apart_back : (a b : ℕ) → (a == b) ≡ false → b ≢ a
apart_back a b h q = other_numbers a b h (sym q)

routes : (t : Network) (v : World) (k : Packets) (j : ℕ) (b : List ℕ) (n : ℕ) (o : Option HeldRoute) → Grows t v n k (route_by t v k j b n o)
routes t v k j b n None = same t v n k (drop_at k j rule.NoRoute n) refl refl
routes t v k j b n (Some route) =
    arms_by (Grows t v n k) (route.edge == n) _ _ (λ e. same t v n k (deliver k j route.site (ttl_of b - 1) b) refl refl)
    (λ e. hops t v k (bound j route b) n rule.NoLsp (apart_back route.edge n e) (usable t v.config v.views v.sessions n route.edge) refl)

enters : (t : Network) (v : World) (k : Packets) (j : ℕ) (b : List ℕ) (n vrf : ℕ) (o : Option Rule) → Grows t v n k (enter_by t v k j b n vrf o)
enters t v k j b n vrf (Some cause) = same t v n k (drop_at k j cause n) refl refl
enters t v k j b n vrf None = routes t v k j b n (best (eligible t v n vrf (destination_of b)) (destination_of b))

arrives : (t : Network) (v : World) (k : Packets) (token : Token) (y : ℕ) → Grows t v y k (arrive t v k token y)
arrives t v k token y =
    arms_by (Grows t v y k) (nat_le token.ttl 1) _ _ (λ a. same t v y k (drop_at k token.packet rule.TtlExpired y) refl refl)
    (λ a. arms_by (Grows t v y k) (y == token.edge) _ _
    (λ e. arms_by (Grows t v y k) (is_attachment (v.config.attached token.site) token.attachment) _ _
    (λ c. same t v y k (deliver k token.packet token.site (token.ttl - 1) token.bytes) refl refl)
    (λ c. same t v y k (drop_at k token.packet rule.SiteGone y) refl refl))
    (λ e. hops t v k (record token { ttl = token.ttl - 1 }) y rule.NoEntry (other_numbers y token.edge e)
    (usable t v.config v.views v.sessions y token.edge) refl))

-- fewer fly
abbrev pub Fewer : Packets → Packets → Type 0
Fewer k u = (u.clock ≡ k.clock) × ((c : ℕ) (token : Token) → In (u.flying c) token → In (k.flying c) token)

in_without : (n : ℕ) (ks : List Token) (x : Token) → In (without_place n ks) x → In ks x
in_without n [] x i = absurd i
in_without zero (k ∷ ks) x i = inr i
in_without (suc n) (k ∷ ks) x i = elim i [ inl e ↦ inl e | inr j ↦ inr (in_without n ks x j) ]

put_fewer : (f : ℕ → List Token) (at : ℕ) (ks : List Token) → ((x : Token) → In ks x → In (f at) x) → (c : ℕ) (x : Token) → In (put f at ks c) x → In (f c) x
put_fewer f at ks h c x i = elim (eqb_tells c at) [
  | inl e ↦ subst (λ b. In (f b) x) (sym e.1) (h x (subst (λ xs. In xs x) (ap (put f at ks) e.1 ∙ put_here f at ks) i))
  | inr e ↦ subst (λ xs. In xs x) (put_off f at ks c e.1) i
]

taken_fewer : (k : Packets) (l : ℕ) (d : Dir) (n : ℕ) → Fewer k (taken k l d n)
taken_fewer k l d n = (refl, put_fewer k.flying (channel l d) (without_place n (flying_on k l d)) (λ x i. in_without n (flying_on k l d) x i))

pub fall_fewer : (cause : Rule) (k u : Packets) (n : ℕ) (o : Option Token) → Fewer k u → Fewer k (fall cause u n o)
fall_fewer cause k u n None h = h
fall_fewer cause k u n (Some token) h = (h.0, h.1)

carries : (t : Network) (v : World) (k : Packets) (l : ℕ) (d : Dir) (n y : ℕ) (o : Option Token) → Grows t v y k (carry t v (taken k l d n) y o)
carries t v k l d n y None = ((taken_fewer k l d n).0, λ c token i. inl ((taken_fewer k l d n).1 c token i))
carries t v k l d n y (Some token) =
    let u : Packets = visited (taken k l d n) token.packet y in
    let grown = arrives t v u token y in
    (grown.0, λ c other i. elim (grown.1 c other i) [ inl j ↦ inl ((taken_fewer k l d n).1 c other j) | inr j ↦ inr j ])

cuts : (ks : List Token) (k : Packets) (at n : ℕ) → ((x : Token) → In ks x → In (k.flying at) x) → Fewer k (cut_each k at n ks)
cuts [] k at n h = (refl, λ c x i. i)
cuts (token ∷ ks) k at n h =
    let u : Packets = drop_at (record k { flying = put k.flying at ks }) token.packet rule.LinkCut n in
    let less = put_fewer k.flying at ks (λ x i. h x (inr i)) in
    let rest = cuts ks u at n (λ x i. subst (λ xs. In xs x) (sym (put_here k.flying at ks)) i) in
    (rest.0, λ c x i. less c x (rest.1 c x i))

-- the node that may send in a step
pub sends_in : Network → Step → ℕ
sends_in t (Inject s number) = home_of t s.0
sends_in t (Carry l dir place) = receiver (wiring_of t) l.0 dir
sends_in t _ = 0

pub grows : (t : Network) (v : World) (k : Packets) (s : Step) (b : List ℕ) → Grows t v (sends_in t s) k (packets_after t v k s b)
unfolding packets_after sends_in
grows t v k (Inject s number) b =
    enters t v (one_more (before_step k) (home_of t s.0)) (length k.verdicts) b (home_of t s.0) (vrf_of t s.0)
    (first_rule (entry_rules (v.config.attached s.0) b))
grows t v k (Carry l dir place) b = carries t v (before_step k) l.0 dir place (receiver (wiring_of t) l.0 dir) (slice_get (flying_on k l.0 dir) place)
grows t v k (Lose l dir place) b =
    let less = fall_fewer rule.Lost (before_step k) (taken (before_step k) l.0 dir place) (sender (wiring_of t) l.0 dir) (slice_get (flying_on k l.0 dir) place)
    (taken_fewer (before_step k) l.0 dir place) in
    (less.0, λ c token i. inl (less.1 c token i))
grows t v k (LinkDown l) b =
    let one = cuts (flying_on (before_step k) l.0 Forth) (before_step k) (channel l.0 Forth) (sender (wiring_of t) l.0 Forth) (λ x i. i) in
    let two = cuts (flying_on (cut_each (before_step k) (channel l.0 Forth) (sender (wiring_of t) l.0 Forth) (flying_on (before_step k) l.0 Forth)) l.0 Back)
    (cut_each (before_step k) (channel l.0 Forth) (sender (wiring_of t) l.0 Forth) (flying_on (before_step k) l.0 Forth))
    (channel l.0 Back) (sender (wiring_of t) l.0 Back) (λ x i. i) in
    (two.0 ∙ one.0, λ c token i. inl (one.1 c token (two.1 c token i)))
grows t v k _ b = (refl, λ c token i. inl i)

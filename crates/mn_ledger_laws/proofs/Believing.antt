-- What is believed is what was announced last.
use Rattle.std.proofs.Common.{ℕ, ◌≡◌, ◌⊎◌, inl, inr, Bool, true, false, List, [], ◌∷◌, ◌++◌, filter, refl, sym, ◌∙◌, ap, subst}
use Rattle.std.specs.Prelude.{◌==◌, ◌&&◌, ◌||◌, not, if◌then◌else◌}
use Rattle.std.specs.List.{list_any}
use Rattle.std.proofs.lemmas.Bool.Decides.{eqb_tells}
use Rattle.mn_base.proofs.Bools.{no, or_off, not_true, not_on, other_test}
use Rattle.mn_prefix.specs.Prefix.{AddressBlock, same_prefix}
use Rattle.mn_ledger.specs.World.{Config, Export, Telling, Open, BgpKeepAlive, Announcement, Withdrawal, Peerings}
use Rattle.mn_ledger.specs.Bgp.{peers_live, is_for}
use Rattle.mn_ledger.specs.Held.{believed_after, believed_from, heard_of, believed}
use Rattle.mn_ledger.proofs.Members.{In, in_append, in_front, in_rest, in_filter, filter_in, in_contained, contained_in}
use Rattle.mn_ledger_laws.specs.Believed.{mentions, IsLastMention, BelievesLastMentions}

-- 1. Tests of VRF and prefix

turned : (a b : ℕ) → (a == b) ≡ (b == a)
turned a b = elim (eqb_tells a b) [ inl q ↦ q.0 ∙ sym (ap (λ m. m == a) (sym q.1) ∙ same a) | inr q ↦ q.0 ∙ sym (other_test b a (λ e. q.1 (sym e))) ]
  where
    same : (n : ℕ) → (n == n) ≡ true
    same n = elim (eqb_tells n n) [ inl p ↦ p.0 | inr p ↦ absurd (p.1 refl) ]

prefix_turned : (p q : AddressBlock) → same_prefix p q ≡ same_prefix q p
prefix_turned p q = ap (λ b. b && (p.length == q.length)) (turned p.address q.address) ∙ ap (λ b. (q.address == p.address) && b) (turned p.length q.length)

both_turned : (v w : ℕ) (p q : AddressBlock) → ((v == w) && same_prefix p q) ≡ ((w == v) && same_prefix q p)
both_turned v w p q = ap (λ b. b && same_prefix p q) (turned v w) ∙ ap (λ b. (w == v) && b) (prefix_turned p q)

-- 2. What is believed, from what was believed before

abbrev Unmentioned : List Telling → Export → Type 0
Unmentioned ms x = list_any (mentions x.vrf x.prefix) ms ≡ false

-- announced last, or believed before and not mentioned since
abbrev LastOrBefore : List Export → List Telling → Export → Type 0
LastOrBefore es ms x = IsLastMention ms x ⊎ (In es x × Unmentioned ms x)

one_earlier : (m : Telling) (ms : List Telling) (x : Export) → IsLastMention ms x → IsLastMention (m ∷ ms) x
one_earlier m ms x h = record { before = m ∷ h.before; after = h.after; split = ap (λ ys. m ∷ ys) h.split; last = h.last }

none_more : (m : Telling) (ms : List Telling) (x : Export) → mentions x.vrf x.prefix m ≡ false → Unmentioned ms x → Unmentioned (m ∷ ms) x
none_more m ms x h g = ap (λ b. b || list_any (mentions x.vrf x.prefix) ms) h ∙ g

kept_through : (m : Telling) (es fs : List Export) (ms : List Telling) (x : Export) → (In fs x → Unmentioned ms x → LastOrBefore es (m ∷ ms) x)
    → LastOrBefore fs ms x → LastOrBefore es (m ∷ ms) x
kept_through m es fs ms x h g = elim g [ inl l ↦ inl (one_earlier m ms x l) | inr k ↦ h k.0 k.1 ]

from_believed : (es : List Export) (ms : List Telling) (x : Export) → In (believed_from es ms) x → LastOrBefore es ms x
from_believed es [] x i = inr (i, refl)
from_believed es (Announcement e ∷ ms) x i =
    kept_through (Announcement e) es (believed_after es (Announcement e)) ms x
    (λ j none. elim (in_append (filter (λ other. not (is_for e.vrf e.prefix other)) es) (e ∷ []) x j) [
      | inl k ↦
          let f = in_filter (λ other. not (is_for e.vrf e.prefix other)) es x k in
          inr (f.0, none_more (Announcement e) ms x (both_turned x.vrf e.vrf x.prefix e.prefix ∙ not_true (is_for e.vrf e.prefix x) f.1) none)
      | inr k ↦ elim k [
        | inl q ↦ inl (record { before = []; after = ms; split = ap (λ y. Announcement y ∷ ms) q; last = none })
        | inr z ↦ absurd z
      ]
    ])
    (from_believed (believed_after es (Announcement e)) ms x i)
from_believed es (Withdrawal v p ∷ ms) x i =
    kept_through (Withdrawal v p) es (believed_after es (Withdrawal v p)) ms x
    (λ j none. let f = in_filter (λ other. not (is_for v p other)) es x j in
    inr (f.0, none_more (Withdrawal v p) ms x (both_turned x.vrf v x.prefix p ∙ not_true (is_for v p x) f.1) none))
    (from_believed (believed_after es (Withdrawal v p)) ms x i)
from_believed es (Open ∷ ms) x i = kept_through Open es es ms x (λ j none. inr (j, none)) (from_believed es ms x i)
from_believed es (BgpKeepAlive ∷ ms) x i = kept_through BgpKeepAlive es es ms x (λ j none. inr (j, none)) (from_believed es ms x i)

-- 3. And back

still_in : (es : List Export) (m : Telling) (x : Export) → mentions x.vrf x.prefix m ≡ false → In es x → In (believed_after es m) x
still_in es (Announcement e) x h i =
    in_front (filter (λ other. not (is_for e.vrf e.prefix other)) es) (e ∷ []) x
    (filter_in (λ other. not (is_for e.vrf e.prefix other)) es x i (not_on (is_for e.vrf e.prefix x) (both_turned e.vrf x.vrf e.prefix x.prefix ∙ h)))
still_in es (Withdrawal v p) x h i = filter_in (λ other. not (is_for v p other)) es x i (not_on (is_for v p x) (both_turned v x.vrf p x.prefix ∙ h))
still_in es Open x h i = i
still_in es BgpKeepAlive x h i = i

kept_on : (es : List Export) (ms : List Telling) (x : Export) → In es x → Unmentioned ms x → In (believed_from es ms) x
kept_on es [] x i h = i
kept_on es (m ∷ ms) x i h = let parts = or_off (mentions x.vrf x.prefix m) (list_any (mentions x.vrf x.prefix) ms) h in kept_on
    (believed_after es m) ms x (still_in es m x parts.0 i) parts.1

announced : (es : List Export) (before after : List Telling) (x : Export) → Unmentioned after x → In (believed_from es (before ++ Announcement x ∷ after)) x
announced es [] after x h = kept_on (believed_after es (Announcement x)) after x
    (in_rest (filter (λ other. not (is_for x.vrf x.prefix other)) es) (x ∷ []) x (inl refl)) h
announced es (m ∷ before) after x h = announced (believed_after es m) before after x h

-- 4. Where the session lives

live_in : (b : Bool) (xs : List Export) (x : Export) → In (if b then xs else []) x → (b ≡ true) × In xs x
live_in true xs x i = (refl, i)
live_in false xs x i = absurd i

in_live : (b : Bool) (xs : List Export) (x : Export) → b ≡ true → In xs x → In (if b then xs else []) x
in_live true xs x h i = i
in_live false xs x h i = absurd (no h)

last_of : (ms : List Telling) (x : Export) → LastOrBefore [] ms x → IsLastMention ms x
last_of ms x h = elim h [ inl l ↦ l | inr k ↦ absurd k.0 ]

pub believed_last : (c : Config) (p : Peerings) (edge peer : ℕ) (x : Export) → In (believed c p edge peer) x
    → (peers_live c edge peer ≡ true) × IsLastMention (heard_of p edge peer) x
believed_last c p edge peer x i =
    let l = live_in (peers_live c edge peer) (believed_from [] (heard_of p edge peer)) x i in
    (l.0, last_of (heard_of p edge peer) x (from_believed [] (heard_of p edge peer) x l.1))

-- what is believed was announced
pub announced_in : (ms : List Telling) (x : Export) → IsLastMention ms x → In ms (Announcement x)
announced_in ms x h = subst (λ ys. In ys (Announcement x)) (sym h.split) (in_rest h.before (Announcement x ∷ h.after) (Announcement x) (inl refl))

pub believes_last_mentions : (c : Config) (p : Peerings) (edge peer : ℕ) (x : Export) → BelievesLastMentions c p edge peer x
believes_last_mentions c p edge peer x = record {
  live = λ h. (believed_last c p edge peer x (in_contained (believed c p edge peer) x h)).0;
  mentioned = λ h. (believed_last c p edge peer x (in_contained (believed c p edge peer) x h)).1;
  believed = λ live h. contained_in (believed c p edge peer) x
      (in_live (peers_live c edge peer) (believed_from [] (heard_of p edge peer)) x live
      (subst (λ ms. In (believed_from [] ms) x) (sym h.split) (announced [] h.before h.after x h.last)));
}

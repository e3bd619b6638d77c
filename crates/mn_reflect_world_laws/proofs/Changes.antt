-- A change of what is offered, as the letters that tell of it.
use Rattle.std.proofs.Common.{ℕ, zero, suc, ◌≡◌, ◌+◌, inl, inr, Bool, true, false, cond, List, [], ◌∷◌, ◌++◌, map, length}
use Rattle.std.proofs.Common.{Some, None, Option, refl, arith, sym, ◌∙◌, ap, subst}
use Rattle.std.specs.Prelude.{◌==◌, ◌&&◌, nat_le, if◌then◌else◌, option_map}
use Rattle.std.specs.List.{flat_map, range_with_len}
use Rattle.std.proofs.lemmas.List.{map-append}
use Rattle.mn_base.specs.declared.numbers.NodeNo.{NodeNo}
use Rattle.mn_base.proofs.Bools.{no, and_false, same_test, same_numbers, at_most_is, two_ways}
use Rattle.mn_base.proofs.Members.{In}
use Rattle.mn_topo.specs.Network.{Network}
use Rattle.mn_ledger.specs.Places.{loopback, edge_of, home_of}
use Rattle.mn_ledger.specs.World.{Config}
use Rattle.mn_ledger.specs.Exports.{same_targets}
use Rattle.mn_ledger.specs.Bgp.{peers_live, state_heard}
use Rattle.mn_bgp_wire.specs.Written.{update_bytes, announced}
use Rattle.mn_bgp_reflected.specs.Written.{reflected}
use Rattle.mn_bgp_session.specs.declared.session.BgpSession.{BgpSession}
use Rattle.mn_bgp_spelling_laws.specs.Spelling.{Labels, as_targets, route_of}
use Rattle.mn_routing_laws.specs.Sending.{is_steady, peers_from}
use Rattle.mn_routing_laws.proofs.Steady.{node_no}
use Rattle.mn_mail.specs.Mail.{Letter}
use Rattle.mn_reflect_ledger_laws.specs.Words.{Key, Offer, Announce, key_of, same_key, same_offer, change}
use Rattle.mn_reflect_ledger_laws.specs.Picks.{ReflectWorld, is_established, is_reflector}
use Rattle.mn_reflect_ledger_laws.specs.World.{says}
use Rattle.mn_reflect_ledger_laws.proofs.Mentions.{key_itself}
use Rattle.mn_reflect_world_laws.specs.Kept.{route_in}
use Rattle.mn_reflect_world_laws.specs.Spelling.{hop_of, letter_in, letters_in}
use Rattle.mn_reflect_world_laws.specs.Now.{session_in}
use Rattle.mn_reflect_world_laws.specs.Letters.{reflected_letter, numbers, says_same, change_letters}
use Rattle.mn_reflect_world_laws.proofs.Given.{AreGiven}
use Rattle.mn_reflect_world_laws.proofs.Config.{IsMade}

-- 1. Announcements that say the same

numbers_of : (xs : List ℕ) → numbers (as_targets xs) ≡ xs
numbers_of [] = refl
numbers_of (x ∷ xs) = ap (λ ys. x ∷ ys) (numbers_of xs)

both_off : (a b c : Bool) → a ≡ false → (a && (b && c)) ≡ false
both_off a b c h = ap (λ x. x && (b && c)) h

second_off : (a b c : Bool) → b ≡ false → (a && (b && c)) ≡ false
second_off true b c h = ap (λ x. x && c) h
second_off false b c h = refl

targets_themselves : (ts : List ℕ) → same_targets ts ts ≡ true
targets_themselves [] = refl
targets_themselves (x ∷ ts) = ap (λ b. b && same_targets ts ts) (same_test x) ∙ targets_themselves ts

pub offer_itself : (x : Offer) → same_offer x x ≡ true
offer_itself x =
    ap (λ b. b && ((x.export.site == x.export.site) && ((x.export.attachment == x.export.attachment)
    && (same_targets x.export.targets x.export.targets && same_targets x.clusters x.clusters)))) (key_itself (key_of x))
    ∙ ap (λ b. b && ((x.export.attachment == x.export.attachment)
    && (same_targets x.export.targets x.export.targets && same_targets x.clusters x.clusters))) (same_test x.export.site)
    ∙ ap (λ b. b && (same_targets x.export.targets x.export.targets && same_targets x.clusters x.clusters)) (same_test x.export.attachment)
    ∙ ap (λ b. b && same_targets x.clusters x.clusters) (targets_themselves x.export.targets)
    ∙ targets_themselves x.clusters

-- nothing is said of what stays
pub no_change : (key : Key) (o : Option Offer) → change key o o ≡ []
no_change key None = refl
no_change key (Some x) = ap (λ b. if b then [] else Announce x ∷ []) (offer_itself x)

module _ (t : Network) (c : Config) (l : Labels) (given : AreGiven t c l) (x y : Offer) (made : IsMade t c x.export) (also : IsMade t c y.export)
    (same_vrf : x.export.vrf ≡ y.export.vrf) where
  abbrev rest : Bool
  rest = same_targets x.export.targets y.export.targets && same_targets x.clusters y.clusters

  one_home : home_of t x.export.site ≡ home_of t y.export.site
  one_home = ap (edge_of t) (made.of_vrf ∙ same_vrf ∙ sym also.of_vrf)

  -- labels tell attachments of an edge apart
  by_label : ((l x.export.site x.export.attachment == l y.export.site y.export.attachment) && rest)
      ≡ ((x.export.site == y.export.site) && ((x.export.attachment == y.export.attachment) && rest))
  by_label = elim (two_ways (l x.export.site x.export.attachment == l y.export.site y.export.attachment)) [
    | inl e ↦
        (let same = given.apart x.export.site x.export.attachment y.export.site y.export.attachment made.attachment also.attachment one_home
        (same_numbers (l x.export.site x.export.attachment) (l y.export.site y.export.attachment) e) in
        ap (λ b. b && rest) e
        ∙ sym (ap (λ b. b && ((x.export.attachment == y.export.attachment) && rest)) (subst (λ n. (x.export.site == n) ≡ true) same.0 (same_test x.export.site))
        ∙ ap (λ b. b && rest) (subst (λ n. (x.export.attachment == n) ≡ true) same.1 (same_test x.export.attachment))))
    | inr e ↦ ap (λ b. b && rest) e ∙ sym (elim (two_ways (x.export.site == y.export.site)) [
      | inr g ↦ both_off (x.export.site == y.export.site) (x.export.attachment == y.export.attachment) rest g
      | inl g ↦ elim (two_ways (x.export.attachment == y.export.attachment)) [
        | inr h ↦ second_off (x.export.site == y.export.site) (x.export.attachment == y.export.attachment) rest h
        | inl h ↦ absurd (no (sym e ∙ subst (λ n. (l x.export.site x.export.attachment == l n y.export.attachment) ≡ true)
            (same_numbers x.export.site y.export.site g)
            (subst (λ n. (l x.export.site x.export.attachment == l x.export.site n) ≡ true) (same_numbers x.export.attachment y.export.attachment h)
            (same_test (l x.export.site x.export.attachment)))))
      ]
    ])
  ]

  pub says_same_is : same_key (key_of x) (key_of y) ≡ true → says_same (route_in l x) (route_in l y) ≡ same_offer x y
  says_same_is named =
      ap (λ ts. (l x.export.site x.export.attachment == l y.export.site y.export.attachment)
      && (same_targets ts (numbers (as_targets y.export.targets)) && same_targets x.clusters y.clusters)) (numbers_of x.export.targets)
      ∙ ap (λ ts. (l x.export.site x.export.attachment == l y.export.site y.export.attachment)
      && (same_targets x.export.targets ts && same_targets x.clusters y.clusters)) (numbers_of y.export.targets)
      ∙ by_label
      ∙ sym (ap (λ b. b && ((x.export.site == y.export.site) && ((x.export.attachment == y.export.attachment) && rest))) named)

-- 2. A change as letters

module _ (t : Network) (reflectors : List ℕ) (l : Labels) (n p : ℕ) (is : is_reflector reflectors n ≡ true) where
  announced_letter : (x : Offer) → letter_in t reflectors l (record { from = n; to = p; word = Announce x }) ≡ reflected_letter t n p (route_in l x)
  announced_letter x =
      ap (λ b. let r : Letter = record {
        from = n;
        to = p;
        bytes = if b then update_bytes (reflected (hop_of t x) (route_of t l x.export) (as_targets x.export.targets) (hop_of t x) x.clusters)
            else update_bytes (announced (hop_of t x) (route_of t l x.export) (as_targets x.export.targets));
      } in r) is

  -- what is offered is named so, over attachments that were made
  abbrev pub IsOf : Config → Key → Option Offer → Type 0
  IsOf c key offer = (x : Offer) → offer ≡ Some x → (key_of x ≡ key) × IsMade t c x.export

  pub change_is : (c : Config) → AreGiven t c l → (key : Key) (old new : Option Offer) → IsOf c key old → IsOf c key new →
      letters_in t reflectors l (says n p (change key old new)) ≡ change_letters t n p key (option_map (route_in l) old) (option_map (route_in l) new)
  change_is c given key None None f g = refl
  change_is c given key (Some x) None f g = refl
  change_is c given key None (Some y) f g = ap (λ r. r ∷ []) (announced_letter y)
  change_is c given key (Some x) (Some y) f g =
      by (same_offer x y) ∙ sym (ap (λ b. if b then [] else reflected_letter t n p (route_in l y) ∷ [])
      (says_same_is t c l given x y (f x refl).1 (g y refl).1 (ap (λ (k : Key). k.vrf) ((f x refl).0 ∙ sym (g y refl).0))
      (subst (λ k. same_key (key_of x) k ≡ true) ((f x refl).0 ∙ sym (g y refl).0) (key_itself (key_of x)))))
    where
      by : (b : Bool) → letters_in t reflectors l (says n p (if b then [] else Announce y ∷ []))
          ≡ (if b then [] else reflected_letter t n p (route_in l y) ∷ [])
      by true = refl
      by false = ap (λ r. r ∷ []) (announced_letter y)

-- 3. Lists of letters

pub map_flat : {A B C : Type 0} (f : B → C) (g : A → List B) (xs : List A) → map f (flat_map g xs) ≡ flat_map (λ x. map f (g x)) xs
map_flat f g [] = refl
map_flat f g (x ∷ xs) = map-append f (g x) (flat_map g xs) ∙ ap (λ ys. map f (g x) ++ ys) (map_flat f g xs)

pub flat_same_in : {A B : Type 0} (f g : A → List B) (xs : List A) → ((x : A) → In xs x → f x ≡ g x) → flat_map f xs ≡ flat_map g xs
flat_same_in f g [] h = refl
flat_same_in f g (x ∷ xs) h = ap (λ ys. ys ++ flat_map f xs) (h x (inl refl)) ∙ ap (λ ys. g x ++ ys) (flat_same_in f g xs (λ y i. h y (inr i)))

-- 4. The peers with which a session is Established

established_by : (b : Bool) (asn me peer count : ℕ) →
    is_steady (if b then Some (let r : BgpSession = record { asn = asn; me = me; peer = peer; state = state_heard count } in r) else None)
    ≡ (b && nat_le 2 count)
established_by false asn me peer count = refl
established_by true asn me peer zero = refl
established_by true asn me peer (suc zero) = refl
established_by true asn me peer (suc (suc n)) = sym (at_most_is 2 (suc (suc n)) (omega arith))

pub steady_is : (t : Network) (w : ReflectWorld) (n p : ℕ) → is_steady (session_in t w n p) ≡ is_established w n p
steady_is t w n p = established_by (peers_live w.config n p) t.asn (loopback t n) (loopback t p) (length (w.heard n p))

-- where an end that is steady was so before, those that were and are steady are those that are
pub still_steady : (w u : ReflectWorld) (n p : ℕ) → (is_established u n p ≡ true → is_established w n p ≡ true)
    → (is_established w n p && is_established u n p) ≡ is_established u n p
still_steady w u n p settled = by (is_established u n p) refl
  where
    by : (b : Bool) → is_established u n p ≡ b → (is_established w n p && is_established u n p) ≡ is_established u n p
    by true e = ap (λ x. x && is_established u n p) (settled e)
    by false e = ap (λ x. is_established w n p && x) e ∙ and_false (is_established w n p) ∙ sym e

-- what goes to each of them
pub to_steady : {B : Type 0} (f : ℕ → Option BgpSession) (g : ℕ → List B) (from size : ℕ) →
    flat_map (λ (peer : NodeNo). g peer.0) (peers_from from (map f (range_with_len from size)))
    ≡ flat_map (λ p. cond (is_steady (f p)) (g p) []) (range_with_len from size)
to_steady f g from zero = refl
to_steady f g from (suc size) = by (is_steady (f from)) (to_steady f g (from + 1) size)
  where
    by : (b : Bool) → flat_map (λ (peer : NodeNo). g peer.0) (peers_from (from + 1) (map f (range_with_len (from + 1) size)))
        ≡ flat_map (λ p. cond (is_steady (f p)) (g p) []) (range_with_len (from + 1) size) →
        flat_map (λ (peer : NodeNo). g peer.0) (if b then node_no from ∷ peers_from (from + 1) (map f (range_with_len (from + 1) size))
        else peers_from (from + 1) (map f (range_with_len (from + 1) size)))
        ≡ cond b (g from) [] ++ flat_map (λ p. cond (is_steady (f p)) (g p) []) (range_with_len (from + 1) size)
    by true h = ap (λ ys. g from ++ ys) h
    by false h = h

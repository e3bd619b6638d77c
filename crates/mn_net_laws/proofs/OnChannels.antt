-- As many items fly on a channel of the ledger as keys have its number.
use Rattle.std.proofs.Common.{ℕ, suc, ◌≡◌, ◌+◌, ◌*◌, ◌<◌, Bool, true, false, cond, List, [], ◌∷◌, length, refl, sym, ap, ◌∙◌, Option, Some, None}
use Rattle.std.specs.Prelude.{◌==◌, nat_lt}
use Rattle.mn_wiring.specs.Wiring.{sender}
use Rattle.mn_wiring.specs.declared.links.Dir.{Dir}
use Rattle.mn_base.proofs.Bools.{and_on, less_is}
use Rattle.mn_topo.specs.Lawful.{IsLawful}
use Rattle.mn_topo.specs.Network.{Network, wiring_of}
use Rattle.mn_topo.specs.declared.steps.Step.TheVariants.{Learn, HearLdp, HearBgp}
use Rattle.mn_ledger.specs.Packets.{channel}
use Rattle.mn_ledger.specs.Items.{Channel, Notices, Messages, Routes, Frames, Notice, Item, same_channel, items_on, without}
use Rattle.mn_timetable_laws.specs.Keys.{Key, Numbering, of_notices, of_messages, of_routes, with_key, keys_on, keys_by, is_number, key_without, Names, IsThere}
use Rattle.mn_timetable_laws.proofs.OtherKeys.{notices_left, messages_left, routes_left}
use Rattle.mn_net_laws.specs.Refusal.{count_on}
pub use Rattle.mn_timetable_laws.proofs.OtherKeys.{names as names_all}

-- 1. Where the numbering names a channel by a number

abbrev key_at : ℕ → Item → Key
key_at d x = record { channel = d; due = x.due; number = x.number }

pub counted_names : (number : Numbering) (on : Channel) (c : ℕ) (xs : List Item) → Names number on c xs →
    length (items_on on xs) ≡ count_on c (keys_on number xs)
counted_names number on c [] h = refl
counted_names number on c (x ∷ xs) h = by (number x.on) h.0 (counted_names number on c xs h.1)
  where
    by : (o : Option ℕ) → same_channel on x.on ≡ is_number c o → length (items_on on xs) ≡ count_on c (keys_on number xs) →
        length (cond (same_channel on x.on) (x ∷ items_on on xs) (items_on on xs)) ≡ count_on c (with_key o x (keys_on number xs))
    by None e rest = ap (λ b. length (cond b (x ∷ items_on on xs) (items_on on xs))) e ∙ rest
    by (Some d) e rest = ap (λ b. length (cond b (x ∷ items_on on xs) (items_on on xs))) e ∙ split (d == c) rest
      where
        split : (b : Bool) → length (items_on on xs) ≡ count_on c (keys_on number xs) →
            length (cond b (x ∷ items_on on xs) (items_on on xs)) ≡ length
            (cond b (key_at d x ∷ keys_by (λ n. n == c) (keys_on number xs)) (keys_by (λ n. n == c) (keys_on number xs)))
        split true r = ap suc r
        split false r = r

-- 2. An item alone on its channel leaves where its number does

abbrev alone : Channel → Item
alone on = record { number = 0; due = 0; on = on; load = Notice }

abbrev key_of_it : ℕ → Key
key_of_it d = record { channel = d; due = 0; number = 0 }

goes_both : (b c : Bool) (k : Key) → cond b [] (k ∷ []) ≡ cond c [] (k ∷ []) → b ≡ c
goes_both true true k e = refl
goes_both false false k e = refl
goes_both true false k e = cc
goes_both false true k e = cc

kept_keys : (number : Numbering) (on : Channel) (d : ℕ) (b : Bool) → number on ≡ Some d →
    keys_on number (cond b [] (alone on ∷ [])) ≡ cond b [] (key_of_it d ∷ [])
kept_keys number on d true e = refl
kept_keys number on d false e = ap (λ o. with_key o (alone on) []) e

pub named_by : (number : Numbering) (on other : Channel) (c d : ℕ) → number other ≡ Some d →
    keys_on number (without on 0 (alone other ∷ [])) ≡ key_without c 0 (keys_on number (alone other ∷ [])) → same_channel on other ≡ (d == c)
named_by number on other c d e h =
    goes_both (same_channel on other) (d == c) (key_of_it d)
    (sym (kept_keys number other d (same_channel on other) e) ∙ h ∙ ap (λ o. key_without c 0 (with_key o (alone other) [])) e)

-- 3. The three numberings

module _ (t : Network) (lawful : IsLawful t) where
  pub notice_named : (l node : ℕ) → l < length t.links → node < length t.loopbacks → (other : Channel) → IsThere t other →
      same_channel (Notices l node) other ≡ is_number (l * length t.loopbacks + node) (of_notices (length t.loopbacks) other)
  notice_named l node h g (Notices k m) i =
      named_by (of_notices (length t.loopbacks)) (Notices l node) (Notices k m) (l * length t.loopbacks + node) (k * length t.loopbacks + m) refl
      (notices_left t (Learn (record { 0 = node }) (record { 0 = l })) (alone (Notices k m) ∷ [])
      (and_on (nat_lt node (length t.loopbacks)) (nat_lt l (length t.links)) (less_is node (length t.loopbacks) g) (less_is l (length t.links) h)) (i, tt))
  notice_named l node h g (Messages k m) i = refl
  notice_named l node h g (Routes k m) i = refl
  notice_named l node h g (Frames k m) i = refl

  pub message_named : (l : ℕ) (d : Dir) → l < length t.links → (other : Channel) → IsThere t other →
      same_channel (Messages l (sender (wiring_of t) l d)) other ≡ is_number (channel l d) (of_messages t other)
  message_named l d h (Messages k m) i =
      named_by (of_messages t) (Messages l (sender (wiring_of t) l d)) (Messages k m) (channel l d) _ refl
      (messages_left t (HearLdp (record { 0 = l }) d) (alone (Messages k m) ∷ []) lawful (less_is l (length t.links) h) (i, tt))
  message_named l d h (Notices k m) i = refl
  message_named l d h (Routes k m) i = refl
  message_named l d h (Frames k m) i = refl

  pub route_named : (a b : ℕ) → a < length t.loopbacks → b < length t.loopbacks → (other : Channel) → IsThere t other →
      same_channel (Routes a b) other ≡ is_number (a * length t.loopbacks + b) (of_routes (length t.loopbacks) other)
  route_named a b h g (Routes k m) i =
      named_by (of_routes (length t.loopbacks)) (Routes a b) (Routes k m) (a * length t.loopbacks + b) (k * length t.loopbacks + m) refl
      (routes_left t (HearBgp (record { 0 = a }) (record { 0 = b })) (alone (Routes k m) ∷ []) (h, g) (i, tt))
  route_named a b h g (Notices k m) i = refl
  route_named a b h g (Messages k m) i = refl
  route_named a b h g (Frames k m) i = refl

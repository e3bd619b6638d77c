-- What a node says as its knowledge changes is what has become of its offers.
use Rattle.std.proofs.Common.{ℕ, zero, suc, ◌≡◌, ◌+◌, ◌<◌, inl, inr, Bool, true, false, List, [], ◌∷◌, map, length, refl, arith, sym, ◌∙◌, ap, subst}
use Rattle.std.specs.Prelude.{◌==◌, ◌&&◌, if◌then◌else◌, slice_index_or}
use Rattle.std.specs.List.{flat_map, range_with_len}
use Rattle.mn_base.proofs.Bools.{no, none_below, same_numbers, same_test}
use Rattle.mn_wiring.specs.Wiring.{Wiring, nodes_of, links_of, links_at, joining, is_end, across}
use Rattle.mn_base.proofs.Members.{flat_map_in, map_in, range_in}
use Rattle.mn_ledger.specs.Ldp.{Message, Initialization, KeepAlive, Address, Mapping, Withdraw, Release, Said, said_on, Knowledge, is_operational, offers}
use Rattle.mn_ledger.specs.Ldp.{offered, mention, by_neighbour, mentioned_on, mentioned_from, news}
use Rattle.mn_ledger.proofs.Members.{In, in_append, in_front, in_rest, in_map, in_filter, filter_in, in_flat_map, in_range, in_contained, contained_in}
use Rattle.mn_ledger_laws.specs.Mentions.{had_offered, IsNewsOf, IsLinkOf, SaysItsNews}
use Rattle.mn_ledger_laws.proofs.Holding.{length_range}

-- 1. Lists

at_range : {A : Type 0} (f : ℕ → A) (a n i : ℕ) (d : A) → i < n → slice_index_or (map f (range_with_len a n)) i d ≡ f (a + i)
at_range f a zero i d h = absurd (none_below i h)
at_range f a (suc n) zero d h = ap f (none a)
  where
    none : (a : ℕ) → a ≡ a + 0
    none a = omega arith
at_range f a (suc n) (suc i) d h = at_range f (a + 1) n i d (omega (arith, h)) ∙ ap f (next a i)
  where
    next : (a i : ℕ) → a + 1 + i ≡ a + suc i
    next a i = omega arith

-- 2. A node's links

links_in : (w : Wiring) (node l : ℕ) → In (by_neighbour w node) l → IsLinkOf w node l
links_in w node l i =
    let m = in_flat_map (joining w node) (nodes_of w) l i in
    let j = in_filter (λ k. across w k node == m.0) (links_at w node) l m.2 in
    let a = in_filter (λ k. is_end w k node) (links_of w) l j.0 in
    record {
      there = omega (arith, (in_range 0 (length w.ends) l a.0).1);
      at_node = a.1;
      other = subst (λ n. n < length w.loopbacks) (sym (same_numbers (across w l node) m.0 j.1)) (omega (arith, (in_range 0 (length w.loopbacks) m.0 m.1).1));
    }

in_links : (w : Wiring) (node l : ℕ) → IsLinkOf w node l → In (by_neighbour w node) l
in_links w node l h =
    flat_map_in (joining w node) (nodes_of w) (across w l node) l (range_in 0 (length w.loopbacks) (across w l node) (omega arith) (omega (arith, h.other)))
    (filter_in (λ k. across w k node == across w l node) (links_at w node) l
    (filter_in (λ k. is_end w k node) (links_of w) l (range_in 0 (length w.ends) l (omega arith) (omega (arith, h.there))) h.at_node)
    (same_test (across w l node)))

-- 3. One FEC on one link

-- what is sent of a FEC by what was and is offered
IsMention : Bool → Bool → ℕ → Message → Type 0
IsMention was is fec (Mapping f) = (f ≡ fec) × (is ≡ true) × (was ≡ false)
IsMention was is fec (Withdraw f) = (f ≡ fec) × (is ≡ false) × (was ≡ true)
IsMention was is fec _ = ⊥

in_mention : (was is : Bool) (fec : ℕ) (m : Message) → In (mention was is fec) m → IsMention was is fec m
unfolding IsMention
in_mention true true fec m i = absurd i
in_mention false false fec m i = absurd i
in_mention false true fec m i = elim i [ inl e ↦ subst (IsMention false true fec) e (refl, refl, refl) | inr z ↦ absurd z ]
in_mention true false fec m i = elim i [ inl e ↦ subst (IsMention true false fec) e (refl, refl, refl) | inr z ↦ absurd z ]

mention_in : (was is : Bool) (fec : ℕ) (m : Message) → IsMention was is fec m → In (mention was is fec) m
unfolding IsMention
mention_in false true fec (Mapping f) h = inl (ap Mapping (sym h.0))
mention_in true true fec (Mapping f) h = absurd (no (sym h.2))
mention_in true false fec (Mapping f) h = absurd (no h.1)
mention_in false false fec (Mapping f) h = absurd (no h.1)
mention_in true false fec (Withdraw f) h = inl (ap Withdraw (sym h.0))
mention_in true true fec (Withdraw f) h = absurd (no (sym h.1))
mention_in false true fec (Withdraw f) h = absurd (no (sym h.1))
mention_in false false fec (Withdraw f) h = absurd (no h.2)
mention_in was is fec Initialization h = absurd h
mention_in was is fec KeepAlive h = absurd h
mention_in was is fec Address h = absurd h
mention_in was is fec (Release f) h = absurd h

-- one saying, of a link, a FEC and what was and is offered
record IsSaidOn (before later : Knowledge) (node fec : ℕ) (was is : Bool) (l : ℕ) (x : Said) : Type 0 where
  pub link : x.link ≡ l
  pub by : x.end ≡ node
  pub operational : is_operational later l ≡ true
  pub mention : IsMention (is_operational before l && was) is fec x.message

on_link : (before later : Knowledge) (node fec : ℕ) (was is : Bool) (l : ℕ) (x : Said) → In (mentioned_on before later node fec was is l) x
    → IsSaidOn before later node fec was is l x
on_link before later node fec was is l x i = by_test (is_operational later l) refl i
  where
    by_test : (b : Bool) → is_operational later l ≡ b → In (if b then said_on l node (mention (is_operational before l && was) is fec) else []) x
        → IsSaidOn before later node fec was is l x
    by_test true e j =
        let m = in_map (λ message. record { link = l; end = node; message = message }) (mention (is_operational before l && was) is fec) x j in
        record {
          link = ap (λ (y : Said). y.link) (sym m.2);
          by = ap (λ (y : Said). y.end) (sym m.2);
          operational = e;
          mention = subst (λ (y : Said). IsMention (is_operational before l && was) is fec y.message) m.2
              (in_mention (is_operational before l && was) is fec m.0 m.1);
        }
    by_test false e j = absurd j

link_on : (before later : Knowledge) (node fec : ℕ) (was is : Bool) (l : ℕ) (m : Message) → is_operational later l ≡ true
    → IsMention (is_operational before l && was) is fec m
    → In (mentioned_on before later node fec was is l) (record { link = l; end = node; message = m })
link_on before later node fec was is l m h g =
    subst (λ b. In (if b then said_on l node (mention (is_operational before l && was) is fec) else []) (record { link = l; end = node; message = m })) (sym h)
    (map_in (λ message. record { link = l; end = node; message = message }) (mention (is_operational before l && was) is fec) m
    (mention_in (is_operational before l && was) is fec m g))

-- 4. All FECs

record IsSaidFrom (before later : Knowledge) (node : ℕ) (ls : List ℕ) (fec : ℕ) (weres ares : List Bool) (x : Said) : Type 0 where
  pub place : ℕ
  pub within : place < length ares
  pub on : ℕ
  pub among : In ls on
  pub said : IsSaidOn before later node (fec + place) (slice_index_or weres place false) (slice_index_or ares place false) on x

from_list : (before later : Knowledge) (node : ℕ) (ls : List ℕ) (fec : ℕ) (weres ares : List Bool) (x : Said)
    → In (mentioned_from before later node ls fec weres ares) x → IsSaidFrom before later node ls fec weres ares x
from_list before later node ls fec [] ares x i = absurd i
from_list before later node ls fec (was ∷ weres) [] x i = absurd i
from_list before later node ls fec (was ∷ weres)
    (is ∷ ares) x i = elim (in_append (flat_map (mentioned_on before later node fec was is) ls)
    (mentioned_from before later node ls (fec + 1) weres ares) x i) [
      | inl j ↦
          let f = in_flat_map (mentioned_on before later node fec was is) ls x j in
          record {
            place = 0;
            within = omega arith;
            on = f.0;
            among = f.1;
            said = subst (λ n. IsSaidOn before later node n was is f.0 x) (none fec)
                (on_link before later node fec was is f.0 x f.2);
          }
      | inr j ↦
          let f = from_list before later node ls (fec + 1) weres ares x j in
          record {
            place = suc f.place;
            within = omega (arith, f.within);
            on = f.on;
            among = f.among;
            said = subst
                (λ n. IsSaidOn before later node n (slice_index_or weres f.place false) (slice_index_or ares f.place false) f.on x) (next fec f.place) f.said;
          }
    ]
  where
    none : (n : ℕ) → n ≡ n + 0
    none n = omega arith

    next : (n k : ℕ) → n + 1 + k ≡ n + suc k
    next n k = omega arith

list_from : (before later : Knowledge) (node : ℕ) (ls : List ℕ) (fec : ℕ) (weres ares : List Bool) (place l : ℕ) (m : Message) → place < length weres
    → place < length ares → In ls l → is_operational later l ≡ true
    → IsMention (is_operational before l && slice_index_or weres place false) (slice_index_or ares place false) (fec + place) m
    → In (mentioned_from before later node ls fec weres ares) (record { link = l; end = node; message = m })
list_from before later node ls fec [] ares place l m h g i o k = absurd (none_below place h)
list_from before later node ls fec (was ∷ weres) [] place l m h g i o k = absurd (none_below place g)
list_from before later node ls fec (was ∷ weres) (is ∷ ares) zero l m h g i o k =
    in_front (flat_map (mentioned_on before later node fec was is) ls) (mentioned_from before later node ls (fec + 1) weres ares)
    (record { link = l; end = node; message = m })
    (flat_map_in (mentioned_on before later node fec was is) ls l (record { link = l; end = node; message = m }) i
    (link_on before later node fec was is l m o (subst (λ n. IsMention (is_operational before l && was) is n m) (none fec) k)))
  where
    none : (n : ℕ) → n + 0 ≡ n
    none n = omega arith
list_from before later node ls fec (was ∷ weres) (is ∷ ares) (suc place) l m h g i o k =
    in_rest (flat_map (mentioned_on before later node fec was is) ls) (mentioned_from before later node ls (fec + 1) weres ares)
    (record { link = l; end = node; message = m })
    (list_from before later node ls (fec + 1) weres ares place l m (omega (arith, h)) (omega (arith, g)) i o
    (subst (λ n. IsMention (is_operational before l && slice_index_or weres place false) (slice_index_or ares place false) n m) (next fec place) k))
  where
    next : (n k : ℕ) → n + suc k ≡ n + 1 + k
    next n k = omega arith

-- 5. The law

offered_at : (w : Wiring) (k : Knowledge) (node fec : ℕ) → fec < length w.loopbacks → slice_index_or (offered w k node) fec false ≡ offers w k node fec
offered_at w k node fec h = at_range (offers w k node) 0 (length w.loopbacks) fec false h ∙ ap (offers w k node) (none fec)
  where
    none : (n : ℕ) → 0 + n ≡ n
    none n = omega arith

as_news : (w : Wiring) (before later : Knowledge) (node l fec : ℕ) (m : Message) → fec < length w.loopbacks
    → IsMention (had_offered w before node l fec) (offers w later node fec) fec m → IsNewsOf w before later node l m
unfolding IsMention
as_news w before later node l fec
    (Mapping f) h k = (subst (λ n. n < length w.loopbacks) (sym k.0) h, ap (offers w later node) k.0 ∙ k.1, ap (had_offered w before node l) k.0 ∙ k.2)
as_news w before later node l fec
    (Withdraw f) h k = (subst (λ n. n < length w.loopbacks) (sym k.0) h, ap (offers w later node) k.0 ∙ k.1, ap (had_offered w before node l) k.0 ∙ k.2)
as_news w before later node l fec Initialization h k = absurd k
as_news w before later node l fec KeepAlive h k = absurd k
as_news w before later node l fec Address h k = absurd k
as_news w before later node l fec (Release f) h k = absurd k

-- the FEC of such a message
news_fec : (w : Wiring) (before later : Knowledge) (node l : ℕ) (m : Message) → IsNewsOf w before later node l m
    → (fec : ℕ) × (fec < length w.loopbacks) × IsMention (had_offered w before node l fec) (offers w later node fec) fec m
unfolding IsMention
news_fec w before later node l (Mapping f) h = (f, h.0, (refl, h.1, h.2))
news_fec w before later node l (Withdraw f) h = (f, h.0, (refl, h.1, h.2))
news_fec w before later node l Initialization h = absurd h
news_fec w before later node l KeepAlive h = absurd h
news_fec w before later node l Address h = absurd h
news_fec w before later node l (Release f) h = absurd h

-- what stands behind one saying
record IsBehind (w : Wiring) (before later : Knowledge) (node : ℕ) (x : Said) : Type 0 where
  pub by : x.end ≡ node
  pub on : IsLinkOf w node x.link
  pub operational : is_operational later x.link ≡ true
  pub is_news : IsNewsOf w before later node x.link x.message

behind : (w : Wiring) (before later : Knowledge) (node : ℕ) (x : Said) → In (news w before later node) x → IsBehind w before later node x
unfolding news
behind w before later node x i =
    let f = from_list before later node (by_neighbour w node) 0 (offered w before node) (offered w later node) x i in
    let below : f.place < length w.loopbacks = omega (arith, f.within, length_range (offers w later node) 0 (length w.loopbacks)) in
    let link : f.on ≡ x.link = sym f.said.link in
    record {
      by = f.said.by;
      on = subst (IsLinkOf w node) link (links_in w node f.on f.among);
      operational = subst (λ l. is_operational later l ≡ true) link f.said.operational;
      is_news = subst (λ l. IsNewsOf w before later node l x.message) link
          (as_news w before later node f.on f.place x.message below
          (subst (λ b. IsMention (is_operational before f.on && b) (offers w later node f.place) f.place x.message) (offered_at w before node f.place below)
          (subst (λ b. IsMention (is_operational before f.on && slice_index_or (offered w before node) f.place false) b f.place x.message)
          (offered_at w later node f.place below)
          (subst (λ n. IsMention (is_operational before f.on && slice_index_or (offered w before node) f.place false)
          (slice_index_or (offered w later node) f.place false) n x.message) (none f.place) f.said.mention))));
    }
  where
    none : (n : ℕ) → 0 + n ≡ n
    none n = omega arith

all_said : (w : Wiring) (before later : Knowledge) (node l : ℕ) (m : Message) → IsLinkOf w node l → is_operational later l ≡ true
    → IsNewsOf w before later node l m → In (news w before later node) (record { link = l; end = node; message = m })
unfolding news
all_said w before later node l m on o h =
    let f = news_fec w before later node l m h in
    list_from before later node (by_neighbour w node) 0 (offered w before node) (offered w later node) f.0 l m
    (omega (arith, f.1, length_range (offers w before node) 0 (length w.loopbacks)))
    (omega (arith, f.1, length_range (offers w later node) 0 (length w.loopbacks))) (in_links w node l on) o
    (subst (λ n. IsMention (is_operational before l && slice_index_or (offered w before node) f.0 false)
    (slice_index_or (offered w later node) f.0 false) n m) (none f.0)
    (subst (λ b. IsMention (is_operational before l && slice_index_or (offered w before node) f.0 false) b f.0 m) (sym (offered_at w later node f.0 f.1))
    (subst (λ b. IsMention (is_operational before l && b) (offers w later node f.0) f.0 m) (sym (offered_at w before node f.0 f.1)) f.2)))
  where
    none : (n : ℕ) → n ≡ 0 + n
    none n = omega arith

pub says_its_news : (w : Wiring) (before later : Knowledge) (node : ℕ) → SaysItsNews w before later node
says_its_news w before later node = record {
  by_node = λ x c. (behind w before later node x (in_contained (news w before later node) x c)).by;
  on_link = λ x c. (behind w before later node x (in_contained (news w before later node) x c)).on;
  operational = λ x c. (behind w before later node x (in_contained (news w before later node) x c)).operational;
  is_news = λ x c. (behind w before later node x (in_contained (news w before later node) x c)).is_news;
  all = λ l m on o h. contained_in (news w before later node) (record { link = l; end = node; message = m }) (all_said w before later node l m on o h);
}

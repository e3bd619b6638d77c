-- The frame that a step makes, by how many fly on each channel.
use Rattle.std.proofs.Common.{ℕ, suc, ◌≡◌, ◌+◌, Bool, true, false, cond, List, [], ◌∷◌, ◌++◌, length, refl, arith, sym, ap, ◌∙◌, inl, inr, append-nil, eqb-true}
use Rattle.std.specs.Prelude.{◌==◌}
use Rattle.mn_wiring.specs.Wiring.{link}
use Rattle.mn_wiring.specs.declared.links.Dir.{Dir}
use Rattle.mn_flight.specs.declared.Item.{Item as ItemOf}
use Rattle.mn_flight.specs.Flying.{on_channel}
use Rattle.mn_topo.specs.Network.{Network, wiring_of}
use Rattle.mn_ledger.specs.Packets.{channel}
use Rattle.mn_ledger.specs.Items.{Channel, Notices, Messages, Routes, Frames, Load, Item, same_channel, items_on, numbered}
use Rattle.mn_transit.specs.declared.flown.Flown.{Flown}
use Rattle.mn_transit.specs.Stands.{Makes}
use Rattle.mn_ledger.proofs.Directions.{one_channel}
use Rattle.mn_timetable_laws.specs.Keys.{Key, key_of, keys_in, of_frames, with_key, keys_on, keys_by}
use Rattle.mn_timetable_laws.proofs.Keys.{keys_more, keys_put}
use Rattle.mn_timetable_laws.proofs.Made.{IsOneFrame}
use Rattle.mn_timetable_laws.proofs.OtherKeys.{same_self}

abbrev pub count_on : ℕ → List Key → ℕ
count_on c keys = length (keys_by (λ n. n == c) keys)

count_both : (c : ℕ) (xs ys : List Key) → count_on c (xs ++ ys) ≡ count_on c xs + count_on c ys
count_both c [] ys = omega arith
count_both c (x ∷ xs) ys = by (x.channel == c) (count_both c xs ys)
  where
    by : (b : Bool) → count_on c (xs ++ ys) ≡ count_on c xs + count_on c ys →
        length (cond b (x ∷ keys_by (λ n. n == c) (xs ++ ys)) (keys_by (λ n. n == c) (xs ++ ys))) ≡ length
        (cond b (x ∷ keys_by (λ n. n == c) xs) (keys_by (λ n. n == c) xs)) + count_on c ys
    by true e = omega (arith, e)
    by false e = e

pub counted_in : {T : Type 0} (c : ℕ) (xs : List (ItemOf T)) → length (on_channel c xs) ≡ count_on c (keys_in xs)
counted_in c [] = refl
counted_in {T = T} c (x ∷ xs) = by (x.channel == c) (counted_in c xs)
  where
    by : (b : Bool) → length (on_channel c xs) ≡ count_on c (keys_in xs) →
        length (cond b (x ∷ on_channel c xs) (on_channel c xs)) ≡ length
        (cond b (key_of x ∷ keys_by (λ n. n == c) (keys_in xs)) (keys_by (λ n. n == c) (keys_in xs)))
    by true e = ap suc e
    by false e = e

pub counted_on : (l : ℕ) (d : Dir) (xs : List Item) → length (items_on (Frames l d) xs) ≡ count_on (channel l d) (keys_on of_frames xs)
counted_on l d [] = refl
counted_on l d (x ∷ xs) = one x.on (counted_on l d xs)
  where
    one : (on : Channel) → length (items_on (Frames l d) xs) ≡ count_on (channel l d) (keys_on of_frames xs) →
        length (cond (same_channel (Frames l d) on) (x ∷ items_on (Frames l d) xs) (items_on (Frames l d) xs)) ≡ count_on (channel l d)
        (with_key (of_frames on) x (keys_on of_frames xs))
    one (Notices k n) e = e
    one (Messages k n) e = e
    one (Routes k n) e = e
    one (Frames k f) e = by (channel k f == channel l d) e
      where
        by : (b : Bool) → length (items_on (Frames l d) xs) ≡ count_on (channel l d) (keys_on of_frames xs) →
            length (cond b (x ∷ items_on (Frames l d) xs) (items_on (Frames l d) xs)) ≡ length
            (cond b (record { channel = channel k f; due = x.due; number = x.number } ∷ keys_by (λ n. n == channel l d) (keys_on of_frames xs))
            (keys_by (λ n. n == channel l d) (keys_on of_frames xs)))
        by true e = ap suc e
        by false e = e

-- one key on a channel
pub count_own : (c : ℕ) (key : Key) → key.channel ≡ c → count_on c (key ∷ []) ≡ 1
count_own c key e = ap (λ b. length (cond b (key ∷ []) [])) (ap (λ n. n == c) e ∙ same_self c)

one_counted : (c : ℕ) (key : Key) → count_on c (key ∷ []) ≡ 1 → key.channel ≡ c
one_counted c key h = by (key.channel == c) refl h
  where
    by : (b : Bool) → (key.channel == c) ≡ b → length (cond b (key ∷ []) []) ≡ 1 → key.channel ≡ c
    by true e g = eqb-true _ _ e
    by false e g = absurd (omega (arith, g))

abbrev pub frame_key : Network → ℕ → ℕ → ℕ → Dir → Key
frame_key t tick n l d = record { channel = channel l d; due = tick + (link (wiring_of t) l).delay; number = n }

same_frame : (t : Network) (tick n l k : ℕ) (d e : Dir) → channel l d ≡ channel k e → frame_key t tick n l d ≡ frame_key t tick n k e
same_frame t tick n l k d e h = let both = one_channel l k d e h in ap (λ m. frame_key t tick n m d) both.0 ∙ ap (frame_key t tick n k) both.1

-- the keys that are made are the same, where as many stand on each channel
pub made_alike : (t : Network) (tick n : ℕ) (before after : List (ItemOf Flown)) (left : List Item) (new : List (Channel × Load)) (made : Bool) →
    IsOneFrame new → Makes t tick n before after made → keys_in before ≡ keys_on of_frames left →
    ((l : ℕ) (d : Dir) → length (on_channel (channel l d) after) ≡ length (items_on (Frames l d) (left ++ numbered t tick n new))) →
    keys_in after ≡ keys_on of_frames (left ++ numbered t tick n new)
made_alike t tick n before after left new made one makes same counts = by made one makes
  where
    more : (c : ℕ) (l : ℕ) (d : Dir) → c ≡ channel l d →
        (own other : List Key) → keys_in after ≡ keys_in before ++ own → keys_on of_frames (left ++ numbered t tick n new) ≡ keys_in before ++ other →
        count_on c own ≡ count_on c other
    more c l d e own other p q =
        let lengths = counts l d in
        let mine = counted_in (channel l d) after ∙ ap (count_on (channel l d)) p ∙ count_both (channel l d) (keys_in before) own in
        let theirs = counted_on l d (left ++ numbered t tick n new) ∙ ap (count_on (channel l d)) q ∙ count_both (channel l d) (keys_in before) other in
        ap (λ m. count_on m own) e ∙ rest (channel l d) own other (sym mine ∙ lengths ∙ theirs) ∙ sym (ap (λ m. count_on m other) e)
      where
        rest : (c : ℕ) (own other : List Key) → count_on c (keys_in before) + count_on c own ≡ count_on c (keys_in before) + count_on c other →
            count_on c own ≡ count_on c other
        rest c own other h = omega (arith, h)

    theirs : (xs : List (Channel × Load)) → new ≡ xs →
        keys_on of_frames (left ++ numbered t tick n new) ≡ keys_in before ++ keys_on of_frames (numbered t tick n xs)
    theirs xs e =
        keys_more of_frames left (numbered t tick n new) ∙ ap (λ k. k ++ keys_on of_frames (numbered t tick n new)) (sym same)
        ∙ ap (λ m. keys_in before ++ keys_on of_frames (numbered t tick n m)) e

    by : (made : Bool) → IsOneFrame new → Makes t tick n before after made → keys_in after ≡ keys_on of_frames (left ++ numbered t tick n new)
    by false (inl e) m = ap keys_in m ∙ sym (theirs [] e ∙ append-nil (keys_in before))
    by false (inr f) m =
        let mine : keys_in after ≡ keys_in before ++ [] = ap keys_in m ∙ sym (append-nil (keys_in before)) in
        let lack = more (channel f.0 f.1) f.0 f.1 refl [] (frame_key t tick n f.0 f.1 ∷ []) mine (theirs _ f.3) in
        let own = count_own (channel f.0 f.1) (frame_key t tick n f.0 f.1) refl in
        absurd (omega (arith, lack, own))
    by true (inl e) m =
        let mine : keys_in after ≡ keys_in before ++ frame_key t tick n m.0 m.1 ∷ [] = ap keys_in m.3 ∙ keys_put before _ in
        let over = more (channel m.0 m.1) m.0 m.1 refl (frame_key t tick n m.0 m.1 ∷ []) [] mine (theirs [] e) in
        let own = count_own (channel m.0 m.1) (frame_key t tick n m.0 m.1) refl in
        absurd (omega (arith, over, own))
    by true (inr f) m =
        let mine : keys_in after ≡ keys_in before ++ frame_key t tick n m.0 m.1 ∷ [] = ap keys_in m.3 ∙ keys_put before _ in
        let equal = more (channel m.0 m.1) m.0 m.1 refl (frame_key t tick n m.0 m.1 ∷ []) (frame_key t tick n f.0 f.1 ∷ []) mine (theirs _ f.3) in
        let own = count_own (channel m.0 m.1) (frame_key t tick n m.0 m.1) refl in
        let on = one_counted (channel m.0 m.1) (frame_key t tick n f.0 f.1) (sym equal ∙ own) in
        mine ∙ ap (λ k. keys_in before ++ k ∷ []) (sym (same_frame t tick n f.0 m.0 f.1 m.1 on)) ∙ sym (theirs _ f.3)

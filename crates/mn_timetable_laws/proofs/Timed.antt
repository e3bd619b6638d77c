-- What is left of each flight as time goes on, by keys.
use Rattle.std.proofs.Common.{ℕ, ◌≡◌, ◌+◌, ◌*◌, ◌<◌, ◌≤◌, Bool, true, false, not, cond, List, [], ◌∷◌, length, filter, refl, arith, sym, ap, ◌∙◌, inl, inr}
use Rattle.std.proofs.Common.{None}
use Rattle.std.specs.Prelude.{◌/◌, ◌&&◌, nat_lt}
use Rattle.mn_base.proofs.Bools.{less_is, less_tells}
use Rattle.mn_base.proofs.Members.{In, contained_in}
use Rattle.mn_base.proofs.Places.{all_filter}
use Rattle.mn_flight.specs.declared.Item.{Item as ItemOf}
use Rattle.mn_wiring.specs.Wiring.{link}
use Rattle.mn_wiring.specs.declared.links.Dir.{Dir}
use Rattle.mn_wiring.specs.declared.links.Dir.TheVariants.{Forth, Back}
use Rattle.mn_wiring.specs.declared.links.LinkEnds.{LinkEnds}
use Rattle.mn_topo.specs.Network.{Network, wiring_of}
use Rattle.mn_topo.specs.declared.steps.Step.{Step}
use Rattle.mn_topo.specs.declared.steps.Step.TheVariants.{Tick}
use Rattle.mn_ledger.specs.Packets.{channel}
use Rattle.mn_ledger.specs.Items.{Channel, Notices, Messages, Routes, Frames, Load, Notice, Says, Tells, Carries, Item, Flight, is_late, in_time_by}
use Rattle.mn_timetable_laws.specs.Keys.{Key, key_of, keys_in, Numbering, of_notices, of_messages, of_routes, of_frames, with_key, keys_on}
use Rattle.mn_timetable_laws.specs.Keys.{link_on, is_past, keys_in_time, frames_in_time, IsFrameDue, AreFramesDue, FlyInOrder}

-- 1. One key

-- two tests of the same meaning are one
pub same_less : (a b c d : ℕ) → (a < b → c < d) → (c < d → a < b) → nat_lt a b ≡ nat_lt c d
same_less a b c d f g = by (nat_lt a b) refl (nat_lt c d) refl
  where
    by : (p : Bool) → nat_lt a b ≡ p → (q : Bool) → nat_lt c d ≡ q → nat_lt a b ≡ nat_lt c d
    by true e q h = e ∙ sym (less_is c d (f (less_tells a b e)))
    by false e true h = less_is a b (g (less_tells c d h)) ∙ sym h
    by false e false h = e ∙ sym h

half-forth : (l : ℕ) → (2 * l) / 2 ≡ l
half-forth l = omega arith

half-back : (l : ℕ) → (2 * l + 1) / 2 ≡ l
half-back l = omega arith

-- a direction's channel is its link's
pub link_of_channel : (t : Network) (l : ℕ) (d : Dir) → link_on t (channel l d) ≡ link (wiring_of t) l
link_of_channel t l Forth = ap (link (wiring_of t)) (half-forth l)
link_of_channel t l Back = ap (link (wiring_of t)) (half-back l)

pub channel_there : (n l : ℕ) (d : Dir) → nat_lt l n ≡ nat_lt (channel l d) (2 * n)
channel_there n l Forth = same_less l n (2 * l) (2 * n) (λ h. omega (arith, h)) (λ h. omega (arith, h))
channel_there n l Back = same_less l n (2 * l + 1) (2 * n) (λ h. omega (arith, h)) (λ h. omega (arith, h))

-- a frame that is due as it was sent is past where its packet is overdue
pub past_due : (t : Network) (clock l sent due number : ℕ) (d : Dir) → due ≡ sent + (link (wiring_of t) l).delay →
    (nat_lt l (length t.links) && nat_lt (sent + (link (wiring_of t) l).life) clock)
    ≡ is_past t clock (record { channel = channel l d; due = due; number = number })
past_due t clock l sent due number d e =
    ap (λ b. b && nat_lt (sent + (link (wiring_of t) l).life) clock) (channel_there (length t.links) l d)
    ∙ ap (λ b. nat_lt (channel l d) (2 * length t.links) && b)
    (same_less (sent + (link (wiring_of t) l).life) clock (due + (link (wiring_of t) l).life) (clock + (link (wiring_of t) l).delay)
    (λ h. omega (arith, h, e)) (λ h. omega (arith, h, e)))
    ∙ ap (λ (ends : LinkEnds). nat_lt (channel l d) (2 * length t.links) && nat_lt (due + ends.life) (clock + ends.delay)) (sym (link_of_channel t l d))

-- 2. Frames

in_time_frames : (t : Network) (clock : ℕ) (xs : List Item) → ((x : Item) → In xs x → IsFrameDue t x.on x.load x.due) →
    keys_on of_frames (filter (λ item. not (is_late t clock item.on item.load)) xs) ≡ keys_in_time t clock (keys_on of_frames xs)
in_time_frames t clock [] h = refl
in_time_frames t clock (x ∷ xs) h = one x.on x.load refl refl (h x (inl refl)) (in_time_frames t clock xs (λ y i. h y (inr i)))
  where
    stay : List Item
    stay = filter (λ item. not (is_late t clock item.on item.load)) xs

    -- what isn't a frame stays, and has no key
    other : (on : Channel) (load : Load) → x.on ≡ on → x.load ≡ load → of_frames on ≡ None → is_late t clock on load ≡ false →
        keys_on of_frames stay ≡ keys_in_time t clock (keys_on of_frames xs) →
        keys_on of_frames (cond (not (is_late t clock x.on x.load)) (x ∷ stay) stay) ≡ keys_in_time t clock (with_key (of_frames x.on) x (keys_on of_frames xs))
    other on load p q none young e = rw (p, q, young, none) e

    frame : (b : Bool) (l : ℕ) (d : Dir) (load : Load) → x.on ≡ Frames l d → x.load ≡ load → is_late t clock (Frames l d) load ≡ b →
        is_past t clock (record { channel = channel l d; due = x.due; number = x.number }) ≡ b →
        keys_on of_frames stay ≡ keys_in_time t clock (keys_on of_frames xs) →
        keys_on of_frames (cond (not (is_late t clock x.on x.load)) (x ∷ stay) stay) ≡ keys_in_time t clock (with_key (of_frames x.on) x (keys_on of_frames xs))
    frame true l d load p q late past e = rw (p, q, late, past) e
    frame false l d load p q late past e =
        rw (p, q, late, past) (ap (λ ks. record { channel = channel l d; due = x.due; number = x.number } ∷ ks) e)

    one : (on : Channel) (load : Load) → x.on ≡ on → x.load ≡ load → IsFrameDue t x.on x.load x.due →
        keys_on of_frames stay ≡ keys_in_time t clock (keys_on of_frames xs) →
        keys_on of_frames (cond (not (is_late t clock x.on x.load)) (x ∷ stay) stay) ≡ keys_in_time t clock (with_key (of_frames x.on) x (keys_on of_frames xs))
    one (Notices l n) load p q due e = other (Notices l n) load p q refl refl e
    one (Messages l n) load p q due e = other (Messages l n) load p q refl refl e
    one (Routes l n) load p q due e = other (Routes l n) load p q refl refl e
    one (Frames l d) Notice p q due e = absurd (rw (p, q) at due)
    one (Frames l d) (Says m) p q due e = absurd (rw (p, q) at due)
    one (Frames l d) (Tells m) p q due e = absurd (rw (p, q) at due)
    one (Frames l d) (Carries token) p q due e =
        let as_sent : x.due ≡ token.sent + (link (wiring_of t) l).delay = rw (p, q) at due in
        frame (is_late t clock (Frames l d) (Carries token)) l d (Carries token) p q refl (sym (past_due t clock l token.sent x.due x.number d as_sent)) e

-- as time goes on the flight of frames keeps those that aren't past
pub frames_timed : (t : Network) (clock : ℕ) (s : Step) (f : Flight) → AreFramesDue t f.items →
    keys_on of_frames (in_time_by t clock s f).items ≡ frames_in_time t clock s (keys_on of_frames f.items)
frames_timed t clock (Tick ticks) f h = in_time_frames t clock f.items (λ x i. h x (contained_in f.items x i))
frames_timed t clock _ f h = refl

-- 3. The other flights

-- a flight of no frame keeps all
others_timed : (number : Numbering) → ((l : ℕ) (d : Dir) → number (Frames l d) ≡ None) → (t : Network) (clock : ℕ) (s : Step) (f : Flight) →
    keys_on number (in_time_by t clock s f).items ≡ keys_on number f.items
others_timed number h t clock (Tick ticks) f = all f.items
  where
    none : (on : Channel) (load : Load) → is_late t clock on load ≡ true → number on ≡ None
    none (Frames l d) load e = h l d
    none (Notices l n) load e = cc
    none (Messages l n) load e = cc
    none (Routes l n) load e = cc

    all : (xs : List Item) → keys_on number (filter (λ item. not (is_late t clock item.on item.load)) xs) ≡ keys_on number xs
    all [] = refl
    all (x ∷ xs) = one (is_late t clock x.on x.load) (none x.on x.load) (all xs)
      where
        one : (b : Bool) → (b ≡ true → number x.on ≡ None) →
            keys_on number (filter (λ item. not (is_late t clock item.on item.load)) xs) ≡ keys_on number xs →
            keys_on number (cond (not b) (x ∷ filter (λ item. not (is_late t clock item.on item.load)) xs)
            (filter (λ item. not (is_late t clock item.on item.load)) xs)) ≡ with_key (number x.on) x (keys_on number xs)
        one true g e = rw (g refl) e
        one false g e = ap (λ ks. with_key (number x.on) x ks) e
others_timed number h t clock _ f = refl

pub notices_timed : (n : ℕ) (t : Network) (clock : ℕ) (s : Step) (f : Flight) →
    keys_on (of_notices n) (in_time_by t clock s f).items ≡ keys_on (of_notices n) f.items
notices_timed n t clock s f = others_timed (of_notices n) (λ l d. refl) t clock s f

pub messages_timed : (of : Network) (t : Network) (clock : ℕ) (s : Step) (f : Flight) →
    keys_on (of_messages of) (in_time_by t clock s f).items ≡ keys_on (of_messages of) f.items
messages_timed of t clock s f = others_timed (of_messages of) (λ l d. refl) t clock s f

pub routes_timed : (n : ℕ) (t : Network) (clock : ℕ) (s : Step) (f : Flight) →
    keys_on (of_routes n) (in_time_by t clock s f).items ≡ keys_on (of_routes n) f.items
routes_timed n t clock s f = others_timed (of_routes n) (λ l d. refl) t clock s f

-- 4. A flight's side

module _ {T : Type 0} where
  -- to keep items by their keys is to keep those keys
  pub keys_kept : (p : Key → Bool) (xs : List (ItemOf T)) → keys_in (filter (λ (item : ItemOf T). p (key_of item)) xs) ≡ filter p (keys_in xs)
  keys_kept p [] = refl
  keys_kept p (x ∷ xs) = by (p (key_of x)) (keys_kept p xs)
    where
      by : (b : Bool) → keys_in (filter (λ (item : ItemOf T). p (key_of item)) xs) ≡ filter p (keys_in xs) →
          keys_in (cond b (x ∷ filter (λ (item : ItemOf T). p (key_of item)) xs) (filter (λ (item : ItemOf T). p (key_of item)) xs))
          ≡ cond b (key_of x ∷ filter p (keys_in xs)) (filter p (keys_in xs))
      by true e = ap (λ ks. key_of x ∷ ks) e
      by false e = e

-- what stays in flight flies in order
pub order_kept : (p : Key → Bool) (ks : List Key) → FlyInOrder ks → FlyInOrder (filter p ks)
order_kept p [] h = h
order_kept p (k ∷ ks) h = by (p k) (order_kept p ks h.1)
  where
    by : (b : Bool) → FlyInOrder (filter p ks) → FlyInOrder (cond b (k ∷ filter p ks) (filter p ks))
    by true e = (all_filter (λ other. other.channel ≡ k.channel → k.due ≤ other.due) p ks h.0, e)
    by false e = e

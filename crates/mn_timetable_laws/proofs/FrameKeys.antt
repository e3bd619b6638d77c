-- The numbers and due ticks of frames, through a step.
use Rattle.std.proofs.Common.{ℕ, ◌≡◌, Bool, true, false, cond, not, List, [], ◌∷◌, filter, refl, arith, sym, ap, ◌∙◌, None}
use Rattle.std.specs.Prelude.{◌==◌, ◌&&◌, ◌||◌}
use Rattle.std.proofs.lemmas.Bool.Decides.{nat_tests}
use Rattle.mn_wiring.specs.Wiring.{sender}
use Rattle.mn_wiring.specs.declared.links.Dir.{Dir}
use Rattle.mn_wiring.specs.declared.links.Dir.TheVariants.{Forth, Back}
use Rattle.mn_topo.specs.Network.{Network, wiring_of}
use Rattle.mn_topo.specs.declared.steps.Step.{Step}
use Rattle.mn_topo.specs.declared.steps.Step.TheVariants.{LinkUp, LinkDown, Learn, LdpAdmin, HearLdp, BgpUp, BgpDown, HearBgp, Carry, Lose}
use Rattle.mn_ledger.specs.Packets.{channel}
use Rattle.mn_ledger.specs.Items.{Channel, Notices, Messages, Routes, Frames, Item, same_channel, left_in_flight, is_session_of, is_over, is_between}
use Rattle.mn_timetable_laws.specs.Keys.{Key, of_frames, keys_on, keys_by, is_number, Names, Passes, Agrees, frames_leave}
use Rattle.mn_timetable_laws.proofs.Keys.{keys_taken, keys_untaken, keys_left, Strange}
use Rattle.mn_base.proofs.Bools.{no as clash}

-- 1. What leaves

pub by_all : (keys : List Key) → keys_by (λ n. true) keys ≡ keys
by_all [] = refl
by_all (k ∷ ks) = ap (λ l. k ∷ l) (by_all ks)

pub by_both : (test other : ℕ → Bool) (keys : List Key) → keys_by other (keys_by test keys) ≡ keys_by (λ n. test n && other n) keys
by_both test other [] = refl
by_both test other (k ∷ ks) = by (test k.channel) (other k.channel) refl (by_both test other ks)
  where
    by : (a b : Bool) → other k.channel ≡ b → keys_by other (keys_by test ks) ≡ keys_by (λ n. test n && other n) ks →
        keys_by other (cond a (k ∷ keys_by test ks) (keys_by test ks)) ≡ cond (a && b) (k ∷ keys_by (λ n. test n && other n) ks)
        (keys_by (λ n. test n && other n) ks)
    by true true o e = rw o (ap (λ l. k ∷ l) e)
    by true false o e = rw o e
    by false b o e = e

pub names_frames : (l : ℕ) (d : Dir) (xs : List Item) → Names of_frames (Frames l d) (channel l d) xs
names_frames l d [] = tt
names_frames l d (x ∷ xs) = (one x.on, names_frames l d xs)
  where
    one : (on : Channel) → same_channel (Frames l d) on ≡ is_number (channel l d) (of_frames on)
    one (Notices k n) = refl
    one (Messages k n) = refl
    one (Routes k n) = refl
    one (Frames k e) = refl

-- a channel of another kind
strange_frames : (on : Channel) → ((k : ℕ) (e : Dir) → same_channel on (Frames k e) ≡ false) → (xs : List Item) → Strange of_frames on xs
strange_frames on h [] = tt
strange_frames on h (x ∷ xs) = (one x.on, strange_frames on h xs)
  where
    one : (other : Channel) → same_channel on other ≡ true → of_frames other ≡ None
    one (Notices k n) g = refl
    one (Messages k n) g = refl
    one (Routes k n) g = refl
    one (Frames k e) g = absurd (clash (sym (h k e) ∙ g))

agrees_frames : (goes : Channel → Bool) (test : ℕ → Bool) → ((k : ℕ) (e : Dir) → goes (Frames k e) ≡ test (channel k e)) →
    (xs : List Item) → Agrees of_frames goes test xs
agrees_frames goes test h [] = tt
agrees_frames goes test h (x ∷ xs) = (one x.on, agrees_frames goes test h xs)
  where
    one : (on : Channel) → Passes test (goes on) (of_frames on)
    one (Notices k n) = tt
    one (Messages k n) = tt
    one (Routes k n) = tt
    one (Frames k e) = h k e

over_two : (l k : ℕ) (e : Dir) → not (l == k) ≡ (not (channel k e == channel l Forth) && not (channel k e == channel l Back))
over_two l k Forth = grind (arith, nat_tests)
over_two l k Back = grind (arith, nat_tests)

all_stay : (goes : Channel → Bool) (xs : List Item) →
    ((k : ℕ) (e : Dir) → goes (Frames k e) ≡ true) → keys_on of_frames (filter (λ item. goes item.on) xs) ≡ keys_on of_frames xs
all_stay goes xs h = keys_left of_frames goes (λ n. true) xs (agrees_frames goes (λ n. true) h xs) ∙ by_all (keys_on of_frames xs)

pub frames_left : (t : Network) (s : Step) (xs : List Item) → keys_on of_frames (left_in_flight t s xs) ≡ frames_leave s (keys_on of_frames xs)
frames_left t (Carry l d p) xs = keys_taken of_frames (Frames l.0 d) (channel l.0 d) p xs (names_frames l.0 d xs)
frames_left t (Lose l d p) xs = keys_taken of_frames (Frames l.0 d) (channel l.0 d) p xs (names_frames l.0 d xs)
frames_left t (Learn n l) xs = let on : Channel = Notices l.0 n.0 in keys_untaken of_frames on 0 xs (strange_frames on (λ k e. refl) xs)
frames_left t (HearLdp l d) xs = let on : Channel = Messages l.0 (sender (wiring_of t) l.0 d) in
    keys_untaken of_frames on 0 xs (strange_frames on (λ k e. refl) xs)
frames_left t (HearBgp a b) xs = let on : Channel = Routes a.0 b.0 in keys_untaken of_frames on 0 xs (strange_frames on (λ k e. refl) xs)
frames_left t (LinkUp l) xs = all_stay (λ on. not (is_session_of l.0 on)) xs (λ k e. refl)
frames_left t (LdpAdmin l on) xs = all_stay (λ on. not (is_session_of l.0 on)) xs (λ k e. refl)
frames_left t (BgpUp a b) xs = all_stay (λ on. not (is_between a.0 b.0 on)) xs (λ k e. refl)
frames_left t (BgpDown a b) xs = all_stay (λ on. not (is_between a.0 b.0 on)) xs (λ k e. refl)
frames_left t (LinkDown l) xs =
    keys_left of_frames (λ on. not (is_session_of l.0 on || is_over l.0 on)) (λ n. not (n == channel l.0 Forth) && not (n == channel l.0 Back)) xs
    (agrees_frames _ _ (over_two l.0) xs)
    ∙ sym (by_both (λ n. not (n == channel l.0 Forth)) (λ n. not (n == channel l.0 Back)) (keys_on of_frames xs))
frames_left t _ xs = refl

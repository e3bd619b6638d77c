-- The frame that is counted.
use Rattle.std.proofs.Common.{ℕ, zero, suc, ◌≡◌, ◌+◌, ◌*◌, ◌<◌, List, [], ◌∷◌, length, refl, arith, sym, ap, ◌∙◌, subst, Option, Some, None}
use Rattle.std.specs.Prelude.{◌==◌, ◌/◌, find, option_map, slice_index_or}
use Rattle.std.specs.List.{All}
use Rattle.mn_wiring.specs.declared.links.LinkEnds.{LinkEnds}
use Rattle.mn_wiring.specs.Wiring.{link}
use Rattle.mn_base.proofs.Bools.{none_below}
use Rattle.mn_flight.specs.declared.Item.{Item}
use Rattle.mn_flight.specs.Flying.{IsFlight}
use Rattle.mn_flight.proofs.Members.{contains_of_in, find_in}
use Rattle.mn_topo.specs.Network.{Network, wiring_of}
use Rattle.mn_net_tally.specs.Tallies.{Tally, with_frame, frame_of, after_frame}

abbrev pair_in : {T : Type 0} → Item T → ℕ × ℕ
pair_in item = (item.channel, item.number)

-- it is on a direction of the topology's links
pub on_direction : {T : Type 0} (n number : ℕ) (xs : List (Item T)) (x : Item T) → IsFlight n xs → find (λ item. item.number == number) xs ≡ Some x →
    x.channel < n
on_direction {T = T} n number xs x flight e =
    let found = find_in (λ (item : Item T). item.number == number) x xs e in
    let at = contains_of_in xs x found.1 in
    subst (λ (z : Item T). z.channel < n) at.2 (flight.on_channels at.0 x at.1)

pub half_below : (c n : ℕ) → c < 2 * n → c / 2 < n
half_below c n h = omega (arith, h)

get_other : (xs : List LinkEnds) (i : ℕ) (d e : LinkEnds) → i < length xs → slice_index_or xs i d ≡ slice_index_or xs i e
get_other [] i d e h = absurd (none_below i h)
get_other (x ∷ xs) zero d e h = refl
get_other (x ∷ xs) (suc i) d e h = get_other xs i d e (omega (arith, h))

pub loss_at : (t : Network) (l : ℕ) (found : LinkEnds) → l < length t.links → found ≡ slice_index_or t.links l found → found.loss ≡ (link (wiring_of t) l).loss
loss_at t l found h e = ap (λ (k : LinkEnds). k.loss) (e ∙ get_other t.links l found _ h)

pub counted_frame : {T : Type 0} (t : Network) (number : ℕ) (xs : List (Item T)) (x : Item T) (loss : ℕ) (tally : Tally) →
    find (λ item. item.number == number) xs ≡ Some x →
    loss ≡ (link (wiring_of t) (x.channel / 2)).loss → with_frame loss x.channel x.number tally ≡ after_frame t (frame_of number xs) tally
counted_frame {T = T} t number xs x loss tally e l =
    ap (λ n. with_frame n x.channel x.number tally) l
    ∙ ap (λ (o : Option (Item T)). after_frame t (option_map pair_in o) tally) (sym e)

pub no_frame : {T : Type 0} (t : Network) (number : ℕ) (xs : List (Item T)) (tally : Tally) → find (λ item. item.number == number) xs ≡ None →
    tally ≡ after_frame t (frame_of number xs) tally
no_frame {T = T} t number xs tally e = ap (λ (o : Option (Item T)). after_frame t (option_map pair_in o) tally) (sym e)

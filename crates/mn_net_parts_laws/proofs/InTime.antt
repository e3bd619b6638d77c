-- What time leaves as it is.
use Rattle.std.proofs.Common.{ℕ, ◌≡◌, ◌+◌, Bool, true, false, cond, not, List, [], ◌∷◌, filter, refl, ap, ◌∙◌, Option, Some, None}
use Rattle.std.specs.Prelude.{slice_get}
use Rattle.mn_drops.specs.declared.drops.Rule.TheVariants as rule
use Rattle.mn_wiring.specs.declared.links.Dir.{Dir}
use Rattle.mn_wiring.specs.declared.links.Dir.TheVariants.{Forth, Back}
use Rattle.mn_wiring.specs.Wiring.{links_of, sender}
use Rattle.mn_base.proofs.Bools.{clash}
use Rattle.mn_topo.specs.Network.{Network, wiring_of}
use Rattle.mn_topo.specs.declared.steps.Step.{Step}
use Rattle.mn_topo.specs.declared.steps.Step.TheVariants.{Tick}
use Rattle.mn_ledger.specs.Packets.{Token, Packets, flying_on, taken, fall, before_step}
use Rattle.mn_ledger.specs.Time.{is_overdue, expire_from, expire_on, expire_over, expire}
use Rattle.mn_ledger.specs.Items.{Item, Flight, is_late, in_time_by}
use Rattle.mn_timetable_laws.specs.Keys.{Key, AreThere, frames_in_time}
use Rattle.mn_net_parts_laws.specs.Stepped.{takes_time}

-- a step that takes no time leaves all
pub still_by : (t : Network) (clock : ℕ) (s : Step) (f : Flight) → takes_time s ≡ false → in_time_by t clock s f ≡ f
still_by t clock (Tick ticks) f h = absurd (clash h)
still_by t clock _ f h = refl

pub frames_still : (t : Network) (clock : ℕ) (s : Step) (keys : List Key) → takes_time s ≡ false → frames_in_time t clock s keys ≡ keys
frames_still t clock (Tick ticks) keys h = absurd (clash h)
frames_still t clock _ keys h = refl

-- no time changes how many items were made
pub made_by_then : (t : Network) (clock : ℕ) (s : Step) (f : Flight) → (in_time_by t clock s f).made ≡ f.made
made_by_then t clock (Tick ticks) f = refl
made_by_then t clock _ f = refl

-- what is left flies on channels of the topology
there_left : (t : Network) (p : Item → Bool) (xs : List Item) → AreThere t xs → AreThere t (filter p xs)
there_left t p [] h = tt
there_left t p (x ∷ xs) h = by (p x) (there_left t p xs h.1)
  where
    by : (b : Bool) → AreThere t (filter p xs) → AreThere t (cond b (x ∷ filter p xs) (filter p xs))
    by true rest = (h.0, rest)
    by false rest = rest

pub there_then : (t : Network) (clock : ℕ) (s : Step) (f : Flight) → AreThere t f.items → AreThere t (in_time_by t clock s f).items
there_then t clock (Tick ticks) f h = there_left t (λ item. not (is_late t clock item.on item.load)) f.items h
there_then t clock _ f h = h

-- it is one whether a step begins before time goes by or after it
module _ (t : Network) (clock l : ℕ) (d : Dir) where
  abbrev gone : Packets → ℕ → Option Token → Packets
  gone w place token = fall rule.Overdue (taken w l d place) (sender (wiring_of t) l d) token

  gone_begun : (w : Packets) (place : ℕ) (token : Option Token) → gone (before_step w) place token ≡ before_step (gone w place token)
  gone_begun w place None = refl
  gone_begun w place (Some token) = refl

  from_begun : (tokens : List Token) (place : ℕ) (w : Packets) →
      expire_from t clock l d place tokens (before_step w) ≡ before_step (expire_from t clock l d place tokens w)
  from_begun [] place w = refl
  from_begun (k ∷ ks) place w =
      by (is_overdue t clock l k)
      (ap (λ v. expire_from t clock l d place ks v) (gone_begun w place (slice_get (flying_on w l d) place))
      ∙ from_begun ks place (gone w place (slice_get (flying_on w l d) place)))
      (from_begun ks (place + 1) w)
    where
      by : (b : Bool) →
          expire_from t clock l d place ks (gone (before_step w) place (slice_get (flying_on w l d) place))
          ≡ before_step (expire_from t clock l d place ks (gone w place (slice_get (flying_on w l d) place))) →
          expire_from t clock l d (place + 1) ks (before_step w) ≡ before_step (expire_from t clock l d (place + 1) ks w) →
          elim b as (λ _. Packets) [
            | true ↦ expire_from t clock l d place ks (gone (before_step w) place (slice_get (flying_on w l d) place))
            | false ↦ expire_from t clock l d (place + 1) ks (before_step w)
          ]
          ≡ before_step (elim b as (λ _. Packets) [
            | true ↦ expire_from t clock l d place ks (gone w place (slice_get (flying_on w l d) place))
            | false ↦ expire_from t clock l d (place + 1) ks w
          ])
      by true e f = e
      by false e f = f

  on_begun : (w : Packets) → expire_on t clock l d (before_step w) ≡ before_step (expire_on t clock l d w)
  on_begun w = from_begun (flying_on w l d) 0 w

over_begun : (t : Network) (clock : ℕ) (ls : List ℕ) (w : Packets) → expire_over t clock ls (before_step w) ≡ before_step (expire_over t clock ls w)
over_begun t clock [] w = refl
over_begun t clock (l ∷ ls) w =
    ap (λ v. expire_over t clock ls (expire_on t clock l Back v)) (on_begun t clock l Forth w)
    ∙ ap (expire_over t clock ls) (on_begun t clock l Back (expire_on t clock l Forth w))
    ∙ over_begun t clock ls (expire_on t clock l Back (expire_on t clock l Forth w))

pub expire_begun : (t : Network) (clock : ℕ) (w : Packets) →
    expire t clock (record (before_step w) { clock = clock }) ≡ before_step (expire t clock (record w { clock = clock }))
expire_begun t clock w = over_begun t clock (links_of (wiring_of t)) (record w { clock = clock })

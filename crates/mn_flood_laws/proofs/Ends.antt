-- Links, their ends and directions.
use Rattle.std.proofs.Common.{ℕ, ◌≡◌, ◌≢◌, ◌<◌, ◌⊎◌, inl, inr, Bool, true, false, length}
use Rattle.std.proofs.Common.{refl, arith, sym, ◌∙◌, ap}
use Rattle.std.specs.Prelude.{◌==◌, not, if◌then◌else◌}
use Rattle.std.proofs.lemmas.Bool.Decides.{eqb_tells}
use Rattle.mn_base.proofs.Bools.{no, or_left, or_right, or_ways, same_numbers, same_test}
use Rattle.mn_base.proofs.Members.{In, in_filter, filter_in, in_range, range_in}
use Rattle.mn_wiring.specs.Wiring.{Wiring, View, is_up, link, is_end, links_of, links_at, sender, receiver, JoinsNodes, EndsDiffer}
use Rattle.mn_wiring.specs.declared.links.Dir.{Dir}
use Rattle.mn_wiring.specs.declared.links.Dir.TheVariants.{Forth, Back}
use Rattle.mn_flood_laws.specs.Flood.{away, up_at, others_up}

module _ (wiring : Wiring) where
  -- an end sends in one of the directions
  pub sender_ends : (l : ℕ) (dir : Dir) → is_end wiring l (sender wiring l dir) ≡ true
  sender_ends l Forth = or_left ((link wiring l).a.0 == (link wiring l).a.0) ((link wiring l).b.0 == (link wiring l).a.0) (same_test (link wiring l).a.0)
  sender_ends l Back = or_right ((link wiring l).a.0 == (link wiring l).b.0) ((link wiring l).b.0 == (link wiring l).b.0) (same_test (link wiring l).b.0)

  pub receiver_ends : (l : ℕ) (dir : Dir) → is_end wiring l (receiver wiring l dir) ≡ true
  receiver_ends l Forth = sender_ends l Back
  receiver_ends l Back = sender_ends l Forth

  away_by : (b : Bool) (l node : ℕ) → ((link wiring l).a.0 == node) ≡ b → is_end wiring l node ≡ true → sender wiring l (if b then Forth else Back) ≡ node
  away_by true l node e h = same_numbers (link wiring l).a.0 node e
  away_by false l node e h = elim (or_ways ((link wiring l).a.0 == node) ((link wiring l).b.0 == node) h) [
    | inl g ↦ absurd (no (sym e ∙ g))
    | inr g ↦ same_numbers (link wiring l).b.0 node g
  ]

  pub sends_away : (l node : ℕ) → is_end wiring l node ≡ true → sender wiring l (away wiring l node) ≡ node
  sends_away l node h = away_by ((link wiring l).a.0 == node) l node refl h

  -- which links are at a node
  pub at_node : (l node : ℕ) → l < length wiring.ends → is_end wiring l node ≡ true → In (links_at wiring node) l
  at_node l node h g = filter_in (λ k. is_end wiring k node) (links_of wiring) l (range_in 0 (length wiring.ends) l (omega arith) (omega (arith, h))) g

  pub node_at : (l node : ℕ) → In (links_at wiring node) l → (l < length wiring.ends) × (is_end wiring l node ≡ true)
  node_at l node i = let f = in_filter (λ k. is_end wiring k node) (links_of wiring) l i in (omega (arith, (in_range 0 (length wiring.ends) l f.0).1), f.1)

  pub among_others : (up : View) (l node k : ℕ) → k < length wiring.ends → is_end wiring k node ≡ true → is_up up k ≡ true → k ≢ l →
      In (others_up wiring up node l) k
  among_others up l node k h g u apart =
      filter_in (λ other. not (other == l)) (up_at wiring up node) k (filter_in (is_up up) (links_at wiring node) k (at_node k node h g) u)
      (unlike (eqb_tells k l))
    where
      unlike : (((k == l) ≡ true) × (k ≡ l)) ⊎ (((k == l) ≡ false) × (k ≢ l)) → not (k == l) ≡ true
      unlike (inl e) = absurd (apart e.1)
      unlike (inr e) = ap not e.0

  pub of_others : (up : View) (l node k : ℕ) → In (others_up wiring up node l) k →
      (k < length wiring.ends) × (is_end wiring k node ≡ true) × (is_up up k ≡ true)
  of_others up l node k i =
      let f = in_filter (λ other. not (other == l)) (up_at wiring up node) k i in
      let g = in_filter (is_up up) (links_at wiring node) k f.0 in
      let h = node_at k node g.0 in
      (h.0, h.1, g.1)

  module _ (joins : JoinsNodes wiring) (differ : EndsDiffer wiring) where
    pub sender_within : (l : ℕ) (dir : Dir) → l < length wiring.ends → sender wiring l dir < length wiring.loopbacks
    sender_within l Forth h = (joins l h).0
    sender_within l Back h = (joins l h).1

    pub receiver_within : (l : ℕ) (dir : Dir) → l < length wiring.ends → receiver wiring l dir < length wiring.loopbacks
    receiver_within l Forth h = (joins l h).1
    receiver_within l Back h = (joins l h).0

    pub apart_ends : (l : ℕ) (dir : Dir) → l < length wiring.ends → sender wiring l dir ≢ receiver wiring l dir
    apart_ends l Forth h = differ l h
    apart_ends l Back h = λ e. differ l h (sym e)

    pub away_of : (l : ℕ) (dir : Dir) → l < length wiring.ends → away wiring l (sender wiring l dir) ≡ dir
    away_of l Forth h = ap (λ b. if b then Forth else Back) (same_test (link wiring l).a.0)
    away_of l Back h = elim (eqb_tells (link wiring l).a.0 (link wiring l).b.0) [
      | inl e ↦ absurd (differ l h e.1)
      | inr e ↦ ap (λ b. if b then Forth else Back) e.0
    ]

    -- in the other direction the ends change places
    pub turned_round : (l : ℕ) (dir one : Dir) → l < length wiring.ends → sender wiring l one ≡ receiver wiring l dir →
        receiver wiring l one ≡ sender wiring l dir
    turned_round l Forth Forth h e = absurd (differ l h e)
    turned_round l Forth Back h e = refl
    turned_round l Back Forth h e = refl
    turned_round l Back Back h e = absurd (differ l h (sym e))

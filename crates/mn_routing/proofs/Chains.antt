-- An edge receives a message: one change after another.
use Rattle.std.proofs.Common.{ℕ, zero, suc, ◌≡◌, ◌<◌, true, false, List, [], ◌∷◌, length, refl, arith, sym, ◌∙◌, ap, subst, Option, Some}
use Rattle.std.proofs.Common.{None, Result, Ok, Err}
use Rattle.std.specs.Prelude.{IfOk, slice_get, slice_set, slice_index_or, option_map}
use Rattle.std.specs.List.{All}
use Rattle.std.proofs.lemmas.Option.{slice_get_within}
use Rattle.mn_flight.specs.declared.Item.{Item}
use Rattle.mn_topo.specs.Network.{Network}
use Rattle.mn_bgp_wire.specs.declared.message.BgpMessage.{BgpMessage}
use Rattle.mn_bgp_wire.specs.Grammar.{IsBgp}
use Rattle.mn_bgp_session.specs.declared.session.BgpSession.{BgpSession}
use Rattle.mn_bgp_session.specs.declared.table.BgpReply.{BgpReply}
use Rattle.mn_bgp_session.specs.Table as table
use Rattle.mn_ledger.specs.Places.{loopback}
use Rattle.mn_pe.specs.Edge.{Edge, after_message}
use Rattle.mn_pe.specs.Held.{exports_of}
use Rattle.mn_routing_laws.specs.Whole.{update_of}
use Rattle.mn_edges.specs.Changes.{working}
use Rattle.mn_routing_laws.specs.Routed.{Routed}
use Rattle.mn_edges.specs.Said.{AreSayable}
use Rattle.mn_routing_laws.specs.Doing.{HasEdge, AreLabelledIn, Puts, edge_at, edge_or_blank, with_edge, with_end, next_on, taken}
use Rattle.mn_routing_laws.specs.Doing.{channel_from, heard_in, answers_in, IsAnswered, MayHear, Hears}
use Rattle.mn_routing_laws.proofs.Opening.{taken_below}

index_set : {A : Type 0} (xs : List A) (k : ℕ) (x d : A) → k < length xs → slice_index_or (slice_set xs k x) k d ≡ x
index_set [] k x d h = absurd (let none : k < 0 → ⊥ = (λ p. omega (arith, p)) in none h)
index_set (y ∷ ys) zero x d h = refl
index_set (y ∷ ys) (suc k) x d h = index_set ys k x d (omega (arith, h))

get_set : {A : Type 0} (xs : List A) (k : ℕ) (x : A) → k < length xs → slice_get (slice_set xs k x) k ≡ Some x
get_set [] k x h = absurd (let none : k < 0 → ⊥ = (λ p. omega (arith, p)) in none h)
get_set (y ∷ ys) zero x h = refl
get_set (y ∷ ys) (suc k) x h = get_set ys k x (omega (arith, h))

length_set : {A : Type 0} (xs : List A) (k : ℕ) (x : A) → length (slice_set xs k x) ≡ length xs
length_set [] k x = refl
length_set (y ∷ ys) zero x = refl
length_set (y ∷ ys) (suc k) x = ap suc (length_set ys k x)

-- what is read of the bytes that were taken out of flight is the message that they spell
pub reads_so : (t : Network) (peer edge : ℕ) (old : Routed) (m : BgpMessage) (answer : BgpReply) (may : MayHear t old peer edge m answer)
    (taken read : List ℕ) (found : BgpMessage) → ((item : Item (List ℕ)) → next_on old (channel_from t peer edge) ≡ Some item → taken ≡ item.item) →
    read ≡ taken → ((message : BgpMessage) → IsBgp read message → found ≡ message) → found ≡ m
reads_so t peer edge old m answer may taken read found first all reads =
    reads m (subst (λ bytes. IsBgp bytes m) (sym (all ∙ first may.item may.flies)) may.spells)

-- an edge that may answer what it received, of routes as they were before it received
pub record MayAnswer (t : Network) (edge : ℕ) (old now : Routed) (reply : BgpReply) : Type 0 where
  pub has : HasEdge t now edge
  pub below : (n : ℕ) → All (λ item. item.number < n) old.messages → All (λ item. item.number < n) now.messages
  pub exports : reply.became_established ≡ true → AreSayable (exports_of (edge_at now edge))
  pub one : reply.say_keep ≡ true → reply.became_established ≡ false

module _ (t : Network) (peer edge : ℕ) (old one : Routed) (m found : BgpMessage) (answer : BgpReply) (may : MayHear t old peer edge m answer)
    (first : one ≡ taken (channel_from t peer edge) old) (read : found ≡ m) where
  has : HasEdge t old edge
  has = may.taken_by.has

  pub one_there : slice_get one.edges edge ≡ Some (Some (working (edge_at one edge)))
  one_there = subst (λ (r : Routed). slice_get r.edges edge ≡ Some (Some (working (edge_at r edge)))) (sym first) has.there

  pub one_within : edge < length one.edges
  one_within = slice_get_within one.edges edge _ one_there

  pub one_address : loopback t peer ≡ slice_index_or (edge_at one edge).loopbacks peer 0
  one_address = may.taken_by.address ∙ ap (λ (r : Routed). slice_index_or (edge_at r edge).loopbacks peer 0) (sym first)

  pub found_labels : AreLabelledIn (update_of found)
  found_labels = subst (λ x. AreLabelledIn (update_of x)) (sym read) may.taken_by.labels

  module _ (two : Routed) (second : two ≡ with_edge edge (after_message (edge_at one edge) peer (update_of found)) one) where
    abbrev heard : Edge
    heard = after_message (edge_at old edge) peer (update_of m)

    abbrev left : Routed
    left = taken (channel_from t peer edge) old

    two_is : two ≡ with_edge edge heard left
    two_is = second ∙ ap (λ (r : Routed). with_edge edge (after_message (edge_at r edge) peer (update_of found)) r) first
        ∙ ap (λ x. with_edge edge (after_message (edge_at old edge) peer (update_of x)) left) read

    within : edge < length old.edges
    within = slice_get_within old.edges edge _ has.there

    pub two_rows : edge < length two.sessions → edge < length two.sessions
    two_rows h = h

    pub answered : IsAnswered two peer edge found answer
    answered = subst (λ (r : Routed). IsAnswered r peer edge found answer) (sym two_is)
        (subst (λ x. IsAnswered (with_edge edge heard left) peer edge x answer) (sym read) (record {
          session = may.taken_by.session;
          lives =
              may.taken_by.lives;
          takes = may.taken_by.takes;
        }))

    module _ (three : Routed) (reply : BgpReply)
        (third : three ≡ with_end edge peer
        (option_map (λ session. table.after_message session found) (slice_index_or (slice_index_or two.sessions edge []) peer None)) two)
        (replies : reply ≡ answer) where
      three_is : three ≡ heard_in peer edge m left
      three_is = third
          ∙ ap (λ (r : Routed). with_end edge peer
          (option_map (λ session. table.after_message session found) (slice_index_or (slice_index_or r.sessions edge []) peer None)) r) two_is
          ∙ ap (λ x. with_end edge peer
          (option_map (λ session. table.after_message session x) (slice_index_or (slice_index_or old.sessions edge []) peer None))
          (with_edge edge heard left)) read

      edge_is : edge_at (heard_in peer edge m left) edge ≡ heard
      edge_is = ap edge_or_blank (index_set old.edges edge (Some (working heard)) None within)

      three_has : HasEdge t three edge
      three_has = subst (λ (r : Routed). HasEdge t r edge) (sym three_is) (record {
        there = get_set old.edges edge (Some (working heard)) within ∙ ap (λ e. Some (Some (working e))) (sym edge_is);
        nodes = length_set old.edges edge (Some (working heard)) ∙ has.nodes;
        rows = length_set old.sessions edge _ ∙ has.rows;
        ends = row old.sessions edge peer
            (option_map (λ session. table.after_message session m) (slice_index_or (slice_index_or old.sessions edge []) peer None)) ∙ has.ends;
      })
        where
          row : (rows : List (List (Option BgpSession))) (k j : ℕ) (x : Option BgpSession) →
              length (slice_index_or (slice_set rows k (slice_set (slice_index_or rows k []) j x)) k []) ≡ length (slice_index_or rows k [])
          row [] k j x = refl
          row (y ∷ ys) zero j x = length_set y j x
          row (y ∷ ys) (suc k) j x = row ys k j x

      three_exports : reply.became_established ≡ true → AreSayable (exports_of (edge_at three edge))
      three_exports h = subst (λ (r : Routed). AreSayable (exports_of (edge_at r edge))) (sym three_is)
          (subst (λ e. AreSayable (exports_of e)) (sym edge_is) (may.exports (ap (λ (r : BgpReply). r.became_established) (sym replies) ∙ h)))

      three_one : reply.say_keep ≡ true → reply.became_established ≡ false
      three_one h = ap (λ (r : BgpReply). r.became_established) replies ∙ may.one (ap (λ (r : BgpReply). r.say_keep) (sym replies) ∙ h)

      three_below : (n : ℕ) → All (λ item. item.number < n) old.messages → All (λ item. item.number < n) three.messages
      three_below n h =
          subst (λ (r : Routed). All (λ item. item.number < n) r.messages) (sym three_is)
          (taken_below (next_on old (channel_from t peer edge)) old.messages left.messages n refl h)

      pub may_answer : MayAnswer t edge old three reply
      may_answer = record { has = three_has; below = three_below; exports = three_exports; one = three_one }

      pub hears_so : {E : Type 0} (tick number : ℕ) (new : Routed) (r : Result ℕ E) →
          IfOk r (λ next. Puts t tick number (answers_in t edge peer reply (exports_of (edge_at three edge))) three new next)
          → IfOk r (λ next. Hears t tick number peer edge m answer old new next)
      hears_so tick number new (Err e) h = tt
      hears_so tick number new (Ok next) h =
          subst (λ e. Puts t tick number (answers_in t edge peer answer (exports_of e)) (heard_in peer edge m left) new next) edge_is
          (subst (λ a. Puts t tick number (answers_in t edge peer a (exports_of (edge_at (heard_in peer edge m left) edge)))
          (heard_in peer edge m left) new next) replies
          (subst (λ (x : Routed). Puts t tick number (answers_in t edge peer reply (exports_of (edge_at x edge))) x new next) three_is h))

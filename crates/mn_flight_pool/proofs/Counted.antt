-- The numbers of the channels' nodes, as an item comes and leaves.
use Rattle.std.proofs.Common.{◌≡◌, ◌<◌, ◌+◌, ◌-◌, ℕ, Bool, true, false, cond, List, [], ◌∷◌, ◌++◌, length, Some, refl, sym, ap, ◌∙◌, subst, arith}
use Rattle.std.proofs.Common.{length-append, get_or, get_or-set_same, get_or-set_other, eq-eqb, length-set}
use Rattle.std.specs.Prelude.{◌==◌, slice_get, slice_set}
use Rattle.std.proofs.lemmas.Bool.{eqb-true}
use Rattle.mn_base.proofs.Bools.{other_numbers}
use Rattle.mn_flight.specs.declared.Item.{Item}
use Rattle.mn_flight_pool.specs.Rings.{item_at}
use Rattle.mn_flight_pool.specs.Pool.{nodes_on, IsLinked, entered, left}
use Rattle.mn_flight_pool.specs.Whole.{IsCounted}
use Rattle.mn_flight_pool.specs.Nodes.{Node}
use Rattle.mn_flight_pool.proofs.Entered as enters
use Rattle.mn_flight_pool.proofs.Left as leaves
use Rattle.mn_flight_pool.proofs.PastDue.{Alike, nodes_alike}

module _ {T : Type 0} where
  -- one count is another number, and so is that of the nodes
  recount : (counts : List ℕ) (channels k v : ℕ) (old new : List ℕ) (before after : List (Node T)) → IsCounted counts channels old before →
      k < channels → v ≡ length (nodes_on after k new)
      → ((c : ℕ) → (k == c) ≡ false → length (nodes_on after c new) ≡ length (nodes_on before c old)) → IsCounted (slice_set counts k v) channels new after
  recount counts channels k v old new before after counted below here others = record {
    many = length-set counts k v ∙ counted.many;
    each = λ c h. by c (k == c) refl h;
  }
    where
      by : (c : ℕ) (b : Bool) → (k == c) ≡ b → c < channels → get_or (slice_set counts k v) c 0 ≡ length (nodes_on after c new)
      by c true e h =
          let same : k ≡ c = eqb-true k c e in
          let there : k < length counts = omega (arith, below, counted.many) in
          subst (λ n. get_or (slice_set counts k v) n 0 ≡ length (nodes_on after n new)) same (get_or-set_same counts k v 0 there ∙ here)
      by c false e h = get_or-set_other counts k c v 0 (λ s. other_numbers k c e (sym s)) ∙ counted.each c h ∙ sym (others c e)

  pub counted_alike : (counts : List ℕ) (channels : ℕ) (order : List ℕ) (old new : List (Node T)) → Alike old new →
      IsCounted counts channels order old → IsCounted counts channels order new
  counted_alike counts channels order old new alike counted = record {
    many = counted.many;
    each = λ c h. counted.each c h ∙ ap length (sym (nodes_alike old new alike c order));
  }

  module _ (head : ℕ) (heads free order : List ℕ) (p : ℕ) (cells : List (Node T)) (linked : IsLinked head heads (free ++ p ∷ []) order cells)
      (x : Item T) (first : ℕ) (at : slice_get heads x.channel ≡ Some first)
      (counts : List ℕ) (channels : ℕ) (counted : IsCounted counts channels order cells) (below : x.channel < channels) where
    lengths : (c : ℕ) (b : Bool) →
        (x.channel == c) ≡ b → length (nodes_on (entered first p x cells) c (order ++ p ∷ [])) ≡ length (nodes_on cells c order) + cond b 1 0
    lengths c b e =
        ap length (enters.nodes_then head heads free order p cells linked x first at c ∙ ap (λ v. nodes_on cells c order ++ cond v (p ∷ []) []) e) ∙ by b
      where
        by : (v : Bool) → length (nodes_on cells c order ++ cond v (p ∷ []) []) ≡ length (nodes_on cells c order) + cond v 1 0
        by true = length-append (nodes_on cells c order) (p ∷ [])
        by false = length-append (nodes_on cells c order) []

    pub counted_entered : IsCounted (slice_set counts x.channel (get_or counts x.channel 0 + 1)) channels (order ++ p ∷ []) (entered first p x cells)
    counted_entered =
        recount counts channels x.channel (get_or counts x.channel 0 + 1) order (order ++ p ∷ []) cells (entered first p x cells) counted below
        (ap (λ n. n + 1) (counted.each x.channel below) ∙ sym (lengths x.channel true (eq-eqb x.channel x.channel refl)))
        (λ c e. omega (arith, lengths c false e))

  module _ (head : ℕ) (heads free us : List ℕ) (p : ℕ) (vs : List ℕ) (cells : List (Node T))
      (linked : IsLinked head heads free (us ++ p ∷ vs) cells) (x : Item T) (first : ℕ) (holds : item_at cells p ≡ Some x)
      (at : slice_get heads x.channel ≡ Some first)
      (counts : List ℕ) (channels : ℕ) (counted : IsCounted counts channels (us ++ p ∷ vs) cells) (below : x.channel < channels) where
    shorter : (c : ℕ) (b : Bool) → (x.channel == c) ≡ b → length (nodes_on (left p cells) c (us ++ vs)) + cond b 1 0 ≡ length (nodes_on cells c (us ++ p ∷ vs))
    shorter c b e =
        let before =
        ap length (leaves.nodes_before head heads free us p vs cells linked x first holds at c
        ∙ ap (λ v. nodes_on cells c us ++ cond v (p ∷ nodes_on cells c vs) (nodes_on cells c vs)) e) in
        let after = ap length (leaves.nodes_then head heads free us p vs cells linked x first holds at c) in
        by b before after
      where
        by : (v : Bool) →
            length (nodes_on cells c (us ++ p ∷ vs)) ≡ length (nodes_on cells c us ++ cond v (p ∷ nodes_on cells c vs) (nodes_on cells c vs)) →
            length (nodes_on (left p cells) c (us ++ vs)) ≡ length (nodes_on cells c us ++ nodes_on cells c vs)
            → length (nodes_on (left p cells) c (us ++ vs)) + cond v 1 0 ≡ length (nodes_on cells c (us ++ p ∷ vs))
        by true f g =
            omega (arith, f, g, length-append (nodes_on cells c us) (p ∷ nodes_on cells c vs), length-append (nodes_on cells c us) (nodes_on cells c vs))
        by false f g = omega (arith, f, g)

    pub some_counted : 0 < get_or counts x.channel 0
    some_counted = omega (arith, counted.each x.channel below, shorter x.channel true (eq-eqb x.channel x.channel refl))

    pub counted_left : IsCounted (slice_set counts x.channel (get_or counts x.channel 0 - 1)) channels (us ++ vs) (left p cells)
    counted_left =
        recount counts channels x.channel (get_or counts x.channel 0 - 1) (us ++ p ∷ vs) (us ++ vs) cells (left p cells) counted below
        (omega (arith, counted.each x.channel below, shorter x.channel true (eq-eqb x.channel x.channel refl)))
        (λ c e. omega (arith, shorter c false e))

-- What a node counts of what is owed, and since when its FECs are at rest, as something happens to it.
use Rattle.std.proofs.Common.{ℕ, zero, suc, ◌≡◌, ◌≢◌, ◌+◌, ◌<◌, ◌≤◌, inl, inr, Bool, true, false, List, [], ◌∷◌, length, refl, arith, sym, ◌∙◌, ap, subst}
use Rattle.std.proofs.Common.{Option, Some, None, length-set}
use Rattle.std.specs.Prelude.{◌-◌, nat_le, replicate, slice_index_or, slice_set}
use Rattle.std.proofs.lemmas.Bool.Decides.{eqb_tells, leb_tells}
use Rattle.std.proofs.lemmas.List.{get_or-set_same, get_or-set_other, get_or_past, length-replicate}
use Rattle.mn_base.proofs.Bools.{clash, at_most_is, not_at_most_tells}
use Rattle.mn_wiring.specs.Wiring.{is_end, across}
use Rattle.mn_states.specs.declared.states.LdpState.{LdpState}
use Rattle.mn_states.specs.declared.states.LdpState.TheVariants.{Initialized, OpenSent, OpenRec, Operational}
use Rattle.mn_topo.specs.Network.{Network, wiring_of}
use Rattle.mn_topo.specs.Lawful.{IsLawful}
use Rattle.mn_node.specs.Ldp.{Message, Initialization, KeepAlive, Address, Mapping, Withdraw, Release, Said, messages_of, state_by, has_ldp_row}
use Rattle.mn_ledger.specs.World.{Sessions}
use Rattle.mn_ledger.specs.Transport.{with_said, is_active}
use Rattle.mn_ledger.specs.Turns.{IsTalk}
use Rattle.mn_releases.specs.Rests.{Resting, row_of, count_in, with_count, released}
use Rattle.mn_reuse_laws.specs.Answers.{is_release}
use Rattle.mn_reuse_laws.proofs.Answering.{Released}
use Rattle.mn_lsr.specs.Turns.{owed_for_said, rested_by_message, rested_by_end}
use Rattle.mn_transport_laws.proofs.Rows.{LeadsAlone, AllSaidBy, owed-none}
use Rattle.mn_transport_laws.proofs.Owed.{Counts, IsSame, HearsOne, next_is, counts-same, counts-said, counts-heard, counts-released, counts-opened}

-- 1. The row of a link

-- there is one where the node is OPERATIONAL, and nowhere else
abbrev pub HasCounts : Network → Sessions → ℕ → ℕ → Bool → Option (List ℕ) → Type 0
HasCounts t s l m true counted = (row : List ℕ) × (counted ≡ Some row) × Counts t s l m row
HasCounts t s l m false counted = counted ≡ None

pub row-same : (t : Network) (a b : Sessions) (l m : ℕ) (on on_then : Bool) (row row_then : Option (List ℕ)) → on_then ≡ on → IsSame t a b l m →
    row_then ≡ row →
    HasCounts t a l m on row → HasCounts t b l m on_then row_then
row-same t a b l m on true row row_then e same f h =
    let was : HasCounts t a l m true row = subst (λ o. HasCounts t a l m o row) (sym e) h in (was.0, f ∙ was.1, counts-same t a b l m was.0 same was.2)
row-same t a b l m on false row row_then e same f h = f ∙ subst (λ o. HasCounts t a l m o row) (sym e) h

pub row-none : (t : Network) (b : Sessions) (l m : ℕ) (on_then : Bool) (row_then : Option (List ℕ)) → on_then ≡ false → row_then ≡ None →
    HasCounts t b l m on_then row_then
row-none t b l m true row_then e f = cc
row-none t b l m false row_then e f = f

pub row-said : (t : Network) (k : Sessions) (xs ys : List Said) (l m : ℕ) (on : Bool) (r : Resting) → LeadsAlone (wiring_of t) m l (across (wiring_of t) l m) →
    AllSaidBy (wiring_of t) m xs → messages_of l m ys ≡ messages_of l m xs → k.heard l m ≤ length (k.said l (across (wiring_of t) l m)) →
    HasCounts t k l m on (row_of r (across (wiring_of t) l m)) →
    HasCounts t (with_said k ys) l m on (row_of (owed_for_said (wiring_of t) m r xs) (across (wiring_of t) l m))
row-said t k xs ys l m true r leads all same within h = counts-said t k xs ys l m h.0 r leads all same within h.1 h.2
row-said t k xs ys l m false r leads all same within h = owed-none (wiring_of t) m (across (wiring_of t) l m) xs r h

-- 2. Where a message is received

none-set : (rows : List (Option (List ℕ))) (k : ℕ) (x : Option (List ℕ)) → slice_index_or rows k None ≡ None → x ≡ None →
    slice_index_or (slice_set rows k x) k None ≡ None
none-set [] k x e f = refl
none-set (row ∷ rows) zero x e f = f
none-set (row ∷ rows) (suc k) x e f = none-set rows k x e f

released-none : (r : Resting) (far g tick : ℕ) → row_of r far ≡ None → row_of (released r far g tick) far ≡ None
released-none r far g tick e = none-set r.owed far _ e (ap (λ o. with_count o g (count_in o g - 1)) e)

-- before the KeepAlive that makes the session OPERATIONAL there is no row
early : (tick : ℕ) (m : Message) (st : LdpState) (far : ℕ) (r : Resting) → (st ≡ OpenRec → ⊥) → row_of r far ≡ None →
    row_of (rested_by_message tick m (Some st) far r) far ≡ None
early tick (Release g) st far r d e = released-none r far g tick e
early tick KeepAlive Initialized far r d e = e
early tick KeepAlive OpenSent far r d e = e
early tick KeepAlive OpenRec far r d e = absurd (d refl)
early tick KeepAlive Operational far r d e = e
early tick Initialization st far r d e = e
early tick Address st far r d e = e
early tick (Mapping fec) st far r d e = e
early tick (Withdraw fec) st far r d e = e

not-open : (active : Bool) → state_by active 0 ≡ OpenRec → ⊥
not-open true e = cc
not-open false e = cc

within : (rows : List (Option (List ℕ))) (k : ℕ) (row : List ℕ) → slice_index_or rows k None ≡ Some row → k < length rows
within rows k row e = elim (leb_tells (length rows) k) [ inl p ↦ absurd (none_some (sym (get_or_past rows k None p.1) ∙ e)) | inr p ↦ p.1 ]
  where
    none_some : (let o : Option (List ℕ) = None in o) ≡ Some row → ⊥
    none_some q = cc

-- and after it there is one
late : (t : Network) (a b : Sessions) (l m far tick : ℕ) (lawful : IsLawful t) (message : Message) (r : Resting) (row : List ℕ) → Released t a →
    l < length t.links → is_end (wiring_of t) l m ≡ true → HearsOne t a b l m → next_is t a l m ≡ message → row_of r far ≡ Some row → Counts t a l m row →
    HasCounts t b l m true (row_of (rested_by_message tick message (Some Operational) far r) far)
late t a b l m far tick lawful (Release g) r row free below at one is e h = (
  slice_set row g (slice_index_or row g 0 - 1),
  get_or-set_same r.owed far (with_count (row_of r far) g (count_in (row_of r far) g - 1)) None (within r.owed far row e)
      ∙ ap (λ o. with_count o g (count_in o g - 1)) e,
  counts-released t a b l m g row lawful free below at one is h,
)
late t a b l m far tick lawful KeepAlive r row free below at one is e h = (row, e, counts-heard t a b l m row one (λ p. ap (is_release p) is) h)
late t a b l m far tick lawful Initialization r row free below at one is e h = (row, e, counts-heard t a b l m row one (λ p. ap (is_release p) is) h)
late t a b l m far tick lawful Address r row free below at one is e h = (row, e, counts-heard t a b l m row one (λ p. ap (is_release p) is) h)
late t a b l m far tick lawful (Mapping fec) r row free below at one is e h = (row, e, counts-heard t a b l m row one (λ p. ap (is_release p) is) h)
late t a b l m far tick lawful (Withdraw fec) r row free below at one is e h = (row, e, counts-heard t a b l m row one (λ p. ap (is_release p) is) h)

keep_alive : (m : Message) → has_ldp_row OpenRec m ≡ true → m ≡ KeepAlive
keep_alive KeepAlive h = refl
keep_alive Initialization h = cc
keep_alive Address h = cc
keep_alive (Mapping fec) h = cc
keep_alive (Withdraw fec) h = cc
keep_alive (Release fec) h = cc

opens : (t : Network) (a b : Sessions) (l m far tick : ℕ) (lawful : IsLawful t) (message : Message) (r : Resting) → Released t a →
    l < length t.links → is_end (wiring_of t) l m ≡ true → HearsOne t a b l m → has_ldp_row OpenRec message ≡ true →
    a.said l m ≡ Initialization ∷ KeepAlive ∷ [] → far < length r.owed → length r.rested ≡ length t.loopbacks →
    HasCounts t b l m true (row_of (rested_by_message tick message (Some OpenRec) far r) far)
opens t a b l m far tick lawful message r free below at one has talk inside long =
    subst (λ x. HasCounts t b l m true (row_of (rested_by_message tick x (Some OpenRec) far r) far)) (sym (keep_alive message has)) (
      replicate (length t.loopbacks) 0,
      get_or-set_same r.owed far (Some (replicate (length r.rested) 0)) None inside ∙ ap (λ n. let o : Option (List ℕ) = Some (replicate n 0) in o) long,
      counts-opened t a b l m lawful free below at one talk,
    )

-- the row of the link on which the message comes
pub row-heard : (t : Network) (a b : Sessions) (l m tick : ℕ) (lawful : IsLawful t) (message : Message) (r : Resting) → Released t a →
    l < length t.links → is_end (wiring_of t) l m ≡ true → HearsOne t a b l m → next_is t a l m ≡ message → (heard : ℕ) → a.heard l m ≡ heard →
    has_ldp_row (state_by (is_active t l m) heard) message ≡ true → IsTalk (is_active t l m) heard (a.said l m) →
    across (wiring_of t) l m < length r.owed → length r.rested ≡ length t.loopbacks → HasCounts t a l m (nat_le 2 heard) (row_of r (across (wiring_of t) l m)) →
    HasCounts t b l m (nat_le 2 (heard + 1))
    (row_of (rested_by_message tick message (Some (state_by (is_active t l m) heard)) (across (wiring_of t) l m) r) (across (wiring_of t) l m))
row-heard t a b l m tick lawful message r free below at one is zero e has talk inside long h =
    early tick message (state_by (is_active t l m) 0) (across (wiring_of t) l m) r (not-open (is_active t l m)) h
row-heard t a b l m tick lawful message r free below at one is (suc zero) e has talk inside long h =
    opens t a b l m (across (wiring_of t) l m) tick lawful message r free below at one has (said (is_active t l m) talk) inside long
  where
    said : (active : Bool) → IsTalk active 1 (a.said l m) → a.said l m ≡ Initialization ∷ KeepAlive ∷ []
    said true g = g
    said false g = g
row-heard t a b l m tick lawful message r free below at one is (suc (suc n)) e has talk inside long h =
    subst (λ o. HasCounts t b l m o (row_of (rested_by_message tick message (Some Operational) (across (wiring_of t) l m) r) (across (wiring_of t) l m)))
    (sym (at_most_is 2 (suc (suc n) + 1) (omega arith)))
    (late t a b l m (across (wiring_of t) l m) tick lawful message r was.0 free below at one is was.1 was.2)
  where
    was : HasCounts t a l m true (row_of r (across (wiring_of t) l m))
    was = subst (λ o. HasCounts t a l m o (row_of r (across (wiring_of t) l m))) (at_most_is 2 (suc (suc n)) (omega arith)) h

-- 3. Where the session ends

pub row-closed : (t : Network) (a : Sessions) (l m tick far : ℕ) (active : Bool) (r : Resting) (heard : ℕ) → far < length r.owed →
    HasCounts t a l m (nat_le 2 heard) (row_of r far) → row_of (rested_by_end tick (Some (state_by active heard)) far r) far ≡ None
row-closed t a l m tick far true r zero inside h = h
row-closed t a l m tick far false r zero inside h = h
row-closed t a l m tick far active r (suc zero) inside h = h
row-closed t a l m tick far active r (suc (suc n)) inside h = get_or-set_same r.owed far None None inside

-- 4. Another neighbour's row stays

pub message-off : (tick : ℕ) (m : Message) (st : Option LdpState) (far other : ℕ) (r : Resting) → other ≢ far →
    row_of (rested_by_message tick m st far r) other ≡ row_of r other
message-off tick (Release g) st far other r d = get_or-set_other r.owed far other _ None d
message-off tick KeepAlive (Some OpenRec) far other r d = get_or-set_other r.owed far other _ None d
message-off tick _ _ far other r d = refl

pub end-off : (tick : ℕ) (st : Option LdpState) (far other : ℕ) (r : Resting) → other ≢ far → row_of (rested_by_end tick st far r) other ≡ row_of r other
end-off tick (Some Operational) far other r d = get_or-set_other r.owed far other _ None d
end-off tick (Some Initialized) far other r d = refl
end-off tick (Some OpenSent) far other r d = refl
end-off tick (Some OpenRec) far other r d = refl
end-off tick None far other r d = refl

-- 5. Lengths, and ticks

pub record IsLong (r next : Resting) : Type 0 where
  pub owed : length next.owed ≡ length r.owed
  pub rested : length next.rested ≡ length r.rested
  pub life : next.life ≡ r.life

pub is-same : (r : Resting) → IsLong r r
is-same r = record { owed = refl; rested = refl; life = refl }

pub message-long : (tick : ℕ) (m : Message) (st : Option LdpState) (far : ℕ) (r : Resting) → IsLong r (rested_by_message tick m st far r)
message-long tick (Release g) st far r = record { owed = length-set r.owed far _; rested = length-set r.rested g tick; life = refl }
message-long tick KeepAlive (Some OpenRec) far r = record { owed = length-set r.owed far _; rested = refl; life = refl }
message-long tick _ _ far r = is-same r

pub end-long : (tick : ℕ) (st : Option LdpState) (far : ℕ) (r : Resting) → IsLong r (rested_by_end tick st far r)
end-long tick (Some Operational) far r = record { owed = length-set r.owed far _; rested = length-replicate (length r.rested) tick; life = refl }
end-long tick (Some Initialized) far r = is-same r
end-long tick (Some OpenSent) far r = is-same r
end-long tick (Some OpenRec) far r = is-same r
end-long tick None far r = is-same r

-- a Release lays its FEC to rest
pub message-tick : (tick : ℕ) (m : Message) (st : Option LdpState) (far p : ℕ) (r : Resting) → p < length r.rested → is_release p m ≡ true →
    slice_index_or (rested_by_message tick m st far r).rested p 0 ≡ tick
message-tick tick (Release g) st far p r below h = elim (eqb_tells p g) [
  | inl e ↦ ap (λ k. slice_index_or (slice_set r.rested k tick) p 0) (sym e.1) ∙ get_or-set_same r.rested p tick 0 below
  | inr e ↦ absurd (clash (sym h ∙ e.0))
]
message-tick tick KeepAlive st far p r below h = cc
message-tick tick Initialization st far p r below h = cc
message-tick tick Address st far p r below h = cc
message-tick tick (Mapping fec) st far p r below h = cc
message-tick tick (Withdraw fec) st far p r below h = cc

-- and nothing else that is received lays any to rest
pub message-still : (tick : ℕ) (m : Message) (st : Option LdpState) (far p : ℕ) (r : Resting) → is_release p m ≡ false →
    slice_index_or (rested_by_message tick m st far r).rested p 0 ≡ slice_index_or r.rested p 0
message-still tick (Release g) st far p r h = elim (eqb_tells p g) [
  | inl e ↦ absurd (clash (sym e.0 ∙ h))
  | inr e ↦ get_or-set_other r.rested g p tick 0 e.1
]
message-still tick KeepAlive (Some OpenRec) far p r h = refl
message-still tick _ _ far p r h = refl

-- the end of a session that was OPERATIONAL lays all to rest
all-at : (n tick p : ℕ) → p < n → slice_index_or (replicate n tick) p 0 ≡ tick
all-at zero tick p h = absurd (let none : p < 0 → ⊥ = (λ q. omega (arith, q)) in none h)
all-at (suc n) tick zero h = refl
all-at (suc n) tick (suc p) h = all-at n tick p (omega (arith, h))

pub end-tick : (tick far p : ℕ) (active : Bool) (heard : ℕ) (r : Resting) → p < length r.rested → nat_le 2 heard ≡ true →
    slice_index_or (rested_by_end tick (Some (state_by active heard)) far r).rested p 0 ≡ tick
end-tick tick far p active zero r below h = cc
end-tick tick far p active (suc zero) r below h = cc
end-tick tick far p active (suc (suc n)) r below h = all-at (length r.rested) tick p below

pub end-still : (tick far p : ℕ) (active : Bool) (heard : ℕ) (r : Resting) → nat_le 2 heard ≡ false →
    slice_index_or (rested_by_end tick (Some (state_by active heard)) far r).rested p 0 ≡ slice_index_or r.rested p 0
end-still tick far p true zero r h = refl
end-still tick far p false zero r h = refl
end-still tick far p active (suc zero) r h = refl
end-still tick far p active (suc (suc n)) r h = absurd (few (not_at_most_tells 2 (suc (suc n)) h))
  where
    few : suc (suc n) < 2 → ⊥
    few g = omega (arith, g)

-- How many notices fly to a node, once a change of a link was told to all.
use Rattle.std.proofs.Common.{ℕ, zero, suc, ◌≡◌, ◌≢◌, ◌+◌, ◌*◌, ◌<◌, ◌≤◌, inl, inr, Bool, true, false, cond, List, [], ◌∷◌, ◌++◌, length, refl, arith, sym}
use Rattle.std.proofs.Common.{◌∙◌, ap}
use Rattle.std.specs.Prelude.{◌==◌}
use Rattle.std.specs.List.{range_with_len}
use Rattle.std.proofs.lemmas.Bool.Decides.{eqb_tells}
use Rattle.mn_base.proofs.Bools.{same_test, other_test}
use Rattle.mn_flight.specs.declared.Item.{Item}
use Rattle.mn_flight.specs.Flying.{on_channel}
use Rattle.mn_timetable_laws.proofs.OtherKeys.{pair_one}
use Rattle.mn_transport_laws.specs.declared.notice.Notice.{Notice}
use Rattle.mn_transport_laws.specs.Sending.{notices_to}

pub count-append : {T : Type 0} (c : ℕ) (xs ys : List (Item T)) → length (on_channel c (xs ++ ys)) ≡ length (on_channel c xs) + length (on_channel c ys)
count-append c [] ys = zero_more (length (on_channel c ys))
  where
    zero_more : (n : ℕ) → n ≡ 0 + n
    zero_more n = omega arith
count-append {T} c (x ∷ xs) ys = by (x.channel == c) (count-append c xs ys)
  where
    by : (b : Bool) → length (on_channel c (xs ++ ys)) ≡ length (on_channel c xs) + length (on_channel c ys)
        → length (cond b (x ∷ on_channel c (xs ++ ys)) (on_channel c (xs ++ ys))) ≡ length (cond b (x ∷ on_channel c xs) (on_channel c xs)) + length
        (on_channel c ys)
    by true e = omega (arith, e)
    by false e = e

one-here : (c first due number node : ℕ) (nodes : List ℕ) → (first + node == c) ≡ true
    → length (on_channel c (notices_to first due number (node ∷ nodes))) ≡ suc (length (on_channel c (notices_to first due (number + 1) nodes)))
one-here c first due number node nodes e =
    ap (λ b. length
    (cond b ((let x : Item Notice = record { channel = first + node; due = due; number = number; item = record {} } in
    x) ∷ on_channel c (notices_to first due (number + 1) nodes)) (on_channel c (notices_to first due (number + 1) nodes)))) e

one-off : (c first due number node : ℕ) (nodes : List ℕ) → (first + node == c) ≡ false
    → length (on_channel c (notices_to first due number (node ∷ nodes))) ≡ length (on_channel c (notices_to first due (number + 1) nodes))
one-off c first due number node nodes e =
    ap (λ b. length
    (cond b ((let x : Item Notice = record { channel = first + node; due = due; number = number; item = record {} } in
    x) ∷ on_channel c (notices_to first due (number + 1) nodes)) (on_channel c (notices_to first due (number + 1) nodes)))) e

-- none of these is for the node
none-told : (c first due number n q : ℕ) →
    ((k : ℕ) → q ≤ k → k < q + n → first + k ≢ c) → length (on_channel c (notices_to first due number (range_with_len q n))) ≡ 0
none-told c first due number zero q h = refl
none-told c first due number (suc n) q h =
    one-off c first due number q (range_with_len (q + 1) n) (other_test (first + q) c (h q (omega arith) (omega arith)))
    ∙ none-told c first due (number + 1) n (q + 1) (λ k low below. h k (omega (arith, low)) (omega (arith, below)))

-- one of them is
one-told : (first due number node n q : ℕ) → q ≤ node → node < q + n → length (on_channel (first + node) (notices_to first due number (range_with_len q n))) ≡ 1
one-told first due number node zero q low below = absurd (omega (arith, low, below))
one-told first due number node (suc n) q low below = elim (eqb_tells q node) [
  | inl p ↦ one-here (first + node) first due number q (range_with_len (q + 1) n) (ap (λ k. first + k == first + node) p.1 ∙ same_test (first + node))
      ∙ ap suc (none-told (first + node) first due (number + 1) n (q + 1) (λ k more less e. past q node k p.1 more e))
  | inr p ↦ one-off (first + node) first due number q (range_with_len (q + 1) n) (other_test (first + q) (first + node) (λ e. p.1 (omega (arith, e))))
      ∙ one-told first due (number + 1) node n (q + 1) (let d = p.1 in more_than q node d low) (omega (arith, below))
]
  where
    past : (q node k : ℕ) → q ≡ node → q + 1 ≤ k → first + k ≡ first + node → ⊥
    past q node k e more same = omega (arith, e, more, same)

    more_than : (q node : ℕ) → q ≢ node → q ≤ node → q + 1 ≤ node
    more_than q node d low = omega (arith, d, low)

-- the change of a link is told once to each node
pub told-here : (l nodes due number node : ℕ) → node < nodes →
    length (on_channel (l * nodes + node) (notices_to (l * nodes) due number (range_with_len 0 nodes))) ≡ 1
told-here l nodes due number node h = one-told (l * nodes) due number node nodes 0 (omega arith) (omega (arith, h))

-- and nothing of another link
pub told-off : (k l nodes due number node : ℕ) → k ≢ l → node < nodes →
    length (on_channel (k * nodes + node) (notices_to (l * nodes) due number (range_with_len 0 nodes))) ≡ 0
told-off k l nodes due number node d h =
    none-told (k * nodes + node) (l * nodes) due number nodes 0 (λ j low below e. d (sym (pair_one nodes l k j node (omega (arith, below)) h e).0))

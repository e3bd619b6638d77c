-- What flies next in a direction.
use Rattle.std.proofs.Common.{ℕ, zero, suc, ◌≡◌, ◌+◌, ◌<◌, List, [], ◌∷◌, length, map, drop, refl, arith, ◌∙◌, ap, Some}
use Rattle.std.specs.Prelude.{slice_get, slice_index_or}
use Rattle.mn_wiring.specs.Wiring.{Wiring, across}
use Rattle.mn_flight.specs.declared.Item.{Item}
use Rattle.mn_ldp_session.specs.Spelling.{SpeaksOfNode, pdu_in_network}
use Rattle.mn_topo.specs.Network.{Network, wiring_of}
use Rattle.mn_node.specs.Ldp.{Message, Initialization, KeepAlive, Address, Mapping, Withdraw, Release}
use Rattle.mn_ledger_laws.specs.Named.{NamesANode}
use Rattle.mn_transport_laws.specs.Sending.{spelled}

pub next-spelled : (w : Wiring) (g : ℕ → ℕ → ℕ) (l s id heard : ℕ) (ms : List Message) → heard < length ms
    → drop heard (spelled w g l s id ms) ≡ (pdu_in_network w l s (g s) (g (across w l s)) (id + heard) (slice_index_or ms heard Address)).bytes ∷ drop
    (heard + 1) (spelled w g l s id ms)
next-spelled w g l s id heard [] h = absurd (let none : heard < 0 → ⊥ = (λ p. omega (arith, p)) in none h)
next-spelled w g l s id zero (m ∷ ms) h = ap (λ k. (pdu_in_network w l s (g s) (g (across w l s)) k m).bytes ∷ spelled w g l s (id + 1) ms) (omega arith)
next-spelled w g l s id (suc heard) (m ∷ ms) h =
    next-spelled w g l s (id + 1) heard ms (omega (arith, h))
    ∙ ap (λ k. (pdu_in_network w l s (g s) (g (across w l s)) k (slice_index_or ms heard Address)).bytes ∷ drop (heard + 1) (spelled w g l s (id + 1) ms))
    (let e : id + 1 + heard ≡ id + suc heard = omega arith in e)
    ∙ ap (λ k. (pdu_in_network w l s (g s) (g (across w l s)) (id + suc heard) (slice_index_or ms heard Address)).bytes ∷ drop k (spelled w g l s id (m ∷ ms)))
    (let e : suc (heard + 1) ≡ suc heard + 1 = omega arith in e)

pub first-item : (items : List (Item (List ℕ))) (b : List ℕ) (bs : List (List ℕ)) → map (λ item. item.item) items ≡ b ∷ bs →
    (x : Item (List ℕ)) × (slice_get items 0 ≡ Some x) × (x.item ≡ b)
first-item [] b bs e = absurd (let no : [] ≡ b ∷ bs → ⊥ = (λ q. cc) in no e)
first-item (x ∷ xs) b bs e = (x, refl, cc)

pub speaks : (t : Network) (m : Message) → NamesANode t m → SpeaksOfNode (wiring_of t) m
speaks t Initialization h = tt
speaks t KeepAlive h = tt
speaks t Address h = tt
speaks t (Mapping fec) h = h
speaks t (Withdraw fec) h = h
speaks t (Release fec) h = h

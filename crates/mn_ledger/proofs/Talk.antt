-- What the two ends of a living LDP session have sent goes by the table, so no message comes out of turn.
use Rattle.std.proofs.Common.{ℕ, zero, suc, ◌≡◌, ◌<◌, Bool, true, false, List, [], ◌∷◌, ◌++◌, length, get_or, refl, arith, sym, ◌∙◌, ap, subst, append-nil}
use Rattle.mn_base.proofs.Bools.{none_below}
use Rattle.mn_base.proofs.Places.{all_at, all_append}
use Rattle.mn_node.specs.LdpState.TheVariants.{Operational}
use Rattle.mn_ledger.specs.World.{Message, Initialization, KeepAlive, Address, Mapping, Withdraw, Release}
use Rattle.mn_ledger.specs.Transport.{state_by, answer}
use Rattle.mn_ledger.specs.Turns.{IsLabelMessage, AreLabelMessages, IsTalk, has_ldp_row}

-- the message at this place, as the table wants it
abbrev pub IsNth : ℕ → Message → Type 0
IsNth zero x = x ≡ Initialization
IsNth (suc zero) x = x ≡ KeepAlive
IsNth (suc (suc zero)) x = x ≡ Address
IsNth (suc (suc (suc n))) x = IsLabelMessage x

full-nth : (rest : List Message) (k : ℕ) → AreLabelMessages rest → k < length (Initialization ∷ KeepAlive ∷ Address ∷ rest) →
    IsNth k (get_or (Initialization ∷ KeepAlive ∷ Address ∷ rest) k Address)
full-nth rest zero m h = refl
full-nth rest (suc zero) m h = refl
full-nth rest (suc (suc zero)) m h = refl
full-nth rest (suc (suc (suc k))) m h = all_at IsLabelMessage rest m k Address (omega (arith, h))

one-nth : (k : ℕ) → k < 1 → IsNth k (get_or (Initialization ∷ []) k Address)
one-nth zero h = refl
one-nth (suc k) h = absurd (none_below k (omega (arith, h)))

two-nth : (k : ℕ) → k < 2 → IsNth k (get_or (Initialization ∷ KeepAlive ∷ []) k Address)
two-nth zero h = refl
two-nth (suc zero) h = refl
two-nth (suc (suc k)) h = absurd (none_below k (omega (arith, h)))

-- whatever an end has sent, each message stands in its turn
pub talk-nth : (a : Bool) (j : ℕ) (xs : List Message) (k : ℕ) → IsTalk a j xs → k < length xs → IsNth k (get_or xs k Address)
talk-nth true zero xs k t h = subst (λ ys. IsNth k (get_or ys k Address)) (sym t) (one-nth k (subst (λ ys. k < length ys) t h))
talk-nth false zero xs k t h = absurd (none_below k (subst (λ ys. k < length ys) t h))
talk-nth a (suc zero) xs k t h = subst (λ ys. IsNth k (get_or ys k Address)) (sym t) (two-nth k (subst (λ ys. k < length ys) t h))
talk-nth a (suc (suc n)) xs k t h = subst (λ ys. IsNth k (get_or ys k Address)) (sym t.1) (full-nth t.0 k t.2 (subst (λ ys. k < length ys) t.1 h))

-- and has a row
pub nth-row : (a : Bool) (k : ℕ) (x : Message) → IsNth k x → has_ldp_row (state_by a k) x ≡ true
nth-row true zero x e = rw e refl
nth-row false zero x e = rw e refl
nth-row a (suc zero) x e = rw e refl
nth-row a (suc (suc zero)) x e = rw e refl
nth-row a (suc (suc (suc n))) Initialization e = absurd e
nth-row a (suc (suc (suc n))) KeepAlive e = refl
nth-row a (suc (suc (suc n))) Address e = refl
nth-row a (suc (suc (suc n))) (Mapping p) e = refl
nth-row a (suc (suc (suc n))) (Withdraw p) e = refl
nth-row a (suc (suc (suc n))) (Release p) e = refl

-- an OPERATIONAL end answers with a mention or nothing
answer-mentions : (n : ℕ) (x : Message) → IsNth (suc (suc n)) x → AreLabelMessages (answer Operational x)
answer-mentions n Initialization e = tt
answer-mentions n KeepAlive e = tt
answer-mentions n Address e = tt
answer-mentions n (Mapping p) e = tt
answer-mentions n (Withdraw p) e = (tt, tt)
answer-mentions n (Release p) e = tt

-- the end receives the next message, answers, and says these mentions
pub talk-heard : (a : Bool) (k : ℕ) (xs : List Message) (x : Message) (ms : List Message) → IsTalk a k xs → IsNth k x →
    (k ≡ 0 → ms ≡ []) → AreLabelMessages ms → IsTalk a (suc k) (xs ++ (answer (state_by a k) x ++ ms))
talk-heard true zero xs x ms t e q m = rw (t, e, q refl) refl
talk-heard false zero xs x ms t e q m = rw (t, e, q refl) refl
talk-heard a (suc zero) xs x ms t e q m = (ms, rw (t, e) refl, m)
talk-heard a (suc (suc n)) xs x ms t e q m = (
  t.0 ++ (answer Operational x ++ ms),
  ap (λ ys. ys ++ (answer Operational x ++ ms)) t.1,
  all_append IsLabelMessage t.0 (answer Operational x ++ ms) t.2
      (all_append IsLabelMessage (answer Operational x) ms (answer-mentions n x e) m),
)

-- an end that receives nothing says only mentions, and those only where it is OPERATIONAL
pub talk-said : (a : Bool) (k : ℕ) (xs ms : List Message) → IsTalk a k xs → (k < 2 → ms ≡ []) → AreLabelMessages ms → IsTalk a k (xs ++ ms)
talk-said true zero xs ms t q m = rw (q (omega arith)) (append-nil xs ∙ t)
talk-said false zero xs ms t q m = rw (q (omega arith)) (append-nil xs ∙ t)
talk-said a (suc zero) xs ms t q m = rw (q (omega arith)) (append-nil xs ∙ t)
talk-said a (suc (suc n)) xs ms t q m = (t.0 ++ ms, ap (λ ys. ys ++ ms) t.1, all_append IsLabelMessage t.0 ms t.2 m)

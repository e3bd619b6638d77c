-- What was received from a peer, as more is sent and received.
use Rattle.std.proofs.Common.{ℕ, suc, ◌≡◌, ◌≢◌, ◌+◌, ◌<◌, ◌≤◌, inl, inr, true, List, [], ◌∷◌, ◌++◌, length, take, sym, ◌∙◌, ap, add-one, take-suc}
use Rattle.std.specs.Prelude.{◌==◌, slice_index_or, if◌then◌else◌}
use Rattle.std.proofs.lemmas.Bool.Decides.{eqb_tells}
use Rattle.std.proofs.lemmas.List.{take-append-le}
use Rattle.std.proofs.lemmas.List.Sums.{fold-append}
use Rattle.mn_topo.specs.Network.{Network}
use Rattle.mn_ledger.specs.World.{Config, Telling, Open, Peerings}
use Rattle.mn_ledger.specs.Bgp.{peers_live}
use Rattle.mn_ledger.specs.Held.{heard_of}
use Rattle.mn_bgp_spelling_laws.specs.Spelling.{Labels}
use Rattle.mn_routing_laws.specs.Standing.{says_of, heard_if, heard_from, heard_live, heard_in}

-- nobody has received more than was told
abbrev pub IsInTurn : Peerings → Type 0
IsInTurn peerings = (edge peer : ℕ) → edge ≢ peer → peerings.heard edge peer ≤ length (peerings.told peer edge)

-- 1. More is told

live_same : (t : Network) (l : Labels) (c new : Config) (p k : Peerings) (edge peer : ℕ) (more : List Telling)
    → peers_live new edge peer ≡ peers_live c edge peer → k.heard edge peer ≡ p.heard edge peer → k.told peer edge ≡ p.told peer edge ++ more →
    p.heard edge peer ≤ length (p.told peer edge)
    → heard_live t l new k edge peer ≡ heard_live t l c p edge peer
live_same t l c new p k edge peer more alive heard told turn =
    let same : heard_of k edge peer ≡ heard_of p edge peer =
    ap (λ n. take n (k.told peer edge)) heard ∙ ap (take (p.heard edge peer)) told ∙ take-append-le (p.heard edge peer) (p.told peer edge) more turn in
    ap (λ b. if b then heard_from t l peer (heard_of k edge peer) else []) alive ∙ ap (λ ms. if peers_live c edge peer then heard_from t l peer ms else []) same

pub heard_same : (t : Network) (l : Labels) (c new : Config) (p k : Peerings) (edge peer : ℕ) (more : List Telling)
    → peers_live new edge peer ≡ peers_live c edge peer → k.heard edge peer ≡ p.heard edge peer → k.told peer edge ≡ p.told peer edge ++ more →
    (edge ≢ peer → p.heard edge peer ≤ length (p.told peer edge))
    → heard_in t l new k edge peer ≡ heard_in t l c p edge peer
heard_same t l c new p k edge peer more alive heard told turn = elim (eqb_tells peer edge) [
  | inl e ↦ ap (λ b. if b then [] else heard_live t l new k edge peer) e.0 ∙ sym (ap (λ b. if b then [] else heard_live t l c p edge peer) e.0)
  | inr e ↦ ap (λ xs. if peer == edge then [] else xs) (live_same t l c new p k edge peer more alive heard told (turn (λ f. e.1 (sym f))))
]

-- 2. One more is received

take_next : {A : Type 0} (n : ℕ) (xs ys : List A) (d : A) → n < length xs → take (suc n) (xs ++ ys) ≡ take n xs ++ slice_index_or xs n d ∷ []
take_next n xs ys d h = take-append-le (suc n) xs ys h ∙ take-suc xs n d h

live_next : (t : Network) (l : Labels) (c new : Config) (p k : Peerings) (edge peer : ℕ) (more : List Telling)
    → peers_live new edge peer ≡ true → peers_live c edge peer ≡ true → k.heard edge peer ≡ p.heard edge peer + 1 →
    k.told peer edge ≡ p.told peer edge ++ more → p.heard edge peer < length (p.told peer edge)
    → heard_live t l new k edge peer ≡ heard_if (heard_live t l c p edge peer) (says_of t l peer (slice_index_or (p.told peer edge) (p.heard edge peer) Open))
live_next t l c new p k edge peer more alive was heard told below =
    let message : Telling = slice_index_or (p.told peer edge) (p.heard edge peer) Open in
    let one : heard_of k edge peer ≡ heard_of p edge peer ++ message ∷ [] =
    ap (λ n. take n (k.told peer edge)) (heard ∙ add-one (p.heard edge peer)) ∙ ap (take (suc (p.heard edge peer))) told
    ∙ take_next (p.heard edge peer) (p.told peer edge) more Open below in
    ap (λ b. if b then heard_from t l peer (heard_of k edge peer) else []) alive
    ∙ ap (heard_from t l peer) one
    ∙ fold-append (λ heard telling. heard_if heard (says_of t l peer telling)) [] (heard_of p edge peer) (message ∷ [])
    ∙ ap (λ b. heard_if (if b then heard_from t l peer (heard_of p edge peer) else []) (says_of t l peer message)) (sym was)

pub heard_next : (t : Network) (l : Labels) (c new : Config) (p k : Peerings) (edge peer : ℕ) (more : List Telling) → edge ≢ peer
    → peers_live new edge peer ≡ true → peers_live c edge peer ≡ true → k.heard edge peer ≡ p.heard edge peer + 1 →
    k.told peer edge ≡ p.told peer edge ++ more → p.heard edge peer < length (p.told peer edge)
    → heard_in t l new k edge peer ≡ heard_if (heard_in t l c p edge peer) (says_of t l peer (slice_index_or (p.told peer edge) (p.heard edge peer) Open))
heard_next t l c new p k edge peer more apart alive was heard told below = elim (eqb_tells peer edge) [
  | inl e ↦ absurd (apart (sym e.1))
  | inr e ↦ ap (λ b. if b then [] else heard_live t l new k edge peer) e.0 ∙ live_next t l c new p k edge peer more alive was heard told below
      ∙ ap (λ b. heard_if (if b then [] else heard_live t l c p edge peer) (says_of t l peer (slice_index_or (p.told peer edge) (p.heard edge peer) Open)))
      (sym e.0)
]
